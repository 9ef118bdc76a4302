use Rattle.std.proofs.Common.{ℕ, ◌+◌, ◌<◌, ◌∙◌, ap, sym, arith}
use Rattle.std.specs.Prelude.{if◌then◌else◌, slice_index}
use Rattle.wide_image.specs.Pieces.{so_far, left, with_offer}
use Rattle.wide_image.specs.Reading.{offer_at}
use Rattle.wide_image.proofs.Pieces.{offer_wanted, frame_wanted, text_offer, left_offer, text_frame, left_frame}
use Rattle.wide_image.proofs.reader.WideReader.take_passed.Goals as goal

pub returns-then-taken-clause-text : goal.returns-then-taken-clause-text
returns-then-taken-clause-text c =
    let small : (i : ℕ) → slice_index c.args.piece.now i < 256 = λ i. omega (arith, c.type_inv.piece i) in
    let w = offer_wanted c.args.self.now c.args.piece.now (sym c.wants_offer.ensures ∙ c.if-wants_offer.true) c.requires.long c.requires.passed in
    let new = c.take_offer-taken.ensures ∙ ap (λ t. if t then with_offer c.args.self.now (offer_at c.args.piece.now 0) else c.args.self.now) c.if-taken.true in
    ap so_far new ∙ text_offer c.args.self.now c.within.ensures c.args.piece.now small w.0 w.1 w.2

pub returns-then-taken-clause-left : goal.returns-then-taken-clause-left
returns-then-taken-clause-left c =
    let small : (i : ℕ) → slice_index c.args.piece.now i < 256 = λ i. omega (arith, c.type_inv.piece i) in
    let w = offer_wanted c.args.self.now c.args.piece.now (sym c.wants_offer.ensures ∙ c.if-wants_offer.true) c.requires.long c.requires.passed in
    let new = c.take_offer-taken.ensures ∙ ap (λ t. if t then with_offer c.args.self.now (offer_at c.args.piece.now 0) else c.args.self.now) c.if-taken.true in
    left_offer c.args.self.now c.within.ensures c.args.piece.now small w.0 w.1 w.2 ∙ sym (ap (λ b. left b + 1) new)

pub take_offer-taken-requires-clause-wanted : goal.take_offer-taken-requires-clause-wanted
take_offer-taken-requires-clause-wanted c = (offer_wanted c.args.self.now c.args.piece.now (sym c.wants_offer.ensures ∙ c.if-wants_offer.true) c.requires.long c.requires.passed).1

pub take_offer-taken-requires-clause-long : goal.take_offer-taken-requires-clause-long
take_offer-taken-requires-clause-long c = (offer_wanted c.args.self.now c.args.piece.now (sym c.wants_offer.ensures ∙ c.if-wants_offer.true) c.requires.long c.requires.passed).0

pub take_offer-taken-requires-clause-passed : goal.take_offer-taken-requires-clause-passed
take_offer-taken-requires-clause-passed c = (offer_wanted c.args.self.now c.args.piece.now (sym c.wants_offer.ensures ∙ c.if-wants_offer.true) c.requires.long c.requires.passed).2

pub take_frame-requires-clause-long : goal.take_frame-requires-clause-long
take_frame-requires-clause-long c = (frame_wanted c.args.self.now c.within.ensures c.args.piece.now (sym c.wants_offer.ensures ∙ c.if-wants_offer.false) c.requires.some c.requires.long c.requires.passed).0

pub take_frame-requires-clause-offers : goal.take_frame-requires-clause-offers
take_frame-requires-clause-offers c = (frame_wanted c.args.self.now c.within.ensures c.args.piece.now (sym c.wants_offer.ensures ∙ c.if-wants_offer.false) c.requires.some c.requires.long c.requires.passed).1

pub take_frame-requires-clause-wanted : goal.take_frame-requires-clause-wanted
take_frame-requires-clause-wanted c = (frame_wanted c.args.self.now c.within.ensures c.args.piece.now (sym c.wants_offer.ensures ∙ c.if-wants_offer.false) c.requires.some c.requires.long c.requires.passed).2

pub take_frame-requires-clause-passed : goal.take_frame-requires-clause-passed
take_frame-requires-clause-passed c = (frame_wanted c.args.self.now c.within.ensures c.args.piece.now (sym c.wants_offer.ensures ∙ c.if-wants_offer.false) c.requires.some c.requires.long c.requires.passed).3

pub returns-clause-text : goal.returns-clause-text
returns-clause-text c =
    let small : (i : ℕ) → slice_index c.args.piece.now i < 256 = λ i. omega (arith, c.type_inv.piece i) in
    let w = frame_wanted c.args.self.now c.within.ensures c.args.piece.now (sym c.wants_offer.ensures ∙ c.if-wants_offer.false) c.requires.some c.requires.long c.requires.passed in
    ap so_far c.take_frame.ensures ∙ text_frame c.args.self.now c.within.ensures c.args.piece.now small w.0 w.1 w.2 w.3

pub returns-clause-left : goal.returns-clause-left
returns-clause-left c =
    let small : (i : ℕ) → slice_index c.args.piece.now i < 256 = λ i. omega (arith, c.type_inv.piece i) in
    let w = frame_wanted c.args.self.now c.within.ensures c.args.piece.now (sym c.wants_offer.ensures ∙ c.if-wants_offer.false) c.requires.some c.requires.long c.requires.passed in
    left_frame c.args.self.now c.within.ensures c.args.piece.now small w.0 w.1 w.2 w.3 ∙ sym (ap (λ b. left b + 1) c.take_frame.ensures)
