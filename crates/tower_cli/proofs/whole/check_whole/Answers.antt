use Rattle.std.proofs.Common.{Option, true, false, ℕ, ap, inr, refl, sym, subst, ◌∙◌}
use Rattle.std.specs.Prelude.{IfNone, IfSome}
use Rattle.kernel_calls.specs.declared.calls.Reply.{Reply}
use Rattle.image_check.specs.Told.{verdict_on}
use Rattle.image_restore.specs.Resumed.{IsSoundWide, RefusesOffer}
use Rattle.tower_cli.proofs.WholeLemmas.{told_failing, told_sound, checked, cut_short}
use Rattle.tower_cli.proofs.whole.check_whole.Goals as goal

pub returns-then-not-sound-clause-told : goal.returns-then-not-sound-clause-told
returns-then-not-sound-clause-told g c =
    let fails = sym c.sound.ensures ∙ c.if-not-sound.true in
    let T = told_failing c.in-Ok.image c.in-Ok-check_by_ref.verdict (c.in-Ok-check_by_ref.ensures.verdict ∙ ap verdict_on c.image-2.ensures) fails in
    checked (g.F.Read.remaining c.args.file.now) (g.W.Write.contents c.args.writer.now) (g.W.Write.contents c.tell_verdict.new.writer) c.in-Ok.image c.in-Ok.ensures.encoded c.in-Ok-check_by_ref.verdict false T fails
    c.tell_verdict.result c.tell_verdict.ensures.told

pub returns-then-not-sound-clause-fault : goal.returns-then-not-sound-clause-fault
returns-then-not-sound-clause-fault g c =
    let fails = sym c.sound.ensures ∙ c.if-not-sound.true in
    let T = told_failing c.in-Ok.image c.in-Ok-check_by_ref.verdict (c.in-Ok-check_by_ref.ensures.verdict ∙ ap verdict_on c.image-2.ensures) fails in
    cut_short (g.F.Read.remaining c.args.file.now) (g.W.Write.contents c.args.writer.now) (g.W.Write.contents c.tell_verdict.new.writer) c.in-Ok.image c.in-Ok.ensures.encoded c.in-Ok-check_by_ref.verdict false T
    c.tell_verdict.result c.tell_verdict.ensures.fault

pub returns-in-None-clause-told : goal.returns-in-None-clause-told
returns-in-None-clause-told g c =
    let sound = subst (λ (x : Option (ℕ × Reply)). IfNone x (IsSoundWide c.in-Ok.image)) c.in-None.is c.in-Ok-refused_offer.ensures.sound in
    let T = told_sound c.in-Ok.image c.in-Ok-check_by_ref.verdict (c.in-Ok-check_by_ref.ensures.verdict ∙ ap verdict_on c.image-2.ensures) sound in
    checked (g.F.Read.remaining c.args.file.now) (g.W.Write.contents c.args.writer.now) (g.W.Write.contents c.tell_verdict-in-None.new.writer) c.in-Ok.image c.in-Ok.ensures.encoded c.in-Ok-check_by_ref.verdict true T
    (sym c.sound.ensures ∙ c.if-not-sound.false) c.tell_verdict-in-None.result c.tell_verdict-in-None.ensures.told

pub returns-in-None-clause-fault : goal.returns-in-None-clause-fault
returns-in-None-clause-fault g c =
    let sound = subst (λ (x : Option (ℕ × Reply)). IfNone x (IsSoundWide c.in-Ok.image)) c.in-None.is c.in-Ok-refused_offer.ensures.sound in
    let T = told_sound c.in-Ok.image c.in-Ok-check_by_ref.verdict (c.in-Ok-check_by_ref.ensures.verdict ∙ ap verdict_on c.image-2.ensures) sound in
    cut_short (g.F.Read.remaining c.args.file.now) (g.W.Write.contents c.args.writer.now) (g.W.Write.contents c.tell_verdict-in-None.new.writer) c.in-Ok.image c.in-Ok.ensures.encoded c.in-Ok-check_by_ref.verdict true T
    c.tell_verdict-in-None.result c.tell_verdict-in-None.ensures.fault

-- a front of an offer's line was written
pub returns-clause-fault : goal.returns-clause-fault
returns-clause-fault g c =
    let refuses = subst (λ (x : Option (ℕ × Reply)). IfSome x (λ offer. RefusesOffer c.in-Ok.image offer.0 offer.1)) c.in-Some.is c.in-Ok-refused_offer.ensures.refused in
    inr (refl, (c.in-Ok.image, c.in-Ok.ensures.encoded, false, _, inr (c.in-Some.offer.0, c.in-Some.offer.1, refuses, refl), c.in-Err-write_offer.ensures.err))
