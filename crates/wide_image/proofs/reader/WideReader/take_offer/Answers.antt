use Rattle.std.proofs.Common.{◌≡◌, ℕ, ◌<◌, [], ◌∷◌, ◌++◌, length, ◌∙◌, ap, sym, subst, arith, None}
use Rattle.std.specs.Prelude.{if◌then◌else◌, slice_index}
use Rattle.memory_image.specs.Tests.{first_failing}
use Rattle.wide_image.specs.Pieces.{Begun, IsBegun, place_of, next_rank, offer_piece}
use Rattle.wide_image.specs.Reading.{offer_at}
use Rattle.wide_image.proofs.Pieces.{rank_end, begun_offer}
use Rattle.wide_image.proofs.reader.WideReader.take_offer.Goals as goal

pub invariant_of-self : goal.invariant_of-self
invariant_of-self c =
    let b : Begun = record { front = c.self.inside.front; offers = c.self.inside.offers.items; roles = c.self.inside.roles.items; bytes = c.self.inside.bytes.items } in
    let small : (i : ℕ) → slice_index c.args.piece.now i < 256 = λ i. omega (arith, c.type_inv.piece i) in
    let more = subst (λ (x : Begun). length x.offers < x.front.offers) (sym c.self.view_is) c.requires.wanted in
    let passes = subst (λ (x : Begun). first_failing (offer_piece c.args.piece.now (next_rank 0 x.offers) (place_of x)) ≡ None) (sym c.self.view_is) c.requires.passed in
    let offers = c.add_offer-added.ensures ∙ ap (λ t. if t then c.self.inside.offers.items ++ offer_at c.args.piece.now 0 ∷ [] else c.self.inside.offers.items) c.if-added.true in
    record {
      begun = subst IsBegun (sym (λ i. record { front = c.self.inside.front; offers = offers i; roles = c.self.inside.roles.items; bytes = c.self.inside.bytes.items }))
          (begun_offer b c.self.invariant.begun c.args.piece.now small c.requires.long more passes);
      after = c.rank_after-self-inside.ensures ∙ sym (rank_end 0 c.self.inside.offers.items (offer_at c.args.piece.now 0)) ∙ sym (ap (next_rank 0) offers);
      count = c.self.invariant.count;
      roles_fit = c.self.invariant.roles_fit;
      bytes_fit = c.self.invariant.bytes_fit;
    }
