use Rattle.std.proofs.Common.{◌≡◌, ℕ, ◌+◌, ◌<◌, length, ◌∙◌, ap, sym, subst, arith, None}
use Rattle.std.specs.Prelude.{slice_index}
use Rattle.memory_image.specs.Tests.{first_failing}
use Rattle.wide_image.specs.Layout.{frames_stored}
use Rattle.wide_image.specs.Pieces.{Begun, IsBegun, place_of, frame_piece}
use Rattle.wide_image.proofs.Pieces.{begun_frame, stored_frame}
use Rattle.wide_image.proofs.reader.WideReader.take_frame.Goals as goal

pub invariant_of-self : goal.invariant_of-self
invariant_of-self c =
    let b : Begun = record { front = c.self.inside.front; offers = c.self.inside.offers.items; roles = c.self.inside.roles.items; bytes = c.self.inside.bytes.items } in
    let small : (i : ℕ) → slice_index c.args.piece.now i < 256 = λ i. omega (arith, c.type_inv.piece i) in
    let full = subst (λ (x : Begun). length x.offers ≡ x.front.offers) (sym c.self.view_is) c.requires.offers in
    let more = subst (λ (x : Begun). frames_stored x.roles < x.front.stored) (sym c.self.view_is) c.requires.wanted in
    let passes = subst (λ (x : Begun). first_failing (frame_piece c.args.piece.now x.front.frames (length x.roles) (place_of x)) ≡ None) (sym c.self.view_is) c.requires.passed in
    let roles = c.read_frame-added.ensures.roles c.if-not-added.false in
    let store = c.read_frame-added.ensures.store c.if-not-added.false in
    record {
      begun = subst IsBegun (sym (λ i. record { front = c.self.inside.front; offers = c.self.inside.offers.items; roles = roles i; bytes = store i }))
          (begun_frame b c.self.invariant.begun c.args.piece.now small c.requires.long full more passes);
      after = c.self.invariant.after;
      count = ap (λ k. k + 1) c.self.invariant.count ∙ sym (stored_frame b c.self.invariant.begun c.args.piece.now small c.requires.long full more passes) ∙ sym (ap frames_stored roles);
      roles_fit = omega (arith, c.self.invariant.roles_fit, c.read_frame-added.ensures.more.0);
      bytes_fit = omega (arith, c.self.invariant.bytes_fit, c.read_frame-added.ensures.more.1);
    }
