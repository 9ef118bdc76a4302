use Rattle.std.proofs.Common.{◌≡◌, ℕ, ◌<◌, List, ◌∙◌, sym, subst}
use Rattle.std.specs.Prelude.{slice_index}
use Rattle.memory_image.specs.Restored.{image_with}
use Rattle.wide_image.specs.Pieces.{Begun, so_far, wanted}
use Rattle.wide_image.specs.Wide.{IsWhole, Encodes}
use Rattle.wide_image.proofs.Pieces.{finished, finished_whole, finished_encodes}
use Rattle.wide_image.proofs.reader.WideReader.finish.Goals as goal

pub with_parts-requires : goal.with_parts-requires
with_parts-requires c =
    let b : Begun = record { front = c.self.inside.front; offers = c.self.inside.offers.items; roles = c.self.inside.roles.items; bytes = c.self.inside.bytes.items } in
    let none = subst (λ (x : Begun). wanted x ≡ 0) (sym c.self.view_is) c.requires in
    let roles = c.fill_to-filled.ensures.roles c.if-not-filled.false in
    let store = c.fill_to-filled.ensures.store c.if-not-filled.false in
    let small = subst (λ (st : List ℕ). (i : ℕ) → slice_index st i < 256) (c.deref.ensures.value ∙ store) c.are_small.ensures in
    subst IsWhole (sym (λ i. record { image = image_with c.self.inside.front.processes (roles i) (store i); offers = c.self.inside.offers.items }))
    (finished_whole b c.self.invariant.begun none small)

pub returns : goal.returns
returns c =
    let b : Begun = record { front = c.self.inside.front; offers = c.self.inside.offers.items; roles = c.self.inside.roles.items; bytes = c.self.inside.bytes.items } in
    let none = subst (λ (x : Begun). wanted x ≡ 0) (sym c.self.view_is) c.requires in
    let roles = c.fill_to-filled.ensures.roles c.if-not-filled.false in
    let store = c.fill_to-filled.ensures.store c.if-not-filled.false in
    let small = subst (λ (st : List ℕ). (i : ℕ) → slice_index st i < 256) (c.deref.ensures.value ∙ store) c.are_small.ensures in
    let path : c.with_parts.result ≡ finished b c.self.invariant.begun none = c.with_parts.ensures ∙ (λ i. record { image = image_with c.self.inside.front.processes (roles i) (store i); offers = c.self.inside.offers.items }) in
    subst (λ (x : Begun). Encodes (so_far x) c.with_parts.result) c.self.view_is
    (subst (Encodes (so_far b)) (sym path) (finished_encodes b c.self.invariant.begun none small))
