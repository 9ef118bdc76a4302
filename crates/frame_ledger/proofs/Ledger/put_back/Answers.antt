use Rattle.std.proofs.Common.{◌≡◌, false, length, ap, ◌∙◌, arith}
use Rattle.page_words.specs.FiniteSet as set
use Rattle.frame_ledger.specs.FreeFrames.{with_free}
use Rattle.frame_ledger.specs.FreeList.{seen_as}
use Rattle.frame_ledger.proofs.Chains.{count_within, seen_as-put_back, IsLedger-put_back}
use Rattle.frame_ledger.proofs.Ledger.put_back.Goals as goal

pub overflow_add-self : goal.overflow_add-self
overflow_add-self c =
    omega (arith, count_within c.self.inside.places.items c.self.inside.head c.self.inside.count c.self.invariant)

pub invariant_of-self : goal.invariant_of-self
invariant_of-self c =
    let frames : length c.self.inside.places.items ≡ c.args.self.now.frames = ap (λ l. l.frames) c.self.view_is in
    let is : c.frame.inside.0 ≡ c.args.frame = c.frame.view_is in
    let in_use : set.contains (seen_as c.self.inside.places.items).free c.frame.inside.0 ≡ false = (λ i. set.contains (c.self.view_is i).free (is i)) ∙ c.requires.in_use in
    IsLedger-put_back c.self.inside.places.items c.self.inside.head c.self.inside.count c.self.invariant c.frame.inside.0 (omega (arith, c.requires.not_reserved)) (omega (arith, c.requires.within)) in_use

pub returns : goal.returns
returns c =
    let frames : length c.self.inside.places.items ≡ c.args.self.now.frames = ap (λ l. l.frames) c.self.view_is in
    let is : c.frame.inside.0 ≡ c.args.frame = c.frame.view_is in
    seen_as-put_back c.self.inside.places.items c.self.inside.head c.self.inside.count c.self.invariant c.frame.inside.0 (omega (arith, c.requires.within))
    ∙ (λ i. with_free (c.self.view_is i) (is i))
