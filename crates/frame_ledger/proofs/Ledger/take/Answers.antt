use Rattle.std.proofs.Common.{rules, ◌≡◌, length, sym, ap, ◌∙◌, arith}
use Rattle.std.proofs.lemmas.List.{get_or_default}
use Rattle.page_words.specs.FiniteSet as set
use Rattle.page_words.proofs.SetLemmas.{contains-removed}
use Rattle.frame_ledger.specs.declared.TheConstants.{IN_USE}
use Rattle.frame_ledger.specs.FreeFrames.{without_free}
use Rattle.frame_ledger.specs.FreeList.{seen_as, number_at}
use Rattle.frame_ledger.proofs.Chains.{none_free, some_free, head_within, head_is_free, seen_as-take, IsLedger-take}
use Rattle.frame_ledger.proofs.Ledger.take.Goals as goal

pub returns-then-frame-eq-END-clause-none : goal.returns-then-frame-eq-END-clause-none
returns-then-frame-eq-END-clause-none c =
    let none = none_free c.self.inside.places.items c.self.inside.head c.self.inside.count c.self.invariant c.if-frame-eq-END.true in
    (λ _. ap (λ l. set.len l.free) (sym c.self.view_is) ∙ none, λ _. search rules)

pub index-requires : goal.index-requires
index-requires c =
    let h = head_within c.self.inside.places.items c.self.inside.head c.self.inside.count c.self.invariant c.if-frame-eq-END.false in
    omega (arith, h.1, c.self.inside.places.ok)

pub index_mut-requires : goal.index_mut-requires
index_mut-requires c =
    let h = head_within c.self.inside.places.items c.self.inside.head c.self.inside.count c.self.invariant c.if-frame-eq-END.false in
    omega (arith, h.1, c.self.inside.places.ok)

pub invariant_of-self : goal.invariant_of-self
invariant_of-self c =
    let h = head_within c.self.inside.places.items c.self.inside.head c.self.inside.count c.self.invariant c.if-frame-eq-END.false in
    let next : c.index.result.now ≡ number_at c.self.inside.places.items c.self.inside.head = c.index.ensures ∙ get_or_default c.self.inside.places.items c.self.inside.head c.index.result.now IN_USE h.1 in
    IsLedger-take c.self.inside.places.items c.self.inside.head c.self.inside.count c.self.invariant c.index.result.now c.if-frame-eq-END.false next

pub returns-clause-taken : goal.returns-clause-taken
returns-clause-taken c = record {
  was_free = ap (λ l. set.contains l.free c.self.inside.head) (sym c.self.view_is) ∙ head_is_free c.self.inside.places.items c.self.inside.head c.self.inside.count c.self.invariant c.if-frame-eq-END.false;
  now = seen_as-take c.self.inside.places.items c.self.inside.head c.self.inside.count c.self.invariant c.if-frame-eq-END.false ∙ ap (λ l. without_free l c.self.inside.head) c.self.view_is;
}

pub returns-clause-within : goal.returns-clause-within
returns-clause-within c =
    let h = head_within c.self.inside.places.items c.self.inside.head c.self.inside.count c.self.invariant c.if-frame-eq-END.false in
    let frames : length c.self.inside.places.items ≡ c.args.self.now.frames = ap (λ l. l.frames) c.self.view_is in
    (h.0, omega (arith, h.1))

pub returns-clause-gone : goal.returns-clause-gone
returns-clause-gone c =
    ap (λ l. set.contains l.free c.self.inside.head) (seen_as-take c.self.inside.places.items c.self.inside.head c.self.inside.count c.self.invariant c.if-frame-eq-END.false)
    ∙ contains-removed (seen_as c.self.inside.places.items).free c.self.inside.head

pub returns-clause-none : goal.returns-clause-none
returns-clause-none c =
    let some = some_free c.self.inside.places.items c.self.inside.head c.self.inside.count c.self.invariant c.if-frame-eq-END.false in
    (λ h. cc, λ none. absurd (some (ap (λ l. set.len l.free) c.self.view_is ∙ none)))
