-- Slots that share a page do so until one is given up, and processes stay live until they exit.
use Rattle.authority_laws.proofs.Prelude.{◌≡◌, ◌≢◌, ℕ, ◌||◌, Bool, true, false, refl, sym, ap, ◌∙◌, Option, Some, None, is_some, unwrap_or, inl, inr, arith, ◌⊎◌, option_map, byte_count, touched, nat_order, same-true, get-insert, some_value, same_cases, get-remove_other, Slot, Cell, Spaces, fresh, cell_or_fresh, bytes_of, without, is_of, at_page, with_pages, all_accessed, all_stored, copied, copied-other, left, get-without, offer_key, State, is_live, child_of, accept_refusal, fork_refusal, map_refusal, offered, IsWellFormed, child_free, live_differ, may_fork, may_accept, may_map, giver_mapped, shares, is_offered, IsLeave, SharingStays, answer_of, after, next, completes, Call, Event, eqb-true, by_next, next-stays, next-goes, not-refused, caller_live, get_joined, widen, Keeps, keeps_accessed, keeps_new, keeps_pages, keeps_set, keeps_through, next_stays, rest_all_stored, rest_of}
use Rattle.page_words.specs.FiniteMap as map
use Rattle.page_words.specs.FiniteSet as set
use Rattle.kernel_calls.specs.declared.calls.Call.TheVariants as call

-- ---- Slots that go

kept_there : {A : Type 0} (P : Cell → A) (S T : Spaces) → Keeps P S T → (slot : Slot) (c : Cell)
    → map.get S slot ≡ Some c → map.contains_key T slot ≡ true
kept_there P S T keeps slot c at = by (map.get T slot) (keeps slot c at)
  where
    by : (x : Option Cell) → option_map P x ≡ Some (P c) → is_some x ≡ true
    by x h = grind arith

-- a slot of spaces that some leave is there, or leaves
without_or : (S : Spaces) (gone : Slot → Bool) (slot : Slot) (c : Cell) → map.get S slot ≡ Some c
    → (map.contains_key (without S gone) slot ≡ true) ⊎ (gone slot ≡ true)
without_or S gone slot c at = grind (arith, get-without, left)

module _ (s : State) (e : Event) (w : IsWellFormed s) (slot : Slot) (cell : Cell)
    (at : map.get s.spaces slot ≡ Some cell) where
  abbrev may_of : Cell → Bool
  may_of c = c.may

  after_leaves : (c : Call) → e.call ≡ c → completes (answer_of s e.pid c) ≡ true
      → (map.contains_key (after s e.pid c).spaces slot ≡ true) ⊎ IsLeave e slot
  after_leaves (call.Load addr size) is h =
      let pages = touched addr size in
      let T : Spaces = with_pages s.spaces e.pid pages in
      inl (kept_there may_of s.spaces (all_accessed T e.pid pages)
      (keeps_through may_of s.spaces T (all_accessed T e.pid pages) (keeps_pages may_of s.spaces e.pid pages)
      (keeps_accessed may_of (λ c. refl) T e.pid pages)) slot cell at)
  after_leaves (call.Store addr size value) is h =
      let T : Spaces = with_pages s.spaces e.pid (touched addr size) in
      let bytes = bytes_of (byte_count size) value in
      inl (kept_there (rest_of slot) s.spaces (all_stored T e.pid addr bytes)
      (keeps_through (rest_of slot) s.spaces T (all_stored T e.pid addr bytes)
      (keeps_pages (rest_of slot) s.spaces e.pid (touched addr size)) (rest_all_stored T e.pid addr bytes slot))
      slot cell at)
  after_leaves (call.Map page write) is h =
      let new : Cell = fresh (at_page e.pid page) write in
      inl (kept_there may_of s.spaces (map.insert s.spaces (at_page e.pid page) new)
      (keeps_new may_of s.spaces (at_page e.pid page) new
      (may_map s e.pid page (not-refused (map_refusal s e.pid page) _ h)).none) slot cell at)
  after_leaves (call.Unmap page) is h = grind (arith, without_or, same-true)
  after_leaves (call.Protect page write) is h =
      let c : Cell = record (cell_or_fresh s.spaces (at_page e.pid page)) { write = write } in
      inl (kept_there may_of s.spaces (map.insert s.spaces (at_page e.pid page) c)
      (keeps_set may_of s.spaces (at_page e.pid page) c refl) slot cell at)
  after_leaves (call.Accept giver giver_page page) is h =
      let may = may_accept s e.pid giver giver_page page
      (not-refused (accept_refusal s e.pid giver giver_page page) _ h) in
      let g = giver_mapped s e.pid giver giver_page w may.there in
      let right = offered s giver giver_page e.pid in
      let apart : slot ≢ at_page e.pid page = (λ x. let y : Some cell ≡ None = sym at ∙ ap (map.get s.spaces) x
      ∙ may.none in cc) in
      inl (ap is_some (get_joined s e.pid giver giver_page page right w g.0 g.1 slot apart
      ∙ ap (option_map (widen s e.pid giver giver_page page right w g.0 g.1 slot)) at))
  after_leaves (call.Fork quota) is h =
      let free = child_free s e.pid quota (may_fork s e.pid quota (not-refused (fork_refusal s e.pid quota) _ h)).spawn
      in
      inl (ap is_some (copied-other s.spaces e.pid (child_of s) slot
      (live_differ s slot.pid (child_of s) (w.owners slot cell at) free) ∙ at))
  after_leaves call.Exit is h = grind (arith, without_or, eqb-true)
  after_leaves _ is h = inl (ap is_some at)

  pub next_leaves : (map.contains_key (next s e).spaces slot ≡ true) ⊎ IsLeave e slot
  next_leaves = grind (arith, caller_live, next-goes, after_leaves, next-stays)

pub sharing_stays : SharingStays
sharing_stays s e slot other w h = by (map.get s.spaces slot) refl h
  where
    by : (x : Option Cell) → map.get s.spaces slot ≡ x
        → unwrap_or (option_map (λ (c : Cell). set.contains c.holders other) x) false ≡ true
        → (shares (next s e) slot other ≡ true) ⊎ (IsLeave e slot ⊎ IsLeave e other)
    by None at k = cc
    by (Some c) at k = elim (next_leaves s e w slot c at) [
      | inr goes ↦ inr (inl goes)
      | inl there ↦ elim (next_leaves s e w other o.0 o.1) [
        | inr goes ↦ inr (inr goes)
        | inl also ↦ grind (arith, some_value, next_stays, o)
      ]
    ]
      where
        o : (d : Cell) × (map.get s.spaces other ≡ Some d) × (d.holders ≡ c.holders) × (d.bytes ≡ c.bytes)
        o = (w.cells slot c at).alike other k

-- ---- What is seen, and who is live

-- what is seen is mapped, or is q's own and not mapped
pub seen_mapped : (s : State) (q : ℕ) (slot : Slot) → IsWellFormed s → (is_of q slot || is_offered s q slot) ≡ true
    → (is_of q slot ≡ true) ⊎ ((c : Cell) × (map.get s.spaces slot ≡ Some c))
seen_mapped s q slot w v = by (is_of q slot) v
  where
    by : (b : Bool) → (b || is_offered s q slot) ≡ true → (b ≡ true) ⊎ ((c : Cell) × (map.get s.spaces slot ≡ Some c))
    by true h = inl refl
    by false h =
        let r = some_value (map.get s.offers (offer_key slot.pid slot.page q)) h in
        let o = (w.offers (offer_key slot.pid slot.page q) r.0 r.1).offered in
        inr (o.0, o.1)

-- the event makes a child, as a spawn and a fork do
abbrev pub makes_child : Call → Bool
makes_child (call.Spawn _) = true
makes_child (call.Fork _) = true
makes_child _ = false

abbrev pub LiveBut : State → State → Event → Type 0
LiveBut s t e = (p : ℕ) → (is_live t p ≡ is_live s p)
    ⊎ (((p ≡ child_of s) × (makes_child e.call ≡ true)) ⊎ ((p ≡ e.pid) × (e.call ≡ call.Exit)))

child_live : (s : State) (e : Event) (quota : ℕ) (S : Spaces) → makes_child e.call ≡ true
    → LiveBut s (record {
      spaces = S;
      book = map.insert s.book (child_of s) (record { parent = e.pid; quota = quota });
      offers = s.offers;
    }) e
child_live s e quota S makes p = elim (same_cases nat_order p (child_of s)) [
  | inl is ↦ inr (inl (is.0, makes))
  | inr other ↦ grind (arith, get-insert)
]

after_live : (s : State) (e : Event) (c : Call) → e.call ≡ c → LiveBut s (after s e.pid c) e
after_live s e (call.Spawn quota) is = child_live s e quota s.spaces (ap makes_child is)
after_live s e (call.Fork quota) is = child_live s e quota (copied s.spaces e.pid (child_of s)) (ap makes_child is)
after_live s e call.Exit is = λ p. elim (same_cases nat_order p e.pid) [
  | inl same_number ↦ inr (inr (same_number.0, is))
  | inr other ↦ inl (ap is_some (get-remove_other s.book e.pid p other.0))
]
after_live s e _ is = λ p. inl refl

pub next_live : (s : State) (e : Event) → LiveBut s (next s e) e
next_live s e = by_next (λ t. LiveBut s t e) s e (λ p. inl refl) (λ live h. after_live s e e.call refl)
