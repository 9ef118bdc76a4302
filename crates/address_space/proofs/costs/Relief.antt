-- What a process's cost falls by when one of its pages goes.
use Rattle.address_space.proofs.Prelude.{◌≡◌, ◌≢◌, ℕ, ◌+◌, ◌*◌, ◌%◌, ◌<◌, ◌≤◌, Bool, true, false, cond, not, List, refl, ap, sym, ◌∙◌, arith, inl, inr, Option, Some, None, is_some, if◌then◌else◌, option_and_then, list_any, slot_number, same, same_or_not, same_itself, get-insert, get-retain_keys, get-map_values, frame_bytes, PageEntry, entry_at, Slot, slot_order, Cell, Spaces, cost, cost_of, need, pages_of, regions_of, without, is_slot, with_holders, at_page, user_slots, directory_of, entry_in, entries_in, spaces_in, IsAlone, IsShared, is_some-map, no_value}
use Rattle.address_space.proofs.costs.Costs.{contains-pages_of, same_pages, cost-insert}
use Rattle.address_space.proofs.costs.CostSteps.{need-least, region_there, region_member, keys}
use Rattle.address_space.proofs.entries.EntrySteps.{get-entries_in}
use Rattle.address_space.proofs.entries.UserSlots.{in_user_slots}
use Rattle.page_words.specs.FiniteMap as map
use Rattle.page_words.specs.FiniteSet as set

module _ (S : Spaces) (p page : ℕ) where
  abbrev slot : Slot
  slot = at_page p page

  abbrev left : Spaces
  left = without S (is_slot p page)

  -- what is left is mapped as before, but for the slot
  key_left : (q : Slot) → map.contains_key left q ≡ cond (not (is_slot p page q)) (map.contains_key S q) false
  key_left q =
      ap is_some (get-map_values slot_order (λ slot cell. with_holders cell (set.retain cell.holders (λ s. not (is_slot p page s)))) (map.retain_keys S (λ s. not (is_slot p page s))) q)
      ∙ is_some-map (λ cell. with_holders cell (set.retain cell.holders (λ s. not (is_slot p page s)))) (map.get (map.retain_keys S (λ s. not (is_slot p page s))) q)
      ∙ ap is_some (get-retain_keys S (λ s. not (is_slot p page s)) q)
      ∙ (grind arith)

  pub is_gone : map.get left slot ≡ None
  is_gone = no_value (map.get left slot) (key_left slot ∙ ap (λ b. cond (not b) (map.contains_key S slot) false) (same_itself slot_order slot))

  pub others_left : (q : Slot) → is_slot p page q ≡ false → map.contains_key left q ≡ map.contains_key S q
  others_left q h = key_left q ∙ ap (λ b. cond (not b) (map.contains_key S q) false) h

  -- with the slot back, the same is mapped as before
  pub put_back_keys : (cell : Cell) → map.get S slot ≡ Some cell → (q : Slot) → map.contains_key (map.insert left slot cell) q ≡ map.contains_key S q
  put_back_keys cell found q =
      ap is_some (get-insert left slot cell q)
      ∙ elim (same_or_not slot_order q slot) [
        | inl h ↦ ap (λ b. is_some (cond b (Some cell) (map.get left q))) h.1 ∙ sym (ap is_some (ap (map.get S) h.0 ∙ found))
        | inr h ↦ ap (λ b. is_some (cond b (Some cell) (map.get left q))) h
            ∙ others_left q (grind (arith, same_or_not, same_itself))
      ]

  pub cost_left : (cell : Cell) → map.get S slot ≡ Some cell → cost S p ≡ cost left p + need left p page
  cost_left cell found = ap cost_of (same_pages S (map.insert left slot cell) p p (λ other. sym (put_back_keys cell found (at_page p other)))) ∙ cost-insert left slot cell is_gone

  -- another page of the process is left as it was
  pub page_left : (other : ℕ) → page ≢ other → map.contains_key left (at_page p other) ≡ map.contains_key S (at_page p other)
  page_left other apart = grind (arith, others_left, same_or_not)

  -- a process that is charged for its directory alone doesn't have the page
  pub light_lacks : cost S p ≤ 1 → map.get S slot ≡ None
  light_lacks light = grind (arith, cost_left, need-least)

abbrev counted : Bool → ℕ
counted b = if b then 1 else 2

pub relief_shared : (directories : List (Option ℕ)) (bytes : List ℕ) (p d page : ℕ) → p < 64 → directory_of directories p ≡ Some d → IsShared (frame_bytes bytes) d page → need (without (spaces_in directories bytes) (is_slot p page)) p page ≡ 1
unfolding spaces_in
relief_shared directories bytes p d page few live s =
    let m = frame_bytes bytes in
    let S : Spaces = spaces_in directories bytes in
    let T : Spaces = without S (is_slot p page) in
    let q : Slot = at_page p s.other in
    let entry : is_some (entry_in (directory_of directories) m q) ≡ true = ap (λ x. is_some (option_and_then (λ d. entry_at m d s.other) x)) live ∙ s.mapped in
    let get : is_some (map.get (entries_in (directory_of directories) m) q) ≡ true =
    ap is_some (get-entries_in (directory_of directories) m q ∙ ap (λ b. cond b (entry_in (directory_of directories) m q) None) (in_user_slots p s.other few s.low s.high)) ∙ entry in
    let there : map.contains_key S q ≡ true = keys (entries_in (directory_of directories) m) m q ∙ get in
    let apart : is_slot p page q ≡ false = elim (same_or_not slot_order (at_page p page) q) [
      | inl e ↦ absurd (s.apart (sym (ap (λ (x : Slot). x.page) e.0)))
      | inr n ↦ n
    ] in
    let page_there : set.contains (pages_of T p) s.other ≡ true = contains-pages_of T p s.other ∙ others_left S p page q apart ∙ there in
    ap counted (ap (set.contains (regions_of (pages_of T p))) (sym s.region) ∙ region_there (pages_of T p) s.other page_there)

pub relief_alone : (directories : List (Option ℕ)) (bytes : List ℕ) (p d page : ℕ) → directory_of directories p ≡ Some d → IsAlone (frame_bytes bytes) d page → need (without (spaces_in directories bytes) (is_slot p page)) p page ≡ 2
unfolding spaces_in
relief_alone directories bytes p d page live alone = by (set.contains (regions_of (pages_of T p)) (slot_number page)) refl
  where
    S : Spaces
    S = spaces_in directories bytes

    T : Spaces
    T = without S (is_slot p page)

    m : ℕ → List ℕ
    m = frame_bytes bytes

    either : (b : Bool) (x : Option PageEntry) → is_some (cond b x None) ≡ true → is_some x ≡ true
    either b x h = grind arith

    clash : (other : ℕ) → slot_number other ≡ slot_number page → map.contains_key T (at_page p other) ≡ true → ⊥
    clash other region h =
        let q : Slot = at_page p other in
        let kept = split (is_slot p page q) (map.contains_key S q) (sym (key_left S p page q) ∙ h) in
        let apart : other ≢ page = λ e. (let t : is_slot p page q ≡ true = ap (λ n. same slot_order (at_page p page) (at_page p n)) e ∙ same_itself slot_order (at_page p page) in let f = kept.0 in cc) in
        let entry : is_some (entry_in (directory_of directories) m q) ≡ true =
        either (list_any (same slot_order q) user_slots) (entry_in (directory_of directories) m q) (sym (ap is_some (get-entries_in (directory_of directories) m q)) ∙ sym (keys (entries_in (directory_of directories) m) m q) ∙ kept.1) in
        let here : is_some (entry_at m d other) ≡ true = sym (ap (λ x. is_some (option_and_then (λ d. entry_at m d other) x)) live) ∙ entry in
        let i : slot_number page * 1024 + other % 1024 ≡ other = omega arith in
        let none : entry_at m d other ≡ None = sym (ap (entry_at m d) i) ∙ alone (other % 1024) (omega arith) (λ e. apart (sym i ∙ e)) in
        let c : is_some (entry_at m d other) ≡ false = ap is_some none in
        cc
      where
        split : (b c : Bool) → cond (not b) c false ≡ true → (b ≡ false) × (c ≡ true)
        split b c h = grind arith

    by : (b : Bool) → set.contains (regions_of (pages_of T p)) (slot_number page) ≡ b → ◌≡◌ {A = ℕ} (counted (set.contains (regions_of (pages_of T p)) (slot_number page))) 2
    by false is = ap counted is
    by true is = let r = region_member (pages_of T p) (slot_number page) is in absurd (clash r.0 r.1 (sym (contains-pages_of T p r.0) ∙ r.2))
