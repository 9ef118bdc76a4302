-- Which directories and tables an event leaves.
use Rattle.kernel_calls.proofs.Prelude.{◌≡◌, ℕ, ◌*◌, ◌+◌, ◌<◌, Bool, true, false, ◌&&◌, length, refl, ap, ◌∙◌, arith, Option, Some, None, is_some, eq-eqb, if◌then◌else◌, nat_lt, option_map, option_and_then, slice_get_within, ne_eqb, nat_tests, slot_number, index_number, frame_number, is_present, same_or_not, Table, directory_at, table_at, word_of, present_word, page_word, SlotStands, Slot, Cell, at_page, way_of, FramesStay, IsCore, way_whole, StandsFor, image_of, memory_of, View, gone_of_call, gone_by, answer, completes, is_all_of, of_call, ended_by, DirectoriesStay, TablesStay, TablesMap, Call, Event}
use Rattle.kernel_calls.proofs.Translated.{event_spared}
use Rattle.page_words.specs.FiniteMap as map
use Rattle.kernel_calls.specs.declared.calls.Call.TheVariants as call
use Rattle.kernel_calls.specs.declared.translations.Ended.TheVariants as end

-- ---- Directories

-- a page whose way stays, whatever of it was kept, where not all of its process's ways go
abbrev spared_page : Call → ℕ
spared_page (call.Unmap page) = page + 1
spared_page _ = 0

call_spares : (v : View) (q : ℕ) (c : Call) (p : ℕ) → is_all_of (of_call v q c) p ≡ false
    → gone_of_call q c (at_page p (spared_page c)) 1 ≡ false
call_spares v q c p some = grind (arith, same_or_not, ne_eqb, eq-eqb)

event_spares : (v : View) (e : Event) (p : ℕ) → is_all_of (ended_by v e) p ≡ false
    → gone_by v.state e (at_page p (spared_page e.call)) 1 ≡ false
event_spares v e p some = by (completes (answer v.state e)) some
  where
    by : (b : Bool) → is_all_of (if b then of_call v e.pid e.call else end.Nothing) p ≡ false
        → (if b then gone_of_call e.pid e.call (at_page p (spared_page e.call)) 1 else false) ≡ false
    by b h = grind (arith, call_spares)

pub directories_stay : (v w : View) (e : Event) → FramesStay (gone_by v.state e) (memory_of v) (memory_of w)
    → DirectoriesStay (ended_by v e) (memory_of v) (memory_of w)
directories_stay v w e stay p d some live =
    stay.directories p d (record { page = spared_page e.call; frame = 1; stays = event_spares v e p some }) live

-- ---- Tables

module _ (v : View) (stands : StandsFor (image_of v) v.state) where
  -- a mapped slot has a way
  pub mapped_way : (slot : Slot) → map.contains_key v.state.spaces slot ≡ true
      → (d : ℕ) × (f : ℕ) × (way_of (memory_of v) slot ≡ Some (d, f))
  mapped_way slot there = by (page_word (memory_of v) slot) refl (map.get v.state.spaces slot) there
      (stands.memory.cells slot)
    where
      at : (word : ℕ) (x : Option ℕ) → page_word (memory_of v) slot ≡ Some word
          → directory_at (memory_of v) slot.pid ≡ x
          → (d : ℕ) × (f : ℕ) × (way_of (memory_of v) slot ≡ Some (d, f))
      at word None is none = grind arith
      at word (Some d) is live = (
        d,
        frame_number word,
        way_whole (memory_of v) slot d (frame_number word) (record { live = live; names = ap (option_map frame_number) is }),
      )

      by : (x : Option ℕ) → page_word (memory_of v) slot ≡ x → (y : Option Cell) → is_some y ≡ true
          → SlotStands (memory_of v) slot x y → (d : ℕ) × (f : ℕ) × (way_of (memory_of v) slot ≡ Some (d, f))
      by x is None there h = cc
      by None is (Some c) there h = absurd h
      by (Some word) is (Some c) there h = at word (directory_at (memory_of v) slot.pid) is refl

  -- a slot whose word is present is mapped
  present_mapped : (slot : Slot) (word : ℕ) → page_word (memory_of v) slot ≡ Some word
      → map.contains_key v.state.spaces slot ≡ true
  present_mapped slot word is = grind arith

  pub tables_map : TablesMap v
  tables_map p region table linked =
      let used = stands.memory.sound.in_use p region table linked in
      let i : ℕ = used.0 in
      let small : i < 1024 = used.1 in
      let page : ℕ = region * 1024 + i in
      let inside : slot_number page ≡ region = omega (arith, small) in
      let index : index_number page ≡ i = omega (arith, small) in
      let role = (stands.memory.sound.tables table p region).1 linked in
      let within = slice_get_within v.roles table (Table p region) role in
      let fits : nat_lt table (length v.roles) ≡ true = grind (arith, nat_tests) in
      let there : page_word (memory_of v) (at_page p page) ≡ Some (word_of (memory_of v) table (index_number page)) =
      ap (λ s. option_and_then (λ t. present_word (memory_of v) t (word_of (memory_of v) t (index_number page)))
      (table_at (memory_of v) p s)) inside
      ∙ ap (option_and_then (λ t. present_word (memory_of v) t (word_of (memory_of v) t (index_number page)))) linked
      ∙ ap (λ b. if b then Some (word_of (memory_of v) table (index_number page)) else None)
      (λ k. fits k && (ap (λ n. is_present (word_of (memory_of v) table n)) index ∙ used.2) k) in
      record {
        page = page;
        inside = inside;
        mapped = present_mapped (at_page p page) (word_of (memory_of v) table (index_number page)) there;
      }

pub tables_stay : (v w : View) (e : Event) → IsCore v → FramesStay (gone_by v.state e) (memory_of v) (memory_of w)
    → TablesStay (ended_by v e) v w
tables_stay v w e core stay slot t spared there linked =
    let way = mapped_way v core.image slot there in
    stay.tables slot way.0 way.1 t (event_spared v core e slot way.0 way.1 way.2 spared) way.2 linked
