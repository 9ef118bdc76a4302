-- What the text of an image that represents a state lists of a process.
use Rattle.std.proofs.Common.{◌≡◌, ℕ, ◌+◌, ◌-◌, ◌*◌, ◌<◌, ◌≤◌, Bool, true, false, ◌&&◌, ◌==◌, List, [], ◌∷◌, ◌++◌, map, length, refl, sym, ap, subst, ◌∙◌, arith, append-nil, Option, Some, None}
use Rattle.std.specs.Prelude.{◌↔◌, IsTrue, MatchBool, if◌then◌else◌}
use Rattle.std.specs.Cmp.{both_ways}
use Rattle.std.specs.Option.{option_and_then}
use Rattle.std.specs.List.{flat_map, range_with_len}
use Rattle.std.proofs.lemmas.Bool.{lt-ltb, eq-eqb, and_from}
use Rattle.std.proofs.lemmas.Option.{slice_get_within}
use Rattle.std.proofs.lemmas.List.{take_all}
use Rattle.page_words.proofs.MapLemmas.{same_set}
use Rattle.page_words.specs.FiniteMap as finite
use Rattle.page_words.specs.FiniteSet as set
use Rattle.page_words.specs.Addresses.{slot_number, index_number}
use Rattle.page_words.specs.Words.{frame_number, is_present}
use Rattle.page_map.specs.Pages.{user_pages}
use Rattle.alloc_table.specs.declared.Role.TheVariants.{Table}
use Rattle.address_space.specs.Spaces.{Slot, Cell, at_page}
use Rattle.address_space.specs.Image.{table_at, word_of, present_word, page_word, page_frame, SlotStands, CellStands}
use Rattle.process_table.specs.State.{State}
use Rattle.memory_image.specs.Image.{Image, IsWideImage, frames, role_at, memory_of}
use Rattle.memory_image.specs.Sound.{IsSound, StandsFor}
use Rattle.address_space.specs.ImageWords.{is_lazy_word, own_frame}
use Rattle.memory_image.proofs.References.{same_some}
use Rattle.image_check.specs.Verdict.{is_table_of}
use Rattle.image_check.proofs.ToldLemmas.{sound_is_told}
use Rattle.image_map.specs.declared.runs.Run.{Run}
use Rattle.image_map.specs.Runs.{own_table, own_if, runs_in, runs_at, pages_in}
use Rattle.image_map.specs.Text.{run_line, slot_text, pages_text, more_line, holders, limit}
use Rattle.image_map.specs.Laws.{Listed, listed, listed_cell, runs_by, ListsEachRun, ListsEachSlot, HoldersAreSlots}
use Rattle.image_map.proofs.Listing.{same-range, none-range, in-parts, through, mapped-through, word_at_page, runs-list, few-in-table}

-- ---- Lines

module _ (image : Image) (p : ℕ) where
  few-in : (s : ℕ) (x : Option ℕ) → length (runs_in image s x) ≤ 1024
  few-in s None = omega arith
  few-in s (Some t) = few-in-table image s t

  none-more : (n : ℕ) → n ≡ 0 → more_line n ≡ []
  unfolding more_line
  none-more n is = ap more_line is

  all-lines : (s most : ℕ) → most ≡ 1024 → slot_text image most p s ≡ flat_map (run_line image) (runs_at image p s)
  all-lines s most is =
      let runs : List Run = runs_at image p s in
      let few = few-in s (own_table image p s) in
      (λ i. flat_map (run_line image) (take_all most runs (let e : length runs ≤ most = omega (arith, few, is) in e) i) ++ none-more (length runs - most) (let e : length runs - most ≡ 0 = omega (arith, few, is) in e) i)
      ∙ append-nil (flat_map (run_line image) runs)

  slots-lines : (most a n : ℕ) → most ≡ 1024 → flat_map (slot_text image most p) (range_with_len a n) ≡ flat_map (run_line image) (flat_map (runs_at image p) (range_with_len a n))
  slots-lines most a n is =
      same-range (slot_text image most p) (λ s. flat_map (run_line image) (runs_at image p s)) a n (λ s low high. all-lines s most is)
      ∙ sym (through (run_line image) (runs_at image p) a n)

  limit-is : IsWideImage image → IsSound image → limit image ≡ 1024
  limit-is I sound = ap (λ b. if b then 1024 else frames image) ((sound_is_told image I).1 sound)

  pub process-lines : IsWideImage image → IsSound image → pages_text image (limit image) p ≡ flat_map (run_line image) (runs_by image p)
  unfolding pages_text runs_by
  process-lines I sound = slots-lines (limit image) 256 704 (limit-is I sound)

pub lists_each_run : ListsEachRun
lists_each_run image p I sound = process-lines image p I sound

-- ---- Slots

module _ (image : Image) (s : State) (p : ℕ) (stands : StandsFor image s) where
  abbrev listed_slot : ℕ → List Listed
  listed_slot page = listed_cell page (finite.get s.spaces (at_page p page))

  -- the table that a directory names is its process's own
  own-is : (slot : ℕ) (x : Option ℕ) → table_at (memory_of image) p slot ≡ x → own_if image p slot x ≡ x
  own-is slot None none = refl
  own-is slot (Some t) there =
      let role : role_at image t ≡ Some (Table p slot) = (stands.sound.memory.tables t p slot).1 there in
      ap (λ r. if is_table_of p slot r then Some t else None) role ∙ ap (λ b. if b then Some t else None) (and_from (p == p) (slot == slot) (eq-eqb p p refl) (eq-eqb slot slot refl))

  word-in : (slot t i : ℕ) → i < 1024 → table_at (memory_of image) p slot ≡ Some t → page_word (memory_of image) (at_page p (1024 * slot + i)) ≡ (if is_present (word_of (memory_of image) t i) then Some (word_of (memory_of image) t i) else None)
  word-in slot t i low there =
      let region : slot_number (1024 * slot + i) ≡ slot = omega arith in
      let index : index_number (1024 * slot + i) ≡ i = omega arith in
      let inside : t < frames image = slice_get_within image.roles t (Table p slot) ((stands.sound.memory.tables t p slot).1 there) in
      ap (λ x. option_and_then (λ u. present_word (memory_of image) u (word_of (memory_of image) u (index_number (1024 * slot + i)))) x) (ap (table_at (memory_of image) p) region ∙ there)
      ∙ ap (λ j. present_word (memory_of image) t (word_of (memory_of image) t j)) index
      ∙ ap (λ b. if b && is_present (word_of (memory_of image) t i) then Some (word_of (memory_of image) t i) else None) (lt-ltb t (frames image) inside)

  no-word : (slot i : ℕ) → i < 1024 → table_at (memory_of image) p slot ≡ None → page_word (memory_of image) (at_page p (1024 * slot + i)) ≡ None
  no-word slot i low none =
      let region : slot_number (1024 * slot + i) ≡ slot = omega arith in
      ap (λ x. option_and_then (λ u. present_word (memory_of image) u (word_of (memory_of image) u (index_number (1024 * slot + i)))) x) (ap (table_at (memory_of image) p) region ∙ none)

  -- a page with its word is listed as its cell
  as-cell : (page : ℕ) (word : Option ℕ) (cell : Option Cell) → SlotStands (memory_of image) (at_page p page) word cell → (ws : List (ℕ × ℕ)) → ((w : ℕ) → word ≡ Some w → ws ≡ (page, w) ∷ []) → (word ≡ None → ws ≡ [])
      → map (listed image.version) ws ≡ listed_cell page cell
  as-cell page None None stand ws some none = ap (map (listed image.version)) (none refl)
  as-cell page (Some w) (Some c) stand ws some none =
      ap (map (listed image.version)) (some w refl)
      ∙ sym (λ i. record { page = page; write = stand.write i; may = stand.may i; accessed = stand.accessed i; dirty = stand.dirty i } ∷ [])
  as-cell page None (Some c) stand ws some none = absurd stand
  as-cell page (Some w) None stand ws some none = absurd stand

  present-some : (b : Bool) (page w v : ℕ) → ◌≡◌ {A = Option ℕ} (if b then Some w else None) (Some v) → ◌≡◌ {A = List (ℕ × ℕ)} (if b then (page, w) ∷ [] else []) ((page, v) ∷ [])
  present-some true page w v is = ap (λ x. (page, x) ∷ []) (same_some w v is)
  present-some false page w v is = cc

  present-none : (b : Bool) (page w : ℕ) → ◌≡◌ {A = Option ℕ} (if b then Some w else None) None → ◌≡◌ {A = List (ℕ × ℕ)} (if b then (page, w) ∷ [] else []) []
  present-none true page w is = cc
  present-none false page w is = refl

  listed-word : (slot t i : ℕ) → i < 1024 → table_at (memory_of image) p slot ≡ Some t → map (listed image.version) (word_at_page (1024 * slot + i) (word_of (memory_of image) t i)) ≡ listed_slot (1024 * slot + i)
  listed-word slot t i low there =
      let page : ℕ = 1024 * slot + i in
      let w : ℕ = word_of (memory_of image) t i in
      let word : page_word (memory_of image) (at_page p page) ≡ (if is_present w then Some w else None) = word-in slot t i low there in
      as-cell page (page_word (memory_of image) (at_page p page)) (finite.get s.spaces (at_page p page)) (stands.memory.cells (at_page p page)) (word_at_page page w)
      (λ v is. present-some (is_present w) page w v (sym word ∙ is))
      (λ is. present-none (is_present w) page w (sym word ∙ is))

  in-slot : (slot : ℕ) (x : Option ℕ) → table_at (memory_of image) p slot ≡ x → map (listed image.version) (flat_map pages_in (runs_in image slot x)) ≡ flat_map (λ i. listed_slot (1024 * slot + i)) (range_with_len 0 1024)
  in-slot slot None none =
      sym (none-range (λ i. listed_slot (1024 * slot + i)) 0 1024 (λ i low high.
      let page : ℕ = 1024 * slot + i in
      let word = no-word slot i (omega arith) none in
      sym (as-cell page (page_word (memory_of image) (at_page p page)) (finite.get s.spaces (at_page p page)) (stands.memory.cells (at_page p page)) []
      (λ v is. let bad : ◌≡◌ {A = Option ℕ} None (Some v) = sym word ∙ is in cc) (λ is. refl))))
  in-slot slot (Some t) there =
      ap (map (listed image.version)) (runs-list image slot t)
      ∙ mapped-through (listed image.version) (λ i. word_at_page (1024 * slot + i) (word_of (memory_of image) t i)) 0 1024
      ∙ same-range (λ i. map (listed image.version) (word_at_page (1024 * slot + i) (word_of (memory_of image) t i))) (λ i. listed_slot (1024 * slot + i)) 0 1024 (λ i low high. listed-word slot t i (omega arith) there)

  at-slot : (slot : ℕ) → map (listed image.version) (flat_map pages_in (runs_at image p slot)) ≡ flat_map (λ i. listed_slot (1024 * slot + i)) (range_with_len 0 1024)
  at-slot slot = ap (λ x. map (listed image.version) (flat_map pages_in (runs_in image slot x))) (own-is slot (table_at (memory_of image) p slot) refl) ∙ in-slot slot (table_at (memory_of image) p slot) refl

  in-slots : (a n : ℕ) → map (listed image.version) (flat_map pages_in (flat_map (runs_at image p) (range_with_len a n))) ≡ flat_map listed_slot (range_with_len (1024 * a) (1024 * n))
  in-slots a n =
      ap (map (listed image.version)) (through pages_in (runs_at image p) a n)
      ∙ mapped-through (listed image.version) (λ slot. flat_map pages_in (runs_at image p slot)) a n
      ∙ same-range (λ slot. map (listed image.version) (flat_map pages_in (runs_at image p slot))) (λ slot. flat_map (λ i. listed_slot (1024 * slot + i)) (range_with_len 0 1024)) a n (λ slot low high. at-slot slot)
      ∙ in-parts listed_slot a n

  pub process-slots : map (listed image.version) (flat_map pages_in (runs_by image p)) ≡ flat_map listed_slot user_pages
  unfolding runs_by user_pages
  process-slots = in-slots 256 704

pub lists_each_slot : ListsEachSlot
lists_each_slot image s p stands = process-slots image s p stands

-- ---- Holders

one-group : {P : Type 0} (a b : Bool) → (IsTrue a ↔ P) → (IsTrue b ↔ P) → a ≡ b
one-group a b f g = both_ways a b (λ h. g.1 (f.0 h)) (λ h. f.1 (g.0 h))

module _ (image : Image) (s : State) (slot : Slot) (word : ℕ) (c : Cell) (stands : StandsFor image s) where
  cell-stands : page_word (memory_of image) slot ≡ Some word → finite.get s.spaces slot ≡ Some c → CellStands (memory_of image) slot word c
  cell-stands there is = subst (λ (x : Option ℕ × Option Cell). SlotStands (memory_of image) slot x.0 x.1) (λ i. (there i, is i)) (stands.memory.cells slot)

  own-real : is_lazy_word image.version word ≡ false → own_frame image.version word ≡ Some (frame_number word)
  own-real real = ap (λ b. if b then None else Some (frame_number word)) real

  pub holders-are : page_word (memory_of image) slot ≡ Some word → is_lazy_word image.version word ≡ false → finite.get s.spaces slot ≡ Some c → holders (role_at image (frame_number word)) ≡ set.len c.holders
  holders-are there real is =
      let f : ℕ = frame_number word in
      let here : page_frame (memory_of image) slot ≡ Some f = ap (option_and_then (own_frame image.version)) there ∙ own-real real in
      let page = stands.sound.memory.pages slot f here in
      let counted = (stands.sound.memory.counts f page.0 page.1).1 in
      let cell = cell-stands there is in
      ap holders page.1
      ∙ counted.count
      ∙ ap set.len (same_set counted.members c.holders (λ other. one-group _ _ (counted.are other) (subst (λ b. IsTrue (set.contains c.holders other) ↔ MatchBool b (other ≡ slot) (page_frame (memory_of image) other ≡ Some f)) real (cell.group other))))

pub holders_are_slots : HoldersAreSlots
holders_are_slots image s slot word c stands there real is = holders-are image s slot word c stands there real is
