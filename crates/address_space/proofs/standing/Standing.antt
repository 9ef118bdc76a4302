-- Directories, memory and roles that agree represent their spaces, and no others.
use Rattle.address_space.proofs.Prelude.{◌≡◌, ◌≢◌, ℕ, ◌<◌, ◌≤◌, Bool, true, false, List, refl, ap, sym, ◌∙◌, subst, arith, inl, inr, Option, Some, None, not, ◌↔◌, ◌&&◌, is_some, slice_get, IsTrue, option_and_then, option_map, frame_number, is_present, NamesPage, same, same_map, same_set, frame_bytes, word_in, Role, Page, PageEntry, Frames, entry_from, entry_at, is_lazy_entry, Slot, Cell, cell_or_fresh, at_page, Entries, spaces_of, holders_of, Image, table_at, is_lazy_at, takes_stores, page_word, page_frame, IsSoundImage, SlotStands, StandsFor, image_from, StandsForOne, own_frame, Directories, directory_of, table_in, entry_in, entries_in, spaces_in, IsSound, IsSpaces, takes_stores_through, both_ways}
use Rattle.address_space.proofs.entries.Readings.{mapped_read}
use Rattle.address_space.proofs.steps.Steps.{live_small}
use Rattle.address_space.proofs.steps.Stores.{cell_read}
use Rattle.address_space.proofs.steps.Openings.{no_cell}
use Rattle.address_space.proofs.standing.TablesStand.{not_user_slot, owned}
use Rattle.page_words.specs.FiniteMap as map
use Rattle.page_words.specs.FiniteSet as set
use Rattle.address_space.proofs.standing.TablesStand as tables

-- ---- One set of spaces at most

pub one_group : {P : Type 0} (a b : Bool) → (IsTrue a ↔ P) → (IsTrue b ↔ P) → a ≡ b
one_group a b f g = both_ways a b (λ h. g.1 (f.0 h)) (λ h. f.1 (g.0 h))

one_cell : (image : Image) (slot : Slot) (word : Option ℕ) (c d : Option Cell) → SlotStands image slot word c → SlotStands image slot word d → c ≡ d
one_cell image slot None None None f g = refl
one_cell image slot None None (Some d) f g = absurd g
one_cell image slot None (Some c) d f g = absurd f
one_cell image slot (Some word) None d f g = absurd f
one_cell image slot (Some word) (Some c) None f g = absurd g
one_cell image slot (Some word) (Some c) (Some d) f g =
    let w = f.write ∙ sym g.write in
    let m = f.may ∙ sym g.may in
    let a = f.accessed ∙ sym g.accessed in
    let t = f.dirty ∙ sym g.dirty in
    let b = f.bytes ∙ sym g.bytes in
    let h = same_set c.holders d.holders (λ s. one_group _ _ (f.group s) (g.group s)) in
    λ i. Some (record { write = w i; may = m i; accessed = a i; dirty = t i; bytes = b i; holders = h i })

pub stands_for_one : StandsForOne
stands_for_one image s t f g = same_map s t (λ slot. one_cell image slot (page_word image slot) _ _ (f.cells slot) (g.cells slot))

-- ---- Tables and pages, as the image names them

module _ (directories : List (Option ℕ)) (bytes : List ℕ) (roles : List Role) (S : IsSound directories bytes roles) where
  abbrev pub D : Directories
  D = directory_of directories

  abbrev pub m : Frames
  m = frame_bytes bytes

  abbrev pub image : Image
  image = image_from directories bytes roles

  abbrev pub E : Entries
  E = entries_in D m

  pub same_table : (p s : ℕ) → table_at image p s ≡ table_in D m p s
  same_table = tables.same_table directories bytes roles S.tables S.pids

  pub same_entry : (slot : Slot) → entry_in D m slot ≡ option_map entry_from (page_word image slot)
  same_entry = tables.same_entry directories bytes roles S.tables S.pids

  pub read_entry : (slot : Slot) → map.get E slot ≡ option_map entry_from (page_word image slot)
  read_entry = tables.read_entry directories bytes roles S.tables S.pids

  -- a slot's present word is one that the kernel writes
  pub word_names : (slot : Slot) (word : ℕ) → page_word image slot ≡ Some word → NamesPage word
  word_names = tables.word_names directories bytes roles S.tables S.pids

  -- whether a slot's page is lazy, by its word and by its entry
  pub same_lazy : (slot : Slot) → is_lazy_at image slot ≡ is_lazy_entry (entry_in D m slot)
  same_lazy = tables.same_lazy directories bytes roles S.tables S.pids

  -- the slots that name frame 0 are the lazy ones
  pub lazy_slots : (slot : Slot) → IsTrue (set.contains (holders_of E 0) slot) ↔ IsTrue (is_lazy_at image slot)
  lazy_slots = tables.lazy_slots directories bytes roles S.tables S.pids

  cell_stands : (slot : Slot) → SlotStands image slot (page_word image slot) (map.get (spaces_of E m) slot)
  cell_stands = tables.cell_stands directories bytes roles S.tables S.pids

  page_role : (slot : Slot) (f : ℕ) → page_frame image slot ≡ Some f → (c : ℕ) × (slice_get roles f ≡ Some (Page c))
  page_role slot f h = by (page_word image slot) refl (read_entry slot) h
    where
      by : (x : Option ℕ) → page_word image slot ≡ x → map.get E slot ≡ option_map entry_from x → option_and_then (own_frame 2) x ≡ Some f → (c : ℕ) × (slice_get roles f ≡ Some (Page c))
      by None at is k = cc
      by (Some word) at is k =
          let own = owned word f k in
          let up = (word_names slot word at).frame own.0 in
          elim (S.pages.pages slot (entry_from word) is) [
            | inl r ↦ absurd (let z = S.tables.reserved (frame_number word) r in omega (arith, z, up))
            | inr a ↦ (a.0, ap (slice_get roles) (sym own.1) ∙ a.1)
          ]

  page_up : (f c : ℕ) → slice_get roles f ≡ Some (Page c) → 1 ≤ f
  page_up f c is = let n : f ≢ 0 = (λ z. let a = S.tables.zero_role in let k : slice_get roles 0 ≡ slice_get roles f = ap (slice_get roles) (sym z) in cc) in omega arith

  pub image_is_sound : ((p s t : ℕ) → table_in D m p s ≡ Some t → (i : ℕ) × (i < 1024) × (is_present (word_in (m t) i) ≡ true)) → IsSoundImage image
  image_is_sound used = record {
    size = S.size;
    reserved = λ f _. (S.tables.reserved f, λ z. ap (slice_get roles) z ∙ S.tables.zero_role);
    zero_frame = S.tables.zero_bytes;
    directories = λ f p. (S.tables.directory_back p f, S.tables.directory p f);
    tables = λ f p s. (λ h. same_table p s ∙ S.tables.table_back p s f h, λ h. S.tables.table p s f (sym (same_table p s) ∙ h));
    pages = page_role;
    counts = λ f c is. let a = S.pages.counts f c is in (a.0, record { members = holders_of E f; are = λ slot. (tables.group_is directories bytes roles S.tables S.pids) f slot (page_up f c is); count = a.1 });
    directory_words = S.tables.dir_words;
    no_more = λ p d s live i out. S.tables.outside p d s live i (not_user_slot s out);
    table_words = λ p s t i is l. S.tables.table_words p s t i (sym (same_table p s) ∙ is) l;
    in_use = λ p s t is. used p s t (sym (same_table p s) ∙ is);
  }

pub image_stands : (directories : List (Option ℕ)) (bytes : List ℕ) (roles : List Role) → IsSpaces directories bytes roles → StandsFor (image_from directories bytes roles) (spaces_in directories bytes)
unfolding spaces_in
image_stands directories bytes roles s = search (image_is_sound, cell_stands, arith)

-- whether the entry that was read is lazy
pub lazy_read : (directories : List (Option ℕ)) (bytes : List ℕ) (roles : List Role) (p d page : ℕ) → IsSound directories bytes roles → directory_of directories p ≡ Some d
    → is_lazy_entry (entry_at (frame_bytes bytes) d page) ≡ is_lazy_at (image_from directories bytes roles) (at_page p page)
lazy_read directories bytes roles p d page sound live =
    ap is_lazy_entry (sym (ap (option_and_then (λ d. entry_at (frame_bytes bytes) d page)) live)) ∙ sym (same_lazy directories bytes roles sound (at_page p page))

-- whether the entry of a slot takes stores
pub stores_read : (directories : List (Option ℕ)) (bytes : List ℕ) (roles : List Role) (p page : ℕ) → IsSound directories bytes roles → 0x40000 ≤ page → page < 0xf0000
    → takes_stores_through (entry_in (directory_of directories) (frame_bytes bytes) (at_page p page)) ≡ takes_stores (spaces_in directories bytes) (image_from directories bytes roles) (at_page p page)
stores_read directories bytes roles p page sound low high = grind (arith, m, others, no_cell, by_entry)
  where
    m : Frames
    m = frame_bytes bytes

    slot : Slot
    slot = at_page p page

    others : Bool
    others = (cell_or_fresh (spaces_in directories bytes) slot).write && not (is_lazy_at (image_from directories bytes roles) slot)

    by_entry : (d : ℕ) → directory_of directories p ≡ Some d → (x : Option PageEntry) → entry_at m d page ≡ x → takes_stores_through x ≡ takes_stores (spaces_in directories bytes) (image_from directories bytes roles) slot
    by_entry d live None is =
        let few = live_small directories p d sound.pids live in
        sym (ap (λ b. b && others) (mapped_read directories bytes p d page live few low high ∙ ap is_some is))
    by_entry d live (Some e) is =
        let few = live_small directories p d sound.pids live in
        let there = mapped_read directories bytes p d page live few low high ∙ ap is_some is in
        let write : (cell_or_fresh (spaces_in directories bytes) slot).write ≡ e.write = ap (λ (c : Cell). c.write) (cell_read directories bytes p d page e live few low high is) in
        let lazy : is_lazy_at (image_from directories bytes roles) slot ≡ e.lazy = sym (lazy_read directories bytes roles p d page sound live) ∙ ap is_lazy_entry is in
        sym (λ i. there i && (write i && not (lazy i)))

-- where the same slots name frame 0, the same pages are lazy
pub lazy_kept : (directories : List (Option ℕ)) (bytes bytes' : List ℕ) (roles : List Role) → IsSound directories bytes roles → IsSound directories bytes' roles
    → holders_of (entries_in (directory_of directories) (frame_bytes bytes')) 0 ≡ holders_of (entries_in (directory_of directories) (frame_bytes bytes)) 0
    → (slot : Slot) → is_lazy_at (image_from directories bytes' roles) slot ≡ is_lazy_at (image_from directories bytes roles) slot
lazy_kept directories bytes bytes' roles sound sound' same slot =
    let old = lazy_slots directories bytes roles sound slot in
    let new = lazy_slots directories bytes' roles sound' slot in
    let is = ap (λ h. set.contains h slot) same in
    grind arith

-- where no more slots name frame 0, a page that isn't lazy stays so
pub real_kept : (directories : List (Option ℕ)) (bytes bytes' : List ℕ) (roles roles' : List Role) → IsSound directories bytes roles → IsSound directories bytes' roles'
    → ((q : Slot) → set.contains (holders_of (entries_in (directory_of directories) (frame_bytes bytes)) 0) q ≡ false → set.contains (holders_of (entries_in (directory_of directories) (frame_bytes bytes')) 0) q ≡ false)
    → (slot : Slot) → is_lazy_at (image_from directories bytes roles) slot ≡ false → is_lazy_at (image_from directories bytes' roles') slot ≡ false
real_kept directories bytes bytes' roles roles' sound sound' fewer slot real =
    let old = lazy_slots directories bytes roles sound slot in
    let new = lazy_slots directories bytes' roles' sound' slot in
    none (set.contains (holders_of (entries_in (directory_of directories) (frame_bytes bytes)) 0) slot) refl (is_lazy_at (image_from directories bytes' roles') slot) (λ h. subst IsTrue real (old.0 h)) (λ h. new.1 h)
  where
    none : (b : Bool) → set.contains (holders_of (entries_in (directory_of directories) (frame_bytes bytes)) 0) slot ≡ b → (x : Bool)
        → (IsTrue (set.contains (holders_of (entries_in (directory_of directories) (frame_bytes bytes)) 0) slot) → IsTrue false)
        → (IsTrue x → IsTrue (set.contains (holders_of (entries_in (directory_of directories) (frame_bytes bytes')) 0) slot)) → x ≡ false
    none b is x f g = grind arith
