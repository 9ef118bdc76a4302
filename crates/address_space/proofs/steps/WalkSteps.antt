-- What a walk that finds a frame, its mark, and a byte written where it leads come to.
use Rattle.address_space.proofs.Prelude.{◌≡◌, ℕ, ◌+◌, ◌*◌, ◌%◌, ◌^◌, ◌<◌, ◌≤◌, Bool, true, false, not, List, [], ◌∷◌, length, refl, ap, sym, ◌∙◌, subst, arith, inl, inr, Option, Some, None, ◌&&◌, is_some, if◌then◌else◌, slice_get, slice_set, IsOk, Result, Ok, Err, nat_le, option_and_then, is_ok, nat_tests, IsUserPage, page_number, offset_number, slot_number, index_number, frame_number, is_present, NamesPage, IsKernelTableWord, frame_bytes, word_at, word_place, with_word, word_in, with_word_in, with_frame, Role, Directory, Table, Access, Read, Write, WalkEnd, Outside, PageEntry, Frames, dir_word, table_of, word_entry, entry_from, entry_at, entry_word, with_entry, lets_writes, IsKernelEntry, walks_read_entries, user_cases, byte_place, is_marked, and_parts, Slot, Spaces, Cell, cell_or_fresh, stored, write_at, at_page, slot_at, Directories, Roles, directory_of, table_in, spaces_in, Tables, IsSound, Inside, Touched, none_goes, table_words_by_fields, by_frame, frames-with_word, frames-with_byte, word_in-frame, walk_of, table_word, is_write, is_outside, not_allowed, end_at_entry, touched_entry, entry_word-names, with_flag_lt, accessed as accessed_in, entry_from-entry_word, marked, accessed_word, touched_word}
use Rattle.phys_memory.proofs.Words.{length-with_word}
use Rattle.table_walk.proofs.Leads.{walks_find_what_leads}
use Rattle.page_map.proofs.MarkProofs.{touched_names, entry_from-touched}
use Rattle.address_space.proofs.Lemmas.{entry_by_table, inside, holds_inside, live_small, page_map_of, present_by_table, table_by_word, found, get_user, entry_rules, page_stored, flags_set, cell_read, frame_written, stored_place, byte_is_write, length-write_at, write_at-nothing, stored-none, stored-flags, no_table_outside, places_then}
use Rattle.address_space.proofs.steps.DirWords.{DirsAlike, flagged_alike, dirs_touched, one_dir_word, dirs-entry, dirs-table, dirs-tables}

-- ---- What a walk finds

-- the entry that a walk found
pub record FoundEntry (bytes : List ℕ) (d address : ℕ) (access : Access) : Type 0 where
  pub entry : PageEntry
  pub here : entry_at (frame_bytes bytes) d (page_number address) ≡ Some entry
  pub right : access ≡ Write → lets_writes entry ≡ true
  pub walk : walk_of bytes d address access ≡ Ok entry.frame
  pub low : 0x40000 ≤ page_number address
  pub high : page_number address < 0xf0000

none_some : (x : Option PageEntry) (e : PageEntry) → x ≡ None → x ≡ Some e → ⊥
none_some x e none some = cc

module _ (directories : List (Option ℕ)) (bytes : List ℕ) (roles : List Role) (p d : ℕ) (sound : IsSound directories bytes roles) (live : directory_of directories p ≡ Some d) where
  -- only pages of the user range have an entry
  user_entry : (page : ℕ) (e : PageEntry) → entry_at (frame_bytes bytes) d page ≡ Some e → IsUserPage page
  user_entry page e is = elim (user_cases page) [
    | inl user ↦ user
    | inr out ↦ absurd (none_some (entry_at (frame_bytes bytes) d page) e
        (sym (ap (option_and_then (λ d. entry_at (frame_bytes bytes) d page)) live)
        ∙ entry_by_table (directory_of directories) (frame_bytes bytes) (at_page p page)
        ∙ ap (option_and_then (λ table. word_entry (word_in (frame_bytes bytes table) (index_number page)))) (no_table_outside directories bytes roles p (slot_number page) sound (elim out [ inl l ↦ inl (omega arith) | inr l ↦ inr (omega arith) ])))
        is)
  ]

  pub found_entry : (address : ℕ) (access : Access) → address < 2 ^ 32 → IsOk (walk_of bytes d address access) → FoundEntry bytes d address access
  found_entry address access small ok =
      by (entry_at (frame_bytes bytes) d (page_number address)) refl (walks_read_entries bytes d address access (page_map_of directories bytes roles p d sound live) small)
    where
      no_frame : (r : Result ℕ WalkEnd) → is_ok r ≡ false → walk_of bytes d address access ≡ r → ⊥
      no_frame r none is = let a : is_ok r ≡ true = subst IsOk is ok in cc

      end : (e : PageEntry) → entry_at (frame_bytes bytes) d (page_number address) ≡ Some e → (b c : Bool) → (is_write access && not (lets_writes e)) ≡ b
          → walk_of bytes d address access ≡ (if b then not_allowed address access else if c then Err Outside else Ok e.frame) → FoundEntry bytes d address access
      end e here b c is walk = grind (arith, no_frame, user_entry)

      by : (x : Option PageEntry) → entry_at (frame_bytes bytes) d (page_number address) ≡ x → walk_of bytes d address access ≡ end_at_entry bytes address access x → FoundEntry bytes d address access
      by x here walk = grind (arith, no_frame, end)

  -- and back: a page that has an entry is found
  pub entry_found : (address : ℕ) (access : Access) (e : PageEntry) → address < 2 ^ 32 → entry_at (frame_bytes bytes) d (page_number address) ≡ Some e → (access ≡ Write → lets_writes e ≡ true)
      → walk_of bytes d address access ≡ Ok e.frame
  entry_found address access e small here right =
      walks_read_entries bytes d address access (page_map_of directories bytes roles p d sound live) small
      ∙ ap (end_at_entry bytes address access) here
      ∙ ap (λ b. if b then not_allowed address access else if is_outside bytes e.frame then Err Outside else Ok e.frame) (allowed access right)
      ∙ ap (λ b. if b then Err Outside else Ok e.frame) within
    where
      allowed : (a : Access) → (a ≡ Write → lets_writes e ≡ true) → (is_write a && not (lets_writes e)) ≡ false
      allowed a r = grind arith

      user : IsUserPage (page_number address)
      user = user_entry (page_number address) e here

      within : is_outside bytes e.frame ≡ false
      within =
          let i = (holds_inside directories bytes roles e.frame sound (sound.pages.pages (at_page p (page_number address)) e
          (get_user (directory_of directories) (frame_bytes bytes) p d (page_number address) e live (live_small directories p d sound.pids live) user.0 user.1 here))).fits in
          grind (arith, nat_tests)

  -- a walk finds a frame at each address of the page
  pub page_found : (address other : ℕ) (access : Access) → address < 2 ^ 32 → other < 2 ^ 32 → page_number other ≡ page_number address → IsOk (walk_of bytes d address access) → IsOk (walk_of bytes d other access)
  page_found address other access small also same ok = grind (arith, found_entry address access small ok, entry_found)

  module _ (address : ℕ) (access : Access) (f : FoundEntry bytes d address access) where
    -- the frame that was found is the one that the table word names
    pub named_frame : frame_number (table_word bytes d address) ≡ f.entry.frame
    named_frame = sym ((walks_find_what_leads bytes d address access f.entry.frame).0 f.walk).named

    pub found_inside : Inside bytes f.entry.frame
    found_inside = holds_inside directories bytes roles f.entry.frame sound (sound.pages.pages (at_page p (page_number address)) f.entry
        (get_user (directory_of directories) (frame_bytes bytes) p d (page_number address) f.entry live (live_small directories p d sound.pids live) f.low f.high f.here))

pub walk_named : (bytes : List ℕ) (d address x : ℕ) (access : Access) → walk_of bytes d address access ≡ Ok x → x ≡ frame_number (table_word bytes d address)
walk_named bytes d address x access is = ((walks_find_what_leads bytes d address access x).0 is).named

-- ---- A mark

-- one step after another
pub touched_then : (directories : List (Option ℕ)) (S1 S2 : Spaces) (bytes half two : List ℕ) (roles : List Role) → Touched directories S1 bytes roles half → Touched directories S2 half roles two → Touched directories S2 bytes roles two
touched_then directories S1 S2 bytes half two roles a b = record {
  sound = b.sound;
  spaces = b.spaces;
  cost = b.cost ∙ a.cost;
  in_use = λ before. b.in_use (a.in_use before);
  lazy = b.lazy ∙ a.lazy;
  stay = places_then none_goes (directory_of directories) (frame_bytes bytes) (directory_of directories)
      (frame_bytes half) (directory_of directories) (frame_bytes two) a.stay b.stay;
}

-- words of pages with equal entries are equal
same_words : (v w : ℕ) → NamesPage v → NamesPage w → entry_from v ≡ entry_from w → v ≡ w
same_words v w own new same =
    table_words_by_fields v w (inr own) (inr new)
    (ap (λ (x : PageEntry). x.frame) same) (own.present ∙ sym new.present) (ap (λ (x : PageEntry). x.write) same) (ap (λ (x : PageEntry). x.lazy) same)
    (ap (λ (x : PageEntry). x.accessed) same) (ap (λ (x : PageEntry). x.dirty) same) (ap (λ (x : PageEntry). x.may) same)

-- a marked word is that of the entry with its flags set
touched_is_entry : (access : Access) (w : ℕ) (e : PageEntry) → NamesPage w → entry_from w ≡ e → e.frame < 2 ^ 20 → (access ≡ Write → lets_writes e ≡ true) → IsKernelEntry (touched_entry access e) → entry_word (touched_entry access e) ≡ touched_word access w
touched_is_entry access w e n from small right rules =
    let new : NamesPage (touched_word access w) = touched_names access w n (λ is. n.writable ∙ ap lets_writes from ∙ right is) in
    let own : NamesPage (entry_word (touched_entry access e)) = entry_word-names (touched_entry access e) small rules in
    let same : entry_from (entry_word (touched_entry access e)) ≡ entry_from (touched_word access w) =
    entry_from-entry_word (touched_entry access e) small ∙ ap (touched_entry access) (sym from) ∙ sym (entry_from-touched access w) in
    same_words (entry_word (touched_entry access e)) (touched_word access w) own new same

-- a mark is a change of accessed in the directory word, and one of the page's entry
pub record MarkParts (directories : List (Option ℕ)) (bytes : List ℕ) (roles : List Role) (p d address : ℕ) (access : Access) (e : PageEntry) : Type 0 where
  pub half : List ℕ
  pub first : Touched directories (spaces_in directories bytes) bytes roles half
  pub here : entry_at (frame_bytes half) d (page_number address) ≡ Some e
  pub second : frame_bytes (marked bytes d address access) ≡ with_entry (frame_bytes half) (frame_number (dir_word (frame_bytes half) d (slot_number (page_number address)))) (page_number address) (touched_entry access e)
  pub long_half : length half ≡ length bytes
  pub long : length (marked bytes d address access) ≡ length half

-- a word that holds an entry, as the kernel writes it
pub record EntryWord (w : ℕ) (e : PageEntry) : Type 0 where
  pub names : NamesPage w
  pub from : entry_from w ≡ e

entry_of_word : (w : ℕ) (e : PageEntry) → IsKernelTableWord w → word_entry w ≡ Some e → EntryWord w e
entry_of_word w e k h = grind (arith, none_some)

-- and it is the word of that entry
pub word_of_entry : (w : ℕ) (e : PageEntry) → IsKernelTableWord w → word_entry w ≡ Some e → e.frame < 2 ^ 20 → IsKernelEntry e → w ≡ entry_word e
word_of_entry w e k h small rules =
    let held = entry_of_word w e k h in
    same_words w (entry_word e) held.names (entry_word-names e small rules) (held.from ∙ sym (entry_from-entry_word e small))

not_lazy : (e : PageEntry) → lets_writes e ≡ true → e.lazy ≡ false
not_lazy e h = grind arith

touched_rules : (access : Access) (e : PageEntry) → IsKernelEntry e → (access ≡ Write → lets_writes e ≡ true) → IsKernelEntry (touched_entry access e)
touched_rules access e rules right = grind (arith, not_lazy)

marked_words : (bytes : List ℕ) (d address : ℕ) (access : Access) (w t v : ℕ) → word_at bytes (word_place d (slot_number (page_number address))) ≡ w → frame_number w ≡ t
    → word_at (with_word bytes (word_place d (slot_number (page_number address))) (accessed_word w)) (word_place t (index_number (page_number address))) ≡ v
    → marked bytes d address access ≡ with_word (with_word bytes (word_place d (slot_number (page_number address))) (accessed_word w)) (word_place t (index_number (page_number address))) (touched_word access v)
unfolding marked
marked_words bytes d address access w t v first names second = grind arith

pub mark_parts : (directories : List (Option ℕ)) (bytes : List ℕ) (roles : List Role) (p d address : ℕ) (access : Access) → IsSound directories bytes roles → directory_of directories p ≡ Some d
    → (f : FoundEntry bytes d address access) → MarkParts directories bytes roles p d address access f.entry
mark_parts directories bytes roles p d address access sound live f =
    let D : Directories = directory_of directories in
    let m : Frames = frame_bytes bytes in
    let R : Roles = slice_get roles in
    let T : Tables D m R = sound.tables in
    let page : ℕ = page_number address in
    let s : ℕ = slot_number page in
    let i : ℕ = index_number page in
    let e : PageEntry = f.entry in
    let low = f.low in
    let small : s < 1024 = omega (arith, f.high) in
    let w : ℕ = dir_word m d s in
    let at = found D m p d page e f.here in
    let t : ℕ = at.table in
    let up : table_in D m p s ≡ Some t = ap (option_and_then (λ x. table_of m x s)) live ∙ at.there in
    let in_d : Inside bytes d = inside directories bytes roles d (Directory p) sound (T.directory p d live) in
    let in_t : Inside bytes t = inside directories bytes roles t (Table p s) sound (T.table p s t up) in
    let names : frame_number w ≡ t = table_by_word w t at.there in
    let present : is_present w ≡ true = present_by_table w (ap is_some at.there) in
    let lt : w < 2 ^ 32 = let h = in_t.small in omega (arith, names, h) in
    let word_is : word_at bytes (word_place d s) ≡ w = word_in-frame bytes d s small in
    let half : List ℕ = with_word bytes (word_place d s) (accessed_word w) in
    let long_half : length half ≡ length bytes = length-with_word bytes (word_place d s) (accessed_word w) (let h = in_d.fits in omega (arith, h, small)) in
    let frames_half : frame_bytes half ≡ with_frame m d (with_word_in (m d) s (accessed_word w)) = frames-with_word bytes d s (accessed_word w) small in_d.fits in
    let alike : DirsAlike D m (frame_bytes half) = one_dir_word directories bytes half roles p d s (accessed_word w) sound live small (with_flag_lt w 5 true lt (omega arith)) (flagged_alike w true lt present) frames_half in
    let v : ℕ = word_in (m t) i in
    let kept : frame_bytes half t ≡ m t = dirs-table D m (frame_bytes half) R T alike p s t up in
    let here : entry_at (frame_bytes half) d page ≡ Some e =
    sym (ap (option_and_then (λ d. entry_at (frame_bytes half) d page)) live) ∙ dirs-entry D m (frame_bytes half) R T alike (at_page p page) ∙ ap (option_and_then (λ d. entry_at m d page)) live ∙ f.here in
    let word_half : word_at half (word_place t i) ≡ v = word_in-frame half t i (omega arith) ∙ ap (λ l. word_in l i) kept in
    let is : marked bytes d address access ≡ with_word half (word_place t i) (touched_word access v) = marked_words bytes d address access w t v word_is names word_half in
    let fits_t : 4096 * t + 4096 ≤ length half = let h = in_t.fits in omega (arith, h, long_half) in
    let held = entry_of_word v e (T.table_words p s t i up (omega arith)) at.word in
    let rules = entry_rules directories bytes roles p d page e sound live f.here in
    let word_is_entry : entry_word (touched_entry access e) ≡ touched_word access v =
    touched_is_entry access v e held.names held.from (found_inside directories bytes roles p d sound live address access f).small f.right (touched_rules access e rules f.right) in
    let there_half : frame_number (dir_word (frame_bytes half) d s) ≡ t =
    table_by_word (dir_word (frame_bytes half) d s) t (sym (ap (option_and_then (λ x. table_of (frame_bytes half) x s)) live) ∙ dirs-tables D m (frame_bytes half) R T alike p s ∙ up) in
    record {
      half = half;
      first = (dirs_touched directories bytes half roles sound alike long_half);
      here = here;
      second = grind (arith, frames-with_word);
      long_half = long_half;
      long = ap length is ∙ length-with_word half (word_place t i) (touched_word access v) (omega (arith, fits_t));
    }

-- a mark for a load sets accessed in the slot
pub load_marked : (directories : List (Option ℕ)) (bytes : List ℕ) (roles : List Role) (p d address : ℕ) → IsSound directories bytes roles → directory_of directories p ≡ Some d
    → FoundEntry bytes d address Read → Touched directories (accessed_in (spaces_in directories bytes) (slot_at p address)) bytes roles (marked bytes d address Read)
load_marked directories bytes roles p d address sound live f =
    let k = mark_parts directories bytes roles p d address Read sound live f in
    let page : ℕ = page_number address in
    let e : PageEntry = f.entry in
    let few = live_small directories p d sound.pids live in
    let cell = cell_read directories k.half p d page e live few f.low f.high k.here in
    let rules = touched_rules Read e (entry_rules directories k.half roles p d page e k.first.sound live k.here) f.right in
    subst (λ S. Touched directories (accessed_in S (slot_at p address)) bytes roles (marked bytes d address Read)) k.first.spaces
    (touched_then directories _ _ bytes k.half (marked bytes d address Read) roles k.first
    (flags_set directories k.half (marked bytes d address Read) roles p d page e e.write true e.dirty _ k.first.sound live
    f.low f.high k.here rules (inr k.second) k.long (ap (λ (c : Cell). record c { accessed = true }) cell)))

-- nothing written is a change of no byte
nothing_written : (m : Frames) (f at : ℕ) → m ≡ with_frame m f (write_at (m f) at [])
nothing_written m f at = by_frame m m f (write_at (m f) at []) (sym (write_at-nothing (m f) at)) (λ g n. refl)

-- a mark for a store is a store of no byte
pub store_marked : (directories : List (Option ℕ)) (bytes : List ℕ) (roles : List Role) (p d address at : ℕ) → IsSound directories bytes roles → directory_of directories p ≡ Some d
    → (f : FoundEntry bytes d address Write) → Touched directories (stored (spaces_in directories bytes) (slot_at p address) at []) bytes roles (marked bytes d address Write)
store_marked directories bytes roles p d address at sound live f =
    let k = mark_parts directories bytes roles p d address Write sound live f in
    let page : ℕ = page_number address in
    let e : PageEntry = f.entry in
    let real = not_lazy e (f.right refl) in
    let place = stored_place directories k.half roles p d page e k.first.sound live f.low f.high k.here real in
    let same : frame_bytes k.half ≡ with_frame (frame_bytes k.half) e.frame (write_at (frame_bytes k.half e.frame) at []) = nothing_written (frame_bytes k.half) e.frame at in
    let long : length (write_at (frame_bytes k.half e.frame) at []) ≡ 4096 = ap length (write_at-nothing (frame_bytes k.half e.frame) at) ∙ place.long in
    subst (λ S. Touched directories (stored S (slot_at p address) at []) bytes roles (marked bytes d address Write)) k.first.spaces
    (touched_then directories _ _ bytes k.half (marked bytes d address Write) roles k.first
    (page_stored directories k.half k.half (marked bytes d address Write) roles p d page at [] e k.first.sound live f.low f.high k.here real long same refl (inr k.second) k.long))

-- ---- A byte written where the walk leads

-- memory after a mark for a store, and after one byte is written then where the walk led
pub record ByteParts (directories : List (Option ℕ)) (bytes : List ℕ) (roles : List Role) (p d address v : ℕ) (two : List ℕ) : Type 0 where
  pub touched : Touched directories (stored (spaces_in directories bytes) (slot_at p address) (offset_number address) (v % 256 ∷ [])) bytes roles two
  pub walks : (at : ℕ) (kind : Access) → at < 2 ^ 32 → walk_of two d at kind ≡ walk_of bytes d at kind

same_ends : (xs ys : List ℕ) (at : ℕ) (kind : Access) (x : Option PageEntry) → length xs ≡ length ys → end_at_entry xs at kind x ≡ end_at_entry ys at kind x
same_ends xs ys at kind None l = refl
same_ends xs ys at kind (Some e) l = ap (λ n. if is_write kind && not (lets_writes e) then not_allowed at kind else if nat_le n (4096 * e.frame) then Err Outside else Ok e.frame) l

-- a byte that is written where both flags are set already
pub byte_put : (directories : List (Option ℕ)) (bytes two : List ℕ) (roles : List Role) (p d address v : ℕ)
    → IsSound directories bytes roles → directory_of directories p ≡ Some d → address < 2 ^ 32
    → IsOk (walk_of bytes d address Write) → is_marked (spaces_in directories bytes) (slot_at p address) ≡ true
    → two ≡ slice_set bytes (byte_place bytes d address) (v % 256) → length two ≡ length bytes
    → ByteParts directories bytes roles p d address v two
byte_put directories bytes two roles p d address v sound live small ok flags is long =
    let page : ℕ = page_number address in
    let at : ℕ = offset_number address in
    let f = found_entry directories bytes roles p d sound live address Write small ok in
    let e : PageEntry = f.entry in
    let real = not_lazy e (f.right refl) in
    let place = stored_place directories bytes roles p d page e sound live f.low f.high f.here real in
    let within : at < 4096 = omega arith in
    let long_page = place.long in
    let frames : frame_bytes two ≡ with_frame (frame_bytes bytes) e.frame (write_at (frame_bytes bytes e.frame) at (v % 256 ∷ [])) =
    ap frame_bytes is
    ∙ ap (λ n. frame_bytes (slice_set bytes (4096 * n + at) (v % 256))) (named_frame directories bytes roles p d sound live address Write f)
    ∙ frames-with_byte bytes e.frame at (v % 256) within place.inside.fits
    ∙ ap (with_frame (frame_bytes bytes) e.frame) (byte_is_write (frame_bytes bytes e.frame) at v (omega (arith, long_page, within))) in
    let long_new : length (write_at (frame_bytes bytes e.frame) at (v % 256 ∷ [])) ≡ 4096 =
    length-write_at (frame_bytes bytes e.frame) at (v % 256 ∷ []) (omega (arith, long_page, within)) ∙ place.long in
    let read = cell_read directories bytes p d page e live (live_small directories p d sound.pids live) f.low f.high f.here in
    let set = and_parts (cell_or_fresh (spaces_in directories bytes) (at_page p page)).accessed (cell_or_fresh (spaces_in directories bytes) (at_page p page)).dirty flags in
    let accessed : e.accessed ≡ true = sym (ap (λ (c : Cell). c.accessed) read) ∙ set.0 in
    let dirty : e.dirty ≡ true = sym (ap (λ (c : Cell). c.dirty) read) ∙ set.1 in
    let same : record e { accessed = true; dirty = true } ≡ e = (λ i. record e { accessed = sym accessed i; dirty = sym dirty i }) in
    let touched = page_stored directories bytes two two roles p d page at (v % 256 ∷ []) e sound live f.low f.high f.here real long_new frames long (inl (same, refl)) refl in
    let written = frame_written directories bytes two roles e.frame (write_at (frame_bytes bytes e.frame) at (v % 256 ∷ [])) sound place.loose long_new frames long in
    record {
      touched = touched;
      walks = λ a kind l.
          walks_read_entries two d a kind (page_map_of directories two roles p d touched.sound live) l
          ∙ ap (end_at_entry two a kind) (written.entry p d (page_number a) live)
          ∙ same_ends two bytes a kind (entry_at (frame_bytes bytes) d (page_number a)) long
          ∙ sym (walks_read_entries bytes d a kind (page_map_of directories bytes roles p d sound live) l);
    }

-- the same after a mark, which sets them
pub byte_written : (directories : List (Option ℕ)) (bytes two : List ℕ) (roles : List Role) (p d address v : ℕ) → IsSound directories bytes roles → directory_of directories p ≡ Some d → address < 2 ^ 32
    → IsOk (walk_of bytes d address Write) → ((other at : ℕ) (kind : Access) → walk_of (marked bytes d address Write) other at kind ≡ walk_of bytes other at kind)
    → two ≡ slice_set (marked bytes d address Write) (byte_place bytes d address) (v % 256) → length two ≡ length (marked bytes d address Write) → ByteParts directories bytes roles p d address v two
byte_written directories bytes two roles p d address v sound live small ok walks is long =
    let m1 : List ℕ = marked bytes d address Write in
    let at : ℕ = offset_number address in
    let slot : Slot = slot_at p address in
    let S : Spaces = spaces_in directories bytes in
    let f = found_entry directories bytes roles p d sound live address Write small ok in
    let first = store_marked directories bytes roles p d address at sound live f in
    let flags : is_marked (spaces_in directories m1) slot ≡ true =
    ap (λ T. is_marked T slot) first.spaces ∙ (let set = stored-flags S slot at [] in λ i. set.0 i && set.1 i) in
    let same : byte_place bytes d address ≡ byte_place m1 d address =
    ap (λ n. 4096 * n + at) (sym (walk_named bytes d address f.entry.frame Write f.walk) ∙ walk_named m1 d address f.entry.frame Write (walks d address Write ∙ f.walk)) in
    let put = byte_put directories m1 two roles p d address v first.sound live small (subst IsOk (sym (walks d address Write)) ok) flags (is ∙ ap (λ n. slice_set m1 n (v % 256)) same) long in
    record {
      touched = subst (λ T. Touched directories T bytes roles two) (ap (λ T. stored T slot at (v % 256 ∷ [])) first.spaces ∙ stored-none S slot at (v % 256 ∷ []))
          (touched_then directories _ _ bytes m1 two roles first put.touched);
      walks = λ a kind l. put.walks a kind l ∙ walks d a kind;
    }
