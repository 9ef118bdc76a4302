-- Proofs of the laws of a page map.
use Rattle.page_map.proofs.Prelude
use Prelude.{◌≡◌, ◌≢◌, ℕ, ◌+◌, ◌*◌, ◌<◌, ◌≤◌, true, false, List, length, replicate, refl, ap, ◌∙◌, arith, inl, inr, Some, None, option_and_then, page_number, slot_number, index_number, frame_number, is_present, NamesTable, NamesPage, same_map, frame_bytes, word_at, word_in, word_place, Access, Frames, dir_word, word_table, table_of, entry_from, word_entry, entry_at, IsFreshTable, length-frame, word_in-frame, word_in-zeros, walk_of, is_outside, not_present, BlankFramesAreMaps, BlankFramesMapNothing, WalksReadEntries, end_at_entry}
use Rattle.std.proofs.lemmas.Bool.Decides.{nat_tests}
use Rattle.page_map.proofs.PageLemmas.{get-entries_user, get-entries_other, user_cases}
use Rattle.page_map.proofs.MapChanges.{table_there, present_entry}
use Rattle.page_map.proofs.MapSteps.{some_not_none}

-- each word of a blank directory is 0
blank_word : (m : Frames) (d slot : ℕ) → m d ≡ replicate 4096 0 → slot < 1024 → dir_word m d slot ≡ 0
blank_word m d slot blank small = ap (λ l. word_in l slot) blank ∙ word_in-zeros 4096 slot (omega arith)

blank_table : (m : Frames) (d slot : ℕ) → m d ≡ replicate 4096 0 → slot < 1024 → table_of m d slot ≡ None
blank_table m d slot blank small = ap word_table (blank_word m d slot blank small)

pub blank_frames_are_maps : BlankFramesAreMaps
blank_frames_are_maps bytes d inside blank = grind (arith, length-frame, some_not_none, blank_table, blank_word)

pub blank_frames_map_nothing : BlankFramesMapNothing
blank_frames_map_nothing m d blank = same_map _ _ (λ q. elim (user_cases q) [
  | inl user ↦ get-entries_user m d q user ∙ ap (option_and_then (λ table. word_entry (word_in (m table) (index_number q)))) (blank_table m d (slot_number q) blank (let h = user.1 in omega arith))
  | inr other ↦ get-entries_other m d q other
])

-- any other frame can become a table of a blank directory
pub blank_fresh : (m : Frames) (d slot t : ℕ) → m d ≡ replicate 4096 0 → slot < 1024 → 1 ≤ t → t ≢ d → IsFreshTable m d slot t
blank_fresh m d slot t blank small nonzero apart = grind (arith, blank_table, some_not_none)

-- ---- The walk

inside_is : (bytes : List ℕ) (f : ℕ) → 4096 * f + 4096 ≤ length bytes → is_outside bytes f ≡ false
inside_is bytes f h = grind (arith, nat_tests)

walk_no_table : (bytes : List ℕ) (d address : ℕ) (access : Access) → is_outside bytes d ≡ false → word_at bytes (word_place d (slot_number (page_number address))) ≡ 0
    → walk_of bytes d address access ≡ not_present address access
unfolding walk_of
walk_no_table bytes d address access inside zero = rw (inside, zero) refl

walk_no_page : (bytes : List ℕ) (d address w : ℕ) (access : Access) → is_outside bytes d ≡ false → word_at bytes (word_place d (slot_number (page_number address))) ≡ w
    → is_present w ≡ true → is_outside bytes (frame_number w) ≡ false → word_at bytes (word_place (frame_number w) (index_number (page_number address))) ≡ 0 → walk_of bytes d address access ≡ not_present address access
unfolding walk_of
walk_no_page bytes d address w access inside is present table_inside zero = rw (inside, is, present, table_inside, zero) refl

walk_to_page : (bytes : List ℕ) (d address w v : ℕ) (access : Access) → is_outside bytes d ≡ false → word_at bytes (word_place d (slot_number (page_number address))) ≡ w
    → NamesTable w → is_outside bytes (frame_number w) ≡ false → word_at bytes (word_place (frame_number w) (index_number (page_number address))) ≡ v → NamesPage v
    → walk_of bytes d address access ≡ end_at_entry bytes address access (Some (entry_from v))
unfolding walk_of
walk_to_page bytes d address w v access inside is names table_inside also page = rw (inside, is, names.present, table_inside, also, page.present, names.user, page.user, names.writable, page.writable) refl

-- the walk of a page map ends as the entry of the page says
pub walks_read_entries : WalksReadEntries
walks_read_entries bytes d address access P fits =
    elim (P.dir_words (slot_number (page_number address)) small) [
      | inl zero ↦ grind (arith, walk_no_table, inside_is, dir_is)
      | inr names ↦
          let there : table_of (frame_bytes bytes) d (slot_number (page_number address)) ≡ Some (frame_number (dir_word (frame_bytes bytes) d (slot_number (page_number address)))) = table_there (frame_bytes bytes) d (slot_number (page_number address)) names.present in
          let inside = P.tables_inside (slot_number (page_number address)) (frame_number (dir_word (frame_bytes bytes) d (slot_number (page_number address)))) small there in
          let table_is = word_in-frame bytes (frame_number (dir_word (frame_bytes bytes) d (slot_number (page_number address)))) (index_number (page_number address)) (omega arith) in
          let entry_is : entry_at (frame_bytes bytes) d (page_number address) ≡ word_entry (word_in ((frame_bytes bytes) (frame_number (dir_word (frame_bytes bytes) d (slot_number (page_number address))))) (index_number (page_number address))) = ap (option_and_then (λ table. word_entry (word_in ((frame_bytes bytes) table) (index_number (page_number address))))) there in
          elim (P.table_words (slot_number (page_number address)) (frame_number (dir_word (frame_bytes bytes) d (slot_number (page_number address)))) (index_number (page_number address)) small (omega arith) there) [
            | inl zero ↦ grind (arith, walk_no_page, inside_is, dir_is)
            | inr page ↦ grind (arith, walk_to_page, inside_is, dir_is, present_entry)
          ]
    ]
  where
    small : slot_number (page_number address) < 1024
    small = omega arith

    dir_is : word_at bytes (word_place d (slot_number (page_number address))) ≡ dir_word (frame_bytes bytes) d (slot_number (page_number address))
    dir_is = word_in-frame bytes d (slot_number (page_number address)) small
