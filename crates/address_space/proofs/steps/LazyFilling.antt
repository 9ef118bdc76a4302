-- What a lazy page that got a frame of its own leaves.
use Rattle.address_space.proofs.Prelude.{EntriesStay, of_lazy, ◌≡◌, ◌≢◌, ℕ, ◌+◌, ◌^◌, ◌<◌, ◌≤◌, true, false, List, length, replicate, refl, ap, sym, ◌∙◌, subst, arith, inr, Option, Some, length-set, slice_get, option_and_then, length-replicate, slot_number, frame_number, frame_bytes, with_frame, with_frame-same, with_frame-other, Role, Reserved, Free, Table, Page, free_frames, IsTaken, weight-taken, PageEntry, Frames, dir_word, table_of, entry_at, with_entry, entry_word, IsKernelEntry, entry_word-names, entry_word-lt, entry_word-present, word_entry-entry_word, Slot, at_page, Entries, names, lazy_count, spaces_of, holders_of, Directories, Roles, directory_of, table_in, entry_in, entries_in, spaces_in, total_cost, Tables, Pages, IsSpaces, InUseAt, PageFilled, ne_eqb}
use Rattle.address_space.proofs.steps.Steps.{sound_by, inside, live_small, table_by_word, role_own, role_other, free_loose, page_loose}
use Rattle.address_space.proofs.costs.Costed.{free_where_light}
use Rattle.address_space.proofs.entries.EntrySteps.{entries-insert, entry_own, entry_other, tables-entry, tables_kept, use_kept}
use Rattle.address_space.proofs.frames.FrameSteps.{tables-role}
use Rattle.address_space.proofs.frames.PageSteps.{same_bytes, pages-more, unused, unused_count, no_free, no_table, lazy-filled, lazy-fewer, holders-less}
use Rattle.address_space.proofs.entries.Refinement.{fill_refines}
use Rattle.address_space.proofs.steps.Stores.{found, get_user, entry_rules, frame_written}
use Rattle.address_space.proofs.entries.Staying.{stay_filled, places_by}
use Rattle.page_words.specs.FiniteMap as map
use Rattle.page_words.specs.FiniteSet as set

-- a lazy page leaves room for its frame
pub room_to_fill : (directories : List (Option ℕ)) (bytes : List ℕ) (roles : List Role) (p d page : ℕ) (e : PageEntry) → IsSpaces directories bytes roles → directory_of directories p ≡ Some d
    → 0x40000 ≤ page → page < 0xf0000 → entry_at (frame_bytes bytes) d page ≡ Some e → e.lazy ≡ true → 0 < free_frames roles
room_to_fill directories bytes roles p d page e s live low high is lazy =
    let there = get_user (directory_of directories) (frame_bytes bytes) p d page e live (live_small directories p d s.sound.pids live) low high is in
    let zero = (entry_rules directories bytes roles p d page e s.sound live is).zero lazy in
    let less = (holders-less (entries_in (directory_of directories) (frame_bytes bytes)) (at_page p page) e there).0 in
    grind (arith, free_where_light)

-- a lazy page got a frame of zeros: the spaces stay, and so do the costs
pub page_filled : (directories : List (Option ℕ)) (bytes one two : List ℕ) (roles roles' : List Role) (p d page f : ℕ) (e : PageEntry) → IsSpaces directories bytes roles → directory_of directories p ≡ Some d
    → 0x40000 ≤ page → page < 0xf0000 → entry_at (frame_bytes bytes) d page ≡ Some e → e.lazy ≡ true
    → IsTaken roles f (Page 1) roles' → frame_bytes one ≡ with_frame (frame_bytes bytes) f (replicate 4096 0) → length one ≡ length bytes
    → frame_bytes two ≡ with_entry (frame_bytes one) (frame_number (dir_word (frame_bytes one) d (slot_number page))) page (record e { frame = f; lazy = false }) → length two ≡ length one
    → PageFilled directories p page bytes roles two roles'
unfolding spaces_in
page_filled directories bytes one two roles roles' p d page f e s live low high is_entry lazy taken is_one long_one is_two long_two =
    let sound = s.sound in
    let few : p < 64 = live_small directories p d sound.pids live in
    let D : Directories = directory_of directories in
    let m : Frames = frame_bytes bytes in
    let m1 : Frames = frame_bytes one in
    let e' : PageEntry = record e { frame = f; lazy = false } in
    let slot : Slot = at_page p page in
    let R : Roles = slice_get roles in
    let R' : Roles = slice_get roles' in
    let E : Entries = entries_in D m in
    let T : Tables D m R = sound.tables in
    let free : R f ≡ Some Free = taken.was_free in
    let small : f < 2 ^ 20 = (inside directories bytes roles f Free sound free).small in
    let up : 1 ≤ f = above T free in
    let rules = entry_rules directories bytes roles p d page e sound live is_entry in
    let rules' : IsKernelEntry e' = record { frame = λ _. up; zero = λ h. cc; clean = λ h. cc; right = rules.right; touched = rules.touched } in
    let there : map.get E slot ≡ Some e = get_user D m p d page e live few low high is_entry in
    let zero : e.frame ≡ 0 = rules.zero lazy in
    let own : R' f ≡ Some (Page 1) = role_own roles roles' f Free (Page 1) free taken.now in
    let others : (g : ℕ) → g ≢ f → R' g ≡ R g = role_other roles roles' f (Page 1) taken.now in
    let w = frame_written directories bytes one roles f (replicate 4096 0) sound (free_loose R f free) (length-replicate {A = ℕ} 4096 0) is_one long_one in
    let Tb : Tables D m1 R' = tables-role D m1 R R' f Free w.sound.tables free (free_loose R f free) (page_loose R' f 1 own) others in
    let here = found D m1 p d page e (w.entry p d page live ∙ is_entry) in
    let t : ℕ = here.table in
    let m2 : Frames = with_entry m1 t page e' in
    let role_t : R t ≡ Some (Table p (slot_number page)) = w.sound.tables.table p (slot_number page) t (ap (option_and_then (λ x. table_of m1 x (slot_number page))) live ∙ here.there) in
    let t_f : f ≢ t = λ same. (let k : R f ≡ R t = ap R same in cc) in
    let is : frame_bytes two ≡ m2 = is_two ∙ ap (λ g. with_entry m1 g page e') (table_by_word (dir_word m1 d (slot_number page)) t here.there) in
    let E2 : entries_in D (frame_bytes two) ≡ map.insert E slot e' = ap (entries_in D) is ∙ entries-insert D m1 R' Tb p d page t (entry_word e') live here.there (entry_word-lt e' small) e' (word_entry-entry_word e' small) few low high ∙ ap (λ x. map.insert x slot e') w.entries in
    let nowhere : (g c : ℕ) → R' g ≡ Some (Page c) → names g (map.get E slot) ≡ false = λ g c role. ap (names g) there ∙ ne_eqb e.frame g (λ same.
    let z : 0 ≢ f = (λ i. omega (arith, i, up)) in let a : R' 0 ≡ Some Reserved = others 0 z ∙ T.zero_role in let k : R' 0 ≡ R' g = ap R' (sym zero ∙ same) in cc) in
    let P2 : Pages (map.insert E slot e') R' = pages-more E R R' slot e' 0 sound.pages nowhere own (unused_count E R f sound.pages free) others in
    let same_length : length roles' ≡ length roles = ap length taken.now ∙ length-set roles f (Page 1) in
    let zeros_0 : m2 0 ≡ replicate 4096 0 = with_frame-other m1 t 0 _ (λ same. let k : R 0 ≡ R t = ap R same in let z = T.zero_role in cc) ∙ (λ i. is_one i 0) ∙ with_frame-other m f 0 _ (λ same. omega (arith, same, up)) ∙ T.zero_bytes in
    let zeros_f : m2 f ≡ replicate 4096 0 = with_frame-other m1 t f _ t_f ∙ (λ i. is_one i f) ∙ with_frame-same m f (replicate 4096 0) in
    let page_kept : (q : Slot) (x : PageEntry) → map.get E q ≡ Some x → m2 x.frame ≡ m x.frame = λ q x was.
    let holds = sound.pages.pages q x was in
    with_frame-other m1 t x.frame _ (no_table R x.frame t p (slot_number page) holds role_t) ∙ (λ i. is_one i x.frame) ∙ with_frame-other m f x.frame _ (no_free R x.frame f holds free) in
    let spaces : spaces_of (entries_in D (frame_bytes two)) (frame_bytes two) ≡ spaces_of E m =
    (λ i. spaces_of (E2 i) (is i)) ∙ fill_refines E m2 slot e f there zero (unused E R f sound.pages free) (ne_eqb f 0 (λ z. omega (arith, z, up))) zeros_0 zeros_f ∙ same_bytes E m m2 page_kept in
    let total : total_cost directories (spaces_of (entries_in D (frame_bytes two)) (frame_bytes two)) ≡ total_cost directories (spaces_of E m) = ap (total_cost directories) spaces in
    let less : lazy_count (entries_in D (frame_bytes two)) + 1 ≡ lazy_count E = ap (λ x. lazy_count x + 1) E2 ∙ lazy-filled E slot e e' there zero (λ z. omega (arith, z, up)) in
    let tables : (q r : ℕ) → table_in D (frame_bytes two) q r ≡ table_in D m q r = λ q r. ap (λ x. table_in D x q r) is ∙ tables_kept D m1 R' Tb p d page t (entry_word e') live here.there (entry_word-lt e' small) q r ∙ w.tables q r in
    record {
      after = record {
        sound = sound_by directories bytes two roles roles' _ _ sound (long_two ∙ long_one) same_length is
            (tables-entry D m1 R' Tb p d page t (entry_word e') live here.there (entry_word-lt e' small) (inr (entry_word-names e' small rules'))) E2 P2;
        in_use = λ q r. subst (λ x. InUseAt D x q r) (sym is) (use_kept D m1 R' Tb p d page t (entry_word e') live here.there (entry_word-lt e' small) (entry_word-present e') q r (w.in_use s.in_use q r));
        weighs = omega (arith, s.weighs, weight-taken roles roles' f (Page 1) taken, less, total);
        within = omega (arith, s.within, total, same_length);
      };
      spaces = spaces;
      real = (e', ap (λ x. entry_in D x slot) is ∙ entry_own D m1 R' Tb p d page t (entry_word e') live here.there (entry_word-lt e' small) ∙ word_entry-entry_word e' small, refl);
      fewer = λ q was. ap (λ x. set.contains (holders_of x 0) q) E2 ∙ lazy-fewer E slot e' (λ z. omega (arith, z, up)) q was;
      stay = places_by (of_lazy p page) D m D (frame_bytes two) (subst (EntriesStay (of_lazy p page) E) (sym E2) (stay_filled E p page e e' there zero)) (λ q r g found. tables q r ∙ found);
      tables = tables;
      others = λ q n. ap (λ x. entry_in D x q) is ∙ entry_other D m1 R' Tb p d page t (entry_word e') live here.there (entry_word-lt e' small) q n ∙ (grind arith);
      length = same_length;
    }
  where
    above : Tables (directory_of directories) (frame_bytes bytes) (slice_get roles) → slice_get roles f ≡ Some Free → 1 ≤ f
    above T free = let n : f ≢ 0 = (λ is. let a = T.zero_role in let k : slice_get roles 0 ≡ slice_get roles f = ap (slice_get roles) (sym is) in cc) in omega arith
