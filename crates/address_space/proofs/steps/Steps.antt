-- What each step of the code leaves.
use Rattle.address_space.proofs.Prelude.{◌≡◌, ◌≢◌, ℕ, ◌+◌, ◌*◌, ◌^◌, ◌<◌, ◌≤◌, Bool, true, false, List, length, replicate, refl, ap, sym, ◌∙◌, subst, arith, inl, inr, Option, Some, None, length-set, cond, is_some, slice_get, slice_set, option_and_then, option_map, slice_get_within, slot_number, is_present, frame_number, frame_bytes, word_in, with_frame, with_frame_bytes, Role, Reserved, Free, Directory, Table, Page, IsTaken, frames_weight, get-set_same, get-set_other, weight-taken, length-frame, with_frame-other, frames-with_frame_bytes, entry_word-names, entry_word-lt, entry_word-present, word_entry-entry_word, length-replicate, PageEntry, Frames, dir_word, word_table, table_of, with_table, with_entry, entry_word, IsKernelEntry, IsPageMap, Slot, fresh, at_page, slot_order, Entries, lazy_count, cell_of, spaces_of, Directories, Roles, directory_of, table_in, entry_in, entries_in, spaces_in, total_cost, Tables, Pages, HoldsPage, IsSound, InUseAt, Inside, TableGiven, PageAdded, SlotAdded, get-insert, same_itself}
use Rattle.address_space.proofs.entries.Refinement.{lazy_refines, get-spaces_of}
use Rattle.address_space.proofs.costs.CostSteps.{total-entry}
use Rattle.address_space.proofs.entries.EntrySteps.{Loose, entries-insert, entry_own, tables-entry, tables_kept, use_own, use_kept}
use Rattle.address_space.proofs.frames.FrameSteps.{tables-linked, linked-entries, linked-own, linked-others, linked-other, kept_table, loose-directory, tables-loose}
use Rattle.address_space.proofs.frames.PageSteps.{same_bytes, pages-role, pages-lazy, lazy-more, kept_holder, no_free, no_table, no_directory}
use Rattle.address_space.proofs.entries.Staying.{places_new}
use Rattle.page_words.specs.FiniteMap as map

-- a frame with a role lies in memory
inside_by : (bytes : List ℕ) (roles : List Role) (f : ℕ) (r : Role) → length bytes ≡ 4096 * length roles → length roles ≤ 1048576 → slice_get roles f ≡ Some r → Inside bytes f
inside_by bytes roles f r a b is = let h = slice_get_within roles f r is in record { fits = omega arith; small = omega arith }

pub inside : (directories : List (Option ℕ)) (bytes : List ℕ) (roles : List Role) (f : ℕ) (r : Role) → IsSound directories bytes roles → slice_get roles f ≡ Some r → Inside bytes f
inside directories bytes roles f r s is = inside_by bytes roles f r s.size s.few is

-- memory of the same size whose tables and pages agree with as many roles is sound
pub sound_by : (directories : List (Option ℕ)) (bytes two : List ℕ) (roles roles' : List Role) (m2 : Frames) (E : Entries) → IsSound directories bytes roles → length two ≡ length bytes → length roles' ≡ length roles
    → frame_bytes two ≡ m2 → Tables (directory_of directories) m2 (slice_get roles') → entries_in (directory_of directories) (frame_bytes two) ≡ E → Pages E (slice_get roles') → IsSound directories two roles'
sound_by directories bytes two roles roles' m2 E sound long same is h entries k = grind arith

-- each process's page map is as the layer below asks
pub page_map_by : (D : Directories) (bytes : List ℕ) (roles : List Role) (p d : ℕ) → length bytes ≡ 4096 * length roles → length roles ≤ 1048576 → Tables D (frame_bytes bytes) (slice_get roles) → D p ≡ Some d → IsPageMap bytes d
page_map_by D bytes roles p d size few T live =
    let m : Frames = frame_bytes bytes in
    let up : (slot t : ℕ) → table_of m d slot ≡ Some t → table_in D m p slot ≡ Some t = λ slot t is. ap (option_and_then (λ x. table_of m x slot)) live ∙ is in
    record {
      long = length-frame bytes;
      directory_inside = (inside_by bytes roles d (Directory p) size few (T.directory p d live)).fits;
      tables_inside = λ slot t l is. (inside_by bytes roles t (Table p slot) size few (T.table p slot t (up slot t is))).fits;
      apart = λ slot t l is same. let a = T.table p slot t (up slot t is) in let b = T.directory p d live in let k : slice_get roles t ≡ slice_get roles d = ap (slice_get roles) same in cc;
      distinct = λ slot other t l k is also. let a = T.table p slot t (up slot t is) in let b = T.table p other t (up other t also) in cc;
      dir_words = λ slot l. T.dir_words p d slot live l;
      table_words = λ slot t i l k is. T.table_words p slot t i (up slot t is) k;
    }

pub page_map_of : (directories : List (Option ℕ)) (bytes : List ℕ) (roles : List Role) (p d : ℕ) → IsSound directories bytes roles → directory_of directories p ≡ Some d → IsPageMap bytes d
page_map_of directories bytes roles p d s live = page_map_by (directory_of directories) bytes roles p d s.size s.few s.tables live

-- roles after one was set
pub role_own : (roles roles' : List Role) (f : ℕ) (was role : Role) → slice_get roles f ≡ Some was → roles' ≡ slice_set roles f role → slice_get roles' f ≡ Some role
role_own roles roles' f was role is now = ap (λ l. slice_get l f) now ∙ get-set_same roles f role (slice_get_within roles f was is)

pub role_other : (roles roles' : List Role) (f : ℕ) (role : Role) → roles' ≡ slice_set roles f role → (g : ℕ) → g ≢ f → slice_get roles' g ≡ slice_get roles g
role_other roles roles' f role now g n = ap (λ l. slice_get l g) now ∙ get-set_other roles f g role n

-- a blank table was linked
pub table_given : (directories : List (Option ℕ)) (bytes bytes' : List ℕ) (roles roles' : List Role) (p d s t : ℕ) → IsSound directories bytes roles → directory_of directories p ≡ Some d
    → 256 ≤ s → s < 960 → table_of (frame_bytes bytes) d s ≡ None → IsTaken roles t (Table p s) roles' → frame_bytes bytes' ≡ with_table (frame_bytes bytes) d s t → length bytes' ≡ length bytes
    → TableGiven directories p s bytes roles bytes' roles'
unfolding spaces_in
table_given directories bytes bytes' roles roles' p d s t sound live low high none taken is long =
    let D : Directories = directory_of directories in
    let m : Frames = frame_bytes bytes in
    let R : Roles = slice_get roles in
    let R' : Roles = slice_get roles' in
    let T : Tables D m R = sound.tables in
    let free : R t ≡ Some Free = taken.was_free in
    let small = (inside directories bytes roles t Free sound free).small in
    let own : R' t ≡ Some (Table p s) = role_own roles roles' t Free (Table p s) free taken.now in
    let others : (g : ℕ) → g ≢ t → R' g ≡ R g = role_other roles roles' t (Table p s) taken.now in
    let same_length : length roles' ≡ length roles = ap length taken.now ∙ length-set roles t (Table p s) in
    let E : entries_in D (frame_bytes bytes') ≡ entries_in D m = ap (entries_in D) is ∙ linked-entries D m R T p d s t live none free small low high in
    let page_kept : (q : Slot) (e : PageEntry) → map.get (entries_in D m) q ≡ Some e → frame_bytes bytes' e.frame ≡ m e.frame = λ q e found.
    let holds = sound.pages.pages q e found in
    (λ i. is i e.frame) ∙ linked-other D m R T p d s t live none free small low high e.frame
    (no_directory R e.frame d p holds (T.directory p d live)) (no_free R e.frame t holds free) in
    record {
      sound = sound_by directories bytes bytes' roles roles' _ _ sound long same_length is (tables-linked D m R T p d s t live none free small low high R' own others)
          E (pages-role (entries_in D m) R R' t sound.pages (λ h. cc) (λ c h. cc) (λ c h. cc) others);
      entries = E;
      spaces = ap (λ x. spaces_of x (frame_bytes bytes')) E ∙ same_bytes (entries_in D m) m (frame_bytes bytes') page_kept;
      table = (t, ap (λ x. table_in D x p s) is ∙ linked-own D m R T p d s t live none free small low high);
      tables = λ q r g found. ap (λ x. table_in D x q r) is
          ∙ linked-others D m R T p d s t live none free small low high q r
          (λ a b. let k : None ≡ Some g = sym ((λ i. table_in D m (a i) (b i))
          ∙ ap (option_and_then (λ x. table_of m x s)) live ∙ none) ∙ found in cc) ∙ found;
      kept = λ q r g found. (λ i. is i g) ∙ kept_table D m R T p d s t live none free small low high q r g found;
      weight = grind (arith, weight-taken);
      length = same_length;
      others = λ q r n use_at f found.
          let old : table_in D m q r ≡ Some f = sym (ap (λ x. table_in D x q r) is ∙ linked-others D m R T p d s t live none free small low high q r n) ∙ found in
          let u = use_at f old in
          (u.0, u.1, ap (λ l. is_present (word_in l u.0)) ((λ i. is i f) ∙ kept_table D m R T p d s t live none free small low high q r f old) ∙ u.2);
    }

-- and it is the slot's table then
pub table_given_there : (directories : List (Option ℕ)) (bytes bytes' : List ℕ) (roles roles' : List Role) (p d s t : ℕ) → IsSound directories bytes roles → directory_of directories p ≡ Some d
    → 256 ≤ s → s < 960 → table_of (frame_bytes bytes) d s ≡ None → IsTaken roles t (Table p s) roles' → frame_bytes bytes' ≡ with_table (frame_bytes bytes) d s t
    → table_in (directory_of directories) (frame_bytes bytes') p s ≡ Some t
table_given_there directories bytes bytes' roles roles' p d s t sound live low high none taken is =
    let D : Directories = directory_of directories in
    let free : slice_get roles t ≡ Some Free = taken.was_free in
    let small = (inside directories bytes roles t Free sound free).small in
    ap (λ x. table_in D x p s) is ∙ linked-own D (frame_bytes bytes) (slice_get roles) sound.tables p d s t live none free small low high

-- a process with a directory is one of the 64
pub live_small : (directories : List (Option ℕ)) (p d : ℕ) → length directories ≡ 64 → directory_of directories p ≡ Some d → p < 64
live_small directories p d l live = grind (arith, slice_get_within)

-- a frame that was zeroed
pub zeroed : (bytes one : List ℕ) (f : ℕ) → Inside bytes f → one ≡ with_frame_bytes bytes f (replicate 4096 0) → frame_bytes one ≡ with_frame (frame_bytes bytes) f (replicate 4096 0)
zeroed bytes one f i is = ap frame_bytes is ∙ frames-with_frame_bytes bytes (replicate 4096 0) f i.fits (length-replicate {A = ℕ} 4096 0)

pub none_before : (E : Entries) (m : Frames) (q : Slot) (x : Option PageEntry) → option_map (cell_of E m q) x ≡ None → x ≡ None
none_before E m q x h = grind arith

pub table_by_word : (word t : ℕ) → word_table word ≡ Some t → frame_number word ≡ t
table_by_word word t h = grind arith

-- a frame that an entry may name lies in memory
pub holds_inside : (directories : List (Option ℕ)) (bytes : List ℕ) (roles : List Role) (f : ℕ) → IsSound directories bytes roles → HoldsPage (slice_get roles f) → Inside bytes f
holds_inside directories bytes roles f sound (inl r) = inside directories bytes roles f Reserved sound r
holds_inside directories bytes roles f sound (inr h) = inside directories bytes roles f (Page h.0) sound h.1

-- the entry of a fresh page
abbrev pub lazy_entry : Bool → PageEntry
lazy_entry write = record { frame = 0; write = write; may = true; accessed = false; dirty = false; lazy = true }

-- memory and roles that are ready for a new entry at a slot that has none
pub record IsReady (directories : List (Option ℕ)) (bytes : List ℕ) (roles : List Role) (d page : ℕ) (slot : Slot) (e : PageEntry) (one : List ℕ) (roles' : List Role) : Type 0 where
  pub size : length one ≡ length bytes
  pub length : length roles' ≡ length roles
  pub small : e.frame < 2 ^ 20
  pub tables : Tables (directory_of directories) (frame_bytes one) (slice_get roles')
  pub pages : Pages (map.insert (entries_in (directory_of directories) (frame_bytes bytes)) slot e) (slice_get roles')
  pub entries : entries_in (directory_of directories) (frame_bytes one) ≡ entries_in (directory_of directories) (frame_bytes bytes)
  pub table : table_of (frame_bytes one) d (slot_number page) ≡ table_of (frame_bytes bytes) d (slot_number page)
  pub rules : IsKernelEntry e
  pub kept : (q : Slot) (x : PageEntry) → map.get (entries_in (directory_of directories) (frame_bytes bytes)) q ≡ Some x → frame_bytes one x.frame ≡ frame_bytes bytes x.frame
  pub weight : frames_weight roles' + lazy_count (map.insert (entries_in (directory_of directories) (frame_bytes bytes)) slot e) ≡ frames_weight roles + lazy_count (entries_in (directory_of directories) (frame_bytes bytes)) + 1
  pub used : (q r : ℕ) → InUseAt (directory_of directories) (frame_bytes bytes) q r → InUseAt (directory_of directories) (frame_bytes one) q r
  pub linked : (q r : ℕ) → table_in (directory_of directories) (frame_bytes one) q r ≡ table_in (directory_of directories) (frame_bytes bytes) q r

-- what the new entry leaves
pub record EntryAdded (directories : List (Option ℕ)) (bytes : List ℕ) (roles : List Role) (p page : ℕ) (e : PageEntry) (one two : List ℕ) (roles' : List Role) : Type 0 where
  pub slot : SlotAdded directories p page bytes roles two roles'
  pub entries : entries_in (directory_of directories) (frame_bytes two) ≡ map.insert (entries_in (directory_of directories) (frame_bytes bytes)) (at_page p page) e
  pub own : entry_in (directory_of directories) (frame_bytes two) (at_page p page) ≡ Some e
  pub held : (f : ℕ) → HoldsPage (slice_get roles' f) → frame_bytes two f ≡ frame_bytes one f
  pub kept : (q : Slot) (x : PageEntry) → map.get (entries_in (directory_of directories) (frame_bytes bytes)) q ≡ Some x → frame_bytes two x.frame ≡ frame_bytes bytes x.frame
  pub linked : (q r : ℕ) → table_in (directory_of directories) (frame_bytes two) q r ≡ table_in (directory_of directories) (frame_bytes bytes) q r

pub entry_added : (directories : List (Option ℕ)) (bytes one two : List ℕ) (roles roles' : List Role) (p d page t : ℕ) (e : PageEntry) → IsSound directories bytes roles → directory_of directories p ≡ Some d
    → 0x40000 ≤ page → page < 0xf0000 → map.get (entries_in (directory_of directories) (frame_bytes bytes)) (at_page p page) ≡ None → table_of (frame_bytes bytes) d (slot_number page) ≡ Some t
    → IsReady directories bytes roles d page (at_page p page) e one roles'
    → frame_bytes two ≡ with_entry (frame_bytes one) (frame_number (dir_word (frame_bytes one) d (slot_number page))) page e → length two ≡ length one
    → EntryAdded directories bytes roles p page e one two roles'
unfolding spaces_in
entry_added directories bytes one two roles roles' p d page t e sound live low high none there ready is_two long_two =
    let few : p < 64 = live_small directories p d sound.pids live in
    let D : Directories = directory_of directories in
    let m : Frames = frame_bytes bytes in
    let m1 : Frames = frame_bytes one in
    let m2 : Frames = with_entry m1 t page e in
    let slot : Slot = at_page p page in
    let R' : Roles = slice_get roles' in
    let T : Tables D m1 R' = ready.tables in
    let E : Entries = entries_in D m in
    let there1 : table_of m1 d (slot_number page) ≡ Some t = ready.table ∙ there in
    let role_t : R' t ≡ Some (Table p (slot_number page)) = T.table p (slot_number page) t (ap (option_and_then (λ x. table_of m1 x (slot_number page))) live ∙ there1) in
    let lt = entry_word-lt e ready.small in
    let word = word_entry-entry_word e ready.small in
    let present = entry_word-present e in
    let is : frame_bytes two ≡ m2 = is_two ∙ ap (λ g. with_entry m1 g page e) (table_by_word (dir_word m1 d (slot_number page)) t there1) in
    let E2 : entries_in D (frame_bytes two) ≡ map.insert E slot e = ap (entries_in D) is ∙ entries-insert D m1 R' T p d page t (entry_word e) live there1 lt e word few low high ∙ ap (λ x. map.insert x slot e) ready.entries in
    let held : (f : ℕ) → HoldsPage (R' f) → frame_bytes two f ≡ m1 f = λ f holds. (λ i. is i f) ∙ with_frame-other m1 t f _ (no_table R' f t p (slot_number page) holds role_t) in
    let own : map.get (map.insert E slot e) slot ≡ Some e = get-insert E slot e slot ∙ ap (λ b. cond b (Some e) (map.get E slot)) (same_itself slot_order slot) in
    let linked : (q r : ℕ) → table_in D (frame_bytes two) q r ≡ table_in D m q r = λ q r.
    ap (λ x. table_in D x q r) is ∙ tables_kept D m1 R' T p d page t (entry_word e) live there1 lt q r ∙ ready.linked q r in
    record {
      slot = record {
        sound = sound_by directories bytes two roles roles' _ _ sound (long_two ∙ ready.size) ready.length is
            (tables-entry D m1 R' T p d page t (entry_word e) live there1 lt (inr (entry_word-names e ready.small ready.rules))) E2 ready.pages;
        cost = (λ i. total_cost directories (spaces_of (E2 i) (frame_bytes two))) ∙ total-entry directories E m (frame_bytes two) slot e (cell_of E m slot e) d few live none;
        weight = ap (λ x. frames_weight roles' + lazy_count x) E2 ∙ ready.weight;
        length = ready.length;
        own = subst (λ x. InUseAt D x p (slot_number page)) (sym is) (use_own D m1 R' T p d page t (entry_word e) live there1 lt present);
        others = λ q r n use_at. subst (λ x. InUseAt D x q r) (sym is) (use_kept D m1 R' T p d page t (entry_word e) live there1 lt present q r (ready.used q r use_at));
        stay = places_new D m D (frame_bytes two) slot e none E2 (λ q r g found. linked q r ∙ found);
      };
      entries = E2;
      own = ap (λ x. entry_in D x slot) is ∙ entry_own D m1 R' T p d page t (entry_word e) live there1 lt ∙ word;
      held = held;
      kept = λ q x found. held x.frame (kept_holder E R' slot e q x ready.pages none found) ∙ ready.kept q x found;
      linked = linked;
    }

-- a lazy page was mapped
pub page_added : (directories : List (Option ℕ)) (bytes two : List ℕ) (roles : List Role) (p d page t : ℕ) (write : Bool) → IsSound directories bytes roles → directory_of directories p ≡ Some d
    → 0x40000 ≤ page → page < 0xf0000 → map.get (spaces_in directories bytes) (at_page p page) ≡ None → table_of (frame_bytes bytes) d (slot_number page) ≡ Some t
    → frame_bytes two ≡ with_entry (frame_bytes bytes) (frame_number (dir_word (frame_bytes bytes) d (slot_number page))) page (lazy_entry write) → length two ≡ length bytes
    → PageAdded directories p page write bytes roles two roles
unfolding spaces_in
page_added directories bytes two roles p d page t write sound live low high unmapped there is_two long_two =
    let m : Frames = frame_bytes bytes in
    let E : Entries = entries_in (directory_of directories) m in
    let e : PageEntry = lazy_entry write in
    let slot : Slot = at_page p page in
    let none : map.get E slot ≡ None = none_before E m slot (map.get E slot) (sym (get-spaces_of E m slot) ∙ unmapped) in
    let zero_role = sound.tables.zero_role in
    let added = entry_added directories bytes bytes two roles roles p d page t e sound live low high none there (record {
      size = refl;
      length = refl;
      small = omega arith;
      tables = sound.tables;
      pages = pages-lazy E (slice_get roles) slot e sound.pages none refl zero_role;
      entries = refl;
      table = refl;
      rules = record { frame = λ h. cc; zero = λ h. refl; clean = λ h. refl; right = λ h. refl; touched = λ h. cc };
      kept = λ q x found. refl;
      weight = omega (arith, lazy-more E slot e none refl);
      used = λ q r u. u;
      linked = λ q r. refl;
    }) is_two long_two in
    record {
      slot = added.slot;
      lazy = (e, added.own, refl);
      spaces = ap (λ x. spaces_of x (frame_bytes two)) added.entries ∙ lazy_refines E (frame_bytes two) slot write none (added.held 0 (inl zero_role) ∙ sound.tables.zero_bytes)
          ∙ ap (λ x. map.insert x slot (fresh slot write)) (same_bytes E m (frame_bytes two) added.kept);
    }

-- a page map after a loose frame's bytes were changed
pub record MapStays (one bytes : List ℕ) (d : ℕ) : Type 0 where
  pub map : IsPageMap one d
  pub tables : (s : ℕ) → table_of (frame_bytes one) d s ≡ table_of (frame_bytes bytes) d s

pub map_kept : (directories : List (Option ℕ)) (bytes one : List ℕ) (roles : List Role) (p d f : ℕ) (new : List ℕ) → IsSound directories bytes roles → directory_of directories p ≡ Some d
    → Loose (slice_get roles) f → length new ≡ 4096 → frame_bytes one ≡ with_frame (frame_bytes bytes) f new → length one ≡ length bytes → MapStays one bytes d
map_kept directories bytes one roles p d f new sound live loose long is same_length =
    let D : Directories = directory_of directories in
    let m : Frames = frame_bytes bytes in
    let R : Roles = slice_get roles in
    record {
      map = page_map_by D one roles p d (same_length ∙ sound.size) sound.few (subst (λ x. Tables D x R) (sym is) (tables-loose D m R sound.tables f new loose long)) live;
      tables = λ s. ap (λ x. word_table (word_in x s)) ((λ i. is i d) ∙ loose-directory D m R sound.tables f new loose p d live);
    }

pub free_loose : (R : Roles) (f : ℕ) → R f ≡ Some Free → Loose R f
free_loose R f free = record { no_directory = λ q h. cc; no_table = λ q r h. cc; not_reserved = λ h. cc }

pub page_loose : (R : Roles) (f c : ℕ) → R f ≡ Some (Page c) → Loose R f
page_loose R f c is = record { no_directory = λ q h. cc; no_table = λ q r h. cc; not_reserved = λ h. cc }

pub present_by_table : (word : ℕ) → is_some (word_table word) ≡ true → is_present word ≡ true
present_by_table word h = grind arith
