-- A process whose pages leave their groups, and whose directory then goes.
use Rattle.address_space.proofs.Prelude.{◌≡◌, ◌≢◌, ℕ, ◌+◌, ◌*◌, ◌<◌, ◌≤◌, Bool, true, false, cond, not, List, length, refl, ap, sym, ◌∙◌, subst, arith, inl, inr, Option, Some, None, length-set, ◌&&◌, ◌⊎◌, is_some, slice_get, slice_set, if◌then◌else◌, option_and_then, option_map, list_any, cases_eq, cases_lt, slot_number, index_number, same, Set, same_or_not, same_itself, same_map, same_set, get-map_values, get-retain_keys, contains-retain, get-collect, frame_bytes, word_in, Role, Free, Directory, frames_weight, weight, IsReleased, released, weight-set, Frames, word_entry, entry_at, Slot, slot_order, Cell, Spaces, need, pages_of, regions_of, without, with_holders, is_slot, at_page, is_of, user_slots, Entries, lazy_count, spaces_of, View, Directories, Roles, directory_of, table_in, entry_in, entries_in, spaces_in, total_cost, Tables, Pages, IsSound, IsSpaces, IsEmptySpace, DroppedBelow, DirectoryDropped, eqb-true, eq-eqb, FramesStay, of_page, LooseStay, image_of, Inner}
use Rattle.address_space.proofs.costs.Costs.{contains-pages_of}
use Rattle.address_space.proofs.entries.EntrySteps.{get-entries_in, entry_by_table}
use Rattle.address_space.proofs.steps.Openings.{directory_set, directory_kept, total-directory}
use Rattle.address_space.proofs.frames.PageSteps.{pages-role}
use Rattle.address_space.proofs.entries.Readings.{need_read}
use Rattle.address_space.proofs.entries.Refinement.{get-spaces_of, leave_refines}
use Rattle.address_space.proofs.standing.TablesStand.{past_end}
use Rattle.address_space.proofs.steps.Steps.{live_small, none_before, role_own, role_other}
use Rattle.address_space.proofs.Insides.{AreCountedInside, spaces_at, view_of}
use Rattle.address_space.proofs.standing.FramesStand.{loose_same, loose_then, stays_same, stays_then, stays_more}
use Rattle.address_space.proofs.entries.Staying.{stay_same, places_by}
use Rattle.page_words.specs.FiniteMap as map
use Rattle.page_words.specs.FiniteSet as set

-- ---- Slots that leave

-- a cell whose group some slots have left
abbrev pub left : (Slot → Bool) → Cell → Cell
left gone cell = with_holders cell (set.retain cell.holders (λ s. not (gone s)))

-- what stands at a slot after some have left
pub get-without : (S : Spaces) (gone : Slot → Bool) (q : Slot) → map.get (without S gone) q ≡ cond (not (gone q)) (option_map (left gone) (map.get S q)) None
get-without S gone q =
    get-map_values slot_order (λ slot cell. left gone cell) (map.retain_keys S (λ s. not (gone s))) q
    ∙ ap (option_map (left gone)) (get-retain_keys S (λ s. not (gone s)) q) ∙ (grind arith)

-- slots that leave before others that they are among
pub without-without : (S : Spaces) (first all : Slot → Bool) → ((q : Slot) → all q ≡ false → first q ≡ false) → without (without S first) all ≡ without S all
without-without S first all among = same_map _ _ (λ q. get-without (without S first) all q ∙ (grind (arith, get-without, fewer)) ∙ sym (get-without S all q))
  where
    fewer : (group : Set slot_order) → set.retain (set.retain group (λ s. not (first s))) (λ s. not (all s)) ≡ set.retain group (λ s. not (all s))
    fewer group = same_set _ _ (λ s.
        contains-retain (set.retain group (λ s. not (first s))) (λ s. not (all s)) s
        ∙ ap (λ b. b && not (all s)) (contains-retain group (λ s. not (first s)) s)
        ∙ (grind arith)
        ∙ sym (contains-retain group (λ s. not (all s)) s))

-- a slot is of its own process
pub slot_of_process : (p page : ℕ) (q : Slot) → is_of p q ≡ false → is_slot p page q ≡ false
slot_of_process p page q other = grind (arith, same_or_not, eq-eqb)

-- where no slot of a process is mapped, nothing leaves with it
pub nothing_leaves : (directories : List (Option ℕ)) (bytes : List ℕ) (p : ℕ) → IsEmptySpace (spaces_in directories bytes) p → without (spaces_in directories bytes) (is_of p) ≡ spaces_in directories bytes
unfolding spaces_in
nothing_leaves directories bytes p empty =
    sym (leave_refines E m (is_of p)) ∙ ap (λ x. spaces_of x m) (same_map (map.retain_keys E (λ s. not (is_of p s))) E (λ q. get-retain_keys E (λ s. not (is_of p s)) q ∙ (grind (arith, E, none))))
  where
    m : Frames
    m = frame_bytes bytes

    E : Entries
    E = entries_in (directory_of directories) m

    none : (q : Slot) → is_of p q ≡ true → map.get E q ≡ None
    none q is =
        let own : q.pid ≡ p = eqb-true q.pid p is in
        let here : q ≡ record { pid = p; page = q.page } = (λ i. record { pid = own i; page = q.page }) in
        none_before E m q (map.get E q) (sym (get-spaces_of E m q) ∙ ap (map.get (spaces_of E m)) here ∙ empty q.page)

-- ---- Slots without an entry

no_cell_by : (D : Directories) (m : Frames) (q : Slot) → entry_in D m q ≡ None → map.get (spaces_of (entries_in D m) m) q ≡ None
no_cell_by D m q none = grind (arith, get-spaces_of, get-entries_in)

-- no table lies outside the user range
pub no_table_outside : (directories : List (Option ℕ)) (bytes : List ℕ) (roles : List Role) (p s : ℕ) → IsSound directories bytes roles → (s < 256) ⊎ (960 ≤ s) → table_in (directory_of directories) (frame_bytes bytes) p s ≡ None
no_table_outside directories bytes roles p s sound out = grind (arith, word)
  where
    word : (d : ℕ) → directory_of directories p ≡ Some d → word_in (frame_bytes bytes d) s ≡ 0
    word d live = elim (cases_lt s 1024) [
      | inl inside ↦ sound.tables.outside p d s live inside out
      | inr past ↦ past_end (frame_bytes bytes d) s (sound.tables.long d (Directory p) (sound.tables.directory p d live)) past
    ]

-- and no page
pub no_cell_outside : (directories : List (Option ℕ)) (bytes : List ℕ) (roles : List Role) (p page : ℕ) → IsSound directories bytes roles → (page < 0x40000) ⊎ (0xf0000 ≤ page) → map.get (spaces_in directories bytes) (at_page p page) ≡ None
unfolding spaces_in
no_cell_outside directories bytes roles p page sound out =
    let D : Directories = directory_of directories in
    let m : Frames = frame_bytes bytes in
    no_cell_by D m (at_page p page)
    (entry_by_table D m (at_page p page) ∙ ap (option_and_then (λ table. word_entry (word_in (m table) (index_number page)))) (no_table_outside directories bytes roles p (slot_number page) sound (elim out [ inl l ↦ inl (omega arith) | inr l ↦ inr (omega arith) ])))

-- a page without an entry
pub no_cell_unmapped : (directories : List (Option ℕ)) (bytes : List ℕ) (p d page : ℕ) → directory_of directories p ≡ Some d → entry_at (frame_bytes bytes) d page ≡ None
    → map.get (spaces_in directories bytes) (at_page p page) ≡ None
unfolding spaces_in
no_cell_unmapped directories bytes p d page live none = grind (arith, no_cell_by)

-- ---- The pages of a process leave, from the lowest on

pub dropped_at_first : (inner : Inner) (p : ℕ) → AreCountedInside inner → DroppedBelow (view_of inner) p 0x40000 (view_of inner)
dropped_at_first inner p before = record {
  directories = refl;
  spaces = refl;
  stay = stays_same;
  loose = loose_same;
  below = λ page l. no_cell_outside inner.directories inner.memory inner.frames p page before.spaces.sound (inl l);
  length = refl;
  low = omega arith;
  high = omega arith;
}

-- over pages without an entry
pub dropped_past : (v : View) (inner : Inner) (p d from beyond : ℕ) → DroppedBelow v p from (view_of inner) → directory_of inner.directories p ≡ Some d → from ≤ beyond → beyond ≤ 0xf0000
    → ((page : ℕ) → from ≤ page → page < beyond → entry_at (frame_bytes inner.memory) d page ≡ None) → DroppedBelow v p beyond (view_of inner)
dropped_past v inner p d from beyond so_far live up high none =
    let low : 0x40000 ≤ beyond = omega (arith, so_far.low, up) in
    let below : (page : ℕ) → page < beyond → map.get (spaces_at inner) (at_page p page) ≡ None = λ page l.
    elim (cases_lt page from) [
      | inl below ↦ so_far.below page below
      | inr above ↦ no_cell_unmapped inner.directories inner.memory p d page live (none page above l)
    ] in
    assumption

-- and one page more
pub dropped_next : (v one two : View) (p page : ℕ) → DroppedBelow v p page one → page < 0xf0000
    → two.spaces ≡ without one.spaces (is_slot p page) → FramesStay (of_page p page) (image_of one) (image_of two) → LooseStay (image_of one) (image_of two) → two.directories ≡ one.directories → length two.roles ≡ length one.roles
    → DroppedBelow v p (page + 1) two
dropped_next v one two p page so_far high spaces stay loose directories long =
    let low = so_far.low in
    record {
      directories = directories ∙ so_far.directories;
      spaces = ap (λ x. without x (is_of p)) spaces ∙ without-without one.spaces (is_slot p page) (is_of p) (slot_of_process p page) ∙ so_far.spaces;
      stay = stays_then so_far.stay (stays_more (λ q f stays. slot_of_process p page q stays) stay);
      loose = loose_then so_far.loose loose;
      below = grind (arith, get-without, cases_eq, same_itself);
      length = long ∙ so_far.length;
      low = omega arith;
      high = omega arith;
    }

-- all of them have left their groups
pub record PagesDropped (v : View) (p : ℕ) (v' : View) : Type 0 where
  pub spaces : v'.spaces ≡ without v.spaces (is_of p)
  pub empty : IsEmptySpace v'.spaces p

pub dropped_at_last : (v : View) (inner : Inner) (p : ℕ) → AreCountedInside inner → DroppedBelow v p 0xf0000 (view_of inner) → PagesDropped v p (view_of inner)
dropped_at_last v inner p before so_far =
    let empty : IsEmptySpace (spaces_at inner) p = λ page. elim (cases_lt page 0xf0000) [
      | inl inside ↦ so_far.below page inside
      | inr past ↦ no_cell_outside inner.directories inner.memory inner.frames p page before.spaces.sound (inr past)
    ] in
    record { spaces = sym (nothing_leaves inner.directories inner.memory p empty) ∙ so_far.spaces; empty = empty }

-- ---- A directory goes

-- without a page there is no table
no_table_left : (directories : List (Option ℕ)) (bytes : List ℕ) (roles : List Role) (p s : ℕ) → IsSpaces directories bytes roles → p < 64 → IsEmptySpace (spaces_in directories bytes) p → table_in (directory_of directories) (frame_bytes bytes) p s ≡ None
no_table_left directories bytes roles p s spaces few empty = elim (cases_lt s 256) [
  | inl below ↦ no_table_outside directories bytes roles p s spaces.sound (inl below)
  | inr low ↦ elim (cases_lt s 960) [
    | inl high ↦ by (table_in (directory_of directories) (frame_bytes bytes) p s) (sym two ∙ need_read directories bytes p (1024 * s) spaces.in_use few (omega arith) (omega arith) ∙ ap (λ n. cond (is_some (table_in (directory_of directories) (frame_bytes bytes) p n)) 1 2) (let e : slot_number (1024 * s) ≡ s = omega arith in e))
    | inr above ↦ no_table_outside directories bytes roles p s spaces.sound (inr above)
  ]
]
  where
    S : Spaces
    S = spaces_in directories bytes

    no_pages : pages_of S p ≡ set.empty
    no_pages = same_set (pages_of S p) set.empty (λ page. contains-pages_of S p page ∙ ap is_some (empty page))

    two : need S p (1024 * s) ≡ 2
    two = ap (λ pages. if set.contains (regions_of pages) (slot_number (1024 * s)) then 1 else 2) no_pages

    by : (x : Option ℕ) → ◌≡◌ {A = ℕ} 2 (cond (is_some x) 1 2) → x ≡ None
    by x h = grind arith

module _ (D D' : Directories) (m : Frames) (R R' : Roles) (T : Tables D m R) (p d : ℕ) (live : D p ≡ Some d) (bare : (s : ℕ) → table_in D m p s ≡ None)
    (none : D' p ≡ None) (others : (q : ℕ) → q ≢ p → D' q ≡ D q) (role : R' d ≡ Some Free) (roles : (g : ℕ) → g ≢ d → R' g ≡ R g) where
  was : R d ≡ Some (Directory p)
  was = T.directory p d live

  kept_tables : (q s : ℕ) → table_in D' m q s ≡ table_in D m q s
  kept_tables q s = grind (arith, cases_eq)

  kept_entry : (q : Slot) → entry_in D' m q ≡ entry_in D m q
  kept_entry q = entry_by_table D' m q ∙ ap (option_and_then (λ table. word_entry (word_in (m table) (index_number q.page)))) (kept_tables q.pid (slot_number q.page)) ∙ sym (entry_by_table D m q)

  kept_entries : entries_in D' m ≡ entries_in D m
  unfolding entries_in
  kept_entries = same_map _ _ (λ q. get-collect slot_order (entry_in D' m) user_slots q ∙ ap (λ x. cond (list_any (same slot_order q) user_slots) x None) (kept_entry q) ∙ sym (get-collect slot_order (entry_in D m) user_slots q))

  -- a frame with a role, other than the directory's
  stays : (g : ℕ) (r : Role) → R g ≡ Some r → (r ≡ Directory p → ⊥) → R' g ≡ Some r
  stays g r is n = roles g (λ same_frame. n (let k : R g ≡ R d = ap R same_frame in let w = was in cc)) ∙ is

  -- a process that has a directory still is another one
  another : (q f : ℕ) → D' q ≡ Some f → q ≢ p
  another q f is same_pid = let k : D' q ≡ D' p = ap D' same_pid in let n = none in cc

  tables-without : Tables D' m R'
  tables-without = grind (arith, stays, another, kept_tables, cases_eq, was)

same_spaces : (directories directories' : List (Option ℕ)) (bytes : List ℕ) → entries_in (directory_of directories') (frame_bytes bytes) ≡ entries_in (directory_of directories) (frame_bytes bytes) → spaces_in directories' bytes ≡ spaces_in directories bytes
unfolding spaces_in
same_spaces directories directories' bytes E = ap (λ x. spaces_of x (frame_bytes bytes)) E

pub directory_removed : (directories : List (Option ℕ)) (bytes : List ℕ) (roles roles' : List Role) (p d : ℕ) → IsSpaces directories bytes roles → directory_of directories p ≡ Some d
    → IsEmptySpace (spaces_in directories bytes) p → IsReleased roles d roles' → DirectoryDropped directories p bytes roles (slice_set directories p None) roles'
directory_removed directories bytes roles roles' p d s live empty rel =
    let D : Directories = directory_of directories in
    let directories' : List (Option ℕ) = slice_set directories p None in
    let D' : Directories = directory_of directories' in
    let m : Frames = frame_bytes bytes in
    let R : Roles = slice_get roles in
    let R' : Roles = slice_get roles' in
    let sound = s.sound in
    let few : p < 64 = live_small directories p d sound.pids live in
    let l : p < length directories = (let n = sound.pids in omega arith) in
    let none : D' p ≡ None = directory_set directories p None l in
    let others : (q : ℕ) → q ≢ p → D' q ≡ D q = directory_kept directories p None in
    let bare : (t : ℕ) → table_in D m p t ≡ None = λ t. no_table_left directories bytes roles p t s few empty in
    let same_role : Some rel.role ≡ Some (Directory p) = sym rel.was ∙ (sound.tables.directory p d live) in
    let role_is : rel.role ≡ Directory p = cc in
    let role : R' d ≡ Some Free = role_own roles roles' d rel.role (released rel.role) rel.was rel.now ∙ ap (λ r. Some (released r)) role_is in
    let kept : (g : ℕ) → g ≢ d → R' g ≡ R g = role_other roles roles' d (released rel.role) rel.now in
    let E : entries_in D' m ≡ entries_in D m = kept_entries D D' m R R' sound.tables p d live bare none others role kept in
    let spaces : spaces_in directories' bytes ≡ spaces_in directories bytes = same_spaces directories directories' bytes E in
    let same_length : length roles' ≡ length roles = ap length rel.now ∙ length-set roles d (released rel.role) in
    let total : total_cost directories (spaces_in directories bytes) ≡ total_cost directories' (spaces_in directories bytes) + 1 = total-directory directories directories' (spaces_in directories bytes) p d few live none others empty in
    let total' : total_cost directories' (spaces_in directories' bytes) ≡ total_cost directories' (spaces_in directories bytes) = ap (total_cost directories') spaces in
    let lighter : frames_weight roles' + 1 ≡ frames_weight roles =
    (let a = weight-set roles d rel.role (released rel.role) rel.was in
    let n : frames_weight roles' ≡ frames_weight (slice_set roles d (released rel.role)) = ap frames_weight rel.now in
    let x : weight rel.role ≡ 1 = ap weight role_is in
    omega (arith, a, n, x, ap (λ r. weight (released r)) role_is)) in
    let weighs = s.weighs in
    record {
      after = record {
        sound = record {
          size = sound.size ∙ ap (λ n. 4096 * n) (sym same_length);
          few = subst (λ n. n ≤ 1048576) (sym same_length) sound.few;
          pids = length-set directories p None ∙ sound.pids;
          tables = tables-without D D' m R R' sound.tables p d live bare none others role kept;
          pages = subst (λ x. Pages x R') (sym E) (pages-role (entries_in D m) R R' d sound.pages (λ h. cc) (λ c h. cc) (λ c h. cc) kept);
        };
        in_use = λ q r t found. s.in_use q r t (sym (kept_tables D D' m R R' sound.tables p d live bare none others role kept q r) ∙ found);
        weighs = let z : lazy_count (entries_in D' m) ≡ lazy_count (entries_in D m) = ap lazy_count E in omega (arith, weighs, lighter, total, total', z);
        within = omega (arith, s.within, same_length, total, total');
      };
      spaces = spaces;
      none = none;
      others = others;
      stay = grind (arith, places_by, stay_same, kept_tables);
      length = same_length;
    }
