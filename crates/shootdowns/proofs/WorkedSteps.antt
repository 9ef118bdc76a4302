-- The steps of the worked window.
use Rattle.shootdowns.proofs.Prelude.{◌≡◌, ◌≢◌, ℕ, ◌+◌, ◌<◌, ◌≤◌, ◌^◌, Bool, true, false, List, [], ◌∷◌, length, refl, ap, sym, ◌∙◌, subst, arith, Some, None, is_some, ◌⊎◌, ◌&&◌, if◌then◌else◌, option_and_then, slice_get_within, Directory, Table, index_number, slot_number, flag, frame_number, is_present, with_flag, flag-with_flag_other, flag-with_flag_same, is_some-map, some_value, word_at, word_place, with_word, word_in-frame, length-with_word, word_at-with_word_same, Access, Read, Write, with_walked, directory_at, is_user_slot, named_by, present_word, table_at, word_of, Cell, at_page, from_then, memory_of, State, is_live, open_with, View, reply_kept, bytes_kept, answer, answers, next, AllAreRead, IsCore, Processors, with_kept, LetsThrough, IsLoaded, IsMarked, AreRead, Kept, translation, ended_by, left_by, Event, Reply, Ended, Begins, IsStale, KeepsNone, Steps, begun, loaded, marked, ordered, refilled, invalidated, told, none, first, nobody, with_one, settled, under_way, first_store, second_store, unmap_it, load_it, store_it, none_kept, WorkedWindow}
use Rattle.page_words.specs.FiniteMap as map
use Rattle.address_space.proofs.Prelude.{with_flag_lt}
use Rattle.kernel_calls.specs.declared.calls.Reply.TheVariants as reply
use Rattle.kernel_calls.specs.declared.translations.Ended.TheVariants as end
use Rattle.shootdowns.specs.Windows.{stored}
use Rattle.shootdowns.proofs.Accesses.{word_mapped}
use Rattle.shootdowns.proofs.Given.{dirty_real, given, given_frame}
use Rattle.shootdowns.proofs.InOrder.{shootdowns_make_events}

abbrev stored_state : State
stored_state = next (next (open_with 16) first_store) second_store

cell_there : (c : Cell) × (map.get stored_state.spaces (at_page 0 0x40000) ≡ Some c)
cell_there = some_value (map.get stored_state.spaces (at_page 0 0x40000)) refl

first_told : (q : Reply) (rest : List Reply) (s : State) (events : List Event) (e : Event) → (q ∷ rest) ≡ (answer s e ∷ answers (next s e) events) → q ≡ answer s e
first_told q rest s events e h = cc

-- ---- Accessed of a word that leads to a page

-- the word of a directory that leads to a mapped page is present, and lies in memory
pub record LeadsOn (v : View) (d page : ℕ) : Type 0 where
  pub inside : word_place d (slot_number page) + 4 ≤ length v.bytes
  pub present : is_present (word_at v.bytes (word_place d (slot_number page))) ≡ true
  pub small : word_at v.bytes (word_place d (slot_number page)) < 2 ^ 32

-- what names a table is present, and names its frame
names_table : (a b : Bool) (x t : ℕ) → (if a && b then Some x else None) ≡ Some t → (b ≡ true) × (x ≡ t)
names_table x0 x1 x t h = grind arith

leads_on : (v : View) → IsCore v → (p d page : ℕ) (c : Cell) → directory_at (memory_of v) p ≡ Some d
    → map.get v.state.spaces (at_page p page) ≡ Some c → slot_number page < 1024 → LeadsOn v d page
leads_on v core p d page c live there low =
    let slot : ℕ = slot_number page in
    let word = word_mapped v core (at_page p page) c there in
    let t = from_then (λ t. present_word (memory_of v) t (word_of (memory_of v) t (index_number page)))
    (table_at (memory_of v) p slot) word.0 word.1 in
    let same : word_at v.bytes (word_place d slot) ≡ word_of (memory_of v) d slot = word_in-frame v.bytes d slot low in
    let named : named_by slot (word_of (memory_of v) d slot) ≡ Some t.0 =
    sym (ap (option_and_then (λ d. named_by slot (word_of (memory_of v) d slot))) live) ∙ t.1 in
    let names = names_table (is_user_slot slot) (is_present (word_of (memory_of v) d slot)) (frame_number (word_of (memory_of v) d slot)) t.0 named in
    let frame : d < length v.roles = slice_get_within v.roles d (Directory p) ((core.image.memory.sound.directories d p).1 live) in
    let table : t.0 < length v.roles = slice_get_within v.roles t.0 (Table p slot) ((core.image.memory.sound.tables t.0 p slot).1 t.1) in
    let size = core.image.memory.sound.size in
    let few = core.sized.few in
    let number : frame_number (word_at v.bytes (word_place d slot)) ≡ t.0 = ap frame_number same ∙ names.1 in
    grind arith

-- it is another once accessed is cleared and set
set_again : (bytes : List ℕ) (d page : ℕ) → word_place d (slot_number page) + 4 ≤ length bytes
    → is_present (word_at bytes (word_place d (slot_number page))) ≡ true → word_at bytes (word_place d (slot_number page)) < 2 ^ 32
    → with_walked (with_walked bytes d page false) d page true ≢ with_walked bytes d page false
set_again bytes d page inside present small same =
    let k : true ≡ false = sym set_flag ∙ ap (λ (m : List ℕ). flag (word_at m place) 5) same ∙ clear_flag in cc
  where
    place : ℕ
    place = word_place d (slot_number page)

    word : ℕ
    word = word_at bytes place

    later : List ℕ
    later = with_walked bytes d page false

    clear_word : word_at later place ≡ with_flag word 5 false
    clear_word =
        ap (λ w. word_at (with_word bytes place w) place) (ap (λ b. if b then with_flag word 5 false else word) present)
        ∙ word_at-with_word_same bytes place (with_flag word 5 false) inside (with_flag_lt word 5 false small (omega arith))

    later_small : word_at later place < 2 ^ 32
    later_small = subst (λ n. n < 2 ^ 32) (sym clear_word) (with_flag_lt word 5 false small (omega arith))

    clear_flag : flag (word_at later place) 5 ≡ false
    clear_flag = ap (λ w. flag w 5) clear_word ∙ flag-with_flag_same word 5 false (omega arith)

    still_present : is_present (word_at later place) ≡ true
    still_present = ap is_present clear_word ∙ flag-with_flag_other word 5 0 false (omega arith) (omega arith) (λ h. cc) ∙ present

    long : place + 4 ≤ length later
    long = grind (arith, length-with_word, inside)

    set_flag : flag (word_at (with_walked later d page true) place) 5 ≡ true
    set_flag =
        ap (λ w. flag w 5) (ap (λ w. word_at (with_word later place w) place) (ap (λ b. if b then with_flag (word_at later place) 5 true else word_at later place) still_present)
        ∙ word_at-with_word_same later place (with_flag (word_at later place) 5 true) long
        (with_flag_lt (word_at later place) 5 true later_small (omega arith)))
        ∙ flag-with_flag_same (word_at later place) 5 true (omega arith)

module _ (v w y x : View) (core : IsCore v) (state : v.state ≡ stored_state) (b : Begins v unmap_it reply.Done w)
    (clears : IsMarked w y) (marks : IsMarked y x) (changed : x.bytes ≢ y.bytes) where
  there : map.get v.state.spaces (at_page 0 0x40000) ≡ Some cell_there.0
  there = ap (λ (s : State). map.get s.spaces (at_page 0 0x40000)) state ∙ cell_there.1

  abbrev frame : ℕ
  frame = given_frame v core 0 0x40000 cell_there.0 there

  abbrev kept : Kept
  kept = translation (record { slot = at_page 0 0x40000; frame = frame; write = true; dirty = true })

  abbrev keeps : Processors
  keeps = with_kept none_kept 0 (kept ∷ [])

  is_given : AreRead v (kept ∷ [])
  is_given = grind (arith, given, there, dirty_real)

  read : AllAreRead v keeps
  read i = grind (arith, is_given)

  through : (access : Access) → LetsThrough (kept ∷ []) 0 0x40000 frame access
  through access = record { place = 0; write = true; dirty = true; there = refl; right = λ _. (refl, refl) }

  abbrev q : Reply
  q = reply_kept (λ _. frame) x.bytes load_it.call

  loads : IsLoaded (keeps 0) x load_it q
  loads = record { load = tt; frames = λ _. frame; through = (through Read, tt); found = refl }

  abbrev bytes : List ℕ
  bytes = bytes_kept (λ _. frame) x.bytes store_it.call

  stores : IsStale (keeps 0) x store_it reply.Done bytes
  stores = record { store = tt; frames = λ _. frame; through = (through Write, tt); found = refl; left = refl }

  abbrev x_ended : Ended
  x_ended = ended_by v unmap_it

  abbrev last : Processors
  last = with_kept keeps 0 (left_by x_ended (keeps 0))

  all : (i : ℕ) → (with_one nobody 0 i ≡ true) ⊎ KeepsNone x_ended (last i)
  all i = grind arith

  abbrev after : View
  after = record x { state = next (next v.state store_it) unmap_it; bytes = bytes }

  window : (a : Reply) → IsLoaded (keeps 0) x load_it a → Steps (under_way x_ended nobody unmap_it reply.Done v.state w) keeps (load_it ∷ store_it ∷ unmap_it ∷ [])
      (a ∷ reply.Done ∷ reply.Done ∷ []) (settled end.Nothing nobody after) last
  window a load =
      first (marked refl clears) (first (marked refl marks) (first (loaded 0 refl load) (first (stored 0 refl stores)
      (first (invalidated 0) (first ordered (first (told all) none))))))

  value : q ≡ reply.Value 7
  value =
      let came = shootdowns_make_events v (settled end.Nothing nobody after) none_kept last
      (load_it ∷ store_it ∷ unmap_it ∷ []) (q ∷ reply.Done ∷ reply.Done ∷ []) core (λ i. tt) (first (refilled 0 kept is_given.0) (first (begun b) (window q loads))) in
      first_told q (reply.Done ∷ reply.Done ∷ []) v.state (store_it ∷ unmap_it ∷ []) load_it came.replies ∙ ap (λ (s : State). answer s load_it) state

  pub worked : WorkedWindow x
  worked = record {
    before = v;
    opened = state;
    keeps = keeps;
    read = read;
    left = w;
    begins = b;
    cleared = y;
    clears = clears;
    marked = marks;
    changed = changed;
    loaded = rw value at loads;
    bytes = bytes;
    stale = stores;
    last = last;
    opens = first (refilled 0 kept is_given.0) (first (begun b) none);
    window = window (reply.Value 7) (rw value at loads);
  }

-- what the calls of a core that boots ensure
pub record Called (o s v w y x : View) : Type 0 where
  pub opening : o.state ≡ open_with 16
  pub stored : s.state ≡ next o.state first_store
  pub more : v.state ≡ next s.state second_store
  pub before : IsCore v
  pub begins : Begins v unmap_it (answer v.state unmap_it) w
  pub clear_state : y.state ≡ w.state
  pub clear_directories : y.directories ≡ w.directories
  pub clear_roles : y.roles ≡ w.roles
  pub clear_bytes : (directory : ℕ) → directory_at (memory_of w) 0 ≡ Some directory → y.bytes ≡ with_walked w.bytes directory 0x40000 false
  pub same : x.state ≡ y.state
  pub directories : x.directories ≡ y.directories
  pub roles : x.roles ≡ y.roles
  pub bytes : (directory : ℕ) → directory_at (memory_of y) 0 ≡ Some directory → x.bytes ≡ with_walked y.bytes directory 0x40000 true

-- a live process has a directory
home_live : (v : View) → IsCore v → (p : ℕ) → is_live v.state p ≡ true → (d : ℕ) × (directory_at (memory_of v) p ≡ Some d)
home_live v core p live = grind (arith, some_value, is_some-map)

pub worked_by : (o s v w y x : View) → Called o s v w y x → WorkedWindow x
worked_by o s v w y x k = worked v w y x k.before opened (subst (λ (r : Reply). Begins v unmap_it r w) (ap (λ (s : State). answer s unmap_it) opened) k.begins)
    (record {
      pid = 0;
      page = 0x40000;
      walked = false;
      user = (omega arith, omega arith);
      directory = home.0;
      live = home.1;
      left = (λ i. record { state = k.clear_state i; directories = k.clear_directories i; bytes = clear i; roles = k.clear_roles i });
    })
    (record {
      pid = 0;
      page = 0x40000;
      walked = true;
      user = (omega arith, omega arith);
      directory = home.0;
      live = home_still;
      left = (λ i. record { state = k.same i; directories = k.directories i; bytes = set i; roles = k.roles i });
    })
    (λ same. set_again w.bytes home.0 0x40000 leads.inside leads.present leads.small
    (sym (set ∙ ap (λ (m : List ℕ). with_walked m home.0 0x40000 true) clear) ∙ same ∙ clear))
  where
    opened : v.state ≡ stored_state
    opened = k.more ∙ ap (λ (s : State). next s second_store) (k.stored ∙ ap (λ (s : State). next s first_store) k.opening)

    taken : w.state ≡ next stored_state unmap_it
    taken = k.begins.carried.state ∙ ap (λ (s : State). next s unmap_it) opened

    home : (d : ℕ) × (directory_at (memory_of w) 0 ≡ Some d)
    home = home_live w k.begins.carried.core 0 (ap (λ (s : State). is_live s 0) taken)

    home_still : directory_at (memory_of y) 0 ≡ Some home.0
    home_still = (λ i. directory_at (memory_of (record w { directories = k.clear_directories i })) 0) ∙ home.1

    clear : y.bytes ≡ with_walked w.bytes home.0 0x40000 false
    clear = k.clear_bytes home.0 home.1

    set : x.bytes ≡ with_walked y.bytes home.0 0x40000 true
    set = k.bytes home.0 home_still

    -- the second page's table stays that of their region
    beside : (c : Cell) × (map.get w.state.spaces (at_page 0 0x40001) ≡ Some c)
    beside = some_value (map.get w.state.spaces (at_page 0 0x40001)) (ap (λ (s : State). is_some (map.get s.spaces (at_page 0 0x40001))) taken)

    leads : LeadsOn w home.0 0x40000
    leads =
        let k = leads_on w k.begins.carried.core 0 home.0 0x40001 beside.0 home.1 beside.1 (omega arith) in
        record { inside = k.inside; present = k.present; small = k.small }
