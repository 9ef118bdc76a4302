-- The steps of the worked Protect.
use Rattle.shootdowns.proofs.Prelude.{◌≡◌, ◌≢◌, ℕ, ◌≤◌, ◌^◌, Bool, true, false, List, [], ◌∷◌, refl, ap, sym, ◌∙◌, subst, inr, arith, Some, is_some, length, unwrap_or, ◌⊎◌, slice_get, nat_lt, option_map, some_value, Read, walk_of, finds_at, is_lazy_at, Cell, at_page, FramesStay, none_goes, memory_of, State, open_with, View, gone_by, bytes_kept, LeavesLazy, answer, next, AllAreRead, IsCore, IsWalked, Processors, with_kept, IsRead, Kept, translation, Ends, ended_by, is_invalidated, left_by, bytes_accessed, reply_found, Reply, Ended, ways_of, next-stays, next-goes, nothing_ends, walks_leave_cores, mapped_way, Begins, IsStaleClean, KeepsNone, Steps, begun, walked, stored_clean, ordered, refilled, forgotten, invalidated, told, none, first, nobody, with_one, settled, under_way, all_dirty, first_store, fork_it, load_copy, store_copy, protect_it, ask_it, none_kept, WorkedProtect, if◌then◌else◌, gone_of_call, completes}
use Rattle.std.proofs.Common.{◌&&◌}
use Rattle.std.specs.Result.{is_ok}
use Rattle.page_words.specs.FiniteMap as map
use Rattle.kernel_calls.specs.Processors.{with_bytes}
use Rattle.kernel_calls.specs.declared.calls.Reply.TheVariants as reply
use Rattle.kernel_calls.specs.declared.translations.Ended.TheVariants as end
use Rattle.shootdowns.proofs.Given.{dirty_real, given, given_directory, given_frame, given_live, found}
use Rattle.shootdowns.proofs.InOrder.{shootdowns_make_events}

abbrev loaded_state : State
loaded_state = next (next (next (open_with 16) first_store) fork_it) load_copy

cell_there : (c : Cell) × (map.get loaded_state.spaces (at_page 1 0x40000) ≡ Some c)
cell_there = some_value (map.get loaded_state.spaces (at_page 1 0x40000)) refl

flag_there : (flag : Cell → Bool) → option_map flag (map.get loaded_state.spaces (at_page 1 0x40000)) ≡ Some true → flag cell_there.0 ≡ true
flag_there flag h = let e : Some (flag cell_there.0) ≡ Some true = sym (ap (option_map flag) cell_there.1) ∙ h in cc

-- the root's page is there too
root_there : (c : Cell) × (map.get loaded_state.spaces (at_page 0 0x40000) ≡ Some c)
root_there = some_value (map.get loaded_state.spaces (at_page 0 0x40000)) refl

root_flag : (flag : Cell → Bool) → option_map flag (map.get loaded_state.spaces (at_page 0 0x40000)) ≡ Some true → flag root_there.0 ≡ true
root_flag flag h = let e : Some (flag root_there.0) ≡ Some true = sym (ap (option_map flag) root_there.1) ∙ h in cc

ask_stays : (s : State) → next s ask_it ≡ s
ask_stays s = grind (arith, next-stays, next-goes)

none_invalidated : (k : Kept) → is_invalidated end.Nothing k ≡ false
none_invalidated x0 = grind arith

module _ (v w : View) (core : IsCore v) (state : v.state ≡ loaded_state) (real : is_lazy_at (memory_of v) (at_page 1 0x40000) ≡ false)
    (b : Begins v protect_it reply.Done w) where
  there : map.get v.state.spaces (at_page 1 0x40000) ≡ Some cell_there.0
  there = ap (λ (s : State). map.get s.spaces (at_page 1 0x40000)) state ∙ cell_there.1

  abbrev frame : ℕ
  frame = given_frame v core 1 0x40000 cell_there.0 there

  abbrev kept : Kept
  kept = translation (record { slot = at_page 1 0x40000; frame = frame; write = true; dirty = false })

  root_at : map.get v.state.spaces (at_page 0 0x40000) ≡ Some root_there.0
  root_at = ap (λ (s : State). map.get s.spaces (at_page 0 0x40000)) state ∙ root_there.1

  abbrev other : Kept
  other = translation (record { slot = at_page 0 0x40000; frame = given_frame v core 0 0x40000 root_there.0 root_at; write = true; dirty = true })

  abbrev keeps : Processors
  keeps = with_kept (with_kept none_kept 0 (other ∷ [])) 0 (kept ∷ other ∷ [])

  kept_given : IsRead v kept
  kept_given = given v core 1 0x40000 cell_there.0 there false (flag_there (λ c. c.write) refl) (flag_there (λ c. c.accessed) refl) real (λ no. (let k = no in cc))

  other_given : IsRead v other
  other_given = given v core 0 0x40000 root_there.0 root_at true (root_flag (λ c. c.write) refl) (root_flag (λ c. c.accessed) refl)
      (dirty_real v core (at_page 0 0x40000) root_there.0 root_at (root_flag (λ c. c.dirty) refl)) (λ _. root_flag (λ c. c.dirty) refl)

  read : AllAreRead v keeps
  read i = grind (arith, kept_given, other_given)

  -- ---- The walk

  later : IsCore w
  later = b.carried.core

  cell_later : (c : Cell) × (map.get w.state.spaces (at_page 1 0x40000) ≡ Some c)
  cell_later =
      let is : w.state ≡ next loaded_state protect_it = b.carried.state ∙ ap (λ (s : State). next s protect_it) state in
      some_value (map.get w.state.spaces (at_page 1 0x40000)) (ap (λ (s : State). is_some (map.get s.spaces (at_page 1 0x40000))) is)

  abbrev directory : ℕ
  directory = given_directory w later 1 0x40000 cell_later.0 cell_later.1

  finds : finds_at (memory_of w) 1 Read 0x40000000 ≡ true
  finds =
      ap (λ o. nat_lt 0x40000000 0x100000000 && unwrap_or (option_map (λ d. is_ok (walk_of w.bytes d 0x40000000 Read)) o) false) (given_live w later 1 0x40000 cell_later.0 cell_later.1)
      ∙ ap (λ r. nat_lt 0x40000000 0x100000000 && is_ok r)
      (found w later 1 0x40000 cell_later.0 cell_later.1 Read 0x40000000 (omega arith) refl (λ no. (let k = no in cc)))

  abbrev u : View
  u = with_bytes w (next w.state load_copy) (bytes_accessed w.bytes directory load_copy.call)

  abbrev q : Reply
  q = reply_found w.bytes directory load_copy.call

  walks : IsWalked w load_copy q u
  walks = grind (arith, finds, given_live, later, found)

  -- ---- The store

  short : length u.bytes ≤ 2 ^ 32
  short =
      let left = (walks_leave_cores w u load_copy q later walks).1.core in
      let size = left.image.memory.sound.size in
      let few = left.sized.few in
      omega (arith, size, few)

  abbrev bytes : List ℕ
  bytes = bytes_kept (λ _. frame) (all_dirty u 1 store_copy.call) store_copy.call

  stores : IsStaleClean (keeps 0) u store_copy reply.Done bytes
  stores = record {
    size = short;
    frames = λ _. frame;
    through = (record { place = 0; dirty = false; there = refl }, tt);
    found = refl;
    left = refl;
  }

  abbrev x_ended : Ended
  x_ended = ended_by v protect_it

  abbrev kept_then : Processors
  kept_then = with_kept keeps 0 (left_by x_ended (keeps 0))

  all : (i : ℕ) → (with_one nobody 0 i ≡ true) ⊎ KeepsNone x_ended (kept_then i)
  all i = grind arith

  abbrev after : View
  after = record u { state = next (next (next v.state load_copy) store_copy) protect_it; bytes = bytes }

  opens : Steps (settled end.Nothing nobody v) none_kept [] [] (under_way x_ended nobody protect_it reply.Done v.state w) keeps
  opens = first (refilled 0 other other_given) (first (refilled 0 kept kept_given) (first (begun b) none))

  window : (a : Reply) → IsWalked w load_copy a u → Steps (under_way x_ended nobody protect_it reply.Done v.state w) keeps (load_copy ∷ store_copy ∷ protect_it ∷ [])
      (a ∷ reply.Done ∷ reply.Done ∷ []) (settled end.Nothing nobody after) kept_then
  window a walk = first (walked refl walk) (first (stored_clean 0 refl stores) (first (invalidated 0) (first ordered (first (told all) none))))

  some_left : kept_then 0 ≢ []
  some_left empty = grind arith

  core_after : IsCore after
  core_after = (shootdowns_make_events v (settled end.Nothing nobody after) none_kept kept_then (load_copy ∷ store_copy ∷ protect_it ∷ []) (q ∷ reply.Done ∷ reply.Done ∷ []) core (λ i. tt)
      (first (refilled 0 other other_given) (first (refilled 0 kept kept_given) (first (begun b) (window q walks))))).stands.0

  -- ---- The next window

  quota : answer after.state ask_it ≡ reply.Quota 8 3 0
  quota = ap (λ (s : State). answer (next (next (next s load_copy) store_copy) protect_it) ask_it) state

  asks_none : ended_by after ask_it ≡ end.Nothing
  asks_none = grind arith

  still : FramesStay none_goes (memory_of after) (memory_of after)
  still = record { directories = λ p d some live. live; tables = λ slot d f t stays way table. table; ways = λ slot d f stays way. way }

  asked : Begins after ask_it (reply.Quota 8 3 0) after
  asked = record {
    carried = record {
      reply = sym quota;
      state = sym (ask_stays after.state);
      ends = subst (λ (x : Ended). Ends x after after) (sym asks_none) (nothing_ends after after core_after core_after refl still);
      core = core_after;
    };
    stay = record { directories = λ p d some live. live; tables = λ slot d f t stays way table. table; ways = λ slot d f stays way. way };
    loose = λ no. cc;
  }

  abbrev last : Processors
  last = with_kept kept_then 0 []

  forgets : Steps (under_way (ended_by after ask_it) nobody ask_it (reply.Quota 8 3 0) after.state after) kept_then (ask_it ∷ []) (reply.Quota 8 3 0 ∷ [])
      (settled end.Nothing nobody after) last
  forgets = first (forgotten 0 [] (λ m k h. absurd (none_there m k h))) (first ordered (first (told (λ i. inr (keeps_none i))) none))
    where
      none_there : (n : ℕ) (k : Kept) → slice_get {X = Kept} [] n ≡ Some k → ⊥
      none_there x0 k h = grind arith

      keeps_none : (i : ℕ) → KeepsNone (ended_by after ask_it) (last i)
      keeps_none i n k h = subst (λ (x : Ended). KeepsNone x (last i)) (sym asks_none) (λ n k h. none_invalidated k) n k h

  -- ---- The replies

  value : q ≡ reply.Value 7
  value = (walks_leave_cores w u load_copy q later walks).0 ∙ ap (λ (s : State). answer s load_copy) (b.carried.state ∙ ap (λ (s : State). next s protect_it) state)

  pub worked : WorkedProtect w
  worked = record {
    before = v;
    opened = state;
    keeps = keeps;
    read = read;
    begins = b;
    walked_to = u;
    walked = rw value at walks;
    bytes = bytes;
    clean = stores;
    after = after;
    left = kept_then;
    some_left = some_left;
    last = last;
    none_left = refl;
    opens = opens;
    window = window (reply.Value 7) (rw value at walks);
    asks = first (begun asked) none;
    forgets = forgets;
  }

-- what the calls of a core that boots ensure
pub record Called (o s f v w : View) (fork_reply : Reply) : Type 0 where
  pub opening : o.state ≡ open_with 16
  pub stored : s.state ≡ next o.state first_store
  pub core_stored : IsCore s
  pub forked : f.state ≡ next s.state fork_it
  pub fork_told : fork_reply ≡ answer s.state fork_it
  pub lazy : LeavesLazy s fork_it fork_reply f
  pub core_forked : IsCore f
  pub loaded : v.state ≡ next f.state load_copy
  pub load_stay : FramesStay (gone_by f.state load_copy) (memory_of f) (memory_of v)
  pub before : IsCore v
  pub begins : Begins v protect_it (answer v.state protect_it) w

pub worked_by : (o s f v w : View) (fork_reply : Reply) → Called o s f v w fork_reply → WorkedProtect w
worked_by o s f v w fork_reply k =
    worked v w k.before opened real_here (subst (λ (r : Reply). Begins v protect_it r w) (ap (λ (s : State). answer s protect_it) opened) k.begins)
  where
    stored : s.state ≡ next (open_with 16) first_store
    stored = k.stored ∙ ap (λ (z : State). next z first_store) k.opening

    forked : f.state ≡ next (next (open_with 16) first_store) fork_it
    forked = k.forked ∙ ap (λ (z : State). next z fork_it) stored

    opened : v.state ≡ loaded_state
    opened = k.loaded ∙ ap (λ (z : State). next z load_copy) forked

    -- the root's page is dirty
    cell : (c : Cell) × (map.get s.state.spaces (at_page 0 0x40000) ≡ Some c)
    cell = some_value (map.get s.state.spaces (at_page 0 0x40000)) (ap (λ (z : State). is_some (map.get z.spaces (at_page 0 0x40000))) stored)

    dirty : cell.0.dirty ≡ true
    dirty =
        let e : Some cell.0.dirty ≡ Some true = sym (ap (option_map (λ (c : Cell). c.dirty)) cell.1)
        ∙ ap (λ (z : State). option_map (λ (c : Cell). c.dirty) (map.get z.spaces (at_page 0 0x40000))) stored in
        cc

    -- so that its copy isn't lazy
    real_forked : is_lazy_at (memory_of f) (at_page 1 0x40000) ≡ false
    real_forked =
        k.lazy.copied 8 1 0x40000 refl (k.fork_told ∙ ap (λ (z : State). answer z fork_it) stored)
        ∙ dirty_real s k.core_stored (at_page 0 0x40000) cell.0 cell.1 dirty

    real_here : is_lazy_at (memory_of v) (at_page 1 0x40000) ≡ false
    real_here =
        let way = mapped_way f k.core_forked.image (at_page 1 0x40000) (ap (λ (z : State). is_some (map.get z.spaces (at_page 1 0x40000))) forked) in
        let stays : gone_by f.state load_copy (at_page 1 0x40000) way.1 ≡ false = gone_none f.state way.1 in
        (ways_of k.before).lazy (at_page 1 0x40000) way.0 way.1 (k.load_stay.ways (at_page 1 0x40000) way.0 way.1 stays way.2)
        ∙ sym ((ways_of k.core_forked).lazy (at_page 1 0x40000) way.0 way.1 way.2) ∙ real_forked
      where
        gone_none : (z : State) (g : ℕ) → gone_by z load_copy (at_page 1 0x40000) g ≡ false
        gone_none z g = by (completes (answer z load_copy))
          where
            by : (b : Bool) → (if b then gone_of_call 1 load_copy.call (at_page 1 0x40000) g else false) ≡ false
            by x0 = grind arith
