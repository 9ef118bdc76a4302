-- The load of the worked Accept.
use Rattle.shootdowns.proofs.Prelude.{◌≡◌, ℕ, Bool, true, false, [], ◌∷◌, refl, ap, sym, ◌∙◌, subst, arith, Some, is_some, if◌then◌else◌, option_map, some_value, Read, is_lazy_at, Cell, at_page, FramesStay, memory_of, State, open_with, View, gone_by, gone_of_call, reply_kept, LeavesLazy, answer, completes, next, AllAreRead, IsCore, IsLoaded, Processors, with_kept, IsRead, Kept, translation, ended_by, is_invalidated, Event, Reply, ways_of, mapped_way, Uses, Begins, accept_it, load_it, map_it, none_kept, offer_it, spawn_it, WorkedZeros}
use Rattle.page_words.specs.FiniteMap as map
use Rattle.kernel_calls.specs.declared.calls.Reply.TheVariants as reply
use Rattle.shootdowns.specs.Shadows.{loaded, none}
use Rattle.shootdowns.proofs.Given.{found, given_directory, given_frame, given_live}
use Rattle.shootdowns.proofs.Shadowed.{uses_come_after_zeros}

abbrev mapped_state : State
mapped_state = next (open_with 16) map_it

abbrev offered_state : State
offered_state = next (next (next mapped_state load_it) spawn_it) offer_it

cell_there : (c : Cell) × (map.get offered_state.spaces (at_page 0 0x40000) ≡ Some c)
cell_there = some_value (map.get offered_state.spaces (at_page 0 0x40000)) refl

was_accessed : cell_there.0.accessed ≡ true
was_accessed = let e : Some cell_there.0.accessed ≡ Some true = sym (ap (option_map (λ (c : Cell). c.accessed)) cell_there.1) in cc

first_told : (q : Reply) (s : State) (e : Event) → (q ∷ []) ≡ (answer s e ∷ []) → q ≡ answer s e
first_told q s e h = cc

module _ (v w : View) (core : IsCore v) (state : v.state ≡ offered_state) (lazy : is_lazy_at (memory_of v) (at_page 0 0x40000) ≡ true)
    (b : Begins v accept_it reply.Done w) where
  there : map.get v.state.spaces (at_page 0 0x40000) ≡ Some cell_there.0
  there = ap (λ (s : State). map.get s.spaces (at_page 0 0x40000)) state ∙ cell_there.1

  abbrev frame : ℕ
  frame = given_frame v core 0 0x40000 cell_there.0 there

  abbrev kept : Kept
  kept = translation (record { slot = at_page 0 0x40000; frame = frame; write = false; dirty = false })

  abbrev keeps : Processors
  keeps = with_kept none_kept 0 (kept ∷ [])

  is_given : IsRead v kept
  is_given = record {
    page = omega arith;
    directory = given_directory v core 0 0x40000 cell_there.0 there;
    live = given_live v core 0 0x40000 cell_there.0 there;
    read = λ a small here. found v core 0 0x40000 cell_there.0 there Read a small here (λ no. (let k = no in cc));
    written = λ no. cc;
    cell = cell_there.0;
    mapped = there;
    accessed = was_accessed;
    dirty = λ no. cc;
  }

  read : AllAreRead v keeps
  read i = grind (arith, is_given)

  abbrev q : Reply
  q = reply_kept (λ _. frame) w.bytes load_it.call

  loads : IsLoaded (keeps 0) w load_it q
  loads = record {
    load = tt;
    frames = λ _. frame;
    through = (record { place = 0; write = false; dirty = false; there = refl; right = λ no. cc }, tt);
    found = refl;
  }

  uses : Uses keeps w (load_it ∷ []) (q ∷ []) w
  uses = loaded 0 loads none

  value : q ≡ reply.Value 0
  value =
      let came = uses_come_after_zeros v w w keeps accept_it reply.Done (load_it ∷ []) (q ∷ []) core read b lazy uses in
      first_told q w.state load_it came.replies
      ∙ ap (λ (s : State). answer s load_it) (b.carried.state ∙ ap (λ (s : State). next s accept_it) state)

  stale : is_invalidated (ended_by v accept_it) kept ≡ true
  stale =
      let done : completes (answer v.state accept_it) ≡ true = ap (λ (s : State). completes (answer s accept_it)) state in
      grind (arith, done, lazy)

  pub worked : WorkedZeros w
  worked = record {
    before = v;
    opened = state;
    kept = kept;
    keeps = keeps;
    one = refl;
    read = read;
    begins = b;
    zeros = lazy;
    stale = stale;
    uses = rw value at uses;
  }

-- ---- From the calls

-- a page stays lazy through an event that takes no way of it
stays_lazy : (v w : View) (e : Event) → IsCore v → IsCore w → is_some (map.get v.state.spaces (at_page 0 0x40000)) ≡ true
    → ((frame : ℕ) → gone_of_call e.pid e.call (at_page 0 0x40000) frame ≡ false)
    → FramesStay (gone_by v.state e) (memory_of v) (memory_of w)
    → is_lazy_at (memory_of w) (at_page 0 0x40000) ≡ is_lazy_at (memory_of v) (at_page 0 0x40000)
stays_lazy v w e core later mapped spares stay =
    let way = mapped_way v core.image (at_page 0 0x40000) mapped in
    (ways_of later).lazy (at_page 0 0x40000) way.0 way.1 (stay.ways (at_page 0 0x40000) way.0 way.1 (by (completes (answer v.state e)) way.1) way.2)
    ∙ sym ((ways_of core).lazy (at_page 0 0x40000) way.0 way.1 way.2)
  where
    by : (c : Bool) (f : ℕ) → (if c then gone_of_call e.pid e.call (at_page 0 0x40000) f else false) ≡ false
    by x0 f = grind arith

-- what the calls of a core that boots ensure
pub record Called (o a l c v w : View) (map_reply : Reply) : Type 0 where
  pub opening : o.state ≡ open_with 16
  pub mapped : a.state ≡ next o.state map_it
  pub map_told : map_reply ≡ answer o.state map_it
  pub lazy : LeavesLazy o map_it map_reply a
  pub core_mapped : IsCore a
  pub loaded : l.state ≡ next a.state load_it
  pub load_stay : FramesStay (gone_by a.state load_it) (memory_of a) (memory_of l)
  pub core_loaded : IsCore l
  pub spawned : c.state ≡ next l.state spawn_it
  pub spawn_stay : FramesStay (gone_by l.state spawn_it) (memory_of l) (memory_of c)
  pub core_spawned : IsCore c
  pub offered : v.state ≡ next c.state offer_it
  pub offer_stay : FramesStay (gone_by c.state offer_it) (memory_of c) (memory_of v)
  pub before : IsCore v
  pub begins : Begins v accept_it (answer v.state accept_it) w

pub worked_by : (o a l c v w : View) (map_reply : Reply) → Called o a l c v w map_reply → WorkedZeros w
worked_by o a l c v w map_reply k =
    worked v w k.before opened lazy_here (subst (λ (r : Reply). Begins v accept_it r w) (ap (λ (s : State). answer s accept_it) opened) k.begins)
  where
    mapped : a.state ≡ mapped_state
    mapped = k.mapped ∙ ap (λ (z : State). next z map_it) k.opening

    loaded_then : l.state ≡ next mapped_state load_it
    loaded_then = k.loaded ∙ ap (λ (z : State). next z load_it) mapped

    spawned : c.state ≡ next (next mapped_state load_it) spawn_it
    spawned = k.spawned ∙ ap (λ (z : State). next z spawn_it) loaded_then

    opened : v.state ≡ offered_state
    opened = k.offered ∙ ap (λ (z : State). next z offer_it) spawned

    there : (z s : State) → z ≡ s → is_some (map.get s.spaces (at_page 0 0x40000)) ≡ true → is_some (map.get z.spaces (at_page 0 0x40000)) ≡ true
    there z s is h = ap (λ (z : State). is_some (map.get z.spaces (at_page 0 0x40000))) is ∙ h

    lazy_here : is_lazy_at (memory_of v) (at_page 0 0x40000) ≡ true
    lazy_here =
        stays_lazy c v offer_it k.core_spawned k.before (there c.state (next (next mapped_state load_it) spawn_it) spawned refl) (λ frame. refl) k.offer_stay
        ∙ stays_lazy l c spawn_it k.core_loaded k.core_spawned (there l.state (next mapped_state load_it) loaded_then refl) (λ frame. refl) k.spawn_stay
        ∙ stays_lazy a l load_it k.core_mapped k.core_loaded (there a.state mapped_state mapped refl) (λ frame. refl) k.load_stay
        ∙ k.lazy.mapped 0x40000 true refl (k.map_told ∙ ap (λ (z : State). answer z map_it) k.opening)
