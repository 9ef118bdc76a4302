-- Steps of windows are events in an order.
use Rattle.shootdowns.proofs.Prelude.{◌≡◌, ◌≢◌, ℕ, arith, true, false, List, [], ◌∷◌, length, refl, ap, sym, ◌∙◌, subst, Option, Some, None, ◌⊎◌, slice_get, option_map, slice_get_within, same_map, frame_number, frame_bytes, frames-with_word, with_frame-other, Role, Free, Directory, Page, page_word, directory_of, Slot, Cell, Spaces, with_bytes, memory_of, State, View, IsWellFormed, answers, next, end_of, IsCore, Processors, with_kept, AllAreRead, AreAmong, IsWalked, IsMarked, Kept, IsRead, AreRead, Ends, ended_by, left_by, Event, Reply, Ended, left_read, walks_leave_cores, marks_leave_cores, among_read, read_with, one, kept-next, only_takes, Acknowledged, nobody, usable, Moment, acknowledged, ended_in, settled, under_way, Step, begun, loaded, walked, marked, ordered, usual, refilled, forgotten, invalidated, told, Steps, none, first, memory_in, state_of, Stands, ShootdownsMakeEvents, stored_clean, with_one}
use Rattle.std.specs.Prelude.{◌*◌, is_some}
use Rattle.shootdowns.specs.Windows.{stored}
use Rattle.shootdowns.proofs.Accesses.{frame_at}
use Rattle.shootdowns.proofs.Alike.{Alike, with_state, FlagsGrow, flags_read, alike_same, alike_then}
use Rattle.shootdowns.proofs.Filled.{fill, get_filled}
use Rattle.shootdowns.proofs.FreeFrames.{LeavesFree, walk_leaves}
use Rattle.shootdowns.proofs.Kept.{none_left, nothing_read, left_all, left_more, left_fewer, left_done, all_told}
use Rattle.shootdowns.proofs.Onward.{names_onward, tables_onward, full_onward}
use Rattle.shootdowns.proofs.Refilled.{read_before}
use Rattle.shootdowns.proofs.Turned.{Grows, grows_same, keys_of, mapped_before, mapped_after, next_grows, next_book, answer_alike, turned}
use Rattle.shootdowns.proofs.WalkedIn.{pages_in, done_in, done_after, same_answer, bytes_beside}
use Rattle.shootdowns.proofs.Taking.{pages_stand, names_stay, homes_stay, tables_stay, filled_first, long_stays}
use Rattle.shootdowns.proofs.DirtyCells.{right_taken}
use Rattle.shootdowns.proofs.Standing.{Taken, Good, IsOne, is_event, is_none}
use Rattle.shootdowns.proofs.StaleAccesses.{one_loaded, one_stored}
use Rattle.shootdowns.proofs.CleanStores.{one_clean}
use Rattle.page_words.specs.FiniteMap as map
use Rattle.page_words.specs.FiniteSet as set
use Rattle.kernel_calls.specs.declared.translations.Ended.TheVariants as end

-- ---- An access by a walk, and a mark

-- what is read after a step without end
stay_read : (w u : View) → Ends end.Nothing w u → (kept : List Kept) → AreRead w kept → AreRead u kept
stay_read w u ends kept all = subst (AreRead u) (none_left kept) (left_read end.Nothing w u kept ends all)

-- a mark writes in a directory
mark_leaves : (w : View) → IsCore w → (u : View) → IsMarked w u → LeavesFree w u
mark_leaves w core u k f free =
    let role = (core.image.memory.sound.directories k.directory k.pid).1 k.live in
    let within = slice_get_within w.roles k.directory (Directory k.pid) role in
    let size = core.image.memory.sound.size in
    let user = k.user in
    let high = user.1 in
    let apart : f ≢ k.directory = λ same. (
    let n : ◌≡◌ {A = Option Role} (Some Free) (Some (Directory k.pid)) = sym free ∙ ap (slice_get w.roles) same ∙ role in
    cc) in
    grind (arith, frames-with_word, with_frame-other)

-- what any such step leaves, where the order's state grows to another
onward : (x : Ended) (done : Acknowledged) (e : Event) (r : Reply) (s t : State) (w u : View) (keeps : Processors) → only_takes e.call ≡ true → (v : View) → Taken v e s w keeps → IsCore w → IsCore u
    → w.state ≡ next s e → u.state ≡ next t e → u.directories ≡ w.directories → u.roles ≡ w.roles → Ends end.Nothing w u → LeavesFree w u → IsWellFormed t → t.book ≡ s.book → Grows s.spaces t.spaces
    → ((slot : Slot) → map.contains_key u.state.spaces slot ≡ map.contains_key w.state.spaces slot)
    → ((slot : Slot) (c d : Cell) → map.get s.spaces slot ≡ Some c → map.get t.spaces slot ≡ Some d → is_some (map.get w.state.spaces slot) ≡ false
    → ((b : Slot) (k : Cell) → is_some (map.get w.state.spaces b) ≡ true → map.get s.spaces b ≡ Some k → set.contains k.holders slot ≡ false) → d.bytes ≡ c.bytes)
    → Taken v e t u keeps
onward x done e r s t w u keeps takes v k core later state_w state_u dirs roles ends free well book grows keys beside = record {
  behind = record {
    before = k.before;
    well = well;
    alike = alike;
    state = ap (λ (S : Spaces). record t { spaces = S }) (same_map _ _ (λ slot. full slot (map.get t.spaces slot) refl ∙ sym (get_filled (frame_at v) u.bytes t.spaces slot)));
    names = names_u;
    homes = λ slot word d is live.
        let old = names_onward w u core later ends (λ q h. sym (keys q) ∙ h) slot word is in
        k.homes slot old.0 d old.1 (ap (λ (l : List (Option ℕ)). directory_of l slot.pid) (sym dirs) ∙ live);
    tables = λ p region f is. k.tables p region f (tables_onward w u core later ends (λ q h. sym (keys q) ∙ h) p region f is);
    pages = λ f c is. subst (λ (l : List Role). (slice_get l f ≡ Some Free) ⊎ ((d : ℕ) × (slice_get l f ≡ Some (Page d)))) (sym roles) (k.pages f c is);
    long = later.image.memory.sound.size ∙ ap (λ (l : List Role). 4096 * length l) roles ∙ sym core.image.memory.sound.size ∙ k.long;
  };
  read = λ j. flags_read v s t flags (keeps j) (k.read j);
}
  where
    names_u : (slot : Slot) (word : ℕ) → page_word (memory_of u) slot ≡ Some word → frame_at v slot ≡ frame_number word
    names_u slot word is = let old = names_onward w u core later ends (λ q h. sym (keys q) ∙ h) slot word is in k.names slot old.0 old.1 ∙ old.2

    alike : Alike v.state t
    alike = alike_then v.state s t k.alike (record { book = book; cells = λ slot c at. (let d = grows.cells slot c at in (d.0, d.1, d.2)); back = grows.back })

    flags : FlagsGrow s t
    flags slot c at = let d = grows.cells slot c at in (d.0, d.1, d.3.0, d.3.1)

    bytes : (slot : Slot) (d : Cell) → map.get t.spaces slot ≡ Some d → d.bytes ≡ frame_bytes u.bytes (frame_at v slot)
    bytes = full_onward v k.before s t k.alike (alike_then v.state s t k.alike (record { book = book; cells = λ slot c at. (let d = grows.cells slot c at in (d.0, d.1, d.2)); back = grows.back }))
        well e takes w u core later state_w state_u k.names
        (λ slot word is. (let old = names_onward w u core later ends (λ q h. sym (keys q) ∙ h) slot word is in k.names slot old.0 old.1 ∙ old.2))
        (λ slot. sym (keys slot)) k.pages free k.state beside

    full : (slot : Slot) (z : Option Cell) → map.get t.spaces slot ≡ z → map.get t.spaces slot ≡ option_map (fill (frame_at v) u.bytes slot) (map.get t.spaces slot)
    full slot None is = is ∙ sym (ap (option_map (fill (frame_at v) u.bytes slot)) is)
    full slot (Some d) is = is ∙ ap (λ l. Some (with_bytes d l)) (bytes slot d is) ∙ sym (ap (option_map (fill (frame_at v) u.bytes slot)) is)

one_walked : (x : Ended) (done : Acknowledged) (e : Event) (r : Reply) (s : State) (w u : View) (keeps : Processors) → only_takes e.call ≡ true → Good (under_way x done e r s w) keeps
    → (a : Event) (q : Reply) → IsWalked w a q u → IsOne (under_way x done e r s w) (a ∷ []) (q ∷ []) (under_way x done e r (next s a) u) keeps
one_walked x done e r s w u keeps takes good a q k =
    let core = good.stands.0 in
    let state = good.stands.2 in
    let t = good.taken takes in
    let pages = pages_in s t.1.well e takes w core state a k.directory k.live k.finds in
    let goes = done_in s t.1.well e takes w core state a k.directory k.live k.finds in
    let later = done_after s t.1.well e takes w core state a k.directory k.live k.finds in
    let mapped = mapped_before s e a.pid a.call pages in
    let left = walks_leave_cores w u a q core k in
    let state_u : u.state ≡ next w.state a = ap (λ (z : View). z.state) k.left in
    let now : u.state ≡ next (next s a) e = state_u ∙ ap (λ (z : State). next z a) state ∙ turned s e a takes pages goes later in
    let grows = next_grows s a goes mapped in
    let book = next_book s a goes mapped in
    let keys : (slot : Slot) → map.contains_key u.state.spaces slot ≡ map.contains_key w.state.spaces slot = λ slot.
    ap (λ (z : State). map.contains_key z.spaces slot) (state_u ∙ ap (λ (z : State). next z a) state)
    ∙ keys_of (next s e).spaces (next (next s e) a).spaces (next_grows (next s e) a later (mapped_after s e a.pid a.call (next s e) refl pages)) slot
    ∙ sym (ap (λ (z : State). map.contains_key z.spaces slot) state) in
    is_event (under_way x done e r s w) (under_way x done e r (next s a) u) a q keeps
    (left.0 ∙ same_answer s t.1.well e takes w core state a k.directory k.live k.finds)
    refl
    (record {
      stands = (
        left.1.core,
        λ j. stay_read w u left.1.ends (usable x done keeps j) (good.stands.1 j),
        now,
        good.stands.3 ∙ sym (answer_alike s (next s a) e takes book grows),
      );
      taken = λ _. (
        t.0,
        onward x done e r s (next s a) w u keeps takes t.0 t.1 core left.1.core state now (ap (λ (z : View). z.directories) k.left) (ap (λ (z : View). z.roles) k.left) left.1.ends (walk_leaves w u a q core k) (kept-next s a t.1.well).0 book grows keys
            (bytes_beside s t.1.well e takes w core state a k.directory k.live k.finds),
      );
    })

one_marked : (x : Ended) (done : Acknowledged) (e : Event) (r : Reply) (s : State) (w u : View) (keeps : Processors) → only_takes e.call ≡ true → Good (under_way x done e r s w) keeps
    → IsMarked w u → IsOne (under_way x done e r s w) [] [] (under_way x done e r s u) keeps
one_marked x done e r s w u keeps takes good k =
    let core = good.stands.0 in
    let t = good.taken takes in
    let left = marks_leave_cores w u core k in
    let same : u.state ≡ w.state = ap (λ (z : View). z.state) k.left in
    is_none (under_way x done e r s w) (under_way x done e r s u) keeps refl
    (record {
      stands = (left.core, λ j. stay_read w u left.ends (usable x done keeps j) (good.stands.1 j), same ∙ good.stands.2, good.stands.3);
      taken = λ _. (
        t.0,
        onward x done e r s s w u keeps takes t.0 t.1 core left.core good.stands.2 (same ∙ good.stands.2) (ap (λ (z : View). z.directories) k.left) (ap (λ (z : View). z.roles) k.left) left.ends (mark_leaves w core u k) t.1.well refl (grows_same s.spaces)
            (λ slot. ap (λ (z : State). map.contains_key z.spaces slot) same)
            (λ slot c d at now gone out. (let e : Some d ≡ Some c = sym now ∙ at in let q : d ≡ c = cc in ap (λ (z : Cell). z.bytes) q)),
      );
    })

-- one processor keeps another list, of which what may be used is read, and all as it was before the event
other_kept : (x : Ended) (done after : Acknowledged) (e : Event) (r : Reply) (s : State) (w : View) (keeps : Processors) (i : ℕ) (left : List Kept)
    → Good (under_way x done e r s w) keeps → AllAreRead w (usable x after (with_kept keeps i left))
    → (only_takes e.call ≡ true → (v : View) → Taken v e s w keeps → AreRead (with_state v s) left) → Good (under_way x after e r s w) (with_kept keeps i left)
other_kept x done after e r s w keeps i left good all read = record {
  stands = (good.stands.0, all, good.stands.2, good.stands.3);
  taken = λ takes.
      let t = good.taken takes in
      (t.0, record { behind = t.1.behind; read = read_with (with_state t.0 s) keeps i left t.1.read (read takes t.0 t.1) });
}

-- a processor keeps one more
more_kept : (m : Moment) (keeps : Processors) (i : ℕ) (k : Kept) → IsRead (memory_in m) k → Good m keeps → Good m (with_kept keeps i (k ∷ keeps i))
more_kept (settled x done w) keeps i k read good = grind (arith, left_more)
more_kept (under_way x done e r s w) keeps i k read good =
    other_kept x done done e r s w keeps i (k ∷ keeps i) good (left_more x done w keeps i k read good.stands.1)
    (λ takes v t. (read_before v t.before s t.alike e takes w good.stands.0 good.stands.2 t.names t.homes t.tables k read, t.read i))

-- a processor invalidates
same_state : (m : Moment) (i : ℕ) → state_of (acknowledged m i) ≡ state_of m
same_state x0 i = grind arith

done_kept : (m : Moment) (keeps : Processors) (i : ℕ) → Good m keeps → Good (acknowledged m i) (with_kept keeps i (left_by (ended_in m) (keeps i)))
done_kept (settled x done w) keeps i good = record { stands = (good.stands.0, left_done x done w keeps i good.stands.1); taken = tt }
done_kept (under_way x done e r s w) keeps i good =
    other_kept x done (with_one done i) e r s w keeps i (left_by x (keeps i)) good (left_done x done w keeps i good.stands.1)
    (λ _ v t. left_all x (with_state v s) (keeps i) (t.read i))

-- ---- One step

fewer_kept : (m : Moment) (keeps : Processors) (i : ℕ) (left : List Kept) → AreAmong left (keeps i) → Good m keeps → Good m (with_kept keeps i left)
fewer_kept (settled x done w) keeps i left among good = record { stands = (good.stands.0, left_fewer x done w keeps i left among good.stands.1); taken = tt }
fewer_kept (under_way x done e r s w) keeps i left among good =
    other_kept x done done e r s w keeps i left good (left_fewer x done w keeps i left among good.stands.1)
    (λ _ v t. among_read (with_state v s) left (keeps i) among (t.read i))

step : {m n : Moment} {keeps between : Processors} {es : List Event} {rs : List Reply} → Step m keeps es rs n between → Good m keeps
    → IsOne m es rs n between
step (begun {v = v} {w = w} {done = done} {keeps = keeps} {e = e} {r = r} b) good =
    let read : AllAreRead v keeps = λ i. nothing_read v (keeps i) (done i) (good.stands.1 i) in
    is_none (settled end.Nothing done v) (under_way (ended_by v e) nobody e r v.state w) keeps refl
    (record {
      stands = (b.carried.core, λ i. left_read (ended_by v e) v w (keeps i) b.carried.ends (read i), b.carried.state, b.carried.reply);
      taken = λ takes.
          let stand = pages_stand v w good.stands.0 b.carried.core e b.carried.state b.stay b.loose takes in (
            v,
            record {
              behind = record {
                before = good.stands.0;
                well = good.stands.0.well_formed;
                alike = alike_same v.state;
                state = filled_first v w good.stands.0 b.carried.core e takes b.carried.state b.stay stand;
                names = names_stay v w good.stands.0 b.carried.core e takes b.carried.state b.stay stand;
                homes = homes_stay v w good.stands.0 b.carried.core e takes b.carried.state b.stay stand;
                tables = tables_stay v w good.stands.0 b.carried.core e takes b.carried.state b.stay stand;
                pages = λ f c is. (stand.each f c is).1;
                long = long_stays v w good.stands.0 b.carried.core e takes b.carried.state b.stay stand;
              };
              read = read;
            },
          );
    })
step (loaded {x = x} {done = done} {w = w} {s = s} {keeps = keeps} {e = e} {a = a} {r = r} {q = q} i takes l) good = one_loaded x done e r s w keeps takes (good.taken takes).0 (record { stands = good.stands; taken = (good.taken takes).1 }) i a q l
step (stored {x = x} {done = done} {w = w} {s = s} {keeps = keeps} {e = e} {a = a} {r = r} {q = q} {bytes = bytes} i takes l) good =
    one_stored x done e r s w keeps takes (good.taken takes).0 (record { stands = good.stands; taken = (good.taken takes).1 }) i a q bytes l
step (stored_clean {x = x} {done = done} {w = w} {s = s} {keeps = keeps} {e = e} {a = a} {r = r} {q = q} {bytes = bytes} i right l) good =
    let t = good.taken (right_taken e.call right) in
    one_clean x done e r keeps right i s w t.0 (record { stands = good.stands; taken = t.1 }) a q bytes l
step (walked {x = x} {done = done} {w = w} {u = u} {s = s} {keeps = keeps} {e = e} {a = a} {r = r} {q = q} takes k) good = one_walked x done e r s w u keeps takes good a q k
step (marked {x = x} {done = done} {w = w} {u = u} {s = s} {keeps = keeps} {e = e} {r = r} takes k) good = one_marked x done e r s w u keeps takes good k
step (ordered {x = x} {done = done} {w = w} {s = s} {keeps = keeps} {e = e} {r = r}) good = grind (arith, is_event)
step (usual {x = x} {done = done} {v = v} {w = w} {keeps = keeps} {es = es} {rs = rs} own) good = grind (arith, one)
step (refilled {m = m} {keeps = keeps} i k read) good = is_none m m (with_kept keeps i (k ∷ keeps i)) refl (more_kept m keeps i k read good)
step (forgotten {m = m} {keeps = keeps} i left among) good = is_none m m (with_kept keeps i left) refl (fewer_kept m keeps i left among good)
step (invalidated {m = m} {keeps = keeps} i) good = is_none m (acknowledged m i) (with_kept keeps i (left_by (ended_in m) (keeps i))) (same_state m i) (done_kept m keeps i good)
step (told {x = x} {done = done} {v = v} {keeps = keeps} all) good = grind (arith, is_none, none_left, all_told)

-- ---- All steps

-- what steps come to, from a moment on
record Comes (m : Moment) (events : List Event) (told : List Reply) (n : Moment) (last : Processors) : Type 0 where
  replies : told ≡ answers (state_of m) events
  state : state_of n ≡ end_of (state_of m) events
  stands : Stands n last

all_steps : {m n : Moment} {keeps last : Processors} {events : List Event} {replies : List Reply}
    → Steps m keeps events replies n last → Good m keeps → Comes m events replies n last
all_steps none good = record { replies = refl; state = refl; stands = good.stands }
all_steps (first {es = es} {events = events} {rs = rs} {replies = replies} now more) good =
    let here = step now good in
    let later = all_steps more here.good in
    grind arith

pub shootdowns_make_events : ShootdownsMakeEvents
shootdowns_make_events v m keeps last events replies core all steps = grind (arith, all_steps, none_left)
