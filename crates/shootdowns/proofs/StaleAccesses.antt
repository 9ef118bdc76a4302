-- Accesses by what is kept of the memory before an event that only takes away.
use Rattle.shootdowns.proofs.Prelude.{◌≡◌, ℕ, true, List, [], ◌∷◌, length, refl, ap, sym, ◌∙◌, Option, Some, ◌⊎◌, slice_get, option_map, frame_bytes, Role, Free, Page, page_word, Slot, Cell, frame_number, memory_of, State, View, IsWellFormed, ServesEvent, bytes_kept, IsLoad, reply_kept, answer, next, IsCore, Processors, IsLoaded, Kept, AreRead, Call, Event, Reply, Ended, serves_call, kept-next, only_takes, Acknowledged, usable, under_way, IsStale, arith}
use Rattle.shootdowns.proofs.Accesses.{frame_at, kept_answer, kept_next, kept_beside, kept_long}
use Rattle.shootdowns.proofs.Alike.{Alike, with_state, FlagsGrow, flags_read, alike_then, alike_filled, again}
use Rattle.shootdowns.proofs.Filled.{fill, filled_state, get_filled, answer_filled, next_filled}
use Rattle.shootdowns.proofs.Remade.{Remade, remade, names_before, linked_before, all_same}
use Rattle.shootdowns.proofs.Rewritten.{is_fixed, no_slot, rewritten}
use Rattle.shootdowns.proofs.Standing.{Taken, Going, IsOne, is_event}
use Rattle.page_words.specs.FiniteMap as map
use Rattle.kernel_calls.specs.declared.calls.Call.TheVariants as call

-- ---- An access by what is kept of the memory before

pub load_leaves : (frames : ℕ → ℕ) (bytes : List ℕ) (c : Call) → IsLoad c → bytes_kept frames bytes c ≡ bytes
load_leaves frames bytes x2 h = grind arith

module _ (x : Ended) (done : Acknowledged) (e : Event) (r : Reply) (s : State) (w : View) (keeps : Processors) (takes : only_takes e.call ≡ true)
    (v : View) (g : Going x done e r s w keeps v) (i : ℕ) where
  abbrev t : Taken v e s w keeps
  t = g.taken

  pub one_loaded : (a : Event) (q : Reply) → IsLoaded (keeps i) w a q → IsOne (under_way x done e r s w) (a ∷ []) (q ∷ []) (under_way x done e r s w) keeps
  one_loaded a q l =
      let served = serves_call (with_state v s) (keeps i) a.pid l.frames a.call (t.read i) l.through in
      is_event (under_way x done e r s w) (under_way x done e r s w) a q keeps
      (l.found ∙ sym (kept_answer v t.before s t.alike t.well w.bytes l.frames a served) ∙ ap (λ (z : State). answer z a) (sym t.state))
      (t.state ∙ ap (λ b. filled_state (frame_at v) b s) (sym (load_leaves l.frames w.bytes a.call l.load))
      ∙ sym (kept_next v t.before s t.alike t.well w.bytes l.frames a served t.long) ∙ ap (λ (z : State). next z a) (sym t.state))
      (record { stands = g.stands; taken = λ _. (v, t) })

  module _ (a : Event) (q : Reply) (bytes : List ℕ) (frames : ℕ → ℕ) (served : ServesEvent (with_state v s) frames a)
      (found : q ≡ reply_kept frames w.bytes a.call) (left : bytes ≡ bytes_kept frames w.bytes a.call) where
    abbrev later : View
    later = record w { bytes = bytes; state = next (next s a) e }

    -- the order's state has the bytes that the store leaves
    state_now : next s a ≡ filled_state (frame_at v) bytes s
    state_now =
        ap (λ (z : State). next z a) t.state ∙ kept_next v t.before s t.alike t.well w.bytes frames a served t.long
        ∙ ap (λ b. filled_state (frame_at v) b s) (sym left)

    after_now : next (next s a) e ≡ filled_state (frame_at v) bytes (next s e)
    after_now = ap (λ (z : State). next z e) state_now ∙ next_filled (frame_at v) bytes s e takes

    after_then : w.state ≡ filled_state (frame_at v) w.bytes (next s e)
    after_then = g.stands.2 ∙ ap (λ (z : State). next z e) t.state ∙ next_filled (frame_at v) w.bytes s e takes

    long_now : length bytes ≡ length w.bytes
    long_now = ap length left ∙ kept_long v t.before s t.alike t.well w.bytes frames a served

    fixed_now : (f : ℕ) (role : Role) → slice_get w.roles f ≡ Some role → is_fixed role ≡ true → frame_bytes bytes f ≡ frame_bytes w.bytes f
    fixed_now f role is fixed = ap (λ b. frame_bytes b f) left ∙ kept_beside v t.before s t.alike t.well w.bytes frames a served f t.long (λ c page. by (t.pages f c page))
      where
        by : ((slice_get w.roles f ≡ Some Free) ⊎ ((d : ℕ) × (slice_get w.roles f ≡ Some (Page d)))) → ⊥
        by x0 = grind (arith, is_fixed)

    book_now : (next (next s a) e).book ≡ w.state.book
    book_now = ap (λ (z : State). z.book) after_now ∙ sym (ap (λ (z : State). z.book) after_then)

    well_now : IsWellFormed (next s a)
    well_now = (kept-next s a t.well).0

    cells_now : (slot : Slot) → map.get (next (next s a) e).spaces slot ≡ option_map (fill (frame_at v) bytes slot) (map.get w.state.spaces slot)
    cells_now slot =
        ap (λ (z : State). map.get z.spaces slot) after_now ∙ get_filled (frame_at v) bytes (next s e).spaces slot
        ∙ by (map.get (next s e).spaces slot)
        ∙ ap (option_map (fill (frame_at v) bytes slot)) (sym (ap (λ (z : State). map.get z.spaces slot) after_then ∙ get_filled (frame_at v) w.bytes (next s e).spaces slot))
      where
        by : (z : Option Cell) → option_map (fill (frame_at v) bytes slot) z ≡ option_map (fill (frame_at v) bytes slot) (option_map (fill (frame_at v) w.bytes slot) z)
        by x0 = grind arith

    -- so that it is a core's
    remade_now : Remade w (frame_at v) no_slot (next (next s a) e) bytes
    remade_now = rewritten w g.stands.0 (frame_at v) (next (next s a) e) bytes long_now fixed_now t.names book_now (kept-next (next s a) e well_now).0 cells_now

    core_now : IsCore later
    core_now = remade w g.stands.0 (frame_at v) no_slot (next (next s a) e) bytes remade_now

    read_now : (kept : List Kept) → AreRead w kept → AreRead later kept
    read_now = all_same w g.stands.0 (frame_at v) no_slot (next (next s a) e) bytes remade_now

    before_now : (slot : Slot) (n : ℕ) → page_word (memory_of later) slot ≡ Some n → (m : ℕ) × (page_word (memory_of w) slot ≡ Some m) × (frame_number m ≡ frame_number n)
    before_now = names_before w g.stands.0 (frame_at v) no_slot (next (next s a) e) bytes remade_now

    get_now : (slot : Slot) → map.get (next s a).spaces slot ≡ option_map (fill (frame_at v) bytes slot) (map.get s.spaces slot)
    get_now slot = ap (λ (z : State). map.get z.spaces slot) state_now ∙ get_filled (frame_at v) bytes s.spaces slot

    alike_now : Alike v.state (next s a)
    alike_now = alike_then v.state s (next s a) t.alike (alike_filled s (next s a) (frame_at v) bytes (ap (λ (z : State). z.book) state_now) get_now)

    flags_now : FlagsGrow s (next s a)
    flags_now slot c at = (fill (frame_at v) bytes slot c, get_now slot ∙ ap (option_map (fill (frame_at v) bytes slot)) at, λ h. h, λ h. h)

    taken_now : Taken v e (next s a) later keeps
    taken_now = record {
      behind = record {
        before = t.before;
        well = well_now;
        alike = alike_now;
        state = again (frame_at v) bytes s (next s a) state_now;
        names = λ slot n is. (let m = before_now slot n is in t.names slot m.0 m.1 ∙ m.2);
        homes = λ slot n d is live. (let m = before_now slot n is in t.homes slot m.0 d m.1 live);
        tables = λ p region f is. t.tables p region f (linked_before w g.stands.0 (frame_at v) no_slot (next (next s a) e) bytes remade_now p region f is);
        pages = t.pages;
        long = long_now ∙ t.long;
      };
      read = λ j. flags_read v s (next s a) flags_now (keeps j) (t.read j);
    }

    pub one_served : IsOne (under_way x done e r s w) (a ∷ []) (q ∷ []) (under_way x done e r (next s a) later) keeps
    one_served =
        is_event (under_way x done e r s w) (under_way x done e r (next s a) later) a q keeps
        (found ∙ sym (kept_answer v t.before s t.alike t.well w.bytes frames a served) ∙ ap (λ (z : State). answer z a) (sym t.state))
        refl
        (record {
          stands = (
            core_now,
            λ j. read_now (usable x done keeps j) (g.stands.1 j),
            refl,
            g.stands.3 ∙ sym (ap (λ (z : State). answer z e) state_now ∙ answer_filled (frame_at v) bytes s e takes),
          );
          taken = λ _. (v, taken_now);
        })

  pub one_stored : (a : Event) (q : Reply) (bytes : List ℕ) → IsStale (keeps i) w a q bytes
      → IsOne (under_way x done e r s w) (a ∷ []) (q ∷ []) (under_way x done e r (next s a) (record w { bytes = bytes; state = next (next s a) e })) keeps
  one_stored a q bytes l = one_served a q bytes l.frames
      (serves_call (with_state v s) (keeps i) a.pid l.frames a.call (t.read i) l.through) l.found l.left
