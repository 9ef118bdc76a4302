-- Bytes that are put into one page: the right for the time, the stores, and the right taken back.
use Rattle.kernel_acts.proofs.Prelude.{◌≡◌, ℕ, ◌+◌, ◌<◌, ◌≤◌, Bool, true, false, not, length, List, [], ◌∷◌, ◌++◌, sym, ap, subst, ◌∙◌, is_some, Option, Some, None, unwrap_or, inl, inr, arith, if◌then◌else◌, option_map, page_number, offset_number, same_map, some_value, same_cases, Slot, slot_order, Cell, fresh, cell_or_fresh, is_slot, at_page, slot_at, set_bytes, write_at, after_stores, State, is_live, is_mapped, View, after_protect, IsWellFormed, get-inserted, get-inserted_other, page_is_user, answer, next, completes, refused_or, stores, carried, AreStored, ended_by, is_ended, is_all_of, Event, protect_of, is_writable_at, store_run, IsRunTo, IsOpened, end_of-append}
use Rattle.kernel_acts.proofs.TransferLemmas.{carried-append}
use Rattle.kernel_acts.proofs.TransferSteps.{AreSmall, part_stored}
use Rattle.page_words.specs.FiniteMap as map
use Rattle.process_table.specs.declared.causes.Cause.TheVariants as cause
use Rattle.kernel_calls.specs.declared.calls.Reply.TheVariants as reply

-- a cell that may be written
pub cell_writes : (s : State) (slot : Slot) → is_writable_at s slot ≡ true → (cell_or_fresh s.spaces slot).write ≡ true
cell_writes s slot h = grind arith

-- stores to such a page go
pub all_stored_there : (s : State) (p a : ℕ) (bytes : List ℕ) → IsWellFormed s → is_mapped s (slot_at p a) ≡ true → is_writable_at s (slot_at p a) ≡ true
    → offset_number a + length bytes ≤ 4096 → 0 < length bytes → AreSmall bytes → AreStored s p a bytes (after_stores s p a bytes)
all_stored_there s p a bytes w mapped write within some small =
    let c = some_value (map.get s.spaces (slot_at p a)) mapped in
    part_stored s p a bytes (w.owners (slot_at p a) c.0 c.1) (w.cells (slot_at p a) c.0 c.1).user mapped (cell_writes s (slot_at p a) write) within some small

-- the right is taken back of any mapped page
pub close_done : (s : State) (p page : ℕ) → IsWellFormed s → is_mapped s (at_page p page) ≡ true → answer s (protect_of p page false) ≡ reply.Done
close_done s p page w mapped =
    let c = some_value (map.get s.spaces (at_page p page)) mapped in
    let live : is_live s p ≡ true = w.owners (at_page p page) c.0 c.1 in
    let user = page_is_user page (w.cells (at_page p page) c.0 c.1).user in
    λ i. if live i then refused_or (if not (user i) then Some cause.BadPage else if not (mapped i) then Some cause.NotMapped else None) reply.Done else reply.Refused cause.NoProcess

pub stored_there : (s : State) (p a : ℕ) (bytes : List ℕ) → is_mapped (after_stores s p a bytes) (slot_at p a) ≡ true
stored_there s p a bytes =
    let slot = slot_at p a in
    let c = cell_or_fresh s.spaces slot in
    let new = write_at c.bytes (offset_number a) bytes in
    ap is_some (get-inserted (set_bytes s.spaces c.holders new) slot (record c { bytes = new; accessed = true; dirty = true }))

-- one event that completes
pub one_carried : (s : State) (e : Event) → completes (answer s e) ≡ true → carried s (e ∷ []) ≡ e ∷ []
one_carried s e h = ap (λ b. if b then e ∷ [] else []) h

-- a run of one event
pub run_one : (s t : State) (e : Event) → completes (answer s e) ≡ true → t ≡ next s e → IsRunTo s (e ∷ []) t
run_one s t e done after = record { all = one_carried s e done; after = sym after }

-- one run after another
pub run_then : (s t u : State) (first second : List Event) → IsRunTo s first t → IsRunTo t second u → IsRunTo s (first ++ second) u
run_then s t u first second a b = grind (arith, carried-append, end_of-append)

-- ---- The page that is made writable

-- a page that was given the right to write
pub open_there : (s : State) (p page : ℕ) → is_mapped (after_protect s p page true) (at_page p page) ≡ true
open_there s p page = ap is_some (get-inserted s.spaces (at_page p page) (record (cell_or_fresh s.spaces (at_page p page)) { write = true }))

pub open_writes : (s : State) (p page : ℕ) → is_writable_at (after_protect s p page true) (at_page p page) ≡ true
open_writes s p page = grind (arith, get-inserted)

with_right : (c : Cell) → c.write ≡ true → c ≡ record c { write = true }
with_right c h = λ i. record c { write = h i }

-- one that has it already is as it was
open_before : (s : State) (p page : ℕ) → is_mapped s (at_page p page) ≡ true → is_writable_at s (at_page p page) ≡ true → s ≡ after_protect s p page true
open_before s p page there right =
    let slot = at_page p page in
    let c = some_value (map.get s.spaces slot) there in
    let cell : cell_or_fresh s.spaces slot ≡ c.0 = ap (λ (x : Option Cell). unwrap_or x (fresh slot true)) c.1 in
    let writes : c.0.write ≡ true = sym (ap (λ (x : Option Cell). unwrap_or (option_map (λ (c : Cell). c.write) x) false) c.1) ∙ right in
    let same : Some c.0 ≡ Some (record (cell_or_fresh s.spaces slot) { write = true }) =
    ap Some (with_right c.0 writes ∙ ap (λ (x : Cell). record x { write = true }) (sym cell))
    in
    λ i. record s {
      spaces = same_map s.spaces (map.insert s.spaces slot (record (cell_or_fresh s.spaces slot) { write = true })) (λ q. elim (same_cases slot_order q slot) [
        | inl is ↦ grind (arith, get-inserted)
        | inr other ↦ sym (get-inserted_other s.spaces slot (record (cell_or_fresh s.spaces slot) { write = true }) q other.0)
      ]) i;
    }

-- ---- What opens it

pub opened_before : (s : State) (p page : ℕ) → is_mapped s (at_page p page) ≡ true → is_writable_at s (at_page p page) ≡ true → IsOpened s p page s
opened_before s p page there right = grind (arith, open_before)

-- ---- What stores and closes it

pub store_run_closed : (s t u : State) (p a : ℕ) (bytes : List ℕ) (write : Bool) → write ≡ false → AreStored s p a bytes t
    → completes (answer t (protect_of p (page_number a) false)) ≡ true → u ≡ next t (protect_of p (page_number a) false) → IsRunTo s (store_run p a bytes write) u
store_run_closed s t u p a bytes write is stored done after =
    let e = protect_of p (page_number a) false in
    let run : store_run p a bytes write ≡ stores p a bytes ++ e ∷ [] = ap (λ b. stores p a bytes ++ (if b then [] else e ∷ [])) is in
    subst (λ (es : List Event). IsRunTo s es u) (sym run)
    (run_then s t u (stores p a bytes) (e ∷ []) (record { all = stored.all; after = stored.after }) (run_one t u e done after))

-- the Protect that takes the right ends the page's translation, or none
pub closing_spares : (v : View) (p page : ℕ) (slot : Slot) → is_slot p page slot ≡ false → is_ended (ended_by v (protect_of p page false)) slot ≡ false
closing_spares v p page slot spared = grind arith

pub closing_ends_no_space : (v : View) (p page q : ℕ) → is_all_of (ended_by v (protect_of p page false)) q ≡ false
closing_ends_no_space v p page q = grind arith
