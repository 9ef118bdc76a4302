-- An access by a walk, while an event that only takes away isn't in the order.
use Rattle.shootdowns.proofs.Prelude.{◌≡◌, ℕ, ◌+◌, Bool, true, false, refl, ap, sym, ◌∙◌, subst, Option, Some, unwrap_or, is_some, ◌&&◌, not, if◌then◌else◌, page_number, byte_count, Size, some_value, Access, Read, Write, finds_at, finds, directory_at, is_lazy_at, takes_stores, Slot, Cell, at_page, slot_at, byte_at, value_of, cell_or_fresh, fresh, each_byte, same_each, memory_of, State, is_live, is_mapped, View, IsWellFormed, touched_user, plan_of, plan_at, takes_no_frame, each_page, walk_completes, answer, answer_of, next, completes, IsCore, finds_call, finds_event, reply_found, Call, Event, goes-call, next-goes, kept-next, answered, each_found, page_mapped, page_takes, only_takes, goes_frameless, told_planned, arith, both_true}
use Rattle.page_words.specs.FiniteMap as map
use Rattle.page_words.specs.FiniteSet as set
use Rattle.process_table.specs.Calls.{loaded}
use Rattle.process_table.specs.declared.causes.Cause.TheVariants as cause
use Rattle.kernel_calls.specs.declared.calls.Call.TheVariants as call
use Rattle.kernel_calls.specs.declared.calls.Reply.TheVariants as reply
use Rattle.shootdowns.proofs.Turned.{Pages, StaysMapped, Mapped, mapped_before, mapped_after}
use Rattle.shootdowns.proofs.Taking.{left_next}
use Rattle.shootdowns.proofs.Untouched.{was, Beside, Besides, after_beside}

module _ (s : State) (well : IsWellFormed s) (e : Event) (takes : only_takes e.call ≡ true) (w : View) (core : IsCore w) (state : w.state ≡ next s e) (p d : ℕ)
    (live : directory_at (memory_of w) p ≡ Some d) where
  -- a page that the walk finds stays mapped
  stays : (n : ℕ) (writes : Bool) → is_some (map.get w.state.spaces (at_page p n)) ≡ true → (writes ≡ true → (cell_or_fresh w.state.spaces (at_page p n)).write ≡ true)
      → StaysMapped s e p writes n
  stays n writes mapped write =
      let now : is_some (map.get (next s e).spaces (at_page p n)) ≡ true = sym (ap (λ (z : State). is_some (map.get z.spaces (at_page p n))) state) ∙ mapped in
      let cell = some_value (map.get (next s e).spaces (at_page p n)) now in
      record {
        before = some_value (map.get s.spaces (at_page p n)) (left_next s e takes (at_page p n) now).0;
        cell = cell.0;
        there = cell.1;
        write = λ h.
            sym (ap (λ (z : Option Cell). (unwrap_or z (fresh (at_page p n) true)).write) (ap (λ (z : State). map.get z.spaces (at_page p n)) state ∙ cell.1)) ∙ write h;
      }

  found_pages : (c : Call) → finds_call w p c ≡ true → Pages s e p c
  found_pages (call.Load addr size) h = each_found w core p d live Read addr size (StaysMapped s e p false)
      (λ a found. stays (page_number a) false (page_mapped w core p d live Read a found) (λ no. (let k = no in cc))) h
  found_pages (call.Store addr size value) h = each_found w core p d live Write addr size (StaysMapped s e p true)
      (λ a found. stays (page_number a) true (page_mapped w core p d live Write a found)
      (λ _. (both_true (cell_or_fresh w.state.spaces (slot_at p a)).write _ (both_true (map.contains_key w.state.spaces (slot_at p a)) _ (page_takes w core p d live a found)).1).0)) h
  found_pages _ h = cc

  -- it takes stores as memory is, where the walk finds it for one
  takes_there : (a : ℕ) → finds_at (memory_of w) p Write a ≡ true → takes_stores s.spaces (memory_of w) (slot_at p a) ≡ true
  takes_there a found =
      let mapped = page_mapped w core p d live Write a found in
      let t = both_true (map.contains_key w.state.spaces (slot_at p a)) _ (page_takes w core p d live a found) in
      let u = both_true (cell_or_fresh w.state.spaces (slot_at p a)).write (not (is_lazy_at (memory_of w) (slot_at p a))) t.1 in
      let cell = some_value (map.get w.state.spaces (slot_at p a)) mapped in
      let old = was s e (slot_at p a) cell.0 takes (sym (ap (λ (z : State). map.get z.spaces (slot_at p a)) state) ∙ cell.1) in
      let write : old.cell.write ≡ true = old.write (sym (ap (λ (z : Option Cell). (unwrap_or z (fresh (slot_at p a) true)).write) cell.1) ∙ u.0) in
      ap (λ (z : Option Cell). is_some z && ((unwrap_or z (fresh (slot_at p a) true)).write && not (is_lazy_at (memory_of w) (slot_at p a)))) old.there
      ∙ (λ i. write i && u.1 i)

  abbrev g : View
  g = record { state = s; directories = w.directories; bytes = w.bytes; roles = w.roles }

  frameless : (addr : ℕ) (size : Size) (access : Access) → finds (memory_of w) p addr size access ≡ true → takes_no_frame (plan_at g p addr size access) ≡ true
  frameless addr size access h =
      let mapped = each_found w core p d live access addr size (λ page. is_mapped s (at_page p page) ≡ true)
      (λ a found. (left_next s e takes (slot_at p a) (sym (ap (λ (z : State). is_some (map.get z.spaces (slot_at p a))) state) ∙ page_mapped w core p d live access a found)).0) h in
      walk_completes g p addr size access (touched_user s p addr size well mapped) mapped
      (λ store. each_found w core p d live Write addr size (λ page. takes_stores s.spaces (memory_of w) (at_page p page) ≡ true) takes_there
      (subst (λ (k : Access). finds (memory_of w) p addr size k ≡ true) store h))

  completing : (c : Call) → finds_call w p c ≡ true → completes (answer_of s p c) ≡ true
  completing (call.Load addr size) h = sym (goes-call g p (call.Load addr size)) ∙ goes_frameless (plan_at g p addr size Read) (frameless addr size Read h)
  completing (call.Store addr size value) h = sym (goes-call g p (call.Store addr size value)) ∙ goes_frameless (plan_at g p addr size Write) (frameless addr size Write h)
  completing _ h = cc

  byte_same : (a : ℕ) → StaysMapped s e p false (page_number a) → byte_at (next s e).spaces p a ≡ byte_at s.spaces p a
  byte_same a k =
      let old = was s e (slot_at p a) k.cell takes k.there in
      grind arith

  -- what it is answered after the event it is answered before
  same_call : (c : Call) → finds_call w p c ≡ true → completes (answer_of (next s e) p c) ≡ true → answer_of (next s e) p c ≡ answer_of s p c
  same_call (call.Load addr size) h done =
      told_planned (plan_of (next s e) p addr size Read) (reply.Value (loaded (next s e) p addr size)) done
      ∙ ap reply.Value (ap value_of (same_each (byte_at (next s e).spaces p) (byte_at s.spaces p) addr (byte_count size)
      (λ i l. byte_same (addr + i) (each_byte addr size (StaysMapped s e p false) (found_pages (call.Load addr size) h) i l))))
      ∙ sym (told_planned (plan_of s p addr size Read) (reply.Value (loaded s p addr size)) (completing (call.Load addr size) h))
  same_call (call.Store addr size value) h done =
      told_planned (plan_of (next s e) p addr size Write) reply.Done done
      ∙ sym (told_planned (plan_of s p addr size Write) reply.Done (completing (call.Store addr size value) h))
  same_call _ h done = cc

  -- its process is live in both
  owner : (t : State) → IsWellFormed t → (c : Call) → Mapped t p c → is_live t p ≡ true
  owner t fine (call.Load addr size) h = fine.owners (at_page p (page_number addr)) h.0.0 h.0.1
  owner t fine (call.Store addr size value) h = fine.owners (at_page p (page_number addr)) h.0.0 h.0.1
  owner t fine _ h = absurd h

  -- pages that such an access touches, and a slot that the event took
  besides : (slot : Slot) (c : Call) → Pages s e p c → is_some (map.get w.state.spaces slot) ≡ false
      → ((b : Slot) (k : Cell) → is_some (map.get w.state.spaces b) ≡ true → map.get s.spaces b ≡ Some k → set.contains k.holders slot ≡ false)
      → Besides s slot p c
  besides slot (call.Load addr size) h gone out = each_page addr size (StaysMapped s e p false) (λ page. Beside s.spaces slot (at_page p page)) (λ page k. one slot page false k gone out) h
    where
      one : (slot : Slot) (page : ℕ) (writes : Bool) → StaysMapped s e p writes page → is_some (map.get w.state.spaces slot) ≡ false
          → ((b : Slot) (k : Cell) → is_some (map.get w.state.spaces b) ≡ true → map.get s.spaces b ≡ Some k → set.contains k.holders slot ≡ false) → Beside s.spaces slot (at_page p page)
      one slot page writes k gone out =
          let mapped : is_some (map.get w.state.spaces (at_page p page)) ≡ true = ap (λ (z : State). is_some (map.get z.spaces (at_page p page))) state ∙ ap is_some k.there in
          record {
            cell = k.before.0;
            there = k.before.1;
            apart = λ same. (let n : true ≡ false = sym mapped ∙ sym (ap (λ q. is_some (map.get w.state.spaces q)) same) ∙ gone in cc);
            out = out (at_page p page) k.before.0 mapped k.before.1;
          }
  besides slot (call.Store addr size value) h gone out = each_page addr size (StaysMapped s e p true) (λ page. Beside s.spaces slot (at_page p page)) (λ page k. one slot page true k gone out) h
    where
      one : (slot : Slot) (page : ℕ) (writes : Bool) → StaysMapped s e p writes page → is_some (map.get w.state.spaces slot) ≡ false
          → ((b : Slot) (k : Cell) → is_some (map.get w.state.spaces b) ≡ true → map.get s.spaces b ≡ Some k → set.contains k.holders slot ≡ false) → Beside s.spaces slot (at_page p page)
      one slot page writes k gone out =
          let mapped : is_some (map.get w.state.spaces (at_page p page)) ≡ true = ap (λ (z : State). is_some (map.get z.spaces (at_page p page))) state ∙ ap is_some k.there in
          record {
            cell = k.before.0;
            there = k.before.1;
            apart = λ same. (let n : true ≡ false = sym mapped ∙ sym (ap (λ q. is_some (map.get w.state.spaces q)) same) ∙ gone in cc);
            out = out (at_page p page) k.before.0 mapped k.before.1;
          }
  besides slot _ h gone out = absurd h

-- by the event that is the access
module _ (s : State) (well : IsWellFormed s) (e : Event) (takes : only_takes e.call ≡ true) (w : View) (core : IsCore w) (state : w.state ≡ next s e) (a : Event) (d : ℕ)
    (live : directory_at (memory_of w) a.pid ≡ Some d) (found : finds_event w a ≡ true) where
  pub pages_in : Pages s e a.pid a.call
  pages_in = found_pages s well e takes w core state a.pid d live a.call found

  abbrev here : is_live s a.pid ≡ true
  here = owner s well e takes w core state a.pid d live s well a.call (mapped_before s e a.pid a.call pages_in)

  pub done_in : completes (answer s a) ≡ true
  done_in =
      ap (λ b. completes (if b then answer_of s a.pid a.call else reply.Refused cause.NoProcess)) (owner s well e takes w core state a.pid d live s well a.call (mapped_before s e a.pid a.call pages_in))
      ∙ completing s well e takes w core state a.pid d live a.call found

  pub done_after : completes (answer (next s e) a) ≡ true
  done_after = sym (ap (λ (z : State). completes (answer z a)) state) ∙ ap completes (answered w a d core found live) ∙ by a.call found
    where
      by : (c : Call) → finds_call w a.pid c ≡ true → completes (reply_found w.bytes d c) ≡ true
      by x0 h = grind arith

  live_after : is_live (next s e) a.pid ≡ true
  live_after = owner s well e takes w core state a.pid d live (next s e) (kept-next s e well).0 a.call (mapped_after s e a.pid a.call (next s e) refl pages_in)

  pub same_answer : answer w.state a ≡ answer s a
  same_answer =
      ap (λ (z : State). answer z a) state
      ∙ ap (λ b. if b then answer_of (next s e) a.pid a.call else reply.Refused cause.NoProcess) live_after
      ∙ same_call s well e takes w core state a.pid d live a.call found
      (sym (ap (λ b. completes (if b then answer_of (next s e) a.pid a.call else reply.Refused cause.NoProcess)) live_after) ∙ done_after)
      ∙ sym (ap (λ b. if b then answer_of s a.pid a.call else reply.Refused cause.NoProcess) here)

  -- bytes of a slot that the event took stand, where no group of a slot that it left has it
  pub bytes_beside : (slot : Slot) (c k : Cell) → map.get s.spaces slot ≡ Some c → map.get (next s a).spaces slot ≡ Some k → is_some (map.get w.state.spaces slot) ≡ false
      → ((b : Slot) (q : Cell) → is_some (map.get w.state.spaces b) ≡ true → map.get s.spaces b ≡ Some q → set.contains q.holders slot ≡ false) → k.bytes ≡ c.bytes
  bytes_beside slot c k at now gone out =
      let left = after_beside s slot a.pid a.call c (besides s well e takes w core state a.pid d live slot a.call pages_in gone out) at in
      let e : Some k ≡ Some left.0 = sym now ∙ ap (λ (z : State). map.get z.spaces slot) (next-goes s a done_in) ∙ left.1 in
      let q : k ≡ left.0 = cc in
      ap (λ (z : Cell). z.bytes) q ∙ left.2
