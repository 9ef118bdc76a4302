-- A report follows the machine from event to event, and its total is what all live processes cost.
use Rattle.std.proofs.Common.{◌≡◌, ◌≢◌, ℕ, ◌+◌, ◌<◌, ◌≤◌, ◌==◌, Bool, true, false, cond, List, [], ◌∷◌, map, refl, sym, ap, subst, ◌∙◌, arith, Option, Some, None, is_none, unwrap_or, sum_by}
use Rattle.std.specs.Prelude.{if◌then◌else◌, nat_lt}
use Rattle.std.specs.List.{range_with_len}
use Rattle.std.specs.Option.{option_map}
use Rattle.std.proofs.lemmas.List.Sums.{sum_by-cons}
use Rattle.address_space.proofs.costs.AccessCosts.{cost-same}
use Rattle.address_space.proofs.costs.MapFirst.{touched-there, bytes_there, key-all_accessed, key-all_stored}
use Rattle.address_space.proofs.costs.Totals.{cost-insert_other, cost-joined_other, cost-without_other}
use Rattle.address_space.specs.Spaces.{Slot, slot_order, Spaces, cost, with_page, with_pages, all_accessed, all_stored, fresh, bytes_of, copied}
use Rattle.kernel_calls.proofs.Charges.{fork_lives}
use Rattle.kernel_calls.proofs.Decided.{next-stays, next-goes}
use Rattle.kernel_calls.proofs.Runs.{runs-stay}
use Rattle.kernel_calls.specs.Decisions.{charge_in, charge_after}
use Rattle.kernel_calls.specs.Machine.{answer, answer_of, after, next, completes, refused_or}
use Rattle.kernel_calls.specs.declared.calls.Call.{Call}
use Rattle.kernel_calls.specs.declared.calls.Call.TheVariants as call
use Rattle.kernel_calls.specs.declared.calls.Reply.{Reply}
use Rattle.kernel_calls.specs.declared.calls.Reply.TheVariants as reply
use Rattle.memory_report.proofs.HistoryLemmas.{state-push, last_reply, last_told}
use Rattle.memory_report.proofs.RowLemmas.{charged, opened-is, absent-cost, closed-is, roomy}
use Rattle.memory_report.specs.Histories.{event_of, events_of, state_after}
use Rattle.memory_report.specs.Laws.{TotalIsCost}
use Rattle.memory_report.specs.Reports.{row_of, row_from, report_of, used_in, Absorbs}
use Rattle.memory_report.specs.Rows.{absorbed, after_call, with_child, IsRoomy}
use Rattle.memory_report.specs.declared.entries.LogEntry.{LogEntry}
use Rattle.memory_report.specs.declared.rows.Row.{Row}
use Rattle.page_sharing.specs.Offers.{Offers}
use Rattle.page_words.proofs.MapLemmas.{same-true}
use Rattle.page_words.specs.Addresses.{byte_count, touched}
use Rattle.page_words.specs.declared.addresses.Size.{Size}
use Rattle.page_words.specs.FiniteMap as map
use Rattle.page_words.specs.FiniteMap.{same}
use Rattle.process_table.proofs.Ranges.{found, sum-same, sum-range}
use Rattle.process_table.proofs.SpaceLaws.{not_less}
use Rattle.address_space.specs.Spaces.{at_page}
use Rattle.process_table.specs.Calls.{spawn_refusal, fork_refusal, exit_refusal, after_spawn as spawned_state, after_fork as forked_state}
use Rattle.process_table.proofs.Forks.{may_fork, fork-cost}
use Rattle.address_space.proofs.costs.Copied.{cost-copied, cost-copied_other}
use Rattle.process_table.specs.State.{State, is_live, room, child_of, as_container}
use Rattle.process_table.specs.WellFormed.{IsWellFormed}
use Rattle.process_table.specs.declared.causes.Cause.{Cause}
use Rattle.process_table.specs.declared.causes.Cause.TheVariants as cause
use Rattle.quota_tree.specs.Book.{Member, next_number}
use Rattle.page_words.proofs.OptionLemmas.{some_value}

-- a call that completes has no cause to be refused
not_refused : (x : Option Cause) (r : Reply) → completes (refused_or x r) ≡ true → x ≡ None
not_refused None r h = refl
not_refused (Some k) r h = cc

small : (s : State) (p : ℕ) → IsWellFormed s → is_live s p ≡ true → p < 64
small s p w live = let m = some_value (map.get s.book p) live in (w.processes p m.0 m.1).0

-- of two pages of different processes neither is the other
other_slot : (p page q page' : ℕ) → q ≢ p → same slot_order (record { pid = p; page = page }) (record { pid = q; page = page' }) ≡ false
other_slot p page q page' n = by (same slot_order one two) refl
  where
    one : Slot
    one = record { pid = p; page = page }

    two : Slot
    two = record { pid = q; page = page' }

    by : (b : Bool) → same slot_order one two ≡ b → b ≡ false
    by true is = absurd (n (ap (λ (x : Slot). x.pid) (sym (same-true slot_order one two is))))
    by false is = refl

-- a spawn that is not refused: the quota fits, and a number is free
spawn_allowed : (a : Bool) (x : Option ℕ) (c : Bool) → (if a then Some cause.BadQuota else if is_none x then Some cause.TableFull else if c then Some cause.Quota else None) ≡ None → ((k : ℕ) × (x ≡ Some k)) × (c ≡ false)
spawn_allowed true x c h = cc
spawn_allowed false None c h = cc
spawn_allowed false (Some k) true h = cc
spawn_allowed false (Some k) false h = ((k, refl), refl)

exit_allowed : (p : ℕ) (b c : Bool) → (p == 0) ≡ b → (if b then Some cause.RootExit else if c then Some cause.HasChildren else None) ≡ None → p ≢ 0
exit_allowed p true c is h = cc
exit_allowed p false c is h = λ zero. (let e : (p == 0) ≡ true = ap (λ n. n == 0) zero in cc)

-- pages that are mapped for one process cost the others nothing
pages_other : (S : Spaces) (p : ℕ) (pages : List ℕ) (q : ℕ) → q ≢ p → cost (with_pages S p pages) q ≡ cost S q
pages_other S p [] q n = refl
pages_other S p (page ∷ pages) q n = pages_other (with_page S p page) p pages q n ∙ by (map.contains_key S (at_page p page))
  where
    by : (b : Bool) → cost (if b then S else map.insert S (at_page p page) (fresh (at_page p page) true)) q ≡ cost S q
    by true = refl
    by false = cost-insert_other S (at_page p page) (fresh (at_page p page) true) q n

module _ (s : State) (p : ℕ) (w : IsWellFormed s) (live : is_live s p ≡ true) where
  -- a live process is charged what it costs
  charge_live : (T : Spaces) (O : Offers) → charge_in (record { spaces = T; book = s.book; offers = O }) p ≡ cost T p
  charge_live T O = ap (λ b. cond b (cost T p) 0) live

  loaded_other : (addr : ℕ) (size : Size) (q : ℕ) → q ≢ p → cost (all_accessed (with_pages s.spaces p (touched addr size)) p (touched addr size)) q ≡ cost s.spaces q
  loaded_other addr size q n =
      let T : Spaces = with_pages s.spaces p (touched addr size) in
      cost-same (all_accessed T p (touched addr size)) T q (key-all_accessed T p addr size (touched-there s.spaces p addr size)) ∙ pages_other s.spaces p (touched addr size) q n

  stored_other : (addr : ℕ) (size : Size) (value q : ℕ) → q ≢ p → cost (all_stored (with_pages s.spaces p (touched addr size)) p addr (bytes_of (byte_count size) value)) q ≡ cost s.spaces q
  stored_other addr size value q n =
      let T : Spaces = with_pages s.spaces p (touched addr size) in
      cost-same (all_stored T p addr (bytes_of (byte_count size) value)) T q (key-all_stored T p addr (byte_count size) value (bytes_there T p addr size (touched-there s.spaces p addr size)))
      ∙ pages_other s.spaces p (touched addr size) q n

  -- the number of the next child, which is not p's
  next_child : (quota : ℕ) → spawn_refusal s p quota ≡ None → next_number s.book ≡ Some (child_of s)
  next_child quota allowed =
      let may = spawn_allowed (quota == 0) (next_number s.book) (nat_lt (room s p) quota) allowed in
      may.0.1 ∙ ap Some (sym (ap (λ o. unwrap_or o 0) may.0.1))

  spawned : (quota : ℕ) → spawn_refusal s p quota ≡ None → with_child (report_of s) p quota 1 (reply.Child (child_of s)) ≡ report_of (spawned_state s p quota)
  spawned quota allowed =
      let is = next_child quota allowed in
      opened-is s p quota (child_of s) w live is s.spaces 1 (absent-cost s (child_of s) w is) (λ q n. refl)

  forked : (quota used : ℕ) → fork_refusal s p quota ≡ None → used ≡ cost s.spaces p → with_child (report_of s) p quota used (reply.Child (child_of s)) ≡ report_of (forked_state s p quota)
  forked quota used allowed is =
      let child = child_of s in
      opened-is s p quota child w live (next_child quota (may_fork s p quota allowed).spawn) (copied s.spaces p child) used (cost-copied s.spaces p child ∙ sym is) (cost-copied_other s.spaces p child)

  -- a call that makes and ends no process costs the others nothing
  ruleset others_cost = (loaded_other, stored_other, cost-insert_other, cost-joined_other, cost-without_other, other_slot)

  -- what a call that completes leaves of the report
  goes : (c : Call) (used : ℕ) → completes (answer_of s p c) ≡ true → used ≡ charge_in (after s p c) p → after_call (report_of s) p c (answer_of s p c) used ≡ report_of (after s p c)
  goes (call.Spawn quota) used done is =
      let allowed = not_refused (spawn_refusal s p quota) (reply.Child (child_of s)) done in
      ap (λ x. with_child (report_of s) p quota 1 (refused_or x (reply.Child (child_of s)))) allowed ∙ spawned quota allowed
  goes (call.Fork quota) used done is =
      let allowed = not_refused (fork_refusal s p quota) (reply.Child (child_of s)) done in
      let charge : charge_in (forked_state s p quota) p ≡ cost s.spaces p = ap (λ b. cond b (cost (forked_state s p quota).spaces p) 0) (fork_lives s p quota live) ∙ fork-cost s p quota live allowed in
      ap (λ x. with_child (report_of s) p quota used (refused_or x (reply.Child (child_of s)))) allowed ∙ forked quota used allowed (is ∙ charge)
  goes call.Exit used done is = closed-is s p w live (exit_allowed p (p == 0) _ refl (not_refused (exit_refusal s p) reply.Done done))
  goes c used done is =
      let t = after s p c in
      charged s t.spaces t.offers p used (small s p w live) (is ∙ charge_live t.spaces t.offers) (first_of (assumption, search others_cost))

  -- and a spawn that completes gives what its process can give
  gives : (c : Call) → completes (answer_of s p c) ≡ true → IsRoomy (report_of s) p c
  gives (call.Spawn quota) done =
      let may = spawn_allowed (quota == 0) (next_number s.book) (nat_lt (room s p) quota) (not_refused (spawn_refusal s p quota) (reply.Child (child_of s)) done) in
      roomy s p quota w live (not_less (room s p) quota may.1)
  gives (call.Fork quota) done =
      let may = may_fork s p quota (not_refused (fork_refusal s p quota) (reply.Child (child_of s)) done) in
      let fits = spawn_allowed (quota == 0) (next_number s.book) (nat_lt (room s p) quota) may.spawn in
      roomy s p quota w live (not_less (room s p) quota fits.1)
  gives _ done = tt

-- an event that completes is of a live process, whose call it answers
answered : (b : Bool) (r : Reply) → completes (if b then r else reply.Refused cause.NoProcess) ≡ true → b ≡ true
answered true r h = refl
answered false r h = cc

module _ (s : State) (e : LogEntry) (w : IsWellFormed s) (says : e.reply ≡ answer s (event_of e)) (tells : e.used_after ≡ charge_after s (event_of e)) where
  lives : completes (answer s (event_of e)) ≡ true → is_live s e.pid ≡ true
  lives done = answered (is_live s e.pid) (answer_of s e.pid e.call) done

  answer_is : (done : completes (answer s (event_of e)) ≡ true) → answer s (event_of e) ≡ answer_of s e.pid e.call
  answer_is done = ap (λ b. if b then answer_of s e.pid e.call else reply.Refused cause.NoProcess) (lives done)

  pub has_room : completes e.reply ≡ true → IsRoomy (report_of s) e.pid e.call
  has_room done =
      let goes_on : completes (answer s (event_of e)) ≡ true = sym (ap completes says) ∙ done in
      gives s e.pid w (lives goes_on) e.call (sym (ap completes (answer_is goes_on)) ∙ goes_on)

  -- the report of the next state
  pub absorbed-next : absorbed (report_of s) e ≡ report_of (next s (event_of e))
  absorbed-next = by (completes (answer s (event_of e))) refl
    where
      moved : List (Option Row)
      moved = after_call (report_of s) e.pid e.call e.reply e.used_after

      by : (b : Bool) → completes (answer s (event_of e)) ≡ b → absorbed (report_of s) e ≡ report_of (next s (event_of e))
      by false is = ap (λ b. if b then moved else report_of s) (ap completes says ∙ is) ∙ ap report_of (sym (next-stays s (event_of e) is))
      by true is =
          let stays : next s (event_of e) ≡ after s e.pid e.call = next-goes s (event_of e) is in
          ap (λ b. if b then moved else report_of s) (ap completes says ∙ is)
          ∙ ap (λ r. after_call (report_of s) e.pid e.call r e.used_after) (says ∙ answer_is is)
          ∙ goes s e.pid w (lives is) e.call e.used_after (sym (ap completes (answer_is is)) ∙ is) (tells ∙ ap (λ t. charge_in t e.pid) stays)
          ∙ ap report_of (sym stays)

-- what absorbing leaves, where it has room for what it spawns
pub absorbs : (before : List (Option Row)) (e : LogEntry) (rows : List (Option Row)) → ((completes e.reply ≡ true → IsRoomy before e.pid e.call) → rows ≡ absorbed before e) → Absorbs before e rows
absorbs before e rows leaves frames log legal is =
    let s : State = state_after frames log in
    let low : 2 ≤ frames = (let size = legal.size in omega arith) in
    let w : IsWellFormed s = (runs-stay frames (events_of log) low).0 in
    let says = last_reply frames log e legal in
    let tells = (last_told frames log e legal).used_after in
    leaves (λ done. subst (λ b. IsRoomy b e.pid e.call) (sym is) (has_room s e w says tells done))
    ∙ ap (λ b. absorbed b e) is ∙ absorbed-next s e w says tells ∙ ap report_of (sym (state-push frames log e))

-- ---- Totals

sum-map : {A B : Type 0} (g : B → ℕ) (f : A → B) (xs : List A) → sum_by g (map f xs) ≡ sum_by (λ x. g (f x)) xs
sum-map g f [] = refl
sum-map g f (x ∷ xs) = sum_by-cons g (f x) (map f xs) ∙ ap (λ n. g (f x) + n) (sum-map g f xs) ∙ sym (sum_by-cons (λ x. g (f x)) x xs)

used_of : (s : State) (p : ℕ) (x : Option Member) → used_in (option_map row_from (option_map (λ member. as_container s p member) x)) ≡ found (λ _. cost s.spaces p) x
used_of s p None = refl
used_of s p (Some m) = refl

pub total_is_cost : TotalIsCost
unfolding report_of
total_is_cost s w =
    sum-map used_in (λ p. row_of s p) (range_with_len 0 64)
    ∙ sum-same (λ p. used_in (row_of s p)) (λ p. found (λ _. cost s.spaces p) (map.get s.book p)) (range_with_len 0 64) (λ p. used_of s p (map.get s.book p))
    ∙ sym (sum-range s.book (λ p _. cost s.spaces p) 64 (λ p m is. (w.processes p m is).0))
