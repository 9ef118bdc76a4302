-- A process apart gets the same replies in two states in which it has the same, and others leave what it has.
use Rattle.kernel_calls.proofs.Prelude.{◌≡◌, ◌≢◌, ℕ, ◌==◌, Bool, true, false, refl, sym, ap, subst, ◌∙◌, List, [], ◌∷◌, ◌++◌, length, map, filter, take, drop, zero, suc, ◌+◌, add-one, Some, arith, if◌then◌else◌, slice_get, eqb-true, eqb-false, All-head, All-tail, same_Some, Size, Access, Read, Write, IsApart, AreAlike, pages_held, alone_with, State, is_live, child_of, spawn_refusal, fork_refusal, after_spawn, after_fork, IsWellFormed, spawn_alike, fork_alike, plan_of, exchanges, quota_asked, answer, answer_of, answers, after, next, end_of, completes, planned_or, Call, Event, Reply, load_leaves, store_leaves, map_leaves, unmap_leaves, protect_leaves, offer_leaves, withdraw_leaves, accept_leaves, spawn_leaves, fork_leaves, exit_leaves, Exchange, own, is_exit, involves_others, events_in, calls_of, replies_of, InvolvesNobody, solo, pages_given, RunsAreIsolated, OthersMakeNoDifference, mapped_alike, cost_alike, given_alike, lacks_room_alike, cell_alike, loaded_alike, map_refusal_alike, map_alike, protect_alike, load_alike, store_alike, unmap_alike, withdraw_alike}
use Rattle.kernel_calls.proofs.Decided.{by_next, next-stays, next-goes}
use Rattle.kernel_calls.proofs.Runs.{not-refused, kept-next, kept-run}
use Rattle.kernel_calls.proofs.Untouched.{caller_live}
use Rattle.kernel_calls.proofs.Births.{planned_child, refused_child}
use Rattle.page_words.specs.FiniteMap as map
use Rattle.process_table.specs.declared.causes.Cause.TheVariants as cause
use Rattle.kernel_calls.specs.declared.calls.Call.TheVariants as call
use Rattle.kernel_calls.specs.declared.calls.Reply.TheVariants as reply

-- ---- A call of two alike processes

ruleset calls_alike = (store_alike, map_alike, unmap_alike, protect_alike, withdraw_alike)

module _ (s t : State) (p q : ℕ) (a : AreAlike s p t q) where
  plan_alike : (addr : ℕ) (size : Size) (access : Access) → plan_of s p addr size access ≡ plan_of t q addr size access
  plan_alike addr size access = grind (arith, mapped_alike, cell_alike, lacks_room_alike)

  answer_of_alike : (c : Call) → involves_others c ≡ false → answer_of s p c ≡ answer_of t q c
  answer_of_alike (call.Load addr size) h = λ i. planned_or (plan_alike addr size Read i) (reply.Value (loaded_alike s t p q a addr size i))
  answer_of_alike (call.Store addr size value) h = λ i. planned_or (plan_alike addr size Write i) reply.Done
  answer_of_alike _ h =
      grind (arith, map_refusal_alike, cost_alike, given_alike)

  after_alike : (c : Call) → involves_others c ≡ false → is_exit c ≡ false → AreAlike (after s p c) p (after t q c) q
  after_alike (call.Load addr size) h stays = load_alike s t p q addr size a
  after_alike _ h stays = first_of (search calls_alike, grind arith)

-- two alike processes are told the same, whatever CPU they call on
pub answer_alike : (s t : State) (e f : Event) → AreAlike s e.pid t f.pid → e.call ≡ f.call → involves_others e.call ≡ false → answer s e ≡ answer t f
answer_alike s t e f a same alone = grind (arith, answer_of_alike)

-- and are alike afterwards
pub next_alike : (s t : State) (e f : Event) → AreAlike s e.pid t f.pid → e.call ≡ f.call → involves_others e.call ≡ false → is_exit e.call ≡ false → AreAlike (next s e) e.pid (next t f) f.pid
next_alike s t e f a same alone stays = by (completes (answer s e)) refl
  where
    told : completes (answer s e) ≡ completes (answer t f)
    told = ap completes (answer_alike s t e f a same alone)

    by : (b : Bool) → completes (answer s e) ≡ b → AreAlike (next s e) e.pid (next t f) f.pid
    by true h = grind (arith, next-goes, told, after_alike)
    by false h = subst (λ u. AreAlike u e.pid (next t f) f.pid) (sym (next-stays s e h)) (subst (λ u. AreAlike s e.pid u f.pid) (sym (next-stays t f (sym told ∙ h))) a)

-- ---- An event of another process

alike_itself : (s : State) (p : ℕ) → IsApart s p → AreAlike s p s p
alike_itself s p a = record { one = a; other = a; pages = λ page. refl; quota = refl }

alike_through : (s t u : State) (p q : ℕ) → AreAlike s p t p → AreAlike s p u q → AreAlike t p u q
alike_through s t u p q a b = record { one = a.other; other = b.other; pages = λ page. sym (a.pages page) ∙ b.pages page; quota = sym a.quota ∙ b.quota }

ruleset calls_leave = (store_leaves, map_leaves, unmap_leaves, protect_leaves, offer_leaves, withdraw_leaves, accept_leaves, spawn_leaves, fork_leaves, exit_leaves, not-refused, alike_itself)

after_leaves : (s : State) (p q : ℕ) (c : Call) → IsWellFormed s → IsApart s p → q ≢ p → is_live s q ≡ true → completes (answer_of s q c) ≡ true → AreAlike s p (after s q c) p
after_leaves s p q (call.Load addr size) w a d live h = load_leaves s p q w a d addr size
after_leaves s p q _ w a d live h = search calls_leave

pub next_leaves : (s : State) (p : ℕ) (e : Event) → IsWellFormed s → IsApart s p → e.pid ≢ p → AreAlike s p (next s e) p
next_leaves s p e w a d = by_next (λ t. AreAlike s p t p) s e (alike_itself s p a) (after_leaves s p e.pid e.call w a d)

-- ---- A run

abbrev alone_event : Call → Event
alone_event c = record { cpu = 0; pid = 1; call = c }

-- what one that is alike is told alone
abbrev IsToldAlone : List Exchange → State → Type 0
IsToldAlone run t = replies_of run ≡ answers t (map alone_event (calls_of run))

-- a process's part of a run with one event more
abbrev own_more : ℕ → Exchange → List Exchange → List Exchange
own_more p x own_later = if x.0.pid == p then x ∷ (if is_exit x.0.call then [] else own_later) else own_later

module _ (s t : State) (p : ℕ) (e : Event) (later : List Exchange) (w : IsWellFormed s) where
  moved : (t : State) (q : ℕ) → e.pid ≡ p → AreAlike s p t q → AreAlike s e.pid t q
  moved t q is a = subst (λ n. AreAlike s n t q) (sym is) a

  one_more : AreAlike s p t 1 → ((u : State) → AreAlike (next s e) p u 1 → InvolvesNobody later → IsToldAlone later u)
      → InvolvesNobody (own_more p (e, answer s e) later) → IsToldAlone (own_more p (e, answer s e) later) t
  one_more a rest alone = by (e.pid == p) refl alone
    where
      by : (b : Bool) → (e.pid == p) ≡ b → InvolvesNobody (if b then (e, answer s e) ∷ (if is_exit e.call then [] else later) else later)
          → IsToldAlone (if b then (e, answer s e) ∷ (if is_exit e.call then [] else later) else later) t
      by false other alone = rest t (alike_through s (next s e) t p 1 (next_leaves s p e w a.one (eqb-false e.pid p other)) a) alone
      by true own alone = ends (is_exit e.call) refl alone
        where
          is : e.pid ≡ p
          is = eqb-true e.pid p own

          ends : (b : Bool) → is_exit e.call ≡ b → InvolvesNobody ((e, answer s e) ∷ (if b then [] else later)) → IsToldAlone ((e, answer s e) ∷ (if b then [] else later)) t
          ends true exit alone = ap (λ r. r ∷ []) (answer_alike s t e (alone_event e.call) (moved t 1 is a) refl (All-head (λ c. involves_others c ≡ false) e.call [] alone))
          ends false stays alone =
              let quiet = All-head (λ c. involves_others c ≡ false) e.call (calls_of later) alone in
              let told = answer_alike s t e (alone_event e.call) (moved t 1 is a) refl quiet in
              let after = next_alike s t e (alone_event e.call) (moved t 1 is a) refl quiet stays in
              let more = rest (next t (alone_event e.call)) (subst (λ n. AreAlike (next s e) n (next t (alone_event e.call)) 1) is after) (All-tail (λ c. involves_others c ≡ false) e.call (calls_of later) alone) in
              λ i. told i ∷ more i

-- what a process apart is told in a run is what one that is alike is told alone
own_alike : (s t : State) (p : ℕ) (events : List Event) → IsWellFormed s → AreAlike s p t 1 → InvolvesNobody (own p (exchanges s events)) → IsToldAlone (own p (exchanges s events)) t
own_alike s t p [] w a alone = refl
own_alike s t p (e ∷ events) w a alone =
    one_more s t p e (own p (exchanges (next s e) events)) w a (λ u b. own_alike (next s e) u p events (kept-next s e w).0 b) alone

-- ---- A run without the others

abbrev is_by : ℕ → Event → Bool
is_by p e = e.pid == p

module _ (s t : State) (p : ℕ) (e : Event) (events : List Event) (w : IsWellFormed s) where
  one_less : AreAlike s p t p
      → ((u : State) → AreAlike (next s e) p u p → InvolvesNobody (own p (exchanges (next s e) events)) → own p (exchanges u (filter (is_by p) events)) ≡ own p (exchanges (next s e) events))
      → InvolvesNobody (own p (exchanges s (e ∷ events))) → own p (exchanges t (filter (is_by p) (e ∷ events))) ≡ own p (exchanges s (e ∷ events))
  one_less a rest alone = by (e.pid == p) refl alone
    where
      later : List Exchange
      later = own p (exchanges (next s e) events)

      by : (b : Bool) → (e.pid == p) ≡ b → InvolvesNobody (if b then (e, answer s e) ∷ (if is_exit e.call then [] else later) else later)
          → own p (exchanges t (if b then e ∷ filter (is_by p) events else filter (is_by p) events)) ≡ (if b then (e, answer s e) ∷ (if is_exit e.call then [] else later) else later)
      by false other alone = rest t (alike_through s (next s e) t p p (next_leaves s p e w a.one (eqb-false e.pid p other)) a) alone
      by true mine alone = ap (λ b. if b then (e, answer t e) ∷ (if is_exit e.call then [] else own p (exchanges (next t e) (filter (is_by p) events))) else own p (exchanges (next t e) (filter (is_by p) events))) mine ∙ ends (is_exit e.call) refl alone
        where
          is : e.pid ≡ p
          is = eqb-true e.pid p mine

          here : AreAlike s e.pid t e.pid
          here = subst (λ n. AreAlike s n t n) (sym is) a

          ends : (b : Bool) → is_exit e.call ≡ b → InvolvesNobody ((e, answer s e) ∷ (if b then [] else later))
              → ◌≡◌ {A = List Exchange} ((e, answer t e) ∷ (if b then [] else own p (exchanges (next t e) (filter (is_by p) events)))) ((e, answer s e) ∷ (if b then [] else later))
          ends true exit alone = ap (λ (r : Reply). (e, r) ∷ []) (sym (answer_alike s t e e here refl (All-head (λ c. involves_others c ≡ false) e.call [] alone)))
          ends false stays alone =
              let quiet = All-head (λ c. involves_others c ≡ false) e.call (calls_of later) alone in
              let told = sym (answer_alike s t e e here refl quiet) in
              let after = next_alike s t e e here refl quiet stays in
              let more = rest (next t e) (subst (λ n. AreAlike (next s e) n (next t e) n) is after) (All-tail (λ c. involves_others c ≡ false) e.call (calls_of later) alone) in
              λ i. (e, told i) ∷ more i

own_without : (s t : State) (p : ℕ) (events : List Event) → IsWellFormed s → AreAlike s p t p → InvolvesNobody (own p (exchanges s events)) → own p (exchanges t (filter (is_by p) events)) ≡ own p (exchanges s events)
own_without s t p [] w a alone = refl
own_without s t p (e ∷ events) w a alone = one_less s t p e events w a (λ u b. own_without (next s e) u p events (kept-next s e w).0 b) alone

-- ---- A new child

-- a call that is answered with a child leaves it alike to process 1 alone with what the call gave it
abbrev IsMade : ℕ → State → ℕ → Call → ℕ → Type 0
IsMade root s p c k = AreAlike (after s p c) k (alone_with root (quota_asked c) (pages_given s p c)) 1

child_value : (x k : ℕ) → reply.Child x ≡ reply.Child k → x ≡ k
child_value x k h = cc

done_not : (k : ℕ) → reply.Done ≡ reply.Child k → ⊥
done_not k h = cc

made : (root : ℕ) (s : State) (p : ℕ) (c : Call) (k : ℕ) → IsWellFormed s → is_live s p ≡ true → answer_of s p c ≡ reply.Child k → IsMade root s p c k
made root s p (call.Spawn quota) k w live h =
    let n = refused_child (spawn_refusal s p quota) (reply.Child (child_of s)) k h in
    subst (λ c. AreAlike (after_spawn s p quota) c (alone_with root quota map.empty) 1) (child_value (child_of s) k n.1) (spawn_alike s p root quota w live n.0)
made root s p (call.Fork quota) k w live h =
    let n = refused_child (fork_refusal s p quota) (reply.Child (child_of s)) k h in
    subst (λ c. AreAlike (after_fork s p quota) c (alone_with root quota (pages_held s p)) 1) (child_value (child_of s) k n.1) (fork_alike s p root quota w live n.0)
made root s p _ k w live h = grind (arith, done_not, planned_child, refused_child)

child_alike : (root : ℕ) (s : State) (e : Event) (p : ℕ) → IsWellFormed s → answer s e ≡ reply.Child p → AreAlike (next s e) p (alone_with root (quota_asked e.call) (pages_given s e.pid e.call)) 1
child_alike root s e p w h =
    let goes : completes (answer s e) ≡ true = ap completes h in
    let live = (caller_live s e goes).0 in
    subst (λ t. AreAlike t p (alone_with root (quota_asked e.call) (pages_given s e.pid e.call)) 1) (sym (next-goes s e goes))
    (made root s e.pid e.call p w live (sym (ap (λ b. if b then answer_of s e.pid e.call else reply.Refused cause.NoProcess) live) ∙ h))

-- ---- The laws

-- an exchange of a run: it is answered in the state that the events before it leave, and the later ones follow from there
record IsExchange (s : State) (before : List Exchange) (x : Exchange) (later : List Exchange) : Type 0 where
  answered : answer (end_of s (events_in before)) x.0 ≡ x.1
  rest : List Event
  follows : later ≡ exchanges (next (end_of s (events_in before)) x.0) rest

exchange_in : (before : List Exchange) (s : State) (events : List Event) (x : Exchange) (later : List Exchange)
    → exchanges s events ≡ before ++ x ∷ later → IsExchange s before x later
exchange_in [] s [] x later h = cc
exchange_in (b ∷ before) s [] x later h = cc
exchange_in [] s (e ∷ events) x later h =
    let head : (e, answer s e) ≡ x = cc in
    let tail : exchanges (next s e) events ≡ later = cc in
    let event : e ≡ x.0 = ap (λ (y : Exchange). y.0) head in
    record {
      answered = sym (ap (answer s) event) ∙ ap (λ (y : Exchange). y.1) head;
      rest = events;
      follows = sym tail ∙ ap (λ (y : Event). exchanges (next s y) events) event;
    }
exchange_in (b ∷ before) s (e ∷ events) x later h =
    let head : (e, answer s e) ≡ b = cc in
    let tail : exchanges (next s e) events ≡ before ++ x ∷ later = cc in
    let at = subst (λ (y : Event). IsExchange (next s y) before x later) (ap (λ (y : Exchange). y.0) head)
    (exchange_in before (next s e) events x later tail) in
    record { answered = at.answered; rest = at.rest; follows = at.follows }

pub answer_at : (k : ℕ) (s : State) (events : List Event) (e : Event) (r : Reply) → slice_get events k ≡ Some e → slice_get (answers s events) k ≡ Some r → answer (end_of s (take k events)) e ≡ r
answer_at zero s [] e r h told = cc
answer_at (suc k) s [] e r h told = cc
answer_at zero s (f ∷ events) e r h told = ap (answer s) (sym (same_Some f e h)) ∙ same_Some (answer s f) r told
answer_at (suc k) s (f ∷ events) e r h told = answer_at k (next s f) events e r h told

pub runs_isolated : RunsAreIsolated
runs_isolated s events w before later e p is alone root =
    let here = end_of s (events_in before) in
    let well : IsWellFormed here = (kept-run s (events_in before) w).0 in
    let at = exchange_in before s events (e, reply.Child p) later is in
    let a = child_alike root here e p well at.answered in
    subst (λ xs. InvolvesNobody (own p xs) → replies_of (own p xs) ≡ solo root (quota_asked e.call) (pages_given here e.pid e.call) (calls_of (own p xs))) (sym at.follows)
    (own_alike (next here e) (alone_with root (quota_asked e.call) (pages_given here e.pid e.call)) p at.rest (kept-next here e well).0 a) alone

-- what comes behind an event of a run
behind : (before : List Event) (s : State) (e : Event) (later : List Event) → drop (suc (length before)) (exchanges s (before ++ e ∷ later)) ≡ exchanges (next (end_of s before) e) later
behind [] s e later = refl
behind (f ∷ before) s e later = behind before (next s f) e later

pub others_make_no_difference : OthersMakeNoDifference
others_make_no_difference s before e later p w h alone =
    let here = end_of s before in
    let well : IsWellFormed here = (kept-run s before w).0 in
    let a = child_alike 0 here e p well h in
    let part : (xs : List Event) → drop (length before + 1) (exchanges s (before ++ e ∷ xs)) ≡ exchanges (next here e) xs =
    λ xs. ap (λ n. drop n (exchanges s (before ++ e ∷ xs))) (add-one (length before)) ∙ behind before s e xs in
    ap (own p) (part (filter (is_by p) later))
    ∙ own_without (next here e) (next here e) p later (kept-next here e well).0 (alike_itself (next here e) p a.one) (subst (λ xs. InvolvesNobody (own p xs)) (part later) alone)
    ∙ sym (ap (own p) (part later))
