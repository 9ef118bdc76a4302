-- What other processes leave of the calls that a process can make.
use Rattle.authority_laws.proofs.Prelude.{◌≡◌, ◌≢◌, ℕ, ◌≤◌, ◌==◌, not, Bool, true, false, List, [], ◌∷◌, refl, sym, ap, subst, ◌∙◌, Option, Some, None, is_some, is_none, arith, inl, inr, nat_lt, ◌⊎◌, if◌then◌else◌, option_map, All, ne_eqb, not-false, nat_tests, All-head, All-tail, covered, touched, page_number, second_page, Size, Map, same, some_value, is_some-map, at_page, cost, pages_of, access_need, same_pages, given, number_of_children, next_number, given-remove, number-remove, OfferKey, offer_order, offer_key, pending, Access, Read, Write, is_write, extra_page, extra_touched, State, is_live, is_mapped, room, extra_cost, overdrawn, map_refusal, unmap_refusal, protect_refusal, offer_refusal, withdraw_refusal, accept_refusal, spawn_refusal, fork_refusal, exit_refusal, IsWellFormed, Cause, next_free, not_less, plan_of, step_of, forbidden, is_read_only, fault_or, goes_on, Plan, ready, flags_at, lost, RunsNeverRefuse, answer, answer_of, after, next, end_of, completes, refused_or, planned_or, Call, Event, Reply, Settles, find, retain-insert_other, len-retain, next-stays, next-goes, not-refused, went-on, kept-next, LeavesAll, leaves_all, caller_live, none_in}
use Rattle.page_words.specs.FiniteMap as map
use Rattle.process_table.specs.declared.causes.Cause.TheVariants as cause
use Rattle.fault_handler.specs.declared.plans.Plan.TheVariants as plan
use Rattle.kernel_calls.specs.declared.calls.Call.TheVariants as call
use Rattle.kernel_calls.specs.declared.calls.Reply.TheVariants as reply

-- ---- What the events of others leave of what a process may do

pub record Leaves (s t : State) (p : ℕ) : Type 0 where
  pub member : map.get t.book p ≡ map.get s.book p
  flags : (page : ℕ) → flags_at t (at_page p page) ≡ flags_at s (at_page p page)
  given : given t.book p ≤ given s.book p
  children : number_of_children t.book p ≤ number_of_children s.book p
  offers : (page target : ℕ) → map.contains_key t.offers (offer_key p page target) ≡ true
      → map.contains_key s.offers (offer_key p page target) ≡ true
  few : map.len (pending t.offers p) ≤ map.len (pending s.offers p)

leaves_itself : (s : State) (p : ℕ) → Leaves s s p
leaves_itself s p = grind arith

leaves_on : (s t u : State) (p : ℕ) → Leaves s t p → Leaves t u p → Leaves s u p
leaves_on s t u p a b = grind arith

-- the offers of p that are pending are no more
few_after : (s : State) (q p : ℕ) (c : Call) → q ≢ p
    → map.len (pending (after s q c).offers p) ≤ map.len (pending s.offers p)
few_after s q p (call.Offer page target write) d =
    let same = retain-insert_other s.offers (λ (k : OfferKey). k.offerer == p) (offer_key q page target) write
    (ne_eqb q p d) in
    let lens = ap (λ (m : Map offer_order Bool). map.len m) same in
    omega (arith, lens)
few_after s q p _ d = search (arith, len-retain)

module _ (s : State) (o : Event) (p : ℕ) (w : IsWellFormed s) (live : is_live s p ≡ true) (d : p ≢ o.pid) where
  all : LeavesAll s (next s o) o p
  all = leaves_all s o p w live d

  -- the exit of a child returns what p gave it
  abbrev NoMore : State → Type 0
  NoMore t = (given t.book p ≤ given s.book p) × (number_of_children t.book p ≤ number_of_children s.book p)

  no_more : NoMore (next s o)
  no_more = elim all.given [
    | inl same ↦ (let a = same.0 in let b = same.1 in (omega (arith, a), omega (arith, b)))
    | inr exits ↦ by exits.1 (completes (answer s o)) refl
  ]
    where
      by : o.call ≡ call.Exit → (b : Bool) → completes (answer s o) ≡ b → NoMore (next s o)
      by is false h = subst NoMore (sym (next-stays s o h)) (omega arith, omega arith)
      by is true h = subst NoMore (sym (next-goes s o h ∙ ap (after s o.pid) is)) (
          let m = some_value (map.get s.book o.pid) (caller_live s o h).0 in
          let a = given-remove s.book o.pid m.0 m.1 p in
          let b = number-remove s.book o.pid m.0 m.1 p in
          (omega (arith, a), omega (arith, b)))

  pub leaves_one : Leaves s (next s o) p
  leaves_one = grind (arith, all, no_more, next-stays, next-goes, few_after)

leaves_run : (s : State) (others : List Event) (p : ℕ) → IsWellFormed s → is_live s p ≡ true
    → All (λ (o : Event). p ≢ o.pid) others → Leaves s (end_of s others) p
leaves_run s [] p w live apart = leaves_itself s p
leaves_run s (o ∷ others) p w live apart =
    let one = leaves_one s o p w live (All-head (λ (o : Event). p ≢ o.pid) o others apart) in
    leaves_on s (next s o) (end_of (next s o) others) p one
    (leaves_run (next s o) others p (kept-next s o w).0 (ap is_some one.member ∙ live)
    (All-tail (λ (o : Event). p ≢ o.pid) o others apart))

-- ---- So what it may do, it still may

choice : (b : Bool) (c : Cause) (y : Option Cause) → (if b then Some c else y) ≡ None → (b ≡ false) × (y ≡ None)
choice b c y h = grind arith

two : (a b : Bool) (x y : Cause) → (if a then Some x else if b then Some y else None) ≡ None → (a ≡ false) × (b ≡ false)
two a b x y h = let p = choice a x _ h in (p.0, (choice b y _ p.1).0)

three : (a b c : Bool) (x y z : Cause) → (if a then Some x else if b then Some y else if c then Some z else None) ≡ None
    → (a ≡ false) × (b ≡ false) × (c ≡ false)
three a b c x y z h = let p = choice a x _ h in let q = two b c y z p.1 in (p.0, q.0, q.1)

four : (a b c d : Bool) (x y z u : Cause)
    → (if a then Some x else if b then Some y else if c then Some z else if d then Some u else None) ≡ None
    → (a ≡ false) × (b ≡ false) × (c ≡ false) × (d ≡ false)
four a b c d x y z u h = let p = choice a x _ h in let q = three b c d y z u p.1 in (p.0, q.0, q.1, q.2)

some_of : (x : Option ℕ) → is_none x ≡ false → (k : ℕ) × (x ≡ Some k)
some_of x h = grind arith

-- an offer that was pending, and is not
abbrev pub IsGone : State → State → OfferKey → Type 0
IsGone s t key = (map.contains_key s.offers key ≡ true) × (map.contains_key t.offers key ≡ false)

-- why a call is lost: one that settles an offer, since that is gone
abbrev pub Lost : State → State → ℕ → Call → Type 0
Lost s t p (call.Offer _ target _) = (is_live s target ≡ true) × (is_live t target ≡ false)
Lost s t p (call.Spawn _) = (k : ℕ) × (is_live s k ≡ false) × (is_live t k ≡ true)
Lost s t p (call.Fork _) = (k : ℕ) × (is_live s k ≡ false) × (is_live t k ≡ true)
Lost s t p c = (giver : ℕ) × (page : ℕ) × (target : ℕ) × IsGone s t (offer_key giver page target)
    × Settles (record { cpu = 0; pid = p; call = c }) (offer_key giver page target)

abbrev pub Outcome : State → State → ℕ → Call → Type 0
Outcome s t p c = (completes (answer_of t p c) ≡ true)
    ⊎ ((lost c ≡ Some (answer_of t p c)) × Lost s t p c)

module _ (s t : State) (p : ℕ) (l : Leaves s t p) where
  mapped : (page : ℕ) → is_mapped t (at_page p page) ≡ is_mapped s (at_page p page)
  mapped page = grind (arith, is_some-map)

  pages : pages_of t.spaces p ≡ pages_of s.spaces p
  pages = same_pages t.spaces s.spaces p p mapped

  bars : (page : ℕ) → is_read_only t (at_page p page) ≡ is_read_only s (at_page p page)
  bars page = grind arith

  -- what fits still does
  fits : (n m : ℕ) → m ≡ n → nat_lt (room s p) n ≡ false → nat_lt (room t p) m ≡ false
  fits n m is h = grind (arith, not_less, pages, nat_tests)

  need_same : (address : ℕ) (size : Size) → access_need t.spaces p address size ≡ access_need s.spaces p address size
  need_same address size = grind (arith, mapped, pages)

  access_stays : (address : ℕ) (size : Size) (access : Access) (r : Reply) → completes r ≡ true
      → goes_on (plan_of s p address size access) ≡ true
      → completes (planned_or (plan_of t p address size access) r) ≡ true
  access_stays address size access r done g =
      let k = ready (step_of s p) s p address size access g in
      let forbids : forbidden t p address size access ≡ None =
      (λ i. if is_write access then find (λ a. bars (page_number a) i) (covered address size) else None) ∙ k.allowed in
      let enough : overdrawn t p (touched address size) ≡ false =
      fits (extra_cost s p (touched address size)) (extra_cost t p (touched address size))
      (extra_touched t p address size ∙ need_same address size ∙ sym (extra_touched s p address size)) k.room in
      ap (λ (x : Plan). completes (planned_or x r)) (λ i. fault_or (k.outside i) access false
      (fault_or (forbids i) access true (if enough i then plan.Refused cause.Quota else full))) ∙ done
    where
      full : Plan
      full = plan.Ready (step_of t p (page_number address)) (option_map (step_of t p) (second_page address size))

  refused_stays : (x : Option Cause) (r : Reply) → completes r ≡ true → x ≡ None → completes (refused_or x r) ≡ true
  refused_stays x r h none = ap (λ (y : Option Cause). completes (refused_or y r)) none ∙ h

  map_stays : (page : ℕ) → map_refusal s p page ≡ None → map_refusal t p page ≡ None
  map_stays page h = grind (arith, choice, mapped, fits, extra_page, pages)

  unmap_stays : (page : ℕ) → unmap_refusal t p page ≡ unmap_refusal s p page
  unmap_stays page = grind (arith, mapped)

  protect_stays : (page : ℕ) (write : Bool) → protect_refusal t p page write ≡ protect_refusal s p page write
  protect_stays page write = grind (arith, mapped)

  offer_stays : (page target : ℕ) (write : Bool) → offer_refusal s p page target write ≡ None
      → Outcome s t p (call.Offer page target write)
  offer_stays page target write h = grind (arith, choice, four, mapped, nat_tests, not-false)

  withdraw_stays : (page target : ℕ) → withdraw_refusal s p page target ≡ None
      → (withdraw_refusal t p page target ≡ None)
      ⊎ ((withdraw_refusal t p page target ≡ Some cause.NoOffer) × IsGone s t (offer_key p page target))
  withdraw_stays page target h = grind (arith, two, not-false)

  accept_stays : (giver giver_page page : ℕ) → accept_refusal s p giver giver_page page ≡ None
      → Outcome s t p (call.Accept giver giver_page page)
  accept_stays giver giver_page page h = grind (arith, four, mapped, fits, extra_page, pages, not-false)

  -- a number that was free, and is not
  pub taken : (k : ℕ) → next_number s.book ≡ Some k → next_number t.book ≡ None
      → (k : ℕ) × (is_live s k ≡ false) × (is_live t k ≡ true)
  taken k some none =
      let f = next_free s.book k some in
      let below = f.0 in (
        k,
        f.1,
        not-false _ (none_in (λ n. not (map.contains_key t.book n)) 0 64 none k (omega arith)
            (omega (arith, below))),
      )

  spawn_stays : (quota : ℕ) → spawn_refusal s p quota ≡ None → Outcome s t p (call.Spawn quota)
  spawn_stays quota h = by (next_number t.book) refl
    where
      a : ((quota == 0) ≡ false) × (is_none (next_number s.book) ≡ false) × (nat_lt (room s p) quota ≡ false)
      a = three (quota == 0) (is_none (next_number s.book)) (nat_lt (room s p) quota) _ _ _ h

      refusal : (x : Option ℕ) → next_number t.book ≡ x
          → spawn_refusal t p quota ≡ (if is_none x then Some cause.TableFull else None)
      refusal x is = grind (arith, a, fits)

      by : (x : Option ℕ) → next_number t.book ≡ x → Outcome s t p (call.Spawn quota)
      by (Some k) is = grind (arith, refusal)
      by None is = grind (arith, some_of, a, refusal, taken)

  fork_stays : (quota : ℕ) → fork_refusal s p quota ≡ None → Outcome s t p (call.Fork quota)
  fork_stays quota h = by (next_number t.book) refl
    where
      a : ((quota == 0) ≡ false) × (is_none (next_number s.book) ≡ false)
          × (nat_lt quota (cost s.spaces p) ≡ false) × (nat_lt (room s p) quota ≡ false)
      a = grind (arith, four)

      refusal : (x : Option ℕ) → next_number t.book ≡ x
          → fork_refusal t p quota ≡ (if is_none x then Some cause.TableFull else None)
      refusal x is = grind (arith, a, pages, fits)

      by : (x : Option ℕ) → next_number t.book ≡ x → Outcome s t p (call.Fork quota)
      by (Some k) is = grind (arith, refusal)
      by None is = grind (arith, some_of, a, refusal, taken)

  exit_stays : exit_refusal s p ≡ None → exit_refusal t p ≡ None
  exit_stays h = grind (arith, choice, not_less, nat_tests)

  pub outcome : (c : Call) → completes (answer_of s p c) ≡ true → Outcome s t p c
  outcome (call.Load addr size) h =
      inl (access_stays addr size Read _ refl (went-on (plan_of s p addr size Read) _ h))
  outcome (call.Store addr size value) h =
      inl (access_stays addr size Write _ refl (went-on (plan_of s p addr size Write) _ h))
  outcome _ h =
      grind (
        arith,
        refused_stays,
        map_stays,
        not-refused,
        unmap_stays,
        protect_stays,
        offer_stays,
        withdraw_stays,
        accept_stays,
        spawn_stays,
        fork_stays,
        exit_stays,
      )

-- ---- After a run of events of others

-- the reply is that of a live process
pub answered : (t : State) (e : Event) → is_live t e.pid ≡ true → answer t e ≡ answer_of t e.pid e.call
answered t e live = ap (λ b. if b then answer_of t e.pid e.call else reply.Refused cause.NoProcess) live

pub runs_never_refuse : RunsNeverRefuse
runs_never_refuse s others e w apart done =
    let c = caller_live s e done in
    let l = leaves_run s others e.pid w c.0 apart in
    let is = answered (end_of s others) e (ap is_some l.member ∙ c.0) in
    elim (outcome s (end_of s others) e.pid l e.call c.1) [
      | inl completes_too ↦ inl (ap completes is ∙ completes_too)
      | inr x ↦ inr (x.0 ∙ ap Some (sym is))
    ]
