-- What others may do in the window of each call.
use Rattle.shootdowns.proofs.Prelude.{◌≡◌, Bool, true, false, [], ◌∷◌, refl, answer, next, completes, Processors, ended_by, of_call, Call, Event, Reply, Ended, State, nobody, settled, CleanStoresComeFirst, StaleStoresComeFirst, StaleLoadsComeFirst, WalksComeFirst, OthersAreRead, may_end, OthersEndNothing, arith}
use Rattle.kernel_calls.specs.declared.calls.Call.TheVariants as call
use Rattle.kernel_calls.specs.declared.translations.Ended.TheVariants as end
use Rattle.shootdowns.proofs.InOrder.{shootdowns_make_events}
use Rattle.shootdowns.specs.Windows as window

-- an access that is made behind an event comes before it in the order
both_told : (s : State) (e a : Event) (r q : Reply) → (q ∷ r ∷ []) ≡ (answer s a ∷ answer (next s a) e ∷ []) → (q ≡ answer s a) × (r ≡ answer (next s a) e)
both_told s e a r q both = (cc, cc)

pub stale_stores_come_first : StaleStoresComeFirst
stale_stores_come_first v w keeps i e a r q bytes core all b takes l =
    let came = shootdowns_make_events v
    (settled (ended_by v e) nobody (record w { bytes = bytes; state = next (next v.state a) e })) keeps keeps (a ∷ e ∷ []) (q ∷ r ∷ []) core all
    (window.first (window.begun b) (window.first (window.stored i takes l) (window.first window.ordered window.none))) in
    let both = both_told v.state e a r q came.replies in
    (both.0, both.1, came.stands.0)

pub clean_stores_come_first : CleanStoresComeFirst
clean_stores_come_first v w keeps i e a r q bytes core all b takes l =
    let came = shootdowns_make_events v
    (settled (ended_by v e) nobody (record w { bytes = bytes; state = next (next v.state a) e })) keeps keeps (a ∷ e ∷ []) (q ∷ r ∷ []) core all
    (window.first (window.begun b) (window.first (window.stored_clean i takes l) (window.first window.ordered window.none))) in
    let both = both_told v.state e a r q came.replies in
    (both.0, both.1, came.stands.0)

pub stale_loads_come_first : StaleLoadsComeFirst
stale_loads_come_first v w keeps i e a r q core all b takes l =
    let came = shootdowns_make_events v (settled (ended_by v e) nobody w) keeps keeps (a ∷ e ∷ []) (q ∷ r ∷ []) core all
    (window.first (window.begun b) (window.first (window.loaded i takes l) (window.first window.ordered window.none))) in
    let both = both_told v.state e a r q came.replies in
    (both.0, both.1, came.state)

pub walks_come_first : WalksComeFirst
walks_come_first v w u e a r q core b takes is_walked =
    let keeps : Processors = λ i. [] in
    let came = shootdowns_make_events v (settled (ended_by v e) nobody u) keeps keeps (a ∷ e ∷ []) (q ∷ r ∷ []) core (λ i. tt)
    (window.first (window.begun b) (window.first (window.walked takes is_walked) (window.first window.ordered window.none))) in
    let both = both_told v.state e a r q came.replies in
    (both.0, both.1, came.state, came.stands.0)

pub others_are_read : OthersAreRead
others_are_read v w keeps e r core all b =
    (shootdowns_make_events v (settled (ended_by v e) nobody w) keeps keeps (e ∷ []) (r ∷ []) core all
    (window.first (window.begun b) (window.first window.ordered window.none))).stands.1

pub others_end_nothing : OthersEndNothing
others_end_nothing v e other = by e.call refl other
  where
    done : Bool
    done = completes (answer v.state e)

    ends : (c : Call) → e.call ≡ c → of_call v e.pid c ≡ end.Nothing → ended_by v e ≡ end.Nothing
    ends c is nothing = grind (arith, done)

    by : (c : Call) → e.call ≡ c → may_end c ≡ false → ended_by v e ≡ end.Nothing
    by (call.Store addr size value) is h = cc
    by (call.Unmap page) is h = cc
    by (call.Protect page true) is h = ends (call.Protect page true) is refl
    by (call.Protect page false) is h = cc
    by (call.Accept giver giver_page page) is h = cc
    by call.Exit is h = cc
    by _ is h = ends _ is refl
