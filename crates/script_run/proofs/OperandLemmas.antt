-- Operands read one behind another are those that the grammar names.
use Rattle.std.proofs.Common.{◌≡◌, ℕ, Bool, true, false, nat_lt, cond, List, [], ◌∷◌, Option, Some, None, refl, ap, ◌∙◌, ◌<◌, ◌≤◌}
use Rattle.std.proofs.lemmas.Bool.{lt-ltb, le-ltb}
use Rattle.kernel_calls.specs.declared.calls.Call.{Call}
use Rattle.kernel_calls.specs.declared.calls.Call.TheVariants as call
use Rattle.kernel_calls.specs.declared.calls.Event.{Event}
use Rattle.script_run.specs.Lines.{◌>>=◌, is_blank, one, two, three, alone, cpu_of, process_of, size_of, right_of, quota_of, load_of, store_of, map_of, unmap_of, protect_of, info_of, offer_of, withdraw_of, accept_of, spawn_of, fork_of, call_of, event_of_words}
use Rattle.script_run.specs.Numbers.{hexadecimal_number, below}
use Rattle.script_run.specs.Operands.{first_by, one_by, two_by, three_by, caller_by, first_in, event_by}

-- ---- Steps of a chain

same_rest : {A B : Type 0} (x : Option A) (F G : A → Option B) → ((v : A) → F v ≡ G v) → (x >>= F) ≡ (x >>= G)
same_rest None F G h = refl
same_rest (Some v) F G h = h v

abbrev nothing : {A B : Type 0} → A → Option B
nothing v = None

ends_so : {A B : Type 0} (x : Option A) → (x >>= nothing {A = A} {B = B}) ≡ None
ends_so None = refl
ends_so (Some v) = refl

paired : {A B : Type 0} (x : Option A) (ts : List (List ℕ)) (F : A × List (List ℕ) → Option B) → ((x >>= λ v. Some (v, ts)) >>= F) ≡ (x >>= λ v. F (v, ts))
paired None ts F = refl
paired (Some v) ts F = refl

first : {A B : Type 0} (f : List ℕ → Option A) (t : List ℕ) (ts : List (List ℕ)) (F : A × List (List ℕ) → Option B) → (first_by f (t ∷ ts) >>= F) ≡ (f t >>= λ v. F (v, ts))
unfolding first_by
first f t ts F = paired (f t) ts F

-- ---- One operand, two, or three

ones : {A : Type 0} (f : List ℕ → Option A) (k : A → Call) (ts : List (List ℕ)) → one_by f k ts ≡ (one ts >>= λ t. f t >>= λ a. Some (k a))
unfolding one_by first_by alone
ones f k [] = refl
ones f k (a ∷ []) = first f a [] (λ p. alone (k p.0) p.1)
ones f k (a ∷ b ∷ ts) = first f a (b ∷ ts) (λ p. alone (k p.0) p.1) ∙ ends_so (f a)

twos : {A B : Type 0} (f : List ℕ → Option A) (g : List ℕ → Option B) (k : A → B → Call) (ts : List (List ℕ)) → two_by f g k ts ≡ (two ts >>= λ t. f t.0 >>= λ a. g t.1 >>= λ b. Some (k a b))
unfolding two_by first_by alone
twos f g k [] = refl
twos f g k (a ∷ []) = first f a [] (λ p. first_by g p.1 >>= λ q. alone (k p.0 q.0) q.1) ∙ ends_so (f a)
twos f g k (a ∷ b ∷ []) =
    first f a (b ∷ []) (λ p. first_by g p.1 >>= λ q. alone (k p.0 q.0) q.1)
    ∙ same_rest (f a) _ _ (λ v. first g b [] (λ q. alone (k v q.0) q.1))
twos f g k (a ∷ b ∷ c ∷ ts) =
    first f a (b ∷ c ∷ ts) (λ p. first_by g p.1 >>= λ q. alone (k p.0 q.0) q.1)
    ∙ same_rest (f a) _ (λ v. None) (λ v. first g b (c ∷ ts) (λ q. alone (k v q.0) q.1) ∙ ends_so (g b)) ∙ ends_so (f a)

threes : {A B C : Type 0} (f : List ℕ → Option A) (g : List ℕ → Option B) (h : List ℕ → Option C) (k : A → B → C → Call) (ts : List (List ℕ))
    → three_by f g h k ts ≡ (three ts >>= λ t. f t.0 >>= λ a. g t.1 >>= λ b. h t.2 >>= λ c. Some (k a b c))
unfolding three_by first_by alone
threes f g h k [] = refl
threes f g h k (a ∷ []) = first f a [] (λ p. first_by g p.1 >>= λ q. first_by h q.1 >>= λ r. alone (k p.0 q.0 r.0) r.1) ∙ ends_so (f a)
threes f g h k (a ∷ b ∷ []) =
    first f a (b ∷ []) (λ p. first_by g p.1 >>= λ q. first_by h q.1 >>= λ r. alone (k p.0 q.0 r.0) r.1)
    ∙ same_rest (f a) _ (λ v. None) (λ v. first g b [] (λ q. first_by h q.1 >>= λ r. alone (k v q.0 r.0) r.1) ∙ ends_so (g b)) ∙ ends_so (f a)
threes f g h k (a ∷ b ∷ c ∷ []) =
    first f a (b ∷ c ∷ []) (λ p. first_by g p.1 >>= λ q. first_by h q.1 >>= λ r. alone (k p.0 q.0 r.0) r.1)
    ∙ same_rest (f a) _ _ (λ v. first g b (c ∷ []) (λ q. first_by h q.1 >>= λ r. alone (k v q.0 r.0) r.1)
    ∙ same_rest (g b) _ _ (λ w. first h c [] (λ r. alone (k v w r.0) r.1)))
threes f g h k (a ∷ b ∷ c ∷ d ∷ ts) =
    first f a (b ∷ c ∷ d ∷ ts) (λ p. first_by g p.1 >>= λ q. first_by h q.1 >>= λ r. alone (k p.0 q.0 r.0) r.1)
    ∙ same_rest (f a) _ (λ v. None) (λ v. first g b (c ∷ d ∷ ts) (λ q. first_by h q.1 >>= λ r. alone (k v q.0 r.0) r.1)
    ∙ same_rest (g b) _ (λ w. None) (λ w. first h c (d ∷ ts) (λ r. alone (k v w r.0) r.1) ∙ ends_so (h c)) ∙ ends_so (g b)) ∙ ends_so (f a)

-- ---- Each call

pub load_read : (ts : List (List ℕ)) → two_by hexadecimal_number size_of call.Load ts ≡ load_of ts
unfolding load_of
load_read ts = twos _ _ _ ts

pub store_read : (ts : List (List ℕ)) → three_by hexadecimal_number size_of hexadecimal_number call.Store ts ≡ store_of ts
unfolding store_of
store_read ts = threes _ _ _ _ ts

pub map_read : (ts : List (List ℕ)) → two_by hexadecimal_number right_of call.Map ts ≡ map_of ts
unfolding map_of
map_read ts = twos _ _ _ ts

pub unmap_read : (ts : List (List ℕ)) → one_by hexadecimal_number call.Unmap ts ≡ unmap_of ts
unfolding unmap_of
unmap_read ts = ones _ _ ts

pub protect_read : (ts : List (List ℕ)) → two_by hexadecimal_number right_of call.Protect ts ≡ protect_of ts
unfolding protect_of
protect_read ts = twos _ _ _ ts

pub info_read : (ts : List (List ℕ)) → one_by hexadecimal_number call.Info ts ≡ info_of ts
unfolding info_of
info_read ts = ones _ _ ts

pub offer_read : (ts : List (List ℕ)) → three_by hexadecimal_number process_of right_of call.Offer ts ≡ offer_of ts
unfolding offer_of
offer_read ts = threes _ _ _ _ ts

pub withdraw_read : (ts : List (List ℕ)) → two_by hexadecimal_number process_of call.Withdraw ts ≡ withdraw_of ts
unfolding withdraw_of
withdraw_read ts = twos _ _ _ ts

pub accept_read : (ts : List (List ℕ)) → three_by process_of hexadecimal_number hexadecimal_number call.Accept ts ≡ accept_of ts
unfolding accept_of
accept_read ts = threes _ _ _ _ ts

pub spawn_read : (ts : List (List ℕ)) → one_by quota_of call.Spawn ts ≡ spawn_of ts
unfolding spawn_of
spawn_read ts = ones _ _ ts

pub fork_read : (ts : List (List ℕ)) → one_by quota_of call.Fork ts ≡ fork_of ts
unfolding fork_of
fork_read ts = ones _ _ ts

-- ---- The line

abbrev pub Caller : Type 0
Caller = ℕ × ℕ × List (List ℕ)

abbrev pub with_pid : ℕ → ℕ × List (List ℕ) → Option Caller
with_pid cpu pid = Some (cpu, pid.0, pid.1)

abbrev pub with_cpu : ℕ × List (List ℕ) → Option Caller
with_cpu cpu = first_by process_of cpu.1 >>= with_pid cpu.0

abbrev with_call : Caller → Option Event
with_call caller = first_in call_of caller.2 >>= λ call. Some (record { cpu = caller.0; pid = caller.1; call = call })

chained : {A B C : Type 0} (x : Option A) (F : A → Option B) (G : B → Option C) → ((x >>= F) >>= G) ≡ (x >>= λ v. F v >>= G)
chained None F G = refl
chained (Some v) F G = refl

pub event_read : (ts : List (List ℕ)) → event_by ts ≡ event_of_words ts
unfolding event_by caller_by event_of_words first_by
event_read [] = refl
event_read (a ∷ []) = ap (λ x. x >>= with_call) (first cpu_of a [] with_cpu ∙ ends_so (cpu_of a))
event_read (a ∷ b ∷ []) =
    ap (λ x. x >>= with_call) (first cpu_of a (b ∷ []) with_cpu) ∙ chained (cpu_of a) (λ v. with_cpu (v, b ∷ [])) with_call
    ∙ same_rest (cpu_of a) _ (λ v. None) (λ v. ap (λ x. x >>= with_call) (first process_of b [] (with_pid v)) ∙ chained (process_of b) (λ w. with_pid v (w, [])) with_call ∙ ends_so (process_of b)) ∙ ends_so (cpu_of a)
event_read (a ∷ b ∷ op ∷ ts) =
    ap (λ x. x >>= with_call) (first cpu_of a (b ∷ op ∷ ts) with_cpu) ∙ chained (cpu_of a) (λ v. with_cpu (v, b ∷ op ∷ ts)) with_call
    ∙ same_rest (cpu_of a) _ _ (λ v. ap (λ x. x >>= with_call) (first process_of b (op ∷ ts) (with_pid v)) ∙ chained (process_of b) (λ w. with_pid v (w, op ∷ ts)) with_call)

-- where an event is spelled, a token stands
pub some_token : (ts : List (List ℕ)) (event : Event) → event_of_words ts ≡ Some event → is_blank ts ≡ false
unfolding event_of_words
some_token [] event spelled = cc
some_token (t ∷ ts) event spelled = refl

pub ruleset calls = (load_read, store_read, map_read, unmap_read, protect_read, info_read)

pub ruleset sharing_calls = (offer_read, withdraw_read, accept_read)

pub ruleset process_calls = (spawn_read, fork_read)

-- ---- Limits

abbrev kept_below : ℕ → ℕ × List (List ℕ) → Option (ℕ × List (List ℕ))
kept_below limit p = cond (nat_lt p.0 limit) (Some p) None

abbrev pub with_rest : {A : Type 0} → List (List ℕ) → A → Option (A × List (List ℕ))
with_rest ts v = Some (v, ts)

below_first : (read : List ℕ → Option ℕ) (limit : ℕ) (ts : List (List ℕ)) → first_by (λ token. below limit (read token)) ts ≡ (first_by read ts >>= kept_below limit)
unfolding first_by
below_first read limit [] = refl
below_first read limit (t ∷ ts) = at (read t) where
  at : (x : Option ℕ) → (below limit x >>= with_rest ts) ≡ ((x >>= with_rest ts) >>= kept_below limit)
  at None = refl
  at (Some n) = within (nat_lt n limit) where
    within : (b : Bool) → (cond b (Some n) None >>= with_rest ts) ≡ cond b (Some (n, ts)) None
    within true = refl
    within false = refl

abbrev kept : ℕ → List (List ℕ) → Bool → Option (ℕ × List (List ℕ))
kept n rest b = cond b (Some (n, rest)) None

pub first_below : (read : List ℕ → Option ℕ) (limit : ℕ) (ts : List (List ℕ)) (n : ℕ) (rest : List (List ℕ)) → Some (n, rest) ≡ first_by read ts → n < limit → Some (n, rest) ≡ first_by (λ token. below limit (read token)) ts
first_below read limit ts n rest is small = cc (below_first read limit ts, ap (λ o. o >>= kept_below limit) is, ap (kept n rest) (lt-ltb n limit small))

pub first_above : (read : List ℕ → Option ℕ) (limit : ℕ) (ts : List (List ℕ)) (n : ℕ) (rest : List (List ℕ)) → Some (n, rest) ≡ first_by read ts → limit ≤ n → None ≡ first_by (λ token. below limit (read token)) ts
first_above read limit ts n rest is large = cc (below_first read limit ts, ap (λ o. o >>= kept_below limit) is, ap (kept n rest) (le-ltb n limit large))

pub first_missing : (read : List ℕ → Option ℕ) (limit : ℕ) (ts : List (List ℕ)) → None ≡ first_by read ts → None ≡ first_by (λ token. below limit (read token)) ts
first_missing read limit ts is = cc (below_first read limit ts, ap (λ o. o >>= kept_below limit) is)
