-- Runs that stop at the first numbers that are not carried out.
use Rattle.std.proofs.Common.{◌≡◌, ℕ, zero, suc, ◌+◌, ◌<◌, true, false, List, [], ◌∷◌, ◌++◌, length, take, drop, refl, ap, sym, subst, ◌∙◌, arith, length-drop, append_assoc, drop-drop}
use Rattle.std.specs.Prelude.{if◌then◌else◌, slice_set, slice_index_or, nat_lt, Option, Some, None}
use Rattle.kernel_calls.specs.Machine.{answer, completes}
use Rattle.kernel_calls.specs.declared.calls.Event.{Event}
use Rattle.kernel_calls.specs.declared.calls.Reply.{Reply}
use Rattle.kernel_calls.specs.declared.calls.Reply.TheVariants as reply
use Rattle.std.proofs.lemmas.List.{append-nil, length-take-le, take-append-drop, take_more_set, take_all, drop_all}
use Rattle.process_table.specs.State.{State}
use Rattle.process_table.specs.Image.{StandsFor, image_of}
use Rattle.process_table.specs.View.{View}
use Rattle.kernel_calls.specs.Translations.{Ends}
use Rattle.tower_c.specs.Border.{EndInOrder, event_in, ends_in, reply_in, reply_numbers, state_after, is_carried_out, replies_in, end_after}
use Rattle.tower_c.specs.Runs.{carried_in, replies_until}
use Rattle.tower_c.specs.declared.numbers.TowerEvent.{TowerEvent}
use Rattle.tower_c.specs.declared.numbers.TowerReply.{TowerReply}

pub replies_in-append : (s : State) (xs ys : List TowerEvent) → replies_in s (xs ++ ys) ≡ replies_in s xs ++ replies_in (end_after s xs) ys
replies_in-append s [] ys = refl
replies_in-append s (x ∷ xs) ys = ap (λ rs. reply_in s (event_in x) ∷ rs) (replies_in-append (state_after s (event_in x)) xs ys)

pub end_after-append : (s : State) (xs ys : List TowerEvent) → end_after s (xs ++ ys) ≡ end_after (end_after s xs) ys
end_after-append s [] ys = refl
end_after-append s (x ∷ xs) ys = end_after-append (state_after s (event_in x)) xs ys

-- the events up to one, and it
pub take_one : {X : Type 0} → (xs : List X) (i : ℕ) (x : X) (more : List X) → drop i xs ≡ x ∷ more → (take (i + 1) xs ≡ take i xs ++ (x ∷ [])) × (drop (i + 1) xs ≡ more)
take_one xs zero x more is = (ap (λ ys. take 1 ys) is, ap (λ ys. drop 1 ys) is)
take_one [] (suc i) x more is = absurd (cc)
take_one (y ∷ xs) (suc i) x more is =
    let n : suc i + 1 ≡ suc (i + 1) = omega arith in
    let h = take_one xs i x more is in
    (ap (λ k. take k (y ∷ xs)) n ∙ ap (λ ys. y ∷ ys) h.0, ap (λ k. drop k (y ∷ xs)) n ∙ h.1)

-- a reply of one of the first five kinds is that of an event that is carried out
pub kind_told : (s : State) (e : Option Event) → nat_lt (reply_in s e).kind 5 ≡ is_carried_out s e
unfolding is_carried_out
kind_told s None = refl
kind_told s (Some e) = by (answer s e)
  where
    by : (r : Reply) → nat_lt (reply_numbers r).kind 5 ≡ completes r
    by reply.Done = refl
    by (reply.Value value) = refl
    by (reply.Child pid) = refl
    by (reply.Info write may accessed dirty holders) = refl
    by (reply.Quota quota used given) = refl
    by (reply.Fault addr code) = refl
    by (reply.Refused cause) = refl

-- what lies behind a place that was written
pub drop_behind : {X : Type 0} → (xs : List X) (i : ℕ) (x : X) → drop (i + 1) (slice_set xs i x) ≡ drop (i + 1) xs
drop_behind [] i x = refl
drop_behind (y ∷ xs) zero x = refl
drop_behind (y ∷ xs) (suc i) x = let n : suc i + 1 ≡ suc (i + 1) = omega arith in ap (λ k. drop k (y ∷ slice_set xs i x)) n ∙ drop_behind xs i x ∙ sym (ap (λ k. drop k (y ∷ xs)) n)

-- what begins at a place
pub begins : {X : Type 0} → (xs : List X) (i : ℕ) (d : X) → i < length xs → drop i xs ≡ slice_index_or xs i d ∷ drop (i + 1) xs
begins [] i d less = absurd (omega (arith, less))
begins (x ∷ xs) zero d less = let n : 0 + 1 ≡ 1 = omega arith in sym (ap (λ k. x ∷ drop k (x ∷ xs)) n)
begins (x ∷ xs) (suc i) d less = let n : suc i + 1 ≡ suc (i + 1) = omega arith in begins xs i d (omega (arith, less)) ∙ sym (ap (λ k. slice_index_or xs i d ∷ drop k (x ∷ xs)) n)

-- one event more ended what it ends
pub ends_on : (events : List TowerEvent) (v u w : View) (e : TowerEvent) → EndInOrder events v u
    → StandsFor (image_of w) w.state → w.state ≡ state_after u.state (event_in e) → Ends (ends_in u (event_in e)) u w
    → EndInOrder (events ++ (e ∷ [])) v w
ends_on [] v u w e same stands state ends = subst (λ (x : View). EndInOrder (e ∷ []) x w) (sym same) (w, stands, state, ends, refl)
ends_on (x ∷ events) v u w e h stands state ends = (h.0, h.1, h.2, h.3, ends_on events h.0 u w e h.4 stands state ends)

-- ---- As far as a run came

-- the first events were carried out, and led here
pub record SoFar (s t : State) (events : List TowerEvent) (old replies : List TowerReply) (i : ℕ) : Type 0 where
  pub carried : carried_in s events ≡ take i events ++ carried_in t (drop i events)
  pub told : take i replies ≡ replies_in s (take i events)
  pub rest : drop i replies ≡ drop i old
  pub state : t ≡ end_after s (take i events)

-- what a run tells in the end
pub record Ended (s t : State) (events : List TowerEvent) (old told : List TowerReply) (n : ℕ) : Type 0 where
  pub carried : carried_in s events ≡ take n events
  pub count : n ≡ length (carried_in s events)
  pub replies : told ≡ replies_until s events old
  pub state : t ≡ end_after s (carried_in s events)

module _ (s t : State) (events : List TowerEvent) (old replies : List TowerReply) (i : ℕ) (e : TowerEvent) (more : List TowerEvent) (so_far : SoFar s t events old replies i) (is : drop i events ≡ e ∷ more) (same : length events ≡ length replies) where
  one : (take (i + 1) events ≡ take i events ++ (e ∷ [])) × (drop (i + 1) events ≡ more)
  one = take_one events i e more is

  less : i < length events
  less = let a = length-drop i events in let b : length (drop i events) ≡ suc (length more) = ap length is in omega (arith, a, b)

  room : i < length replies
  room = let a = less in omega (arith, a, same)

  -- the replies with one more
  told_on : replies_in s (take (i + 1) events) ≡ take i replies ++ (reply_in t (event_in e) ∷ [])
  told_on =
      ap (replies_in s) one.0 ∙ replies_in-append s (take i events) (e ∷ [])
      ∙ (λ k. sym so_far.told k ++ (reply_in (sym so_far.state k) (event_in e) ∷ []))

  rest_on : drop (i + 1) replies ≡ drop (i + 1) old
  rest_on = sym (drop-drop 1 i replies) ∙ ap (drop 1) so_far.rest ∙ drop-drop 1 i old

  -- one event more was carried out
  pub on : is_carried_out t (event_in e) ≡ true → SoFar s (state_after t (event_in e)) events old (slice_set replies i (reply_in t (event_in e))) (i + 1)
  on goes = record {
    carried = so_far.carried ∙ ap (λ es. take i events ++ carried_in t es) is
        ∙ ap (λ b. take i events ++ (if b then e ∷ carried_in (state_after t (event_in e)) more else [])) goes
        ∙ sym (append_assoc (take i events) (e ∷ []) (carried_in (state_after t (event_in e)) more))
        ∙ (λ k. sym one.0 k ++ carried_in (state_after t (event_in e)) (sym one.1 k));
    told = take_more_set replies i (reply_in t (event_in e)) room ∙ sym told_on;
    rest = drop_behind replies i (reply_in t (event_in e)) ∙ rest_on;
    state = ap (λ x. state_after x (event_in e)) so_far.state ∙ sym (ap (end_after s) one.0 ∙ end_after-append s (take i events) (e ∷ []));
  }

  -- the next event is not
  pub stops : is_carried_out t (event_in e) ≡ false → Ended s t events old (slice_set replies i (reply_in t (event_in e))) i
  stops fails =
      let here : carried_in s events ≡ take i events = so_far.carried ∙ ap (λ es. take i events ++ carried_in t es) is
      ∙ ap (λ b. take i events ++ (if b then e ∷ carried_in (state_after t (event_in e)) more else [])) fails ∙ append-nil (take i events) in
      let long : length (take i events) ≡ i = let a = less in length-take-le i events (omega (arith, a)) in
      let count : suc (length (carried_in s events)) ≡ i + 1 = let a = ap length here in omega (arith, a, long) in
      record {
        carried = here;
        count = sym long ∙ sym (ap length here);
        replies =
            sym (take-append-drop (i + 1) (slice_set replies i (reply_in t (event_in e))))
            ∙ (λ k. take_more_set replies i (reply_in t (event_in e)) room k ++ (drop_behind replies i (reply_in t (event_in e)) ∙ rest_on) k)
            ∙ ap (λ rs. rs ++ drop (i + 1) old) (sym told_on)
            ∙ sym (ap (λ k. replies_in s (take k events) ++ drop k old) count);
        state = so_far.state ∙ sym (ap (end_after s) here);
      }

-- all events were carried out
pub all_carried : (s t : State) (events : List TowerEvent) (old replies : List TowerReply) (i : ℕ) → SoFar s t events old replies i → i ≡ length events → length events ≡ length replies → length replies ≡ length old
    → Ended s t events old replies (length events)
all_carried s t events old replies i so_far is same kept =
    let none : drop i events ≡ [] = drop_all i events (omega (arith, is)) in
    let all : take i events ≡ events = take_all i events (omega (arith, is)) in
    let here : carried_in s events ≡ events = so_far.carried ∙ ap (λ es. take i events ++ carried_in t es) none ∙ append-nil (take i events) ∙ all in
    let count : suc (length (carried_in s events)) ≡ suc (length events) = ap (λ es. suc (length es)) here in
    record {
      carried = here ∙ sym (take_all (length events) events (omega arith));
      count = sym (ap length here);
      replies =
          sym (take_all i replies (omega (arith, is, same))) ∙ so_far.told ∙ ap (replies_in s) all
          ∙ sym (ap (λ k. replies_in s (take k events) ++ drop k old) count
          ∙ (λ k. replies_in s (take_all (suc (length events)) events (omega arith) k) ++ drop_all (suc (length events)) old (omega (arith, same, kept)) k)
          ∙ append-nil (replies_in s events));
      state = so_far.state ∙ ap (end_after s) all ∙ sym (ap (end_after s) here);
    }
