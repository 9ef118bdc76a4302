use Rattle.kernel_calls.proofs.Prelude.{rules, ◌≡◌, ◌+◌, ◌<◌, ◌++◌, ℕ, List, [], ◌∷◌, length, take, drop, ap, sym, ◌∙◌, subst, get_or, append_assoc, arith, and_parts, not-true, take_more_set, drop_more, drop_all, take_all, append-nil, State, View, answers, end_of, EndsInOrder, IsIsolated, Event, Reply, CarriesOut}
use Rattle.kernel_calls.proofs.Isolated.{runs_isolated}
use Rattle.kernel_calls.proofs.cores.Core.run.Goals as goal

pub loop-i-preserved : goal.loop-i-preserved
loop-i-preserved c =
    let i : ℕ = c.loop-i.i in
    let events : List Event = c.args.events.now in
    let e : Event = c.index-events-i.result in
    let step = c.step.ensures in
    let r : Reply = c.step.result in
    let v : View = c.loop-i.self in
    let s : State = c.step.new.self.state in
    let rest : List Event = drop (i + 1) events in
    let within : i < length events = search rules in
    let at : get_or events i e ≡ e = search rules in
    let here : drop i events ≡ e ∷ rest = drop_more events i e within ∙ ap (λ y. y ∷ rest) at in
    let told : i < length c.loop-i.replies = search rules in
    let replies_here : answers v.state (drop i events) ≡ r ∷ answers s rest =
    ap (answers v.state) here ∙ (λ j. sym step.reply j ∷ answers (sym step.state j) rest) in
    let now = c.stands-in-loop-i.ensures in
    let carried : CarriesOut v e c.step.new.self = record {
      state = step.state;
      ends = step.ends;
      core = now.core;
      writes = step.writes;
    } in
    record {
      told = ap (λ l. l ++ answers s rest) (take_more_set c.loop-i.replies i r told)
          ∙ append_assoc (take i c.loop-i.replies) (r ∷ []) (answers s rest)
          ∙ ap (λ l. take i c.loop-i.replies ++ l) (sym replies_here)
          ∙ c.loop-i.invariant.told;
      rest = ap (λ (t : State). end_of t rest) step.state ∙ ap (end_of v.state) (sym here) ∙ c.loop-i.invariant.rest;
      still = grind (arith, and_parts, not-true, c.loop-i.invariant.refused, c.loop-i.invariant.still);
      along = λ w more. c.loop-i.invariant.along w
          (subst (λ (es : List Event). EndsInOrder es v w) (sym here) (c.step.new.self, carried, more));
      refused = grind (arith, and_parts, c.loop-i.invariant.refused);
    }

pub returns-clause-ends : goal.returns-clause-ends
returns-clause-ends c = grind (arith, drop_all, c.loop-i.invariant.along)

pub returns-clause-replies : goal.returns-clause-replies
returns-clause-replies c = grind (arith, drop_all, take_all, append-nil, c.loop-i.invariant.told)

pub returns-clause-isolated : goal.returns-clause-isolated
returns-clause-isolated c =
    subst (λ (replies : List Reply). IsIsolated c.args.self.now.state c.args.events.now replies)
    (sym (returns-clause-replies c))
    (runs_isolated c.args.self.now.state c.args.events.now c.stands.ensures.well_formed)
