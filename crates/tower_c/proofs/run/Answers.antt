use Rattle.std.proofs.Common.{rules, ◌≡◌, ◌+◌, ◌<◌, ◌≤◌, ◌++◌, ℕ, not, ◌&&◌, List, [], ◌∷◌, length, take, drop, ap, sym, ◌∙◌, subst, append_assoc}
use Rattle.std.proofs.lemmas.Bool.{and_parts, not-true}
use Rattle.std.proofs.lemmas.List.{take_more_set, take_all}
use Rattle.std.specs.Prelude.{slice_index_or}
use Rattle.process_table.specs.State.{State}
use Rattle.tower_c.specs.Border.{EndInOrder, event_in, is_carried_out, none_is_carried_out, replies_in, end_after}
use Rattle.tower_c.specs.declared.numbers.TowerEvent.{TowerEvent}
use Rattle.tower_c.specs.declared.numbers.TowerReply.{TowerReply}
use Rattle.tower_c.proofs.RunLemmas.{begins, take_one, ends_on}
use Rattle.tower_c.proofs.run.Goals as goal

abbrev none : TowerEvent
none = record { cpu = 0; pid = 0; call = 0; flag = 0; first = 0; second = 0; third = 0 }

pub loop-i-preserved : goal.loop-i-preserved
loop-i-preserved c =
    let i : ℕ = c.loop-i.i in
    let events : List TowerEvent = c.args.events.now in
    let e : TowerEvent = slice_index_or events i none in
    let step = c.step.ensures in
    let r : TowerReply = c.step.result in
    let s : State = c.loop-i.core.state in
    let t : State = c.step.new.core.state in
    let rest : List TowerEvent = drop (i + 1) events in
    let here : drop i events ≡ e ∷ rest = begins events i none c.loop-i-test.true in
    let told : i < length c.loop-i.replies = search rules in
    let replies_here : replies_in s (drop i events) ≡ r ∷ replies_in t rest =
    ap (replies_in s) here ∙ (λ j. sym step.reply j ∷ replies_in (sym step.state j) rest) in
    let nothing_here : none_is_carried_out s (drop i events) ≡ (not (is_carried_out s (event_in e)) && none_is_carried_out t rest) =
    ap (none_is_carried_out s) here ∙ (λ j. not (is_carried_out s (event_in e)) && none_is_carried_out (sym step.state j) rest) in
    record {
      told = ap (λ l. l ++ replies_in t rest) (take_more_set c.loop-i.replies i r told)
          ∙ append_assoc (take i c.loop-i.replies) (r ∷ []) (replies_in t rest)
          ∙ ap (λ l. take i c.loop-i.replies ++ l) (sym replies_here)
          ∙ c.loop-i.invariant.told;
      rest = ap (λ (x : State). end_after x rest) step.state ∙ ap (end_after s) (sym here) ∙ c.loop-i.invariant.rest;
      still = λ nothing.
          let parts = and_parts (not (is_carried_out s (event_in e))) (none_is_carried_out t rest)
          (sym nothing_here ∙ c.loop-i.invariant.refused nothing) in
          step.refused (not-true (is_carried_out s (event_in e)) parts.0) ∙ c.loop-i.invariant.still nothing;
      along = subst (λ (es : List TowerEvent). EndInOrder es c.args.core.now c.step.new.core) (sym (take_one events i e rest here).0)
          (ends_on (take i events) c.args.core.now c.loop-i.core c.step.new.core e c.loop-i.invariant.along step.stands step.state step.ends);
      refused = λ nothing.
          (and_parts (not (is_carried_out s (event_in e))) (none_is_carried_out t rest)
          (sym nothing_here ∙ c.loop-i.invariant.refused nothing)).1;
    }

pub returns-clause-ends : goal.returns-clause-ends
returns-clause-ends c =
    let past : length c.args.events.now ≤ c.loop-i.i = search rules in
    subst (λ (es : List TowerEvent). EndInOrder es c.args.core.now c.loop-i.core) (take_all c.loop-i.i c.args.events.now past)
    c.loop-i.invariant.along
