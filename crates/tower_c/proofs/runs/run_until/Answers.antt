use Rattle.std.proofs.Common.{◌≡◌, ◌+◌, ◌∙◌, List, length, ap, sym, subst, arith, take, drop, true, false}
use Rattle.std.specs.Prelude.{slice_set, slice_index_or}
use Rattle.std.proofs.lemmas.Bool.{not-false, not-true}
use Rattle.process_table.specs.State.{State}
use Rattle.tower_c.specs.Border.{EndInOrder, event_in, state_after, is_carried_out}
use Rattle.tower_c.specs.declared.numbers.TowerEvent.{TowerEvent}
use Rattle.tower_c.specs.declared.numbers.TowerReply.{TowerReply}
use Rattle.tower_c.proofs.RunLemmas.{SoFar, begins, take_one, ends_on, on, stops, all_carried}
use Rattle.tower_c.proofs.runs.run_until.Goals as goal

abbrev none : TowerEvent
none = record { cpu = 0; pid = 0; call = 0; flag = 0; first = 0; second = 0; third = 0 }

pub loop-i-preserved : goal.loop-i-preserved
loop-i-preserved c =
    let s = c.args.core.now.state in
    let t = c.loop-i.core.state in
    let events = c.args.events.now in
    let old = c.args.replies.now in
    let replies = c.loop-i.replies in
    let i = c.loop-i.i in
    let e : TowerEvent = slice_index_or events i none in
    let told = c.step_with_outcome-told.ensures in
    let goes : is_carried_out t (event_in e) ≡ true = sym told.done ∙ not-false _ c.if-not-told.false in
    record {
      so_far = subst (λ (x : State). SoFar s x events old (slice_set replies i c.step_with_outcome-told.result.0) (i + 1)) (sym told.state)
          (subst (λ (r : TowerReply). SoFar s (state_after t (event_in e)) events old (slice_set replies i r) (i + 1)) (sym told.reply)
          (on s t events old replies i e (drop (i + 1) events) c.loop-i.invariant.so_far (begins events i none c.loop-i-test.true) (c.requires ∙ sym c.loop-i.auto.replies) goes));
      along = subst (λ (es : List TowerEvent). EndInOrder es c.args.core.now c.step_with_outcome-told.new.core)
          (sym (take_one events i e (drop (i + 1) events) (begins events i none c.loop-i-test.true)).0)
          (ends_on (take i events) c.args.core.now c.loop-i.core c.step_with_outcome-told.new.core e c.loop-i.invariant.along told.stands told.state told.ends);
      still = λ nothing. absurd (omega (arith, nothing));
    }

pub returns-then-not-told-clause-replies : goal.returns-then-not-told-clause-replies
returns-then-not-told-clause-replies c =
    let t = c.loop-i.core.state in
    let events = c.args.events.now in
    let i = c.loop-i.i in
    let e : TowerEvent = slice_index_or events i none in
    let told = c.step_with_outcome-told.ensures in
    let fails : is_carried_out t (event_in e) ≡ false = sym told.done ∙ not-true _ c.if-not-told.true in
    ap (λ (r : TowerReply). slice_set c.loop-i.replies i r) told.reply
    ∙ (stops c.args.core.now.state t events c.args.replies.now c.loop-i.replies i e (drop (i + 1) events) c.loop-i.invariant.so_far (begins events i none c.loop-i-test.true)
    (c.requires ∙ sym c.loop-i.auto.replies) fails).replies

pub returns-clause-replies : goal.returns-clause-replies
returns-clause-replies c =
    let most = c.loop-i.auto.i-end in
    let ended = c.loop-i-test.false in
    (all_carried c.args.core.now.state c.loop-i.core.state c.args.events.now c.args.replies.now c.loop-i.replies c.loop-i.i c.loop-i.invariant.so_far (omega (arith, most, ended))
    (c.requires ∙ sym c.loop-i.auto.replies) c.loop-i.auto.replies).replies

pub returns-then-not-told-clause-ends : goal.returns-then-not-told-clause-ends
returns-then-not-told-clause-ends c =
    let t = c.loop-i.core.state in
    let events = c.args.events.now in
    let i = c.loop-i.i in
    let e : TowerEvent = slice_index_or events i none in
    let told = c.step_with_outcome-told.ensures in
    let fails : is_carried_out t (event_in e) ≡ false = sym told.done ∙ not-true _ c.if-not-told.true in
    let ended = stops c.args.core.now.state t events c.args.replies.now c.loop-i.replies i e (drop (i + 1) events) c.loop-i.invariant.so_far
    (begins events i none c.loop-i-test.true) (c.requires ∙ sym c.loop-i.auto.replies) fails in
    subst (λ (es : List TowerEvent). EndInOrder es c.args.core.now c.step_with_outcome-told.new.core) (sym ended.carried)
    (subst (EndInOrder (take i events) c.args.core.now) (sym (told.refused fails)) c.loop-i.invariant.along)

pub returns-clause-ends : goal.returns-clause-ends
returns-clause-ends c =
    let most = c.loop-i.auto.i-end in
    let past = c.loop-i-test.false in
    let events = c.args.events.now in
    let is : c.loop-i.i ≡ length events = omega (arith, most, past) in
    let ended = all_carried c.args.core.now.state c.loop-i.core.state events c.args.replies.now c.loop-i.replies c.loop-i.i c.loop-i.invariant.so_far is
    (c.requires ∙ sym c.loop-i.auto.replies) c.loop-i.auto.replies in
    subst (λ (es : List TowerEvent). EndInOrder es c.args.core.now c.loop-i.core)
    (ap (λ n. take n events) is ∙ sym ended.carried) c.loop-i.invariant.along
