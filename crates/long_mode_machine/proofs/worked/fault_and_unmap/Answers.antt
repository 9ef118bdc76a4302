use Rattle.std.proofs.Common.{rules, ◌≡◌, ℕ, false, Some, ap, subst, ◌∙◌}
use Rattle.table_walk.specs.declared.Access.TheVariants.{Write}
use Rattle.kernel_acts.specs.Touched.{touch_of}
use Rattle.kernel_calls.specs.Machine.{answer}
use Rattle.kernel_calls.specs.Translations.{ended_by, is_all_of}
use Rattle.kernel_calls.specs.declared.calls.Event.{Event}
use Rattle.kernel_calls.specs.declared.calls.Call.TheVariants as call
use Rattle.kernel_calls.specs.declared.translations.Ended.{Ended}
use Rattle.shadow_tables.specs.Shadow.{root_frame}
use Rattle.shadow_core.specs.Paired.{handled_of, lacks_frames}
use Rattle.shadow_core.specs.declared.pairs.Handled.TheVariants.{Filled}
use Rattle.shootdowns.specs.Windows.{Begins}
use Rattle.long_mode_machine.specs.LongMode.{IsLeft, HasForgotten}
use Rattle.long_mode_machine.specs.Moves.{FillsOne}
use Rattle.long_mode_machine.specs.WorkedRun.{touch_it, unmap_it}
use Rattle.long_mode_machine.proofs.WorkedMoves.{worked}
use Rattle.long_mode_machine.proofs.worked.fault_and_unmap.Goals as goal

pub returns : goal.returns
returns c =
    let root : c.unwrap-root.result ≡ 0 = search rules in
    let before = c.args.core.now in
    let between = c.fault_moves.new.core in
    let after = c.call_moves.new.core in
    let old = c.args.shadow.now in
    let full = c.fault_moves.new.shadow in
    let left = c.call_moves.new.shadow in
    let p = c.unwrap-root.result in
    let touch : touch_of before.state p 0x40000000 Write ≡ touch_it = λ i. touch_of (c.requires.opening i) (root i) 0x40000000 Write in
    let room : lacks_frames old p 0x40000000 ≡ false = ap (λ p. lacks_frames old p 0x40000000) root ∙ c.requires.room in
    let told = c.fault_moves.ensures in
    let filled : c.fault_moves.result.0 ≡ Filled = told.handled room ∙ (λ i. handled_of (answer (c.requires.opening i) (touch i))) in
    let ended : c.fault_moves.result.1 ≡ ended_by before touch_it = told.ended room ∙ ap (ended_by before) touch in
    let fills : FillsOne c.fault_moves.result.1 between old p 0x40000 full = told.filled filled in
    let here = told.served filled in
    let event : record { cpu = 0; pid = p; call = call.Unmap 0x40000 } ≡ unmap_it = λ i. record unmap_it { pid = root i } in
    let then = c.call_moves.ensures in
    let stale : c.call_moves.result.1 ≡ ended_by between unmap_it = then.ended ∙ ap (ended_by between) event in
    let reply : c.call_moves.result.0 ≡ answer between.state unmap_it = then.begins.carried.reply ∙ ap (answer between.state) event in
    worked before between after old full left (record {
      opening = c.requires.opening;
      core = c.stands.ensures.core;
      empty = c.requires.empty;
      tabled = record { walks = c.walks.ensures.walks; links = c.walks.ensures.links; pages = c.walks.ensures.pages; aligned = c.requires.aligned };
      touches = subst (λ (e : Event). Begins before e (answer before.state e) between) touch (told.begins room);
      fills = subst (λ (x : Ended). FillsOne x between old 0 0x40000 full) ended (subst (λ (p : ℕ). FillsOne c.fault_moves.result.1 between old p 0x40000 full) root fills);
      root = here.0;
      rooted = subst (λ (p : ℕ). root_frame full p ≡ Some here.0) root here.2;
      unmaps = subst (λ r. Begins between unmap_it r after) reply (subst (λ (e : Event). Begins between e c.call_moves.result.0 after) event then.begins);
      leaves = subst (λ (x : Ended). IsLeft full (is_all_of x) left) stale then.left;
      forgets = subst (λ (x : Ended). HasForgotten x left) stale then.forgotten;
    })
