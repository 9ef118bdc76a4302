use Rattle.kernel_acts.proofs.Prelude.{rules, ◌≢◌, ℕ, ◌+◌, ◌<◌, length, slice_set, refl, sym, subst, ◌∙◌, arith, eqb-false, some_value, itself, eqb-true}
use Rattle.kernel_acts.proofs.FamilyEnds.{ending_none, descends_then, descends_live, descends_not_root}
use Rattle.kernel_acts.proofs.FamilySteps.{Going, Leaves, going_room, going_on, going_out, going_down}
use Rattle.kernel_acts.proofs.Lists.{set_rest}
use Rattle.kernel_acts.proofs.Members.{few_live}
use Rattle.page_words.specs.FiniteMap as map
use Rattle.kernel_acts.proofs.acts.end_members.Goals as goal

pub leaves-init : goal.leaves-init
leaves-init c =
    let few = few_live c.args.core.now.state c.stands.ensures.well_formed in
    record {
      going = record {
        ending = ending_none c.args.core.now.state c.args.pid c.requires.live;
        here = itself;
        along = refl;
        room = omega (arith, few);
      };
      rest = refl;
    }

pub parent_of-parent-requires : goal.parent_of-parent-requires
parent_of-parent-requires c =
    descends_live c.leaves.invariant.going.ending.live (descends_then c.leaves.invariant.going.here c.leaf_below-leaf.ensures.below)

pub exit_leaf-requires-clause-live : goal.exit_leaf-requires-clause-live
exit_leaf-requires-clause-live c =
    descends_live c.leaves.invariant.going.ending.live (descends_then c.leaves.invariant.going.here c.leaf_below-leaf.ensures.below)

pub exit_leaf-requires-clause-not_root : goal.exit_leaf-requires-clause-not_root
exit_leaf-requires-clause-not_root c =
    descends_not_root c.requires.not_root (descends_then c.leaves.invariant.going.here c.leaf_below-leaf.ensures.below)

pub returns-then-eq : goal.returns-then-eq
returns-then-eq c =
    let w = c.leaves.core in
    let g = c.leaves.invariant.going in
    let few : c.leaves.count < 64 = going_room c.args.core.now w c.args.pid c.leaves.at c.leaves.count c.leaves.exited g in
    let within : c.leaves.count < length c.leaves.exited = search rules in
    let l : Leaves w c.exit_leaf.new.core c.leaves.at c.leaf_below-leaf.result = record {
      below = c.leaf_below-leaf.ensures.below;
      childless = c.leaf_below-leaf.ensures.childless;
      done = c.exit_leaf.ensures.done;
      state = c.exit_leaf.ensures.state;
      ended = c.exit_leaf.ensures.ended;
      carried = c.exit_leaf.ensures.carried;
    } in
    let out = going_out c.args.core.now w c.exit_leaf.new.core c.args.pid c.leaves.at c.leaves.count c.leaf_below-leaf.result c.leaves.exited c.requires.not_root
    c.stands.ensures.well_formed c.stands-in-leaves.ensures.well_formed g l within
    (eqb-true c.leaf_below-leaf.result c.args.pid (sym c.eq.ensures ∙ c.if-eq.true)) in
    record {
      family = out.0;
      ended = out.1;
      few = omega (arith, few);
      rest = set_rest c.leaves.exited c.args.exited.now c.leaves.count c.leaf_below-leaf.result c.leaves.invariant.rest;
    }

pub leaves-smaller : goal.leaves-smaller
leaves-smaller c =
    let g = c.leaves.invariant.going in
    going_down c.leaves.core c.exit_leaf.new.core c.args.pid c.leaf_below-leaf.result
    (descends_live g.ending.live (descends_then g.here c.leaf_below-leaf.ensures.below)) c.exit_leaf.ensures.state c.exit_leaf.ensures.done

pub leaves-preserved : goal.leaves-preserved
leaves-preserved c =
    let v = c.args.core.now in
    let w = c.leaves.core in
    let u = c.exit_leaf.new.core in
    let leaf : ℕ = c.leaf_below-leaf.result in
    let g = c.leaves.invariant.going in
    let few : c.leaves.count < 64 = going_room c.args.core.now w c.args.pid c.leaves.at c.leaves.count c.leaves.exited g in
    let within : c.leaves.count < length c.leaves.exited = search rules in
    let l : Leaves w u c.leaves.at leaf = record {
      below = c.leaf_below-leaf.ensures.below;
      childless = c.leaf_below-leaf.ensures.childless;
      done = c.exit_leaf.ensures.done;
      state = c.exit_leaf.ensures.state;
      ended = c.exit_leaf.ensures.ended;
      carried = c.exit_leaf.ensures.carried;
    } in
    let m = some_value (map.get w.state.book leaf) (descends_live g.ending.live (descends_then g.here c.leaf_below-leaf.ensures.below)) in
    let apart : leaf ≢ c.args.pid = eqb-false leaf c.args.pid (sym c.eq.ensures ∙ c.if-eq.false) in
    record {
      rest = set_rest c.leaves.exited c.args.exited.now c.leaves.count leaf c.leaves.invariant.rest;
      going = subst (λ (n : ℕ). Going v u c.args.pid n (c.leaves.count + 1) (slice_set c.leaves.exited c.leaves.count leaf)) (sym (c.parent_of-parent.ensures m.0 m.1))
          (going_on v w u c.args.pid c.leaves.at c.leaves.count leaf c.leaves.exited c.requires.not_root c.stands.ensures.well_formed c.stands-in-leaves.ensures.well_formed g l within apart m.0 m.1);
    }
