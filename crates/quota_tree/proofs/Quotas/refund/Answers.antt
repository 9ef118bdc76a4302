use Rattle.quota_tree.proofs.Prelude
use Prelude.{◌-◌, refl, sym, ap, ◌∙◌, arith, used_of, charged_with}
use Rattle.quota_tree.proofs.Views.{is_some-live, used_of-container, within_places}
use Rattle.quota_tree.proofs.Writes.{quotas-charged, seen_as-charged}
use Rattle.page_words.specs.FiniteMap as map
use Rattle.quota_tree.proofs.Quotas.refund.Goals as goal

pub live-requires : goal.live-requires
live-requires c = is_some-live c.self.inside.containers c.args.pid (ap (λ view. map.contains_key view.book c.args.pid) c.self.view_is ∙ c.requires.live)

pub overflow_sub-used : goal.overflow_sub-used
overflow_sub-used c = grind (arith, used_of-container, c.live.ensures.container, c.requires.used)

pub invariant_of-self : goal.invariant_of-self
invariant_of-self c =
    let at = c.live.ensures.container in
    let used = sym (used_of-container c.self.inside.containers c.args.pid c.live.result at) ∙ ap (λ view. used_of view c.args.pid) c.self.view_is in
    let old = c.self.invariant.each c.args.pid c.live.result at in
    let within = old.within in
    rw (c.set_used.ensures c.live.result at) (quotas-charged c.self.inside.containers c.self.invariant c.args.pid (within_places c.self.inside.containers c.self.invariant c.args.pid c.live.result at)
    c.live.result (charged_with c.live.result (c.live.result.used - c.args.frames)) at refl
    (record {
      parent = old.parent;
      given = old.given;
      children = old.children;
      used = omega (arith, used, c.requires.used);
      within = omega (arith, within);
    }))

pub returns : goal.returns
returns c = grind (arith, used_of-container, seen_as-charged, within_places, (c.set_used.ensures c.live.result c.live.ensures.container))
