use Rattle.std.proofs.Common.{◌≡◌, ◌<◌, refl, ap, ◌∙◌, arith}
use Rattle.std.specs.Prelude.{slice_set}
use Rattle.std.proofs.lemmas.List.{get_or_default}
use Rattle.shadow_tables.specs.Holdings.{last_of, before, frame_count}
use Rattle.shadow_tables.proofs.HoldingLemmas.{takes, last_inside, room}
use Rattle.shadow_tables.proofs.holdings.Holdings.take.Goals as goal

pub index-requires : goal.index-requires
index-requires c = omega (arith, last_inside c.args.self.now c.requires.held c.if-count-eq0.false, c.args.self.now.next.ok)

pub index_mut-requires : goal.index_mut-requires
index_mut-requires c = omega (arith, last_inside c.args.self.now c.requires.held c.if-count-eq0.false, c.args.self.now.next.ok)

pub overflow_add-self : goal.overflow_add-self
overflow_add-self c = omega (arith, room c.args.self.now c.args.owner c.requires.process c.requires.held c.if-count-eq0.false)

pub returns-clause-taken : goal.returns-clause-taken
returns-clause-taken c =
    let h = c.args.self.now in
    let frame = last_of h 64 in
    let inside : frame < frame_count h = last_inside h c.requires.held c.if-count-eq0.false in
    let next : c.index.result.now ≡ before h frame = c.index.ensures ∙ get_or_default h.next.items frame c.index.result.now 0 inside in
    takes h _ c.args.owner frame c.requires.held (record {
      process = c.requires.process;
      some = c.if-count-eq0.false;
      frame_is = refl;
      next = refl;
      heads = ap (λ x. slice_set (slice_set h.heads 64 x) c.args.owner frame) next;
      counts = refl;
    })
