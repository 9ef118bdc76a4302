use Rattle.std.proofs.Common.{◌≡◌, ◌≤◌, length, ap, ◌∙◌, arith}
use Rattle.std.specs.Vec.{with_items}
use Rattle.std.proofs.lemmas.List.{with_items_is}
use Rattle.std.proofs.lemmas.List.FromFn.{length-map-range_with_len}
use Rattle.image_check.specs.Verdict.{process_clause}
use Rattle.memory_image.specs.Image.{frames}
use Rattle.image_check.proofs.verdicts.Verdict.of_counts.Goals as goal

pub invariant_of-result : goal.invariant_of-result
invariant_of-result c =
    let value = ap length c.deref_mut.ensures.value in
    let kept_long = c.judge_frames.ensures.length in
    let own = c.args.room.ok.0 in
    let asked = c.requires.room in
    let same : length c.judge_frames.new.clauses ≡ c.args.room.len = omega (arith, value, kept_long, own) in
    let few : frames c.args.image.now ≤ 1048576 = c.within.ensures.most in
    let long : length c.judge_frames.new.clauses ≡ frames c.args.image.now = omega (arith, value, kept_long, asked) in
    let kept : length (with_items c.args.room c.judge_frames.new.clauses).items ≡ length c.judge_frames.new.clauses = ap length (with_items_is c.args.room c.judge_frames.new.clauses same) in
    (ap length c.requires.processes ∙ length-map-range_with_len (process_clause c.args.image.now) 0 64, omega (arith, few, long, kept))
