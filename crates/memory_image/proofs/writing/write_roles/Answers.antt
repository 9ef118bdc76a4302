use Rattle.std.proofs.Common.{rules, arith}
use Rattle.std.specs.List.{flat_map}
use Rattle.text_output.specs.Output.{AppendsFront}
use Rattle.memory_image.specs.Spelling.{role_bytes}
use Rattle.text_output.proofs.OutputLemmas.{wrote_next, cut_next}
use Rattle.memory_image.proofs.writing.write_roles.Goals as goal

pub loop-place-preserved : goal.loop-place-preserved
loop-place-preserved g c = wrote_next role_bytes c.args.roles.now _ _ _ c.loop-place.place c.index-roles-place.result (omega arith) c.index-roles-place.is c.loop-place.invariant c.in_ok-write_role.ensures.ok

pub returns-in_err-write_role-clause-err : goal.returns-in_err-write_role-clause-err
returns-in_err-write_role-clause-err g c =
    let front : AppendsFront (g.W.Write.contents c.args.writer.now) (g.W.Write.contents c.write_role.new.writer) (flat_map role_bytes c.args.roles.now) =
    cut_next role_bytes c.args.roles.now _ _ _ c.loop-place.place c.index-roles-place.result (omega arith) c.index-roles-place.is c.loop-place.invariant c.in_err-write_role.ensures.err in
    search rules
