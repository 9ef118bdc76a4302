use Rattle.std.proofs.Common.{◌++◌, ◌∙◌, arith}
use Rattle.memory_image.specs.Spelling.{number, role_bytes}
use Rattle.wide_image.proofs.WrittenWhole.{record_copied}
use Rattle.wide_image.proofs.machines.copy_frame_record.Goals as goal

pub returns-clause-record : goal.returns-clause-record
returns-clause-record c = λ _.
    c.copy_used.ensures.record
    ∙ (λ i. number (c.frame-2.view_is i) ++ (role_bytes c.role-2.result ++ c.part_of.ensures.is i))
    ∙ record_copied c.args.core.now c.args.frame c.role.result c.role-2.result c.role.ensures c.role-2.ensures (omega (arith, c.if-stored_for-eq0.false, c.stored_for.ensures.is))
