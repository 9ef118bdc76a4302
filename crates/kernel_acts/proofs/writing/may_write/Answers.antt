use Rattle.kernel_acts.proofs.Prelude.{◌∙◌, ap, Some, Directory, Table}
use Rattle.kernel_acts.proofs.FrameWriters.{by_role}
use Rattle.kernel_acts.proofs.writing.may_write.Goals as goal

pub returns-in-Directory : goal.returns-in-Directory
returns-in-Directory c =
    by_role c.args.core.now c.args.event.now c.args.frame c.stands.ensures.image.sound.memory (Directory c.in-Directory.pid) (c.role.ensures ∙ ap Some c.in-Directory.is)
    c.may_write_directory.result c.may_write_directory.ensures

pub returns-in-Table : goal.returns-in-Table
returns-in-Table c =
    by_role c.args.core.now c.args.event.now c.args.frame c.stands.ensures.image.sound.memory (Table c.in-Table.pid c.in-Table.slot) (c.role.ensures ∙ ap Some c.in-Table.is)
    c.may_write_table.result c.may_write_table.ensures
