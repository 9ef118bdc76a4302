use Rattle.memory_image.specs.Restored.{image_with}
use Rattle.std.proofs.Common.{refl}
use Rattle.memory_image.proofs.RestoredLemmas.{made_sound, made_stands, made_shows}
use Rattle.memory_image.proofs.restoring.core_of.Goals as goal

pub of_image-requires-clause-sound : goal.of_image-requires-clause-sound
of_image-requires-clause-sound c =
    made_sound 1048576 (image_with c.args.processes.now c.args.roles.items c.args.bytes.items) c.requires.fields refl c.directories_of-directories.result c.accounts_of-accounts.result
    c.directories_of-directories.ensures.length c.accounts_of-accounts.ensures.length c.directories_of-directories.ensures.each c.accounts_of-accounts.ensures.each c.requires.sound

pub returns-in-Ok-clause-shows : goal.returns-in-Ok-clause-shows
returns-in-Ok-clause-shows c =
    made_shows 1048576 (image_with c.args.processes.now c.args.roles.items c.args.bytes.items) c.requires.fields refl c.directories_of-directories.result c.accounts_of-accounts.result
    c.directories_of-directories.ensures.length c.accounts_of-accounts.ensures.length c.directories_of-directories.ensures.each c.accounts_of-accounts.ensures.each
    c.in-Ok.core c.in-Ok.ensures.directories c.in-Ok.ensures.bytes c.in-Ok.ensures.roles c.in-Ok.ensures.stands

pub returns-in-Ok-clause-stands : goal.returns-in-Ok-clause-stands
returns-in-Ok-clause-stands c =
    made_stands 1048576 (image_with c.args.processes.now c.args.roles.items c.args.bytes.items) c.requires.fields refl c.directories_of-directories.result c.accounts_of-accounts.result
    c.directories_of-directories.ensures.length c.accounts_of-accounts.ensures.length c.directories_of-directories.ensures.each c.accounts_of-accounts.ensures.each
    c.in-Ok.core.state c.in-Ok.ensures.stands
