-- What a core is made of, by the records of an image's processes.
use Rattle.std.specs.Prelude.{ℕ, List, Option}
use Rattle.std.specs.Option.{option_map}
use Rattle.quota_tree.specs.declared.accounts.Account.{Account}
use Rattle.memory_image.specs.declared.processes.Process.{Process}
use Rattle.memory_image.specs.Image.{Image}
use Rattle.alloc_table.specs.declared.Role.{Role}

-- the account of a process's record
abbrev pub as_account : Process → Account
as_account r = record { parent = r.parent; quota = r.quota; used = r.used; given = r.given }

-- what a record says of a process, apart from its directory
abbrev pub account_from : Option Process → Option Account
account_from process = option_map as_account process

-- the image with the words of version 2 that has these records, roles and bytes
abbrev pub image_with : List (Option Process) → List Role → List ℕ → Image
image_with processes roles bytes = record { version = 2; processes = processes; roles = roles; bytes = bytes }
