-- An image by the fields that a machine is made of.
use Rattle.std.specs.Prelude.{◌≡◌, ℕ, List, Option, Some, option_map}
use Rattle.process_table.specs.Below.{Role, image_from, account_at}
use Rattle.process_table.specs.Image.{Account, Image}
use Rattle.quota_tree.specs.declared.accounts.Account as quota_tree

-- the account of an image's record
abbrev pub account_told : quota_tree.Account → Account
account_told a = record { parent = a.parent; quota = a.quota; used = a.used; given = a.given }

-- today's words, with these directories, accounts, bytes and roles
abbrev pub image_in : List (Option ℕ) → List (Option quota_tree.Account) → List ℕ → List Role → Image
image_in directories accounts bytes roles = record { memory = image_from directories bytes roles; accounts = λ p. option_map account_told (account_at accounts p) }

-- process 0, where it is live, is its own parent
abbrev pub RootIsItsParent : List (Option quota_tree.Account) → Type 0
RootIsItsParent accounts = (a : quota_tree.Account) → account_at accounts 0 ≡ Some a → a.parent ≡ 0
