-- Containers by the accounts of the live processes: what each gives and how many children it has follows.
use Rattle.std.specs.Prelude.{◌≡◌, ℕ, ◌+◌, ◌≤◌, true, List, Option, Some, None, slice_index_or, if◌then◌else◌}
use Rattle.std.specs.Option.{option_map}
use Rattle.page_words.specs.FiniteMap as map
use Rattle.quota_tree.specs.declared.accounts.Account.{Account}
use Rattle.quota_tree.specs.declared.Container.{Container}
use Rattle.quota_tree.specs.Book.{Member, Book, is_child, given, number_of_children}
use Rattle.quota_tree.specs.Collected.{collected}
use Rattle.quota_tree.specs.Containers.{Containers}
use Rattle.quota_tree.specs.Invariant.{HasRoot}

-- the member of an account
abbrev pub member_in : Account → Member
member_in a = record { parent = a.parent; quota = a.quota }

-- the book of these accounts
abbrev pub book_in : List (Option Account) → Book
book_in accounts = collected member_in accounts

-- the containers of accounts, by process
abbrev pub containers_in : List (Option Account) → Containers
containers_in accounts = record { book = book_in accounts; used = collected (λ a. a.used) accounts }

-- the account of a process, where it is live
abbrev pub account_at : List (Option Account) → ℕ → Option Account
account_at accounts p = slice_index_or accounts p None

-- 1 where the account of process k is that of a child of p, and else 0
abbrev pub counts_child : ℕ → ℕ → Option Account → ℕ
counts_child p k None = 0
counts_child p k (Some a) = if is_child p (k, member_in a) then 1 else 0

-- an account with so many children
abbrev pub as_container : ℕ → Account → Container
as_container children a = record { parent = a.parent; quota = a.quota; used = a.used; given = a.given; children = children }

-- the container of a process, where it is live
abbrev pub container_in : List (Option Account) → ℕ → Option Container
container_in accounts p = option_map (as_container (number_of_children (book_in accounts) p)) (account_at accounts p)

-- what an account says of its children is what the book says, and it doesn't use and give too much
pub record IsAccounted (book : Book) (p : ℕ) (a : Account) : Type 0 where
  pub parent : map.contains_key book a.parent ≡ true
  pub given : a.given ≡ given book p
  pub used : 1 ≤ a.used
  pub within : a.used + a.given ≤ a.quota

-- accounts that agree with one another; process 0 is there, and is its own parent
pub record Agree (accounts : List (Option Account)) : Type 0 where
  pub root : HasRoot (book_in accounts)
  pub each : (p : ℕ) (a : Account) → account_at accounts p ≡ Some a → IsAccounted (book_in accounts) p a
