-- What a machine shows outside, when that is sound, and which state it represents.
use Rattle.std.specs.Prelude.{◌≡◌, ℕ, ◌+◌, ◌≤◌, ◌&&◌, ◌==◌, not, true, if◌then◌else◌, IsTrue, length, Option, Some, None, is_some, sum_by, option_map}
use Rattle.std.specs.List.{range_with_len}
use Rattle.process_table.specs.Below.{nat_order, directory_at, table_at, page_word, IsCount, Member, given, cost, at_page}
use Rattle.process_table.specs.State.{State}
use Rattle.process_table.specs.View.{View}
use Rattle.page_words.specs.FiniteMap as map
use Rattle.address_space.specs.Image as memory

-- what an image has of a live process
pub record Account : Type 0 where
  pub parent : ℕ
  pub quota : ℕ
  pub used : ℕ
  pub given : ℕ

-- what a machine shows outside: memory and accounts
pub record Image : Type 0 where
  -- directories, bytes and roles
  pub memory : memory.Image
  -- the account of each process, where it is live
  pub accounts : ℕ → Option Account

-- memory as it stands
abbrev pub memory_of : View → memory.Image
memory_of v = memory.image_from v.directories v.bytes v.roles

-- the account of a process with this entry in the book
abbrev pub as_account : State → ℕ → Member → Account
as_account s p member = record { parent = member.parent; quota = member.quota; used = cost s.spaces p; given = given s.book p }

-- the account of a process, where it is live
abbrev pub account_of : State → ℕ → Option Account
account_of s p = option_map (as_account s p) (map.get s.book p)

-- memory as it stands, and the account of each process
abbrev pub image_of : View → Image
image_of v = record { memory = memory_of v; accounts = account_of v.state }

-- a directory, the tables that it names and the pages that those name
pub record IsCharge (image : memory.Image) (p used : ℕ) : Type 0 where
  pub tables : ℕ
  pub pages : ℕ
  pub named : IsCount nat_order tables (λ s. IsTrue (is_some (table_at image p s)))
  pub mapped : IsCount nat_order pages (λ page. IsTrue (is_some (page_word image (at_page p page))))
  pub sum : used ≡ 1 + tables + pages

-- what a process has of p's quota: its own where it is a child of p
abbrev pub quota_from : ℕ → ℕ → Option Account → ℕ
quota_from p q None = 0
quota_from p q (Some c) = if not (q == 0) && (c.parent == p) then c.quota else 0

-- memory is sound, and the accounts agree with it and with each other
pub record IsSoundImage (image : Image) : Type 0 where
  pub memory : memory.IsSoundImage image.memory
  -- process 0 is live, and has all frames but frame 0 as its quota
  pub root : (c : Account) × (image.accounts 0 ≡ Some c) × (1 + c.quota ≡ length image.memory.roles)
  pub live : (p : ℕ) → is_some (image.accounts p) ≡ is_some (directory_at image.memory p)
  pub parents : (p : ℕ) (c : Account) → image.accounts p ≡ Some c → is_some (image.accounts c.parent) ≡ true
  pub given : (p : ℕ) (c : Account) → image.accounts p ≡ Some c → c.given ≡ sum_by (λ q. quota_from p q (image.accounts q)) (range_with_len 0 64)
  pub within : (p : ℕ) (c : Account) → image.accounts p ≡ Some c → c.used + c.given ≤ c.quota
  pub used : (p : ℕ) (c : Account) → image.accounts p ≡ Some c → IsCharge image.memory p c.used

-- the image is sound, memory represents the spaces, and the accounts are the state's
pub record StandsFor (image : Image) (s : State) : Type 0 where
  pub sound : IsSoundImage image
  pub memory : memory.StandsFor image.memory s.spaces
  pub accounts : (p : ℕ) → image.accounts p ≡ account_of s p

-- an image represents at most one pair of spaces and book
abbrev pub StandsForOne : Type 0
StandsForOne = (image : Image) (s t : State) → StandsFor image s → StandsFor image t → (s.spaces ≡ t.spaces) × (s.book ≡ t.book)
