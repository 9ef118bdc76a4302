-- The invariant of containers: how each is seen, and that what it says of its children is so.
use Rattle.std.specs.Prelude.{◌≡◌, ℕ, ◌+◌, ◌≤◌, true, List, Option, Some, None, slice_index_or, length}
use Rattle.page_words.specs.FiniteMap as map
use Rattle.quota_tree.specs.declared.Container.{Container}
use Rattle.quota_tree.specs.Book.{Member, Book, given, number_of_children}
use Rattle.quota_tree.specs.Collected.{collected}
use Rattle.quota_tree.specs.Containers.{Containers}

-- the member of a container
abbrev pub member_of : Container → Member
member_of c = record { parent = c.parent; quota = c.quota }

-- the model of a list of containers
abbrev pub seen_as : List (Option Container) → Containers
seen_as containers = record { book = collected member_of containers; used = collected (λ c. c.used) containers }

-- what a container says of its children is what the book says, and it doesn't use and give too much
pub record IsBooked (book : Book) (p : ℕ) (c : Container) : Type 0 where
  pub parent : map.contains_key book c.parent ≡ true
  pub given : c.given ≡ given book p
  pub children : c.children ≡ number_of_children book p
  pub used : 1 ≤ c.used
  pub within : c.used + c.given ≤ c.quota

-- process 0 is there, and is its own parent
pub record HasRoot (book : Book) : Type 0 where
  pub quota : ℕ
  pub is : map.get book 0 ≡ Some (record { parent = 0; quota = quota })

-- containers that agree with one another
pub record IsQuotas (containers : List (Option Container)) : Type 0 where
  pub places : length containers ≡ 64
  pub root : HasRoot (collected member_of containers)
  pub each : (p : ℕ) (c : Container) → slice_index_or containers p None ≡ Some c → IsBooked (collected member_of containers) p c
