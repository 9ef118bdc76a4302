-- The containers as two finite maps, and what each call answers and leaves.
use Rattle.std.proofs.Common.{◌≡◌, ℕ, ◌+◌, ◌-◌, ◌==◌, if◌then◌else◌, nat_lt, true, Option, Some, None, Result, Ok, Err, unwrap_or, sum_by, refl}
use Rattle.std.specs.Option.{option_map}
use Rattle.std.specs.Coded.{Coded, code_by, coded×, coded_ℕ}
use Rattle.page_words.specs.FiniteMap as map
use Rattle.page_words.specs.FiniteMap.{Map, nat_order}
use Rattle.page_words.specs.Codes.{map_code}
use Rattle.page_words.specs.declared.addresses.Pid.{Pid}
use Rattle.quota_tree.specs.declared.Container.{Container}
use Rattle.quota_tree.specs.declared.QuotaFault.{QuotaFault}
use Rattle.quota_tree.specs.declared.QuotaFault.TheVariants.{BadQuota, TableFull, NoRoom}
use Rattle.quota_tree.specs.Book.{Member, Book, book_code, given, number_of_children, quota_of, next_number}

-- the containers' model: the book, and the charges
pub record Containers : Type 0 where
  pub book : Book
  -- how many frames each live process is charged for
  pub used : Map nat_order ℕ

-- the code of the model
abbrev pub containers_code : Coded Containers
containers_code = code_by (Book × Map nat_order ℕ) (coded× book_code (map_code coded_ℕ coded_ℕ)) (λ c. (c.book, c.used)) (λ p. record { book = p.0; used = p.1 }) (λ _. refl)

-- process p is live
abbrev pub IsLive : Containers → ℕ → Type 0
IsLive c p = map.contains_key c.book p ≡ true

-- the charge of process p, 0 if it isn't live
abbrev pub used_of : Containers → ℕ → ℕ
used_of c p = unwrap_or (map.get c.used p) 0

-- a container that gives nothing, and uses one frame
abbrev pub opened_container : ℕ → ℕ → Container
opened_container parent quota = record { parent = parent; quota = quota; used = 1; given = 0; children = 0 }

-- a container that uses that many frames
abbrev pub charged_with : Container → ℕ → Container
charged_with c frames = record c { used = frames }

-- a parent's container, with one child more of that quota, or less
abbrev pub giver_after_split : Container → ℕ → Container
giver_after_split g quota = record g { given = g.given + quota; children = g.children + 1 }

-- a parent's container after the exit of a child with this quota
abbrev pub giver_after_close : Container → ℕ → Container
giver_after_close g quota = record g { given = g.given - quota; children = g.children - 1 }

-- what a process may still use or give
abbrev pub room_of : Containers → ℕ → ℕ
room_of c p = quota_of c.book p - used_of c p - given c.book p

-- what all live processes use together
abbrev pub total_used : Containers → ℕ
total_used c = sum_by (λ entry. used_of c entry.0) c.book.entries

-- process 0 alone, which uses one frame and is its own parent
abbrev pub opening : ℕ → Containers
opening quota = record {
  book = map.insert map.empty 0 (record { parent = 0; quota = quota });
  used = map.insert map.empty 0 1;
}

-- the child's number, unless the quota is more than the parent's room
abbrev pub fitting : Containers → ℕ → ℕ → Option ℕ → Result Pid QuotaFault
fitting c parent quota None = Err TableFull
fitting c parent quota (Some child) = if nat_lt (room_of c parent) quota then Err NoRoom else Ok child

-- the child's number, or the first reason against a child of that quota
abbrev pub split_answer : Containers → ℕ → ℕ → Result Pid QuotaFault
split_answer c parent quota = if quota == 0 then Err BadQuota else fitting c parent quota (next_number c.book)

-- with a child of that quota, which uses one frame
abbrev pub after_split : Containers → ℕ → ℕ → ℕ → Containers
after_split c parent quota child = record {
  book = map.insert c.book child (record { parent = parent; quota = quota });
  used = map.insert c.used child 1;
}

-- where a process uses that much
abbrev pub with_used : Containers → ℕ → ℕ → Containers
with_used c p used = record { book = c.book; used = map.insert c.used p used }

-- where a process is gone
abbrev pub after_close : Containers → ℕ → Containers
after_close c p = record { book = map.remove c.book p; used = map.remove c.used p }

-- the container of process p
abbrev pub as_container : Containers → ℕ → Member → Container
as_container c p member = record {
  parent = member.parent;
  quota = member.quota;
  used = used_of c p;
  given = given c.book p;
  children = number_of_children c.book p;
}

-- all that is known of a process, where it is live
abbrev pub container_of : Containers → ℕ → Option Container
container_of c p = option_map (λ member. as_container c p member) (map.get c.book p)
