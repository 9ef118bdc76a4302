-- What the processes are seen as: the machine's state, and what memory itself holds of it.
use Rattle.std.specs.Prelude.{◌≡◌, ℕ, ◌+◌, List, Option, refl, length, is_some}
use Rattle.std.specs.Coded.{Coded, code_by, coded×, coded_list, coded_ℕ, coded_option}
use Rattle.process_table.specs.Below.{Role, Spaces, cost, spaces_code, role_code, directory_of, Book, book_code, quota_of, Containers, IsLive, used_of, Offers, offers_code}
use Rattle.process_table.specs.State.{State}
use Rattle.process_table.specs.WellFormed.{IsWellFormed}
use Rattle.page_words.specs.FiniteMap as map
use Rattle.address_space.specs.View as frames

-- a process table's model: the state, and the memory that represents it
pub record View : Type 0 where
  pub state : State
  -- each process's directory, where it has one
  pub directories : List (Option ℕ)
  -- 4,096 bytes for each frame
  pub bytes : List ℕ
  -- one for each frame
  pub roles : List Role

-- the state of spaces, containers and offers
abbrev pub state_of : frames.View → Containers → Offers → State
state_of spaces quotas offers = record { spaces = spaces.spaces; book = quotas.book; offers = offers }

-- the model of spaces, containers and offers
abbrev pub view_of : frames.View → Containers → Offers → View
view_of spaces quotas offers = record { state = state_of spaces quotas offers; directories = spaces.directories; bytes = spaces.bytes; roles = spaces.roles }

-- the live processes are those with a directory, each is charged what it costs, and the root's quota is
-- all frames but frame 0
pub record IsProcesses (spaces : frames.View) (quotas : Containers) : Type 0 where
  pub live : (p : ℕ) → is_some (directory_of spaces.directories p) ≡ map.contains_key quotas.book p
  pub charged : (p : ℕ) → IsLive quotas p → used_of quotas p ≡ cost spaces.spaces p
  pub root : 1 + quota_of quotas.book 0 ≡ length spaces.roles

-- the parts agree, and the state that they make is well formed
pub record IsWhole (spaces : frames.View) (quotas : Containers) (offers : Offers) : Type 0 where
  pub kept : IsProcesses spaces quotas
  pub well_formed : IsWellFormed (state_of spaces quotas offers)

-- ---- Codes

-- the code of states
abbrev pub state_code : Coded State
state_code =
    code_by (Spaces × (Book × Offers)) (coded× spaces_code (coded× book_code offers_code))
    (λ s. (s.spaces, (s.book, s.offers))) (λ p. record { spaces = p.0; book = p.1.0; offers = p.1.1 }) (λ _. refl)

-- the code of the model
abbrev pub view_code : Coded View
view_code =
    code_by (State × (List (Option ℕ) × (List ℕ × List Role)))
    (coded× state_code (coded× (coded_list (coded_option coded_ℕ)) (coded× (coded_list coded_ℕ) (coded_list role_code))))
    (λ k. (k.state, (k.directories, (k.bytes, k.roles))))
    (λ p. record { state = p.0; directories = p.1.0; bytes = p.1.1.0; roles = p.1.1.1 })
    (λ _. refl)
