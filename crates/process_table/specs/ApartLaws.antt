-- Laws on processes apart: a process's replies and the effects of its calls depend on what it has alone, and the calls
-- of others leave it as it was.
use Rattle.std.specs.Prelude.{◌≡◌, ◌≢◌, ℕ, Bool, true, [], ◌∷◌, Option, None}
use Rattle.process_table.specs.Below.{touched, Size, given, cost, at_page, cell_or_fresh}
use Rattle.process_table.specs.State.{State, is_live, is_mapped, overdrawn, child_of}
use Rattle.process_table.specs.Calls.{map_refusal, unmap_refusal, protect_refusal, withdraw_refusal, accept_refusal, spawn_refusal, fork_refusal, exit_refusal, loaded, after_map, after_unmap, after_protect, after_offer, after_withdraw, after_accept, after_spawn, after_fork, after_exit, after_load, after_store}
use Rattle.process_table.specs.WellFormed.{IsWellFormed}
use Rattle.process_table.specs.Apart.{IsApart, AreAlike, held_in, pages_held, alone_with}
use Rattle.process_table.specs.declared.causes.Cause.{Cause}
use Rattle.page_words.specs.FiniteMap as map
use Rattle.page_words.specs.FiniteSet as set

-- two alike processes get the same
abbrev pub IsToldAlike : {A : Type 0} → (State → ℕ → A) → Type 0
IsToldAlike tell = (s t : State) (p q : ℕ) → AreAlike s p t q → tell s p ≡ tell t q

-- two alike processes are alike after it
abbrev pub KeepsAlike : (State → ℕ → State) → Type 0
KeepsAlike change = (s t : State) (p q : ℕ) → AreAlike s p t q → AreAlike (change s p) p (change t q) q

-- where another live process isn't refused it, a process apart has what it had, and is still apart
abbrev pub LeavesOthers : (State → ℕ → Option Cause) → (State → ℕ → State) → Type 0
LeavesOthers refusal change = (s : State) (p q : ℕ) → IsWellFormed s → IsApart s p → q ≢ p → is_live s q ≡ true → refusal s q ≡ None → AreAlike s p (change s q) p

-- no call of a process apart is refused for what another has
abbrev pub RefusalsAlike : Type 0
RefusalsAlike =
    ((page : ℕ) → IsToldAlike (λ s p. map_refusal s p page))
    × ((page : ℕ) → IsToldAlike (λ s p. unmap_refusal s p page))
    × ((page : ℕ) (write : Bool) → IsToldAlike (λ s p. protect_refusal s p page write))
    × ((page target : ℕ) → IsToldAlike (λ s p. withdraw_refusal s p page target))
    × IsToldAlike (λ s p. exit_refusal s p)
    × ((page : ℕ) → IsToldAlike (λ s p. is_mapped s (at_page p page)))
    × ((page : ℕ) → IsToldAlike (λ s p. overdrawn s p (page ∷ [])))
    × ((addr : ℕ) (size : Size) → IsToldAlike (λ s p. overdrawn s p (touched addr size)))

-- nor is it told what another has
abbrev pub ValuesAlike : Type 0
ValuesAlike =
    ((page : ℕ) → IsToldAlike (λ s p. held_in (cell_or_fresh s.spaces (at_page p page))))
    × ((page : ℕ) → IsToldAlike (λ s p. set.len (cell_or_fresh s.spaces (at_page p page)).holders))
    × ((addr : ℕ) (size : Size) → IsToldAlike (λ s p. loaded s p addr size))
    × IsToldAlike (λ s p. cost s.spaces p)
    × IsToldAlike (λ s p. given s.book p)

-- what its calls do to what it has depends on that alone
abbrev pub CallsKeepAlike : Type 0
CallsKeepAlike =
    ((addr : ℕ) (size : Size) → KeepsAlike (λ s p. after_load s p addr size))
    × ((addr : ℕ) (size : Size) (value : ℕ) → KeepsAlike (λ s p. after_store s p addr size value))
    × ((page : ℕ) (write : Bool) → KeepsAlike (λ s p. after_map s p page write))
    × ((page : ℕ) → KeepsAlike (λ s p. after_unmap s p page))
    × ((page : ℕ) (write : Bool) → KeepsAlike (λ s p. after_protect s p page write))
    × ((page target : ℕ) → KeepsAlike (λ s p. after_withdraw s p page target))

-- what is never refused
abbrev pub never : State → ℕ → Option Cause
never s p = None

-- all calls leave the other processes that are apart
abbrev pub CallsLeaveOthers : Type 0
CallsLeaveOthers =
    ((addr : ℕ) (size : Size) → LeavesOthers never (λ s q. after_load s q addr size))
    × ((addr : ℕ) (size : Size) (value : ℕ) → LeavesOthers never (λ s q. after_store s q addr size value))
    × ((page : ℕ) (write : Bool) → LeavesOthers never (λ s q. after_map s q page write))
    × ((page : ℕ) → LeavesOthers never (λ s q. after_unmap s q page))
    × ((page : ℕ) (write : Bool) → LeavesOthers never (λ s q. after_protect s q page write))
    × ((page target : ℕ) (write : Bool) → LeavesOthers never (λ s q. after_offer s q page target write))
    × ((page target : ℕ) → LeavesOthers never (λ s q. after_withdraw s q page target))
    × ((giver giver_page page : ℕ) → LeavesOthers (λ s q. accept_refusal s q giver giver_page page) (λ s q. after_accept s q giver giver_page page))
    × ((quota : ℕ) → LeavesOthers (λ s q. spawn_refusal s q quota) (λ s q. after_spawn s q quota))
    × ((quota : ℕ) → LeavesOthers (λ s q. fork_refusal s q quota) (λ s q. after_fork s q quota))
    × LeavesOthers (λ s q. exit_refusal s q) (λ s q. after_exit s q)

-- a new child is alike to process 1 alone with its quota: that of a spawn without a page, that of a fork with the
-- caller's pages
abbrev pub ChildrenBeginAlone : Type 0
ChildrenBeginAlone =
    ((s : State) (p root quota : ℕ) → IsWellFormed s → is_live s p ≡ true → spawn_refusal s p quota ≡ None → AreAlike (after_spawn s p quota) (child_of s) (alone_with root quota map.empty) 1)
    × ((s : State) (p root quota : ℕ) → IsWellFormed s → is_live s p ≡ true → fork_refusal s p quota ≡ None → AreAlike (after_fork s p quota) (child_of s) (alone_with root quota (pages_held s p)) 1)
