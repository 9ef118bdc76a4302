-- Laws on the calls: each that is not refused keeps states well formed, and such states cost no more than the root's
-- quota.
use Rattle.std.specs.Prelude.{◌≡◌, ◌≤◌, ℕ, Bool, true, false, None}
use Rattle.process_table.specs.Below.{touched, IsUserPage, EachTouched, Size, quota_of}
use Rattle.process_table.specs.State.{State, open_with, is_live, overdrawn}
use Rattle.process_table.specs.Calls.{map_refusal, protect_refusal, offer_refusal, accept_refusal, spawn_refusal, exit_refusal, after_map, after_unmap, after_protect, after_offer, after_withdraw, after_accept, after_spawn, after_exit, after_load, after_store, fork_refusal, after_fork}
use Rattle.process_table.specs.WellFormed.{IsWellFormed, total}
use Rattle.page_words.specs.FiniteMap as map

-- a machine of two frames or more, as it boots
abbrev pub OpeningIsWellFormed : Type 0
OpeningIsWellFormed = (n : ℕ) → 2 ≤ n → IsWellFormed (open_with n)

-- a Map keeps states well formed
abbrev pub MapKeeps : Type 0
MapKeeps = (s : State) (p page : ℕ) (write : Bool) → IsWellFormed s → is_live s p ≡ true → map_refusal s p page ≡ None → IsWellFormed (after_map s p page write)

-- an unmap of any page, mapped or not
abbrev pub UnmapKeeps : Type 0
UnmapKeeps = (s : State) (p page : ℕ) → IsWellFormed s → IsWellFormed (after_unmap s p page)

-- a Protect keeps states well formed
abbrev pub ProtectKeeps : Type 0
ProtectKeeps = (s : State) (p page : ℕ) (write : Bool) → IsWellFormed s → is_live s p ≡ true → protect_refusal s p page write ≡ None → IsWellFormed (after_protect s p page write)

-- an Offer keeps states well formed
abbrev pub OfferKeeps : Type 0
OfferKeeps = (s : State) (p page target : ℕ) (write : Bool) → IsWellFormed s → is_live s p ≡ true → offer_refusal s p page target write ≡ None → IsWellFormed (after_offer s p page target write)

-- a withdrawal of any offer, pending or not
abbrev pub WithdrawKeeps : Type 0
WithdrawKeeps = (s : State) (p page target : ℕ) → IsWellFormed s → IsWellFormed (after_withdraw s p page target)

-- an Accept keeps states well formed
abbrev pub AcceptKeeps : Type 0
AcceptKeeps = (s : State) (p giver giver_page page : ℕ) → IsWellFormed s → is_live s p ≡ true → accept_refusal s p giver giver_page page ≡ None → IsWellFormed (after_accept s p giver giver_page page)

-- a Spawn keeps states well formed
abbrev pub SpawnKeeps : Type 0
SpawnKeeps = (s : State) (p quota : ℕ) → IsWellFormed s → is_live s p ≡ true → spawn_refusal s p quota ≡ None → IsWellFormed (after_spawn s p quota)

-- a Fork keeps states well formed
abbrev pub ForkKeeps : Type 0
ForkKeeps = (s : State) (p quota : ℕ) → IsWellFormed s → is_live s p ≡ true → fork_refusal s p quota ≡ None → IsWellFormed (after_fork s p quota)

-- an Exit keeps states well formed
abbrev pub ExitKeeps : Type 0
ExitKeeps = (s : State) (p : ℕ) → IsWellFormed s → is_live s p ≡ true → exit_refusal s p ≡ None → IsWellFormed (after_exit s p)

-- a load of the user range whose pages are mapped, or for which there is room
abbrev pub LoadKeeps : Type 0
LoadKeeps = (s : State) (p address : ℕ) (size : Size) → IsWellFormed s → is_live s p ≡ true → EachTouched address size IsUserPage → overdrawn s p (touched address size) ≡ false → IsWellFormed (after_load s p address size)

-- a store of any value to such pages, with the right to write or without it
abbrev pub StoreKeeps : Type 0
StoreKeeps = (s : State) (p address : ℕ) (size : Size) (value : ℕ) → IsWellFormed s → is_live s p ≡ true → EachTouched address size IsUserPage → overdrawn s p (touched address size) ≡ false → IsWellFormed (after_store s p address size value)

-- a spawn, a fork and an exit leave the root's entry; the other calls leave the whole book
abbrev pub RootStays : Type 0
RootStays =
    ((s : State) (p quota : ℕ) → IsWellFormed s → is_live s p ≡ true → spawn_refusal s p quota ≡ None → map.get (after_spawn s p quota).book 0 ≡ map.get s.book 0)
    × ((s : State) (p quota : ℕ) → IsWellFormed s → is_live s p ≡ true → fork_refusal s p quota ≡ None → map.get (after_fork s p quota).book 0 ≡ map.get s.book 0)
    × ((s : State) (p : ℕ) → IsWellFormed s → is_live s p ≡ true → exit_refusal s p ≡ None → map.get (after_exit s p).book 0 ≡ map.get s.book 0)

-- what all live processes cost together is at most the root's quota
abbrev pub TotalIsWithin : Type 0
TotalIsWithin = (s : State) → IsWellFormed s → total s ≤ quota_of s.book 0
