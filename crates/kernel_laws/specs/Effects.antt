-- The effects of each call that completes.
use Rattle.std.proofs.Common.{◌≡◌, ℕ, ◌-◌, ◌||◌, Bool, true, false, map, Some, None}
use Rattle.std.specs.Prelude.{◌⊎◌, slice_index}
use Rattle.page_words.specs.Addresses.{offset_number, byte_count}
use Rattle.page_words.specs.declared.addresses.Size.{Size}
use Rattle.address_space.specs.Spaces.{Slot, cell_or_fresh, at_page, slot_at, bytes_of}
use Rattle.page_sharing.specs.Offers.{offer_key}
use Rattle.process_table.specs.State.{State, is_mapped}
use Rattle.process_table.specs.WellFormed.{IsWellFormed}
use Rattle.kernel_calls.specs.Integrity.{Flags, flags_of, flags_at, byte_in, shares}
use Rattle.authority_laws.specs.Authority.{HasLeft, HasExited, IsLeave}
use Rattle.kernel_calls.specs.Machine.{answer, next, completes}
use Rattle.kernel_calls.specs.declared.calls.Call.{Call}
use Rattle.kernel_calls.specs.declared.calls.Event.{Event}
use Rattle.kernel_calls.specs.Effects.{IsAlone, IsCovered, Maps}
use Rattle.page_words.specs.FiniteMap as map
use Rattle.kernel_calls.specs.declared.calls.Call.TheVariants as call

-- the flags of a slot, and those of a new page if it is not mapped
abbrev pub flags_or_new : State → Slot → Flags
flags_or_new s slot = flags_of (cell_or_fresh s.spaces slot)

-- an access leaves the slot with its flags, but accessed, and after a Store dirty; alone, if it was not mapped
pub record IsAccessed (s t : State) (slot : Slot) (stores : Bool) : Type 0 where
  pub has : flags_at t slot
      ≡ Some (record (flags_or_new s slot) { accessed = true; dirty = stores || (flags_or_new s slot).dirty })
  pub alone : is_mapped s slot ≡ false → IsAlone t slot

-- an Accept leaves the slot with the right of the offer, in the group of the slot that was offered
pub record IsTaken (s t : State) (p giver giver_page page : ℕ) : Type 0 where
  pub right : Bool
  pub offered : map.get s.offers (offer_key giver giver_page p) ≡ Some right
  pub has : flags_at t (at_page p page)
      ≡ Some (record { write = right; may = right; accessed = false; dirty = false })
  pub group : shares t (at_page p page) (at_page giver giver_page) ≡ true
  pub gone : map.get t.offers (offer_key giver giver_page p) ≡ None

-- the slots are one, or in one group
abbrev pub IsTogether : State → Slot → Slot → Type 0
IsTogether s slot other = (slot ≡ other) ⊎ (shares s slot other ≡ true)

-- the byte is covered, lies at this place of its page, and its slot is this one or in its group
abbrev pub IsStoredAt : State → ℕ → ℕ → Size → ℕ → Slot → ℕ → Type 0
IsStoredAt s p address size byte slot place =
    IsCovered address size byte × (offset_number byte ≡ place) × IsTogether s (slot_at p byte) slot

-- the effect of a call of p; a place that no Store covers keeps its byte, which is 0 if the slot was not mapped
abbrev pub Does : State → State → ℕ → Call → Type 0
Does s t p (call.Load address size) = (a place : ℕ) → IsCovered address size a
    → IsAccessed s t (slot_at p a) false × (byte_in t (slot_at p a) place ≡ byte_in s (slot_at p a) place)
Does s t p (call.Store address size value) = (a place : ℕ) → IsCovered address size a
    → IsAccessed s t (slot_at p a) true
    × (byte_in t (slot_at p a) (offset_number a) ≡ slice_index (bytes_of (byte_count size) value) (a - address))
    × ((byte_in t (slot_at p a) place ≡ byte_in s (slot_at p a) place)
    ⊎ ((b : ℕ) × IsStoredAt s p address size b (slot_at p a) place
    × (byte_in t (slot_at p a) place ≡ slice_index (bytes_of (byte_count size) value) (b - address))))
Does s t p (call.Map page write) = (place : ℕ)
    → (flags_at t (at_page p page) ≡ Some (record { write = write; may = true; accessed = false; dirty = false }))
    × IsAlone t (at_page p page) × (byte_in t (at_page p page) place ≡ 0)
Does s t p (call.Unmap page) = HasLeft t (at_page p page)
Does s t p (call.Protect page write) =
    flags_at t (at_page p page) ≡ Some (record (flags_or_new s (at_page p page)) { write = write })
Does s t p (call.Offer page target write) = map.get t.offers (offer_key p page target) ≡ Some write
Does s t p (call.Withdraw page target) = map.get t.offers (offer_key p page target) ≡ None
Does s t p (call.Accept giver giver_page page) = IsTaken s t p giver giver_page page
Does s t p call.Exit = HasExited s t p
Does s t p _ = Unit {0}

-- each call that completes has its effect; that of a Spawn and a Fork is in ChildrenAreTheirMakers
abbrev pub DoneMeansDone : Type 0
DoneMeansDone = (s : State) (e : Event) → IsWellFormed s → completes (answer s e) ≡ true
    → Does s (next s e) e.pid e.call

-- a slot is unmapped only if its process releases it
abbrev pub SlotsGo : Type 0
SlotsGo = (s : State) (e : Event) (slot : Slot) → IsWellFormed s → is_mapped s slot ≡ true
    → is_mapped (next s e) slot ≡ false → IsLeave e slot

-- the flags of a slot that stays mapped change only if its process accesses or protects it
abbrev pub FlagsChange : Type 0
FlagsChange = (s : State) (e : Event) (slot : Slot) → IsWellFormed s → is_mapped s slot ≡ true
    → is_mapped (next s e) slot ≡ true → (flags_at (next s e) slot ≡ flags_at s slot)
    ⊎ ((slot.pid ≡ e.pid) × (Maps e.call slot.page ⊎ ((write : Bool) × (e.call ≡ call.Protect slot.page write))))
