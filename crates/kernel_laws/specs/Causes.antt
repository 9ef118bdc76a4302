-- When a call completes, and else the cause of its refusal, or the byte of its fault.
use Rattle.std.proofs.Common.{◌≡◌, ℕ, ◌<◌, ◌≤◌, ◌++◌, Bool, true, false, List, [], ◌∷◌, Option, Some, None}
use Rattle.std.specs.Prelude.{◌⊎◌, ◌↔◌, IfSome}
use Rattle.std.specs.List.{All}
use Rattle.page_words.specs.Addresses.{page_number, touched, IsUserPage}
use Rattle.page_words.specs.declared.addresses.Size.{Size}
use Rattle.address_space.specs.Spaces.{cost, at_page, slot_at}
use Rattle.quota_tree.specs.Book.{number_of_children}
use Rattle.page_sharing.specs.Offers.{OfferKey, offer_key, pending}
use Rattle.process_table.specs.State.{State, is_live, is_mapped, room, extra_cost}
use Rattle.process_table.specs.declared.causes.Cause.{Cause}
use Rattle.kernel_calls.specs.Integrity.{Flags, flags_at}
use Rattle.kernel_calls.specs.Effects.{IsCovered}
use Rattle.kernel_calls.specs.Machine.{answer, completes}
use Rattle.kernel_calls.specs.declared.calls.Call.{Call}
use Rattle.kernel_calls.specs.declared.calls.Event.{Event}
use Rattle.page_words.specs.FiniteMap as map
use Rattle.process_table.specs.declared.causes.Cause.TheVariants as cause
use Rattle.kernel_calls.specs.declared.calls.Call.TheVariants as call
use Rattle.kernel_calls.specs.declared.calls.Reply.TheVariants as reply

-- ---- What a call names, and what it asks for

-- the page of its own process
abbrev pub own_page : Call → Option ℕ
own_page (call.Map page _) = Some page
own_page (call.Unmap page) = Some page
own_page (call.Protect page _) = Some page
own_page (call.Info page) = Some page
own_page (call.Offer page _ _) = Some page
own_page (call.Withdraw page _) = Some page
own_page (call.Accept _ _ page) = Some page
own_page _ = None

-- the right to write
abbrev pub asks_to_write : Call → Bool
asks_to_write (call.Protect _ write) = write
asks_to_write (call.Offer _ _ write) = write
asks_to_write _ = false

-- the process that gets an offer
abbrev pub target_of : Call → Option ℕ
target_of (call.Offer _ target _) = Some target
target_of _ = None

-- the offer that a call of p makes, withdraws or accepts
abbrev pub key_of : ℕ → Call → Option OfferKey
key_of p (call.Offer page target _) = Some (offer_key p page target)
key_of p (call.Withdraw page target) = Some (offer_key p page target)
key_of p (call.Accept giver giver_page _) = Some (offer_key giver giver_page p)
key_of p _ = None

-- the frames: what its new pages cost, or the quota of a child
abbrev pub frames_asked : State → ℕ → Call → ℕ
frames_asked s p (call.Load address size) = extra_cost s p (touched address size)
frames_asked s p (call.Store address size _) = extra_cost s p (touched address size)
frames_asked s p (call.Map page _) = extra_cost s p (page ∷ [])
frames_asked s p (call.Accept _ _ page) = extra_cost s p (page ∷ [])
frames_asked s p (call.Spawn quota) = quota
frames_asked s p (call.Fork quota) = quota
frames_asked s p _ = 0

-- ---- Refusals

-- the causes for which a call is refused, in order
abbrev pub causes_of : Call → List Cause
causes_of (call.Load _ _) = cause.NoProcess ∷ cause.Quota ∷ []
causes_of (call.Store _ _ _) = cause.NoProcess ∷ cause.Quota ∷ []
causes_of (call.Map _ _) = cause.NoProcess ∷ cause.BadPage ∷ cause.Mapped ∷ cause.Quota ∷ []
causes_of (call.Unmap _) = cause.NoProcess ∷ cause.BadPage ∷ cause.NotMapped ∷ []
causes_of (call.Protect _ _) = cause.NoProcess ∷ cause.BadPage ∷ cause.NotMapped ∷ cause.Rights ∷ []
causes_of (call.Info _) = cause.NoProcess ∷ cause.BadPage ∷ cause.NotMapped ∷ []
causes_of (call.Offer _ _ _) = cause.NoProcess ∷ cause.BadPage ∷ cause.NotMapped ∷ cause.SelfOffer ∷ cause.NoTarget
    ∷ cause.Rights ∷ cause.OfferPending ∷ cause.TooManyOffers ∷ []
causes_of (call.Withdraw _ _) = cause.NoProcess ∷ cause.BadPage ∷ cause.NoOffer ∷ []
causes_of (call.Accept _ _ _) = cause.NoProcess ∷ cause.BadPage ∷ cause.NoOffer ∷ cause.Mapped ∷ cause.Quota ∷ []
causes_of (call.Spawn _) = cause.NoProcess ∷ cause.BadQuota ∷ cause.TableFull ∷ cause.Quota ∷ []
causes_of (call.Fork _) = cause.NoProcess ∷ cause.BadQuota ∷ cause.TableFull ∷ cause.TooSmall ∷ cause.Quota ∷ []
causes_of call.Exit = cause.NoProcess ∷ cause.RootExit ∷ cause.HasChildren ∷ []
causes_of call.Quota = cause.NoProcess ∷ []

-- the state in which a call of p is refused for a cause, if no earlier one applies
abbrev pub Applies : State → ℕ → Call → Cause → Type 0
Applies s p c cause.NoProcess = is_live s p ≡ false
Applies s p c cause.BadPage = IfSome (own_page c) (λ page. IsUserPage page → ⊥)
Applies s p c cause.NotMapped = IfSome (own_page c) (λ page. is_mapped s (at_page p page) ≡ false)
Applies s p c cause.Mapped = IfSome (own_page c) (λ page. is_mapped s (at_page p page) ≡ true)
Applies s p c cause.Quota = room s p < frames_asked s p c
Applies s p c cause.Rights = (asks_to_write c ≡ true)
    × IfSome (own_page c) (λ page. (f : Flags) × (flags_at s (at_page p page) ≡ Some f) × (f.may ≡ false))
Applies s p c cause.SelfOffer = target_of c ≡ Some p
Applies s p c cause.NoTarget = IfSome (target_of c) (λ target. is_live s target ≡ false)
Applies s p c cause.OfferPending = IfSome (key_of p c) (λ key. map.contains_key s.offers key ≡ true)
Applies s p c cause.TooManyOffers = 32 ≤ map.len (pending s.offers p)
Applies s p c cause.NoOffer = IfSome (key_of p c) (λ key. map.contains_key s.offers key ≡ false)
Applies s p c cause.TableFull = (number : ℕ) → number < 64 → is_live s number ≡ true
Applies s p c cause.BadQuota = frames_asked s p c ≡ 0
Applies s p c cause.HasChildren = 0 < number_of_children s.book p
Applies s p c cause.RootExit = p ≡ 0
Applies s p c cause.TooSmall = frames_asked s p c < cost s.spaces p

-- ---- Faults

-- the byte lies outside the user range
abbrev pub IsOutside : ℕ → Type 0
IsOutside byte = IsUserPage (page_number byte) → ⊥

-- the byte lies in a page that is mapped without the right to write
abbrev pub IsReadOnly : State → ℕ → ℕ → Type 0
IsReadOnly s p byte = (f : Flags) × (flags_at s (slot_at p byte) ≡ Some f) × (f.write ≡ false)

-- the lowest byte of an access for which this holds
abbrev pub IsLowest : ℕ → Size → (ℕ → Type 0) → ℕ → Type 0
IsLowest address size P byte =
    IsCovered address size byte × P byte × ((other : ℕ) → IsCovered address size other → P other → byte ≤ other)

-- the byte and the code of the fault of a call of p, if it faults
abbrev pub Faults : State → ℕ → Call → ℕ → ℕ → Type 0
Faults s p (call.Load address size) byte code = IsLowest address size IsOutside byte × (code ≡ 4)
Faults s p (call.Store address size _) byte code =
    (IsLowest address size IsOutside byte × (code ≡ 6))
    ⊎ (((other : ℕ) → IsCovered address size other → IsUserPage (page_number other))
    × IsLowest address size (IsReadOnly s p) byte × (code ≡ 7))
Faults s p _ byte code = ⊥

-- ---- Laws

-- a call completes exactly if no cause applies to it and it doesn't fault
abbrev pub CompletesUnless : Type 0
CompletesUnless = (s : State) (e : Event) → (completes (answer s e) ≡ true)
    ↔ (All (λ c. Applies s e.pid e.call c → ⊥) (causes_of e.call)
    × ((byte code : ℕ) → Faults s e.pid e.call byte code → ⊥))

-- a call is refused for the first cause of its list that applies
abbrev pub RefusedByTheFirst : Type 0
RefusedByTheFirst = (s : State) (e : Event) (c : Cause) → answer s e ≡ reply.Refused c
    → (before after : List Cause) × (causes_of e.call ≡ before ++ c ∷ after) × Applies s e.pid e.call c
    × All (λ other. Applies s e.pid e.call other → ⊥) before

-- a call faults exactly if its process is live and one of its bytes faults, also where it has no room
abbrev pub FaultsAtTheFirstByte : Type 0
FaultsAtTheFirstByte = (s : State) (e : Event) (byte code : ℕ) → (answer s e ≡ reply.Fault byte code)
    ↔ ((is_live s e.pid ≡ true) × Faults s e.pid e.call byte code)
