-- What one process can do to another, and learn of it. An event e leads from state s to t; a set is given by its test.
use Rattle.std.proofs.Common.{◌≡◌, ◌≢◌, ℕ, ◌+◌, ◌<◌, ◌≤◌, Bool, true, false, not, ◌&&◌, ◌||◌, ◌==◌, IsTrue, if◌then◌else◌, List, [], ◌∷◌, Option, Some, None}
use Rattle.std.specs.Prelude.{◌⊎◌}
use Rattle.std.specs.Option.{option_map}
use Rattle.std.specs.List.{All, zip}
use Rattle.page_words.specs.Addresses.{byte_count}
use Rattle.address_space.specs.Spaces.{Slot, Cell, at_page, slot_at, is_of, copy_of}
use Rattle.quota_tree.specs.Book.{Member, given, quota_of, number_of_children, next_number}
use Rattle.page_sharing.specs.Offers.{OfferKey, offer_key}
use Rattle.process_table.specs.State.{State, is_live, child_of}
use Rattle.process_table.specs.WellFormed.{IsWellFormed}
use Rattle.kernel_calls.specs.Isolation.{Exchange, exchanges, quota_asked}
use Rattle.kernel_calls.specs.Machine.{answer, answers, next, end_of, completes}
use Rattle.kernel_calls.specs.declared.calls.Call.{Call}
use Rattle.kernel_calls.specs.declared.calls.Event.{Event}
use Rattle.kernel_calls.specs.declared.calls.Reply.{Reply}
use Rattle.kernel_calls.specs.Integrity.{flags_at, is_child_of, shares, shown_at}
use Rattle.page_words.specs.FiniteMap as map
use Rattle.page_words.specs.FiniteSet as set
use Rattle.kernel_calls.specs.declared.calls.Call.TheVariants as call
use Rattle.kernel_calls.specs.declared.calls.Reply.TheVariants as reply

-- a slot is offered to a process
abbrev pub is_offered : State → ℕ → Slot → Bool
is_offered s q slot = map.contains_key s.offers (offer_key slot.pid slot.page q)

-- ---- Integrity: what an event leaves

-- an event leaves states well formed
abbrev pub StatesStayWellFormed : Type 0
StatesStayWellFormed = (s : State) (e : Event) → IsWellFormed s → IsWellFormed (next s e)

-- a call that is refused or faults changes nothing
abbrev pub RefusalsChangeNothing : Type 0
RefusalsChangeNothing = (s : State) (e : Event) → completes (answer s e) ≡ false → next s e ≡ s

-- no run of events of others unmaps a page of p or changes its flags: so nobody can take back a page that it accepted
abbrev pub NobodyTakesBack : Type 0
NobodyTakesBack = (s : State) (events : List Event) (p page : ℕ) → IsWellFormed s → is_live s p ≡ true
    → All (λ (e : Event). p ≢ e.pid) events → flags_at (end_of s events) (at_page p page) ≡ flags_at s (at_page p page)

-- ---- Consent: how authority spreads

-- The event accepts a pending offer to its process, at this new slot. The slot joins the group of the offered slot,
-- with the right of the offer, and no more than that slot may have.
pub record IsJoin (s : State) (e : Event) (slot other : Slot) : Type 0 where
  pub own : slot.pid ≡ e.pid
  pub new : map.get s.spaces slot ≡ None
  pub giver : Slot
  pub right : Bool
  pub call : e.call ≡ call.Accept giver.pid giver.page slot.page
  pub offered : map.get s.offers (offer_key giver.pid giver.page e.pid) ≡ Some right
  pub cell : Cell
  pub given : map.get s.spaces giver ≡ Some cell
  pub within : IsTrue right → IsTrue cell.may
  pub among : IsTrue (set.contains cell.holders other)
  pub gets : flags_at (next s e) slot ≡ Some (record { write = right; may = right; accessed = false; dirty = false })

-- two slots share a page after an event where they did before, or where one joins the group of the other
abbrev pub SharingByConsent : Type 0
SharingByConsent = (s : State) (e : Event) (slot other : Slot) → IsWellFormed s → slot ≢ other
    → shares (next s e) slot other ≡ true
    → (shares s slot other ≡ true) ⊎ (IsJoin s e slot other ⊎ IsJoin s e other slot)

-- the event releases this slot: it unmaps it, or its process exits
pub record IsLeave (e : Event) (slot : Slot) : Type 0 where
  pub own : slot.pid ≡ e.pid
  pub how : (e.call ≡ call.Unmap slot.page) ⊎ (e.call ≡ call.Exit)

-- two slots that share a page before an event do so after it, or one of them is given up: one slot too stays mapped so
abbrev pub SharingStays : Type 0
SharingStays = (s : State) (e : Event) (slot other : Slot) → IsWellFormed s → shares s slot other ≡ true
    → (shares (next s e) slot other ≡ true) ⊎ (IsLeave e slot ⊎ IsLeave e other)

-- an offer is pending after an event where it was before, or where the event is this offer
abbrev pub OffersByOfferer : Type 0
OffersByOfferer = (s : State) (e : Event) (key : OfferKey) (right : Bool) → map.get (next s e).offers key ≡ Some right
    → (map.get s.offers key ≡ Some right) ⊎ ((e.pid ≡ key.offerer) × (e.call ≡ call.Offer key.page key.target right))

-- ---- What is given up goes

-- the slot is in no group, and its offers are gone: so it is after an unmap that is done
pub record HasLeft (t : State) (slot : Slot) : Type 0 where
  pub gone : map.get t.spaces slot ≡ None
  pub groups : (other : Slot) → shares t other slot ≡ false
  pub offers : (target : ℕ) → map.get t.offers (offer_key slot.pid slot.page target) ≡ None

-- the slot of an Unmap that is Done has left
abbrev pub UnmapsEnd : Type 0
UnmapsEnd = (s : State) (e : Event) (page : ℕ) → e.call ≡ call.Unmap page → answer s e ≡ reply.Done
    → HasLeft (next s e) (at_page e.pid page)

-- after an exit that is done the process, its slots and all offers by it and to it are gone, and its parent has its
-- quota back
pub record HasExited (s t : State) (p : ℕ) : Type 0 where
  pub gone : map.get t.book p ≡ None
  pub pages : (page : ℕ) → HasLeft t (at_page p page)
  pub offers : (slot : Slot) → is_offered t p slot ≡ false
  pub returned : (member : Member) → map.get s.book p ≡ Some member
      → given s.book member.parent ≡ given t.book member.parent + member.quota

-- a process whose Exit is Done has exited
abbrev pub ExitsEnd : Type 0
ExitsEnd = (s : State) (e : Event) → e.call ≡ call.Exit → answer s e ≡ reply.Done → HasExited s (next s e) e.pid

-- the event withdraws an offer of its process, or accepts one to it: after that is done the offer is gone
abbrev pub Settles : Event → OfferKey → Type 0
Settles e key = ((e.pid ≡ key.offerer) × (e.call ≡ call.Withdraw key.page key.target))
    ⊎ ((e.pid ≡ key.target) × ((page : ℕ) × (e.call ≡ call.Accept key.offerer key.page page)))

-- an offer that a completed call settles is no longer pending
abbrev pub OffersEnd : Type 0
OffersEnd = (s : State) (e : Event) (key : OfferKey) → Settles e key → answer s e ≡ reply.Done
    → map.get (next s e).offers key ≡ None

-- a pending offer stays, or is settled, or its page or one of its processes is given up
abbrev pub OffersStay : Type 0
OffersStay = (s : State) (e : Event) (key : OfferKey) (right : Bool) → map.get s.offers key ≡ Some right
    → (map.get (next s e).offers key ≡ Some right)
    ⊎ (Settles e key ⊎ (IsLeave e (at_page key.offerer key.page) ⊎ ((key.target ≡ e.pid) × (e.call ≡ call.Exit))))

-- ---- Births

-- The child was not live. Now it is, as its parent's, with the quota of the call. After a spawn it has no page. After a
-- fork it has copies of its parent's pages, each with a group of its own, and no other page.
pub record IsBorn (s t : State) (e : Event) (child : ℕ) : Type 0 where
  pub free : map.get s.book child ≡ None
  pub member : map.get t.book child ≡ Some (record { parent = e.pid; quota = quota_asked e.call })
  pub spawned : (quota page : ℕ) → e.call ≡ call.Spawn quota → IsWellFormed s
      → map.get t.spaces (at_page child page) ≡ None
  pub forked : (quota page : ℕ) → e.call ≡ call.Fork quota → map.get t.spaces (at_page child page)
      ≡ option_map (copy_of (at_page child page)) (map.get s.spaces (at_page e.pid page))

-- the same holds of each child whose number its parent gets
abbrev pub ChildrenAreTheirMakers : Type 0
ChildrenAreTheirMakers = (s : State) (e : Event) (child : ℕ) → answer s e ≡ reply.Child child
    → IsBorn s (next s e) e child

-- and no other place in the book changes but that of who exits
abbrev pub PlacesStay : Type 0
PlacesStay = (s : State) (e : Event) (p : ℕ) → (map.get (next s e).book p ≡ map.get s.book p)
    ⊎ ((answer s e ≡ reply.Child p) ⊎ ((p ≡ e.pid) × (e.call ≡ call.Exit)))

-- ---- Views: what is enough to know

-- how a process stands: whether it is live, its quota, and what it has given to how many children
pub record Standing : Type 0 where
  pub live : Bool
  pub quota : ℕ
  pub given : ℕ
  pub children : ℕ

-- the standing of a process in a state
abbrev pub standing_of : State → ℕ → Standing
standing_of s p = record {
  live = is_live s p;
  quota = quota_of s.book p;
  given = given s.book p;
  children = number_of_children s.book p;
}

-- Two states are one to the members of Q, who see these offers and the pages of these slots. They agree on how each
-- member stands, and whose child it is among them. They agree on the flags of the members' pages, the offers, the
-- pages, and which of these pages are one.
pub record AreOne (s t : State) (Q : ℕ → Bool) (Known : OfferKey → Type 0) (Seen : Slot → Type 0) : Type 0 where
  pub standing : (q : ℕ) → Q q ≡ true → standing_of s q ≡ standing_of t q
  pub families : (p q : ℕ) → Q p ≡ true → Q q ≡ true → p ≢ q → is_child_of s p q ≡ is_child_of t p q
  pub flags : (slot : Slot) → Q slot.pid ≡ true → flags_at s slot ≡ flags_at t slot
  pub offers : (key : OfferKey) → Known key → map.get s.offers key ≡ map.get t.offers key
  pub pages : (slot : Slot) → Seen slot → shown_at s slot ≡ shown_at t slot
  pub same_page : (slot other : Slot) → Seen slot → Seen other → shares s slot other ≡ shares t slot other

-- the members have the same: with their own slots, and the offers that they made
abbrev pub HaveTheSame : State → State → (ℕ → Bool) → Type 0
HaveTheSame s t Q = AreOne s t Q (λ key. Q key.offerer ≡ true) (λ slot. Q slot.pid ≡ true)

-- a member of Q sees a slot: it is its own, or offered to it
abbrev pub Sees : State → (ℕ → Bool) → Slot → Type 0
Sees s Q slot = (q : ℕ) × (Q q ≡ true) × ((is_of q slot || is_offered s q slot) ≡ true)

-- the members see the same: with the offers to them too, and all slots that they see
abbrev pub LooksSame : State → State → (ℕ → Bool) → Type 0
LooksSame s t Q = AreOne s t Q (λ key. (Q key.offerer ≡ true) ⊎ (Q key.target ≡ true)) (Sees s Q)

-- what a call finds of who is live: an offer whether its target is, a spawn and a fork which number is free
abbrev pub found : State → Call → Option ℕ
found s (call.Offer _ target _) = if is_live s target then Some target else None
found s (call.Spawn _) = next_number s.book
found s (call.Fork _) = next_number s.book
found s _ = None

-- A member gets the same reply in two states in which members have the same and it finds the same. The accept of an
-- offer must find it in both states or in neither. What the offered page has makes no difference.
abbrev pub MembersToldTheSame : Type 0
MembersToldTheSame = (s t : State) (e : Event) (Q : ℕ → Bool) → HaveTheSame s t Q → Q e.pid ≡ true
    → found s e.call ≡ found t e.call → ((giver page own : ℕ) → e.call ≡ call.Accept giver page own
    → is_offered s e.pid (at_page giver page) ≡ is_offered t e.pid (at_page giver page)) → answer s e ≡ answer t e

-- a process, taken alone, that has and finds the same in two states has the same after any call but an accept
abbrev pub OwnIsEnough : Type 0
OwnIsEnough = (s t : State) (e : Event) → HaveTheSame s t (λ q. q == e.pid) → found s e.call ≡ found t e.call
    → ((giver page own : ℕ) → e.call ≢ call.Accept giver page own)
    → HaveTheSame (next s e) (next t e) (λ q. q == e.pid)

-- whether a process is a member after an event: if it is live then, and was one, or is new and its parent was one
abbrev pub members_after : State → (ℕ → Bool) → Event → ℕ → Bool
members_after s Q e p = is_live (next s e) p && (if is_live s p then Q p else Q e.pid)

-- members that see the same in two states, one of which finds the same, see the same after its event, with its child
abbrev pub MembersSeeTheSame : Type 0
MembersSeeTheSame = (s t : State) (e : Event) (Q : ℕ → Bool) → IsWellFormed s → IsWellFormed t → LooksSame s t Q
    → Q e.pid ≡ true → found s e.call ≡ found t e.call → LooksSame (next s e) (next t e) (members_after s Q e)

-- ---- Channels from an outsider to members

-- no member sees the page of a slot, at this slot or at any other
abbrev pub IsUnseen : State → (ℕ → Bool) → Slot → Type 0
IsUnseen s Q slot = (other : Slot) → shares s slot other ≡ true → Sees s Q other → ⊥

-- p is no child of a member, and no member offers it a page
abbrev pub IsStranger : State → (ℕ → Bool) → ℕ → Type 0
IsStranger s Q p = (q page : ℕ) → Q q ≡ true → (is_child_of s q p || is_offered s p (at_page q page)) ≡ false

-- p's call uses no channel to members: it offers them nothing, withdraws nothing from them and takes no offer of
-- theirs. It stores into no page that a member sees, leaves none and joins none. It makes no process with a member's
-- number, and is no exit except a stranger's.
abbrev pub IsQuietCall : State → (ℕ → Bool) → ℕ → Call → Type 0
IsQuietCall s Q p (call.Store address size _) =
    (byte : ℕ) → address ≤ byte → byte < address + byte_count size → IsUnseen s Q (slot_at p byte)
IsQuietCall s Q p (call.Unmap page) = IsUnseen s Q (at_page p page)
IsQuietCall s Q p (call.Offer _ target _) = Q target ≡ false
IsQuietCall s Q p (call.Withdraw _ target) = Q target ≡ false
IsQuietCall s Q p (call.Accept giver giver_page _) = (Q giver ≡ false) × IsUnseen s Q (at_page giver giver_page)
IsQuietCall s Q p (call.Spawn _) = Q (child_of s) ≡ false
IsQuietCall s Q p (call.Fork _) = Q (child_of s) ≡ false
IsQuietCall s Q p call.Exit = IsStranger s Q p × ((page : ℕ) → IsUnseen s Q (at_page p page))
IsQuietCall s Q p _ = Unit {0}

-- an outsider's event is through no channel, as each is that is refused or faults
abbrev pub IsQuiet : State → (ℕ → Bool) → Event → Type 0
IsQuiet s Q e = Q e.pid ≡ false → completes (answer s e) ≡ true → IsQuietCall s Q e.pid e.call

-- such an event leaves what the members see
abbrev pub OutsidersUnseen : Type 0
OutsidersUnseen = (s : State) (e : Event) (Q : ℕ → Bool) → IsWellFormed s → Q e.pid ≡ false → IsQuiet s Q e
    → LooksSame s (next s e) Q

-- each event of a run is so, of the members by then, with all children that members make
abbrev pub Along : (State → (ℕ → Bool) → Event → Type 0) → State → (ℕ → Bool) → List Event → Type 0
Along P s Q [] = Unit {0}
Along P s Q (e ∷ events) = P s Q e × Along P (next s e) (members_after s Q e) events

-- an exchange of a member in a run, on whichever CPU: its call, the reply, and what the call finds
pub record Heard : Type 0 where
  pub pid : ℕ
  pub call : Call
  pub reply : Reply
  pub finds : Option ℕ

-- the exchanges of the members in a run
abbrev pub heard : State → (ℕ → Bool) → List Exchange → List Heard
heard s Q [] = []
heard s Q (x ∷ run) =
    let later = heard (next s x.0) (members_after s Q x.0) run in
    if Q x.0.pid then record { pid = x.0.pid; call = x.0.call; reply = x.1; finds = found s x.0.call } ∷ later else later

-- while their replies are the same, members make the same calls and find the same, on whichever CPUs
abbrev pub AskAlike : List Heard → List Heard → Type 0
AskAlike [] [] = Unit {0}
AskAlike (x ∷ xs) (y ∷ ys) = (x.pid ≡ y.pid) × (x.call ≡ y.call) × (x.finds ≡ y.finds) × (x ≡ y → AskAlike xs ys)
AskAlike _ _ = ⊥

-- members that make the same calls and find the same get the same replies
abbrev pub ToldAlike : List Heard → List Heard → Type 0
ToldAlike xs ys = AskAlike xs ys → xs ≡ ys

-- In a run with these replies, live members get the replies that they get in any other run in which they make the same
-- calls and find the same. The other run begins in a state that looks the same to them, and outsiders use no channel in
-- either.
abbrev pub HearTheirOwn : State → List Event → List Reply → Type 0
HearTheirOwn s events replies = (t : State) (Q : ℕ → Bool) (other : List Event) → IsWellFormed t
    → ((q : ℕ) → Q q ≡ true → is_live s q ≡ true) → LooksSame s t Q → Along IsQuiet s Q events → Along IsQuiet t Q other
    → ToldAlike (heard s Q (zip events replies)) (heard t Q (exchanges t other))

-- the law for each run from a well-formed state
abbrev pub MembersHearTheSame : Type 0
MembersHearTheSame = (s : State) (events : List Event) → IsWellFormed s → HearTheirOwn s events (answers s events)

-- ---- Confined sets

-- no slot of a member shares a page with a slot of an outsider, and what a member offers it offers to members
pub record IsConfined (s : State) (C : ℕ → Bool) : Type 0 where
  pub shares_none : (slot other : Slot) → C slot.pid ≡ true → C other.pid ≡ false → shares s slot other ≡ false
  pub offers_none : (key : OfferKey) (right : Bool) → map.get s.offers key ≡ Some right
      → C key.offerer ≡ true → C key.target ≡ true

-- a call that makes no offer but to members, and takes none but of members
abbrev pub keeps_within : (ℕ → Bool) → Call → Bool
keeps_within C (call.Offer _ target _) = C target
keeps_within C (call.Accept giver _ _) = C giver
keeps_within C _ = true

-- a member's event has such a call, refused or not
abbrev pub KeepsWithin : (ℕ → Bool) → Event → Type 0
KeepsWithin C e = C e.pid ≡ true → keeps_within C e.call ≡ true

-- who is a member after several events
abbrev pub members_at_end : State → (ℕ → Bool) → List Event → ℕ → Bool
members_at_end s C [] = C
members_at_end s C (e ∷ events) = members_at_end (next s e) (members_after s C e) events

-- p's place in the book, its pages and the offers that it made are as they were
pub record IsAsBefore (s t : State) (p : ℕ) : Type 0 where
  pub member : map.get t.book p ≡ map.get s.book p
  pub pages : (page : ℕ) → map.get t.spaces (at_page p page) ≡ map.get s.spaces (at_page p page)
  pub offers : (page target : ℕ) → map.get t.offers (offer_key p page target) ≡ map.get s.offers (offer_key p page target)

-- What a run from s to t leaves of each confined set. If its members' events keep within it, it stays confined as a set
-- of numbers, whichever processes have these, together with all children that its members make, and their children.
-- Events of outsiders leave a live member its place in the book, its pages and the offers that it made.
pub record KeepsBorders (s : State) (events : List Event) (t : State) : Type 0 where
  pub numbers : (C : ℕ → Bool) → IsConfined s C → All (KeepsWithin C) events → IsConfined t C
  pub families : (C : ℕ → Bool) → IsConfined s C → Along (λ _. KeepsWithin) s C events
      → IsConfined t (members_at_end s C events)
  pub untouched : (C : ℕ → Bool) (p : ℕ) → IsConfined s C → C p ≡ true → is_live s p ≡ true
      → All (λ (e : Event). C e.pid ≡ false) events → IsAsBefore s t p

-- each run from a well-formed state keeps the borders of confined sets
abbrev pub RunsKeepBorders : Type 0
RunsKeepBorders = (s : State) (events : List Event) → IsWellFormed s → KeepsBorders s events (end_of s events)

-- who is live and no member
abbrev pub outside : State → (ℕ → Bool) → ℕ → Bool
outside s C p = is_live s p && not (C p)

-- a member's event keeps within the members, and is no exit but of a stranger to all outside
abbrev pub IsDiscreet : State → (ℕ → Bool) → Event → Type 0
IsDiscreet s C e = C e.pid ≡ true
    → (keeps_within C e.call ≡ true) × (e.call ≡ call.Exit → IsStranger s (outside s C) e.pid)

-- Two states have the same outsiders of a confined set, and look the same to them. Then outsiders that make the same
-- calls and find the same get the same replies in any two runs, whatever the members have and do, while it is discreet.
abbrev pub OutsidersHearNothing : Type 0
OutsidersHearNothing = (s t : State) (C : ℕ → Bool) (events others : List Event) → IsWellFormed s → IsWellFormed t
    → IsConfined s C → IsConfined t C → ((p : ℕ) → outside s C p ≡ outside t C p) → LooksSame s t (outside s C)
    → Along IsDiscreet s C events → Along IsDiscreet t C others
    → ToldAlike (heard s (outside s C) (exchanges s events)) (heard t (outside t C) (exchanges t others))
