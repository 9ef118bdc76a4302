-- What each call of a live process does, and what each but Load and Store (Plans of fault_handler) is refused for, in order.
use Rattle.std.specs.Prelude.{ℕ, Bool, false, not, ◌&&◌, if◌then◌else◌, ◌==◌, nat_lt, nat_le, [], ◌∷◌, Option, Some, None, is_none, unwrap_or}
use Rattle.process_table.specs.Below.{byte_count, covered, touched, is_user_page, Size, cell_or_fresh, fresh, without, is_slot, is_of, protected, joined, number_of, with_pages, all_accessed, all_stored, bytes_of, at_page, cost, copied, next_number, number_of_children, offer_key, pending, without_page, without_process, Access, Read, Write}
use Rattle.process_table.specs.State.{State, is_live, is_mapped, overdrawn, room, child_of}
use Rattle.process_table.specs.declared.causes.Cause.{Cause}
use Rattle.process_table.specs.declared.causes.Cause.TheVariants.{BadPage, NotMapped, Mapped, Quota, Rights, SelfOffer, NoTarget, OfferPending, TooManyOffers, NoOffer, TableFull, BadQuota, HasChildren, RootExit, TooSmall}
use Rattle.page_words.specs.FiniteMap as map

-- ---- Why a call is refused: the first cause that applies

-- the refusals of a Map, in order
abbrev pub map_refusal : State → ℕ → ℕ → Option Cause
map_refusal s p page =
    if not (is_user_page page) then Some BadPage else
    if is_mapped s (at_page p page) then Some Mapped else
    if overdrawn s p (page ∷ []) then Some Quota else
    None

-- the refusals of an Unmap, in order
abbrev pub unmap_refusal : State → ℕ → ℕ → Option Cause
unmap_refusal s p page =
    if not (is_user_page page) then Some BadPage else
    if not (is_mapped s (at_page p page)) then Some NotMapped else
    None

-- the refusals of a Protect, and of an Info, which requires no right
abbrev pub protect_refusal : State → ℕ → ℕ → Bool → Option Cause
protect_refusal s p page write =
    if not (is_user_page page) then Some BadPage else
    if not (is_mapped s (at_page p page)) then Some NotMapped else
    if write && not (cell_or_fresh s.spaces (at_page p page)).may then Some Rights else
    None

-- the refusals of an Offer, in order
abbrev pub offer_refusal : State → ℕ → ℕ → ℕ → Bool → Option Cause
offer_refusal s p page target write =
    if not (is_user_page page) then Some BadPage else
    if not (is_mapped s (at_page p page)) then Some NotMapped else
    if target == p then Some SelfOffer else
    if not (is_live s target) then Some NoTarget else
    if write && not (cell_or_fresh s.spaces (at_page p page)).may then Some Rights else
    if map.contains_key s.offers (offer_key p page target) then Some OfferPending else
    if nat_le 32 (map.len (pending s.offers p)) then Some TooManyOffers else
    None

-- the refusals of a Withdraw, in order
abbrev pub withdraw_refusal : State → ℕ → ℕ → ℕ → Option Cause
withdraw_refusal s p page target =
    if not (is_user_page page) then Some BadPage else
    if not (map.contains_key s.offers (offer_key p page target)) then Some NoOffer else
    None

-- the refusals of an Accept, in order
abbrev pub accept_refusal : State → ℕ → ℕ → ℕ → ℕ → Option Cause
accept_refusal s p giver giver_page page =
    if not (is_user_page page) then Some BadPage else
    if not (map.contains_key s.offers (offer_key giver giver_page p)) then Some NoOffer else
    if is_mapped s (at_page p page) then Some Mapped else
    if overdrawn s p (page ∷ []) then Some Quota else
    None

-- the refusals of a Spawn, in order
abbrev pub spawn_refusal : State → ℕ → ℕ → Option Cause
spawn_refusal s p quota =
    if quota == 0 then Some BadQuota else
    if is_none (next_number s.book) then Some TableFull else
    if nat_lt (room s p) quota then Some Quota else
    None

-- a copy of the process costs what the process does
abbrev pub fork_refusal : State → ℕ → ℕ → Option Cause
fork_refusal s p quota =
    if quota == 0 then Some BadQuota else
    if is_none (next_number s.book) then Some TableFull else
    if nat_lt quota (cost s.spaces p) then Some TooSmall else
    if nat_lt (room s p) quota then Some Quota else
    None

-- the refusals of an Exit, in order
abbrev pub exit_refusal : State → ℕ → Option Cause
exit_refusal s p =
    if p == 0 then Some RootExit else
    if nat_lt 0 (number_of_children s.book p) then Some HasChildren else
    None

-- ---- What a call does

-- the value that a load gives: the number of the bytes that it covers, 0 for each byte of a page that is not mapped
abbrev pub loaded : State → ℕ → ℕ → Size → ℕ
loaded s p address size = number_of s.spaces p (covered address size)

-- each page that is touched is mapped first, and accessed is set in its slot
abbrev pub after_load : State → ℕ → ℕ → Size → State
after_load s p address size =
    let pages = touched address size in
    record s { spaces = all_accessed (with_pages s.spaces p pages) p pages }

-- each page that is touched is mapped first, and the low bytes of the value are stored one after the other
abbrev pub after_store : State → ℕ → ℕ → Size → ℕ → State
after_store s p address size value = record s { spaces = all_stored (with_pages s.spaces p (touched address size)) p address (bytes_of (byte_count size) value) }

-- the value that an access gives: a read what it reads, a write 0
abbrev pub access_value : State → ℕ → ℕ → Size → Access → ℕ
access_value s p address size Read = loaded s p address size
access_value s p address size Write = 0

-- after an access that completes
abbrev pub after_access : State → ℕ → ℕ → Size → Access → ℕ → State
after_access s p address size Read value = after_load s p address size
after_access s p address size Write value = after_store s p address size value

-- the state after a Map
abbrev pub after_map : State → ℕ → ℕ → Bool → State
after_map s p page write = record s { spaces = map.insert s.spaces (at_page p page) (fresh (at_page p page) write) }

-- the slot leaves its group, and its offers go
abbrev pub after_unmap : State → ℕ → ℕ → State
after_unmap s p page = record s {
  spaces = without s.spaces (is_slot p page);
  offers = without_page s.offers p page;
}

-- the slot may be written to from now on, or not
abbrev pub after_protect : State → ℕ → ℕ → Bool → State
after_protect s p page write = record s { spaces = protected s.spaces (at_page p page) write }

-- the state after an Offer
abbrev pub after_offer : State → ℕ → ℕ → ℕ → Bool → State
after_offer s p page target write = record s { offers = map.insert s.offers (offer_key p page target) write }

-- the state after a Withdraw
abbrev pub after_withdraw : State → ℕ → ℕ → ℕ → State
after_withdraw s p page target = record s { offers = map.remove s.offers (offer_key p page target) }

-- the right that a pending offer gives
abbrev pub offered : State → ℕ → ℕ → ℕ → Bool
offered s giver giver_page p = unwrap_or (map.get s.offers (offer_key giver giver_page p)) false

-- the slot joins the giver's group with the offer's right, and the offer goes
abbrev pub after_accept : State → ℕ → ℕ → ℕ → ℕ → State
after_accept s p giver giver_page page = record s {
  spaces = joined s.spaces (at_page giver giver_page) (at_page p page) (offered s giver giver_page p);
  offers = map.remove s.offers (offer_key giver giver_page p);
}

-- a child, which has the least number that is not live
abbrev pub after_spawn : State → ℕ → ℕ → State
after_spawn s p quota = record s { book = map.insert s.book (child_of s) (record { parent = p; quota = quota }) }

-- a child with a copy of each of its parent's pages; no offer is copied
abbrev pub after_fork : State → ℕ → ℕ → State
after_fork s p quota = record s {
  spaces = copied s.spaces p (child_of s);
  book = map.insert s.book (child_of s) (record { parent = p; quota = quota });
}

-- the process, its slots, its offers and the offers to it go
abbrev pub after_exit : State → ℕ → State
after_exit s p = record {
  spaces = without s.spaces (is_of p);
  book = map.remove s.book p;
  offers = without_process s.offers p;
}
