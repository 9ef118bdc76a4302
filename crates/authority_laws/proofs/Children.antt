-- What a new child has, and what its members see of it.
use Rattle.authority_laws.proofs.Prelude.{◌≡◌, ℕ, ◌||◌, true, false, sym, ap, ◌∙◌, Option, Some, None, inl, inr, arith, ◌⊎◌, option_map, nat_order, same_itself, get-insert, no_value, same_cases, get-remove_other, get-removed, Slot, Cell, Spaces, at_page, is_of, copy_of, copied, copied-own, Book, offer_key, State, is_live, child_of, IsWellFormed, lone, no_page, Flags, flags_of, Shown, shown_of, is_offered, ChildrenAreTheirMakers, PlacesStay, quota_asked, answer, after, next, Call, Event, eqb-true, next-stays, next-goes, not-refused, caller_live, IsBirth, birth_free, maker_of}
use Rattle.page_words.specs.FiniteMap as map
use Rattle.page_words.specs.FiniteSet as set
use Rattle.kernel_calls.specs.declared.calls.Call.TheVariants as call
use Rattle.kernel_calls.specs.declared.calls.Reply.TheVariants as reply

member_in : (book : Book) (q k quota : ℕ) → map.get (map.insert book k (record { parent = q; quota = quota })) k ≡ Some
    (record { parent = q; quota = quota })
member_in book q k quota = grind (arith, get-insert, same_itself)

birth_member : (s : State) (p : ℕ) (c : Call) (child : ℕ) → IsBirth s p c child
    → map.get (after s p c).book child ≡ Some (record { parent = p; quota = quota_asked c })
birth_member s p c child b = grind (arith, member_in)

pub children_are_their_makers : ChildrenAreTheirMakers
children_are_their_makers s e child told =
    let b = maker_of s e child told in
    record {
      free = no_value (map.get s.book child) (birth_free s e.pid e.call child b.birth);
      member = grind (arith, next-goes, birth_member);
      spawned = λ quota page is w. ap (λ (u : State). map.get u.spaces (at_page child page))
          (next-goes s e b.done ∙ ap (after s e.pid) is)
          ∙ no_page s child w (birth_free s e.pid e.call child b.birth) page;
      forked = grind (arith, next-goes, copied-own);
    }

-- ---- All other places in the book

-- the place of who exits is empty
abbrev pub PlaceStays : State → State → Event → ℕ → Type 0
PlaceStays s t e p = (map.get t.book p ≡ map.get s.book p)
    ⊎ ((answer s e ≡ reply.Child p) ⊎ ((p ≡ e.pid) × (e.call ≡ call.Exit) × (map.get t.book p ≡ None)))

module _ (s : State) (e : Event) (p : ℕ) (live : is_live s e.pid ≡ true) where
  one_more : (quota : ℕ) → (answer s e ≡ reply.Child (child_of s))
      → (map.get (map.insert s.book (child_of s) (record { parent = e.pid; quota = quota })) p ≡ map.get s.book p)
      ⊎ ((answer s e ≡ reply.Child p) ⊎ ((p ≡ e.pid) × (e.call ≡ call.Exit)
      × (map.get (map.insert s.book (child_of s) (record { parent = e.pid; quota = quota })) p ≡ None)))
  one_more quota told = elim (same_cases nat_order p (child_of s)) [
    | inl here ↦ inr (inl (told ∙ ap reply.Child (sym here.0)))
    | inr other ↦ grind (arith, get-insert)
  ]

pub place_of : (s : State) (e : Event) (p : ℕ) → PlaceStays s (next s e) e p
place_of s e p =
    grind (arith, caller_live, next-goes, one_more, not-refused, same_cases, get-removed, get-remove_other, next-stays)

pub places_stay : PlacesStay
places_stay s e p = grind (arith, place_of)

-- ---- What it sees

-- who is not live makes no offer and has none
pub no_offer_by : (s : State) (k page target : ℕ) → IsWellFormed s → is_live s k ≡ false
    → map.get s.offers (offer_key k page target) ≡ None
no_offer_by s k page target w free = grind arith

pub no_offer_to : (s : State) (giver page k : ℕ) → IsWellFormed s → is_live s k ≡ false
    → map.get s.offers (offer_key giver page k) ≡ None
no_offer_to s giver page k w free = grind arith

-- the book and the offers with a new child
abbrev pub with_child : State → ℕ → ℕ → ℕ → Spaces → State
with_child s q k quota S = record {
  spaces = S;
  book =
      map.insert s.book k (record { parent = q; quota = quota });
  offers = s.offers;
}

-- a new child sees its own pages alone
pub own_seen : (s : State) (q k quota : ℕ) (S : Spaces) → IsWellFormed s → is_live s k ≡ false → (slot : Slot)
    → (is_of k slot || is_offered (with_child s q k quota S) k slot) ≡ true → slot ≡ at_page k slot.page
own_seen s q k quota S w free slot v = grind (arith, eqb-true, no_offer_to)

-- pages with groups of their own
abbrev pub AreLone : Spaces → ℕ → Type 0
AreLone S k = (page : ℕ) (c : Cell) → map.get S (at_page k page) ≡ Some c → c.holders ≡ lone (at_page k page)

pub none_lone : (S : Spaces) (k : ℕ) → ((page : ℕ) → map.get S (at_page k page) ≡ None) → AreLone S k
none_lone S k none page c h = absurd (let x : Some c ≡ None = sym h ∙ none page in cc)

pub copy_lone : (S : Spaces) (q k : ℕ) → AreLone (copied S q k) k
copy_lone S q k page c h = grind (arith, copied-own)

-- the flags and the bytes of a copy, by those of what it copies
pub copy_flags : (slot : Slot) (x : Option Cell)
    → option_map flags_of (option_map (copy_of slot) x) ≡ option_map
    (λ (f : Flags). record f { accessed = false; dirty = false }) (option_map flags_of x)
copy_flags slot x = grind arith

pub copy_shown : (slot : Slot) (x : Option Cell)
    → option_map shown_of (option_map (copy_of slot) x) ≡ option_map
    (λ (f : Shown). record f { holders = set.len (lone slot) }) (option_map shown_of x)
copy_shown slot x = grind arith
