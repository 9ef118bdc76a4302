-- What a family that keeps within itself has, whatever others do, and what its members' events make of it.
use Rattle.authority_laws.proofs.Prelude.{◌≡◌, ◌≢◌, ℕ, ◌&&◌, ◌==◌, not, Bool, true, false, cond, refl, sym, ap, subst, ◌∙◌, Option, Some, None, is_some, unwrap_or, arith, inl, inr, if◌then◌else◌, ◌⊎◌, option_map, same, get-insert, get-retain_keys, some_value, Slot, Cell, at_page, joined, Book, Member, is_child, given, quota_of, number_of_children, OfferKey, offer_order, offer_key, State, is_live, IsWellFormed, retained, parents_in, Standing, flags_of, shown_of, is_child_of, HaveTheSame, Sees, LooksSame, found, members_after, keeps_within, KeepsWithin, IsAsBefore, IsFamily, answer, after, next, Call, Event, eqb-true, eq-eqb, and_parts, len-retain, child_dead, maker_of, next-stays, next-goes, leaves_all}
use Rattle.authority_laws.proofs.Children.{place_of, children_are_their_makers, no_offer_by}
use Rattle.authority_laws.proofs.Confined.{next_confined, one_leaves}
use Rattle.authority_laws.proofs.Seen.{kept_offers}
use Rattle.authority_laws.proofs.SeenTogether.{members_see_the_same}
use Rattle.authority_laws.proofs.Views.{HasTheSame, member_has, process_told}
use Rattle.page_words.specs.FiniteMap as map
use Rattle.page_words.specs.FiniteSet as set
use Rattle.kernel_calls.specs.declared.calls.Call.TheVariants as call

-- ---- A child, by the book

abbrev child_in : ℕ → ℕ → Option Member → Bool
child_in p q x = unwrap_or (option_map (λ (m : Member). is_child p (q, m)) x) false

-- who is a child has a place, and its parent
child_place : (p q : ℕ) (x : Option Member) → child_in p q x ≡ true → (m : Member) × (x ≡ Some m) × (m.parent ≡ p)
child_place p q x h = grind (arith, eqb-true, and_parts)

-- ---- A family stays one

module _ (s : State) (e : Event) (C : ℕ → Bool) (w : IsWellFormed s) (family : IsFamily s C) (keeps : KeepsWithin C e)
  where
    -- a child of a member that was there is a member, and so is a new one
    child_member : (p q : ℕ) → members_after s C e p ≡ true → is_child_of (next s e) p q ≡ true
        → members_after s C e q ≡ true
    child_member p q member is =
        grind (arith, place_of, child_place, parents_in, children_are_their_makers, maker_of, child_dead, and_parts)

    pub next_family : IsFamily (next s e) (members_after s C e)
    next_family = record {
      confined = next_confined s e C (members_after s C e) w family.confined keeps
          (λ p before after_it. (λ i. after_it i && (if before i then C p else C e.pid)));
      live = λ p h. (and_parts (is_live (next s e) p) (if is_live s p then C p else C e.pid) h).0;
      children = child_member;
    }

-- ---- Events of others leave what it has

module _ (s : State) (e : Event) (C : ℕ → Bool) (w : IsWellFormed s) (family : IsFamily s C) (out : C e.pid ≡ false)
  where
    before : (q : ℕ) → C q ≡ true → IsAsBefore s (next s e) q
    before q h = one_leaves s e C q w family.confined h (family.live q h) out

    abbrev GivesTheSame : ℕ → Type 0
    GivesTheSame q = (given s.book q ≡ given (next s e).book q)
        × (number_of_children s.book q ≡ number_of_children (next s e).book q)

    gives_same : (q : ℕ) → C q ≡ true → GivesTheSame q
    gives_same q h = grind (arith, (leaves_all s e q w (family.live q h) apart))
      where
        apart : q ≢ e.pid
        apart x = let a = ap C x in let b = h in let o = out in cc

    pub others_leave : HaveTheSame s (next s e) C
    others_leave = record {
      standing = λ q h. λ i. record {
        live = sym (ap is_some (before q h).member) i;
        quota = sym (ap (λ (x : Option Member). unwrap_or (option_map (λ (m : Member). m.quota) x) 0)
            (before q h).member) i;
        given = (gives_same q h).0 i;
        children = (gives_same q h).1 i;
      };
      families = λ p q hp hq d. sym (ap (child_in p q) (before q hq).member);
      flags = λ slot h. sym (ap (option_map flags_of) ((before slot.pid h).pages slot.page));
      offers = λ key h. sym ((before key.offerer h).offers key.page key.target);
      pages = λ slot h. sym (ap (option_map shown_of) ((before slot.pid h).pages slot.page));
      same_page = λ slot other h k. sym (ap (λ (x : Option Cell).
          unwrap_or (option_map (λ (c : Cell). set.contains c.holders other) x) false)
          ((before slot.pid h).pages slot.page));
    }

-- ---- States that are left with the offers of members alone

abbrev by_member : (ℕ → Bool) → OfferKey → Bool
by_member Q k = Q k.offerer

abbrev within : (ℕ → Bool) → State → State
within Q s = record s { offers = map.retain_keys s.offers (by_member Q) }

well_within : (Q : ℕ → Bool) (s : State) → IsWellFormed s → IsWellFormed (within Q s)
well_within Q s w = record {
  root = w.root;
  root_parent = w.root_parent;
  processes = w.processes;
  rooms = w.rooms;
  owners = w.owners;
  cells = w.cells;
  offers = λ key right h.
      let o = w.offers key right (retained s.offers (by_member Q) key right h).1 in
      record { target = o.target; another = o.another; offered = o.offered };
  few = λ p. let a = len-retain s.offers (by_member Q) (λ key. key.offerer == p) in let b = w.few p in omega (arith, a, b);
}

-- an offer by a member is there in both, and so is none by who isn't live
offer_within : (Q : ℕ → Bool) (s : State) (key : OfferKey) → Q key.offerer ≡ true
    → map.get (within Q s).offers key ≡ map.get s.offers key
offer_within Q s key h = get-retain_keys s.offers (by_member Q) key ∙ ap (λ b. cond b (map.get s.offers key) None) h

none_within : (Q : ℕ → Bool) (s : State) (key : OfferKey) → IsWellFormed s → is_live s key.offerer ≡ false
    → map.get (within Q s).offers key ≡ map.get s.offers key
none_within Q s key w dead = grind (arith, (no_offer_by s key.offerer key.page key.target w dead), (well_within Q s w))

module _ (s t : State) (Q : ℕ → Bool) (l : HaveTheSame s t Q) where
  offers_within : (key : OfferKey) → map.get (within Q s).offers key ≡ map.get (within Q t).offers key
  offers_within key = grind (arith, get-retain_keys)

  -- what is seen there is a member's own
  own_within : (slot : Slot) → Sees (within Q s) Q slot → Q slot.pid ≡ true
  own_within slot v = grind (arith, eqb-true, some_value, retained)

  looks_within : LooksSame (within Q s) (within Q t) Q
  looks_within = grind (arith, offers_within, own_within)

-- ---- A member's event does the same there

-- how a process stands in a book
abbrev standing_in : ℕ → Book → Standing
standing_in q b = record {
  live = map.contains_key b q;
  quota = quota_of b q;
  given = given b q;
  children = number_of_children b q;
}

-- but for offers that differ before it
record Follows (s u v : State) (Q : ℕ → Bool) : Type 0 where
  spaces : u.spaces ≡ v.spaces
  book : u.book ≡ v.book
  offers : (key : OfferKey) → map.get (within Q s).offers key ≡ map.get s.offers key
      → map.get u.offers key ≡ map.get v.offers key

module _ (s : State) (e : Event) (Q : ℕ → Bool) (mine : Q e.pid ≡ true) (keeps : keeps_within Q e.call ≡ true) where
  has_within : HasTheSame (within Q s) s e.pid
  has_within = grind (arith, offer_within)

  told_within : answer (within Q s) e ≡ answer s e
  told_within = process_told _ s e has_within refl (λ giver page own is. ap is_some (grind (arith, offer_within)))

  after_within : (c : Call) → keeps_within Q c ≡ true → Follows s (after (within Q s) e.pid c) (after s e.pid c) Q
  after_within (call.Offer page target write) h = record {
    spaces = refl;
    book = refl;
    offers = λ key o.
        get-insert (within Q s).offers (offer_key e.pid page target) write key
        ∙ (λ i. cond (same offer_order key (offer_key e.pid page target)) (Some write) (o i))
        ∙ sym (get-insert s.offers (offer_key e.pid page target) write key);
  }
  after_within (call.Accept giver giver_page page) h = record {
    spaces = ap (λ (x : Option Bool). joined s.spaces (at_page giver giver_page) (at_page e.pid page)
        (unwrap_or x false)) (offer_within Q s (offer_key giver giver_page e.pid) h);
    book = refl;
    offers = λ key o. kept_offers (within Q s).offers s.offers
        (λ k. not (same offer_order (offer_key giver giver_page e.pid) k)) key o;
  }
  after_within _ h = record { spaces = refl; book = refl; offers = first_of (assumption, search kept_offers) }

  next_within : Follows s (next (within Q s) e) (next s e) Q
  next_within = grind (arith, next-goes, told_within, after_within, next-stays)

-- ---- So members have the same after a member's event

pub family_told : (s t : State) (e : Event) (Q : ℕ → Bool) → HaveTheSame s t Q → Q e.pid ≡ true
    → keeps_within Q e.call ≡ true → found s e.call ≡ found t e.call → answer s e ≡ answer t e
family_told s t e Q l mine keeps finds = grind (arith, process_told, member_has)

module _ (s t : State) (e : Event) (Q : ℕ → Bool) (w : IsWellFormed s) (v : IsWellFormed t) (l : HaveTheSame s t Q)
    (mine : Q e.pid ≡ true) (keeps : keeps_within Q e.call ≡ true) where
  abbrev D : ℕ → Bool
  D = members_after s Q e

  one : Follows s (next (within Q s) e) (next s e) Q
  one = next_within s e Q mine keeps

  two : Follows t (next (within Q t) e) (next t e) Q
  two = next_within t e Q mine keeps

  sets : members_after (within Q s) Q e ≡ members_after s Q e
  sets = λ i. λ p. map.contains_key (one.book i) p && (if is_live s p then Q p else Q e.pid)

  -- who is a member then was one, or was live in neither state
  offerer_of : found s e.call ≡ found t e.call → (p : ℕ) → D p ≡ true
      → (Q p ≡ true) ⊎ ((is_live s p ≡ false) × (is_live t p ≡ false))
  offerer_of finds p h = by (is_live s p) refl kept.1
    where
      kept : (is_live (next s e) p ≡ true) × ((if is_live s p then Q p else Q e.pid) ≡ true)
      kept = and_parts (is_live (next s e) p) (if is_live s p then Q p else Q e.pid) h

      by : (b : Bool) → is_live s p ≡ b → (if b then Q p else Q e.pid) ≡ true
          → (Q p ≡ true) ⊎ ((is_live s p ≡ false) × (is_live t p ≡ false))
      by true is k = inl k
      by false is k = grind (arith, (family_told s t e Q l mine keeps finds), (place_of s e p), kept, child_dead)

  offers_same : (u : State) → IsWellFormed u → Follows u (next (within Q u) e) (next u e) Q → (key : OfferKey)
      → (Q key.offerer ≡ true) ⊎ (is_live u key.offerer ≡ false)
      → map.get (next (within Q u) e).offers key ≡ map.get (next u e).offers key
  offers_same u x f key (inl by_them) = f.offers key (offer_within Q u key by_them)
  offers_same u x f key (inr dead) = f.offers key (none_within Q u key x dead)

  pub family_sees : found s e.call ≡ found t e.call → HaveTheSame (next s e) (next t e) (members_after s Q e)
  family_sees finds =
      let m : LooksSame (next (within Q s) e) (next (within Q t) e) D =
      subst (λ C. LooksSame (next (within Q s) e) (next (within Q t) e) C) sets
      (members_see_the_same (within Q s) (within Q t) e Q (well_within Q s w) (well_within Q t v)
      (looks_within s t Q l) mine finds) in
      record {
        standing = λ q h. sym (ap (standing_in q) one.book) ∙ m.standing q h ∙ ap (standing_in q) two.book;
        families = grind (arith, one, two);
        flags = grind (arith, one, two);
        offers = grind (arith, offers_same, one, offerer_of, two);
        pages = λ slot h. sym (ap (λ S. option_map shown_of (map.get S slot)) one.spaces) ∙ m.pages slot (own slot h)
            ∙ ap (λ S. option_map shown_of (map.get S slot)) two.spaces;
        same_page = λ slot other h k.
            sym (grind (arith, one)) ∙ m.same_page slot other (own slot h) (own other k)
            ∙ ap (λ S. unwrap_or (option_map (λ (c : Cell). set.contains c.holders other) (map.get S slot)) false)
            two.spaces;
      }
    where
      own : (slot : Slot) → D slot.pid ≡ true → Sees (next (within Q s) e) D slot
      own slot h = grind (arith, eq-eqb)
