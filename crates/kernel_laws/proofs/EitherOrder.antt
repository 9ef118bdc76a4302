-- An access and an event of another process, in either order.
use Rattle.kernel_laws.proofs.Prelude.{◌≡◌, ◌≢◌, ℕ, ◌+◌, ◌<◌, ◌≤◌, ◌||◌, Bool, true, false, refl, ap, sym, ◌∙◌, inr, arith, Option, Some, None, unwrap_or, is_some, subst, length, eq-eqb, eqb-true, ne_eqb, option_map, byte_count, touched, Size, same, Set, contains-insert, same-true, same_apart, Slot, slot_order, Cell, Spaces, at_page, slot_at, cell_or_fresh, fresh, bytes_of, without, is_slot, is_of, length-bytes_of, offer_key, State, is_live, child_of, IsWellFormed, HaveTheSame, LooksSame, Sees, IsUnseen, IsQuietCall, is_offered, found, accept_refusal, offered, fork_refusal, child_free, no_page, may_fork, may_accept, answer, answer_of, after, next, completes, Call, Event, or-true, only, InEitherOrder, AccessesBeside, OrdersEndTheSame, is_access, at_slot, group_at, next-stays, next-goes, outsiders_unseen, not-refused, caller_live, members_told_the_same}
use Rattle.kernel_laws.proofs.Commuting.{Commutes, EachFree, IsOut, load_through, store_through, slot_commutes, load_commutes}
use Rattle.kernel_laws.proofs.CommutingForks.{copied_commutes}
use Rattle.kernel_laws.proofs.CommutingGone.{NoneWith, gone_commutes}
use Rattle.kernel_laws.proofs.CommutingJoins.{joined_commutes}
use Rattle.kernel_laws.proofs.CommutingStores.{IsBeside, store_commutes}
use Rattle.page_words.specs.FiniteMap as map
use Rattle.page_words.specs.FiniteSet as set
use Rattle.kernel_calls.specs.declared.calls.Call.TheVariants as call

-- what looks the same to a process is the same of what it has
looks_has : (s t : State) (p : ℕ) → LooksSame s t (only p) → HaveTheSame s t (only p)
looks_has s t p l = grind (arith, eq-eqb)

next_book : (s : State) (o : Event) → is_access o.call ≡ true → (next s o).book ≡ s.book
next_book s o h = grind (arith, next-stays, next-goes)

-- what a call finds of who is live is in the book
found_book : (s t : State) (c : Call) → t.book ≡ s.book → found s c ≡ found t c
found_book s t c same = grind arith

-- an access finds nothing, and takes no offer
found_access : (s t : State) (c : Call) → is_access c ≡ true → found s c ≡ found t c
found_access s t c h = grind arith

-- where two states look the same to a process, and it finds the same, it is told the same
told : (s t : State) (e : Event) → LooksSame s t (only e.pid) → found s e.call ≡ found t e.call → answer s e ≡ answer t e
told s t e l finds =
    members_told_the_same s t e (only e.pid) (looks_has s t e.pid l) (eq-eqb e.pid e.pid refl) finds
    (λ giver page own accepts. ap is_some (l.offers (offer_key giver page e.pid) (inr (eq-eqb e.pid e.pid refl))))

pub accesses_beside : AccessesBeside
accesses_beside s e o w beside =
    let to_event = outsiders_unseen s o (only e.pid) w (ne_eqb o.pid e.pid beside.another) beside.unseen in
    let to_access = outsiders_unseen s e (only o.pid) w (ne_eqb e.pid o.pid (λ is. beside.another (sym is))) beside.unheard in
    record {
      event = sym (told s (next s o) e to_event (found_book s (next s o) e.call (next_book s o beside.access)));
      access = sym (told s (next s e) o to_access (found_access s (next s e) o.call beside.access));
      event_has = looks_has s (next s o) e.pid to_event;
      access_has = looks_has s (next s e) o.pid to_access;
    }

-- ---- One state

-- a call that changes at most slots of its process's own, and no bytes of groups
abbrev slots_only : Call → Bool
slots_only (call.Store addr size value) = false
slots_only (call.Unmap page) = false
slots_only (call.Accept giver giver_page page) = false
slots_only (call.Fork quota) = false
slots_only call.Exit = false
slots_only _ = true

-- such a call, and what commutes with changes of its process's slots, in either order
by_slots : (s : State) (p : ℕ) (c : Call) (O : Spaces → Spaces) (Good : Spaces → Type 0) (Free : Spaces → Slot → Type 0)
    → Commutes p O Good Free
    → ((page : ℕ) (f : Option Cell → Cell) → O (at_slot (at_page p page) f s.spaces) ≡ at_slot (at_page p page) f (O s.spaces))
    → Good s.spaces → slots_only c ≡ true
    → after (record s { spaces = O s.spaces }) p c ≡ record (after s p c) { spaces = O (after s p c).spaces }
by_slots s p (call.Load addr size) O Good Free through slots good keeps =
    ap (λ (S : Spaces). record s { spaces = S }) (sym (load_through p O Good Free through (touched addr size) s.spaces good))
by_slots s p (call.Map page write) O Good Free through slots good keeps =
    ap (λ (S : Spaces). record s { spaces = S }) (sym (slots page (λ _. fresh (at_page p page) write)))
by_slots s p (call.Protect page write) O Good Free through slots good keeps =
    ap (λ (S : Spaces). record s { spaces = S })
    (sym (slots page (λ x. record (unwrap_or x (fresh (at_page p page) true)) { write = write })))
by_slots s p _ O Good Free through slots good keeps = grind arith

-- a slot that a process has is in no group of bytes that it doesn't see
free_unseen : (s : State) (p q addr : ℕ) (size : Size) (value : ℕ) → p ≢ q
    → ((byte : ℕ) → addr ≤ byte → byte < addr + byte_count size → IsUnseen s (only p) (slot_at q byte))
    → (a : Slot) → a.pid ≡ p → EachFree (IsOut a) s.spaces q addr (bytes_of (byte_count size) value)
free_unseen s p q addr size value differ unseen a own i l =
    by (map.get s.spaces (slot_at q (addr + i))) refl
  where
    slot : Slot
    slot = slot_at q (addr + i)

    apart : a ≢ slot
    apart is = differ (sym own ∙ ap (λ (x : Slot). x.pid) is)

    inside : addr + i < addr + byte_count size
    inside = let long = length-bytes_of (byte_count size) value in omega (arith, l, long)

    either : (c : Cell) (b : Bool) → set.contains c.holders a ≡ b → map.get s.spaces slot ≡ Some c → set.contains c.holders a ≡ false
    either c false is there = is
    either c true is there = absurd (unseen (addr + i) (omega arith) inside a
        (ap (λ (x : Option Cell). unwrap_or (option_map (λ (k : Cell). set.contains k.holders a) x) false) there ∙ is)
        (p, eq-eqb p p refl, (λ j. eq-eqb a.pid p own j || is_offered s p a)))

    by : (x : Option Cell) → map.get s.spaces slot ≡ x → set.contains (cell_or_fresh s.spaces slot).holders a ≡ false
    by x is = grind (arith, slot, contains-insert, same_apart, apart, either)

slot_calls_commute : (s : State) (p q : ℕ) (c d : Call) → p ≢ q → slots_only c ≡ true → is_access d ≡ true
    → IsQuietCall s (only p) q d → after (after s q d) p c ≡ after (after s p c) q d
slot_calls_commute s p q c (call.Load addr size) differ keeps h quiet =
    by_slots s p c _ _ _ (load_commutes p q (touched addr size) differ)
    (λ page f. sym (load_through q _ _ _ (slot_commutes (at_page p page) q differ f) (touched addr size) s.spaces tt))
    tt keeps
slot_calls_commute s p q c (call.Store addr size value) differ keeps h quiet =
    let free = λ (page : ℕ). free_unseen s p q addr size value differ quiet (at_page p page) refl in
    by_slots s p c _ _ _ (store_commutes p q addr (bytes_of (byte_count size) value) (touched addr size) differ)
    (λ page f. sym (store_through q _ _ _ (slot_commutes (at_page p page) q differ f) (touched addr size) s.spaces addr
    (bytes_of (byte_count size) value) tt (free page))) free keeps
slot_calls_commute s p q c _ differ keeps h quiet = cc

-- two stores into groups that have nothing in common
stores_apart : (s : State) (p q from to : ℕ) (size n : Size) (value v : ℕ) → IsWellFormed s → p ≢ q
    → IsQuietCall s (only p) q (call.Store to n v) → IsQuietCall s (only q) p (call.Store from size value)
    → EachFree (IsBeside q to (bytes_of (byte_count n) v)) s.spaces p from (bytes_of (byte_count size) value)
stores_apart s p q from to size n value v w differ quiet heard i l = (
  λ m. free_unseen s q p from size value back heard (at_page q m) refl i l,
  λ j k. record {
    differ = λ is. differ (ap (λ (x : Slot). x.pid) is);
    first = first i j k;
    second = second i j l;
    none = λ x one two. none x i j (first i j k) (second i j l) one two
        (map.get s.spaces (slot_at p (from + i))) refl (map.get s.spaces (slot_at q (to + j))) refl;
  },
)
  where
    back : q ≢ p
    back is = differ (sym is)

    first : (i j : ℕ) → j < length (bytes_of (byte_count n) v)
        → set.contains (group_at s.spaces (slot_at q (to + j))) (slot_at p (from + i)) ≡ false
    first i j k = free_unseen s p q to n v differ quiet (slot_at p (from + i)) refl j k

    second : (i j : ℕ) → i < length (bytes_of (byte_count size) value)
        → set.contains (group_at s.spaces (slot_at p (from + i))) (slot_at q (to + j)) ≡ false
    second i j l = free_unseen s q p from size value back heard (slot_at q (to + j)) refl i l

    lone : (a x : Slot) → map.get s.spaces a ≡ None → set.contains (group_at s.spaces a) x ≡ true → x ≡ a
    lone a x is h = by (same slot_order x a) refl
        (sym (contains-insert {o = slot_order} set.empty a x)
        ∙ sym (ap (λ (z : Option Cell). set.contains (unwrap_or z (fresh a true)).holders x) is) ∙ h)
      where
        by : (b : Bool) → same slot_order x a ≡ b → (b || false) ≡ true → x ≡ a
        by b k e = grind (arith, same-true)

    none : (x : Slot) (i j : ℕ) → set.contains (group_at s.spaces (slot_at q (to + j))) (slot_at p (from + i)) ≡ false
        → set.contains (group_at s.spaces (slot_at p (from + i))) (slot_at q (to + j)) ≡ false
        → set.contains (group_at s.spaces (slot_at p (from + i))) x ≡ true
        → set.contains (group_at s.spaces (slot_at q (to + j))) x ≡ true
        → (y : Option Cell) → map.get s.spaces (slot_at p (from + i)) ≡ y
        → (z : Option Cell) → map.get s.spaces (slot_at q (to + j)) ≡ z → ⊥
    none x i j no_a no_b one two None is z at = grind (arith, lone, group_at)
    none x i j no_a no_b one two (Some c) is None at = grind (arith, lone, group_at)
    none x i j no_a no_b one two (Some c) is (Some d) at =
        let group_c = ap (λ (z : Option Cell). (unwrap_or z (fresh (slot_at p (from + i)) true)).holders) is in
        let group_d = ap (λ (z : Option Cell). (unwrap_or z (fresh (slot_at q (to + j)) true)).holders) at in
        let of_c = w.cells (slot_at p (from + i)) c is in
        let of_d = w.cells (slot_at q (to + j)) d at in
        let x_c = of_c.alike x (sym (ap (λ (g : Set slot_order). set.contains g x) group_c) ∙ one) in
        let x_d = of_d.alike x (sym (ap (λ (g : Set slot_order). set.contains g x) group_d) ∙ two) in
        let e : Some x_c.0 ≡ Some x_d.0 = sym x_c.1 ∙ x_d.1 in
        let same : x_c.0 ≡ x_d.0 = cc in
        let groups : c.holders ≡ d.holders = sym x_c.2 ∙ ap (λ (z : Cell). z.holders) same ∙ x_d.2 in
        let k : false ≡ true = sym no_a ∙ ap (λ (g : Set slot_order). set.contains g (slot_at p (from + i))) (group_d ∙ sym groups) ∙ of_c.own in
        cc

stores_commute : (s : State) (p q from to : ℕ) (size n : Size) (value v : ℕ) → IsWellFormed s → p ≢ q
    → IsQuietCall s (only p) q (call.Store to n v) → IsQuietCall s (only q) p (call.Store from size value)
    → after (after s q (call.Store to n v)) p (call.Store from size value)
    ≡ after (after s p (call.Store from size value)) q (call.Store to n v)
stores_commute s p q from to size n value v w differ quiet heard =
    ap (λ (S : Spaces). record s { spaces = S })
    (sym (store_through p _ _ _ (store_commutes p q to (bytes_of (byte_count n) v) (touched to n) differ) (touched from size)
    s.spaces from (bytes_of (byte_count size) value)
    (λ m. free_unseen s p q to n v differ quiet (at_page p m) refl)
    (stores_apart s p q from to size n value v w differ quiet heard)))

-- no slot that goes is in a group of a process which sees none of them
none_with : (s : State) (q : ℕ) (gone : Slot → Bool) → IsWellFormed s → ((n : ℕ) → gone (at_page q n) ≡ false)
    → ((x : Slot) → gone x ≡ true → IsUnseen s (only q) x) → NoneWith gone q s.spaces
none_with s q gone w stays unseen n x held = by (gone x) refl (map.get s.spaces b) refl
  where
    b : Slot
    b = at_page q n

    by : (k : Bool) → gone x ≡ k → (y : Option Cell) → map.get s.spaces b ≡ y → gone x ≡ false
    by false is y there = is
    by true is None there = here (same slot_order x b) refl
        (sym (contains-insert {o = slot_order} set.empty b x)
        ∙ sym (ap (λ (z : Option Cell). set.contains (unwrap_or z (fresh b true)).holders x) there) ∙ held)
      where
        here : (j : Bool) → same slot_order x b ≡ j → (j || false) ≡ true → gone x ≡ false
        here true at e = ap gone (same-true slot_order x b at) ∙ stays n
        here false at e = cc
    by true is (Some c) there =
        let group = ap (λ (z : Option Cell). (unwrap_or z (fresh b true)).holders) there in
        let cell = w.cells b c there in
        let other = cell.alike x (sym (ap (λ (g : Set slot_order). set.contains g x) group) ∙ held) in
        absurd (unseen x is b
        (ap (λ (z : Option Cell). unwrap_or (option_map (λ (k : Cell). set.contains k.holders b) z) false) other.1
        ∙ ap (λ (g : Set slot_order). set.contains g b) other.2 ∙ cell.own)
        (q, eq-eqb q q refl, (λ j. eq-eqb q q refl j || is_offered s q b)))

-- slots go, and an access
gone_commute : (s : State) (q : ℕ) (gone : Slot → Bool) (d : Call) → is_access d ≡ true → ((n : ℕ) → gone (at_page q n) ≡ false)
    → NoneWith gone q s.spaces → without (after s q d).spaces gone ≡ (after (record s { spaces = without s.spaces gone }) q d).spaces
gone_commute s q gone (call.Load addr size) h stays none =
    load_through q _ _ _ (gone_commutes gone q stays) (touched addr size) s.spaces none
gone_commute s q gone (call.Store addr size value) h stays none =
    store_through q _ _ _ (gone_commutes gone q stays) (touched addr size) s.spaces addr
    (bytes_of (byte_count size) value) none (λ i l. tt)
gone_commute s q gone _ h stays none = cc

unmap_commutes : (s : State) (p q page : ℕ) (d : Call) → IsWellFormed s → p ≢ q → is_access d ≡ true
    → IsUnseen s (only q) (at_page p page)
    → after (after s q d) p (call.Unmap page) ≡ after (after s p (call.Unmap page)) q d
unmap_commutes s p q page (call.Load addr size) w differ h heard =
    let stays = λ (n : ℕ). same_apart slot_order (at_page p page) (at_page q n) (λ is. differ (ap (λ (x : Slot). x.pid) is)) in
    ap (λ (S : Spaces). record (after s p (call.Unmap page)) { spaces = S })
    (gone_commute s q (is_slot p page) (call.Load addr size) refl stays
    (none_with s q (is_slot p page) w stays (λ x is. subst (IsUnseen s (only q)) (same-true slot_order (at_page p page) x is) heard)))
unmap_commutes s p q page (call.Store addr size value) w differ h heard =
    let stays = λ (n : ℕ). same_apart slot_order (at_page p page) (at_page q n) (λ is. differ (ap (λ (x : Slot). x.pid) is)) in
    ap (λ (S : Spaces). record (after s p (call.Unmap page)) { spaces = S })
    (gone_commute s q (is_slot p page) (call.Store addr size value) refl stays
    (none_with s q (is_slot p page) w stays (λ x is. subst (IsUnseen s (only q)) (same-true slot_order (at_page p page) x is) heard)))
unmap_commutes s p q page _ w differ h heard = cc

exit_commutes : (s : State) (p q : ℕ) (d : Call) → IsWellFormed s → p ≢ q → is_access d ≡ true
    → ((page : ℕ) → IsUnseen s (only q) (at_page p page)) → after (after s q d) p call.Exit ≡ after (after s p call.Exit) q d
exit_commutes s p q (call.Load addr size) w differ h heard =
    let stays = λ (n : ℕ). ne_eqb q p (λ is. differ (sym is)) in
    ap (λ (S : Spaces). record (after s p call.Exit) { spaces = S })
    (gone_commute s q (is_of p) (call.Load addr size) refl stays
    (none_with s q (is_of p) w stays (λ x is. subst (λ n. IsUnseen s (only q) (at_page n x.page)) (sym (eqb-true x.pid p is)) (heard x.page))))
exit_commutes s p q (call.Store addr size value) w differ h heard =
    let stays = λ (n : ℕ). ne_eqb q p (λ is. differ (sym is)) in
    ap (λ (S : Spaces). record (after s p call.Exit) { spaces = S })
    (gone_commute s q (is_of p) (call.Store addr size value) refl stays
    (none_with s q (is_of p) w stays (λ x is. subst (λ n. IsUnseen s (only q) (at_page n x.page)) (sym (eqb-true x.pid p is)) (heard x.page))))
exit_commutes s p q _ w differ h heard = cc

-- what a set sees is in the group of no slot that is unseen by it
unseen_none : (s : State) (Q : ℕ → Bool) (a x : Slot) → IsUnseen s Q a → Sees s Q x → a ≢ x
    → set.contains (group_at s.spaces a) x ≡ false
unseen_none s Q a x unseen sees apart = by (map.get s.spaces a) refl
  where
    either : (c : Cell) (b : Bool) → set.contains c.holders x ≡ b → map.get s.spaces a ≡ Some c → set.contains c.holders x ≡ false
    either c false is there = is
    either c true is there = absurd (unseen x
        (ap (λ (z : Option Cell). unwrap_or (option_map (λ (k : Cell). set.contains k.holders x) z) false) there ∙ is) sees)

    by : (z : Option Cell) → map.get s.spaces a ≡ z → set.contains (group_at s.spaces a) x ≡ false
    by z is = grind (arith, contains-insert, same_apart, either)

own_seen_by : (s : State) (q : ℕ) (x : Slot) → x.pid ≡ q → Sees s (only q) x
own_seen_by s q x own = (q, eq-eqb q q refl, (λ i. eq-eqb x.pid q own i || is_offered s q x))

offered_seen : (s : State) (p giver giver_page : ℕ) → is_offered s p (at_page giver giver_page) ≡ true
    → Sees s (only p) (at_page giver giver_page)
offered_seen s p giver giver_page offer =
    (p, eq-eqb p p refl, ap (λ b. is_of p (at_page giver giver_page) || b) offer ∙ or-true (is_of p (at_page giver giver_page)))

accept_commutes : (s : State) (p q giver giver_page page : ℕ) (d : Call) → IsWellFormed s → p ≢ q → is_access d ≡ true
    → completes (answer_of s p (call.Accept giver giver_page page)) ≡ true
    → IsQuietCall s (only p) q d → IsQuietCall s (only q) p (call.Accept giver giver_page page)
    → after (after s q d) p (call.Accept giver giver_page page) ≡ after (after s p (call.Accept giver giver_page page)) q d
accept_commutes s p q giver giver_page page d w differ h done quiet heard = by d h quiet
  where
    from : Slot
    from = at_page giver giver_page

    to : Slot
    to = at_page p page

    right : Bool
    right = offered s giver giver_page p

    far : giver ≢ q
    far is = let k : true ≡ false = sym (eq-eqb giver q is) ∙ heard.0 in cc

    offer : is_offered s p from ≡ true
    offer = (may_accept s p giver giver_page page (not-refused (accept_refusal s p giver giver_page page) _ done)).there

    none : (n : ℕ) → set.contains (group_at s.spaces from) (at_page q n) ≡ false
    none n = unseen_none s (only q) from (at_page q n) heard.1 (own_seen_by s q (at_page q n) refl)
        (λ is. far (ap (λ (x : Slot). x.pid) is))

    by : (d : Call) → is_access d ≡ true → IsQuietCall s (only p) q d
        → after (after s q d) p (call.Accept giver giver_page page) ≡ after (after s p (call.Accept giver giver_page page)) q d
    by (call.Load addr size) k quiet =
        ap (λ (S : Spaces). record (after s p (call.Accept giver giver_page page)) { spaces = S })
        (load_through q _ _ _ (joined_commutes from to right q far differ) (touched addr size) s.spaces none)
    by (call.Store addr size value) k quiet =
        ap (λ (S : Spaces). record (after s p (call.Accept giver giver_page page)) { spaces = S })
        (store_through q _ _ _ (joined_commutes from to right q far differ) (touched addr size) s.spaces addr
        (bytes_of (byte_count size) value) none (λ i l. (
          (let long = length-bytes_of (byte_count size) value in
              unseen_none s (only p) (slot_at q (addr + i)) from (quiet (addr + i) (omega arith) (omega (arith, l, long)))
              (offered_seen s p giver giver_page offer) (λ is. far (sym (ap (λ (x : Slot). x.pid) is)))),
          free_unseen s p q addr size value differ quiet to refl i l,
        )))
    by _ k quiet = cc

fork_commutes : (s : State) (p q quota : ℕ) (d : Call) → IsWellFormed s → p ≢ q → is_access d ≡ true
    → completes (answer_of s p (call.Fork quota)) ≡ true → IsQuietCall s (only p) q d → only q (child_of s) ≡ false
    → after (after s q d) p (call.Fork quota) ≡ after (after s p (call.Fork quota)) q d
fork_commutes s p q quota d w differ h done quiet heard = by d h quiet
  where
    k : ℕ
    k = child_of s

    other : q ≢ p
    other is = differ (sym is)

    old : q ≢ k
    old is = let e : true ≡ false = sym (eq-eqb k q (sym is)) ∙ heard in cc

    free : is_live s k ≡ false
    free = child_free s p quota (may_fork s p quota (not-refused (fork_refusal s p quota) _ done)).spawn

    new : (b : Slot) (n : ℕ) → b.pid ≡ q → (z : Option Cell) → map.get s.spaces b ≡ z
        → (j : Bool) → set.contains (group_at s.spaces b) (at_page k n) ≡ j → set.contains (group_at s.spaces b) (at_page k n) ≡ false
    new b n own z is false held = held
    new b n own None is true held = absurd (here (same slot_order (at_page k n) b) refl
        (sym (contains-insert {o = slot_order} set.empty b (at_page k n))
        ∙ sym (ap (λ (z : Option Cell). set.contains (unwrap_or z (fresh b true)).holders (at_page k n)) is) ∙ held))
      where
        here : (j : Bool) → same slot_order (at_page k n) b ≡ j → (j || false) ≡ true → ⊥
        here true at e = old (sym own ∙ sym (ap (λ (x : Slot). x.pid) (same-true slot_order (at_page k n) b at)))
        here false at e = absurd (let f : false ≡ true = e in cc)
    new b n own (Some c) is true held = absurd (
        let group = ap (λ (z : Option Cell). (unwrap_or z (fresh b true)).holders) is in
        let there = (w.cells b c is).alike (at_page k n) (sym (ap (λ (g : Set slot_order). set.contains g (at_page k n)) group) ∙ held) in
        let e : None ≡ Some there.0 = sym (no_page s k w free n) ∙ there.1 in
        cc)

    by : (d : Call) → is_access d ≡ true → IsQuietCall s (only p) q d
        → after (after s q d) p (call.Fork quota) ≡ after (after s p (call.Fork quota)) q d
    by (call.Load addr size) h quiet =
        ap (λ (S : Spaces). record (after s p (call.Fork quota)) { spaces = S })
        (load_through q _ _ _ (copied_commutes p k q other old) (touched addr size) s.spaces tt)
    by (call.Store addr size value) h quiet =
        ap (λ (S : Spaces). record (after s p (call.Fork quota)) { spaces = S })
        (store_through q _ _ _ (copied_commutes p k q other old) (touched addr size) s.spaces addr
        (bytes_of (byte_count size) value) tt (λ i l. (
          λ n. free_unseen s p q addr size value differ quiet (at_page p n) refl i l,
          λ n. new (slot_at q (addr + i)) n refl (map.get s.spaces (slot_at q (addr + i))) refl
              (set.contains (group_at s.spaces (slot_at q (addr + i))) (at_page k n)) refl,
        )))
    by _ h quiet = cc

calls_commute : (s : State) (p q : ℕ) (c d : Call) → IsWellFormed s → p ≢ q → completes (answer_of s p c) ≡ true → is_access d ≡ true
    → IsQuietCall s (only p) q d → IsQuietCall s (only q) p c → after (after s q d) p c ≡ after (after s p c) q d
calls_commute s p q c d w differ done h quiet heard =
    grind (arith, slot_calls_commute, stores_commute, unmap_commutes, accept_commutes, fork_commutes, exit_commutes)

pub orders_end_the_same : OrdersEndTheSame
orders_end_the_same s e o w beside = by (completes (answer s e)) refl (completes (answer s o)) refl
  where
    both : InEitherOrder s e o
    both = accesses_beside s e o w beside

    -- where one doesn't complete, it does nothing in either order
    by : (b : Bool) → completes (answer s e) ≡ b → (c : Bool) → completes (answer s o) ≡ c → next (next s o) e ≡ next (next s e) o
    by false is c at = grind (arith, next-stays, both)
    by true is false at = grind (arith, next-stays, both)
    by true is true at = grind (arith, next-goes, both, calls_commute, caller_live, ne_eqb)
