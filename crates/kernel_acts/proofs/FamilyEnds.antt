-- A process and all that descend from it exit, children first.
use Rattle.kernel_acts.proofs.Prelude.{◌≡◌, ◌≢◌, ℕ, ◌≤◌, Bool, true, false, cond, not, ◌&&◌, ◌||◌, ◌==◌, List, [], ◌∷◌, ◌++◌, refl, sym, ap, subst, ◌∙◌, is_some, Option, Some, None, unwrap_or, arith, inl, inr, ◌⊎◌, if◌then◌else◌, option_map, ne_eqb, map-append, list_any-append, Set, same_map, same_set, get-retain_keys, contains-retain, some_value, get-remove, get-remove_other, Slot, slot_order, Cell, Spaces, without, with_holders, is_of, left, get-without, Member, is_child, given, quota_of, number_of_children, given-remove, without_process, State, is_live, after_exit, View, IsWellFormed, exit_of, exits, Descends, itself, child, ungrouped, EndsFamily, is_child_of, answer, answers, next, end_of, completes, ended_by, CarriesOut, EndAlong, Event, Ended, eqb-true, eq-eqb, or-true, and-true, or-false, all_done, is_among, ChildrenFirst, without_processes, unsigned_tied, next-goes, answers-append, end_of-append}
use Rattle.kernel_acts.proofs.Members.{child_entry, quota_below}
use Rattle.kernel_calls.proofs.Births.{no_parent}
use Rattle.page_words.specs.FiniteMap as map
use Rattle.page_words.specs.FiniteSet as set
use Rattle.kernel_calls.specs.declared.calls.Reply.TheVariants as reply
use Rattle.kernel_calls.specs.declared.translations.Ended.TheVariants as end

-- ---- Who descends from whom

-- what descends in a book with fewer children descends in the other
pub descends_up : {s t : State} {p q : ℕ} → ((a b : ℕ) → is_child_of t a b ≡ true → is_child_of s a b ≡ true)
    → Descends t p q → Descends s p q
descends_up up itself = itself
descends_up up (child {q = a} {r = b} d c) = child {q = a} {r = b} (descends_up up d) (up a b c)

pub descends_not_root : {s : State} {p q : ℕ} → p ≢ 0 → Descends s p q → q ≢ 0
descends_not_root x0 x1 = grind (arith, child_entry)

pub descends_live : {s : State} {p q : ℕ} → is_live s p ≡ true → Descends s p q → is_live s q ≡ true
descends_live x0 x1 = grind (arith, child_entry)

pub descends_quota : {s : State} {p q : ℕ} → IsWellFormed s → Descends s p q → quota_of s.book q ≤ quota_of s.book p
descends_quota w itself = omega arith
descends_quota {s} w (child {q = a} {r = b} d c) = grind (arith, (quota_below s a b w c), (descends_quota w d))

-- the parent of a descendant descends too
pub descends_parent : {s : State} {p q : ℕ} → q ≢ p → (m : Member) → map.get s.book q ≡ Some m → Descends s p q → Descends s p m.parent
descends_parent x0 x1 x2 x3 = grind arith

-- from who has no child nobody else descends
pub descends_alone : {s : State} {p q : ℕ} → ((r : ℕ) → is_child_of s p r ≡ false) → Descends s p q → q ≡ p
descends_alone none itself = refl
descends_alone {s} none (child {q = a} {r = b} d c) = grind (arith, (descends_alone none d))

-- without one that has no child all others descend as before
pub descends_less : (s t : State) (a : ℕ) → t.book ≡ map.remove s.book a → ((r : ℕ) → is_child_of s a r ≡ false)
    → {p q : ℕ} → Descends s p q → (q ≡ a) ⊎ Descends t p q
descends_less s t a is none itself = inr itself
descends_less s t a is none {p} (child {q = x} {r = y} d c) = by (descends_less s t a is none d) (y == a) refl
  where
    by : (x ≡ a) ⊎ Descends t p x → (b : Bool) → (y == a) ≡ b → (y ≡ a) ⊎ Descends t p y
    by (inl same) b h = absurd (let no : is_child_of s x y ≡ false = ap (λ n. is_child_of s n y) same ∙ none y in cc)
    by (inr d') true h = inl (eqb-true y a h)
    by (inr d') false h = inr (child {q = x} {r = y} d' (grind (arith, get-remove_other)))

-- ---- The state without some processes

nor : (a b c : Bool) → ((a && not b) && not c) ≡ (a && not (b || c))
nor a b c = grind arith

module _ (S : Spaces) (first second : Slot → Bool) where
  abbrev all : Slot → Bool
  all slot = first slot || second slot

  fewer : (h : Set slot_order) → set.retain (set.retain h (λ x. not (first x))) (λ x. not (second x)) ≡ set.retain h (λ x. not (all x))
  fewer h = same_set _ _ (λ x.
      contains-retain (set.retain h (λ x. not (first x))) (λ x. not (second x)) x
      ∙ ap (λ b. b && not (second x)) (contains-retain h (λ x. not (first x)) x)
      ∙ nor (set.contains h x) (first x) (second x)
      ∙ sym (contains-retain h (λ x. not (all x)) x))

  two : (b c : Bool) (x : Option Cell) → cond (not c) (option_map (left second) (cond (not b) (option_map (left first) x) None)) None ≡ cond (not (b || c)) (option_map (left all) x) None
  two b c x = grind (arith, fewer)

  pub without_both : without (without S first) second ≡ without S all
  without_both = same_map _ _ (λ q.
      get-without (without S first) second q
      ∙ ap (λ x. cond (not (second q)) (option_map (left second) x) None) (get-without S first q)
      ∙ two (first q) (second q) (map.get S q)
      ∙ sym (get-without S all q))

twice : {A : Type 0} (b c : Bool) (x : Option A) → cond c None (cond (not b) x None) ≡ cond (not (b || c)) x None
twice b c x = grind arith

pub stays_twice : {A : Type 0} (b c : Bool) (x : Option A) → cond (not c) (cond (not b) x None) None ≡ cond (not (b || c)) x None
stays_twice b c x = grind arith

or_four : (a b c d : Bool) → ((a || b) || (c || d)) ≡ ((a || c) || (b || d))
or_four a b c d = grind arith

abbrev grown : (ℕ → Bool) → ℕ → ℕ → Bool
grown gone a q = gone q || (q == a)

-- one process more that exits
pub without_more : (s : State) (gone : ℕ → Bool) (a : ℕ) → after_exit (without_processes s gone) a ≡ without_processes s (grown gone a)
without_more s gone a = λ i. record { spaces = spaces i; book = book i; offers = offers i }
  where
    spaces : without (without s.spaces (λ slot. gone slot.pid)) (is_of a) ≡ without s.spaces (λ slot. grown gone a slot.pid)
    spaces = without_both s.spaces (λ slot. gone slot.pid) (is_of a)

    book : map.remove (map.retain_keys s.book (λ q. not (gone q))) a ≡ map.retain_keys s.book (λ q. not (grown gone a q))
    book = same_map _ _ (λ q.
        get-remove (map.retain_keys s.book (λ q. not (gone q))) a q
        ∙ ap (λ b. cond b None (map.get (map.retain_keys s.book (λ q. not (gone q))) q)) (unsigned_tied q a)
        ∙ ap (λ x. cond (q == a) None x) (get-retain_keys s.book (λ q. not (gone q)) q)
        ∙ twice (gone q) (q == a) (map.get s.book q)
        ∙ sym (get-retain_keys s.book (λ q. not (grown gone a q)) q))

    offers : without_process (map.retain_keys s.offers (λ key. not (gone key.offerer || gone key.target))) a
        ≡ map.retain_keys s.offers (λ key. not (grown gone a key.offerer || grown gone a key.target))
    offers = same_map _ _ (λ key.
        get-retain_keys (map.retain_keys s.offers (λ key. not (gone key.offerer || gone key.target))) (λ k. not ((k.offerer == a) || (k.target == a))) key
        ∙ ap (λ x. cond (not ((key.offerer == a) || (key.target == a))) x None) (get-retain_keys s.offers (λ key. not (gone key.offerer || gone key.target)) key)
        ∙ stays_twice (gone key.offerer || gone key.target) ((key.offerer == a) || (key.target == a)) (map.get s.offers key)
        ∙ ap (λ b. cond (not b) (map.get s.offers key) None) (or_four (gone key.offerer) (gone key.target) (key.offerer == a) (key.target == a))
        ∙ sym (get-retain_keys s.offers (λ key. not (grown gone a key.offerer || grown gone a key.target)) key))

pub among-more : (order : List ℕ) (a q : ℕ) → is_among (order ++ a ∷ []) q ≡ (is_among order q || (q == a))
among-more order a q = list_any-append (λ p. q == p) order (a ∷ []) ∙ ap (λ b. is_among order q || b) (or-false (q == a))

-- ---- One Exit more

-- the Exit of a live process without children, other than the root, is done
pub exit_done : (t : State) (a : ℕ) → is_live t a ≡ true → a ≢ 0 → number_of_children t.book a ≡ 0 → answer t (exit_of a) ≡ reply.Done
exit_done t a live not_root none = grind (arith, ne_eqb)

pub exit_after : (t : State) (a : ℕ) → answer t (exit_of a) ≡ reply.Done → next t (exit_of a) ≡ after_exit t a
exit_after t a done = next-goes t (exit_of a) (ap completes done)

pub exit_ends : (v : View) (a : ℕ) → answer v.state (exit_of a) ≡ reply.Done → end.Space a ≡ ended_by v (exit_of a)
exit_ends v a done = sym (ap (λ b. if b then end.Space a else end.Nothing) (ap completes done))

-- one event more of a run, with what it ends
pub along_more : (events : List Event) (ended : List Ended) (v w u : View) (e : Event) (x : Ended) → EndAlong events ended v w
    → x ≡ ended_by w e → CarriesOut w e u → EndAlong (events ++ e ∷ []) (ended ++ x ∷ []) v u
along_more [] [] v w u e x along is carried =
    (u, is ∙ ap (λ k. ended_by k e) (sym along), subst (λ k. CarriesOut k e u) (sym along) carried, refl)
along_more (f ∷ events) (y ∷ ended) v w u e x along is carried =
    (along.0, along.1, along.2, along_more events ended along.0 w u e x along.3 is carried)
along_more _ _ v w u e x along is carried = grind arith

first_more : (s : State) (order : List ℕ) (a : ℕ) → ChildrenFirst s order → ((q : ℕ) → is_among order q ≡ true → is_child_of s q a ≡ false)
    → ChildrenFirst s (order ++ a ∷ [])
first_more s [] a first none = ((λ r c. refl), tt)
first_more s (x ∷ order) a first none =
    ((λ r c. among-more order a r ∙ (λ i. first.0 r c i || apart r c i)), first_more s order a first.1 (λ q h. none q (later q h)))
  where
    own : is_among (x ∷ order) x ≡ true
    own = ap (λ b. b || is_among order x) (eq-eqb x x refl)

    later : (q : ℕ) → is_among order q ≡ true → is_among (x ∷ order) q ≡ true
    later q h = grind (arith, or-true)

    apart : (r : ℕ) → is_child_of s x r ≡ true → (r == a) ≡ false
    apart r c = ne_eqb r a (λ e. absurd (let no : is_child_of s x r ≡ false = ap (is_child_of s x) e ∙ none x own in cc))

-- the Exits of some that descend from p, in an order in which children come first
pub record Exited (s : State) (p : ℕ) (order : List ℕ) (t : State) : Type 0 where
  pub left : t ≡ without_processes s (is_among order)
  pub after : end_of s (exits order) ≡ t
  pub done : answers s (exits order) ≡ all_done (exits order)
  pub first : ChildrenFirst s order
  pub inside : (q : ℕ) → is_among order q ≡ true → Descends s p q

module _ (s t : State) (gone : ℕ → Bool) (is : t ≡ without_processes s gone) where
  pub get_left : (q : ℕ) → map.get t.book q ≡ cond (not (gone q)) (map.get s.book q) None
  get_left q = ap (λ (x : State). map.get x.book q) is ∙ get-retain_keys s.book (λ q. not (gone q)) q

  -- who is live is not gone
  pub not_gone : (q : ℕ) → is_live t q ≡ true → gone q ≡ false
  not_gone q live = grind (arith, get_left)

  pub gone_dead : (q : ℕ) → gone q ≡ true → is_live t q ≡ false
  gone_dead q h = ap is_some (get_left q) ∙ ap (λ b. is_some (cond (not b) (map.get s.book q) None)) h

  pub same_entry : (q : ℕ) → gone q ≡ false → map.get t.book q ≡ map.get s.book q
  same_entry q h = get_left q ∙ ap (λ b. cond (not b) (map.get s.book q) None) h

  -- a child by then was one before
  pub child_before : (a b : ℕ) → is_child_of t a b ≡ true → is_child_of s a b ≡ true
  child_before a b h = grind (arith, child_entry, same_entry, not_gone)

pub exited_more : (s t : State) (p a : ℕ) (order : List ℕ) → Exited s p order t → IsWellFormed t → is_live t a ≡ true
    → Descends t p a → answer t (exit_of a) ≡ reply.Done → Exited s p (order ++ a ∷ []) (next t (exit_of a))
exited_more s t p a order x w live below done = record {
  left = goes ∙ ap (λ k. after_exit k a) x.left ∙ without_more s (is_among order) a
      ∙ (λ i. without_processes s (λ q. sym (among-more order a q) i));
  after = grind (arith, map-append, end_of-append);
  done = grind (arith, map-append, answers-append);
  first = grind (arith, first_more, same_entry, left, not_gone, no_parent, gone_dead);
  inside = λ q h. in_more q (is_among order q) refl (sym (among-more order a q) ∙ h);
}
  where
    goes : next t (exit_of a) ≡ after_exit t a
    goes = exit_after t a done

    in_more : (q : ℕ) (b : Bool) → is_among order q ≡ b → (is_among order q || (q == a)) ≡ true → Descends s p q
    in_more q b is h = grind (arith, eqb-true, descends_up, child_before, left)

-- the same while p itself has not exited: whoever descends from it has exited or descends from it still, and its parent
-- has given what it had given
pub record Ending (s : State) (p : ℕ) (order : List ℕ) (t : State) : Type 0 where
  pub exited : Exited s p order t
  pub live : is_live t p ≡ true
  pub rest : (q : ℕ) → Descends s p q → (is_among order q ≡ true) ⊎ Descends t p q
  pub gives : (g : ℕ) → is_child_of s g p ≡ true → given s.book g ≡ given t.book g

-- before any
pub ending_none : (s : State) (p : ℕ) → is_live s p ≡ true → Ending s p [] s
ending_none s p live = record {
  exited = record {
    left = λ i. record {
      spaces = same_map s.spaces (without s.spaces (λ _. false)) (λ q. sym (get-without s.spaces (λ _. false) q ∙ same (map.get s.spaces q))) i;
      book = same_map s.book (map.retain_keys s.book (λ _. true)) (λ q. sym (get-retain_keys s.book (λ _. true) q)) i;
      offers = same_map s.offers (map.retain_keys s.offers (λ _. true)) (λ q. sym (get-retain_keys s.offers (λ _. true) q)) i;
    };
    after = refl;
    done = refl;
    first = tt;
    inside = λ q h. cc;
  };
  live = live;
  rest = λ q d. inr d;
  gives = λ g h. refl;
}
  where
    all_stay : (h : Set slot_order) → set.retain h (λ _. true) ≡ h
    all_stay h = same_set _ _ (λ x. contains-retain h (λ _. true) x ∙ and-true (set.contains h x))

    same : (x : Option Cell) → option_map (left (λ _. false)) x ≡ x
    same None = refl
    same (Some c) = ap (λ h. Some (with_holders c h)) (all_stay c.holders)

-- what the parent has given, where another than p exits
gives_more : (s t : State) (p a : ℕ) (order : List ℕ) → IsWellFormed s → Ending s p order t → a ≢ p → Descends t p a → is_live t a ≡ true
    → answer t (exit_of a) ≡ reply.Done → (g : ℕ) → is_child_of s g p ≡ true → given t.book g ≡ given (next t (exit_of a)).book g
gives_more s t p a order w x apart below live done g own =
    let m = some_value (map.get t.book a) live in
    let one = given-remove t.book a m.0 m.1 g in
    let none : ◌≡◌ {A = ℕ} (cond (is_child g (a, m.0)) m.0.quota 0) 0 = ap (λ b. cond b m.0.quota 0) (no m.0 m.1 (is_child g (a, m.0)) refl) in
    let last : given (next t (exit_of a)).book g ≡ given (map.remove t.book a) g = ap (λ (k : State). given k.book g) (exit_after t a done) in
    omega (arith, one, none, last)
  where
    no : (m : Member) → map.get t.book a ≡ Some m → (b : Bool) → is_child g (a, m) ≡ b → is_child g (a, m) ≡ false
    no m at b is =
        grind (arith, child_entry, descends_parent, descends_up, child_before, left, descends_quota, quota_below)

-- after one more, other than p
pub ending_more : (s t : State) (p a : ℕ) (order : List ℕ) → IsWellFormed s → IsWellFormed t → Ending s p order t → a ≢ p → Descends t p a
    → ((r : ℕ) → is_child_of t a r ≡ false) → answer t (exit_of a) ≡ reply.Done → Ending s p (order ++ a ∷ []) (next t (exit_of a))
ending_more s t p a order w u x apart below none done = record {
  exited = exited_more s t p a order x.exited u live below done;
  live = ap (λ (k : State). is_live k p) goes ∙ ap is_some (get-remove_other t.book a p (λ e. apart (sym e))) ∙ x.live;
  rest = λ q d. on q (x.rest q d);
  gives = λ g own. x.gives g own ∙ gives_more s t p a order w x apart below live done g own;
}
  where
    goes : next t (exit_of a) ≡ after_exit t a
    goes = exit_after t a done

    live : is_live t a ≡ true
    live = descends_live x.live below

    on : (q : ℕ) → (is_among order q ≡ true) ⊎ Descends t p q → (is_among (order ++ a ∷ []) q ≡ true) ⊎ Descends (next t (exit_of a)) p q
    on q h = grind (arith, among-more, descends_less, goes, eq-eqb, or-true)

-- and then its parent descends from p still
pub parent_below : (t : State) (p a : ℕ) (m : Member) → map.get t.book a ≡ Some m → a ≢ p → a ≢ 0 → Descends t p a
    → ((r : ℕ) → is_child_of t a r ≡ false) → answer t (exit_of a) ≡ reply.Done → Descends (next t (exit_of a)) p m.parent
parent_below t p a m at apart not_root below x8 done = grind (arith, descends_less, exit_after, descends_parent, ne_eqb)

-- after p itself
pub ending_last : (s t : State) (p : ℕ) (order : List ℕ) → IsWellFormed s → IsWellFormed t → Ending s p order t
    → ((r : ℕ) → is_child_of t p r ≡ false) → p ≢ 0 → answer t (exit_of p) ≡ reply.Done → EndsFamily s p (order ++ p ∷ []) (next t (exit_of p))
ending_last s t p order w u x none not_root done = record {
  family = λ q. (y.inside q, all q);
  children_first = y.first;
  done = y.done;
  after = y.after;
  left = y.left;
  gone = λ q d. gone_dead s (next t (exit_of p)) (is_among (order ++ p ∷ [])) y.left q (all q d);
  others = λ slot h.
      ap (λ (k : State). option_map ungrouped (map.get k.spaces slot)) y.left
      ∙ ap (option_map ungrouped) (get-without s.spaces (λ other. is_among (order ++ p ∷ []) other.pid) slot)
      ∙ ap (λ b. option_map ungrouped (cond (not b) (option_map (left (λ other. is_among (order ++ p ∷ []) other.pid)) (map.get s.spaces slot)) None)) h
      ∙ bare (map.get s.spaces slot);
  returned = λ m at.
      let c : is_child m.parent (p, m) ≡ true = (λ i. not (ne_eqb p 0 not_root i) && eq-eqb m.parent m.parent refl i) in
      let before = x.gives m.parent (ap (λ (o : Option Member). unwrap_or (option_map (λ (k : Member). is_child m.parent (p, k)) o) false) at ∙ c) in
      let entry : map.get t.book p ≡ Some m = same_entry s t (is_among order) x.exited.left p (not_gone s t (is_among order) x.exited.left p x.live) ∙ at in
      let one = given-remove t.book p m entry m.parent in
      let full : ◌≡◌ {A = ℕ} (cond (is_child m.parent (p, m)) m.quota 0) m.quota = ap (λ b. cond b m.quota 0) c in
      let last : given (next t (exit_of p)).book m.parent ≡ given (map.remove t.book p) m.parent = ap (λ (k : State). given k.book m.parent) (exit_after t p done) in
      omega (arith, before, one, full, last);
}
  where
    y : Exited s p (order ++ p ∷ []) (next t (exit_of p))
    y = exited_more s t p p order x.exited u x.live itself done

    all : (q : ℕ) → Descends s p q → is_among (order ++ p ∷ []) q ≡ true
    all q d = grind (arith, among-more, eq-eqb, descends_alone, or-true)

    bare : (o : Option Cell) → option_map ungrouped (option_map (left (λ other. is_among (order ++ p ∷ []) other.pid)) o) ≡ option_map ungrouped o
    bare o = grind arith

-- ---- Along the loop

pub descends_then : {s : State} {p q r : ℕ} → Descends s p q → Descends s q r → Descends s p r
descends_then d itself = d
descends_then d (child {q = a} {r = b} e c) = child {q = a} {r = b} (descends_then d e) c
