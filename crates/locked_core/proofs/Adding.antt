-- The steps that take a turn, confirm it and add an entry keep the rule.
use Rattle.std.proofs.Common.{◌≡◌, ◌≢◌, ℕ, ◌+◌, ◌<◌, ◌≤◌, ◌==◌, Bool, true, false, List, [], ◌∷◌, ◌++◌, length, refl, ap, sym, subst, arith, inl, length-append, None, ◌∙◌, true≢false, slice_set}
use Rattle.std.proofs.Math.ListN.{length-set, set}
use Rattle.std.proofs.lemmas.List.{append-nil, get_or-set_same, get_or-set_other, get_or_append_left}
use Rattle.std.proofs.lemmas.Bool.Decides.{nat_tests}
use mathlib.Core.List.{IsPrefix}
use mathlib.Core.Logic.{dite}
use native.Mathlib.Decide.{dec_le, ℕ_discrete}
use prog.Atomic.{either}
use Rattle.logbook.specs.Pages.{Cell, cell, keeps, gives, adds, nib, may_write, may_make, no_nib, step, Moves, Goes}
use Rattle.locked_core.specs.declared.moment.Moment.{Moment}
use Rattle.locked_core.specs.Rules.{CellsHold, Adds, Claims, Confirms}
use Rattle.locked_core.proofs.Moments.{begins_whole}

abbrev pub shows_nothing : List Moment → List Moment
shows_nothing log = []

abbrev pub moved : List Moment → List Moment → ℕ → Type 0
moved xs ys n = Unit {0}

prefix_length : (log v : List Moment) → IsPrefix v log → length v ≤ length log
prefix_length log v pre = let a : length log ≡ length v + length pre.0 = ap length (sym pre.1) ∙ length-append v pre.0 in omega arith

here : (cs : List Cell) (key : ℕ) (c : Cell) → key < length cs → cell (slice_set cs key c) key ≡ c
here cs key c inside = get_or-set_same cs key c (0, false) inside

elsewhere : (cs : List Cell) (key other : ℕ) (c : Cell) → other ≢ key → cell (slice_set cs key c) other ≡ cell cs other
elsewhere cs key other c apart = get_or-set_other cs key other c (0, false) apart

-- a cell that is brought home leaves each at home that was
at_home : (cs : List Cell) (key other n : ℕ) → key < length cs → ((cell cs other).1 ≡ true) → (cell (slice_set cs key (n, true)) other).1 ≡ true
at_home cs key other n inside was = dite (ℕ_discrete other key)
    (λ (same : other ≡ key). ap (λ k. (cell (slice_set cs key (n, true)) k).1) same ∙ ap (λ (c : Cell). c.1) (here cs key (n, true) inside))
    (λ (apart : other ≢ key). ap (λ (c : Cell). c.1) (elsewhere cs key other (n, true) apart) ∙ was)

-- the count of turns is written anew as it was
same_turns : (cs : List Cell) (log : List Moment) (h : CellsHold cs log) → CellsHold (slice_set cs 1 (h.turns, true)) log
same_turns cs log h = record {
  head = elsewhere cs 1 0 (h.turns, true) (λ e. omega (arith, e)) ∙ h.head;
  turns = h.turns;
  taken = here cs 1 (h.turns, true) (let each = h.each in omega arith);
  each = length-set cs 1 (h.turns, true) ∙ h.each;
  used = h.used;
  one = h.one;
  home = λ key inside. at_home cs 1 key h.turns (let each = h.each in omega arith) (h.home key inside);
}

-- one turn more, whose cell is not at home
one_turn_more : (cs : List Cell) (log : List Moment) (h : CellsHold cs log) → h.turns ≡ length log → CellsHold (slice_set cs 1 (h.turns + 1, true) ++ (0, false) ∷ []) log
one_turn_more cs log h free =
    let each = h.each in
    let set : List Cell = slice_set cs 1 (h.turns + 1, true) in
    let long : length set ≡ length cs = length-set cs 1 (h.turns + 1, true) in
    let left : (key : ℕ) → key < length cs → cell (set ++ (0, false) ∷ []) key ≡ cell set key = λ key inside. get_or_append_left set ((0, false) ∷ []) (0, false) key (omega arith) in
    record {
      head = left 0 (omega arith) ∙ (elsewhere cs 1 0 (h.turns + 1, true) (λ e. omega (arith, e)) ∙ h.head);
      turns = h.turns + 1;
      taken = left 1 (omega arith) ∙ here cs 1 (h.turns + 1, true) (omega arith);
      each = length-append set ((0, false) ∷ []) ∙ (omega arith);
      used = omega arith;
      one = omega arith;
      home = λ key inside. ap (λ (c : Cell). c.1) (left key (omega arith)) ∙ at_home cs 1 key (h.turns + 1) (omega arith) (h.home key inside);
    }

-- the turn is taken that follows all that was seen, or another has been taken
pub claims_goes : (cs : List Cell) (log v : List Moment) (e : Moment) (n : ℕ) → n ≤ length v → IsPrefix v log → (h : CellsHold cs log) → (b : Bool) → (h.turns == n) ≡ b
    → Goes CellsHold shows_nothing moved 1 (v, (no_nib, None)) (λ m. either (m == n) (n + 1) m) (Claims (step 1 n (n + 1) e) (v, (no_nib, None))) cs log
claims_goes cs log v e n len pre h true is =
    let now : (cell cs 1).0 ≡ h.turns = ap (λ (c : Cell). c.0) h.taken in
    let expected : h.turns ≡ n = grind (arith, nat_tests, is) in
    let used = h.used in
    let each = h.each in
    let longer : length v ≤ length log = prefix_length log v pre in
    let free : h.turns ≡ length log = omega arith in
    let found : ((cell cs 1).0 == n) ≡ true = ap (λ m. m == n) now ∙ is in
    let value : either ((cell cs 1).0 == n) (n + 1) (cell cs 1).0 ≡ h.turns + 1 = rw found (omega arith) in
    let all : log ++ [] ≡ log = append-nil log in (
      adds,
      [],
      None,
      tt,
      subst (λ (t : List Cell × List Moment). CellsHold t.0 t.1) (λ i. (slice_set cs 1 (sym value i, true) ++ (0, false) ∷ [], sym all i)) (one_turn_more cs log h free),
      inl (refl, refl),
      rw found (omega arith, ap (λ k. nib may_make k 0) (omega arith)),
    )
claims_goes cs log v e n len pre h false is =
    let now : (cell cs 1).0 ≡ h.turns = ap (λ (c : Cell). c.0) h.taken in
    let found : ((cell cs 1).0 == n) ≡ false = ap (λ m. m == n) now ∙ is in
    let value : either ((cell cs 1).0 == n) (n + 1) (cell cs 1).0 ≡ h.turns = rw found now in
    let all : log ++ [] ≡ log = append-nil log in (
      keeps,
      [],
      None,
      tt,
      subst (λ (t : List Cell × List Moment). CellsHold t.0 t.1) (λ i. (slice_set cs 1 (sym value i, true), sym all i)) (same_turns cs log h),
      inl (refl, refl),
      rw found tt,
    )

pub claims_moves : (v : List Moment) (e : Moment) (n : ℕ) → n ≤ length v
    → Moves CellsHold shows_nothing moved 1 (v, (no_nib, None)) (λ m. either (m == n) (n + 1) m) (Claims (step 1 n (n + 1) e) (v, (no_nib, None)))
claims_moves v e n len cs log h pre away =
    let each = h.each in (omega arith, ap (λ (c : Cell). c.1) h.taken, claims_goes cs log v e n len pre h (h.turns == n) refl)

-- the entry uses up the turn
turn_used : (cs : List Cell) (log : List Moment) (e : Moment) (h : CellsHold cs log) (x : ℕ) → h.turns ≡ length log + 1
    → CellsHold (slice_set (slice_set cs 0 (length log + 1, true)) (length log + 2) (x, true)) (log ++ e ∷ [])
turn_used cs log e h x out =
    let each = h.each in
    let first : List Cell = slice_set cs 0 (length log + 1, true) in
    let long : length first ≡ length cs = length-set cs 0 (length log + 1, true) in
    let more : length (log ++ e ∷ []) ≡ length log + 1 = length-append log (e ∷ []) in
    record {
      head = elsewhere first (length log + 2) 0 (x, true) (λ e. omega (arith, e)) ∙ (here cs 0 (length log + 1, true) (omega arith) ∙ ap (λ k. (k, true)) (sym more));
      turns = h.turns;
      taken = elsewhere first (length log + 2) 1 (x, true) (λ e. omega (arith, e)) ∙ (elsewhere cs 0 1 (length log + 1, true) (λ e. omega (arith, e)) ∙ h.taken);
      each = length-set first (length log + 2) (x, true) ∙ (long ∙ h.each);
      used = omega arith;
      one = omega arith;
      home = λ key inside. dite (ℕ_discrete key (length log + 2))
          (λ (same : key ≡ length log + 2). ap (λ k. (cell (slice_set first (length log + 2) (x, true)) k).1) same ∙ ap (λ (c : Cell). c.1) (here first (length log + 2) (x, true) (omega arith)))
          (λ (apart : key ≢ length log + 2). ap (λ (c : Cell). c.1) (elsewhere first (length log + 2) key (x, true) apart) ∙ at_home cs 0 key (length log + 1) (omega arith) (h.home key (omega arith)));
    }

-- the cell of the turn is not at home, so that as many entries were added as turns were used up before it
last_turn : (cs : List Cell) (log : List Moment) (n : ℕ) → CellsHold cs log → n + 2 < length cs → (cell cs (n + 2)).1 ≡ false → length log ≤ n
last_turn cs log n h inside out = dite (dec_le (length log) n)
    (λ (le : length log ≤ n). le)
    (λ (no : (length log ≤ n) → ⊥). absurd (true≢false (sym (h.home (n + 2) (omega (arith, no))) ∙ out)))

-- with the turn in hand nothing was added since it was taken, so the entry follows all that was seen
pub adds_goes : (cs : List Cell) (log v : List Moment) (e : Moment) (n x : ℕ) → n ≡ length v → IsPrefix v log → (h : CellsHold cs log) → length log ≡ n → h.turns ≡ length log + 1
    → Goes CellsHold shows_nothing moved 0 (v, (nib may_write (n + 2) x, None)) (λ m. either (m == n) (n + 1) m) (Adds (step 0 n (n + 1) e) (v, (nib may_write (n + 2) x, None))) cs log
adds_goes cs log v e n x len pre h same out =
    let whole : log ≡ v = begins_whole log v (pre.0, sym pre.1) (omega arith) in
    let now : (cell cs 0).0 ≡ n = ap (λ (c : Cell). c.0) h.head ∙ same in
    let found : ((cell cs 0).0 == n) ≡ true = grind (arith, nat_tests, now) in
    let value : either ((cell cs 0).0 == n) (n + 1) (cell cs 0).0 ≡ length log + 1 = rw found (omega arith) in (
      gives,
      e ∷ [],
      None,
      refl,
      subst (λ (t : ℕ × ℕ). CellsHold (slice_set (slice_set cs 0 (t.0, true)) (t.1 + 2) (x, true)) (log ++ e ∷ [])) (λ i. (sym value i, same i)) (turn_used cs log e h x out),
      inl (refl, refl),
      ap (λ l. l ++ e ∷ []) whole,
    )

pub adds_moves : (v : List Moment) (e : Moment) (n x : ℕ) → n ≡ length v
    → Moves CellsHold shows_nothing moved 0 (v, (nib may_write (n + 2) x, None)) (λ m. either (m == n) (n + 1) m) (Adds (step 0 n (n + 1) e) (v, (nib may_write (n + 2) x, None)))
adds_moves v e n x len cs log h pre away =
    let each = h.each in
    let used = h.used in
    let one = h.one in
    let out : (n + 2 < length cs) × ((cell cs (n + 2)).1 ≡ false) = away refl in
    let inside : n + 2 < length cs = out.0 in
    let last : length log ≤ n = last_turn cs log n h out.0 out.1 in
    let longer : length v ≤ length log = prefix_length log v pre in (
      omega arith,
      ap (λ (c : Cell). c.1) h.head,
      adds_goes cs log v e n x len pre h (omega arith) (omega arith),
    )

-- the length is written anew as it was
same_length : (cs : List Cell) (log : List Moment) (h : CellsHold cs log) → CellsHold (slice_set cs 0 (length log, true)) log
same_length cs log h = record {
  head = here cs 0 (length log, true) (let each = h.each in omega arith);
  turns = h.turns;
  taken = elsewhere cs 0 1 (length log, true) (λ e. omega (arith, e)) ∙ h.taken;
  each = length-set cs 0 (length log, true) ∙ h.each;
  used = h.used;
  one = h.one;
  home = λ key inside. at_home cs 0 key (length log) (let each = h.each in omega arith) (h.home key inside);
}

-- with the turn in hand nothing was added since it was taken, so no more had been seen
pub confirms_moves : (v : List Moment) (e : Moment) (n x : ℕ)
    → Moves CellsHold shows_nothing moved 0 (v, (nib may_write (n + 2) x, None)) (λ m. either (m == n) n m) (Confirms (step 0 n n e) (v, (nib may_write (n + 2) x, None)))
confirms_moves v e n x cs log h pre away =
    let each = h.each in
    let used = h.used in
    let one = h.one in
    let out : (n + 2 < length cs) × ((cell cs (n + 2)).1 ≡ false) = away refl in
    let inside : n + 2 < length cs = out.0 in
    let last : length log ≤ n = last_turn cs log n h out.0 out.1 in
    let longer : length v ≤ length log = prefix_length log v pre in
    let same : length log ≡ n = omega arith in
    let now : (cell cs 0).0 ≡ n = ap (λ (c : Cell). c.0) h.head ∙ same in
    let found : ((cell cs 0).0 == n) ≡ true = grind (arith, nat_tests, now) in
    let value : either ((cell cs 0).0 == n) n (cell cs 0).0 ≡ length log = rw found (omega arith) in
    let all : log ++ [] ≡ log = append-nil log in
    let goes : Goes CellsHold shows_nothing moved 0 (v, (nib may_write (n + 2) x, None)) (λ m. either (m == n) n m) (Confirms (step 0 n n e) (v, (nib may_write (n + 2) x, None))) cs log = (
      keeps,
      [],
      None,
      tt,
      subst (λ (t : List Cell × List Moment). CellsHold t.0 t.1) (λ i. (slice_set cs 0 (sym value i, true), sym all i)) (same_length cs log h),
      inl (refl, refl),
      (omega arith, refl),
    ) in
    (omega arith, ap (λ (c : Cell). c.1) h.head, goes)
