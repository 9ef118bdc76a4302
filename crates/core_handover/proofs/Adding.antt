-- The step that adds a core to the history keeps the rule.
use Rattle.std.proofs.Common.{◌≡◌, ℕ, ◌+◌, ◌≤◌, ◌==◌, Bool, true, false, List, [], ◌∷◌, ◌++◌, length, refl, ap, sym, subst, arith, inl, length-append, None, ◌∙◌, slice_set}
use Rattle.std.proofs.Math.ListN.{length-set}
use Rattle.std.proofs.lemmas.List.{append-nil, get_or-set_same}
use Rattle.std.proofs.lemmas.Bool.Decides.{nat_tests}
use mathlib.Core.List.{IsPrefix}
use prog.Atomic.{either}
use Rattle.logbook.specs.Pages.{Cell, cell, keeps, no_nib, step, Moves, Goes}
use Rattle.core_handover.specs.declared.given.Given.{Given}
use Rattle.core_handover.specs.Histories.{CellsHold, Adds}
use Rattle.core_handover.proofs.Beginnings.{begins_whole}

abbrev pub shows_nothing : List Given → List Given
shows_nothing log = []

abbrev pub moved : List Given → List Given → ℕ → Type 0
moved xs ys n = Unit {0}

-- the word is written, and the history is as long as it says
written : (cs : List Cell) (log : List Given) (n : ℕ) → CellsHold cs log → (more : List Given) → length more ≡ n + 1 → CellsHold (slice_set cs 0 (n, true)) more
written cs log n h more long = record {
  gives = n;
  head = get_or-set_same cs 0 (n, true) (0, false) (let one = h.one in omega arith);
  one = length-set cs 0 (n, true) ∙ h.one;
  long = long;
}

adds_goes : (cs : List Cell) (log v : List Given) (e : Given) (n : ℕ) → length v ≡ n + 1 → IsPrefix v log → (h : CellsHold cs log) → (b : Bool) → (h.gives == n) ≡ b
    → Goes CellsHold shows_nothing moved 0 (v, (no_nib, None)) (λ m. either (m == n) (n + 1) m) (Adds (step 0 n (n + 1) e) (v, (no_nib, None))) cs log
adds_goes cs log v e n len pre h true is =
    let now : (cell cs 0).0 ≡ h.gives = ap (λ (c : Cell). c.0) h.head in
    let expected : h.gives ≡ n = grind (arith, nat_tests, is) in
    let long = h.long in
    let whole : log ≡ v = begins_whole log v (pre.0, sym pre.1) (omega arith) in
    let found : ((cell cs 0).0 == n) ≡ true = ap (λ m. m == n) now ∙ is in
    let value : either ((cell cs 0).0 == n) (n + 1) (cell cs 0).0 ≡ n + 1 = rw found refl in
    let more : length (log ++ e ∷ []) ≡ (n + 1) + 1 = length-append log (e ∷ []) ∙ (omega arith) in (
      keeps,
      e ∷ [],
      None,
      tt,
      subst (λ (m : ℕ). CellsHold (slice_set cs 0 (m, true)) (log ++ e ∷ [])) (sym value) (written cs log (n + 1) h (log ++ e ∷ []) more),
      inl (refl, refl),
      rw found (ap (λ l. l ++ e ∷ []) whole),
    )
adds_goes cs log v e n len pre h false is =
    let now : (cell cs 0).0 ≡ h.gives = ap (λ (c : Cell). c.0) h.head in
    let found : ((cell cs 0).0 == n) ≡ false = ap (λ m. m == n) now ∙ is in
    let value : either ((cell cs 0).0 == n) (n + 1) (cell cs 0).0 ≡ h.gives = rw found now in
    let all : log ++ [] ≡ log = append-nil log in (
      keeps,
      [],
      None,
      tt,
      subst (λ (t : ℕ × List Given). CellsHold (slice_set cs 0 (t.0, true)) t.1) (λ i. (sym value i, sym all i)) (written cs log h.gives h log h.long),
      inl (refl, refl),
      rw found tt,
    )

pub adds_moves : (v : List Given) (e : Given) (n : ℕ) → length v ≡ n + 1
    → Moves CellsHold shows_nothing moved 0 (v, (no_nib, None)) (λ m. either (m == n) (n + 1) m) (Adds (step 0 n (n + 1) e) (v, (no_nib, None)))
adds_moves v e n len cs log h pre away =
    let one = h.one in (omega arith, ap (λ (c : Cell). c.1) h.head, adds_goes cs log v e n len pre h (h.gives == n) refl)
