-- Each step keeps the rule.
use Rattle.std.proofs.Common.{◌≡◌, ◌≢◌, ℕ, ◌+◌, ◌<◌, ◌≤◌, ◌==◌, ◌%◌, ◌^◌, min, List, [], ◌∷◌, ◌++◌, set, true, false, true≢false, refl, sym, ap, ◌∙◌, subst, ⊎_elim, arith}
use Rattle.std.specs.Prelude.{slice_index}
use Rattle.std.proofs.Math.Nat.{mod-eq_of_lt}
use mathlib.Core.Option.{some, none, some-ne-none}
use Rattle.std.proofs.lemmas.Bool.{le-ltb}
use mathlib.Core.Logic.{dite}
use native.Mathlib.Decide.{dec_le}
use lib.ListN.{get_elem?}
use Rattle.atomic_table.specs.Table.{step, keeps, Allows, Splits, Joins, opening}
use Rattle.atomic_table.proofs.Lists.{at_set, at_snoc, set_again}
use Rattle.page_map.specs.Pages.{counted}
use Rattle.memory_image.specs.Image.{Image}
use Rattle.image_check.specs.Draws.{times}
use Rattle.integrity_checker.specs.declared.draw.Drawer.{Drawer}
use Rattle.integrity_checker.specs.Drawn.{drawer, once_below, share_of, spent_of, where_so, times_of, FitsSeat, IsIdle, ViewsFit, Given, Drew, Totals, gathered, spent}
use Rattle.integrity_checker.proofs.Sums.{total_set, total_push, total_least, total_one, times_append, times_nil, times_one, once_more, none_yet, full, spent_share, total_single, first_set}

abbrev AllFit : ℕ → List Drawer → Type 0
AllFit word views = (j : ℕ) (u : Drawer) → get_elem? views j ≡ some u → FitsSeat word u

fit_set : (word : ℕ) (views : List Drawer) (seat : ℕ) (w : Drawer) → AllFit word views → FitsSeat word w → AllFit word (set views seat w)
fit_set word views seat w h mine j u e =
    ⊎_elim (λ (t : (j ≡ seat) × (w ≡ u)). subst (FitsSeat word) t.1 mine) (λ (t : (j ≢ seat) × (get_elem? views j ≡ some u)). h j u t.1) (at_set views seat j w u e)

fit_push : (word : ℕ) (views : List Drawer) (w : Drawer) → AllFit word views → FitsSeat word w → AllFit word (views ++ w ∷ [])
fit_push word views w h mine j u e = ⊎_elim (h j u) (λ (same : w ≡ u). subst (FitsSeat word) same mine) (at_snoc views w u j e)

off : false ≡ true → ⊥
off e = true≢false (sym e)

-- a seat that is done adds at most its share
spent_least : (v : Drawer) → v.done ≡ false → spent_of v ≡ 0
spent_least v e = ap (λ b. where_so b v.share) e

spent_all : (v : Drawer) → v.done ≡ true → spent_of v ≡ v.share
spent_all v e = ap (λ b. where_so b v.share) e

-- the seat draws a number below 64
drew_low : (n w : ℕ) (views : List Drawer) (seat : ℕ) (v : Drawer) → ViewsFit n w views → get_elem? views seat ≡ some v → 0 < v.share → v.done ≡ false → w < 64
    → ViewsFit n (w + 1) (set views seat (drawer v.image v.share (v.drawn ++ w ∷ []) v.done))
drew_low n w views seat v h at some_share idle low =
    let u = drawer v.image v.share (v.drawn ++ w ∷ []) v.done in (
      (λ x.
          let s = total_set (times_of x) views seat v u at in
          let p = h.0 x in
          let a = times_append x v.drawn (w ∷ []) in
          let b = times_one x w in
          let m = once_more x w low in
          let t : ℕ = counted (w == x) in
          let o : ℕ = once_below x (min w 64) in
          let o' : ℕ = once_below x (min (w + 1) 64) in
          omega arith),
      (let s = total_set share_of views seat v u at in let p = h.1 in omega arith),
      omega arith,
      fit_set (w + 1) views seat u (λ j z e. ((h.3 j z e).0, λ d. absurd (let k = (h.3 j z e).1 d in omega arith))) ((λ none. absurd (omega arith)), (λ d. absurd (off (sym idle ∙ d)))),
    )

-- the seat finds none left
drew_high : (n w : ℕ) (views : List Drawer) (seat : ℕ) (v : Drawer) → ViewsFit n w views → get_elem? views seat ≡ some v → 0 < v.share → v.done ≡ false → 64 ≤ w
    → ViewsFit n (w + 1) (set views seat (drawer v.image v.share v.drawn true))
drew_high n w views seat v h at some_share idle high =
    let u = drawer v.image v.share v.drawn true in (
      (λ x. let s = total_set (times_of x) views seat v u at in let p = h.0 x in let a = full x w high in let b = full x (w + 1) (omega arith) in
          let o : ℕ = once_below x (min w 64) in
          let o' : ℕ = once_below x (min (w + 1) 64) in
          let o'' : ℕ = once_below x 64 in
          omega arith),
      (let s = total_set share_of views seat v u at in let p = h.1 in omega arith),
      (let s = total_set spent_of views seat v u at in let z = spent_least v idle in let p = h.2 in omega arith),
      fit_set (w + 1) views seat u (λ j z e. ((h.3 j z e).0, λ d. let k = (h.3 j z e).1 d in omega arith)) ((λ none. absurd (omega arith)), (λ d. omega arith)),
    )

low_enough : (n w : ℕ) (views : List Drawer) → n ≤ 8 → ViewsFit n w views → w + 1 < 2 ^ 64
low_enough n w views few h = let a = spent_share views in let b = h.1 in let c = h.2 in omega arith

pub draws : (n slots seat : ℕ) (v : Drawer) (carried : List (ℕ × ℕ)) → 0 < v.share → v.done ≡ false → Allows (Given n) slots seat (v, carried) 0 (λ k. (k + 1) % 2 ^ 64) (Drew (step slots 0 1 0 none) (v, carried))
draws n slots seat v carried some_share idle s h homes at small =
    let w : ℕ = slice_index s.words 0 in
    let up : (w + 1) % 2 ^ 64 ≡ w + 1 = mod-eq_of_lt (low_enough n w s.views h.0 h.2) in
    let words = first_set s.words ((w + 1) % 2 ^ 64) h.1 in
    let now : slice_index (set s.words 0 ((w + 1) % 2 ^ 64)) 0 ≡ w + 1 = words.1 ∙ up in
    dite (dec_le 64 w)
    (λ high. (
      drawer v.image v.share v.drawn true,
      keeps,
      tt,
      (h.0, words.0, subst (λ (k : ℕ). ViewsFit n k (set s.views seat (drawer v.image v.share v.drawn true))) (sym now) (drew_high n w s.views seat v h.2 at some_share idle high)),
      (refl, (λ low. absurd (omega arith)), (λ _. refl)),
    ))
    (λ below. let low : w < 64 = omega arith in (
      drawer v.image v.share (v.drawn ++ w ∷ []) v.done,
      keeps,
      tt,
      (h.0, words.0, subst (λ (k : ℕ). ViewsFit n k (set s.views seat (drawer v.image v.share (v.drawn ++ w ∷ []) v.done))) (sym now) (drew_low n w s.views seat v h.2 at some_share idle low)),
      (
        refl,
        (λ _. (refl, let least = total_least (times_of w) s.views seat v at in let all = h.2.0 w in let none' = none_yet w low in let t : ℕ = times w v.drawn in let o : ℕ = once_below w (min w 64) in omega arith)),
        (λ high. absurd (omega arith)),
      ),
    ))

-- a seat that has drawn nothing is cut in two
pub cuts : (n seat : ℕ) (v left right : Drawer) → IsIdle v → IsIdle left → IsIdle right → left.share + right.share ≡ v.share → Splits (Given n) seat v left right
cuts n seat v left right idle mine his shares s h at =
    let w : ℕ = slice_index s.words 0 in
    let views = set s.views seat left in (
      h.0,
      h.1,
      (
        (λ x.
            let p = total_set (times_of x) s.views seat v left at in
            let q = total_push (times_of x) views right in
            let a = h.2.0 x in
            let b : times x v.drawn ≡ 0 = ap (times x) idle.0 ∙ times_nil x in
            let c : times x left.drawn ≡ 0 = ap (times x) mine.0 ∙ times_nil x in
            let d : times x right.drawn ≡ 0 = ap (times x) his.0 ∙ times_nil x in
            let o : ℕ = once_below x (min w 64) in
            omega (arith, a, b, c, d, p, q)),
        (let p = total_set share_of s.views seat v left at in let q = total_push share_of views right in let a = h.2.1 in omega (arith, shares, a, p, q)),
        (let p = total_set spent_of s.views seat v left at in let q = total_push spent_of views right in let a = h.2.2 in let z = spent_least v idle.1 in let y = spent_least left mine.1 in let x = spent_least right his.1 in omega (arith, a, p, q, x, y, z)),
        fit_push w views right (fit_set w s.views seat left h.2.3 ((λ _. mine.0), (λ d. absurd (off (sym mine.1 ∙ d))))) ((λ _. his.0), (λ d. absurd (off (sym his.1 ∙ d)))),
      ),
    )

-- two seats that are done become one
pub joins : (n seat : ℕ) (v : Drawer) (other : ℕ) (u : Drawer) → v.done ≡ true → u.done ≡ true → Joins (Given n) seat v other u (gathered v u) spent
joins n seat v other u done also s h at apart there =
    let w : ℕ = slice_index s.words 0 in
    let both = gathered v u in
    let views = set s.views seat both in
    let mine = h.2.3 seat v at in
    let his : FitsSeat w u = ⊎_elim (λ (t : (other ≡ seat) × (both ≡ u)). absurd (apart t.0)) (λ (t : (other ≢ seat) × (get_elem? s.views other ≡ some u)). h.2.3 other u t.1) (at_set s.views seat other both u there) in
    let fits : FitsSeat w both = (
      (λ (none_left : v.share + u.share ≡ 0). (λ i. mine.0 (omega arith) i ++ his.0 (omega arith) i)),
      (λ _. mine.1 done),
    ) in (
      h.0,
      h.1,
      (
        (λ x.
            let p = total_set (times_of x) s.views seat v both at in
            let q = total_set (times_of x) views other u spent there in
            let a = h.2.0 x in
            let b = times_append x v.drawn u.drawn in
            let c = times_nil x in
            let o : ℕ = once_below x (min w 64) in
            omega arith),
        (let p = total_set share_of s.views seat v both at in let q = total_set share_of views other u spent there in let a = h.2.1 in omega arith),
        (let p = total_set spent_of s.views seat v both at in let q = total_set spent_of views other u spent there in let a = h.2.2 in let y = spent_all v done in let z = spent_all u also in omega arith),
        fit_set w views other spent (fit_set w s.views seat both h.2.3 fits) ((λ _. refl), (λ d. absurd (off d))),
      ),
    )

-- who has all shares and is done has drawn all
pub totals : (n slots seat : ℕ) (v : Drawer) (carried : List (ℕ × ℕ)) → v.share ≡ n → v.done ≡ true → Allows (Given n) slots seat (v, carried) 0 (λ k. k) (Totals (step slots 0 0 0 none) (v, carried))
totals n slots seat v carried all done s h homes at small =
    let w : ℕ = slice_index s.words 0 in
    let words = first_set s.words w h.1 in
    let high = (h.2.3 seat v at).1 done in
    let same : set s.views seat v ≡ s.views = set_again s.views seat v at in (
      v,
      keeps,
      tt,
      (h.0, words.0, subst (λ (z : ℕ × List Drawer). ViewsFit n z.0 z.1) (λ i. (sym words.1 i, sym same i)) h.2),
      (
        refl,
        (λ x.
            let one = total_one (times_of x) s.views seat v at (λ j u e none'. ap (times x) ((h.2.3 j u e).0 none') ∙ times_nil x) (h.2.1 ∙ sym all) in
            sym one ∙ (h.2.0 x ∙ full x w high)),
      ),
    )

pub begins : (image : Image) (n : ℕ) → n ≤ 8 → Given n (opening (0 ∷ []) [] (drawer image n [] false))
begins image n few =
    let d = drawer image n [] false in (
      few,
      refl,
      (
        (λ x. total_single (times_of x) d ∙ (times_nil x ∙ sym (nothing x))),
        total_single share_of d,
        omega arith,
        fit_push 0 [] d (λ j u e. absurd (some-ne-none u (sym e))) ((λ _. refl), (λ e. absurd (off e))),
      ),
    )
  where
    nothing : (x : ℕ) → once_below x (min 0 64) ≡ 0
    nothing x = ap counted (le-ltb x 0 (omega arith))
