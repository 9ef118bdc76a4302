-- A line for each of several, written one behind another.
use Rattle.std.proofs.Common.{◌≡◌, ℕ, ◌+◌, ◌<◌, List, ◌++◌, Option, length, drop, subst, sym, ap, ◌∙◌, get_or, drop-cons, add-one}
use Rattle.std.specs.Io.KnownBytes.{Appends}
use Rattle.text_output.specs.Output.{AppendsFront, LeavesUnwritten}
use Rattle.text_output.proofs.OutputLemmas.{wrote_piece, cut_piece}
use Rattle.image_check.specs.Text.{lines_from}

module _ {C : Type 0} (line : ℕ → C → List ℕ) (cs : List C) where
  lines_step : (n : ℕ) (d : C) → n < length cs → lines_from line n (drop n cs) ≡ line n (get_or cs n d) ++ lines_from line (n + 1) (drop (n + 1) cs)
  lines_step n d within = ap (lines_from line n) (drop-cons cs n d within) ∙ ap (λ k. line n (get_or cs n d) ++ lines_from line (n + 1) (drop k cs)) (sym (add-one n))

  at_next : (a b : Option (List ℕ)) (text : List ℕ) (n : ℕ) (d : C) → n < length cs → LeavesUnwritten a b text (lines_from line n (drop n cs))
      → LeavesUnwritten a b text (line n (get_or cs n d) ++ lines_from line (n + 1) (drop (n + 1) cs))
  at_next a b text n d within before = subst (LeavesUnwritten a b text) (lines_step n d within) before

  pub wrote_line : (a b e : Option (List ℕ)) (text : List ℕ) (n : ℕ) (d : C) → n < length cs → LeavesUnwritten a b text (lines_from line n (drop n cs))
      → Appends b e (line n (get_or cs n d)) → LeavesUnwritten a e text (lines_from line (n + 1) (drop (n + 1) cs))
  wrote_line a b e text n d within before more = wrote_piece a b e text (line n (get_or cs n d)) (lines_from line (n + 1) (drop (n + 1) cs)) (at_next a b text n d within before) more

  pub cut_line : (a b e : Option (List ℕ)) (text : List ℕ) (n : ℕ) (d : C) → n < length cs → LeavesUnwritten a b text (lines_from line n (drop n cs))
      → AppendsFront b e (line n (get_or cs n d)) → AppendsFront a e text
  cut_line a b e text n d within before front = cut_piece a b e text (line n (get_or cs n d)) (lines_from line (n + 1) (drop (n + 1) cs)) (at_next a b text n d within before) front
