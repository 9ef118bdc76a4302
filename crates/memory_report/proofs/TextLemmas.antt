-- The lines of rows, written one behind another.
use Rattle.std.proofs.Common.{◌≡◌, ℕ, ◌+◌, ◌<◌, ◌≤◌, List, ◌++◌, Option, length, drop, subst, sym, ap, ◌∙◌, append_assoc, get_or, drop-cons, add-one}
use Rattle.std.specs.Io.KnownBytes.{Appends}
use Rattle.std.proofs.lemmas.List.{drop_all}
use Rattle.text_output.specs.Output.{AppendsFront, LeavesUnwritten}
use Rattle.text_output.proofs.OutputLemmas.{wrote_piece, cut_piece}
use Rattle.memory_report.specs.Text.{line_of, lines_from}
use Rattle.memory_report.specs.declared.rows.Row.{Row}

-- the lines of the rows from one on are its line and those of the rows behind it
pub lines_step : (rows : List (Option Row)) (n : ℕ) (d : Option Row) → n < length rows → lines_from n (drop n rows) ≡ line_of n (get_or rows n d) ++ lines_from (n + 1) (drop (n + 1) rows)
lines_step rows n d within = ap (lines_from n) (drop-cons rows n d within) ∙ ap (λ k. line_of n (get_or rows n d) ++ lines_from (n + 1) (drop k rows)) (sym (add-one n))

-- the rest begins with the line of the next row
at_row : (a b : Option (List ℕ)) (text end : List ℕ) (rows : List (Option Row)) (n : ℕ) (d : Option Row) → n < length rows → LeavesUnwritten a b text (lines_from n (drop n rows) ++ end)
    → LeavesUnwritten a b text (line_of n (get_or rows n d) ++ (lines_from (n + 1) (drop (n + 1) rows) ++ end))
at_row a b text end rows n d within before =
    let line : List ℕ = line_of n (get_or rows n d) in
    let more : List ℕ = lines_from (n + 1) (drop (n + 1) rows) in
    let same : lines_from n (drop n rows) ++ end ≡ line ++ (more ++ end) = ap (λ l. l ++ end) (lines_step rows n d within) ∙ append_assoc line more end in
    subst (λ l. LeavesUnwritten a b text l) same before

-- the line of a row is written behind what was written so far
pub wrote_row : (a b c : Option (List ℕ)) (text end : List ℕ) (rows : List (Option Row)) (n : ℕ) (d : Option Row) → n < length rows → LeavesUnwritten a b text (lines_from n (drop n rows) ++ end)
    → Appends b c (line_of n (get_or rows n d)) → LeavesUnwritten a c text (lines_from (n + 1) (drop (n + 1) rows) ++ end)
wrote_row a b c text end rows n d within before more = wrote_piece a b c text (line_of n (get_or rows n d)) (lines_from (n + 1) (drop (n + 1) rows) ++ end) (at_row a b text end rows n d within before) more

-- the line of a row is cut short
pub cut_row : (a b c : Option (List ℕ)) (text end : List ℕ) (rows : List (Option Row)) (n : ℕ) (d : Option Row) → n < length rows → LeavesUnwritten a b text (lines_from n (drop n rows) ++ end)
    → AppendsFront b c (line_of n (get_or rows n d)) → AppendsFront a c text
cut_row a b c text end rows n d within before front = cut_piece a b c text (line_of n (get_or rows n d)) (lines_from (n + 1) (drop (n + 1) rows) ++ end) (at_row a b text end rows n d within before) front

-- where no row is left, the rest is the end
pub at_end : (a b : Option (List ℕ)) (text end : List ℕ) (rows : List (Option Row)) (n : ℕ) → length rows ≤ n → LeavesUnwritten a b text (lines_from n (drop n rows) ++ end) → LeavesUnwritten a b text end
at_end a b text end rows n all before = subst (λ l. LeavesUnwritten a b text (lines_from n l ++ end)) (drop_all n rows all) before
