-- The lines of two texts, one after the other.
use Rattle.std.proofs.Common.{◌≡◌, ℕ, Bool, true, false, ◌||◌, cond, List, [], ◌∷◌, ◌++◌, length, refl, sym, ap, ◌∙◌, arith, append_assoc, append-nil, length-append}
use Rattle.std.specs.Prelude.{filter}
use Rattle.std.specs.List.{slice_split, onto_first}
use Rattle.std.proofs.lemmas.Bool.{lt-ltb, ltb-true}
use Rattle.std.proofs.lemmas.List.Splits.{slice_split-cons_yes, slice_split-cons_no}
use Rattle.script_run.specs.Lines.{is_too_long}
use Rattle.script_run.specs.Script.{is_line_feed, lines_of, all_but_last, last_of, closed_lines, open_line, judged_to}
use Rattle.script_run.specs.Progress.{IsOneLine}

-- the bytes before the first line
abbrev pub onto : List ℕ → List (List ℕ) → List (List ℕ)
onto front [] = front ∷ []
onto front (line ∷ lines) = (front ++ line) ∷ lines

-- a list that is not empty
pub record IsSome (lines : List (List ℕ)) : Type 0 where
  pub first : List ℕ
  pub others : List (List ℕ)
  pub is : lines ≡ first ∷ others

-- ---- Lists of lines

front_of_two : (a : List (List ℕ)) (first : List ℕ) (others : List (List ℕ)) → all_but_last (a ++ first ∷ others) ≡ a ++ all_but_last (first ∷ others)
front_of_two [] first others = refl
front_of_two (x ∷ []) first others = refl
front_of_two (x ∷ y ∷ a) first others = ap (λ lines. x ∷ lines) (front_of_two (y ∷ a) first others)

last_of_two : (a : List (List ℕ)) (first : List ℕ) (others : List (List ℕ)) → last_of (a ++ first ∷ others) ≡ last_of (first ∷ others)
last_of_two [] first others = refl
last_of_two (x ∷ []) first others = refl
last_of_two (x ∷ y ∷ a) first others = last_of_two (y ∷ a) first others

onto_some : (front : List ℕ) (lines : List (List ℕ)) → IsSome (onto front lines)
onto_some front [] = record { first = front; others = []; is = refl }
onto_some front (line ∷ lines) = record { first = front ++ line; others = lines; is = refl }

-- ---- Lines of bytes

-- a text, its lines joined to what follows
abbrev joined : List (List ℕ) → List (List ℕ) → List (List ℕ)
joined lines after = all_but_last lines ++ onto (last_of lines) after

past_feed : (first : List ℕ) (others after : List (List ℕ)) → joined ([] ∷ first ∷ others) after ≡ [] ∷ joined (first ∷ others) after
past_feed first others after = refl

past_byte : (x : ℕ) (first : List ℕ) (others after : List (List ℕ)) → joined (onto_first x (first ∷ others)) after ≡ onto_first x (joined (first ∷ others) after)
past_byte x first [] [] = refl
past_byte x first [] (line ∷ lines) = refl
past_byte x first (next ∷ others) after = refl

pub some_line : (xs : List ℕ) → IsSome (slice_split is_line_feed xs)
some_line [] = record { first = []; others = []; is = refl }
some_line (x ∷ xs) = at_head (some_line xs) (is_line_feed x) refl where
  at_head : IsSome (slice_split is_line_feed xs) → (b : Bool) → is_line_feed x ≡ b → IsSome (slice_split is_line_feed (x ∷ xs))
  at_head more true e = record { first = []; others = slice_split is_line_feed xs; is = slice_split-cons_yes is_line_feed x xs e }
  at_head more false e = record { first = x ∷ more.first; others = more.others; is = slice_split-cons_no is_line_feed x xs e ∙ ap (onto_first x) more.is }

split_more : (xs ys : List ℕ) → slice_split is_line_feed (xs ++ ys) ≡ joined (slice_split is_line_feed xs) (slice_split is_line_feed ys)
split_more [] ys = let some = some_line ys in some.is ∙ sym (ap (onto []) some.is)
split_more (x ∷ xs) ys = at_head (split_more xs ys) (is_line_feed x) refl where
  at_head : slice_split is_line_feed (xs ++ ys) ≡ joined (slice_split is_line_feed xs) (slice_split is_line_feed ys) → (b : Bool) → is_line_feed x ≡ b → slice_split is_line_feed (x ∷ (xs ++ ys)) ≡ joined (slice_split is_line_feed (x ∷ xs)) (slice_split is_line_feed ys)
  at_head more true e =
      let some = some_line xs in
      slice_split-cons_yes is_line_feed x (xs ++ ys) e ∙ ap (λ lines. [] ∷ lines) (more ∙ ap (λ lines. joined lines (slice_split is_line_feed ys)) some.is)
      ∙ sym (ap (λ lines. joined lines (slice_split is_line_feed ys)) (slice_split-cons_yes is_line_feed x xs e ∙ ap (λ lines. [] ∷ lines) some.is) ∙ past_feed some.first some.others (slice_split is_line_feed ys))
  at_head more false e =
      let some = some_line xs in
      slice_split-cons_no is_line_feed x (xs ++ ys) e ∙ ap (onto_first x) (more ∙ ap (λ lines. joined lines (slice_split is_line_feed ys)) some.is)
      ∙ sym (ap (λ lines. joined lines (slice_split is_line_feed ys)) (slice_split-cons_no is_line_feed x xs e ∙ ap (onto_first x) some.is) ∙ past_byte x some.first some.others (slice_split is_line_feed ys))

-- the lines of two texts: the first one's open line goes on with the second's first
pub lines_more : (xs ys : List ℕ) → lines_of (xs ++ ys) ≡ closed_lines xs ++ onto (open_line xs) (lines_of ys)
unfolding lines_of closed_lines open_line
lines_more xs ys = split_more xs ys

pub closed_more : (xs ys : List ℕ) → closed_lines (xs ++ ys) ≡ closed_lines xs ++ all_but_last (onto (open_line xs) (lines_of ys))
unfolding closed_lines
closed_more xs ys =
    let some = onto_some (open_line xs) (lines_of ys) in
    ap all_but_last (lines_more xs ys ∙ ap (λ lines. closed_lines xs ++ lines) some.is) ∙ front_of_two (closed_lines xs) some.first some.others ∙ ap (λ lines. closed_lines xs ++ all_but_last lines) (sym some.is)

pub open_more : (xs ys : List ℕ) → open_line (xs ++ ys) ≡ last_of (onto (open_line xs) (lines_of ys))
unfolding open_line
open_more xs ys =
    let some = onto_some (open_line xs) (lines_of ys) in
    ap last_of (lines_more xs ys ∙ ap (λ lines. closed_lines xs ++ lines) some.is) ∙ last_of_two (closed_lines xs) some.first some.others ∙ ap last_of (sym some.is)

-- ---- A piece without a line feed, and a line that ends

pub closed_piece : (xs piece : List ℕ) → IsOneLine piece → closed_lines (xs ++ piece) ≡ closed_lines xs
unfolding IsOneLine
closed_piece xs piece one = closed_more xs piece ∙ ap (λ lines. closed_lines xs ++ all_but_last (onto (open_line xs) lines)) one ∙ append-nil (closed_lines xs)

pub open_piece : (xs piece : List ℕ) → IsOneLine piece → open_line (xs ++ piece) ≡ open_line xs ++ piece
unfolding IsOneLine
open_piece xs piece one = open_more xs piece ∙ ap (λ lines. last_of (onto (open_line xs) lines)) one

-- a line feed ends the line that stands open
lines_feed : (rest : List ℕ) → lines_of (10 ∷ rest) ≡ [] ∷ lines_of rest
unfolding lines_of
lines_feed rest = refl

lines_nil : lines_of [] ≡ [] ∷ []
unfolding lines_of
lines_nil = refl

feed_lines : lines_of (10 ∷ []) ≡ [] ∷ [] ∷ []
feed_lines = lines_feed [] ∙ ap (λ lines. [] ∷ lines) lines_nil

pub closed_line : (xs piece : List ℕ) → IsOneLine piece → closed_lines (xs ++ (piece ++ 10 ∷ [])) ≡ closed_lines xs ++ (open_line xs ++ piece) ∷ []
closed_line xs piece one =
    ap closed_lines (sym (append_assoc xs piece (10 ∷ []))) ∙ closed_more (xs ++ piece) (10 ∷ [])
    ∙ ap (λ lines. closed_lines (xs ++ piece) ++ all_but_last (onto (open_line (xs ++ piece)) lines)) feed_lines
    ∙ ap (λ line. closed_lines (xs ++ piece) ++ line ∷ []) (append-nil (open_line (xs ++ piece)))
    ∙ ap (λ lines. lines ++ open_line (xs ++ piece) ∷ []) (closed_piece xs piece one)
    ∙ ap (λ line. closed_lines xs ++ line ∷ []) (open_piece xs piece one)

pub open_fresh : (xs piece : List ℕ) → open_line (xs ++ (piece ++ 10 ∷ [])) ≡ []
open_fresh xs piece =
    ap open_line (sym (append_assoc xs piece (10 ∷ []))) ∙ open_more (xs ++ piece) (10 ∷ [])
    ∙ ap (λ lines. last_of (onto (open_line (xs ++ piece)) lines)) feed_lines

-- ---- The lines that count

-- what follows some bytes, as lines that count
abbrev pub judged_rest : Bool → List ℕ → List (List ℕ) → List (List ℕ)
judged_rest is_whole front lines = all_but_last (onto front lines) ++ filter (λ line. is_whole || is_too_long line) (last_of (onto front lines) ∷ [])

pub judged_more : (is_whole : Bool) (xs ys : List ℕ) → judged_to is_whole (xs ++ ys) ≡ closed_lines xs ++ judged_rest is_whole (open_line xs) (lines_of ys)
unfolding judged_to
judged_more is_whole xs ys =
    let kept = λ (line : List ℕ). filter (λ l. is_whole || is_too_long l) (line ∷ []) in
    ap (λ lines. lines ++ kept (open_line (xs ++ ys))) (closed_more xs ys) ∙ ap (λ line. (closed_lines xs ++ all_but_last (onto (open_line xs) (lines_of ys))) ++ kept line) (open_more xs ys) ∙ append_assoc (closed_lines xs) _ _

-- A line that a line feed ends counts, however the script goes on.
pub judged_line : (is_whole : Bool) (xs piece ys : List ℕ) → IsOneLine piece → (others : List (List ℕ)) × (judged_to is_whole ((xs ++ (piece ++ 10 ∷ [])) ++ ys) ≡ closed_lines xs ++ (open_line xs ++ piece) ∷ others)
judged_line is_whole xs piece ys one =
    let read = xs ++ (piece ++ 10 ∷ []) in
    let others = judged_rest is_whole (open_line read) (lines_of ys) in
    (others, judged_more is_whole read ys ∙ ap (λ lines. lines ++ others) (closed_line xs piece one) ∙ append_assoc (closed_lines xs) ((open_line xs ++ piece) ∷ []) others)

still_long : (front more : List ℕ) → is_too_long front ≡ true → is_too_long (front ++ more) ≡ true
still_long front more long = lt-ltb 100 (length (front ++ more)) (omega (arith, length-append front more, ltb-true 100 (length front) long))

or_right : (b x : Bool) → x ≡ true → (b || x) ≡ true
or_right true x e = refl
or_right false x e = e

kept_long : (is_whole : Bool) (line : List ℕ) → is_too_long line ≡ true → filter (λ l. is_whole || is_too_long l) (line ∷ []) ≡ line ∷ []
kept_long is_whole line long = ap (λ b. cond b (line ∷ []) []) (or_right is_whole (is_too_long line) long)

-- A line that is too long already counts, however it goes on.
counts_long : (is_whole : Bool) (front : List ℕ) (lines : List (List ℕ)) → is_too_long front ≡ true → (bad : List ℕ) × (others : List (List ℕ)) × (judged_rest is_whole front lines ≡ bad ∷ others) × (is_too_long bad ≡ true)
counts_long is_whole front [] long = (front, [], kept_long is_whole front long, long)
counts_long is_whole front (line ∷ []) long = (front ++ line, [], kept_long is_whole (front ++ line) (still_long front line long), still_long front line long)
counts_long is_whole front (line ∷ next ∷ lines) long = (front ++ line, _, refl, still_long front line long)

pub judged_long : (is_whole : Bool) (xs ys : List ℕ) → is_too_long (open_line xs) ≡ true → (bad : List ℕ) × (others : List (List ℕ)) × (judged_to is_whole (xs ++ ys) ≡ closed_lines xs ++ bad ∷ others) × (is_too_long bad ≡ true)
judged_long is_whole xs ys long =
    let head = counts_long is_whole (open_line xs) (lines_of ys) long in
    (head.0, head.1, judged_more is_whole xs ys ∙ ap (λ lines. closed_lines xs ++ lines) head.2, head.3)

-- at the end of a whole script the open line counts
pub judged_whole : (xs : List ℕ) → judged_to true xs ≡ closed_lines xs ++ open_line xs ∷ []
unfolding judged_to
judged_whole xs = refl

-- at the limit the line that it cuts doesn't count, unless it is too long already
pub judged_cut : (xs : List ℕ) → is_too_long (open_line xs) ≡ false → judged_to false xs ≡ closed_lines xs
unfolding judged_to
judged_cut xs short = ap (λ b. closed_lines xs ++ cond b (open_line xs ∷ []) []) short ∙ append-nil (closed_lines xs)
