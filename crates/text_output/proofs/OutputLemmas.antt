-- Pieces of a text that are written one behind another.
use Rattle.std.proofs.Common.{◌≡◌, ℕ, ◌+◌, ◌-◌, ◌<◌, List, [], ◌++◌, Option, length, take, drop, subst, sym, ap, ◌∙◌, append_assoc, take-append-drop, get_or, drop-cons, add-one, append-nil, length-append, arith, Result, Ok, Err}
use Rattle.std.specs.Prelude.{OnOk, OnErr}
use Rattle.std.specs.List.{flat_map}
use Rattle.std.specs.Io.KnownBytes.{Appends}
use Rattle.std.proofs.KnownBytes.{Appends-trans}
use Rattle.std.proofs.lemmas.List.{take_rest}
use Rattle.text_output.specs.Output.{AppendsFront, LeavesUnwritten}

-- a write after a write that left a rest
pub wrote_more : (a b c : Option (List ℕ)) (text rest : List ℕ) (n : ℕ) → LeavesUnwritten a b text rest → Appends b c (take n rest) → LeavesUnwritten a c text (take (length rest - n) (drop n rest))
wrote_more a b c text rest n before more = record {
  written = before.written ++ take n rest;
  whole = before.whole ∙ ap (λ bytes. before.written ++ bytes) (sym (take-append-drop n rest) ∙ ap (λ bytes. take n rest ++ bytes) (sym (take_rest rest n))) ∙ sym (append_assoc before.written (take n rest) _);
  grown = Appends-trans a b c before.written (take n rest) before.grown more;
}

-- a piece of the rest is written
pub wrote_piece : (a b c : Option (List ℕ)) (text piece rest : List ℕ) → LeavesUnwritten a b text (piece ++ rest) → Appends b c piece → LeavesUnwritten a c text rest
wrote_piece a b c text piece rest before more = record {
  written = before.written ++ piece;
  whole = before.whole ∙ sym (append_assoc before.written piece rest);
  grown = Appends-trans a b c before.written piece before.grown more;
}

-- a piece of the rest is cut short
pub cut_piece : (a b c : Option (List ℕ)) (text piece rest : List ℕ) → LeavesUnwritten a b text (piece ++ rest) → AppendsFront b c piece → AppendsFront a c text
cut_piece a b c text piece rest before front =
    let part = front.2 in (
      front.0 ++ rest,
      (let some = front.1 in omega (arith, length-append front.0 rest)),
      record {
        written = before.written ++ part.written;
        whole = before.whole ∙ ap (λ l. before.written ++ (l ++ rest)) part.whole ∙ ap (λ l. before.written ++ l) (append_assoc part.written front.0 rest) ∙ sym (append_assoc before.written part.written (front.0 ++ rest));
        grown = Appends-trans a b c before.written part.written before.grown part.grown;
      },
    )

-- ---- One piece for each of several

module _ {X : Type 0} (f : X → List ℕ) (xs : List X) where
  pieces_step : (n : ℕ) (d : X) → n < length xs → flat_map f (drop n xs) ≡ f (get_or xs n d) ++ flat_map f (drop (n + 1) xs)
  pieces_step n d within = ap (flat_map f) (drop-cons xs n d within) ∙ ap (λ k. f (get_or xs n d) ++ flat_map f (drop k xs)) (sym (add-one n))

  pub wrote_next : (a b c : Option (List ℕ)) (n : ℕ) (x : X) → n < length xs → x ≡ get_or xs n x → LeavesUnwritten a b (flat_map f xs) (flat_map f (drop n xs))
      → Appends b c (f x) → LeavesUnwritten a c (flat_map f xs) (flat_map f (drop (n + 1) xs))
  wrote_next a b c n x within is before more =
      wrote_piece a b c (flat_map f xs) (f x) (flat_map f (drop (n + 1) xs))
      (subst (LeavesUnwritten a b (flat_map f xs)) (pieces_step n x within ∙ ap (λ y. f y ++ flat_map f (drop (n + 1) xs)) (sym is)) before) more

  pub cut_next : (a b c : Option (List ℕ)) (n : ℕ) (x : X) → n < length xs → x ≡ get_or xs n x → LeavesUnwritten a b (flat_map f xs) (flat_map f (drop n xs))
      → AppendsFront b c (f x) → AppendsFront a c (flat_map f xs)
  cut_next a b c n x within is before front =
      cut_piece a b c (flat_map f xs) (f x) (flat_map f (drop (n + 1) xs))
      (subst (LeavesUnwritten a b (flat_map f xs)) (pieces_step n x within ∙ ap (λ y. f y ++ flat_map f (drop (n + 1) xs)) (sym is)) before) front

-- ---- Four parts of a text

pub wrote_first : (a b : Option (List ℕ)) (text piece rest : List ℕ) → text ≡ piece ++ rest → Appends a b piece → LeavesUnwritten a b text rest
wrote_first a b text piece rest whole grown = record { written = piece; whole = whole; grown = grown }

pub cut_first : (a b : Option (List ℕ)) (text piece rest : List ℕ) → text ≡ piece ++ rest → AppendsFront a b piece → AppendsFront a b text
cut_first a b text piece rest whole front =
    let part = front.2 in (
      front.0 ++ rest,
      (let some = front.1 in omega (arith, length-append front.0 rest)),
      record { written = part.written; whole = whole ∙ ap (λ l. l ++ rest) part.whole ∙ append_assoc part.written front.0 rest; grown = part.grown },
    )

pub wrote_last : {T E : Type 0} (a b c : Option (List ℕ)) (text rest : List ℕ) (r : Result T E) → LeavesUnwritten a b text rest → OnOk r (Appends b c rest) → OnOk r (Appends a c text)
wrote_last a b c text rest (Ok x) before more = subst (Appends a c) (sym before.whole) (Appends-trans a b c before.written rest before.grown more)
wrote_last a b c text rest (Err e) before more = tt

pub cut_last : {T E : Type 0} (a b c : Option (List ℕ)) (text rest : List ℕ) (r : Result T E) → LeavesUnwritten a b text rest → OnErr r (AppendsFront b c rest) → OnErr r (AppendsFront a c text)
cut_last a b c text rest (Ok x) before failed = tt
cut_last a b c text rest (Err e) before failed = cut_piece a b c text rest [] (subst (LeavesUnwritten a b text) (sym (append-nil rest)) before) failed
