use Rattle.std.proofs.Common.{◌≡◌, ◌∙◌, ℕ, ◌+◌, ◌<◌, Bool, ◌||◌, true, false, List, [], ◌∷◌, ◌++◌, length, take, get_or, refl, sym, ap, arith, map}
use Rattle.std.specs.List.{list_any}
use Rattle.std.proofs.lemmas.List.{take_more, take_all, map-append}
use Rattle.std.proofs.lemmas.List.Folds.{list_any-append}
use Rattle.map_jobs.specs.Films.{asks_film, is_film}
use Rattle.map_jobs.proofs.jobs.asks_film.Goals as goal

-- one more that passes or not
one_more : (test : Bool) (b : Bool) → (b || test) ≡ (b || (test || false))
one_more true b = refl
one_more false b = refl

asks_next : {S : Type 0} (text : S → List ℕ) (words : List S) (i : ℕ) (word : S) (said : List ℕ) (asks is : Bool) → i < length words → word ≡ get_or words i word → said ≡ text word → is ≡ is_film said
    → asks ≡ asks_film (map text (take i words)) → (asks || is) ≡ asks_film (map text (take (i + 1) words))
asks_next text words i word said asks is within at told so before =
    let more : take (i + 1) words ≡ take i words ++ word ∷ [] = take_more words i word within ∙ ap (λ w. take i words ++ w ∷ []) (sym at) in
    rw (before, so, told)
    (one_more (is_film (text word)) (asks_film (map text (take i words)))
    ∙ sym (list_any-append is_film (map text (take i words)) (text word ∷ []))
    ∙ ap (list_any is_film) (sym (map-append text (take i words) (word ∷ [])))
    ∙ ap (λ ws. asks_film (map text ws)) (sym more))

pub loop-place-preserved : goal.loop-place-preserved
loop-place-preserved g c = asks_next g.S.AsStr.text c.args.words.now c.loop-place.place c.index-words-place.result _ _ _ (omega arith) c.index-words-place.is c.as_str.ensures c.is_film-asks.ensures c.loop-place.invariant

pub returns : goal.returns
returns g c = c.loop-place.invariant ∙ ap (λ ws. asks_film (map g.S.AsStr.text ws)) (take_all c.loop-place.place c.args.words.now (omega arith))
