use Rattle.std.proofs.Common.{◌≡◌, ◌<◌, ◌∷◌, length, get_or, ap, sym, ◌∙◌, arith}
use Rattle.std.proofs.lemmas.List.{take_rest}
use Rattle.script_run.specs.Tokens.{tokens_of}
use Rattle.script_run.proofs.TokenLemmas.{first_bytes, first_ends, first_fits, not_first, word_first}
use Rattle.script_run.proofs.tokens.after.Goals as goal
use Rattle.script_run.proofs.tokens.after.Goals.{then-line-word-via-then-line-word, then-line-word-via-else-line-word+then-not-ends_at}

pub returns-then-line-word : goal.returns-then-line-word
returns-then-line-word c = elim c.then-line-word.branch [
  | then-line-word-via-then-line-word w ↦
      not_first c.args.line.now c.args.word.now c.requires.front (λ is. omega (arith, w.if-line-word.true, first_fits c.args.line.now c.args.word.now is))
  | then-line-word-via-else-line-word+then-not-ends_at w ↦
      let beyond = w.ends_at.ensures.goes_on w.if-not-ends_at.true in
      not_first c.args.line.now c.args.word.now c.requires.front (λ is. beyond.1 (first_ends c.args.line.now c.args.word.now is beyond.0))
]

pub returns-then-line-place : goal.returns-then-line-place
returns-then-line-place c = not_first c.args.line.now c.args.word.now c.requires.front (λ is. c.if-line-place.true (first_bytes c.args.line.now c.args.word.now c.loop-place.place is c.loop-place-test.true))

pub returns : goal.returns
returns c =
    let same : (k : _) → k < length c.args.word.now → get_or c.args.line.now k 0 ≡ get_or c.args.word.now k 0 = λ k before. c.loop-place.invariant.same k (omega (arith, before, c.loop-place-test.false)) in
    word_first c.args.line.now c.args.word.now c.requires.word (omega (arith, c.if-line-word.false)) same (c.ends_at.ensures.ends c.if-not-ends_at.false)
    ∙ ap (λ xs. c.args.word.now ∷ tokens_of xs) (sym (take_rest c.args.line.now (length c.args.word.now)))
