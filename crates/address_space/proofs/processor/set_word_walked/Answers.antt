use Rattle.address_space.proofs.Prelude.{◌≡◌, ap, ◌∙◌, arith, slot_number, word_at, word_place, with_word, walked_word}
use Rattle.address_space.proofs.processor.set_word_walked.Goals as goal

pub returns-clause-bytes : goal.returns-clause-bytes
returns-clause-bytes c =
    let d = c.args.directory in
    let bytes = c.args.memory.now in
    let place : c.place_of-place.result ≡ word_place d (slot_number c.args.page) = let is = c.place_of-place.ensures in let slot = c.slot_of.ensures in omega (arith, is, slot) in
    c.write_word.ensures.bytes
    ∙ ap (with_word bytes c.place_of-place.result) (c.walked_word.ensures ∙ ap (walked_word c.args.walked) c.read_word-word.ensures)
    ∙ ap (λ n. with_word bytes n (walked_word c.args.walked (word_at bytes n))) place
