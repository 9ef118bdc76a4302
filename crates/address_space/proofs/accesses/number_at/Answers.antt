use Rattle.address_space.proofs.Prelude.{◌≡◌, ◌+◌, ◌*◌, ◌≤◌, ◌<◌, [], ◌∷◌, ap, ◌∙◌, arith, slice_index, word_at, frame_bytes, some_bytes, value_of}
use Rattle.address_space.proofs.Lemmas.{word_read_in, byte_read_in, byte_in_frame, value_by_places}
use Rattle.address_space.proofs.accesses.number_at.Goals as goal

pub place_of-place-requires-clause-inside : goal.place_of-place-requires-clause-inside
place_of-place-requires-clause-inside c = let some = (some_bytes c.args.size).1 in let i = c.requires.inside in omega (arith, some, i)

pub returns-in-One : goal.returns-in-One
returns-in-One c =
    let inside : c.args.at < 4096 = let i : c.args.at + 1 ≤ 4096 = rw c.in-One.is at c.requires.inside in omega (arith, i) in
    rw c.in-One.is
    (c.from.ensures ∙ c.read_byte.ensures ∙ ap (slice_index c.args.memory.now) c.place_of-place.ensures
    ∙ byte_read_in c.args.memory.now c.args.frame c.args.at c.requires.frame inside)

pub returns-in-Two : goal.returns-in-Two
returns-in-Two c =
    let inside : c.args.at + 2 ≤ 4096 = rw c.in-Two.is at c.requires.inside in
    let two : c.args.at + 1 < 4096 = omega (arith, inside) in
    let bytes = frame_bytes c.args.memory.now c.args.frame in
    let next : c.place_of-place.result + 1 ≡ 4096 * c.args.frame + (c.args.at + 1) = let p = c.place_of-place.ensures in omega (arith, p) in
    let first = c.read_byte-in-Two.ensures ∙ ap (slice_index c.args.memory.now) c.place_of-place.ensures ∙ byte_in_frame c.args.memory.now c.args.frame c.args.at (omega (arith, two)) in
    let second = c.read_byte-in-Two-2.ensures ∙ ap (slice_index c.args.memory.now) next ∙ byte_in_frame c.args.memory.now c.args.frame (c.args.at + 1) two in
    rw c.in-Two.is (c.of_two.ensures.value ∙ (λ i. value_of (first i ∷ second i ∷ [])) ∙ value_by_places bytes c.args.at 2)

pub returns-in-Four : goal.returns-in-Four
returns-in-Four c =
    let inside : c.args.at + 4 ≤ 4096 = rw c.in-Four.is at c.requires.inside in
    rw c.in-Four.is
    (c.read_word.ensures ∙ ap (word_at c.args.memory.now) c.place_of-place.ensures
    ∙ word_read_in c.args.memory.now c.args.frame c.args.at c.requires.frame inside)
