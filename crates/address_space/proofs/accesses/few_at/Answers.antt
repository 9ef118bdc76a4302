use Rattle.address_space.proofs.Prelude.{◌≡◌, ◌+◌, ◌*◌, ap, ◌∙◌, sym, arith, take, drop, List, ℕ, slice_index, frame_bytes, value_of}
use Rattle.address_space.proofs.steps.Bytes.{value_by_places}
use Rattle.address_space.proofs.accesses.few_at.Goals as goal

pub returns-in_default-clause-value : goal.returns-in_default-clause-value
returns-in_default-clause-value c =
    let F : List ℕ = frame_bytes c.args.memory.now c.args.frame in
    let at : ℕ = c.args.at in
    let three : c.args.count ≡ 3 = grind (arith, c.in_default, c.requires.some, c.requires.few) in
    let next : at + 2 ≡ at + 1 + 1 = omega arith in
    let third : c.byte_of-in_default-2.result ≡ slice_index F (at + 1 + 1) = c.byte_of-in_default-2.ensures ∙ ap (slice_index F) next in
    let value : slice_index F at + 256 * (slice_index F (at + 1) + 256 * (slice_index F (at + 1 + 1) + 256 * 0)) ≡ value_of (take 3 (drop at F)) = value_by_places F at 3 in
    omega (arith, c.of_two-low.ensures.value, c.byte_of-first.ensures, c.byte_of-in_default.ensures, c.from-in_default.ensures, third, value)
    ∙ ap (λ n. value_of (take n (drop at F))) (sym three)
