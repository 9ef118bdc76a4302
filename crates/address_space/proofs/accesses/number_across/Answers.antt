use Rattle.address_space.proofs.Prelude.{◌≡◌, ◌+◌, ◌-◌, ◌*◌, ◌^◌, ℕ, List, ap, sym, ◌∙◌, arith, length, drop, length-drop, length-take-le, byte_count, frame_bytes, length-frame, value_of, bytes_at}
use Rattle.address_space.proofs.steps.Bytes.{value-append}
use Rattle.address_space.proofs.accesses.number_across.Goals as goal

pub returns : goal.returns
returns c =
    let F : List ℕ = frame_bytes c.args.memory.now c.args.first in
    let G : List ℕ = frame_bytes c.args.memory.now c.args.second in
    let at : ℕ = c.args.at in
    let cut : ℕ = 4096 - at in
    let rest : ℕ = at + byte_count c.args.size - 4096 in
    let all = length-frame c.args.memory.now c.args.first c.requires.first.fits in
    let left = length-drop at F in
    let long : length (bytes_at F at cut) ≡ cut = length-take-le cut (drop at F) (omega (arith, all, left)) in
    let others : c.bytes.result - cut ≡ rest = omega (arith, c.bytes.ensures.value, c.requires.at, c.requires.over) in
    let high : c.few_at-high.result ≡ value_of (bytes_at G 0 rest) = c.few_at-high.ensures.value ∙ ap (λ n. value_of (bytes_at G 0 n)) others in
    c.joined.ensures
    ∙ (λ i. c.few_at-low.ensures.value i + 256 ^ (sym long i) * high i)
    ∙ sym (value-append (bytes_at F at cut) (bytes_at G 0 rest))
