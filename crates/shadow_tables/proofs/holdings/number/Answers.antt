use Rattle.std.proofs.Common.{◌≡◌, ℕ, ◌-◌, length, map, sym, ◌∙◌, arith}
use Rattle.std.specs.List.{range_with_len}
use Rattle.std.proofs.lemmas.Grind.{same_number_lists}
use Rattle.std.proofs.lemmas.List.{length-map}
use Rattle.std.proofs.lemmas.List.FromFn.{get_or-map-range_with_len, length-range_with_len}
use Rattle.shadow_tables.proofs.holdings.number.Goals as goal

pub returns : goal.returns
returns c =
    let next = c.loop-frame.next in
    let n = length c.args.next.now in
    let before : ℕ → ℕ = λ frame. frame - 1 in
    let numbers = map before (range_with_len 0 n) in
    let long : length next ≡ n = c.loop-frame.auto.next in
    let all : length numbers ≡ n = length-map (range_with_len 0 n) before ∙ length-range_with_len 0 n in
    same_number_lists next numbers (long ∙ sym all) (λ k inside.
    c.loop-frame.invariant k (let done = c.loop-frame-test.false in omega (arith, done, inside, c.loop-frame.auto.frame-end))
    ∙ sym (get_or-map-range_with_len before 0 n k k 0 (omega (arith, inside, long)) (omega arith)))
