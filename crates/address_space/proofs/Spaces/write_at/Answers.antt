use Rattle.address_space.proofs.Prelude.{◌≡◌, ◌≤◌, ◌+◌, ◌-◌, ◌∙◌, ℕ, List, length, take, ap, sym, arith, slice_range, length-take-le, page_number, offset_number, second_page, crosses, some_bytes, Spaces, slot_at, stored, all_stored, place_in}
use Rattle.address_space.proofs.Lemmas.{first_bytes, length-part, second_none, second_there, stays_then, stored_in_page, stored_two, two_parts}
use Rattle.address_space.proofs.Spaces.write_at.Goals as goal

pub returns-in-None-clause-spaces : goal.returns-in-None-clause-spaces
returns-in-None-clause-spaces c =
    let within = second_none c.args.self.now.directories c.args.self.now.bytes c.args.pid (second_page c.args.address c.args.size) c.args.second.now c.requires.second c.in-None.is in
    c.store_at.ensures.spaces ∙ sym (stored_in_page c.args.self.now.spaces c.args.pid c.args.address c.args.size c.args.value within)

pub store_part_at-requires-in-Some-clause-place : goal.store_part_at-requires-in-Some-clause-place
store_part_at-requires-in-Some-clause-place c =
    let start = c.start_of-start.ensures in
    let behind = c.page_behind.result in
    let next = (crosses c.args.address c.args.size behind c.page_behind.ensures).next in
    let page : page_number c.start_of-start.result ≡ behind = omega (arith, start) in
    second_there c.args.self.now.directories c.args.self.now.bytes c.args.pid (second_page c.args.address c.args.size)
    c.args.second.now c.requires.second behind c.in-Some.second c.page_behind.ensures c.in-Some.is
    ∙ sym (c.store_part_at.ensures.beside behind (λ e. omega (arith, e, next)))
    ∙ ap (place_in c.store_part_at.new.self.directories c.store_part_at.new.self.bytes c.args.pid) (sym page)

pub returns-in-Some-clause-stay : goal.returns-in-Some-clause-stay
returns-in-Some-clause-stay c = stays_then c.store_part_at.ensures.stay c.store_part_at-in-Some.ensures.stay

pub returns-in-Some-clause-spaces : goal.returns-in-Some-clause-spaces
returns-in-Some-clause-spaces c =
    let S = c.args.self.now.spaces in
    let p = c.args.pid in
    let a = c.args.address in
    let size = c.args.size in
    let over = crosses a size c.page_behind.result c.page_behind.ensures in
    let next = over.next in
    let past = over.past in
    let count = (some_bytes size).1 in
    let few = (some_bytes size).2 in
    let at = c.offset_of.ensures.value in
    let n = c.bytes-end.ensures.value in
    let start = c.start_of-start.ensures in
    let cut : ℕ = 4096 - c.offset_of.result in
    let end : ℕ = c.bytes-end.result in
    let B : List ℕ = c.four_bytes-bytes.result in
    let four : length B ≡ 4 = ap length c.four_bytes-bytes.ensures in
    let some : 1 ≤ cut = omega (arith, at) in
    let less : cut + 1 ≤ end = omega (arith, at, past, n) in
    let ends : end ≤ length B = omega (arith, n, count, few, four) in
    let xs : List ℕ = take cut B in
    let ys : List ℕ = slice_range B cut end in
    let long : length xs ≡ cut = length-take-le cut B (omega (arith, less, ends)) in
    let rest : length ys ≡ end - cut = length-part B cut end (omega (arith, less)) ends in
    let there : a + length xs ≡ c.start_of-start.result = omega (arith, long, at, start, next) in
    c.store_part_at-in-Some.ensures.spaces
    ∙ ap (λ (T : Spaces). stored T (slot_at p c.start_of-start.result) (offset_number c.start_of-start.result) ys) c.store_part_at.ensures.spaces
    ∙ ap (λ b. stored (stored S (slot_at p a) (offset_number a) xs) (slot_at p b) (offset_number b) ys) (sym there)
    ∙ sym (stored_two S p a xs ys (omega (arith, long, some)) (omega (arith, rest, less)) (omega (arith, long, at)) (omega (arith, rest, n, count, few)))
    ∙ ap (all_stored S p a) (two_parts B cut end (omega (arith, less)) ends ∙ (λ i. take (n i) (c.four_bytes-bytes.ensures i)) ∙ first_bytes size c.args.value)
