use Rattle.address_space.proofs.Prelude.{◌≡◌, ◌∙◌, ℕ, None, ap, sym, second_page, byte_count, offset_number, frame_bytes, View, Spaces, at_page, slot_at, cell_or_fresh, value_of, bytes_at}
use Rattle.address_space.proofs.Lemmas.{number_in_page, second_none, second_is, second_there}
use Rattle.address_space.proofs.Spaces.peek_at.Goals as goal

pub returns-in-None : goal.returns-in-None
returns-in-None c =
    let S : Spaces = c.args.self.now.spaces in
    let count : ℕ = byte_count c.args.size in
    let within : second_page c.args.address c.args.size ≡ None =
    second_none c.args.self.now.directories c.args.self.now.bytes c.args.pid (second_page c.args.address c.args.size) c.args.second.now c.requires.second c.in-None.is in
    let same = ap (λ (v : View). v.bytes) c.self.view_is in
    let cell : (cell_or_fresh S (slot_at c.args.pid c.args.address)).bytes ≡ frame_bytes c.args.self.now.bytes c.frame_at-frame.result =
    ap (λ n. (cell_or_fresh S (at_page c.args.pid n)).bytes) (sym c.page_of.ensures.value) ∙ c.frame_at-frame.ensures.bytes in
    c.number_at.ensures
    ∙ (λ i. value_of (bytes_at (frame_bytes (same i) c.frame_at-frame.result) (c.offset_of.ensures.value i) count))
    ∙ ap (λ b. value_of (bytes_at b (offset_number c.args.address) count)) (sym cell)
    ∙ sym (number_in_page S c.args.pid c.args.address c.args.size within)

pub page_behind-behind-requires : goal.page_behind-behind-requires
page_behind-behind-requires c = second_is c.args.self.now.directories c.args.self.now.bytes c.args.pid (second_page c.args.address c.args.size) c.args.second.now c.requires.second c.in-Some.second c.in-Some.is

pub number_over-requires-clause-second : goal.number_over-requires-clause-second
number_over-requires-clause-second c =
    second_there c.args.self.now.directories c.args.self.now.bytes c.args.pid (second_page c.args.address c.args.size) c.args.second.now c.requires.second c.page_behind-behind.result c.in-Some.second c.page_behind-behind.ensures c.in-Some.is
