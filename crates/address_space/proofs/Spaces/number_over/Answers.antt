use Rattle.address_space.proofs.Prelude.{◌≡◌, ◌+◌, ◌-◌, ◌++◌, ◌∙◌, ℕ, ap, sym, length, byte_count, offset_number, frame_bytes, length-frame, View, Spaces, at_page, slot_at, cell_or_fresh, value_of, bytes_at}
use Rattle.address_space.proofs.steps.Bytes.{number_in_two}
use Rattle.address_space.proofs.Spaces.number_over.Goals as goal

pub returns : goal.returns
returns c =
    let S : Spaces = c.args.self.now.spaces in
    let p : ℕ = c.args.pid in
    let o : ℕ = offset_number c.args.address in
    let rest : ℕ = o + byte_count c.args.size - 4096 in
    let same = ap (λ (v : View). v.bytes) c.self.view_is in
    let first : (cell_or_fresh S (slot_at p c.args.address)).bytes ≡ frame_bytes c.args.self.now.bytes c.frame_at-one.result =
    ap (λ n. (cell_or_fresh S (at_page p n)).bytes) (sym c.page_of.ensures.value) ∙ c.frame_at-one.ensures.bytes in
    let second = c.frame_at-other.ensures.bytes in
    c.number_across.ensures
    ∙ (λ i. value_of (bytes_at (frame_bytes (same i) c.frame_at-one.result) (c.offset_of.ensures.value i) (4096 - c.offset_of.ensures.value i)
    ++ bytes_at (frame_bytes (same i) c.frame_at-other.result) 0 (c.offset_of.ensures.value i + byte_count c.args.size - 4096)))
    ∙ (λ i. value_of (bytes_at (sym first i) o (4096 - o) ++ bytes_at (sym second i) 0 rest))
    ∙ sym (number_in_two S p c.args.address c.args.behind c.args.size c.requires.behind
    (ap length first ∙ length-frame c.args.self.now.bytes c.frame_at-one.result c.frame_at-one.ensures.inside.fits)
    (ap length second ∙ length-frame c.args.self.now.bytes c.frame_at-other.result c.frame_at-other.ensures.inside.fits))
