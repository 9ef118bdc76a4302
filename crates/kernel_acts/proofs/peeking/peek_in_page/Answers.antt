use Rattle.kernel_acts.proofs.Prelude
use Prelude.{◌∙◌, ap, sym, length, List, ℕ, offset_number, frame_bytes, at_page, bytes_at, cell_or_fresh, is_mapped}
use Rattle.kernel_acts.proofs.Peeked.{part_peeked}
use Rattle.kernel_acts.proofs.peeking.peek_in_page.Goals as goal

pub returns-clause-bytes : goal.returns-clause-bytes
returns-clause-bytes c = λ _.
    let s = c.args.core.now.state in
    let n = length c.args.out.now in
    let page = c.page_of-page.ensures.value in
    c.copy_part.ensures
    ∙ (λ i. bytes_at (frame_bytes (c.memory.ensures i) c.in-Some.frame) (c.offset_of.ensures.value i) n)
    ∙ ap (λ (xs : List ℕ). bytes_at xs (offset_number c.args.address) n) (c.in-Some.ensures.leads.bytes ∙ ap (λ k. (cell_or_fresh s.spaces (at_page c.args.pid k)).bytes) page)
    ∙ part_peeked s c.args.pid c.args.address n c.stands.ensures.well_formed (sym (ap (λ k. is_mapped s (at_page c.args.pid k)) page) ∙ c.in-Some.ensures.leads.mapped) c.requires.within
