use Rattle.page_map.proofs.Prelude
use Prelude.{◌*◌, ◌+◌, inl, inr, arith, frame_bytes, cases_lt}
use Rattle.page_map.proofs.PageLemmas.{found_page, none_from, none_in_slots, none_before, entry_there}
use Rattle.page_map.proofs.next_page.Goals as goal

pub returns-in-Some-next_listed-clause-mapped : goal.returns-in-Some-next_listed-clause-mapped
returns-in-Some-next_listed-clause-mapped c =
    let m = frame_bytes c.args.memory.now in
    let slot = c.in-Some.region.slot in
    let listed = c.in-Some-next_listed in
    let low = c.loop-region.invariant.low in
    found_page m c.args.directory (slot * 1024 + listed.listed.index) (omega (arith, low, c.saturating_sub.ensures, listed.ensures.within.0)) (omega (arith, c.in-Some.ensures.within.1, listed.ensures.within.1))
    (entry_there m c.args.directory slot c.in-Some.region.table listed.listed.index listed.listed.entry c.in-Some.ensures.table listed.ensures.within.1 listed.ensures.entry)

pub returns-in-Some-next_listed-clause-least : goal.returns-in-Some-next_listed-clause-least
returns-in-Some-next_listed-clause-least c = λ other above below.
    none_from (frame_bytes c.args.memory.now) c.args.directory c.args.from (c.in-Some.region.slot * 1024 + c.in-Some-next_listed.listed.index) other (λ p low high. elim (cases_lt p c.loop-region.first) [
      | inl before ↦ c.loop-region.invariant.none p low before
      | inr behind ↦
          none_before (frame_bytes c.args.memory.now) c.args.directory c.loop-region.first c.in-Some.region.slot c.in-Some.region.table c.in-Some-next_listed.listed.index p c.in-Some.ensures.least c.in-Some.ensures.table
          (λ i up. c.in-Some-next_listed.ensures.least i (omega (arith, up, c.saturating_sub.ensures))) (omega (arith, c.in-Some-next_listed.ensures.within.1)) behind (omega (arith, high))
    ]) above (inl below)

pub returns-clause-none : goal.returns-clause-none
returns-clause-none c = λ other above.
    none_from (frame_bytes c.args.memory.now) c.args.directory c.args.from 0xf0000 other (λ p low high. elim (cases_lt p c.loop-region.first) [
      | inl before ↦ c.loop-region.invariant.none p low before
      | inr behind ↦ none_in_slots (frame_bytes c.args.memory.now) c.args.directory c.loop-region.first 960 p c.in_default.ensures.none behind (omega (arith, high))
    ]) above (inr (omega arith))
