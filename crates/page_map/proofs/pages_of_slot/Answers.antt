use Rattle.page_map.proofs.Prelude
use Prelude.{sym, ◌∙◌, frame_bytes}
use Rattle.page_map.proofs.PageLemmas.{count-table, count-no_table}
use Rattle.page_map.proofs.pages_of_slot.Goals as goal

pub returns-in-Some-clause-count : goal.returns-in-Some-clause-count
returns-in-Some-clause-count c = c.words_present.ensures.count ∙ count-table (frame_bytes c.args.memory.now) c.args.directory c.args.slot c.in-Some.table (sym c.table.ensures ∙ c.in-Some.is)

pub returns-in-None-clause-count : goal.returns-in-None-clause-count
returns-in-None-clause-count c = sym (count-no_table (frame_bytes c.args.memory.now) c.args.directory c.args.slot (sym c.table.ensures ∙ c.in-None.is))
