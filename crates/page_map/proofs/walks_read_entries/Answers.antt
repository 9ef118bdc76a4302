use Rattle.page_map.proofs.LawProofs.{walks_read_entries}
use Rattle.page_map.proofs.walks_read_entries.Goals as goal

pub returns : goal.returns
returns c = walks_read_entries
