use Rattle.page_map.proofs.MarkProofs.{marks_touch_entries}
use Rattle.page_map.proofs.marks_touch_entries.Goals as goal

pub returns : goal.returns
returns c = marks_touch_entries
