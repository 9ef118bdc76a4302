use Rattle.std.proofs.Common.{refl}
use Rattle.std.specs.Fmt.{digits}
use Rattle.script_run.specs.Lines.{line_of, event_of_words, call_of, sharing_call_of, process_call_of, alone}
use Rattle.script_run.specs.Numbers.{decimal_number}
use Rattle.script_run.specs.Replies.{text_of}
use Rattle.script_run.specs.Script.{closed_lines, events_in, events_of, fault_of, is_malformed, is_whole, judged, judged_to, limit, lines_of, open_line, replies_text}
use Rattle.script_run.specs.Tokens.{tokens_of}
use Rattle.script_run.proofs.script.malformed_line_ends_a_script.Goals as goal

pub returns-clause-fault : goal.returns-clause-fault
unfolding line_of event_of_words call_of sharing_call_of process_call_of alone decimal_number closed_lines fault_of is_malformed is_whole judged judged_to limit lines_of open_line tokens_of
returns-clause-fault c = refl

pub returns-clause-replies : goal.returns-clause-replies
unfolding digits line_of event_of_words call_of sharing_call_of process_call_of alone decimal_number text_of closed_lines events_in events_of is_malformed is_whole judged judged_to limit lines_of open_line replies_text tokens_of
returns-clause-replies c = refl
