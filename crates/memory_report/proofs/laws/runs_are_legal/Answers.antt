use Rattle.memory_report.proofs.HistoryLemmas.{empty_is_legal, grows_legal, begins_legal}
use Rattle.memory_report.proofs.laws.runs_are_legal.Goals as goal

pub returns-clause-empty : goal.returns-clause-empty
returns-clause-empty c = empty_is_legal

pub returns-clause-grows : goal.returns-clause-grows
returns-clause-grows c = grows_legal

pub returns-clause-begins : goal.returns-clause-begins
returns-clause-begins c = begins_legal
