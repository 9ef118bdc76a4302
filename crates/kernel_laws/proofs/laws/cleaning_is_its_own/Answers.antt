use Rattle.kernel_laws.proofs.Cleanings.{cleaning_keeps_states, cleaning_is_unseen, kept_through_marks, kept_among_marks, cleaning_is_no_event, cleaning_shows}
use Rattle.kernel_calls.proofs.Cleanings.{events_end_marks}
use Rattle.kernel_laws.proofs.laws.cleaning_is_its_own.Goals as goal

pub returns-clause-states : goal.returns-clause-states
returns-clause-states c = cleaning_keeps_states

pub returns-clause-unseen : goal.returns-clause-unseen
returns-clause-unseen c = cleaning_is_unseen

pub returns-clause-events : goal.returns-clause-events
returns-clause-events c = events_end_marks

pub returns-clause-kept : goal.returns-clause-kept
returns-clause-kept c = kept_through_marks

pub returns-clause-moments : goal.returns-clause-moments
returns-clause-moments c = kept_among_marks

pub returns-clause-no_event : goal.returns-clause-no_event
returns-clause-no_event c = cleaning_is_no_event

pub returns-clause-shows : goal.returns-clause-shows
returns-clause-shows c = cleaning_shows
