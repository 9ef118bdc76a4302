use Rattle.kernel_calls.proofs.Prelude.{stays_most, rules}
use Rattle.kernel_calls.proofs.replies.reply_store.Goals as goal

pub returns-in-Some : goal.returns-in-Some
returns-in-Some c = record {
  reply = search rules;
  state = search rules;
  stay = stays_most c.try_access.ensures.stay;
  kept = search rules;
}
