use Rattle.guest_race.proofs.GrowthLemmas.{call_made}
use Rattle.guest_race.proofs.guests.make_call.Goals as goal

pub returns-clause-made : goal.returns-clause-made
returns-clause-made g c = call_made _ _ _ _ _ c.requires c.call.ensures.number c.in_ok-call.ensures.made
