use Rattle.shadow_core.proofs.Pairing.{walks_are_the_cores, out_of_reach, accesses_are_served, accesses_are_kept}
use Rattle.shadow_core.proofs.pairs.walks.Goals as goal

pub returns-clause-walks : goal.returns-clause-walks
returns-clause-walks c = walks_are_the_cores c.args.core.now c.args.shadow.now c.requires c.walks.ensures.walks c.walks.ensures.closed

pub returns-clause-apart : goal.returns-clause-apart
returns-clause-apart c =
    let v = c.args.core.now in
    let s = c.args.shadow.now in
    out_of_reach v s c.frames-frames.result (walks_are_the_cores v s c.requires c.walks.ensures.walks c.walks.ensures.closed) c.frames-frames.ensures.bytes

pub returns-clause-accesses : goal.returns-clause-accesses
returns-clause-accesses c = accesses_are_served c.args.core.now c.args.shadow.now c.requires c.walks.ensures.walks

pub returns-clause-steps : goal.returns-clause-steps
returns-clause-steps c = accesses_are_kept c.args.core.now c.args.shadow.now c.requires c.walks.ensures.walks

pub returns-clause-read : goal.returns-clause-read
returns-clause-read c = c.requires.given
