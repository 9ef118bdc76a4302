use Rattle.kernel_calls.proofs.Prelude.{ap, ◌∙◌, tested, spawned, used-container}
use Rattle.kernel_calls.proofs.Decided.{decided-map, decided-protect, decided-offer, decided-spawn, decided-fork}
use Rattle.kernel_calls.proofs.decisions.decide_live.Goals as goal

pub returns-in-Map : goal.returns-in-Map
returns-in-Map c =
    let s = c.args.processes.now.state in
    let e = c.args.event.now in
    c.done_or_refused.ensures ∙ ap (λ t. tested t c.args.container.now.used) c.can_map.ensures
    ∙ decided-map c.args.processes.now e c.in-Map.page c.in-Map.write c.args.container.now.used c.in-Map.is c.requires.live (used-container s e.pid c.args.container.now c.requires.container)

pub returns-in-Spawn : goal.returns-in-Spawn
returns-in-Spawn c =
    let s = c.args.processes.now.state in
    let e = c.args.event.now in
    c.child_or_refused.ensures ∙ ap (λ t. spawned t c.args.container.now.used) c.can_spawn.ensures
    ∙ decided-spawn c.args.processes.now e c.in-Spawn.quota c.args.container.now.used c.in-Spawn.is c.requires.live (used-container s e.pid c.args.container.now c.requires.container)

pub returns-in-Fork : goal.returns-in-Fork
returns-in-Fork c =
    let s = c.args.processes.now.state in
    let e = c.args.event.now in
    c.child_or_refused-in-Fork.ensures ∙ ap (λ t. spawned t c.args.container.now.used) c.can_fork.ensures
    ∙ decided-fork c.args.processes.now e c.in-Fork.quota c.args.container.now.used c.in-Fork.is c.requires.live (used-container s e.pid c.args.container.now c.requires.container)

pub returns-in-Protect : goal.returns-in-Protect
returns-in-Protect c =
    let s = c.args.processes.now.state in
    let e = c.args.event.now in
    c.done_or_refused-in-Protect.ensures ∙ ap (λ t. tested t c.args.container.now.used) c.can_protect.ensures
    ∙ decided-protect c.args.processes.now e c.in-Protect.page c.in-Protect.write c.args.container.now.used c.in-Protect.is c.requires.live (used-container s e.pid c.args.container.now c.requires.container)

pub returns-in-Offer : goal.returns-in-Offer
returns-in-Offer c =
    let s = c.args.processes.now.state in
    let e = c.args.event.now in
    c.done_or_refused-in-Offer.ensures ∙ ap (λ t. tested t c.args.container.now.used) c.can_offer.ensures
    ∙ decided-offer c.args.processes.now e c.in-Offer.page c.in-Offer.target c.in-Offer.write c.args.container.now.used c.in-Offer.is c.requires.live (used-container s e.pid c.args.container.now c.requires.container)
