use Rattle.shootdowns.proofs.Prelude.{rules, ◌≡◌, ◌∙◌, true, accept_it, load_it, map_it, offer_it, spawn_it, refl}
use Rattle.kernel_calls.specs.declared.calls.Call.TheVariants as call
use Rattle.shootdowns.proofs.WorkedAccepts.{worked_by}
use Rattle.shootdowns.proofs.worked.worked_zeros.Goals as goal

pub returns : goal.returns
returns c =
    let root : c.unwrap-root.result ≡ 0 = search rules in
    let child : c.unwrap-child.result ≡ 1 = search rules in
    let maps : c.event.result ≡ map_it = c.event.ensures ∙ (λ i. record map_it { pid = root i }) in
    let loads : c.event-2.result ≡ load_it = c.event-2.ensures ∙ (λ i. record load_it { pid = root i }) in
    let spawns : c.event-3.result ≡ spawn_it = c.event-3.ensures ∙ (λ i. record spawn_it { pid = root i }) in
    let offers : c.event-4.result ≡ offer_it = c.event-4.ensures ∙ (λ i. record offer_it { pid = root i; call = call.Offer 0x40000 (child i) true }) in
    let accepts : c.event-5.result ≡ accept_it =
    c.event-5.ensures ∙ (λ i. record accept_it { pid = child i; call = c.accept_of.ensures i }) ∙ (λ i. record accept_it { call = call.Accept (root i) 0x40000 0x50000 }) in
    let begun = c.step_ending.ensures in
    worked_by c.in_ok-core.core c.step.new.self c.step-2.new.self c.step-3.new.self c.step-4.new.self c.step_ending.new.self
    c.step.result
    (record {
      opening = c.in_ok-core.ensures.opening;
      mapped = rw maps at c.step.ensures.state;
      map_told = rw maps at c.step.ensures.reply;
      lazy = rw maps at c.step.ensures.lazy;
      core_mapped = c.stands.ensures.core;
      loaded = rw loads at c.step-2.ensures.state;
      load_stay = rw loads at c.step-2.ensures.stay;
      core_loaded = c.stands-2.ensures.core;
      spawned = rw spawns at c.step-3.ensures.state;
      spawn_stay = rw spawns at c.step-3.ensures.stay;
      core_spawned = c.stands-3.ensures.core;
      offered = rw offers at c.step-4.ensures.state;
      offer_stay = rw offers at c.step-4.ensures.stay;
      before = c.stands-4.ensures.core;
      begins = record {
        carried = record { reply = refl; state = rw accepts at begun.state; ends = rw (begun.ended, accepts) at begun.ends; core = c.stands-5.ensures.core };
        stay = rw accepts at begun.stay;
        loose = λ no. cc;
      };
    })
