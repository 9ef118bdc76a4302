use Rattle.shootdowns.proofs.Prelude.{rules, ◌≡◌, ◌∙◌, first_store, fork_it, load_copy, protect_it, refl}
use Rattle.shootdowns.proofs.WorkedProtects.{worked_by}
use Rattle.shootdowns.proofs.worked.worked_protect.Goals as goal

pub returns : goal.returns
returns c =
    let root : c.unwrap-root.result ≡ 0 = search rules in
    let child : c.unwrap-child.result ≡ 1 = search rules in
    let store : c.event.result ≡ first_store = c.event.ensures ∙ (λ i. record first_store { pid = root i; call = c.store_of_seven.ensures i }) in
    let fork : c.event-2.result ≡ fork_it = c.event-2.ensures ∙ (λ i. record fork_it { pid = root i }) in
    let load : c.event-3.result ≡ load_copy = c.event-3.ensures ∙ (λ i. record load_copy { pid = child i }) in
    let protect : c.event-4.result ≡ protect_it = c.event-4.ensures ∙ (λ i. record protect_it { pid = child i }) in
    let begun = c.step_ending.ensures in
    worked_by c.in_ok-core.core c.step.new.self c.step-2.new.self c.step-3.new.self c.step_ending.new.self c.step-2.result
    (record {
      opening = c.in_ok-core.ensures.opening;
      stored = rw store at c.step.ensures.state;
      core_stored = c.stands.ensures.core;
      forked = rw fork at c.step-2.ensures.state;
      fork_told = rw fork at c.step-2.ensures.reply;
      lazy = rw fork at c.step-2.ensures.lazy;
      core_forked = c.stands-2.ensures.core;
      loaded = rw load at c.step-3.ensures.state;
      load_stay = rw load at c.step-3.ensures.stay;
      before = c.stands-3.ensures.core;
      begins = record {
        carried = record { reply = refl; state = rw protect at begun.state; ends = rw (begun.ended, protect) at begun.ends; core = c.stands-4.ensures.core };
        stay = rw protect at begun.stay;
        loose = λ no. cc;
      };
    })
