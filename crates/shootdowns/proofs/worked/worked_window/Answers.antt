use Rattle.shootdowns.proofs.Prelude.{rules, ◌≡◌, ◌∙◌, first_store, second_store, unmap_it, refl}
use Rattle.shootdowns.proofs.WorkedSteps.{worked_by}
use Rattle.shootdowns.proofs.worked.worked_window.Goals as goal

pub returns : goal.returns
returns c =
    let root : c.unwrap-root.result ≡ 0 = search rules in
    let store : c.event.result ≡ first_store =
    c.event.ensures ∙ (λ i. record first_store { pid = root i; call = c.store_of_seven.ensures i }) in
    let more : c.event-2.result ≡ second_store =
    c.event-2.ensures ∙ (λ i. record second_store { pid = root i; call = c.store_of_seven-2.ensures i }) in
    let unmap : c.event-3.result ≡ unmap_it = c.event-3.ensures ∙ (λ i. record unmap_it { pid = root i }) in
    let begun = c.step_ending.ensures in
    let cleared = c.set_walked.ensures in
    let marked = c.set_walked-2.ensures in
    worked_by c.in_ok-core.core c.step.new.self c.step-2.new.self c.step_ending.new.self c.set_walked.new.self c.set_walked-2.new.self
    (record {
      opening = c.in_ok-core.ensures.opening;
      stored = rw store at c.step.ensures.state;
      more = rw more at c.step-2.ensures.state;
      before = c.stands.ensures.core;
      begins = record {
        carried = record { reply = refl; state = rw unmap at begun.state; ends = rw (begun.ended, unmap) at begun.ends; core = c.stands-2.ensures.core };
        stay = rw unmap at begun.stay;
        loose = rw unmap at begun.loose;
      };
      clear_state = cleared.state;
      clear_directories = cleared.directories;
      clear_roles = cleared.roles;
      clear_bytes = rw root at cleared.bytes;
      same = marked.state;
      directories = marked.directories;
      roles = marked.roles;
      bytes = rw root at marked.bytes;
    })
