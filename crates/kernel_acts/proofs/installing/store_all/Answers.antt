use Rattle.kernel_acts.proofs.Prelude
use Prelude.{◌∙◌, ℕ, ap, sym, subst, length, FramesStay, memory_of, State, end_of, AreStored, of_lazy_pages}
use Rattle.kernel_acts.proofs.Installs.{all_stored_there}
use Rattle.kernel_acts.proofs.TransferLemmas.{length-stores}
use Rattle.kernel_acts.proofs.StoresEnd.{stores_end}
use Rattle.kernel_acts.proofs.installing.store_all.Goals as goal

pub returns : goal.returns
returns c =
    let s = c.args.core.now.state in
    let p = c.args.pid in
    let a = c.args.address in
    let part = c.args.part.now in
    let now = c.stands.ensures in
    let later = c.stands-2.ensures in
    let r = all_stored_there s p a part now.well_formed c.requires.mapped c.requires.write c.requires.within c.requires.some (λ i. (c.type_inv.part i).fits) in
    let after = c.write_bytes.ensures.state ∙ ap (end_of s) r.all ∙ r.after in
    let count = c.write_bytes.ensures.count ∙ ap length r.all ∙ length-stores p a part in
    record {
      stored = subst (λ (t : State). AreStored s p a part t) (sym after) r;
      state = after;
      marks = stores_end c.args.core.now c.write_bytes.new.core p a part
          now.core later.core
          c.requires.within c.requires.some (ap (λ (t : State). t.spaces) after)
          (subst (λ (n : ℕ). FramesStay (of_lazy_pages p a n) (memory_of c.args.core.now) (memory_of c.write_bytes.new.core)) count c.write_bytes.ensures.stay);
    }
