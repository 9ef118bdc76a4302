use Rattle.kernel_acts.proofs.Prelude.{◌≡◌, at_page, answer, unmap_of, Holder}
use Rattle.kernel_acts.proofs.Unmaps.{unmap_done, unmap_ends}
use Rattle.kernel_calls.specs.declared.calls.Reply.TheVariants as reply
use Rattle.kernel_acts.proofs.taking.unmap_beside.Goals as goal

pub returns : goal.returns
returns c =
    let v = c.args.core.now in
    let h : Holder = record { pid = c.args.other; page = c.args.other_page } in
    let done : answer v.state (unmap_of h) ≡ reply.Done = unmap_done v.state (at_page c.args.pid c.args.page) h c.stands.ensures.well_formed c.requires.beside in
    record {
      unmapped = record {
        beside = c.requires.beside;
        ended = unmap_ends v h done;
        carried = c.step.ensures.carried;
      };
    }
