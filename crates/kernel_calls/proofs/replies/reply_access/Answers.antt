use Rattle.kernel_calls.proofs.Prelude.{ap, sym, ◌∙◌, Err, PageFault}
use Rattle.kernel_calls.proofs.InPage.{is_accessed, reply_by}
use Rattle.kernel_calls.specs.declared.calls.Reply.TheVariants as reply
use Rattle.kernel_calls.proofs.replies.reply_access.Goals as goal

pub returns-in-Ok : goal.returns-in-Ok
returns-in-Ok c =
    let made = c.access.ensures in
    is_accessed _ _ _ _ _ _ c.requires _ _ _ made.result made.state made.stay made.kept
    (c.value_told.ensures ∙ ap (reply_by c.args.access) (sym c.in-Ok.is))

pub returns-in-Err-Refused : goal.returns-in-Err-Refused
returns-in-Err-Refused c =
    let made = c.access.ensures in
    let is = c.in-Err-Refused.is ∙ ap Err c.in-Err-Refused.field-0-is in
    is_accessed _ _ _ _ _ _ c.requires _ _ _ made.result made.state made.stay made.kept
    (ap reply.Refused c.in-Err-Refused.cause-is ∙ sym (ap (reply_by c.args.access) is))

pub returns-in-Err-Fault : goal.returns-in-Err-Fault
returns-in-Err-Fault c =
    let made = c.access.ensures in
    let is = c.in-Err-Fault.is ∙ ap Err c.in-Err-Fault.field-0-is in
    is_accessed _ _ _ _ _ _ c.requires _ _ _ made.result made.state made.stay made.kept
    (c.fault_told.ensures ∙ ap (λ (f : PageFault). reply.Fault f.addr f.code) c.in-Err-Fault.fault-is
    ∙ sym (ap (reply_by c.args.access) is))
