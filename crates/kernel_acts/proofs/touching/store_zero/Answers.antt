use Rattle.kernel_acts.proofs.Prelude
use Prelude.{◌≡◌, sym, ap, ◌∙◌, subst, if◌then◌else◌, Ended, answer, completes, ended_by, Ends, store_byte}
use Rattle.kernel_calls.specs.declared.translations.Ended.TheVariants as end
use Rattle.kernel_acts.proofs.Touches.{zero_touches}
use Rattle.kernel_acts.proofs.touching.store_zero.Goals as goal

pub returns : goal.returns
returns c =
    let v = c.args.core.now in
    let w = c.store_of_zero-reply.new.core in
    let now = c.stands.ensures in
    let later = c.stands-2.ensures in
    let made = c.store_of_zero-reply.ensures in
    let store = store_byte c.args.pid c.args.address 0 in
    let ended : c.if_completed-ended.result ≡ ended_by v store =
    c.if_completed-ended.ensures ∙ ap (λ r. if completes r then c.stale_by_store-ended.result else end.Nothing) made.reply
    ∙ ap (λ e. if completes (answer v.state store) then e else end.Nothing) c.stale_by_store-ended.ensures in
    zero_touches v w c.args.pid c.args.address c.store_of_zero-reply.result c.if_completed-ended.result
    now.core later.core
    now.zeros c.requires made.reply ended made.state (subst (λ (e : Ended). Ends e v w) (sym ended) made.ends) made.stay made.kept
