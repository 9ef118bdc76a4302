use Rattle.kernel_acts.proofs.Prelude.{◌≡◌, ℕ, sym, arith, subst, View, Ended, ended_by, Ends, load_byte}
use Rattle.kernel_calls.specs.declared.translations.Ended.TheVariants as end
use Rattle.kernel_acts.proofs.Touches.{read_touches}
use Rattle.kernel_acts.proofs.touching.touch_to_read.Goals as goal

-- a Load makes nothing stale
load_ends : (v : View) (p address : ℕ) → end.Nothing ≡ ended_by v (load_byte p address)
load_ends v p address = grind arith

pub returns : goal.returns
returns c =
    let v = c.args.core.now in
    let w = c.step-reply.new.self in
    let now = c.stands.ensures in
    let later = c.stands-2.ensures in
    let made = c.step-reply.ensures in
    let none = load_ends v c.args.pid c.args.address in
    read_touches v w c.args.pid c.args.address c.step-reply.result end.Nothing
    now.core later.core
    made.reply none made.state (subst (λ (e : Ended). Ends e v w) (sym none) made.ends) made.stay made.kept
