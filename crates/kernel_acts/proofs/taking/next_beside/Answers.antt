use Rattle.kernel_acts.proofs.Prelude.{◌+◌, ◌∙◌, ◌<◌, ℕ, sym, inl, inr, arith, cases_lt, at_page}
use Rattle.kernel_acts.proofs.Beside.{beside_none, beside_there, beside_up}
use Rattle.kernel_acts.proofs.taking.next_beside.Goals as goal

pub returns-then-is_beside-clause-least : goal.returns-then-is_beside-clause-least
returns-then-is_beside-clause-least c = λ other up down.
    beside_none c.args.core.now.state (at_page c.args.pid c.args.page) c.args.holder c.args.from c.loop-found.at c.in-Some.found c.stands.ensures.well_formed
    c.loop-found.invariant.none c.in-Some.ensures.least other up down

pub loop-found-preserved : goal.loop-found-preserved
loop-found-preserved c =
    let s = c.args.core.now.state in
    let own = at_page c.args.pid c.args.page in
    let found : ℕ = c.in-Some.found in
    let is = c.found.view_is in
    let up = c.loop-found.invariant.up in
    let from = c.in-Some.ensures.from in
    record {
      up = omega (arith, up, from, is);
      none = λ other over down.
          let below : other < found + 1 = omega (arith, down, is) in
          beside_up s own c.args.holder c.args.from c.loop-found.at found c.stands.ensures.well_formed
          c.loop-found.invariant.none c.in-Some.ensures.least (sym c.is_beside.ensures ∙ c.if-is_beside.false) other over below;
    }

pub returns-clause-none : goal.returns-clause-none
returns-clause-none c = λ other up. elim (cases_lt other c.loop-found.at) [
  | inl below ↦ c.loop-found.invariant.none other up below
  | inr above ↦ beside_there c.args.core.now.state (at_page c.args.pid c.args.page) (at_page c.args.holder other) c.stands.ensures.well_formed (c.in_default.ensures.none other above)
]
