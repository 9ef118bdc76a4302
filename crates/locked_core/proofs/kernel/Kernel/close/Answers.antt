use Rattle.std.proofs.Common.{◌≡◌, ℕ, List, Result, Ok, Err, length, take, ap, sym, subst, arith}
use Rattle.std.specs.Prelude.{IfOk}
use Rattle.std.proofs.lemmas.List.Elements.{All-weaker}
use Rattle.locked_core.proofs.Keeping.{keeps_all}
use Rattle.locked_core.specs.Held.{Closed, Shared}
use Rattle.locked_core.specs.Makers.{Maker, AreAll, Closes, IsFit, IsHistory, IsOneOf}
use Rattle.locked_core.specs.Moments.{entries_in}
use Rattle.locked_core.specs.declared.moment.Moment.{Moment}
use Rattle.memory_report.specs.declared.entries.LogEntry.{LogEntry}
use Rattle.locked_core.specs.declared.faults.Fault.{Fault}
use Rattle.locked_core.proofs.kernel.Kernel.close.Goals as goal
use Rattle.memory_report.specs.Histories.{calls_of}
use Rattle.memory_report.proofs.GuardedHistories.{histories_guarded}
use Rattle.memory_report.proofs.IsolatedHistories.{histories_isolated}

-- what follows from what is known of a value that is there
ok_weaker : {X : Type 0} {P Q : X → Type 0} (r : Result X Fault) → IfOk r P → ((x : X) → P x → Q x) → IfOk r Q
ok_weaker (Ok x) p f = f x p
ok_weaker (Err e) p f = tt

ok_both : {X : Type 0} {P Q R : X → Type 0} (r : Result X Fault) → IfOk r P → IfOk r Q → ((x : X) → P x → Q x → R x) → IfOk r R
ok_both (Ok x) p q f = f x p q
ok_both (Err e) p q f = tt

-- no more entries were made than all that can be kept
pub returns-clause-whole : goal.returns-clause-whole
returns-clause-whole g c =
    ok_both c.close.result c.close.ensures.kept c.close.ensures.few (λ h kept few all. keeps_all g.N.Name.book.keeps h.entries h.kept kept (omega arith))

pub returns-clause-isolated : goal.returns-clause-isolated
returns-clause-isolated g c = ok_weaker c.close.result c.close.ensures.legal (λ h legal. histories_isolated g.N.Name.frames h.entries legal.0)

pub returns-clause-guarded : goal.returns-clause-guarded
returns-clause-guarded g c = ok_weaker c.close.result c.close.ensures.legal (λ h legal. histories_guarded g.N.Name.frames h.entries legal.0)

pub returns-clause-begins : goal.returns-clause-begins
returns-clause-begins g c =
    let cpus : List Maker = c.args.cpus.items in
    ok_weaker {P = λ h. AreAll c.self.inside.cpus h.entries cpus} c.close.result c.close.ensures.all (λ h all.
    All-weaker (IsFit h.entries) (λ (m : Maker). take (length m.seen) h.entries ≡ m.seen) (λ m fit. fit.0) cpus all.fit)

pub returns-clause-calls : goal.returns-clause-calls
returns-clause-calls g c =
    let cpus : List Maker = c.args.cpus.items in
    ok_weaker {P = λ h. AreAll c.self.inside.cpus h.entries cpus} c.close.result c.close.ensures.all (λ h all.
    All-weaker (IsFit h.entries) (λ (m : Maker). calls_of m.number h.entries ≡ calls_of m.number m.seen) (λ m fit. fit.1) cpus all.fit)

pub returns-clause-all : goal.returns-clause-all
unfolding IsOneOf
returns-clause-all g c =
    ok_weaker c.close.result c.close.ensures.all (λ h all.
    all.known)

-- the moments that were added to the kernel's history
pub returns-clause-left : goal.returns-clause-left
returns-clause-left g c =
    ok_weaker c.close.result c.close.ensures.left (λ h left. (c.into_inner.result.moments, left))

-- the history is the one that was under the lock
pub returns-clause-closes : goal.returns-clause-closes
returns-clause-closes g c =
    let cpus : List Maker = c.args.cpus.items in
    let moments : List Moment = c.into_inner.result.moments in
    let count : c.self.inside.cpus ≡ c.args.self.cpus = ap (λ (k : Shared). k.cpus) c.self.view_is in
    let same = sym c.close.ensures.told in (
      moments,
      subst (λ (n : ℕ). IsHistory g.N.Name.frames g.N.Name.book.opening n cpus moments) count c.close.ensures.history,
      subst (λ (n : ℕ). Closes n (entries_in moments) cpus c.close.result) count (subst (λ (log : List LogEntry). Closes c.self.inside.cpus log cpus c.close.result) same c.close.ensures.closes),
      subst (λ (log : List LogEntry). IfOk c.close.result (λ (h : Closed). h.entries ≡ log)) same c.close.ensures.entries,
    )
