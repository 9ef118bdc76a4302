use Rattle.std.proofs.Common.{◌≡◌, ◌∙◌, ◌<◌, ℕ, List, ap, sym, subst}
use Rattle.std.proofs.Math.ListN.{get_or}
use Rattle.locked_core.proofs.Counting.{at_counts}
use Rattle.locked_core.proofs.Moments.{begins_trans, starts_of}
use Rattle.locked_core.specs.Held.{UnderLock}
use Rattle.locked_core.specs.Makers.{Maker}
use Rattle.locked_core.specs.Moments.{Begins, entries_in}
use Rattle.memory_report.specs.Histories.{StartsWith, calls_of}
use Rattle.memory_report.specs.declared.entries.LogEntry.{LogEntry}
use Rattle.locked_core.proofs.locked.Locked.fit.Goals as goal

-- the log is what was added to the history, and has as many entries of this CPU as are counted
pub returns-clause-fits : goal.returns-clause-fits
returns-clause-fits g c =
    let log : List LogEntry = c.self.inside.log.entries in
    let cpu : Maker = c.args.cpu.now in
    let began : Begins c.self.inside.head c.cpu.inside.seen = begins_trans c.self.inside.head c.cpu.inside.told c.cpu.inside.seen c.in_ok-turn.ensures.begins c.cpu.invariant.0 in
    let seen : entries_in c.cpu.inside.seen ≡ cpu.seen = ap (λ (m : Maker). m.seen) c.cpu.view_is in
    let starts : StartsWith log cpu.seen = subst (λ (t : List LogEntry × List LogEntry). StartsWith t.0 t.1) (λ i. (c.self.invariant.told i, seen i)) (starts_of c.self.inside.head c.cpu.inside.seen began) in
    let small : cpu.number < 8 = subst (λ (m : Maker). m.number < 8) c.cpu.view_is c.cpu.invariant.2 in
    let counted : calls_of cpu.number log ≡ calls_of cpu.number cpu.seen = sym (at_counts log cpu.number small) ∙ (ap (λ (counts : List ℕ). get_or counts cpu.number 0) (sym c.self.invariant.tallied) ∙ c.audit.ensures.calls) in
    subst (λ (k : UnderLock). StartsWith k.log cpu.seen × (calls_of cpu.number k.log ≡ calls_of cpu.number cpu.seen)) c.self.view_is (starts, counted)

-- the turn was taken with all that it received, of which it has seen a beginning
pub returns-clause-begins : goal.returns-clause-begins
returns-clause-begins g c =
    let began : Begins c.self.inside.head c.cpu.inside.seen = begins_trans c.self.inside.head c.cpu.inside.told c.cpu.inside.seen c.in_ok-turn.ensures.begins c.cpu.invariant.0 in
    subst (λ (t : UnderLock × Maker). Begins t.0.moments t.1.moments) (λ i. (c.self.view_is i, c.cpu.view_is i)) began
