-- How many frames a kernel's core has.
use Rattle.std.proofs.Common.{◌≡◌, ℕ, ◌+◌, ◌≤◌, List, length, ap, ◌∙◌, arith}
use Rattle.std.specs.Option.{option_map, unwrap_or}
use Rattle.kernel_calls.proofs.CoreMemory.{root_quota}
use Rattle.kernel_calls.proofs.Runs.{kept-run}
use Rattle.kernel_calls.specs.Processors.{IsCore}
use Rattle.memory_report.specs.Histories.{events_of, state_after}
use Rattle.memory_report.specs.declared.entries.LogEntry.{LogEntry}
use Rattle.process_table.proofs.BookLaws.{well_formed-open}
use Rattle.process_table.specs.State.{State, open_with}
use Rattle.process_table.specs.View.{View}
use Rattle.kernel_calls.proofs.Prelude.{Member, quota_of}

-- as many as the machine opened with, since no event changes the quota of process 0
pub core_frames : (frames : ℕ) (log : List LogEntry) (core : View) → IsCore core → core.state ≡ state_after frames log → 16 ≤ frames → length core.roles ≡ frames
core_frames frames log core is at low =
    let two : 2 ≤ frames = omega arith in
    let root = (kept-run (open_with frames) (events_of log) (well_formed-open frames two)).1 in
    let same : quota_of (state_after frames log).book 0 ≡ quota_of (open_with frames).book 0 = ap (λ o. unwrap_or (option_map (λ (m : Member). m.quota) o) 0) root in
    let quota : quota_of core.state.book 0 ≡ quota_of (open_with frames).book 0 = ap (λ (s : State). quota_of s.book 0) at ∙ same in
    let opening : quota_of (open_with frames).book 0 + 1 ≡ frames = omega (arith, two) in
    let roles = root_quota core is in
    omega (arith, quota, opening, roles)
