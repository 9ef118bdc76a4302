use Rattle.std.proofs.Common.{◌≡◌, ◌∙◌, subst, List, ℕ}
use Rattle.guest_cpu.specs.Guests.{opening_guest}
use Rattle.guest_cpu.specs.Runs.{HasRun}
use Rattle.guest_cpu.specs.declared.instructions.Instruction.{Instruction}
use Rattle.locked_core.specs.Ports.{IsCpuStep}
use Rattle.guest_race.specs.Programs.{race_program, turns}
use Rattle.guest_race.proofs.HaltLemmas.{halts_or_not}
use Rattle.guest_race.proofs.guests.play_guest.Goals as goal

pub returns : goal.returns
returns g c =
    let ran = c.run_guest-end.ensures in
    let end = c.run_guest-end.result in
    let last = c.run_guest-end.new.cpu in
    let number : c.from.result ≡ c.args.pid = c.from.ensures ∙ c.number.ensures.value in
    halts_or_not g.N.Name.frames g.N.Name.book c.args.pid c.args.cpu last ran.0 end _ c.cause_of.ensures c.requires.1
    (subst (λ (n : ℕ). HasRun (IsCpuStep g.N.Name.frames g.N.Name.book) (race_program n) turns (opening_guest c.args.cpu.number c.args.pid) c.args.cpu end ran.0 last) number
    (subst (λ (p : List Instruction). HasRun (IsCpuStep g.N.Name.frames g.N.Name.book) p turns (opening_guest c.args.cpu.number c.args.pid) c.args.cpu end ran.0 last) c.program_of-program.ensures ran.1))
