use Rattle.std.proofs.Common.{◌≡◌, ◌∙◌, subst, sym}
use Rattle.guest_cpu.specs.Ports.{Chain}
use Rattle.locked_core.specs.Makers.{Maker}
use Rattle.locked_core.specs.Ports.{IsCpuCall, IsCpuStep}
use Rattle.locked_core.proofs.PortSteps.{cpu_step}
use Rattle.guest_race.proofs.ChainLemmas.{chain_through, chain_keeps}
use Rattle.guest_race.proofs.guests.run_guest.Goals as goal

-- Each call of the port keeps which CPU it borrows, so what the port's CPU is in the end is what comes back.
pub returns : goal.returns
returns g c =
    let made = c.run.ensures in
    let last : Maker = c.run.new.port.caller.now in
    let kept = chain_keeps (λ port. port.caller.ghost_name) (λ s e a t step. step.1) made.chain in
    let shown = chain_through (λ port. port.caller.now) (IsCpuStep g.N.Name.frames g.N.Name.book)
    (λ s e a t step. cpu_step g.N.Name.frames g.N.Name.book (λ cpu. cpu) (IsCpuCall g.N.Name.frames g.N.Name.book) (λ before pid call given after made. made) s.caller.now e a t.caller.now step.0) made.chain in
    let back : c.cpu-1.given.0 ≡ last = c.cpu-1.given.1 (sym (kept ∙ c.new-port.ensures.same_reference)) in (
      c.run.new.guest,
      record {
        events = made.events;
        answers = made.answers;
        chain = subst (λ (end : Maker). Chain (IsCpuStep g.N.Name.frames g.N.Name.book) c.args.cpu.now made.events made.answers end) (sym back)
            (subst (λ (start : Maker). Chain (IsCpuStep g.N.Name.frames g.N.Name.book) start made.events made.answers last) c.new-port.ensures.cpu shown);
        run = rw (sym c.number.ensures.number, sym c.new-guest.ensures) made.run;
      },
    )
