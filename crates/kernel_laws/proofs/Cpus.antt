-- On which CPU a call comes in makes no difference.
use Rattle.std.proofs.Common.{List, [], ◌∷◌, refl, ap}
use Rattle.kernel_calls.specs.Machine.{answer, next}
use Rattle.kernel_calls.specs.declared.calls.Reply.{Reply}
use Rattle.kernel_laws.specs.Cpus.{CpusMakeNoDifference, RunsOnCpus}

pub cpus_make_no_difference : CpusMakeNoDifference
cpus_make_no_difference s e cpu = (refl, refl)

pub runs_on_cpus : RunsOnCpus
runs_on_cpus s [] cpu = (refl, refl)
runs_on_cpus s (e ∷ events) cpu =
    let later = runs_on_cpus (next s e) events cpu in
    (ap (λ (l : List Reply). answer s e ∷ l) later.0, later.1)
