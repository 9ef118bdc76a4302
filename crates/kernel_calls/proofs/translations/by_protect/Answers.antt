use Rattle.kernel_calls.proofs.Prelude.{◌∙◌, ℕ, ap, sym, if◌then◌else◌, memory_of}
use Rattle.kernel_calls.proofs.MayEnd.{no_place, outside_takes}
use Rattle.kernel_calls.proofs.translations.by_protect.Goals as goal
use Rattle.kernel_calls.specs.declared.translations.Ended.TheVariants as end

pub returns-in_default : goal.returns-in_default
returns-in_default c =
    let v = c.args.processes.now in
    let p : ℕ = c.args.pid in
    let page : ℕ = c.args.page in
    sym (ap (λ b. if b then end.Page p page else end.Nothing)
    (outside_takes v.state (memory_of v) p page c.requires (no_place v p page (sym c.place.ensures ∙ c.in_default.is))))
