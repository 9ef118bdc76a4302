use Rattle.process_table.proofs.Prelude.{◌≡◌, ℕ, ◌+◌, ◌-◌, ◌≤◌, ap, sym, ◌∙◌, length, arith, is_some, directory_of, Containers, open_with}
use Rattle.address_space.proofs.steps.Openings.{no_directory}
use Rattle.process_table.proofs.Lemmas.{well_formed-open, whole}
use Rattle.process_table.proofs.Spawns.{charged-root}
use Rattle.process_table.proofs.processes.opened.Goals as goal

rest : (n f m : ℕ) → f ≡ n → 16 ≤ f → m ≡ f → 1 + (n - 1) ≡ m
rest n f m a b c = omega arith

two : (n f : ℕ) → f ≡ n → 16 ≤ f → 2 ≤ n
two n f a b = omega arith

pub invariant_of-result : goal.invariant_of-result
invariant_of-result c =
    let zero : c.unwrap.result ≡ 0 = grind arith in
    let n = c.frames-quota.result in
    whole c.fresh.new.self c.new-2.result c.new-3.result (open_with n)
    (charged-root c.fresh.new.self c.new-2.result (n - 1) c.new-2.ensures (c.fresh.ensures.spaces ∙ c.requires.spaces)
    (rest n (length c.args.spaces.roles) (length c.fresh.new.self.roles) c.frames-quota.ensures.roles c.requires.frames c.fresh.ensures.frames)
    (ap (λ x. is_some (directory_of c.fresh.new.self.directories x)) (sym zero) ∙ c.fresh.ensures.live)
    (λ q m. c.fresh.ensures.others q (λ e. m (e ∙ zero)) ∙ ap (λ ds. directory_of ds q) c.requires.directories ∙ no_directory 64 q))
    (c.fresh.ensures.spaces ∙ c.requires.spaces) (ap (λ (x : Containers). x.book) c.new-2.ensures) c.new-3.ensures
    (well_formed-open n (two n (length c.args.spaces.roles) c.frames-quota.ensures.roles c.requires.frames))
