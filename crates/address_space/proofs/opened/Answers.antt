use Rattle.address_space.proofs.Prelude.{ap, sym, ◌∙◌, subst, replicate, length, None, blank_bytes, spaces_in, IsSpaces, opening_roles, IsCounted}
use Rattle.address_space.proofs.Lemmas.{opening_is_sound, opening_spaces, opening_length, opening_cost, opening_counted}
use Rattle.address_space.proofs.opened.Goals as goal

pub invariant_of-result : goal.invariant_of-result
invariant_of-result c = record {
  spaces =
      subst (λ b. IsSpaces (replicate 64 None) b c.args.table) (sym c.requires.memory)
      (subst (λ r. IsSpaces (replicate 64 None) (blank_bytes c.args.frames) r) (sym c.requires.roles) (opening_is_sound c.args.frames c.requires.least c.requires.most));
  counted = subst (λ r. IsCounted (spaces_in (replicate 64 None) c.args.memory) r c.args.counts.items) (sym c.requires.roles)
      (subst (IsCounted (spaces_in (replicate 64 None) c.args.memory) (opening_roles c.args.frames)) (sym c.requires.counts) (opening_counted (spaces_in (replicate 64 None) c.args.memory) c.args.frames));
}

pub returns-clause-spaces : goal.returns-clause-spaces
returns-clause-spaces c = opening_spaces c.args.memory

pub returns-clause-frames : goal.returns-clause-frames
returns-clause-frames c = ap length c.requires.roles ∙ opening_length c.args.frames

pub returns-clause-costs : goal.returns-clause-costs
returns-clause-costs c = opening_cost (spaces_in (replicate 64 None) c.args.memory)
