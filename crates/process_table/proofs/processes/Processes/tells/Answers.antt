use Rattle.process_table.proofs.Prelude.{arith, ap, sym, ◌∙◌, is_some, at_page, need_of, found_of, lazy_place, takes_place}
use Rattle.process_table.proofs.Placed.{told_flags, told_write, told_may, few_needed, mapped_live}
use Rattle.process_table.proofs.processes.Processes.tells.Goals as goal

pub returns : goal.returns
returns c = record {
  mapped = ap (λ x. is_some (found_of x)) c.requires.place ∙ c.stands.ensures.places.mapped c.args.pid c.args.page c.requires.user;
  lazy = ap lazy_place c.requires.place ∙ c.stands.ensures.places.lazy c.args.pid c.args.page c.requires.user;
  takes = ap takes_place c.requires.place ∙ c.stands.ensures.places.takes c.args.pid c.args.page c.requires.user;
  need = ap need_of c.requires.place ∙ c.stands.ensures.places.need c.args.pid c.args.page c.requires.user;
  most = few_needed c.args.place.now;
  flags = grind (arith, told_flags, c.requires.place, c.stands.ensures.places.flags, c.requires.user);
  write = grind (arith, told_write, c.requires.place, c.stands.ensures.places.flags, c.requires.user);
  may = grind (arith, told_may, c.requires.place, c.stands.ensures.places.flags, c.requires.user);
  live = λ there. mapped_live c.args.self.now.state (at_page c.args.pid c.args.page) c.stands.ensures.well_formed
      (sym (ap (λ x. is_some (found_of x)) c.requires.place ∙ c.stands.ensures.places.mapped c.args.pid c.args.page c.requires.user) ∙ there);
}
