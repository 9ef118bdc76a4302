use Rattle.process_table.proofs.Prelude.{◌≡◌, ℕ, rules, ap, sym, subst, is_some, ◌∙◌, option_map, place_in, Size, IsUserPage, second_page, arith, EachTouched, page_number, IsThere, Read, Write, State, View, state_of, access_places}
use Rattle.process_table.specs.declared.places.Places.{Places}
use Rattle.process_table.proofs.Lemmas.{whole-access, has_place, placed_second, touched_user}
use Rattle.process_table.proofs.processes.Processes.access_at.Goals as goal

pub unwrap-first-requires : goal.unwrap-first-requires
unwrap-first-requires c =
    ap (λ (x : Places). is_some x.first) c.requires.places ∙ has_place c.args.self.now c.args.pid (page_number c.args.address) (touched_user c.args.self.now.state c.args.pid c.args.address c.args.size c.stands.ensures.well_formed c.requires.mapped).0

-- the second page's place, seen by the parts
second : {w v : View} (places : Places) (p address : ℕ) (size : Size) → w ≡ v → places ≡ access_places v p address size → EachTouched address size IsUserPage
    → places.second ≡ option_map (place_in w.directories w.bytes p) (second_page address size)
second {w} {v} places p address size is at user = grind (arith, placed_second)

pub read_at-requires-clause-second : goal.read_at-requires-clause-second
read_at-requires-clause-second c =
    second c.args.places.now c.args.pid c.args.address c.args.size c.self.view_is c.requires.places (touched_user c.args.self.now.state c.args.pid c.args.address c.args.size c.stands.ensures.well_formed c.requires.mapped)

pub write_at-requires-clause-second : goal.write_at-requires-clause-second
write_at-requires-clause-second c =
    second c.args.places.now c.args.pid c.args.address c.args.size c.self.view_is c.requires.places (touched_user c.args.self.now.state c.args.pid c.args.address c.args.size c.stands.ensures.well_formed c.requires.mapped)

pub invariant_of-self : goal.invariant_of-self
invariant_of-self c =
    let s : State = state_of c.self.inside.spaces c.self.inside.quotas c.self.inside.offers in
    let p = c.args.pid in
    let address = c.args.address in
    let size = c.args.size in
    let mapped : EachTouched address size (IsThere s.spaces p) = subst (λ (v : View). EachTouched address size (IsThere v.state.spaces p)) (sym c.self.view_is) c.requires.mapped in
    whole-access c.self.inside.spaces c.read_at.new.self c.self.inside.quotas c.self.inside.offers p address size Read c.args.value c.self.invariant mapped c.read_at.ensures.directories c.read_at.ensures.roles
    (search rules)

pub invariant_of-self-in-Write : goal.invariant_of-self-in-Write
invariant_of-self-in-Write c =
    let s : State = state_of c.self.inside.spaces c.self.inside.quotas c.self.inside.offers in
    let p = c.args.pid in
    let address = c.args.address in
    let size = c.args.size in
    let mapped : EachTouched address size (IsThere s.spaces p) = subst (λ (v : View). EachTouched address size (IsThere v.state.spaces p)) (sym c.self.view_is) c.requires.mapped in
    whole-access c.self.inside.spaces c.write_at.new.self c.self.inside.quotas c.self.inside.offers p address size Write c.args.value c.self.invariant mapped c.write_at.ensures.directories c.write_at.ensures.roles
    (search rules)
