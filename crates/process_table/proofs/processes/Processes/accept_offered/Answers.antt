use Rattle.process_table.proofs.Prelude.{◌≡◌, ◌≢◌, ℕ, ◌+◌, true, false, [], ◌∷◌, arith, refl, Some, None, rules, sym, ap, subst, ◌∙◌, Ok, Err, is_some, IsOk, if◌then◌else◌, Mapped, Quota, IsUserPage, offer_key, is_live, is_mapped, overdrawn, State, no_value, place_in, Slot, cost, need, joined, at_page, cost-joined, cost-joined_other, used_of, accept_answer, accept_refusal, after_accept, View, IsProcesses, state_of, IsWellFormed, stays_then, stays_most}
use Rattle.process_table.proofs.Lemmas.{page_is_user, charged-one, whole, keeps-accept, new_fits, no_cause, may_accept, test_accept, giver_mapped}
use Rattle.page_words.specs.FiniteMap as map
use Rattle.process_table.proofs.processes.Processes.accept_offered.Goals as goal

-- what is known of the accept of an offer that is pending: nothing is against it, and the giver's page is a user page and
-- another than the own one
record Joins (s : State) (p from from_page page : ℕ) : Type 0 where
  ok : IsOk (accept_answer s p from from_page page)
  user : IsUserPage from_page
  apart : at_page p page ≢ at_page from from_page

joins : {w v : View} (p from from_page page : ℕ) → w ≡ v → IsWellFormed w.state → is_live v.state p ≡ true → IsUserPage page → is_mapped v.state (at_page p page) ≡ false → overdrawn v.state p (page ∷ []) ≡ false
    → map.contains_key w.state.offers (offer_key from from_page p) ≡ true → Joins w.state p from from_page page
joins {w} {v} p from from_page page is well live user unmapped room there =
    let s = w.state in
    let back = sym is in
    let live' = subst (λ (x : View). is_live x.state p ≡ true) back live in
    let gone = subst (λ (x : View). is_mapped x.state (at_page p page) ≡ false) back unmapped in
    let roomy = subst (λ (x : View). overdrawn x.state p (page ∷ []) ≡ false) back room in
    let ok = subst IsOk (test_accept s p from from_page page live' (page_is_user page user) there)
    (subst IsOk (sym (λ i. if gone i then Err Mapped else if roomy i then Err Quota else Ok (cost s.spaces p + need s.spaces p page))) refl) in
    let none = (may_accept s p from from_page page (no_cause s p (accept_refusal s p from from_page page) _ ok).1).none in
    let g = giver_mapped s p from from_page well there in
    record {
      ok = ok;
      user = (well.cells (at_page from from_page) g.0 g.1).user;
      apart = λ e. (let x : None ≡ Some g.0 = sym none ∙ ap (map.get s.spaces) e ∙ g.1 in cc);
    }

pub place-given-requires : goal.place-given-requires
place-given-requires c = (joins c.args.pid c.args.giver c.args.giver_page c.args.page c.self.view_is c.self.invariant.well_formed c.requires.live c.requires.user c.requires.unmapped c.requires.room (ap is_some c.in-Ok.ensures.right)).user

pub fill_at-given-requires-clause-user : goal.fill_at-given-requires-clause-user
fill_at-given-requires-clause-user c = (joins c.args.pid c.args.giver c.args.giver_page c.args.page c.self.view_is c.self.invariant.well_formed c.requires.live c.requires.user c.requires.unmapped c.requires.room (ap is_some c.in-Ok.ensures.right)).user

pub join_at-requires-clause-from : goal.join_at-requires-clause-from
join_at-requires-clause-from c = (joins c.args.pid c.args.giver c.args.giver_page c.args.page c.self.view_is c.self.invariant.well_formed c.requires.live c.requires.user c.requires.unmapped c.requires.room (ap is_some c.in-Ok.ensures.right)).user

pub join_at-requires-clause-own : goal.join_at-requires-clause-own
join_at-requires-clause-own c =
    c.requires.own ∙ ap (λ (v : View). place_in v.directories v.bytes c.args.pid c.args.page) (sym c.self.view_is)
    ∙ sym (c.fill_at-given.ensures.beside c.args.pid c.args.page (joins c.args.pid c.args.giver c.args.giver_page c.args.page c.self.view_is c.self.invariant.well_formed c.requires.live c.requires.user c.requires.unmapped c.requires.room (ap is_some c.in-Ok.ensures.right)).apart)

pub invariant_of-self-2 : goal.invariant_of-self-2
invariant_of-self-2 c =
    let v = c.self.inside.spaces in
    let q = c.self.inside.quotas in
    let s : State = state_of v q c.self.inside.offers in
    let p = c.args.pid in
    let from = c.args.giver in
    let from_page = c.args.giver_page in
    let page = c.args.page in
    let ok = (joins c.args.pid c.args.giver c.args.giver_page c.args.page c.self.view_is c.self.invariant.well_formed c.requires.live c.requires.user c.requires.unmapped c.requires.room (ap is_some c.in-Ok.ensures.right)).ok in
    let free = no_cause s p (accept_refusal s p from from_page page) _ ok in
    let giver : Slot = at_page from from_page in
    let slot : Slot = at_page p page in
    let right = c.in-Ok.right in
    let used = used_of q p + c.args.frames in
    let need_is = c.requires.need ∙ ap (λ (x : View). need x.state.spaces p page) (sym c.self.view_is) in
    let spaces : c.join_at.new.self.spaces ≡ joined v.spaces giver slot right = c.join_at.ensures.spaces ∙ ap (λ S. joined S giver slot right) c.fill_at-given.ensures.spaces in
    let kept = subst (IsProcesses c.join_at.new.self) (sym c.take_room.ensures.quotas)
    (charged-one v c.join_at.new.self q p used c.self.invariant.kept (c.join_at.ensures.directories ∙ c.fill_at-given.ensures.directories) (c.join_at.ensures.frames ∙ c.fill_at-given.ensures.frames)
    ((λ i. c.self.invariant.kept.charged p free.0 i + need_is i) ∙ sym (cost-joined v.spaces giver slot right (may_accept s p from from_page page free.1).none) ∙ sym (ap (λ S. cost S p) spaces))
    (λ other n. ap (λ S. cost S other) spaces ∙ cost-joined_other v.spaces giver slot right other n)) in
    whole c.join_at.new.self c.take_room.new.quotas c.take.new.self (after_accept s p from from_page page) kept (spaces ∙ ap (joined v.spaces giver slot) (search rules)) (search rules) (search rules)
    (keeps-accept s p from from_page page c.self.invariant.well_formed ok)

pub returns-clause-stay : goal.returns-clause-stay
returns-clause-stay c = grind (arith, stays_then, stays_most, c.fill_at-given.ensures.stay, c.join_at.ensures.stay)

pub take_room-requires-clause-room : goal.take_room-requires-clause-room
take_room-requires-clause-room c =
    let p = c.args.pid in
    let page = c.args.page in
    let s : State = state_of c.self.inside.spaces c.self.inside.quotas c.self.inside.offers in
    let back = sym c.self.view_is in
    let live = subst (λ (x : View). is_live x.state p ≡ true) back c.requires.live in
    let none = subst (λ (x : View). is_mapped x.state (at_page p page) ≡ false) back c.requires.unmapped in
    let room = subst (λ (x : View). overdrawn x.state p (page ∷ []) ≡ false) back c.requires.room in
    let fits = new_fits s p page (no_value (map.get s.spaces (at_page p page)) none) room in
    let need_is = c.requires.need ∙ ap (λ (x : View). need x.state.spaces p page) back in
    omega (arith, fits, c.self.invariant.kept.charged p live, need_is)
