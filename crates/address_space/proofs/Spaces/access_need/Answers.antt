use Rattle.address_space.proofs.Prelude.{◌≡◌, ◌+◌, ap, sym, subst, ◌∙◌, arith, Some, is_some, IfSome, second_page, IsUserPage, crosses, found_of, need_of, page_need, with_page}
use Rattle.address_space.proofs.costs.AccessNeeds.{need-in_two, page_need_at, second_need_at}
use Rattle.address_space.proofs.Spaces.access_need.Goals as goal

pub returns-clause-value : goal.returns-clause-value
returns-clause-value c =
    let S = c.args.self.now.spaces in
    let p = c.args.pid in
    let page = c.page_of-page.result in
    let is = c.page_of-page.ensures.value in
    let second = c.in-Some.second in
    let two : second_page c.args.address c.args.size ≡ Some second = sym c.second_page.ensures ∙ c.in-Some.is in
    let next = (crosses c.args.address c.args.size second two).next in
    let user : IsUserPage page = subst IsUserPage (sym is) c.requires.user.0 in
    let user_two : IsUserPage second = subst (λ x. IfSome x IsUserPage) two c.requires.user.1 in
    let tell = c.stands.ensures.places in
    let at = ap (λ x. is_some (found_of x)) c.place-first.ensures ∙ tell.mapped p page user in
    let costs = ap need_of c.place-first.ensures ∙ tell.need p page user in
    let there = ap (λ x. is_some (found_of x)) c.place-other.ensures ∙ tell.mapped p second user_two in
    let more = ap need_of c.place-other.ensures ∙ tell.need p second user_two in
    let one = c.page_need-2.ensures.value ∙ page_need_at S p page c.place-first.result at costs ∙ ap (page_need S p) is in
    let other =
    c.need_behind.ensures.value
    ∙ second_need_at S p page second c.place-first.result c.place-other.result (λ e. omega (arith, e, next, is)) at there more
    ∙ ap (λ n. page_need (with_page S p n) p second) is in
    (λ i. one i + other i) ∙ sym (need-in_two S p c.args.address c.args.size second two)
