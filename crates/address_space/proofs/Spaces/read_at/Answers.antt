use Rattle.address_space.proofs.Prelude.{◌≡◌, ap, sym, subst, ◌∙◌, arith, true, is_some, IfSome, page_number, second_page, crosses, place_in, Spaces, at_page, slot_at}
use Rattle.address_space.proofs.Lemmas.{kept, second_there}
use Rattle.page_words.specs.FiniteMap as map
use Rattle.address_space.proofs.Spaces.read_at.Goals as goal

pub load_at-requires-in-Some-2-clause-mapped : goal.load_at-requires-in-Some-2-clause-mapped
load_at-requires-in-Some-2-clause-mapped c =
    let p = c.args.pid in
    let start = c.start_of.ensures in
    let behind = c.page_behind-behind.result in
    let page : page_number c.start_of.result ≡ behind = omega (arith, start) in
    let there : is_some (map.get c.args.self.now.spaces (at_page p behind)) ≡ true =
    subst (λ x. IfSome x (λ page. is_some (map.get c.args.self.now.spaces (at_page p page)) ≡ true))
    c.page_behind-behind.ensures c.requires.mapped.1 in
    ap (λ (S : Spaces). map.contains_key S (slot_at p c.start_of.result)) c.load_at-in-Some.ensures.spaces
    ∙ kept c.args.self.now.spaces (slot_at p c.args.address) _ c.requires.mapped.0 (slot_at p c.start_of.result)
    ∙ ap (λ n. map.contains_key c.args.self.now.spaces (at_page p n)) page ∙ there

pub load_at-requires-in-Some-2-clause-place : goal.load_at-requires-in-Some-2-clause-place
load_at-requires-in-Some-2-clause-place c =
    let start = c.start_of.ensures in
    let behind = c.page_behind-behind.result in
    let next = (crosses c.args.address c.args.size behind c.page_behind-behind.ensures).next in
    let page : page_number c.start_of.result ≡ behind = omega (arith, start) in
    second_there c.args.self.now.directories c.args.self.now.bytes c.args.pid (second_page c.args.address c.args.size)
    c.args.second.now c.requires.second behind c.in-Some.second c.page_behind-behind.ensures c.in-Some.is
    ∙ sym (c.load_at-in-Some.ensures.beside behind (λ e. omega (arith, e, next)))
    ∙ ap (place_in c.load_at-in-Some.new.self.directories c.load_at-in-Some.new.self.bytes c.args.pid) (sym page)
