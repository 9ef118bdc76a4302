use Rattle.std.proofs.Common.{ℕ, ap, sym, ◌∙◌, arith}
use Rattle.std.proofs.lemmas.Bool.Decides.{nat_tests}
use Rattle.page_words.specs.Addresses.{page_number}
use Rattle.kernel_calls.specs.Translations.{is_all_of}
use Rattle.shadow_core.proofs.Pairing.{still_ends, shadowed_after, roots_then, touch_keeps_roots, goes_on, way_stays}
use Rattle.shadow_core.proofs.pairs.handle_fault.Goals as goal

pub returns-then-free_count-way-clause-ends : goal.returns-then-free_count-way-clause-ends
returns-then-free_count-way-clause-ends c =
    let now = c.stands.ensures in
    still_ends c.args.core.now now.core

pub fill-requires-clause-shadowed : goal.fill-requires-clause-shadowed
fill-requires-clause-shadowed c =
    shadowed_after c.args.core.now c.touch-reply.new.core c.args.shadow.now c.forget.new.shadow c.touch-reply.result.1 c.requires c.touch-reply.ensures.ends
    c.forget.ensures.translations c.forget.ensures.fixed.size

pub returns-clause-roots : goal.returns-clause-roots
returns-clause-roots c =
    let v = c.args.core.now in
    roots_then c.touch-reply.result.1 c.args.shadow.now c.forget.new.shadow c.fill.new.shadow c.args.pid
    (λ q. ap (λ e. is_all_of e q) c.touch-reply.ensures.ended ∙ touch_keeps_roots v v.state c.args.pid c.args.address q c.args.access)
    c.forget.ensures.roots c.fill.ensures.roots

pub fill-requires-clause-way : goal.fill-requires-clause-way
fill-requires-clause-way c =
    let v = c.args.core.now in
    let p = c.args.pid in
    let page = page_number c.args.address in
    let user = c.touch-reply.ensures.user (goes_on c.touch-reply.result.0 (sym c.stop_of.ensures ∙ c.in_default.is)) in
    let none = ap (λ e. is_all_of e p) c.touch-reply.ensures.ended ∙ touch_keeps_roots v v.state p c.args.address p c.args.access in
    way_stays c.args.shadow.now c.forget.new.shadow p page c.way_for-way.result user (c.way_for-way.ensures.way user) (c.forget.ensures.needed p page user none) (c.forget.ensures.tables p none)

pub fill-requires-clause-room : goal.fill-requires-clause-room
fill-requires-clause-room c = grind (arith, nat_tests, c.forget.ensures.free)

pub returns-clause-spent : goal.returns-clause-spent
returns-clause-spent c =
    let v = c.args.core.now in
    let user = c.touch-reply.ensures.user (goes_on c.touch-reply.result.0 (sym c.stop_of.ensures ∙ c.in_default.is)) in
    let none = λ (q : ℕ). ap (λ e. is_all_of e q) c.touch-reply.ensures.ended ∙ touch_keeps_roots v v.state c.args.pid c.args.address q c.args.access in
    let needed = c.forget.ensures.needed c.args.pid (page_number c.args.address) user (none c.args.pid) in
    λ _. omega (arith, needed, c.forget.ensures.taken none, c.fill.ensures.spent)

pub returns-clause-tables : goal.returns-clause-tables
returns-clause-tables c =
    let v = c.args.core.now in
    let none = λ (q : ℕ). ap (λ e. is_all_of e q) c.touch-reply.ensures.ended ∙ touch_keeps_roots v v.state c.args.pid c.args.address q c.args.access in
    λ p page depth frame user deep is. c.fill.ensures.tables p page depth frame user deep (c.forget.ensures.tables p (none p) page depth frame user deep is)
