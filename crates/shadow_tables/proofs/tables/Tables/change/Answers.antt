use Rattle.std.proofs.Common.{ℕ, subst, arith}
use Rattle.shadow_tables.specs.Tables.{index_at}
use Rattle.shadow_tables.proofs.WayLemmas.{user_lower, way_inside}
use Rattle.shadow_tables.proofs.TableLemmas.{Wrote, wrote}
use Rattle.shadow_tables.proofs.ChangeLemmas.{changed}
use Rattle.shadow_tables.proofs.tables.Tables.change.Goals as goal

pub set_word-requires-clause-inside : goal.set_word-requires-clause-inside
set_word-requires-clause-inside c = way_inside c.args.self.now c.args.pid c.args.page 3 c.args.table c.requires.stands (user_lower c.args.page c.requires.user) (omega arith) c.requires.way

pub returns : goal.returns
returns c =
    let t = c.args.self.now in
    let v = c.set_word.new.self in
    let table = c.args.table in
    let are = c.requires.stands.1 in
    let inside = way_inside t c.args.pid c.args.page 3 table c.requires.stands (user_lower c.args.page c.requires.user) (omega arith) c.requires.way in
    let written : Wrote t v table c.index_at.result c.word_for-word.result =
    wrote t v table c.index_at.result c.word_for-word.result are.blocks c.set_word.ensures.others.blocks inside c.index_at.ensures.bound (omega (arith, c.word_for-word.type_inv)) c.set_word.ensures.bytes in
    let W : ℕ → Type 0 = λ i. Wrote t v table i c.word_for-word.result in
    let X : ℕ → Type 0 = λ w. Wrote t v table (index_at 3 c.args.page) w in
    changed c.requires.stands.0 t v c.args.pid c.args.page table c.args.entry are c.requires.user c.requires.way c.requires.frame (subst X c.word_for-word.ensures (subst W c.index_at.ensures.value written)) c.set_word.ensures.others
