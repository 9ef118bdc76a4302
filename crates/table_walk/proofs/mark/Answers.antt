use Rattle.std.proofs.Common.{◌≡◌, ℕ, List, sym, subst}
use Rattle.table_walk.specs.declared.Access.{Access}
use Rattle.table_walk.specs.Walk.{walk_of}
use Rattle.table_walk.specs.Marks.{CanBeMarked, ChangesTwoWords}
use Rattle.table_walk.proofs.MarkLemmas.{marks_change_two_words, marks_keep_walks}
use Rattle.table_walk.proofs.mark.Goals as goal

pub returns-clause-changed : goal.returns-clause-changed
returns-clause-changed c =
    let can : CanBeMarked c.args.memory.now c.args.directory c.args.address c.args.access = record { size = c.mark_words.ensures.size; whole = c.mark_words.ensures.whole; fits = c.mark_words.ensures.fits; found = c.requires.found } in
    let P : List ℕ → Type 0 = ChangesTwoWords c.args.memory.now c.args.directory c.args.address c.args.access in
    subst P (sym c.mark_words.ensures.words) (marks_change_two_words c.args.memory.now c.args.directory c.args.address c.args.access can)

pub returns-clause-walks : goal.returns-clause-walks
returns-clause-walks c =
    let can : CanBeMarked c.args.memory.now c.args.directory c.args.address c.args.access = record { size = c.mark_words.ensures.size; whole = c.mark_words.ensures.whole; fits = c.mark_words.ensures.fits; found = c.requires.found } in
    let P : List ℕ → Type 0 = λ bytes. (other at : ℕ) (kind : Access) → walk_of bytes other at kind ≡ walk_of c.args.memory.now other at kind in
    subst P (sym c.mark_words.ensures.words) (marks_keep_walks c.args.memory.now c.args.directory c.args.address c.args.access can)
