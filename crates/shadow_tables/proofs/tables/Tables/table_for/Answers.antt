use Rattle.std.proofs.Common.{ℕ, Option, Some, None, sym, subst}
use Rattle.shadow_tables.specs.Tables.{IsStep}
use Rattle.shadow_tables.proofs.StepLemmas.{then_step, stopped}
use Rattle.shadow_tables.proofs.tables.Tables.table_for.Goals as goal

pub returns-in_err-root : goal.returns-in_err-root
returns-in_err-root c =
    let P : Option ℕ → Type 0 = λ found. IsStep c.args.self.now c.args.pid c.args.page 3 found c.root_for.new.self in
    subst P (sym c.from_residual.ensures) (stopped c.args.self.now c.root_for.new.self c.args.pid c.args.page 0 3 (c.in_err-root.ensures.step c.args.page c.requires.user))

pub table_below-requires-clause-stands : goal.table_below-requires-clause-stands
table_below-requires-clause-stands c = (c.in_ok-root.ensures.step c.args.page c.requires.user).stands

pub table_below-requires-clause-way : goal.table_below-requires-clause-way
table_below-requires-clause-way c = (c.in_ok-root.ensures.step c.args.page c.requires.user).way_is

pub returns-in_err-pointers : goal.returns-in_err-pointers
returns-in_err-pointers c =
    let t = c.args.self.now in
    let v = c.table_below.new.self in
    let P : Option ℕ → Type 0 = λ found. IsStep t c.args.pid c.args.page 3 found v in
    let two = then_step t c.root_for.new.self v c.args.pid c.args.page 0 1 c.in_ok-root.root None (c.in_ok-root.ensures.step c.args.page c.requires.user) c.in_err-pointers.ensures.step in
    subst P (sym c.from_residual-in_err-pointers.ensures) (stopped t v c.args.pid c.args.page 1 3 two)

pub returns-in_err-directory : goal.returns-in_err-directory
returns-in_err-directory c =
    let t = c.args.self.now in
    let v = c.table_below-2.new.self in
    let P : Option ℕ → Type 0 = λ found. IsStep t c.args.pid c.args.page 3 found v in
    let two = then_step t c.root_for.new.self c.table_below.new.self c.args.pid c.args.page 0 1 c.in_ok-root.root (Some c.in_ok-pointers.pointers) (c.in_ok-root.ensures.step c.args.page c.requires.user) c.in_ok-pointers.ensures.step in
    let three = then_step t c.table_below.new.self v c.args.pid c.args.page 1 2 c.in_ok-pointers.pointers None two c.in_err-directory.ensures.step in
    subst P (sym c.from_residual-in_err-directory.ensures) (stopped t v c.args.pid c.args.page 2 3 three)

pub returns : goal.returns
returns c =
    let t = c.args.self.now in
    let two = then_step t c.root_for.new.self c.table_below.new.self c.args.pid c.args.page 0 1 c.in_ok-root.root (Some c.in_ok-pointers.pointers) (c.in_ok-root.ensures.step c.args.page c.requires.user) c.in_ok-pointers.ensures.step in
    let three = then_step t c.table_below.new.self c.table_below-2.new.self c.args.pid c.args.page 1 2 c.in_ok-pointers.pointers (Some c.in_ok-directory.directory) two c.in_ok-directory.ensures.step in
    then_step t c.table_below-2.new.self c.table_below-3.new.self c.args.pid c.args.page 2 3 c.in_ok-directory.directory c.table_below-3.result three c.table_below-3.ensures.step
