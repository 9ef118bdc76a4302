use Rattle.kernel_acts.proofs.Prelude.{◌≡◌, ◌∙◌, ℕ, ap, subst, refl, page_number, slot_at, after_stores, State, is_mapped, EndsMarks, is_writable_at, opening, store_run, closed, IsOpened}
use Rattle.kernel_acts.proofs.Installs.{open_there, open_writes, run_then}
use Rattle.kernel_acts.proofs.StoresEnd.{marks_then}
use Rattle.kernel_calls.specs.declared.translations.Ended.TheVariants as end
use Rattle.kernel_acts.proofs.installing.install.Goals as goal

-- the page is open
is_open : (s t : State) (p n a : ℕ) → n ≡ page_number a → IsOpened s p n t → IsOpened s p (page_number a) t
is_open s t p n a same opened = subst (λ (m : ℕ). IsOpened s p m t) same opened

pub store_and_close-requires-clause-mapped : goal.store_and_close-requires-clause-mapped
store_and_close-requires-clause-mapped c =
    ap (λ (x : State). is_mapped x (slot_at c.args.pid c.args.address)) (is_open c.args.core.now.state c.open.new.core.state c.args.pid c.page_of.result c.args.address c.page_of.ensures.value (c.in_ok-open.ensures.opened refl)).state ∙ open_there c.args.core.now.state c.args.pid (page_number c.args.address)

pub store_and_close-requires-clause-right : goal.store_and_close-requires-clause-right
store_and_close-requires-clause-right c =
    ap (λ (x : State). is_writable_at x (slot_at c.args.pid c.args.address)) (is_open c.args.core.now.state c.open.new.core.state c.args.pid c.page_of.result c.args.address c.page_of.ensures.value (c.in_ok-open.ensures.opened refl)).state ∙ open_writes c.args.core.now.state c.args.pid (page_number c.args.address)

pub returns-clause-installed : goal.returns-clause-installed
returns-clause-installed c = λ _.
    let s = c.args.core.now.state in
    let p = c.args.pid in
    let a = c.args.address in
    run_then s c.open.new.core.state c.store_and_close.new.core.state (opening s p (page_number a)) (store_run p a c.args.part.now c.args.write)
    (is_open c.args.core.now.state c.open.new.core.state c.args.pid c.page_of.result c.args.address c.page_of.ensures.value (c.in_ok-open.ensures.opened refl)).run c.store_and_close.ensures.run

pub returns-clause-state : goal.returns-clause-state
returns-clause-state c = λ _.
    c.store_and_close.ensures.state
    ∙ ap (λ (x : State). closed (after_stores x c.args.pid c.args.address c.args.part.now) c.args.pid (page_number c.args.address) c.args.write) (is_open c.args.core.now.state c.open.new.core.state c.args.pid c.page_of.result c.args.address c.page_of.ensures.value (c.in_ok-open.ensures.opened refl)).state

pub returns-clause-marks : goal.returns-clause-marks
returns-clause-marks c =
    let v = c.args.core.now in
    let u = c.open.new.core in
    marks_then (end.Page c.args.pid (page_number c.args.address)) v u c.store_and_close.new.core
    (subst (λ (n : ℕ). EndsMarks (end.Page c.args.pid n) v u) c.page_of.ensures.value c.in_ok-open.ensures.marks) c.store_and_close.ensures.marks
