use Rattle.std.proofs.Common.{ℕ, ◌<◌, ◌∙◌, subst, sym, arith}
use Rattle.std.specs.Prelude.{slice_index}
use Rattle.memory_image.proofs.ReadingLemmas.{parent_in}
use Rattle.wide_image.specs.Pieces.{IsFront, front_text}
use Rattle.wide_image.proofs.Pieces.{front_of, front_fits, front_spelled}
use Rattle.wide_image.proofs.fronts.front_in.Goals as goal

pub number_at-requires : goal.number_at-requires
number_at-requires c = let l = (front_of c.args.bytes.now c.requires).long in omega arith

pub number_at-requires-2 : goal.number_at-requires-2
number_at-requires-2 c = let l = (front_of c.args.bytes.now c.requires).long in omega arith

pub number_at-requires-3 : goal.number_at-requires-3
number_at-requires-3 c = let l = (front_of c.args.bytes.now c.requires).long in omega arith

pub processes_in-requires-clause-long : goal.processes_in-requires-clause-long
processes_in-requires-clause-long c = let l = (front_of c.args.bytes.now c.requires).long in omega arith

pub processes_in-requires-clause-parents : goal.processes_in-requires-clause-parents
processes_in-requires-clause-parents c = λ p low.
    let K = front_of c.args.bytes.now c.requires in
    parent_in c.args.bytes.now _ p (K.processes p low)

pub returns-clause-front : goal.returns-clause-front
returns-clause-front c =
    let small : (i : ℕ) → slice_index c.args.bytes.now i < 256 = λ i. omega (arith, c.type_inv.bytes i) in
    let K = front_of c.args.bytes.now c.requires in
    subst IsFront (sym (λ i. record { frames = c.number_at.ensures i; processes = c.processes_in.ensures i; offers = c.number_at-2.ensures i; stored = c.number_at-3.ensures i })) (front_fits c.args.bytes.now small K)

pub returns-clause-text : goal.returns-clause-text
returns-clause-text c =
    let small : (i : ℕ) → slice_index c.args.bytes.now i < 256 = λ i. omega (arith, c.type_inv.bytes i) in
    let K = front_of c.args.bytes.now c.requires in
    (λ i. front_text (record { frames = c.number_at.ensures i; processes = c.processes_in.ensures i; offers = c.number_at-2.ensures i; stored = c.number_at-3.ensures i })) ∙ front_spelled c.args.bytes.now small K
