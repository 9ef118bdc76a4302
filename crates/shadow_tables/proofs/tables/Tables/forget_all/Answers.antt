use Rattle.std.proofs.Common.{None, ap, ◌∙◌, arith, inl, inr}
use Rattle.std.specs.Prelude.{slice_index_or, slice_set}
use Rattle.std.proofs.lemmas.Bool.{cases_eq}
use Rattle.std.proofs.lemmas.List.{get_or-set_same, get_or-set_other}
use Rattle.shadow_tables.proofs.WayLemmas.{nothing_after}
use Rattle.shadow_tables.proofs.TableLemmas.{then_blocks}
use Rattle.shadow_tables.proofs.SlotLemmas.{translations-none}
use Rattle.shadow_tables.proofs.ChangeLemmas.{no_roots, all_free}
use Rattle.shadow_tables.proofs.tables.Tables.forget_all.Goals as goal

pub loop-number-preserved : goal.loop-number-preserved
loop-number-preserved c =
    let t = c.loop-number.self in
    let v = c.forget_numbered.new.self in
    let number = c.loop-number.number in
    record {
      stands = c.forget_numbered.ensures.stands;
      blocks = then_blocks c.args.self.now t v c.loop-number.invariant.blocks c.forget_numbered.ensures.blocks;
      gone = λ p below.
          ap (λ r. slice_index_or r p None) c.forget_numbered.ensures.roots
          ∙ elim (cases_eq p number) [
            | inl e ↦ ap (λ p. slice_index_or (slice_set t.roots number None) p None) e ∙ get_or-set_same t.roots number None None (omega (arith, c.loop-number.invariant.stands.1.blocks.roots, c.loop-number-test.true))
            | inr n ↦ get_or-set_other t.roots number p None None n ∙ c.loop-number.invariant.gone p (omega (arith, below, n))
          ];
    }

pub returns-clause-translations : goal.returns-clause-translations
returns-clause-translations c =
    translations-none c.loop-number.self (λ p page process. nothing_after c.loop-number.self p page 0 (omega arith) (c.loop-number.invariant.gone p (omega (arith, process, c.loop-number-test.false))))

pub returns-clause-roots : goal.returns-clause-roots
returns-clause-roots c = no_roots c.loop-number.self c.loop-number.invariant.stands.1.blocks (λ p process. c.loop-number.invariant.gone p (omega (arith, process, c.loop-number-test.false)))

pub returns-clause-free : goal.returns-clause-free
returns-clause-free c = all_free c.loop-number.self c.loop-number.invariant.stands (λ p process. c.loop-number.invariant.gone p (omega (arith, process, c.loop-number-test.false)))
