use Rattle.std.proofs.Common.{◌≡◌, ℕ, ◌+◌, ◌<◌, length-set, refl, ap, sym, subst, ◌∙◌, arith, Option}
use Rattle.std.specs.Prelude.{slice_get, slice_set, Some}
use Rattle.address_space.specs.Image.{table_at}
use Rattle.page_map.proofs.PageLemmas.{count_range-le}
use Rattle.memory_image.specs.Image.{memory_of}
use Rattle.memory_image.proofs.FillLemmas.{fill_goes_on, filled_to}
use Rattle.image_check.specs.declared.clauses.ProcessClause.{ProcessClause}
use Rattle.image_check.specs.Counts.{is_this, frame_of, names_by, maps_by, names, maps}
use Rattle.image_check.specs.Adds.{Adds}
use Rattle.image_check.specs.Verdict.{process_clause}
use Rattle.image_check.proofs.AddLemmas.{sums_begin, sums_go_on, sums_done, sums_room}
use Rattle.image_check.proofs.verdicts.judge_processes.Goals as goal

pub judge_process-requires-clause-names : goal.judge_process-requires-clause-names
judge_process-requires-clause-names c =
    sums_room (λ f p. names_by c.args.image.now p f) c.args.names.now c.loop-number.names 704 c.loop-number.number
    (λ f p. count_range-le (λ s. is_this f (table_at (memory_of c.args.image.now) p s)) 256 704) (omega arith) (omega arith) c.requires.names c.loop-number.invariant.2

pub judge_process-requires-clause-maps : goal.judge_process-requires-clause-maps
judge_process-requires-clause-maps c =
    sums_room (λ f p. maps_by c.args.image.now p f) c.args.maps.now c.loop-number.maps 720896 c.loop-number.number
    (λ f p. count_range-le (λ page. is_this f (frame_of c.args.image.now p page)) 0x40000 0xb0000) (omega arith) (omega arith) c.requires.maps c.loop-number.invariant.3

pub loop-number-init : goal.loop-number-init
loop-number-init c = (
  refl,
  (λ p low. absurd (omega arith)),
  sums_begin (λ f p. names_by c.args.image.now p f) c.args.names.now,
  sums_begin (λ f p. maps_by c.args.image.now p f) c.args.maps.now,
)

pub loop-number-preserved : goal.loop-number-preserved
loop-number-preserved c =
    let was = c.loop-number.invariant in
    let e : c.judge_process.result ≡ process_clause c.args.image.now c.loop-number.number = c.judge_process.ensures.clause ∙ ap (process_clause c.args.image.now) c.pid_of.ensures in (
      length-set c.loop-number.clauses c.loop-number.number c.judge_process.result ∙ was.0,
      subst (λ (x : Option ProcessClause). (p : ℕ) → p < c.loop-number.number + 1 → slice_get (slice_set c.loop-number.clauses c.loop-number.number x) p ≡ Some (process_clause c.args.image.now p)) (sym e)
          (fill_goes_on (process_clause c.args.image.now) c.loop-number.clauses c.loop-number.number (omega (arith, was.0)) was.1),
      sums_go_on (λ f p. names_by c.args.image.now p f) c.args.names.now c.loop-number.names c.judge_process.new.names c.loop-number.number was.2
          (subst (λ p. Adds c.loop-number.names c.judge_process.new.names (λ f. names_by c.args.image.now p f)) c.pid_of.ensures c.judge_process.ensures.names),
      sums_go_on (λ f p. maps_by c.args.image.now p f) c.args.maps.now c.loop-number.maps c.judge_process.new.maps c.loop-number.number was.3
          (subst (λ p. Adds c.loop-number.maps c.judge_process.new.maps (λ f. maps_by c.args.image.now p f)) c.pid_of.ensures c.judge_process.ensures.maps),
    )

pub returns-clause-clauses : goal.returns-clause-clauses
returns-clause-clauses c = filled_to (process_clause c.args.image.now) 64 c.loop-number.clauses c.loop-number.invariant.0 (λ p low. c.loop-number.invariant.1 p (omega (arith, low)))

pub returns-clause-names : goal.returns-clause-names
unfolding names
returns-clause-names c = let end : c.loop-number.number ≡ 64 = omega arith in sums_done (λ f p. names_by c.args.image.now p f) c.args.names.now c.loop-number.names c.loop-number.number end c.loop-number.invariant.2

pub returns-clause-maps : goal.returns-clause-maps
unfolding maps
returns-clause-maps c = let end : c.loop-number.number ≡ 64 = omega arith in sums_done (λ f p. maps_by c.args.image.now p f) c.args.maps.now c.loop-number.maps c.loop-number.number end c.loop-number.invariant.3
