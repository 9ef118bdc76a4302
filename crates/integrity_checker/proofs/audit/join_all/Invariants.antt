use Rattle.std.proofs.Common.{◌≡◌, ◌+◌, ℕ, true, length, sum_by, vec_len, All}
use Rattle.image_check.specs.Draws.{times}
use Rattle.integrity_checker.specs.Found.{IsFound}
use Rattle.integrity_checker.specs.Steps.{IsOf}
use Rattle.integrity_checker.proofs.Finding.{StaysBelow}
use Rattle.integrity_checker.proofs.audit.join_all.Given as goal

abbrev pub invariant-loop-helper : goal.invariant-loop-helper
invariant-loop-helper l =
    (l.seat.table_id ≡ l.audit.table) × (l.seat.me.0.done ≡ true) × (l.seat.me.0.share + length l.others.items ≡ 1 + length l.initial.others.items)
    × ((x : ℕ) → times x l.seat.me.0.drawn + sum_by (λ h. times x h.answered) l.others.items ≡ times x l.initial.seat.me.0.drawn + sum_by (λ h. times x h.answered) l.initial.others.items)
    × All (λ h. IsOf l.audit h) l.others.items
    × All (λ h. h.done ≡ true) l.others.items
    × (l.seat.me.0.image ≡ l.audit.image)
    × IsFound l.audit.image l.seat.me.0.drawn l.findings.clauses l.findings.names.items l.findings.maps.items
    × StaysBelow l.audit.image l.seat.me.0.share l.seat.me.0.drawn

abbrev pub decreases-loop-helper : goal.decreases-loop-helper
decreases-loop-helper l = vec_len l.others
