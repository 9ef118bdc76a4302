use Rattle.std.proofs.Common.{◌≡◌, ◌+◌, ◌-◌, [], false, All, length}
use Rattle.integrity_checker.specs.Drawn.{drawer}
use Rattle.integrity_checker.proofs.audit.made.Given as goal

abbrev pub invariant-loop-number : goal.invariant-loop-number
invariant-loop-number l =
    (l.rest.table_id ≡ l.table.shared.table_id) × (l.rest.me.0 ≡ drawer l.about.image (l.helpers + 1 - l.number) [] false) × (l.rest.me.1 ≡ []) × (length l.seats.items + 1 ≡ l.number)
    × All (λ h. (h.table ≡ l.table.shared.table_id) × (h.image ≡ l.about.image)) l.seats.items × All (λ h. h.answered ≡ []) l.seats.items
