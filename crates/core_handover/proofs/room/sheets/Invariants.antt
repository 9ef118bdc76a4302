use Rattle.std.specs.Prelude.{◌≡◌, All}
use Rattle.core_handover.proofs.room.sheets.Given as goal

abbrev pub invariant-loop-place : goal.invariant-loop-place
invariant-loop-place l = All (λ t. t.book ≡ l.first.book) l.pages.items
