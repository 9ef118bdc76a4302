use Rattle.std.specs.Prelude.{◌≡◌, ◌+◌, All, length}
use Rattle.core_handover.specs.Seats.{Seat}
use Rattle.tower_threads.specs.Handles.{IsSeated}
use Rattle.tower_threads.specs.Seated.{AreSeated}
use Rattle.tower_threads.proofs.sharing.seat_cpus.Given as goal

abbrev pub invariant-loop-place : goal.invariant-loop-place
invariant-loop-place l =
    (length l.handles ≡ length l.initial.handles)
    × (length l.seats.items + l.place ≡ length l.handles)
    × ((x : Seat) → All (λ b. b.value ≡ x) l.initial.seats.items → All (λ b. b.value ≡ x) l.seats.items × AreSeated (IsSeated x) l.place l.handles)
