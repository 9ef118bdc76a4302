use Rattle.std.specs.Prelude.{◌≡◌, ◌+◌, All, length}
use Rattle.core_handover.specs.Histories.{Known}
use Rattle.tower_threads.specs.Handles.{IsWatching}
use Rattle.tower_threads.specs.Seated.{AreSeated}
use Rattle.tower_threads.proofs.sharing.seat_monitors.Given as goal

abbrev pub invariant-loop-place : goal.invariant-loop-place
invariant-loop-place l =
    (length l.handles ≡ length l.initial.handles)
    × (length l.watchers.items + l.place ≡ length l.handles)
    × ((x : Known) → All (λ b. b.value ≡ x) l.initial.watchers.items → All (λ b. b.value ≡ x) l.watchers.items × AreSeated (IsWatching x) l.place l.handles)
