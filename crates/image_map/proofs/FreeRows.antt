-- How many rows in sequence are free.
use Rattle.std.proofs.Common.{◌≡◌, ℕ, ◌+◌, ◌-◌, ◌<◌, ◌≤◌, true, false, suc, refl, ap, arith, ◌∙◌}
use Rattle.std.specs.Prelude.{if◌then◌else◌}
use Rattle.memory_image.specs.Image.{Image}
use Rattle.image_map.specs.Text.{free_rows, is_free_row}

module _ (image : Image) where
  more : (row left : ℕ) → is_free_row image row ≡ true → free_rows image row (suc left) ≡ suc (free_rows image (row + 1) left)
  unfolding free_rows
  more row left free = ap (λ b. if b then suc (free_rows image (row + 1) left) else 0) free

  none : (row left : ℕ) → is_free_row image row ≡ false → free_rows image row (suc left) ≡ 0
  unfolding free_rows
  none row left used = ap (λ b. if b then suc (free_rows image (row + 1) left) else 0) used

  at_end : (row left : ℕ) → left ≡ 0 → free_rows image row left ≡ 0
  unfolding free_rows
  at_end row left is = ap (free_rows image row) is

  -- a free row before the end
  pub free_next : (k end : ℕ) → k < end → is_free_row image k ≡ true → free_rows image k (end - k) ≡ suc (free_rows image (k + 1) (end - (k + 1)))
  free_next k end low free = ap (free_rows image k) (let e : end - k ≡ suc (end - (k + 1)) = omega arith in e) ∙ more k (end - (k + 1)) free

  -- one in use
  pub free_stops : (k end : ℕ) → k < end → is_free_row image k ≡ false → free_rows image k (end - k) ≡ 0
  free_stops k end low used = ap (free_rows image k) (let e : end - k ≡ suc (end - (k + 1)) = omega arith in e) ∙ none k (end - (k + 1)) used

  pub free_ends : (k end : ℕ) → end ≤ k → free_rows image k (end - k) ≡ 0
  free_ends k end past = at_end k (end - k) (omega arith)
