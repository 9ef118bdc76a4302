-- What the reader of a snapshot keeps between two pieces, and its code.
use Rattle.std.proofs.Common.{◌≡◌, ℕ, ◌*◌, ◌≤◌, List, Option, refl}
use Rattle.std.specs.Coded.{Coded, code_by, coded×, coded_list, coded_option, coded_ℕ}
use Rattle.alloc_table.specs.declared.Role.{Role}
use Rattle.address_space.specs.View.{role_code}
use Rattle.memory_image.specs.declared.processes.Process.{Process}
use Rattle.memory_image.specs.Codes.{process_code}
use Rattle.wide_image.specs.declared.fronts.Front.{Front}
use Rattle.wide_image.specs.declared.offers.PendingOffer.{PendingOffer}
use Rattle.wide_image.specs.Codes.{pending_code}
use Rattle.wide_image.specs.Layout.{frames_stored}
use Rattle.wide_image.specs.Pieces.{Begun, IsBegun, next_rank}

-- a snapshot as far as it was read, the place after its last offer, how many records were read, and room for all frames
pub record KeepsBegun (b : Begun) (rank stored room bytes : ℕ) : Type 0 where
  pub begun : IsBegun b
  pub after : rank ≡ next_rank 0 b.offers
  pub count : stored ≡ frames_stored b.roles
  pub roles_fit : b.front.frames ≤ room
  pub bytes_fit : 4096 * b.front.frames ≤ bytes

-- the code of a front
abbrev pub front_code : Coded Front
front_code =
    code_by ((ℕ × ℕ) × (ℕ × List (Option Process))) (coded× (coded× coded_ℕ coded_ℕ) (coded× coded_ℕ (coded_list (coded_option process_code))))
    (λ f. ((f.frames, f.offers), (f.stored, f.processes)))
    (λ p. record { frames = p.0.0; processes = p.1.1; offers = p.0.1; stored = p.1.0 })
    (λ _. refl)

-- the code of a snapshot as far as it was read
abbrev pub begun_code : Coded Begun
begun_code =
    code_by ((Front × List PendingOffer) × (List Role × List ℕ)) (coded× (coded× front_code (coded_list pending_code)) (coded× (coded_list role_code) (coded_list coded_ℕ)))
    (λ b. ((b.front, b.offers), (b.roles, b.bytes)))
    (λ p. record { front = p.0.0; offers = p.0.1; roles = p.1.0; bytes = p.1.1 })
    (λ _. refl)
