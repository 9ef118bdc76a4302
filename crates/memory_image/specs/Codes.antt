-- The code of an image, so that a model's `Value` may be one.
use Rattle.std.proofs.Common.{ℕ, List, Option, refl}
use Rattle.std.specs.Coded.{Coded, code_by, coded×, coded_list, coded_ℕ, coded_option}
use Rattle.alloc_table.specs.declared.Role.{Role}
use Rattle.address_space.specs.View.{role_code}
use Rattle.memory_image.specs.declared.processes.Process.{Process}
use Rattle.memory_image.specs.Image.{Image}

-- the code of a process's record
abbrev pub process_code : Coded Process
process_code =
    code_by ((ℕ × ℕ) × (ℕ × (ℕ × ℕ)))
    (coded× (coded× coded_ℕ coded_ℕ) (coded× coded_ℕ (coded× coded_ℕ coded_ℕ)))
    (λ r. ((r.parent, r.quota), (r.used, (r.given, r.directory))))
    (λ p. record { parent = p.0.0; quota = p.0.1; used = p.1.0; given = p.1.1.0; directory = p.1.1.1 })
    (λ _. refl)

-- the code of images
abbrev pub image_code : Coded Image
image_code =
    code_by ((ℕ × List (Option Process)) × (List Role × List ℕ))
    (coded× (coded× coded_ℕ (coded_list (coded_option process_code))) (coded× (coded_list role_code) (coded_list coded_ℕ)))
    (λ i. ((i.version, i.processes), (i.roles, i.bytes)))
    (λ p. record { version = p.0.0; processes = p.0.1; roles = p.1.0; bytes = p.1.1 })
    (λ _. refl)
