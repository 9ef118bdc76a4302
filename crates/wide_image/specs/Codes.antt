-- The code of a snapshot, so that a model's `Value` may be one.
use Rattle.std.proofs.Common.{ℕ, Bool, List, refl}
use Rattle.std.specs.Coded.{Coded, code_by, coded×, coded_list, coded_ℕ, coded_bool}
use Rattle.memory_image.specs.Image.{Image}
use Rattle.memory_image.specs.Codes.{image_code}
use Rattle.wide_image.specs.declared.offers.PendingOffer.{PendingOffer}
use Rattle.wide_image.specs.Wide.{WideImage}

-- the code of a pending offer
abbrev pub pending_code : Coded PendingOffer
pending_code =
    code_by ((ℕ × ℕ) × (ℕ × Bool)) (coded× (coded× coded_ℕ coded_ℕ) (coded× coded_ℕ coded_bool))
    (λ o. ((o.offerer, o.page), (o.target, o.write)))
    (λ p. record { offerer = p.0.0; page = p.0.1; target = p.1.0; write = p.1.1 })
    (λ _. refl)

-- the code of snapshots
abbrev pub wide_code : Coded WideImage
wide_code =
    code_by (Image × List PendingOffer) (coded× image_code (coded_list pending_code))
    (λ w. (w.image, w.offers)) (λ p. record { image = p.0; offers = p.1 }) (λ _. refl)
