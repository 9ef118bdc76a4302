-- What the pages that are filled for a write leave of the ways.
use Rattle.fault_handler.proofs.Prelude.{page_number, second_page, Size, ◌≡◌, ℕ, Bool, false, ◌||◌, ap, sym, ◌∙◌, Some, arith, Image, stays_then, stays_more}
use Rattle.address_space.specs.Stays.{FramesStay, of_lazy}
use Rattle.fault_handler.specs.Fills.{lazy_second, lazy_touched}

pub neither : (a b : Bool) → (a || b) ≡ false → (a ≡ false) × (b ≡ false)
neither a b h = grind arith

pub fills_one : (p address : ℕ) (size : Size) (page : ℕ) (a b : Image) → page ≡ page_number address
    → FramesStay (of_lazy p page) a b → FramesStay (lazy_touched p address size) a b
fills_one p address size page a b is stay = grind (arith, stays_more, neither)

pub fills_two : (p address : ℕ) (size : Size) (page second : ℕ) (a b c : Image) → page ≡ page_number address
    → second_page address size ≡ Some second
    → FramesStay (of_lazy p page) a b → FramesStay (of_lazy p second) b c → FramesStay (lazy_touched p address size) a c
fills_two p address size page second a b c is other one two = stays_then
    (fills_one p address size page a b is one)
    (stays_more (λ slot f stays. sym (ap (λ x. lazy_second p x slot f) other)
    ∙ (neither (of_lazy p (page_number address) slot f) (lazy_second p (second_page address size) slot f) stays).1) two)
