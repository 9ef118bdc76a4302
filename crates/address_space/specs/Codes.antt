-- Codes of cells and spaces, so that a model's `Value` may hold them.
use Rattle.std.specs.Prelude.{ℕ, Bool, List, refl}
use Rattle.std.specs.Coded.{Coded, code_by, coded×, coded_list, coded_ℕ, coded_bool}
use Rattle.address_space.specs.Below.{map_code, set_code, Set}
use Rattle.address_space.specs.Spaces.{Slot, Cell, Spaces, slot_order}

-- the code of slots
abbrev pub slot_code : Coded Slot
slot_code = code_by (ℕ × ℕ) (coded× coded_ℕ coded_ℕ) (λ s. (s.pid, s.page)) (λ p. record { pid = p.0; page = p.1 }) (λ _. refl)

-- the code of cells
abbrev pub cell_code : Coded Cell
cell_code =
    code_by ((Bool × Bool) × ((Bool × Bool) × (List ℕ × Set slot_order)))
    (coded× (coded× coded_bool coded_bool) (coded× (coded× coded_bool coded_bool) (coded× (coded_list coded_ℕ) (set_code slot_code))))
    (λ c. ((c.write, c.may), ((c.accessed, c.dirty), (c.bytes, c.holders))))
    (λ p. record { write = p.0.0; may = p.0.1; accessed = p.1.0.0; dirty = p.1.0.1; bytes = p.1.1.0; holders = p.1.1.1 })
    (λ _. refl)

-- the code of address spaces
abbrev pub spaces_code : Coded Spaces
spaces_code = map_code slot_code cell_code
