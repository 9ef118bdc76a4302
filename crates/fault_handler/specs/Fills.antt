-- Which slots' ways go where an access is carried out: those of the lazy pages that a write touches.
use Rattle.std.specs.Prelude.{ℕ, ◌||◌, false, Option, Some, None}
use Rattle.fault_handler.specs.Below.{page_number, second_page, Size, Access, Read, Write, Gone, of_lazy}

-- the lazy second page of an access, if it has one
abbrev pub lazy_second : ℕ → Option ℕ → Gone
lazy_second p None slot frame = false
lazy_second p (Some page) slot frame = of_lazy p page slot frame

-- the lazy ones of the pages that an access touches, one or two
abbrev pub lazy_touched : ℕ → ℕ → Size → Gone
lazy_touched p address size slot frame = of_lazy p (page_number address) slot frame || lazy_second p
    (second_page address size) slot frame

-- the lazy pages that an access fills
abbrev pub lazy_written : Access → ℕ → ℕ → Size → Gone
lazy_written Read p address size slot frame = false
lazy_written Write p address size slot frame = lazy_touched p address size slot frame
