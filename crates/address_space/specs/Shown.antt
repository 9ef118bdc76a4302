-- The result of `Spaces::cell`: a cell's flags, and the size of its group.
use Rattle.address_space.specs.declared.Cell.{Cell}
use Rattle.page_words.specs.FiniteSet as set
use Rattle.address_space.specs.Spaces as spaces

-- a cell's flags, and the size of its group
abbrev pub shown : spaces.Cell → Cell
shown cell = record { write = cell.write; may = cell.may; accessed = cell.accessed; dirty = cell.dirty; holders = set.len cell.holders }
