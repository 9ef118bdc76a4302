-- The report of where a core's memory lies.
use Rattle.std.specs.Prelude.{ℕ, Option, Some, None, length}
use Rattle.process_table.specs.View.{View}

-- how many bytes a core's memory has, where there is a core
abbrev pub length_in : Option View → Option ℕ
length_in (Some core) = Some (length core.bytes)
length_in None = None
