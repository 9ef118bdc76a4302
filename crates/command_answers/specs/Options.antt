-- The options of a command line that have a number.
use Rattle.std.specs.Prelude.{ℕ, ◌^◌, ◌&&◌, nat_lt, List, Option, Some, None, pos, codes, if◌then◌else◌}
use Rattle.std.specs.Option.{option_map_or}
use Rattle.std.specs.Str.Parse.{digits_value, without_leading_plus}
use Rattle.clap.specs.ValueTests.{is_numeral}
use Rattle.clap.specs.Words.{Row, Rule, Text, new_rule, one_of}
use Rattle.clap.specs.declared.builder.value_parser.ValueParser.TheVariants as parser

-- --frames N, a number of 32 bits
abbrev pub frames_option : Rule
frames_option = record (new_rule (codes "frames")) {
  long = Some (codes "frames");
  value_names = 1;
  parser = Some (parser.Signed (pos 0) (pos 4294967295));
}

-- the number of 32 bits that the text writes in decimal digits, behind a plus or not
abbrev pub number_named : Text → Option ℕ
number_named text =
    let digits = without_leading_plus text in
    if is_numeral digits && nat_lt (digits_value 10 digits) (2 ^ 32) then Some (digits_value 10 digits) else None

-- the number of an option, by its text as it is read (`-0` is read as `0`), and another number where it is absent
abbrev pub number_in : Text → ℕ → List Row → Option ℕ
number_in id absent rows = option_map_or number_named (one_of id rows) (Some absent)

-- the number of frames in what `clap` found, 16 without the option
abbrev pub frames_in : List Row → Option ℕ
frames_in rows = number_in (codes "frames") 16 rows
