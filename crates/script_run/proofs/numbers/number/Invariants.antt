-- The value is that of the bytes so far, and the flag says whether they are digits.
use Rattle.std.proofs.Common.{◌≡◌, ◌<◌, ◌^◌, take}
use Rattle.std.specs.Str.Parse.{digits_value}
use Rattle.script_run.specs.Numbers.{are_digits}
use Rattle.script_run.proofs.numbers.number.Given as goal

abbrev pub invariant-loop-byte : goal.invariant-loop-byte
invariant-loop-byte l = record {
  digits : l.all_digits ≡ are_digits l.radix (take l.byte-index l.token);
  value : l.value ≡ digits_value l.radix (take l.byte-index l.token);
  small : l.value < 40 ^ l.byte-index;
}
