-- Operands read in sequence: each gives what its token says, and the tokens after it.
--     first_by read tokens      what the first token says, and the tokens after it
--     one_by, two_by, three_by      a call of so many operands, after which there is no token
use Rattle.std.specs.Prelude.{ℕ, ◌≡◌, ◌≤◌, ◌^◌, Bool, true, false, ◌&&◌, List, [], ◌∷◌, Option, None, Some, MatchBool, if◌then◌else◌}
use Rattle.std.specs.List.{list_all}
use Rattle.std.specs.Str.{bytes_eq}
use Rattle.std.specs.Char.{digit_value, is_digit}
use Rattle.std.specs.Str.Parse.{digits_value}
use Rattle.kernel_calls.specs.declared.calls.Call.{Call}
use Rattle.kernel_calls.specs.declared.calls.Event.{Event}
use Rattle.script_run.specs.Lines.{◌>>=◌, alone, cpu_of, process_of, call_of}
use Rattle.script_run.specs.Numbers.{are_digits}
use Rattle.script_run.specs.Tokens.{is_run, is_visible}

-- the tokens begin with no space
abbrev pub is_trimmed : List ℕ → Bool
is_trimmed [] = true
is_trimmed (byte ∷ bytes) = is_visible byte

-- what a byte is worth as a hexadecimal digit: more than eight digits are, where it is none
abbrev pub worth : ℕ → ℕ
worth byte = if is_digit byte 16 then digit_value byte else 2 ^ 32

-- the bytes' value where all are hexadecimal digits, and else a number that eight digits don't have
abbrev pub IsWorth : List ℕ → ℕ → Type 0
IsWorth bytes value = MatchBool (are_digits 16 bytes) (value ≡ digits_value 16 bytes) (2 ^ 32 ≤ value)

-- the first token by a reading, and the tokens after it
unfoldable pub first_by : {A : Type 0} → (List ℕ → Option A) → List (List ℕ) → Option (A × List (List ℕ))
first_by read [] = None
first_by read (token ∷ tokens) = do
  said ← read token
  Some (said, tokens)

-- a call of one operand
unfoldable pub one_by : {A : Type 0} → (List ℕ → Option A) → (A → Call) → List (List ℕ) → Option Call
one_by read call tokens = do
  first ← first_by read tokens
  alone (call first.0) first.1

-- a call of two operands
unfoldable pub two_by : {A B : Type 0} → (List ℕ → Option A) → (List ℕ → Option B) → (A → B → Call) → List (List ℕ) → Option Call
two_by read next call tokens = do
  first ← first_by read tokens
  second ← first_by next first.1
  alone (call first.0 second.0) second.1

-- a call of three operands
unfoldable pub three_by : {A B C : Type 0} → (List ℕ → Option A) → (List ℕ → Option B) → (List ℕ → Option C) → (A → B → C → Call) → List (List ℕ) → Option Call
three_by read next last call tokens = do
  first ← first_by read tokens
  second ← first_by next first.1
  third ← first_by last second.1
  alone (call first.0 second.0 third.0) third.1

-- whether some bytes are a word: at least one, and no space
abbrev pub is_word : List ℕ → Bool
is_word bytes = is_run bytes && list_all is_visible bytes

-- whether a word is the first token
abbrev pub is_first : List ℕ → List (List ℕ) → Bool
is_first word [] = false
is_first word (op ∷ operands) = bytes_eq op word

-- what a table of calls has at the first token, with the others as its operands
abbrev pub first_in : (List ℕ → List (List ℕ) → Option Call) → List (List ℕ) → Option Call
first_in table [] = None
first_in table (op ∷ operands) = table op operands

-- CPU and process, and the tokens behind them
unfoldable pub caller_by : List (List ℕ) → Option (ℕ × ℕ × List (List ℕ))
caller_by tokens = do
  cpu ← first_by cpu_of tokens
  pid ← first_by process_of cpu.1
  Some (cpu.0, pid.0, pid.1)

-- CPU, process, and the call with its operands
unfoldable pub event_by : List (List ℕ) → Option Event
event_by tokens = do
  caller ← caller_by tokens
  call ← first_in call_of caller.2
  Some (record { cpu = caller.0; pid = caller.1; call = call })
