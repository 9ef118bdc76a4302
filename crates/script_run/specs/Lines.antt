-- What a line of a script says: nothing, an event, or nothing that a script may say.
--     event_of_words tokens      the event in the tokens of a line
--     call_of op operands      the table of calls, each by its name and its operands
--     line_of bytes      what a line says, of at most 100 bytes
use Rattle.std.specs.Prelude.{ℕ, Bool, true, false, ◌||◌, List, [], ◌∷◌, length, nat_lt, ◌==◌, Option, None, Some, if◌then◌else◌, codes}
use Rattle.std.specs.Str.{bytes_eq}
use Rattle.page_words.specs.declared.addresses.Size.{Size}
use Rattle.page_words.specs.declared.addresses.Size.TheVariants.{One, Two, Four}
use Rattle.kernel_calls.specs.declared.calls.Call.{Call}
use Rattle.kernel_calls.specs.declared.calls.Call.TheVariants as call
use Rattle.kernel_calls.specs.declared.calls.Event.{Event}
use Rattle.script_run.specs.declared.lines.Line.{Line}
use Rattle.script_run.specs.declared.lines.Line.TheVariants as line
use Rattle.script_run.specs.Numbers.{decimal_number, hexadecimal_number, below}
use Rattle.script_run.specs.Tokens.{tokens_of}

infixl 10 ◌>>=◌
-- the next step of a reading, if there was a value
abbrev pub ◌>>=◌ : {A B : Type 0} → Option A → (A → Option B) → Option B
None >>= f = None
(Some x) >>= f = f x

-- ---- Operands

-- a token that is a CPU, 0 to 7
abbrev pub cpu_of : List ℕ → Option ℕ
cpu_of token = below 8 (decimal_number token)

-- a token that is a process, 0 to 63
abbrev pub process_of : List ℕ → Option ℕ
process_of token = below 64 (decimal_number token)

-- a number of frames that fits 32 bits
abbrev pub quota_of : List ℕ → Option ℕ
quota_of token = below 4294967296 (decimal_number token)

-- a token that is a size in bytes: 1, 2 or 4
abbrev pub size_of : List ℕ → Option Size
size_of token = if bytes_eq token (codes "1") then Some One else if bytes_eq token (codes "2") then Some Two else if bytes_eq token (codes "4") then Some Four else None

-- whether the right is to write
abbrev pub right_of : List ℕ → Option Bool
right_of token = if bytes_eq token (codes "rw") then Some true else if bytes_eq token (codes "ro") then Some false else None

-- just one token, two, or three
abbrev pub one : List (List ℕ) → Option (List ℕ)
one (a ∷ []) = Some a
one _ = None

-- two tokens, and no more
abbrev pub two : List (List ℕ) → Option (List ℕ × List ℕ)
two (a ∷ b ∷ []) = Some (a, b)
two _ = None

-- three tokens, and no more
abbrev pub three : List (List ℕ) → Option (List ℕ × List ℕ × List ℕ)
three (a ∷ b ∷ c ∷ []) = Some (a, b, c)
three _ = None

-- ---- Calls

-- load ADDR SIZE
unfoldable pub load_of : List (List ℕ) → Option Call
load_of operands = do
  tokens ← two operands
  addr ← hexadecimal_number tokens.0
  size ← size_of tokens.1
  Some (call.Load addr size)

-- store ADDR SIZE VALUE
unfoldable pub store_of : List (List ℕ) → Option Call
store_of operands = do
  tokens ← three operands
  addr ← hexadecimal_number tokens.0
  size ← size_of tokens.1
  value ← hexadecimal_number tokens.2
  Some (call.Store addr size value)

-- map PAGE RIGHT
unfoldable pub map_of : List (List ℕ) → Option Call
map_of operands = do
  tokens ← two operands
  page ← hexadecimal_number tokens.0
  write ← right_of tokens.1
  Some (call.Map page write)

-- unmap PAGE
unfoldable pub unmap_of : List (List ℕ) → Option Call
unmap_of operands = do
  token ← one operands
  page ← hexadecimal_number token
  Some (call.Unmap page)

-- protect PAGE RIGHT
unfoldable pub protect_of : List (List ℕ) → Option Call
protect_of operands = do
  tokens ← two operands
  page ← hexadecimal_number tokens.0
  write ← right_of tokens.1
  Some (call.Protect page write)

-- info PAGE
unfoldable pub info_of : List (List ℕ) → Option Call
info_of operands = do
  token ← one operands
  page ← hexadecimal_number token
  Some (call.Info page)

-- offer PAGE process RIGHT
unfoldable pub offer_of : List (List ℕ) → Option Call
offer_of operands = do
  tokens ← three operands
  page ← hexadecimal_number tokens.0
  target ← process_of tokens.1
  write ← right_of tokens.2
  Some (call.Offer page target write)

-- withdraw PAGE process
unfoldable pub withdraw_of : List (List ℕ) → Option Call
withdraw_of operands = do
  tokens ← two operands
  page ← hexadecimal_number tokens.0
  target ← process_of tokens.1
  Some (call.Withdraw page target)

-- accept process PAGE PAGE: the giver, its page, and the own page
unfoldable pub accept_of : List (List ℕ) → Option Call
accept_of operands = do
  tokens ← three operands
  giver ← process_of tokens.0
  giver_page ← hexadecimal_number tokens.1
  page ← hexadecimal_number tokens.2
  Some (call.Accept giver giver_page page)

-- spawn N
unfoldable pub spawn_of : List (List ℕ) → Option Call
spawn_of operands = do
  token ← one operands
  quota ← quota_of token
  Some (call.Spawn quota)

-- fork N
unfoldable pub fork_of : List (List ℕ) → Option Call
fork_of operands = do
  token ← one operands
  quota ← quota_of token
  Some (call.Fork quota)

-- a call without operands
unfoldable pub alone : Call → List (List ℕ) → Option Call
alone call [] = Some call
alone call (token ∷ tokens) = None

-- the calls of processes and their quotas
unfoldable pub process_call_of : List ℕ → List (List ℕ) → Option Call
process_call_of op operands =
    if bytes_eq op (codes "spawn") then spawn_of operands else
    if bytes_eq op (codes "fork") then fork_of operands else
    if bytes_eq op (codes "exit") then alone call.Exit operands else
    if bytes_eq op (codes "quota") then alone call.Quota operands else
    None

-- the calls of offers, and then those of processes
unfoldable pub sharing_call_of : List ℕ → List (List ℕ) → Option Call
sharing_call_of op operands =
    if bytes_eq op (codes "offer") then offer_of operands else
    if bytes_eq op (codes "withdraw") then withdraw_of operands else
    if bytes_eq op (codes "accept") then accept_of operands else
    process_call_of op operands

-- each call by its name
unfoldable pub call_of : List ℕ → List (List ℕ) → Option Call
call_of op operands =
    if bytes_eq op (codes "load") then load_of operands else
    if bytes_eq op (codes "store") then store_of operands else
    if bytes_eq op (codes "map") then map_of operands else
    if bytes_eq op (codes "unmap") then unmap_of operands else
    if bytes_eq op (codes "protect") then protect_of operands else
    if bytes_eq op (codes "info") then info_of operands else
    sharing_call_of op operands

-- ---- Lines

-- cpu pid op, and the operands
unfoldable pub event_of_words : List (List ℕ) → Option Event
event_of_words (cpu ∷ pid ∷ op ∷ operands) = do
  c ← cpu_of cpu
  p ← process_of pid
  call ← call_of op operands
  Some (record { cpu = c; pid = p; call = call })
event_of_words _ = None

-- the line's first byte is a number sign
abbrev pub is_comment : List ℕ → Bool
is_comment [] = false
is_comment (byte ∷ bytes) = byte == 35

-- whether there is no token
abbrev pub is_blank : List (List ℕ) → Bool
is_blank [] = true
is_blank (token ∷ tokens) = false

-- an event, or a malformed line
abbrev pub event_or_malformed : Option Event → Line
event_or_malformed (Some event) = line.Event event
event_or_malformed None = line.Malformed

-- more bytes than a line may have
abbrev pub is_too_long : List ℕ → Bool
is_too_long bytes = nat_lt 100 (length bytes)

-- what a line of at most 100 bytes says
unfoldable pub line_of : List ℕ → Line
line_of bytes =
    if is_too_long bytes then line.Malformed else
    if is_comment bytes || is_blank (tokens_of bytes) then line.Skipped else
    event_or_malformed (event_of_words (tokens_of bytes))
