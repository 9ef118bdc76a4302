-- What a contract sees of a CPU, what a call that is made leaves, and when one is refused.
use Rattle.std.specs.Prelude.{◌≡◌, ◌↔◌, ◌⊎◌, ◌<◌, ◌≤◌, ◌^◌, ℕ, zero, suc, List, [], ◌∷◌, ◌++◌, length, take, slice_index_or, sum_by, All, Any, Result, IsOk, IfErr}
use Rattle.kernel_calls.specs.declared.calls.Call.{Call}
use Rattle.kernel_calls.specs.declared.calls.Reply.{Reply}
use Rattle.locked_core.specs.declared.faults.Fault.{Fault}
use Rattle.locked_core.specs.declared.faults.Fault.TheVariants.{NoMemory, Unread, Disagree, TooManyFrames}
use Rattle.memory_image.specs.Image.{Image}
use Rattle.memory_image.specs.Sound.{StandsFor}
use Rattle.memory_report.specs.Histories.{Legal, StartsWith, calls_of, entries_of, state_after}
use Rattle.memory_report.specs.declared.entries.LogEntry.{LogEntry}
use Rattle.process_table.specs.View.{View}
use Rattle.memory_image.specs.Machine.{IsImageOf}
use Rattle.locked_core.specs.Moments.{Begins, Follows, core_after, entries_in}
use Rattle.locked_core.specs.Names.{Names}
use Rattle.locked_core.specs.declared.moment.Moment.{Moment}

-- Its number, the entries that it has seen, and these entries each with the core after it. Also the moments that it has
-- seen or received from other CPUs, whichever are more.
pub record Maker : Type 0 where
  pub number : ℕ
  pub seen : List LogEntry
  pub moments : List Moment
  pub told : List Moment

-- a CPU that has seen these entries, and no core
abbrev pub maker : ℕ → List LogEntry → Maker
maker number seen = record { number = number; seen = seen; moments = []; told = [] }

-- a CPU that has seen these moments, and received those
abbrev pub maker_told : ℕ → List Moment → List Moment → Maker
maker_told number moments told = record { number = number; seen = entries_in moments; moments = moments; told = told }

-- a CPU that has seen these moments, and received no more
abbrev pub maker_of : ℕ → List Moment → Maker
maker_of number moments = maker_told number moments moments

-- What a CPU that made a call has seen. Its moments have the entries that it has seen, begin with those that it had
-- seen, and follow one another from the core that the kernel opened with.
pub record IsFollowed (opening : View) (before after : Maker) : Type 0 where
  pub entries : entries_in after.moments ≡ after.seen
  pub begins : Begins after.moments before.moments
  pub follows : Follows opening after.moments

-- so many CPUs, numbered from 0, that have seen nothing
abbrev pub new_makers : ℕ → List Maker
new_makers zero = []
new_makers (suc n) = new_makers n ++ maker n [] ∷ []

-- A call that a CPU made. What the CPU has seen now is a legal history, which begins with what it had seen and ends
-- with the entry of that call. Of its own entries it has those that it had, and this one.
pub record IsMade (frames : ℕ) (before : Maker) (pid : ℕ) (call : Call) (reply : Reply) (after : Maker) (between : List LogEntry) (e : LogEntry) : Type 0 where
  pub legal : Legal frames after.seen
  pub grown : after.seen ≡ (before.seen ++ between) ++ e ∷ []
  pub by_cpu : e.cpu ≡ before.number
  pub for_process : e.pid ≡ pid
  pub of_call : e.call ≡ call
  pub with_reply : e.reply ≡ reply
  pub own : entries_of before.number after.seen ≡ entries_of before.number before.seen ++ e ∷ []

-- each entry is of one of so many CPUs, numbered from 0
abbrev pub AreOfCpus : ℕ → List LogEntry → Type 0
AreOfCpus count log = All (λ (e : LogEntry). e.cpu < count) log

-- a call of a CPU was made, with this reply
abbrev pub Makes : ℕ → Maker → ℕ → Call → Maker → Reply → Type 0
Makes frames before pid call after reply = (between : List LogEntry) × (e : LogEntry) × IsMade frames before pid call reply after between e

-- Why a CPU is refused on the log that was found. Of Unread nothing is said. NoMemory comes only if the log is legal,
-- begins with what was seen and has as many of this CPU's entries. TooManyFrames is of `Kernel::snapshot`. Nothing else
-- refuses it.
abbrev pub IsRefused : ℕ → List LogEntry → Maker → Fault → Type 0
IsRefused frames log cpu Unread = Unit {0}
IsRefused frames log cpu NoMemory = Legal frames log × StartsWith log cpu.seen × (calls_of cpu.number log ≡ calls_of cpu.number cpu.seen)
IsRefused frames log cpu Disagree = ⊥
IsRefused frames log cpu TooManyFrames = 4096 < frames

-- What a CPU has seen after a call that was refused for memory: all of the kernel's history, as it lay under the lock.
-- That begins with what the CPU had seen and received, and has no more of its own entries. Each is of one of the kernel's
-- CPUs. A kernel that keeps only so many of its last entries then has 2 ^ 62 of them in that history.
pub record HasFound (frames : ℕ) (book : Names) (before after : Maker) : Type 0 where
  pub stays : after ≡ maker_of before.number after.moments
  pub legal : Legal frames after.seen
  pub follows : Follows book.opening after.moments
  pub begins : Begins after.moments before.moments
  pub learned : Begins after.moments before.told
  pub own : calls_of before.number after.seen ≡ calls_of before.number before.seen
  pub cpus : AreOfCpus book.parts after.seen
  pub spent : book.keeps < 2 ^ 62 → 2 ^ 62 ≤ length after.seen

-- What a refused call leaves of its CPU. At NoMemory it has seen what the call found, at Unread what it had seen. No call
-- is refused for anything else.
abbrev pub Refuses : ℕ → Names → Maker → Maker → Fault → Type 0
Refuses frames book before after NoMemory = HasFound frames book before after
Refuses frames book before after Unread = after ≡ before
Refuses frames book before after Disagree = ⊥
Refuses frames book before after TooManyFrames = ⊥

-- the fault that can stop a call after it was checked: out of memory
abbrev pub Prevents : Fault → Type 0
Prevents NoMemory = Unit {0}
Prevents Unread = ⊥
Prevents Disagree = ⊥
Prevents TooManyFrames = ⊥

-- An image that was taken for a CPU. It represents the state after a legal history, which begins with what the CPU has
-- seen and has the calls that it made.
pub record IsSnapshot (frames : ℕ) (cpu : Maker) (image : Image) (history : List LogEntry) : Type 0 where
  pub legal : Legal frames history
  pub begins : StartsWith history cpu.seen
  pub own : calls_of cpu.number history ≡ calls_of cpu.number cpu.seen
  pub stands : StandsFor image (state_after frames history)

-- Where an image was taken for a CPU: it shows the core that the last of these moments left, of the kernel's one
-- history, which begins with the moments that the CPU has seen.
pub record IsShown (opening : View) (cpu : Maker) (image : Image) (moments : List Moment) : Type 0 where
  pub begins : Begins moments cpu.moments
  pub follows : Follows opening moments
  pub shows : IsImageOf (core_after opening moments) image

-- what a CPU has seen begins the log, and it made the calls that the log has of it
abbrev pub IsFit : List LogEntry → Maker → Type 0
IsFit log c = (take (length c.seen) log ≡ c.seen) × (calls_of c.number log ≡ calls_of c.number c.seen)

-- one of the CPUs has the number
unfoldable pub IsOneOf : List Maker → ℕ → Type 0
IsOneOf cpus number = Any (λ (c : Maker). c.number ≡ number) cpus

-- all of so many CPUs, whose calls are the log
pub record AreAll (count : ℕ) (log : List LogEntry) (cpus : List Maker) : Type 0 where
  pub as_many : length cpus ≡ count
  pub fit : All (λ c. IsFit log c) cpus
  pub known : All (λ e. IsOneOf cpus e.cpu) log

-- What a kernel was closed with, if these CPUs came back. The moments are all of its history: they have the entries,
-- begin with the moments that each of the CPUs has seen, and follow one another from the core that the kernel opened
-- with. The core is the one that the last of them left.
pub record IsLeft (opening : View) (cpus : List Maker) (log : List LogEntry) (core : View) (moments : List Moment) : Type 0 where
  pub entries : entries_in moments ≡ log
  pub begins : All (λ c. Begins moments c.moments) cpus
  pub follows : Follows opening moments
  pub left : core ≡ core_after opening moments

-- how many calls these CPUs made, together
abbrev pub calls_of_all : List Maker → ℕ
calls_of_all cpus = sum_by (λ (c : Maker). calls_of c.number c.seen) cpus

-- of a history and what a CPU has seen, one begins the other
abbrev pub IsOfOne : List Moment → Maker → Type 0
IsOfOne moments c = Begins moments c.moments ⊎ Begins c.moments moments

-- the number that is counted for a CPU is that of the calls that it made
abbrev pub IsTallied : List ℕ → Maker → Type 0
IsTallied tally c = (c.number < 8) × (slice_index_or tally c.number 0 ≡ calls_of c.number c.seen)

-- All of the history of a kernel of so many CPUs, of which these came back. It follows from the core that the kernel
-- opened with. What each of these CPUs has seen is of this one history, which has the calls that the CPU made. If they are
-- as many as the kernel has, they made all of it.
pub record IsHistory (frames : ℕ) (opening : View) (count : ℕ) (cpus : List Maker) (moments : List Moment) : Type 0 where
  pub legal : Legal frames (entries_in moments)
  pub follows : Follows opening moments
  pub one : All (λ c. IsOfOne moments c) cpus
  pub own : All (λ (c : Maker). calls_of c.number (entries_in moments) ≡ calls_of c.number c.seen) cpus
  pub all : length cpus ≡ count → calls_of_all cpus ≡ length moments

-- the result of closing with these CPUs on that log: it succeeds exactly if they are all of that many and agree with
-- the log, and is otherwise refused as Disagree
abbrev pub Closes : {X : Type 0} → ℕ → List LogEntry → List Maker → Result X Fault → Type 0
Closes count log cpus result = (IsOk result ↔ AreAll count log cpus) × IfErr result (λ f. f ≡ Disagree)
