-- What is done before the guests run, and what each guest does.
use Rattle.std.specs.Prelude.{ℕ, ◌+◌, true, List, [], ◌∷◌}
use Rattle.guest_cpu.specs.declared.instructions.Instruction.{Instruction}
use Rattle.guest_cpu.specs.declared.instructions.Instruction.TheVariants.{Set, Add, Load, Store, JumpEq, Jump, Halt}
use Rattle.kernel_calls.specs.declared.calls.Call.TheVariants as call
use Rattle.kernel_calls.specs.declared.calls.Event.{Event}
use Rattle.page_words.specs.declared.addresses.Size.TheVariants.{Four}

-- where the number stands that the guests count up: at the first byte of its page
abbrev pub number_at : ℕ
number_at = 1073741824

-- the page that both guests use
abbrev pub page_at : ℕ
page_at = 262144

-- how many turns a guest has
abbrev pub turns : ℕ
turns = 3000000

-- Process 0 stores 0, makes process 1 and offers it the page, and process 1 accepts it, all on CPU 0.
abbrev pub opening_events : List Event
opening_events =
    record { cpu = 0; pid = 0; call = call.Store number_at Four 0 } ∷
    record { cpu = 0; pid = 0; call = call.Spawn 5 } ∷
    record { cpu = 0; pid = 0; call = call.Offer page_at 1 true } ∷
    record { cpu = 0; pid = 1; call = call.Accept 0 page_at page_at } ∷ []

-- A guest that waits for a number, stores the next, and waits for the one after that, ten times. Register 0 has
-- the number's address, 1 what is waited for, 2 what was read, 3 the number 1, and 4 what ends it.
abbrev pub race_program : ℕ → List Instruction
race_program first =
    Set 0 number_at ∷ Set 1 first ∷ Set 3 1 ∷ Set 4 (first + 20) ∷
    Load Four 2 0 ∷ JumpEq 2 1 7 ∷ Jump 4 ∷
    Add 1 1 3 ∷ Store Four 0 1 ∷ Add 1 1 3 ∷ JumpEq 1 4 12 ∷ Jump 4 ∷ Halt ∷ []
