-- When an answer is that a number of frames is refused.
use Rattle.std.proofs.Common.{◌≡◌, ◌∙◌, Result, Ok, Err, refl, sym, subst}
use Rattle.std.specs.Prelude.{◌↔◌}
use Rattle.script_run.specs.declared.faults.ScriptFault.{ScriptFault}
use Rattle.script_run.specs.declared.faults.ScriptFault.TheVariants as script
use Rattle.command_answers.specs.Faults.{tool_of_script}
use Rattle.command_answers.specs.declared.answers.Answer.TheVariants.{Done, Failed}
use Rattle.command_answers.specs.declared.faults.ToolFault.{ToolFault}
use Rattle.command_answers.specs.declared.faults.ToolFault.TheVariants as tool

-- a job that is done is not refused
pub done_is_sized : {T E P : Type 0} (r : Result T E) (x : T) (refusal : E) (told : ToolFault) → r ≡ Ok x → (r ≡ Err refusal ↔ P) → (Done ≡ Failed told) ↔ P
done_is_sized r x refusal told is size = (λ e. cc, λ p. let refused = size.1 p in cc)

-- one that failed is refused if the fault is that one
pub failed_is_sized : {T P : Type 0} (r : Result T ToolFault) (fault refusal : ToolFault) → r ≡ Err fault → (r ≡ Err refusal ↔ P) → (Failed fault ≡ Failed refusal) ↔ P
failed_is_sized r fault refusal is size = (λ e. let same : r ≡ Err refusal = cc in size.0 same, λ p. let refused = size.1 p in cc)

-- a script's fault is as a fault of a command
same_size : (fault : ScriptFault) → tool_of_script fault ≡ tool.BadSize → fault ≡ script.BadSize
same_size script.BadSize is = refl
same_size script.NoMemory is = cc
same_size (script.Malformed line) is = cc
same_size script.TooLong is = cc
same_size script.ReadFailed is = cc
same_size script.WriteFailed is = cc

pub script_is_sized : {T P : Type 0} (r : Result T ScriptFault) (fault : ScriptFault) (told : ToolFault) → r ≡ Err fault → told ≡ tool_of_script fault → (r ≡ Err script.BadSize ↔ P) → (Failed told ≡ Failed tool.BadSize) ↔ P
script_is_sized r fault told is as_tool size =
    let back : told ≡ tool.BadSize → r ≡ Err script.BadSize = λ e. let same = same_size fault (sym as_tool ∙ e) in cc in
    let forth : r ≡ Err script.BadSize → told ≡ tool.BadSize = λ e. let same : fault ≡ script.BadSize = cc in as_tool ∙ subst (λ (f : ScriptFault). tool_of_script f ≡ tool.BadSize) (sym same) refl in
    (λ e. let told_so : told ≡ tool.BadSize = cc in size.0 (back told_so), λ p. let told_so = forth (size.1 p) in cc)
