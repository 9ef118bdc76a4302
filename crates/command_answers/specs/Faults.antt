-- The texts of faults, and their exit statuses.
use Rattle.std.specs.Prelude.{ℕ, List, [], ◌++◌, Option, IfSome, codes, decimal}
use Rattle.memory_image.specs.declared.faults.ImageFault.{ImageFault}
use Rattle.memory_image.specs.declared.faults.ImageFault.TheVariants as image
use Rattle.script_run.specs.declared.faults.ScriptFault.{ScriptFault}
use Rattle.command_answers.specs.declared.faults.ToolFault.{ToolFault}
use Rattle.command_answers.specs.declared.faults.ToolFault.TheVariants as tool
use Rattle.command_answers.specs.declared.given_words.WordsFault.{WordsFault}
use Rattle.command_answers.specs.declared.given_words.WordsFault.TheVariants as words
use Rattle.script_run.specs.declared.faults.ScriptFault.TheVariants as script
use Rattle.wide_image.specs.Streams.{NamesReason, NoneEncode}
use Rattle.wide_image.specs.declared.faults.WideImageFault.{WideImageFault}
use Rattle.wide_image.specs.declared.faults.WideImageFault.TheVariants as wide
use Rattle.wide_image.specs.declared.streams.WideReadFault.{WideReadFault}
use Rattle.wide_image.specs.declared.streams.WideReadFault.TheVariants.{ReadFailed, NotRead}

-- what a fault says, without a program's name
abbrev pub tool_message : ToolFault → List ℕ
tool_message tool.BadSize = codes "frames must be 16 to 4096"
tool_message tool.BadWideSize = codes "frames must be 16 to 1048576"
tool_message tool.NoMemory = codes "out of memory"
tool_message (tool.Malformed line) = codes "line " ++ (decimal line ++ codes " is malformed")
tool_message tool.TooLong = codes "script is too long"
tool_message tool.ReadFailed = codes "read failed"
tool_message tool.WriteFailed = codes "write failed"
tool_message tool.NotImage = codes "not an image"
tool_message tool.BadVersion = codes "unknown image version"
tool_message tool.BadLength = codes "wrong image length"
tool_message (tool.BadField offset) = codes "bad field at byte " ++ decimal offset
tool_message tool.RaceTurns = codes "race ran out of turns"
tool_message tool.RaceFailed = codes "race failed"

-- the text of a fault of `tower`
abbrev pub tool_text : ToolFault → List ℕ
tool_text fault = codes "tower: " ++ tool_message fault

-- what refuses an image
abbrev pub tool_of_image : ImageFault → ToolFault
tool_of_image image.NotImage = tool.NotImage
tool_of_image image.BadLength = tool.BadLength
tool_of_image image.BadVersion = tool.BadVersion
tool_of_image (image.BadField offset) = tool.BadField offset
tool_of_image image.NoMemory = tool.NoMemory

-- why a file gives no snapshot
abbrev pub tool_of_whole : WideReadFault → ToolFault
tool_of_whole ReadFailed = tool.ReadFailed
tool_of_whole (NotRead wide.NotImage) = tool.NotImage
tool_of_whole (NotRead wide.BadLength) = tool.BadLength
tool_of_whole (NotRead wide.BadVersion) = tool.BadVersion
tool_of_whole (NotRead (wide.BadField offset)) = tool.BadField offset
tool_of_whole (NotRead wide.NoMemory) = tool.NoMemory

-- a file's bytes encode no snapshot, and the fault names the first reason against them, in the order in which they are
-- read
abbrev pub IsReason : Option (List ℕ) → WideImageFault → Type 0
IsReason file fault = NoneEncode [] file × IfSome file (λ bytes. NamesReason bytes fault)

-- why a file gives no snapshot: a read failed, memory ran out, or that is the first reason against its bytes
abbrev pub IsFileFault : Option (List ℕ) → ToolFault → Type 0
IsFileFault file tool.NotImage = IsReason file wide.NotImage
IsFileFault file tool.BadVersion = IsReason file wide.BadVersion
IsFileFault file tool.BadLength = IsReason file wide.BadLength
IsFileFault file (tool.BadField offset) = IsReason file (wide.BadField offset)
IsFileFault file tool.NoMemory = Unit {0}
IsFileFault file tool.ReadFailed = Unit {0}
IsFileFault file tool.WriteFailed = ⊥
IsFileFault file tool.BadSize = ⊥
IsFileFault file tool.BadWideSize = ⊥
IsFileFault file (tool.Malformed line) = ⊥
IsFileFault file tool.TooLong = ⊥
IsFileFault file tool.RaceTurns = ⊥
IsFileFault file tool.RaceFailed = ⊥

-- what ends a script's run early
abbrev pub tool_of_script : ScriptFault → ToolFault
tool_of_script script.BadSize = tool.BadSize
tool_of_script script.NoMemory = tool.NoMemory
tool_of_script (script.Malformed line) = tool.Malformed line
tool_of_script script.TooLong = tool.TooLong
tool_of_script script.ReadFailed = tool.ReadFailed
tool_of_script script.WriteFailed = tool.WriteFailed

-- 2 for a refused size, script or image, and 1 for all else
abbrev pub status_of_tool : ToolFault → ℕ
status_of_tool tool.BadSize = 2
status_of_tool tool.BadWideSize = 2
status_of_tool tool.NoMemory = 1
status_of_tool (tool.Malformed line) = 2
status_of_tool tool.TooLong = 2
status_of_tool tool.ReadFailed = 1
status_of_tool tool.WriteFailed = 1
status_of_tool tool.NotImage = 2
status_of_tool tool.BadVersion = 2
status_of_tool tool.BadLength = 2
status_of_tool (tool.BadField offset) = 2
status_of_tool tool.RaceTurns = 1
status_of_tool tool.RaceFailed = 1

-- ---- Words of the command line

-- the message of refused arguments
abbrev pub words_text : WordsFault → List ℕ
words_text words.NoMemory = codes "out of memory"
words_text words.NotText = codes "a word of the command line is not text"
