-- The processes below a process, in numbers.
use Rattle.std.proofs.Common.{◌==◌, ℕ, not, Option, Some, None, List, take, if◌then◌else◌}
use Rattle.process_table.specs.State.{State, is_live}
use Rattle.process_table.specs.View.{View}
use Rattle.process_table.specs.declared.causes.Cause.TheVariants.{RootExit, NoProcess}
use Rattle.kernel_acts.specs.Acts.{children_in, EndsFamily}
use Rattle.tower_c.specs.Border.{numbers, no_event, refused_numbers}
use Rattle.tower_c.specs.declared.families.TowerProcesses.{TowerProcesses}
use Rattle.tower_c.specs.declared.numbers.TowerReply.{TowerReply}

-- the processes that are listed
abbrev pub pids_in : TowerProcesses → List ℕ
pids_in list = take list.count list.pids

-- the children of a process, where the number is one
abbrev pub children_of : View → Option ℕ → Option (List ℕ)
children_of core (Some p) = Some (children_in core.state p)
children_of core None = None

-- and where there is a core
abbrev pub children_at : Option View → Option ℕ → Option (List ℕ)
children_at (Some core) pid = children_of core pid
children_at None pid = None

-- the reply to the end of a process with its family
abbrev pub end_told : State → Option ℕ → TowerReply
end_told s (Some p) = if p == 0 then refused_numbers RootExit else if not (is_live s p) then refused_numbers NoProcess else numbers 0 0 0 0
end_told s None = no_event

-- the process of that number ended with its family, in this order, which led from s to t
abbrev pub EndsFamilyIn : State → Option ℕ → List ℕ → State → Type 0
EndsFamilyIn s (Some p) order t = EndsFamily s p order t
EndsFamilyIn s None order t = ⊥
