-- What the kernel does for its processes: runs of their own events.
use Rattle.std.proofs.Common.{◌≡◌, ℕ, ◌+◌, Bool, true, false, not, ◌||◌, ◌==◌, List, [], ◌∷◌, map, filter, Some}
use Rattle.std.specs.Prelude.{◌↔◌}
use Rattle.std.specs.List.{list_any, range_with_len}
use Rattle.std.specs.Option.{option_map}
use Rattle.kernel_acts.specs.Below.{Cell, Ended, Event, Member, Reply, Slot, State, answers, end_of, given, is_live, with_holders, without}
use Rattle.page_words.specs.FiniteMap as map
use Rattle.page_words.specs.FiniteSet as set
use Rattle.kernel_calls.specs.Integrity.{is_child_of}
use Rattle.kernel_calls.specs.declared.calls.Call.TheVariants as call
use Rattle.kernel_calls.specs.declared.calls.Reply.TheVariants as reply
use Rattle.kernel_calls.specs.declared.translations.Ended.TheVariants as end

-- as many replies Done as there are events
abbrev pub all_done : List Event → List Reply
all_done events = map (λ _. reply.Done) events

-- ---- Families: a process, its children, their children, and so on

-- the children of a process, in order
abbrev pub children_in : State → ℕ → List ℕ
children_in s p = filter (is_child_of s p) (range_with_len 0 64)

-- the Exit of a process
abbrev pub exit_of : ℕ → Event
exit_of p = record { cpu = 0; pid = p; call = call.Exit }

-- the Exits of these processes, in order
abbrev pub exits : List ℕ → List Event
exits pids = map exit_of pids

-- all translations of each of these processes
abbrev pub spaces_of_all : List ℕ → List Ended
spaces_of_all pids = map end.Space pids

-- whether a process is one of these
abbrev pub is_among : List ℕ → ℕ → Bool
is_among pids q = list_any (λ p. q == p) pids

-- a process is p, or a child of one that descends from p
pub data Descends (s : State) (p : ℕ) : ℕ → Type 0 where
  itself : Descends s p p
  child : {q r : ℕ} → Descends s p q → is_child_of s q r ≡ true → Descends s p r

-- nobody in the list is followed by a child of its own
abbrev pub ChildrenFirst : State → List ℕ → Type 0
ChildrenFirst s [] = Unit {0}
ChildrenFirst s (q ∷ pids) = ((r : ℕ) → is_child_of s q r ≡ true → is_among pids r ≡ false) × ChildrenFirst s pids

-- the state without these processes, their slots, the offers by them and the offers to them
abbrev pub without_processes : State → (ℕ → Bool) → State
without_processes s gone = record {
  spaces = without s.spaces (λ slot. gone slot.pid);
  book = map.retain_keys s.book (λ q. not (gone q));
  offers = map.retain_keys s.offers (λ key. not (gone key.offerer || gone key.target));
}

-- what a cell has besides its group: its flags and its bytes
abbrev pub ungrouped : Cell → Cell
ungrouped cell = with_holders cell set.empty

-- a process and all that descend from it exited in this order, each before its parent, which led from s to t
pub record EndsFamily (s : State) (p : ℕ) (order : List ℕ) (t : State) : Type 0 where
  pub family : (q : ℕ) → (is_among order q ≡ true) ↔ Descends s p q
  pub children_first : ChildrenFirst s order
  -- the run of their Exits, of which each is done
  pub done : answers s (exits order) ≡ all_done (exits order)
  pub after : end_of s (exits order) ≡ t
  -- it leaves the state without them
  pub left : t ≡ without_processes s (is_among order)
  pub gone : (q : ℕ) → Descends s p q → is_live t q ≡ false
  -- all others have their pages, with the same flags and bytes
  pub others : (slot : Slot) → is_among order slot.pid ≡ false
      → option_map ungrouped (map.get t.spaces slot) ≡ option_map ungrouped (map.get s.spaces slot)
  -- and the parent has its quota back
  pub returned : (member : Member) → map.get s.book p ≡ Some member
      → given s.book member.parent ≡ given t.book member.parent + member.quota
