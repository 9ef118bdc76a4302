-- A processor's page fault as an event, in numbers.
use Rattle.std.specs.Prelude.{◌≡◌, ℕ, Bool, true, Option, Some, None}
use Rattle.address_space.specs.ByWalk.{finds_at}
use Rattle.address_space.specs.Spaces.{byte_at}
use Rattle.address_space.specs.Stays.{FramesStay, Gone, none_goes}
use Rattle.process_table.specs.Image.{memory_of}
use Rattle.process_table.specs.State.{State}
use Rattle.process_table.specs.View.{View}
use Rattle.kernel_calls.specs.Gone.{gone_by}
use Rattle.kernel_calls.specs.Translations.{Ends}
use Rattle.kernel_calls.specs.declared.calls.Event.{Event}
use Rattle.kernel_acts.specs.Touched.{touch_of}
use Rattle.tower_c.specs.Border.{access_of, reply_in, state_after, is_carried_out, ended_in, ends_in, ended_numbers}
use Rattle.tower_c.specs.declared.numbers.TowerReply.{TowerReply}
use Rattle.tower_c.specs.declared.numbers.TowerEnded.{TowerEnded}

-- the event of a fault of the process with that number, where there is one
abbrev pub touch_in : State → Option ℕ → ℕ → Bool → Option Event
touch_in s (Some p) address write = Some (touch_of s p address (access_of write))
touch_in s None address write = None

-- the ways that it takes
abbrev pub touch_takes : State → Option ℕ → ℕ → Bool → Gone
touch_takes s (Some p) address write = gone_by s (touch_of s p address (access_of write))
touch_takes s None address write = none_goes

-- what that event will end, in numbers: None without a core or a process
abbrev pub touch_ends : Option View → Option ℕ → ℕ → Bool → Option TowerEnded
touch_ends (Some v) p address write = ended_in (Some v) (touch_in v.state p address write)
touch_ends None p address write = None

-- the walk lets the access of the process with that number through
abbrev pub LetsThrough : View → Option ℕ → ℕ → Bool → Type 0
LetsThrough w (Some p) address write = finds_at (memory_of w) p (access_of write) address ≡ true
LetsThrough w None address write = ⊥

-- a fault was handled as its event, which changed no byte; then the walk lets the access through
pub record IsTouchedIn (v : View) (p : Option ℕ) (address : ℕ) (write : Bool) (told : TowerReply) (ended : TowerEnded) (w : View) : Type 0 where
  pub reply : told ≡ reply_in v.state (touch_in v.state p address write)
  pub ended_is : ended ≡ ended_numbers (ends_in v (touch_in v.state p address write))
  pub state : w.state ≡ state_after v.state (touch_in v.state p address write)
  pub ends : Ends (ends_in v (touch_in v.state p address write)) v w
  pub stay : FramesStay (touch_takes v.state p address write) (memory_of v) (memory_of w)
  pub bytes : (q at : ℕ) → byte_at w.state.spaces q at ≡ byte_at v.state.spaces q at
  pub through : is_carried_out v.state (touch_in v.state p address write) ≡ true → LetsThrough w p address write
