-- What the function of each call shows (`reply_map` and the others).
use Rattle.std.specs.Prelude.{◌≡◌, false}
use Rattle.kernel_calls.specs.Below.{FramesStay, memory_of, View}
use Rattle.kernel_calls.specs.Gone.{gone_by}
use Rattle.kernel_calls.specs.Machine.{answer, next, completes}
use Rattle.kernel_calls.specs.declared.calls.Event.{Event}
use Rattle.kernel_calls.specs.declared.calls.Reply.{Reply}

-- an event is carried out, and has this reply
pub record IsReplied (v : View) (e : Event) (r : Reply) (w : View) : Type 0 where
  pub reply : r ≡ answer v.state e
  pub state : w.state ≡ next v.state e
  pub stay : FramesStay (gone_by v.state e) (memory_of v) (memory_of w)
  pub kept : completes r ≡ false → w ≡ v
