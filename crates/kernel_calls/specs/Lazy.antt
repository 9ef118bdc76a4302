-- Which pages an event leaves lazy.
use Rattle.std.specs.Prelude.{◌≡◌, ℕ, Bool, true}
use Rattle.kernel_calls.specs.Below.{is_lazy_at, at_page, memory_of, View}
use Rattle.kernel_calls.specs.declared.calls.Event.{Event}
use Rattle.kernel_calls.specs.declared.calls.Reply.{Reply}
use Rattle.kernel_calls.specs.declared.calls.Call.TheVariants as call
use Rattle.kernel_calls.specs.declared.calls.Reply.TheVariants as reply

-- the page of a Map that completes is lazy, and a page of a Fork's child exactly if its parent's is
pub record LeavesLazy (v : View) (e : Event) (r : Reply) (w : View) : Type 0 where
  pub mapped : (page : ℕ) (write : Bool) → e.call ≡ call.Map page write → r ≡ reply.Done
      → is_lazy_at (memory_of w) (at_page e.pid page) ≡ true
  pub copied : (quota child page : ℕ) → e.call ≡ call.Fork quota → r ≡ reply.Child child
      → is_lazy_at (memory_of w) (at_page child page) ≡ is_lazy_at (memory_of v) (at_page e.pid page)
