-- A fault of a core with shadow tables, in numbers.
use Rattle.std.proofs.Common.{◌≡◌, ℕ, ◌+◌, Bool, true, false, Option, Some, refl, ap, sym, subst, ◌∙◌}
use Rattle.std.specs.Prelude.{◌↔◌}
use Rattle.page_words.specs.Addresses.{page_number}
use Rattle.table_walk.specs.declared.Access.{Access}
use Rattle.address_space.specs.Spaces.{byte_at}
use Rattle.address_space.specs.Stays.{FramesStay}
use Rattle.process_table.specs.Image.{memory_of}
use Rattle.process_table.specs.View.{View}
use Rattle.kernel_calls.specs.Gone.{gone_by}
use Rattle.kernel_calls.specs.Machine.{answer, next}
use Rattle.kernel_calls.specs.Translations.{Ends, ended_by}
use Rattle.kernel_calls.specs.declared.translations.Ended.{Ended}
use Rattle.kernel_calls.specs.declared.translations.Ended.TheVariants as end
use Rattle.kernel_acts.specs.Touched.{touch_of}
use Rattle.shadow_tables.specs.Needs.{frames_needed, TablesStay}
use Rattle.shadow_tables.specs.Shadow.{Shadow, IsFixed}
use Rattle.shadow_core.specs.Paired.{lacks_frames, HasFilled, IsStopped, RootsStay, handled_of, left_by}
use Rattle.shadow_core.specs.declared.pairs.Handled.{Handled}
use Rattle.shadow_core.specs.declared.pairs.Handled.TheVariants.{Filled, Full, Fault, Refused}
use Rattle.tower_c.specs.Border.{access_of, ended_numbers}
use Rattle.tower_c.specs.Shadows.{status_of, told_of, Handles, HandlesIn}
use Rattle.tower_c.specs.declared.numbers.TowerReply.{TowerReply}
use Rattle.tower_c.specs.declared.numbers.TowerEnded.{TowerEnded}

full_number : (h : Handled) → status_of h ≡ 1 → h ≡ Full
full_number Filled e = cc
full_number Full e = refl
full_number (Fault addr code) e = cc
full_number (Refused cause) e = cc

filled_number : (h : Handled) → status_of h ≡ 0 → h ≡ Filled
filled_number Filled e = refl
filled_number Full e = cc
filled_number (Fault addr code) e = cc
filled_number (Refused cause) e = cc

stopped_number : (h : Handled) → status_of h ≡ 2 → IsStopped h
stopped_number Filled e = cc
stopped_number Full e = cc
stopped_number (Fault addr code) e = tt
stopped_number (Refused cause) e = tt

pub handles : (v : View) (s : Shadow) (p address : ℕ) (write : Bool) (h : Handled) (ended : Ended) (w : View) (u : Shadow)
    → (h ≡ Full) ↔ (lacks_frames s p address ≡ true) → (lacks_frames s p address ≡ true → (ended ≡ end.Nothing) × (w ≡ v) × (u ≡ s))
    → (lacks_frames s p address ≡ false → h ≡ handled_of (answer v.state (touch_of v.state p address (access_of write))))
    → (lacks_frames s p address ≡ false → ended ≡ ended_by v (touch_of v.state p address (access_of write)))
    → (lacks_frames s p address ≡ false → w.state ≡ next v.state (touch_of v.state p address (access_of write)))
    → Ends ended v w
    → (lacks_frames s p address ≡ false → FramesStay (gone_by v.state (touch_of v.state p address (access_of write))) (memory_of v) (memory_of w))
    → ((q at : ℕ) → byte_at w.state.spaces q at ≡ byte_at v.state.spaces q at) → (IsStopped h → (w ≡ v) × (u ≡ s))
    → (h ≡ Filled → HasFilled w (left_by ended s.translations) u p address (access_of write)) → (h ≡ Filled → s.free ≡ u.free + frames_needed s p (page_number address)) → RootsStay s p u → ((q : ℕ) → TablesStay s q u) → IsFixed s u
    → Handles v s p address write (status_of h) (told_of h) (ended_numbers ended) w u
handles v s p address write h ended w u full unchanged handled ended_is state ends stay bytes stopped filled spent roots tables fixed = record {
  full = (λ e. full.0 (full_number h e), λ few. ap status_of (full.1 few));
  unchanged = λ few. let all = unchanged few in (all.1, all.2, ap ended_numbers all.0);
  status_is = λ room. ap status_of (handled room);
  reply = λ room. ap told_of (handled room);
  ended_is = λ room. ap ended_numbers (ended_is room);
  state = state;
  ends = λ room. subst (λ (x : Ended). Ends x v w) (ended_is room) ends;
  stay = stay;
  bytes = bytes;
  stopped = λ e. stopped (stopped_number h e);
  filled = λ e.
      let is = filled_number h e in
      subst (λ (x : Ended). HasFilled w (left_by x s.translations) u p address (access_of write)) (ended_is (room is)) (filled is);
  spent = λ e. spent (filled_number h e);
  roots = roots;
  tables = tables;
  fixed = fixed;
}
  where
    room : h ≡ Filled → lacks_frames s p address ≡ false
    room is = by (lacks_frames s p address) refl
      where
        apart : (h : Handled) → h ≡ Filled → h ≡ Full → ⊥
        apart Filled a b = cc
        apart Full a b = cc
        apart (Fault addr code) a b = cc
        apart (Refused cause) a b = cc

        by : (b : Bool) → lacks_frames s p address ≡ b → lacks_frames s p address ≡ false
        by true e = absurd (apart h is (full.1 e))
        by false e = e

pub handles_as : (v : View) (s : Shadow) (o : Option ℕ) (p address : ℕ) (write : Bool) (access : Access) (h : Handled) (ended : Ended) (status : ℕ) (a : TowerReply) (b : TowerEnded) (w : View) (u : Shadow)
    → Some p ≡ o → access ≡ access_of write → status ≡ status_of h → a ≡ told_of h → b ≡ ended_numbers ended
    → (h ≡ Full) ↔ (lacks_frames s p address ≡ true) → (lacks_frames s p address ≡ true → (ended ≡ end.Nothing) × (w ≡ v) × (u ≡ s))
    → (lacks_frames s p address ≡ false → h ≡ handled_of (answer v.state (touch_of v.state p address access)))
    → (lacks_frames s p address ≡ false → ended ≡ ended_by v (touch_of v.state p address access))
    → (lacks_frames s p address ≡ false → w.state ≡ next v.state (touch_of v.state p address access))
    → Ends ended v w → (lacks_frames s p address ≡ false → FramesStay (gone_by v.state (touch_of v.state p address access)) (memory_of v) (memory_of w))
    → ((q at : ℕ) → byte_at w.state.spaces q at ≡ byte_at v.state.spaces q at) → (IsStopped h → (w ≡ v) × (u ≡ s))
    → (h ≡ Filled → HasFilled w (left_by ended s.translations) u p address access) → (h ≡ Filled → s.free ≡ u.free + frames_needed s p (page_number address)) → RootsStay s p u → ((q : ℕ) → TablesStay s q u) → IsFixed s u
    → HandlesIn v s o address write status a b w u
handles_as v s o p address write access h ended status a b w u there same number numbers ends_numbers full unchanged handled ended_is state ends stay bytes stopped filled spent roots tables fixed =
    subst (λ (o : Option ℕ). HandlesIn v s o address write status a b w u) there
    (subst (λ (n : ℕ). Handles v s p address write n a b w u) (sym number)
    (subst (λ (r : TowerReply). Handles v s p address write (status_of h) r b w u) (sym numbers)
    (subst (λ (e : TowerEnded). Handles v s p address write (status_of h) (told_of h) e w u) (sym ends_numbers)
    (handles v s p address write h ended w u full unchanged
    (λ room. handled room ∙ ap (λ k. handled_of (answer v.state (touch_of v.state p address k))) same)
    (λ room. ended_is room ∙ ap (λ k. ended_by v (touch_of v.state p address k)) same)
    (λ room. state room ∙ ap (λ k. next v.state (touch_of v.state p address k)) same)
    ends (λ room. subst (λ (k : Access). FramesStay (gone_by v.state (touch_of v.state p address k)) (memory_of v) (memory_of w)) same (stay room))
    bytes stopped (λ is. subst (λ (k : Access). HasFilled w (left_by ended s.translations) u p address k) same (filled is)) spent roots tables fixed))))
