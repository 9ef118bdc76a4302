-- A fault as its event, in numbers.
use Rattle.std.proofs.Common.{◌≡◌, ℕ, Bool, true, false, Option, Some, None, refl, ap, sym, subst, ◌∙◌}
use Rattle.table_walk.specs.declared.Access.{Access}
use Rattle.address_space.specs.ByWalk.{finds_at}
use Rattle.address_space.specs.Spaces.{byte_at}
use Rattle.address_space.specs.Stays.{FramesStay, none_goes}
use Rattle.process_table.specs.Image.{memory_of}
use Rattle.process_table.specs.View.{View}
use Rattle.kernel_calls.specs.Gone.{gone_by}
use Rattle.kernel_calls.proofs.Leaving.{nothing_ends}
use Rattle.kernel_calls.specs.Processors.{IsCore}
use Rattle.kernel_calls.specs.Machine.{answer, next, completes}
use Rattle.kernel_calls.specs.Translations.{ended_by, Ends}
use Rattle.kernel_calls.specs.declared.calls.Reply.{Reply}
use Rattle.kernel_calls.specs.declared.translations.Ended.{Ended}
use Rattle.kernel_calls.specs.declared.translations.Ended.TheVariants as end
use Rattle.kernel_acts.specs.Touched.{touch_of}
use Rattle.tower_c.specs.Border.{access_of, no_event, reply_numbers, ended_numbers, is_carried_out}
use Rattle.tower_c.specs.Touching.{touch_in, IsTouchedIn}
use Rattle.tower_c.specs.declared.numbers.TowerReply.{TowerReply}
use Rattle.tower_c.specs.declared.numbers.TowerEnded.{TowerEnded}

-- where nothing changes, each way stays
all_stay : (v : View) → FramesStay none_goes (memory_of v) (memory_of v)
all_stay v = record {
  directories = λ p d some live. live;
  tables = λ slot d f t stays way table. table;
  ways = λ slot d f stays way. way;
}

-- what changes nothing ends nothing
pub still_ends : (v : View) → IsCore v → Ends end.Nothing v v
still_ends v now = nothing_ends v v now now refl (all_stay v)

-- of a number of no process
pub touched_none : (v : View) (address : ℕ) (write : Bool) → IsCore v → IsTouchedIn v None address write no_event (ended_numbers end.Nothing) v
unfolding is_carried_out
touched_none v address write now = record {
  reply = refl;
  ended_is = refl;
  state = refl;
  ends = still_ends v now;
  stay = all_stay v;
  bytes = λ q at. refl;
  through = λ done. cc;
}

-- of a process
pub touched_some : (v w : View) (p address : ℕ) (write : Bool) (told : Reply) (ended : Ended) → told ≡ answer v.state (touch_of v.state p address (access_of write))
    → ended ≡ ended_by v (touch_of v.state p address (access_of write)) → w.state ≡ next v.state (touch_of v.state p address (access_of write)) → Ends ended v w
    → FramesStay (gone_by v.state (touch_of v.state p address (access_of write))) (memory_of v) (memory_of w)
    → ((q at : ℕ) → byte_at w.state.spaces q at ≡ byte_at v.state.spaces q at) → (completes told ≡ true → finds_at (memory_of w) p (access_of write) address ≡ true)
    → IsTouchedIn v (Some p) address write (reply_numbers told) (ended_numbers ended) w
unfolding is_carried_out
touched_some v w p address write told ended reply ended_is state ends stay bytes finds = record {
  reply = ap reply_numbers reply;
  ended_is = ap ended_numbers ended_is;
  state = state;
  ends = subst (λ (x : Ended). Ends x v w) ended_is ends;
  stay = stay;
  bytes = bytes;
  through = λ done. finds (ap completes reply ∙ done);
}

-- what isn't carried out
pub not_carried : (v : View) (p address : ℕ) (write : Bool) (told : Reply) → told ≡ answer v.state (touch_of v.state p address (access_of write))
    → is_carried_out v.state (touch_in v.state (Some p) address write) ≡ false → completes told ≡ false
unfolding is_carried_out
not_carried v p address write told reply stops = ap completes reply ∙ stops

-- so it is under other names
pub touched_none_as : (v : View) (o : Option ℕ) (address : ℕ) (write : Bool) (told : TowerReply) (ended : TowerEnded) → IsCore v → None ≡ o → told ≡ no_event → ended ≡ ended_numbers end.Nothing
    → IsTouchedIn v o address write told ended v
touched_none_as v o address write told ended now none reply nothing =
    subst (λ (o : Option ℕ). IsTouchedIn v o address write told ended v) none
    (subst (λ (r : TowerReply). IsTouchedIn v None address write r ended v) (sym reply)
    (subst (λ (e : TowerEnded). IsTouchedIn v None address write no_event e v) (sym nothing) (touched_none v address write now)))

pub touched_some_as : (v w : View) (o : Option ℕ) (p address : ℕ) (write : Bool) (access : Access) (told : Reply) (ended : Ended) (a : TowerReply) (b : TowerEnded)
    → Some p ≡ o → access ≡ access_of write → a ≡ reply_numbers told → b ≡ ended_numbers ended → told ≡ answer v.state (touch_of v.state p address access)
    → ended ≡ ended_by v (touch_of v.state p address access) → w.state ≡ next v.state (touch_of v.state p address access) → Ends ended v w
    → FramesStay (gone_by v.state (touch_of v.state p address access)) (memory_of v) (memory_of w)
    → ((q at : ℕ) → byte_at w.state.spaces q at ≡ byte_at v.state.spaces q at) → (completes told ≡ true → finds_at (memory_of w) p access address ≡ true)
    → IsTouchedIn v o address write a b w
touched_some_as v w o p address write access told ended a b there same numbers ends_numbers reply ended_is state ends stay bytes finds =
    subst (λ (o : Option ℕ). IsTouchedIn v o address write a b w) there
    (subst (λ (r : TowerReply). IsTouchedIn v (Some p) address write r b w) (sym numbers)
    (subst (λ (e : TowerEnded). IsTouchedIn v (Some p) address write (reply_numbers told) e w) (sym ends_numbers)
    (touched_some v w p address write told ended (reply ∙ ap (λ k. answer v.state (touch_of v.state p address k)) same) (ended_is ∙ ap (λ k. ended_by v (touch_of v.state p address k)) same)
    (state ∙ ap (λ k. next v.state (touch_of v.state p address k)) same) ends
    (subst (λ (k : Access). FramesStay (gone_by v.state (touch_of v.state p address k)) (memory_of v) (memory_of w)) same stay) bytes (λ done. ap (λ k. finds_at (memory_of w) p k address) (sym same) ∙ finds done))))

pub not_carried_as : (v : View) (o : Option ℕ) (p address : ℕ) (write : Bool) (access : Access) (told : Reply) → Some p ≡ o → access ≡ access_of write
    → told ≡ answer v.state (touch_of v.state p address access) → is_carried_out v.state (touch_in v.state o address write) ≡ false → completes told ≡ false
not_carried_as v o p address write access told there same reply stops =
    not_carried v p address write told (reply ∙ ap (λ k. answer v.state (touch_of v.state p address k)) same)
    (ap (λ (o : Option ℕ). is_carried_out v.state (touch_in v.state o address write)) there ∙ stops)
