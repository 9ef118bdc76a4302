-- What an event is answered is what stands where the walks of its pages lead.
use Rattle.kernel_calls.proofs.Prelude.{◌≡◌, ℕ, ◌+◌, ◌*◌, ◌<◌, ◌^◌, true, List, refl, ap, sym, ◌∙◌, subst, arith, Option, Some, None, unwrap_or, is_some, if◌then◌else◌, Ok, slice_index, IsUserPage, page_number, offset_number, byte_count, EachTouched, Size, is_some-map, byte-frame, Access, Read, Write, walk_of, directory_at, is_lazy_at, takes_stores, Cell, at_page, slot_at, byte_at, value_of, cell_or_fresh, fresh, WalkEndsBy, each_byte, walk_named, loaded, memory_of, as_account, is_live, is_mapped, View, touched_user, plan_of, plan_at, goes_on, takes_no_frame, Plan, plan_of_call, answer, answer_of, completes, planned_or, IsCore, finds_call, finds_event, reply_found, Call, Event, Reply, finds_at, finds, byte_place, number_found, found_at, same_each, finds_first, finds_second, walk_completes}
use Rattle.kernel_calls.proofs.CoreMemory.{walks_of, ways_of}
use Rattle.kernel_calls.proofs.Decided.{goes-event}
use Rattle.kernel_calls.proofs.Translated.{way_mapped, walk_takes}
use Rattle.page_words.specs.FiniteMap as map
use Rattle.process_table.specs.declared.causes.Cause.TheVariants as cause
use Rattle.fault_handler.specs.declared.plans.Plan.TheVariants as plan
use Rattle.kernel_calls.specs.declared.calls.Call.TheVariants as call
use Rattle.kernel_calls.specs.declared.calls.Reply.TheVariants as reply

-- what takes no frame goes on
pub goes_frameless : (x : Plan) → takes_no_frame x ≡ true → goes_on x ≡ true
goes_frameless x h = grind arith

-- and is answered with its reply
pub told_planned : (x : Plan) (r : Reply) → completes (planned_or x r) ≡ true → planned_or x r ≡ r
told_planned x r h = grind arith

module _ (v : View) (core : IsCore v) (p d : ℕ) (live : directory_at (memory_of v) p ≡ Some d) where
  -- a process that has a directory is live
  pub lives : is_live v.state p ≡ true
  lives = sym (is_some-map (as_account v.state p) (map.get v.state.book p)) ∙ core.image.sound.live p ∙ ap is_some live

  -- the frame that a walk of an address finds
  frame_found : (access : Access) (a : ℕ) → finds_at (memory_of v) p access a ≡ true
      → (a < 2 ^ 32) × ((f : ℕ) × (walk_of v.bytes d a access ≡ Ok f))
  frame_found access a h = grind (arith, found_at)

  -- its page is mapped
  pub page_mapped : (access : Access) (a : ℕ) → finds_at (memory_of v) p access a ≡ true
      → is_some (map.get v.state.spaces (slot_at p a)) ≡ true
  page_mapped access a h =
      let f = frame_found access a h in
      ap is_some (way_mapped v core (slot_at p a) d f.1.0
      ((ways_of core).lead p d a f.1.0 access live f.0 f.1.1)).1

  -- and takes stores, where it is found for one
  pub page_takes : (a : ℕ) → finds_at (memory_of v) p Write a ≡ true
      → takes_stores v.state.spaces (memory_of v) (slot_at p a) ≡ true
  page_takes a h =
      let f = frame_found Write a h in
      walk_takes v core p d a f.1.0 live f.0 f.1.1

  -- what holds of the page of each address whose walk finds a frame holds of each page of an access
  pub each_found : (access : Access) (address : ℕ) (size : Size) (P : ℕ → Type 0)
      → ((a : ℕ) → finds_at (memory_of v) p access a ≡ true → P (page_number a))
      → finds (memory_of v) p address size access ≡ true → EachTouched address size P
  each_found access address size P at h = grind (arith, finds_first, finds_second)

  module _ (address : ℕ) (size : Size) (access : Access) (h : finds (memory_of v) p address size access ≡ true) where
    pub all_mapped : EachTouched address size (λ page. is_mapped v.state (at_page p page) ≡ true)
    all_mapped = each_found access address size (λ page. is_mapped v.state (at_page p page) ≡ true) (page_mapped access) h

    pub all_user : EachTouched address size IsUserPage
    all_user = touched_user v.state p address size core.well_formed all_mapped

    -- the access takes no frame, and so completes
    pub frameless : takes_no_frame (plan_at v p address size access) ≡ true
    frameless = walk_completes v p address size access all_user all_mapped
        (λ store. each_found Write address size (λ page. takes_stores v.state.spaces (memory_of v) (at_page p page) ≡ true)
        page_takes (subst (λ (k : Access). finds (memory_of v) p address size k ≡ true) store h))

    -- the byte of each of its addresses stands where the walk leads
    byte_there : (a : ℕ) → a < 2 ^ 32 → is_some (map.get v.state.spaces (slot_at p a)) ≡ true
        → slice_index v.bytes (byte_place v.bytes d a) ≡ byte_at v.state.spaces p a
    byte_there a small there = by (map.get v.state.spaces (slot_at p a)) refl there (walks_of core p d a Read live small)
      where
        by : (x : Option Cell) → map.get v.state.spaces (slot_at p a) ≡ x → is_some x ≡ true
            → WalkEndsBy v.bytes d a Read (is_lazy_at (memory_of v) (slot_at p a)) x
            → slice_index v.bytes (byte_place v.bytes d a) ≡ byte_at v.state.spaces p a
        by None is k e = cc
        by (Some c) is k e =
            let cell : cell_or_fresh v.state.spaces (slot_at p a) ≡ c =
            ap (λ x. unwrap_or x (fresh (slot_at p a) true)) is in
            ap (λ n. slice_index v.bytes (4096 * n + offset_number a)) (sym (walk_named v.bytes d a e.frame Read e.found))
            ∙ sym (byte-frame v.bytes e.frame (offset_number a) (omega arith))
            ∙ ap (λ (b : List ℕ). slice_index b (offset_number a)) e.same
            ∙ sym (ap (λ (x : Cell). slice_index x.bytes (offset_number a)) cell)

    -- and so does the number of all
    number_there : number_found v.bytes d address size ≡ loaded v.state p address size
    number_there = ap value_of (same_each (λ a. slice_index v.bytes (byte_place v.bytes d a)) (byte_at v.state.spaces p)
        address (byte_count size) (λ i l.
        let u = each_byte address size IsUserPage all_user i l in
        let high = u.1 in
        byte_there (address + i) (omega (arith, high))
        (each_byte address size (λ page. is_mapped v.state (at_page p page) ≡ true) all_mapped i l)))

  -- a call that goes on completes
  done : (c : Call) → goes_on (plan_of_call v p c) ≡ true → completes (answer_of v.state p c) ≡ true
  done c g =
      sym (ap (λ b. completes (if b then answer_of v.state p c else reply.Refused cause.NoProcess)) lives)
      ∙ sym (goes-event v (record { cpu = 0; pid = p; call = c }))
      ∙ ap (λ b. goes_on (if b then plan_of_call v p c else plan.Refused cause.NoProcess)) lives ∙ g

  call_answered : (c : Call) → finds_call v p c ≡ true → answer_of v.state p c ≡ reply_found v.bytes d c
  call_answered (call.Load addr size) h =
      told_planned (plan_of v.state p addr size Read) (reply.Value (loaded v.state p addr size))
      (done (call.Load addr size) (goes_frameless (plan_at v p addr size Read) (frameless addr size Read h)))
      ∙ ap reply.Value (sym (number_there addr size Read h))
  call_answered (call.Store addr size value) h =
      told_planned (plan_of v.state p addr size Write) reply.Done
      (done (call.Store addr size value) (goes_frameless (plan_at v p addr size Write) (frameless addr size Write h)))
  call_answered _ h = cc

-- an access whose walks find a frame for each page is answered by what stands there
pub answered : (v : View) (e : Event) (d : ℕ) → IsCore v → finds_event v e ≡ true
    → directory_at (memory_of v) e.pid ≡ Some d → answer v.state e ≡ reply_found v.bytes d e.call
answered v e d core h live = grind (arith, lives, call_answered)
