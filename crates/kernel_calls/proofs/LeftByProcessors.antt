-- What processors leave of a core's memory is a core's.
use Rattle.kernel_calls.proofs.Prelude.{◌≡◌, ℕ, ◌+◌, true, false, List, length, refl, sym, ap, subst, ◌∙◌, Some, is_some, if◌then◌else◌, some_value, byte_count, touched, slot_number, Read, Write, directory_at, finds_live, at_page, slot_at, Spaces, all_accessed, all_stored, bytes_of, with_touched-same, each_byte, FramesStay, none_goes, stays_most, quota_of, State, container_of, View, memory_of, IsWellFormed, after_load, after_store, after, next, completes, takes_no_frame, plan_of_call, plan_of_event, finds_call, finds_event, reply_found, Call, Event, IsCore, Ends, Ended, ServesCall, IsStore, StoresMarked, Directory, arith, Bool, Option, None, option_and_then, page_number, second_page, takes_stores, answer, if_lazy, of_call, of_pages, ended_by, IfSome, bytes_kept, bytes_accessed, IsLeft, WalksLeaveCores, StoresLeaveCores, MarksLeaveCores, WalksTakeNoFrame, WalksKeepContainers, word_at, word_place, with_walked, walked_word, is_marked, IsSpaces, frames_stay, image_stands, load_walked, store_walked, store_kept, length-with_word, Touched, dir_word_walked, inside, spaces_touched, container-access}
use Rattle.kernel_calls.specs.Processors.{with_bytes}
use Rattle.kernel_calls.proofs.CoreMemory.{live_is, root_quota, spaces_is, spaces}
use Rattle.kernel_calls.proofs.Decided.{next-goes}
use Rattle.kernel_calls.proofs.KeptAccesses.{all_lead, kept_find, kept_stores}
use Rattle.kernel_calls.proofs.Leaving.{event_ends, nothing_ends}
use Rattle.kernel_calls.proofs.Runs.{kept-next}
use Rattle.kernel_calls.proofs.Translated.{has_right}
use Rattle.kernel_calls.proofs.WalkedReplies.{answered, all_mapped, each_found, frameless, lives, page_takes}
use Rattle.address_space.specs.Image as memory
use Rattle.process_table.proofs.ImageStanding as states
use Rattle.page_words.specs.FiniteMap as map
use Rattle.process_table.specs.declared.causes.Cause.TheVariants as cause
use Rattle.fault_handler.specs.declared.plans.Plan.TheVariants as plan
use Rattle.kernel_calls.specs.declared.calls.Call.TheVariants as call
use Rattle.kernel_calls.specs.declared.translations.Ended.TheVariants as end

-- ---- With other bytes

module _ (v : View) (core : IsCore v) where
  module _ (s : State) (bytes : List ℕ) (touched : Touched v.directories s.spaces v.bytes v.roles bytes) (book : s.book ≡ v.state.book) (well : IsWellFormed s) where
    abbrev w : View
    w = with_bytes v s bytes

    later : IsSpaces v.directories bytes v.roles
    later = spaces_touched v.directories v.bytes bytes v.roles s.spaces (spaces v core) touched

    is_left : IsCore w
    is_left = record {
      image = states.image_stands w
          (subst (memory.StandsFor (memory_of w)) touched.spaces (image_stands v.directories bytes v.roles later))
          (λ p. live_is v core p ∙ ap (λ b. map.contains_key b p) (sym book))
          (ap (λ b. 1 + quota_of b 0) book ∙ root_quota v core) well.root well.processes well.rooms;
      well_formed = well;
      sized = record { few = core.sized.few; pids = core.sized.pids };
    }

    all_stay : FramesStay none_goes (memory_of v) (memory_of w)
    all_stay = frames_stay none_goes v.directories v.bytes bytes v.roles v.roles (spaces v core).sound later.sound touched.stay

    -- by no event
    none_left : s ≡ v.state → IsLeft v w
    none_left is = record { ends = nothing_ends v w core is_left is all_stay; core = is_left }

    -- by an event that ends none
    event_left : (e : Event) → s ≡ next v.state e → ended_by v e ≡ end.Nothing → IsLeft v w
    event_left e is none = record {
      ends = subst (λ (x : Ended). Ends x v w) none (event_ends v w e core is_left is (stays_most all_stay));
      core = is_left;
    }

  -- ---- After an access

  module _ (p d : ℕ) (live : directory_at (memory_of v) p ≡ Some d) where
    -- by its walk
    walked_call : (c : Call) → finds_call v p c ≡ true → Touched v.directories (after v.state p c).spaces v.bytes v.roles (bytes_accessed v.bytes d c)
    walked_call (call.Load addr size) h =
        subst (λ (S : Spaces). Touched v.directories (all_accessed S p (touched addr size)) v.bytes v.roles (bytes_accessed v.bytes d (call.Load addr size)))
        (spaces_is v core ∙ sym (with_touched-same v.state.spaces p addr size (all_mapped v core p d live addr size Read h)))
        (load_walked v.directories v.roles p d live v.bytes addr size (spaces v core).sound h)
    walked_call (call.Store addr size value) h =
        subst (λ (S : Spaces). Touched v.directories (all_stored S p addr (bytes_of (byte_count size) value)) v.bytes v.roles (bytes_accessed v.bytes d (call.Store addr size value)))
        (spaces_is v core ∙ sym (with_touched-same v.state.spaces p addr size (all_mapped v core p d live addr size Write h)))
        (store_walked v.directories v.roles p d live v.bytes addr size value (spaces v core).sound h)
    walked_call _ h = cc

    -- by translations that were kept
    kept_call : (frames : ℕ → ℕ) (c : Call) → IsStore c → finds_call v p c ≡ true → ServesCall v p frames c → StoresMarked v.state p c
        → Touched v.directories (after v.state p c).spaces v.bytes v.roles (bytes_kept frames v.bytes c)
    kept_call frames (call.Store addr size value) store h served marks =
        subst (λ (S : Spaces). Touched v.directories (all_stored S p addr (bytes_of (byte_count size) value)) v.bytes v.roles (bytes_kept frames v.bytes (call.Store addr size value)))
        (spaces_is v core ∙ sym (with_touched-same v.state.spaces p addr size (all_mapped v core p d live addr size Write h)))
        (store_kept v.directories v.roles p d live frames v.bytes addr size value (spaces v core).sound h (all_lead v p frames addr d size Write served live)
        (λ i l. ap (λ (S : Spaces). is_marked S (slot_at p (addr + i))) (spaces_is v core)
        ∙ each_byte addr size (λ page. is_marked v.state.spaces (at_page p page) ≡ true) marks i l))
    kept_call frames _ store h served marks = absurd store

-- ---- Accesses whose walks find a frame for each page

module _ (v : View) (core : IsCore v) (p d : ℕ) (live : directory_at (memory_of v) p ≡ Some d) where
  frameless_call : (c : Call) → finds_call v p c ≡ true → takes_no_frame (plan_of_call v p c) ≡ true
  frameless_call (call.Load addr size) h = frameless v core p d live addr size Read h
  frameless_call (call.Store addr size value) h = frameless v core p d live addr size Write h
  frameless_call _ h = cc

  -- a page that such a store finds isn't lazy
  page_real : (page : ℕ) → takes_stores v.state.spaces (memory_of v) (at_page p page) ≡ true → if_lazy (memory_of v) p page ≡ None
  page_real page takes = ap (λ b. if b then Some page else None) (has_right v core (at_page p page) takes).1

  ends_none_call : (c : Call) → finds_call v p c ≡ true → of_call v p c ≡ end.Nothing
  ends_none_call (call.Load addr size) h = refl
  ends_none_call (call.Store addr size value) h =
      let takes = each_found v core p d live Write addr size (λ page. takes_stores v.state.spaces (memory_of v) (at_page p page) ≡ true) (page_takes v core p d live) h in
      (λ i. of_pages p (page_real (page_number addr) takes.0 i) (second (second_page addr size) takes.1 i))
    where
      second : (x : Option ℕ) → IfSome x (λ page. takes_stores v.state.spaces (memory_of v) (at_page p page) ≡ true)
          → option_and_then (if_lazy (memory_of v) p) x ≡ None
      second None h = refl
      second (Some page) h = page_real page h
  ends_none_call _ h = cc

  told : (c : Call) → finds_call v p c ≡ true → completes (reply_found v.bytes d c) ≡ true
  told (call.Load addr size) h = refl
  told (call.Store addr size value) h = refl
  told _ h = cc

  same_book : (c : Call) → finds_call v p c ≡ true → (after v.state p c).book ≡ v.state.book
  same_book (call.Load addr size) h = refl
  same_book (call.Store addr size value) h = refl
  same_book _ h = cc

  same_containers : (c : Call) → finds_call v p c ≡ true → (q : ℕ) → container_of (after v.state p c) q ≡ container_of v.state q
  same_containers (call.Load addr size) h q = container-access v.state (after_load v.state p addr size) p addr size Read 0 (all_mapped v core p d live addr size Read h) refl q
  same_containers (call.Store addr size value) h q = container-access v.state (after_store v.state p addr size value) p addr size Write value (all_mapped v core p d live addr size Write h) refl q
  same_containers _ h q = cc

module _ (v : View) (core : IsCore v) (e : Event) (found : finds_event v e ≡ true) where
  -- the process has a directory
  home_of : (c : Call) → finds_call v e.pid c ≡ true → is_some (directory_at (memory_of v) e.pid) ≡ true
  home_of c h = grind (arith, finds_live)

  home : (d : ℕ) × (directory_at (memory_of v) e.pid ≡ Some d)
  home = some_value (directory_at (memory_of v) e.pid) (home_of e.call found)

  frame_taken : takes_no_frame (plan_of_event v e) ≡ true
  frame_taken =
      ap (λ b. takes_no_frame (if b then plan_of_call v e.pid e.call else plan.Refused cause.NoProcess)) (lives v core e.pid home.0 home.1)
      ∙ frameless_call v core e.pid home.0 home.1 e.call found

  ends_none : ended_by v e ≡ end.Nothing
  ends_none = by (completes (answer v.state e))
    where
      by : (b : Bool) → (if b then of_call v e.pid e.call else end.Nothing) ≡ end.Nothing
      by true = ends_none_call v core e.pid home.0 home.1 e.call found
      by false = refl

  pub next_is : next v.state e ≡ after v.state e.pid e.call
  next_is = next-goes v.state e (ap completes (answered v e home.0 core found home.1) ∙ told v core e.pid home.0 home.1 e.call found)

  book_stays : (next v.state e).book ≡ v.state.book
  book_stays = ap (λ (s : State). s.book) next_is ∙ same_book v core e.pid home.0 home.1 e.call found

  left : (bytes : List ℕ) → Touched v.directories (after v.state e.pid e.call).spaces v.bytes v.roles bytes
      → IsLeft v (with_bytes v (next v.state e) bytes)
  left bytes touched =
      event_left v core (next v.state e) bytes
      (subst (λ (s : State). Touched v.directories s.spaces v.bytes v.roles bytes) (sym next_is) touched)
      book_stays (kept-next v.state e core.well_formed).0 e refl ends_none

-- ---- The laws

pub walks_take_no_frame : WalksTakeNoFrame
walks_take_no_frame v e core found = frame_taken v core e found

pub walks_keep_containers : WalksKeepContainers
walks_keep_containers v e core found q =
    let d = home v core e found in
    ap (λ (s : State). container_of s q) (next_is v core e found) ∙ same_containers v core e.pid d.0 d.1 e.call found q

pub walks_leave_cores : WalksLeaveCores
walks_leave_cores v w e r core k = (
  k.found ∙ sym (answered v e k.directory core k.finds k.live),
  subst (IsLeft v) (sym k.left)
      (left v core e k.finds (bytes_accessed v.bytes k.directory e.call) (walked_call v core e.pid k.directory k.live e.call k.finds)),
)

pub stores_leave_cores : StoresLeaveCores
stores_leave_cores v e frames core served store =
    let found = kept_find v frames e served in
    let d = home v core e found in
    left v core e found (bytes_kept frames v.bytes e.call)
    (kept_call v core e.pid d.0 d.1 frames e.call store found served (kept_stores v frames e served store))

pub marks_leave_cores : MarksLeaveCores
marks_leave_cores v w core k =
    let user = k.user in
    let high = user.1 in
    let sound = (spaces v core).sound in
    let bytes : List ℕ = with_walked v.bytes k.directory k.page k.walked in
    let long : length bytes ≡ length v.bytes =
    length-with_word v.bytes (word_place k.directory (slot_number k.page)) (walked_word k.walked (word_at v.bytes (word_place k.directory (slot_number k.page))))
    (let fits = (inside v.directories v.bytes v.roles k.directory (Directory k.pid) sound (sound.tables.directory k.pid k.directory k.live)).fits in omega (arith, fits, high)) in
    let touched = dir_word_walked v.directories v.bytes bytes v.roles k.pid k.directory k.page k.walked sound k.live high refl long in
    subst (IsLeft v) (sym k.left)
    (none_left v core v.state bytes (subst (λ (S : Spaces). Touched v.directories S v.bytes v.roles bytes) (spaces_is v core) touched) refl core.well_formed refl)
