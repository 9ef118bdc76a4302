-- What an event, a fault and a walk are to a core and its shadow.
use Rattle.std.proofs.Common.{◌≡◌, ◌≢◌, ℕ, zero, suc, ◌+◌, ◌*◌, ◌%◌, ◌^◌, ◌<◌, ◌≤◌, inl, inr, Bool, true, false, not, cond, List, [], ◌∷◌, length, Option, Some, None, Result, Ok, Err, refl, sym, ap, subst, ◌∙◌, arith}
use Rattle.std.specs.Prelude.{slice_get, ◌⊎◌, ◌==◌, if◌then◌else◌, ◌&&◌, IsSome, IfSome, sum, slice_set}
use Rattle.std.specs.Option.{option_map}
use Rattle.std.proofs.lemmas.Bool.{cases_eq}
use Rattle.std.proofs.lemmas.List.Sums.{sum_by-cons}
use Rattle.std.proofs.lemmas.Bool.Decides.{nat_tests}
use Rattle.std.specs.Option.{option_and_then}
use Rattle.page_words.specs.Addresses.{page_number, slot_number, index_number, offset_number, IsUserPage}
use Rattle.page_words.specs.FiniteMap as map
use Rattle.page_words.specs.FiniteMap.{same}
use Rattle.page_words.proofs.MapLemmas.{same_itself, get-insert, get-retain_keys}
use Rattle.page_words.proofs.SetLemmas.{same_cases, get-remove}
use Rattle.page_words.specs.Words.{is_present, is_user, is_writable, frame_number}
use Rattle.phys_memory.specs.Bytes.{word_at, word_place}
use Rattle.table_walk.specs.declared.Access.{Access}
use Rattle.table_walk.specs.declared.Access.TheVariants.{Read, Write}
use Rattle.table_walk.specs.Walk.{walk_of, dir_word, table_word, is_write, Leads}
use Rattle.table_walk.proofs.Leads.{walks_find_what_leads}
use Rattle.address_space.specs.Spaces as spaces
use Rattle.address_space.specs.Image.{Image, directory_at, is_lazy_at}
use Rattle.address_space.specs.ByWalk.{finds, finds_at}
use Rattle.address_space.specs.Walks.{WalkEndsBy, WalksAgree as CoreWalksAgree}
use Rattle.process_table.specs.State.{State}
use Rattle.kernel_calls.specs.Cleaned.{is_dirty_at}
use Rattle.kernel_calls.specs.Machine.{answer, completes}
use Rattle.kernel_acts.specs.Touched.{near, touch_of, AreMarked}
use Rattle.kernel_acts.specs.Transfers.{load_byte}
use Rattle.kernel_calls.specs.Kept.{Serves, ServesCall}
use Rattle.kernel_calls.specs.declared.calls.Call.{Call}
use Rattle.kernel_calls.specs.declared.calls.Call.TheVariants as call
use Rattle.kernel_calls.specs.declared.calls.Reply.{Reply}
use Rattle.kernel_calls.specs.declared.calls.Reply.TheVariants as reply
use Rattle.table_walk.specs.declared.WalkEnd.{WalkEnd}
use Rattle.page_words.specs.Addresses.{second_page, start_number, EachTouched}
use Rattle.page_words.specs.declared.addresses.Size.{Size}
use Rattle.page_words.specs.declared.addresses.Size.TheVariants.{One}
use Rattle.std.specs.Option.{unwrap_or}
use Rattle.std.specs.Result.{is_ok}
use Rattle.std.specs.Prelude.{nat_lt}
use Rattle.process_table.specs.Image.{memory_of}
use Rattle.process_table.specs.View.{View}
use Rattle.kernel_calls.specs.Translations as kept
use Rattle.kernel_calls.specs.Translations.{translation, IsGiven, WalkGives, Ends, ended_by, if_lazy, is_all_of, of_call, of_pages, is_ended, AreRead}
use Rattle.kernel_calls.specs.declared.translations.Ended.{Ended}
use Rattle.kernel_calls.specs.declared.translations.Ended.TheVariants as end
use Rattle.kernel_calls.proofs.Leaving.{left_read, nothing_ends}
use Rattle.kernel_calls.specs.Processors.{IsCore, LetsThrough, LetCall}
use Rattle.shadow_tables.specs.Laws.{WalksAgree, UpperHalvesAreClosed}
use Rattle.shadow_tables.specs.Needs.{frames_needed, IsWay, TablesStay}
use Rattle.shadow_tables.specs.declared.tables.Way.{Way}
use Rattle.shadow_tables.specs.Shadow.{Shadow, Translations, at_page, slot_order, root_frame, root_of, frame_address, shadow_end}
use Rattle.shadow_tables.specs.declared.tables.Translation.{Translation}
use Rattle.shadow_tables.specs.declared.walk.LongEnd.{LongEnd}
use Rattle.shadow_core.specs.Paired.{kept_at, IsShadowed, left_by, HasEntered, HasFilled, RootsStay, AreApart, PoolIsOutOfReach, WalksAreTheCores, Reaches, ReachesCall, AccessesAreKept, stop_of, AccessesAreServed, IsServed}

none_some : {X : Type 0} (x : X) → ◌≡◌ {A = Option X} None (Some x) → ⊥
none_some x e = cc

-- ---- What is left

-- the tests of slots in both orders agree
slots_agree : (p page q at : ℕ) → same slot_order (at_page p page) (at_page q at) ≡ false → same spaces.slot_order (spaces.at_page q at) (spaces.at_page p page) ≡ false
slots_agree p page q at not = elim (same_cases spaces.slot_order (spaces.at_page q at) (spaces.at_page p page)) [
  | inl is ↦
      let pid : p ≡ q = sym (ap (λ s. s.pid) is.0) in
      let number : page ≡ at = sym (ap (λ s. s.page) is.0) in
      let slots : at_page p page ≡ at_page q at = λ i. record { pid = pid i; page = number i } in
      let yes : same slot_order (at_page p page) (at_page q at) ≡ true = ap (same slot_order (at_page p page)) (sym slots) ∙ same_itself slot_order (at_page p page) in
      absurd (let e : true ≡ false = sym yes ∙ not in cc)
  | inr apart ↦ apart.1
]

-- what is there after a removal was there before, at another slot
removed : (m : Translations) (p page q at : ℕ) (t : Translation) → map.get (map.remove m (at_page q at)) (at_page p page) ≡ Some t
    → (map.get m (at_page p page) ≡ Some t) × (same spaces.slot_order (spaces.at_page q at) (spaces.at_page p page) ≡ false)
removed m p page q at t is = elim (same_cases slot_order (at_page p page) (at_page q at)) [
  | inl h ↦ absurd (none_some t (sym (get-remove m (at_page q at) (at_page p page) ∙ ap (λ b. cond b None (map.get m (at_page p page))) h.1) ∙ is))
  | inr h ↦ (
    sym (get-remove m (at_page q at) (at_page p page) ∙ ap (λ b. cond b None (map.get m (at_page p page))) h.1) ∙ is,
    slots_agree p page q at h.1,
  )
]

-- what is left was there, and isn't ended
pub left_get : (ended : Ended) (m : Translations) (p page : ℕ) (t : Translation) → map.get (left_by ended m) (at_page p page) ≡ Some t
    → (map.get m (at_page p page) ≡ Some t) × (is_ended ended (spaces.at_page p page) ≡ false)
left_get end.Nothing m p page t is = (is, refl)
left_get (end.Page q at) m p page t is = removed m p page q at t is
left_get (end.Pages q first second) m p page t is =
    let two = removed (map.remove m (at_page q first)) p page q second t is in
    let one = removed m p page q first t two.0 in
    let a = one.1 in
    let b = two.1 in
    (one.0, rw (a, b) refl)
left_get (end.Space q) m p page t is = elim (cases_eq p q) [
  | inl e ↦ absurd (none_some t (sym (get-retain_keys m (λ slot. not (slot.pid == q)) (at_page p page) ∙ ap (λ b. cond b (map.get m (at_page p page)) None) (gone p q e)) ∙ is))
  | inr n ↦ (
    sym (get-retain_keys m (λ slot. not (slot.pid == q)) (at_page p page) ∙ ap (λ b. cond b (map.get m (at_page p page)) None) (stays p q n)) ∙ is,
    spared p q n,
  )
]
  where
    gone : (p q : ℕ) → p ≡ q → not (p == q) ≡ false
    gone p q e = grind (arith, nat_tests)

    stays : (p q : ℕ) → p ≢ q → not (p == q) ≡ true
    stays p q n = grind (arith, nat_tests)

    spared : (p q : ℕ) → p ≢ q → (p == q) ≡ false
    spared p q n = grind (arith, nat_tests)

-- fewer frames are taken where a process's are freed
pub sum_cleared : (xs : List ℕ) (i : ℕ) → sum (slice_set xs i 0) ≤ sum xs
sum_cleared [] i = omega arith
sum_cleared (x ∷ xs) zero = omega (arith, sum_by-cons (λ (n : ℕ). n) 0 xs, sum_by-cons (λ (n : ℕ). n) x xs)
sum_cleared (x ∷ xs) (suc i) =
    let rest = sum_cleared xs i in
    omega (arith, rest, sum_by-cons (λ (n : ℕ). n) x xs, sum_by-cons (λ (n : ℕ). n) x (slice_set xs i 0))

-- ---- After an event

-- what the walks gave, and an event didn't end, they give afterwards
pub given_after : (v w : View) (ended : Ended) (t : kept.Translation) → Ends ended v w → is_ended ended t.slot ≡ false → IsGiven v t → IsGiven w t
given_after v w ended t ends spared given = by (is_ended ended t.slot) spared (left_read ended v w (translation t ∷ []) ends (given, tt))
  where
    by : (b : Bool) → b ≡ false → AreRead w (if b then [] else translation t ∷ []) → IsGiven w t
    by true h read = absurd (let e : true ≡ false = h in cc)
    by false h read = read.0

pub shadowed_after : (v w : View) (s u : Shadow) (ended : Ended) → IsShadowed v s → Ends ended v w → u.translations ≡ left_by ended s.translations → length u.bytes ≡ length s.bytes → IsShadowed w u
shadowed_after v w s u ended shadowed ends left size = record {
  given = λ p page t is.
      let was = left_get ended s.translations p page t (ap (λ m. map.get m (at_page p page)) (sym left) ∙ is) in
      given_after v w ended (kept_at p page t) ends was.1 (shadowed.given p page t was.0);
  enough = omega (arith, size, shadowed.enough);
}

-- what is left of the shadow is of the core as it is
pub shadowed_left : (v : View) (s u : Shadow) (ended : Ended) → IsShadowed v s → u.translations ≡ left_by ended s.translations → length u.bytes ≡ length s.bytes → IsShadowed v u
shadowed_left v s u ended shadowed left size = record {
  given = λ p page t is. shadowed.given p page t (left_get ended s.translations p page t (ap (λ m. map.get m (at_page p page)) (sym left) ∙ is)).0;
  enough = omega (arith, size, shadowed.enough);
}

-- ---- Walks

-- how the shadow's walk ends, the core's walk gives
pub walks_are_the_cores : (v : View) (s : Shadow) → IsShadowed v s → WalksAgree s → UpperHalvesAreClosed s → WalksAreTheCores (record { core = v; shadow = s })
walks_are_the_cores v s shadowed agree closed p root address physical access is (inr upper) walk = absurd (closed p root address physical access is upper.0 upper.1 walk)
walks_are_the_cores v s shadowed agree closed p root address physical access is (inl lower) walk =
    by (map.get s.translations (at_page p (page_number address))) refl access refl (sym (agree p root address access is lower) ∙ walk)
  where
    small : (page : ℕ) → page_number address ≡ page → page < 2 ^ 20 → address < 2 ^ 32
    small page e h = omega (arith, e, h)

    right : (access : Access) (write : Bool) (target : ℕ) → (let r : Result ℕ LongEnd = shadow_end s.block (Some (record { frame = target; write = write })) address access in r ≡ Ok physical)
        → (access ≡ Write → write ≡ true) × (physical ≡ s.block + 4096 * target + address % 4096)
    right Read write target e = (λ w. cc, cc)
    right Write true target e = (λ _. refl, cc)
    right Write false target e = cc

    by : (o : Option Translation) → map.get s.translations (at_page p (page_number address)) ≡ o → (a : Access) → a ≡ access → shadow_end s.block o address access ≡ Ok physical
        → (directory frame : ℕ) × WalkGives (memory_of v) p directory address access frame × (physical ≡ s.block + 4096 * frame + offset_number address)
    by None there a same e = cc
    by (Some t) there a same e =
        let given = shadowed.given p (page_number address) t there in
        let ends = right access t.write t.frame e in
        (given.directory, t.frame, (given.live, gives access refl t given ends.0), ends.1)
      where
        gives : (a : Access) → a ≡ access → (t : Translation) → (given : IsGiven v (kept_at p (page_number address) t)) → (access ≡ Write → t.write ≡ true) → walk_of v.bytes given.directory address access ≡ Ok t.frame
        gives Read same t given may = subst (λ (a : Access). walk_of v.bytes given.directory address a ≡ Ok t.frame) same (given.read address (small (page_number address) refl given.page) refl)
        gives Write same t given may = subst (λ (a : Access). walk_of v.bytes given.directory address a ≡ Ok t.frame) same (given.written (may (sym same)) address (small (page_number address) refl given.page) refl)

-- ---- A fault

dir_same : (bytes : List ℕ) (directory a b : ℕ) → page_number a ≡ page_number b → dir_word bytes directory b ≡ dir_word bytes directory a
dir_same bytes directory a b e = ap (λ n. word_at bytes (word_place directory (slot_number n))) (sym e)

table_same : (bytes : List ℕ) (directory a b : ℕ) → page_number a ≡ page_number b → table_word bytes directory b ≡ table_word bytes directory a
table_same bytes directory a b e =
    ap (λ w. word_at bytes (word_place (frame_number w) (index_number (page_number b)))) (dir_same bytes directory a b e)
    ∙ ap (λ n. word_at bytes (word_place (frame_number (dir_word bytes directory a)) (index_number n))) (sym e)

-- a walk that finds a frame finds it at each address of the page, also for an access that asks for no more
pub same_page : (bytes : List ℕ) (directory a b frame : ℕ) (access other : Access) → page_number a ≡ page_number b → (other ≡ Write → access ≡ Write) → walk_of bytes directory a access ≡ Ok frame
    → walk_of bytes directory b other ≡ Ok frame
same_page bytes directory a b frame access other e may is =
    let leads : Leads bytes directory a access frame = (walks_find_what_leads bytes directory a access frame).0 is in
    let dir = dir_same bytes directory a b e in
    let table = table_same bytes directory a b e in
    (walks_find_what_leads bytes directory b other frame).1 (record {
      directory_inside = leads.directory_inside;
      dir_present = ap is_present dir ∙ leads.dir_present;
      table_inside = (let f = ap frame_number dir in omega (arith, f, leads.table_inside));
      table_present = ap is_present table ∙ leads.table_present;
      dir_user = ap is_user dir ∙ leads.dir_user;
      table_user = ap is_user table ∙ leads.table_user;
      dir_right = λ w. ap is_writable dir ∙ leads.dir_right (may w);
      table_right = λ w. ap is_writable table ∙ leads.table_right (may w);
      named = leads.named ∙ sym (ap frame_number table);
      inside = leads.inside;
    })

pub frame_inside : (bytes : List ℕ) (directory address frame : ℕ) (access : Access) → walk_of bytes directory address access ≡ Ok frame → 4096 * frame < length bytes
frame_inside bytes directory address frame access is = ((walks_find_what_leads bytes directory address access frame).0 is).inside

-- where the frames of the pool and those of the core lie apart, no walk ends in the pool
pub out_of_reach : (v : View) (s : Shadow) (frames : ℕ) → WalksAreTheCores (record { core = v; shadow = s }) → length v.bytes ≡ 4096 * frames → PoolIsOutOfReach (record { core = v; shadow = s })
out_of_reach v s frames cores whole apart p root address physical access is canonical walk =
    let found = cores p root address physical access is canonical walk in
    let inside : 4096 * found.1 < length v.bytes = frame_inside v.bytes found.0 address found.1 access found.2.1 in
    by found.1 apart (omega (arith, inside, whole)) found.3
  where
    by : (frame : ℕ) → AreApart (record { core = v; shadow = s }) → 4096 * frame + 4096 ≤ length v.bytes → physical ≡ s.block + 4096 * frame + offset_number address → (physical < s.pool) ⊎ (s.pool + length s.bytes ≤ physical)
    by frame (inl below) within e = inr (omega (arith, below, e))
    by frame (inr above) within e = inl (omega (arith, above, within, e))

-- what the walk finds for a page whose flags are set is given
pub is_given : (v : View) (p address directory : ℕ) (t : Translation) (cell : spaces.Cell) → IsUserPage (page_number address) → directory_at (memory_of v) p ≡ Some directory
    → walk_of v.bytes directory address Read ≡ Ok t.frame → (t.write ≡ true → walk_of v.bytes directory address Write ≡ Ok t.frame)
    → map.get v.state.spaces (spaces.at_page p (page_number address)) ≡ Some cell → cell.accessed ≡ true → (t.write ≡ true → cell.dirty ≡ true)
    → IsGiven v (kept_at p (page_number address) t)
is_given v p address directory t cell user live read written mapped accessed dirty = record {
  page = omega (arith, user.1);
  directory = directory;
  live = live;
  read = λ a small page. same_page v.bytes directory address a t.frame Read Read (sym page) (λ e. e) read;
  written = λ write a small page. same_page v.bytes directory address a t.frame Write Write (sym page) (λ e. e) (written write);
  cell = cell;
  mapped = mapped;
  accessed = accessed;
  dirty = dirty;
}

-- a translation more
pub shadowed_more : (v : View) (s u : Shadow) (p page : ℕ) (t : Translation) → IsShadowed v s → HasEntered s.translations p page t u.translations → length u.bytes ≡ length s.bytes → IsGiven v (kept_at p page t) → IsShadowed v u
shadowed_more v s u p page t shadowed entered size given = record {
  given = λ q at other is. elim (entered.others q at other is) [
    | inl e ↦ (let P : ℕ → ℕ → Translation → Type 0 = λ q at other. IsGiven v (kept_at q at other) in
        subst (λ (q : ℕ). P q at other) (sym e.0) (subst (λ (at : ℕ). P p at other) (sym e.1) (subst (λ (other : Translation). P p page other) (sym e.2) given)))
    | inr old ↦ shadowed.given q at other old
  ];
  enough = omega (arith, size, shadowed.enough);
}

-- an insertion enters
pub entered-insert : (m new : Translations) (p page : ℕ) (t : Translation) → new ≡ map.insert m (at_page p page) t → HasEntered m p page t new
entered-insert m new p page t is = record {
  is = ap (λ m. map.get m (at_page p page)) is ∙ get-insert m (at_page p page) t (at_page p page) ∙ ap (λ b. cond b (Some t) (map.get m (at_page p page))) (same_itself slot_order (at_page p page));
  others = λ q at u there.
      let old : cond (same slot_order (at_page q at) (at_page p page)) (Some t) (map.get m (at_page q at)) ≡ Some u = sym (get-insert m (at_page p page) t (at_page q at)) ∙ ap (λ m. map.get m (at_page q at)) (sym is) ∙ there in
      elim (same_cases slot_order (at_page q at) (at_page p page)) [
        | inl h ↦ inl (ap (λ s. s.pid) h.0, ap (λ s. s.page) h.0, some_same u t (sym (sym (ap (λ b. cond b (Some t) (map.get m (at_page q at))) h.1) ∙ old)))
        | inr h ↦ inr (sym (ap (λ b. cond b (Some t) (map.get m (at_page q at))) h.1) ∙ old)
      ];
}
  where
    some_same : (u t : Translation) → ◌≡◌ {A = Option Translation} (Some u) (Some t) → u ≡ t
    some_same u t e = cc

-- the processor completes the access
pub served : (v : View) (s : Shadow) (p address : ℕ) (access : Access) (t : Translation) → WalksAgree s → IsSome (root_of s p) → address < 2 ^ 47
    → map.get s.translations (at_page p (page_number address)) ≡ Some t → (is_write access ≡ true → t.write ≡ true) → IsServed (record { core = v; shadow = s }) p address access
served v s p address access t agree rooted lower there may = by (root_frame s p) refl rooted
  where
    reaches : (access : Access) (write : Bool) → (is_write access ≡ true → write ≡ true)
        → shadow_end s.block (Some (record { frame = t.frame; write = write })) address access ≡ Ok (s.block + 4096 * t.frame + address % 4096)
    reaches Read write may = refl
    reaches Write true may = refl
    reaches Write false may = absurd (let e = may refl in cc)

    by : (o : Option ℕ) → root_frame s p ≡ o → IsSome (option_map (frame_address s.pool) o) → IsServed (record { core = v; shadow = s }) p address access
    by None is none = absurd (cc)
    by (Some root) is some = (
      root,
      s.block + 4096 * t.frame + address % 4096,
      is,
      agree p root address access is lower ∙ ap (λ o. shadow_end s.block o address access) there ∙ reaches access t.write may,
    )

-- ---- What a walk finds

-- a walk that finds a frame
pub record Found (image : Image) (p address : ℕ) (access : Access) : Type 0 where
  pub small : address < 2 ^ 32
  pub directory : ℕ
  pub live : directory_at image p ≡ Some directory
  pub frame : ℕ
  pub walk : walk_of image.bytes directory address access ≡ Ok frame

pub found_at : (image : Image) (p address : ℕ) (access : Access) → finds_at image p access address ≡ true → Found image p address access
found_at image p address access e =
    let both = and_parts (nat_lt address 0x100000000) _ e in
    by (directory_at image p) refl (small address both.0) both.1
  where
    and_parts : (a b : Bool) → (a && b) ≡ true → (a ≡ true) × (b ≡ true)
    and_parts a b e = grind arith

    small : (n : ℕ) → nat_lt n 0x100000000 ≡ true → n < 2 ^ 32
    small n e = grind (arith, nat_tests)

    value : (r : Result ℕ WalkEnd) → is_ok r ≡ true → (frame : ℕ) × (r ≡ Ok frame)
    value (Ok frame) e = (frame, refl)
    value (Err stop) e = cc

    by : (o : Option ℕ) → directory_at image p ≡ o → address < 2 ^ 32 → unwrap_or (option_map (λ directory. is_ok (walk_of image.bytes directory address access)) o) false ≡ true → Found image p address access
    by None live lower e = cc
    by (Some directory) live lower e =
        let walk = value (walk_of image.bytes directory address access) e in
        record { small = lower; directory = directory; live = live; frame = walk.0; walk = walk.1 }

pub finds_found : (image : Image) (p address : ℕ) (access : Access) → Found image p address access → finds_at image p access address ≡ true
finds_found image p address access found =
    ap (λ o. nat_lt address 0x100000000 && unwrap_or (option_map (λ directory. is_ok (walk_of image.bytes directory address access)) o) false) found.live
    ∙ ap (λ r. nat_lt address 0x100000000 && is_ok r) found.walk ∙ small address found.small
  where
    small : (n : ℕ) → n < 2 ^ 32 → (nat_lt n 0x100000000 && true) ≡ true
    small n h = grind (arith, nat_tests)

-- a walk that lets a write through lets a read through
pub reads_too : (image : Image) (p address : ℕ) (access : Access) → finds_at image p access address ≡ true → finds_at image p Read address ≡ true
reads_too image p address access e =
    let found = found_at image p address access e in
    finds_found image p address Read (record {
      small = found.small;
      directory = found.directory;
      live = found.live;
      frame = found.frame;
      walk = same_page image.bytes found.directory address address found.frame access Read refl (λ w. cc) found.walk;
    })

-- where the walk lets a write through, it finds the frame that a read does
pub write_walk : (v : View) (p address directory frame : ℕ) → finds_at (memory_of v) p Write address ≡ true → directory_at (memory_of v) p ≡ Some directory
    → walk_of v.bytes directory address Read ≡ Ok frame → walk_of v.bytes directory address Write ≡ Ok frame
write_walk v p address directory frame finds live read =
    let found = found_at (memory_of v) p address Write finds in
    let same : found.directory ≡ directory = some_same found.directory directory (sym found.live ∙ live) in
    let written : walk_of v.bytes directory address Write ≡ Ok found.frame = sym (ap (λ d. walk_of v.bytes d address Write) same) ∙ found.walk in
    let first = same_page v.bytes directory address address found.frame Write Read refl (λ e. cc) written in
    let frames : found.frame ≡ frame = ok_same found.frame frame (sym first ∙ read) in
    written ∙ ap Ok frames
  where
    some_same : (a b : ℕ) → ◌≡◌ {A = Option ℕ} (Some a) (Some b) → a ≡ b
    some_same a b e = cc

    ok_same : (a b : ℕ) → ◌≡◌ {A = Result ℕ WalkEnd} (Ok a) (Ok b) → a ≡ b
    ok_same a b e = cc

-- where a walk finds a frame for a write, it finds it for a read
pub read_walk : (v : View) (p directory address frame : ℕ) → WalkGives (memory_of v) p directory address Write frame → WalkGives (memory_of v) p directory address Read frame
read_walk v p directory address frame gives = (gives.0, same_page v.bytes directory address address frame Write Read refl (λ e. refl) gives.1)

-- ---- The page's cell

-- the cell of a page whose walk finds a frame
pub mapped_at : (image : Image) (mapped : spaces.Spaces) (p address : ℕ) (access : Access) → CoreWalksAgree image mapped → (found : Found image p address access)
    → (cell : spaces.Cell) × (map.get mapped (spaces.slot_at p address) ≡ Some cell)
mapped_at image mapped p address access agree found = by (map.get mapped (spaces.slot_at p address)) refl (agree p found.directory address access found.live found.small)
  where
    by : (o : Option spaces.Cell) → map.get mapped (spaces.slot_at p address) ≡ o → WalkEndsBy image.bytes found.directory address access (is_lazy_at image (spaces.slot_at p address)) o
        → (cell : spaces.Cell) × (map.get mapped (spaces.slot_at p address) ≡ Some cell)
    by None there ends = absurd (let e = sym found.walk ∙ ends in cc)
    by (Some cell) there ends = (cell, there)

-- dirty of a page that has it
pub dirty_there : (s : State) (slot : spaces.Slot) → (spaces.cell_or_fresh s.spaces slot).dirty ≡ true → is_dirty_at s slot ≡ true
dirty_there s slot h = by (map.get s.spaces slot) h
  where
    by : (x : Option spaces.Cell) → (unwrap_or x (spaces.fresh slot true)).dirty ≡ true → unwrap_or (option_map (λ (c : spaces.Cell). c.dirty) x) false ≡ true
    by None e = cc
    by (Some c) e = e

-- a page that was accessed has its translation
pub given_there : (v : View) (p address directory : ℕ) (t : Translation) → CoreWalksAgree (memory_of v) v.state.spaces → IsUserPage (page_number address) → finds_at (memory_of v) p Read address ≡ true
    → (spaces.cell_or_fresh v.state.spaces (spaces.slot_at p address)).accessed ≡ true → WalkGives (memory_of v) p directory address Read t.frame
    → t.write ≡ (finds_at (memory_of v) p Write address && is_dirty_at v.state (spaces.slot_at p address)) → IsGiven v (kept_at p (page_number address) t)
given_there v p address directory t agree user finds accessed walk write =
    let slot = spaces.slot_at p address in
    let cell = mapped_at (memory_of v) v.state.spaces p address Read agree (found_at (memory_of v) p address Read finds) in
    let here : spaces.cell_or_fresh v.state.spaces slot ≡ cell.0 = ap (λ o. unwrap_or o (spaces.fresh slot true)) cell.1 in
    is_given v p address directory t cell.0 user walk.0 walk.1
    (λ w. write_walk v p address directory t.frame (both_true _ _ (sym write ∙ w)).0 walk.0 walk.1)
    cell.1 (sym (ap (λ (c : spaces.Cell). c.accessed) here) ∙ accessed)
    (λ w. sym (ap (λ (o : Option spaces.Cell). unwrap_or (option_map (λ (c : spaces.Cell). c.dirty) o) false) cell.1) ∙ (both_true _ _ (sym write ∙ w)).1)
  where
    both_true : (a b : Bool) → (a && b) ≡ true → (a ≡ true) × (b ≡ true)
    both_true a b e = grind arith

-- ---- A fill

pub has_filled : (w : View) (s u : Shadow) (p address page : ℕ) (access : Access) (t : Translation) → page ≡ page_number address → IsUserPage (page_number address)
    → IsGiven w (kept_at p (page_number address) t) → t.write ≡ (finds_at (memory_of w) p Write address && is_dirty_at w.state (spaces.slot_at p address))
    → finds_at (memory_of w) p access address ≡ true → AreMarked w.state.spaces (spaces.slot_at p address) access
    → u.translations ≡ map.insert s.translations (at_page p page) t → IsSome (root_of u p) → WalksAgree u → HasFilled w s.translations u p address access
has_filled w s u p address page access t same user given write finds marked inserted rooted agree =
    let is : u.translations ≡ map.insert s.translations (at_page p (page_number address)) t = inserted ∙ ap (λ n. map.insert s.translations (at_page p n) t) same in
    let entered = entered-insert s.translations u.translations p (page_number address) t is in
    record {
      translation = t;
      is = is;
      given = given;
      write = write;
      served = served w u p address access t agree rooted (omega (arith, user.1)) entered.is (may access finds marked);
    }
  where
    may : (a : Access) → finds_at (memory_of w) p a address ≡ true → AreMarked w.state.spaces (spaces.slot_at p address) a → is_write a ≡ true → t.write ≡ true
    may Read f m is = cc
    may Write f m is =
        let dirty = dirty_there w.state (spaces.slot_at p address) (m.dirty refl) in
        write ∙ (λ i. f i && dirty i)

-- a core with one translation more
pub shadowed_fill : (w : View) (s u : Shadow) (p address page : ℕ) (t : Translation) → page ≡ page_number address → IsShadowed w s → u.translations ≡ map.insert s.translations (at_page p page) t
    → length u.bytes ≡ length s.bytes → IsGiven w (kept_at p (page_number address) t) → IsShadowed w u
shadowed_fill w s u p address page t same shadowed inserted size given =
    let is : u.translations ≡ map.insert s.translations (at_page p (page_number address)) t = inserted ∙ ap (λ n. map.insert s.translations (at_page p n) t) same in
    shadowed_more w s u p (page_number address) t shadowed (entered-insert s.translations u.translations p (page_number address) t is) size given

-- ---- A fault

-- the tables for a page go as far as before, where they stay and no more is needed
pub way_stays : (s u : Shadow) (p page : ℕ) (way : Way) → IsUserPage page → IsWay s p page way → frames_needed u p page ≡ frames_needed s p page → TablesStay s p u → IsWay u p page way
way_stays s u p page way user is needed stay = record {
  missing = is.missing ∙ sym needed;
  most = is.most;
  table = λ none. stay page 3 way.table user (omega arith) (is.table none);
}

-- where nothing changes
pub still_ends : (v : View) → IsCore v → Ends end.Nothing v v
still_ends v now = nothing_ends v v now now refl (record {
  directories = λ p d some live. live;
  tables = λ slot d f t stays way table. table;
  ways = λ slot d f stays way. way;
})

-- no access of a byte ends all of a process
pub touch_keeps_roots : (v : View) (s : State) (p address q : ℕ) (access : Access) → is_all_of (ended_by v (touch_of s p address access)) q ≡ false
touch_keeps_roots v s p address q Read = by (completes (answer v.state (load_byte p (near address))))
  where
    by : (b : Bool) → is_all_of (if b then end.Nothing else end.Nothing) q ≡ false
    by true = refl
    by false = refl
touch_keeps_roots v s p address q Write = by (completes (answer v.state (touch_of s p address Write)))
  where
    pages : (x y : Option ℕ) → is_all_of (of_pages p x y) q ≡ false
    pages None None = refl
    pages (Some x) None = refl
    pages None (Some y) = refl
    pages (Some x) (Some y) = refl

    by : (b : Bool) → is_all_of (if b then of_call v p (touch_of s p address Write).call else end.Nothing) q ≡ false
    by true = pages (if_lazy (memory_of v) p (page_number (near address))) (option_and_then (if_lazy (memory_of v) p) (second_page (near address) One))
    by false = refl

-- a reply that doesn't stop a fault is one that completes
pub goes_on : (r : Reply) → stop_of r ≡ None → completes r ≡ true
goes_on (reply.Fault addr code) e = cc
goes_on (reply.Refused cause) e = cc
goes_on _ e = refl

-- roots stay where no process is gone, and then where a translation is filled
pub roots_then : (ended : Ended) (s t u : Shadow) (p : ℕ) → ((q : ℕ) → is_all_of ended q ≡ false) → ((q : ℕ) → is_all_of ended q ≡ false → root_frame t q ≡ root_frame s q) → RootsStay t p u → RootsStay s p u
roots_then ended s t u p none forgotten filled = record {
  stay = λ q frame is. filled.stay q frame (forgotten q (none q) ∙ is);
  others = λ q other. filled.others q other ∙ forgotten q (none q);
}

-- ---- Accesses

end_right : (block frame address physical : ℕ) (access : Access) (write : Bool) → (let r : Result ℕ LongEnd = shadow_end block (Some (record { frame = frame; write = write })) address access in r ≡ Ok physical)
    → (access ≡ Write → write ≡ true) × (physical ≡ block + 4096 * frame + address % 4096)
end_right block frame address physical Read write e = (λ w. cc, cc)
end_right block frame address physical Write true e = (λ _. refl, cc)
end_right block frame address physical Write false e = cc

serves_at : (v : View) (s : Shadow) → IsShadowed v s → WalksAgree s → (p page frame : ℕ) (access : Access) → Reaches (record { core = v; shadow = s }) p page frame access → Serves v p page frame access
serves_at v s shadowed agree p page frame access reaches =
    by (map.get s.translations (at_page p page)) refl
    (sym (agree p reaches.root (start_number page) access reaches.rooted (let l = reaches.lower in omega arith) ∙ ap (λ n. shadow_end s.block (map.get s.translations (at_page p n)) (start_number page) access) (omega arith)) ∙ reaches.walk)
  where
    by : (o : Option Translation) → map.get s.translations (at_page p page) ≡ o → shadow_end s.block o (start_number page) access ≡ Ok (s.block + 4096 * frame) → Serves v p page frame access
    by None there e = cc
    by (Some t) there e =
        let ends = end_right s.block t.frame (start_number page) (s.block + 4096 * frame) access t.write e in
        let same = ends.1 in
        record {
          kept = kept_at p page t;
          given = shadowed.given p page t there;
          of_page = refl;
          on_frame = omega arith;
          written = λ w. (ends.0 w, ends.0 w);
        }

each_touched : (address : ℕ) (size : Size) (P Q : ℕ → Type 0) → ((page : ℕ) → P page → Q page) → EachTouched address size P → EachTouched address size Q
each_touched address size P Q through all = (through (page_number address) all.0, by (second_page address size) all.1)
  where
    by : (x : Option ℕ) → IfSome x P → IfSome x Q
    by None h = tt
    by (Some page) h = through page h

pub accesses_are_served : (v : View) (s : Shadow) → IsShadowed v s → WalksAgree s → AccessesAreServed (record { core = v; shadow = s })
accesses_are_served v s shadowed agree frames e reaches = by e.call reaches
  where
    by : (c : Call) → ReachesCall (record { core = v; shadow = s }) e.pid frames c → ServesCall v e.pid frames c
    by (call.Load addr size) h = each_touched addr size (λ page. Reaches (record { core = v; shadow = s }) e.pid page (frames page) Read) (λ page. Serves v e.pid page (frames page) Read) (λ page. serves_at v s shadowed agree e.pid page (frames page) Read) h
    by (call.Store addr size value) h = each_touched addr size (λ page. Reaches (record { core = v; shadow = s }) e.pid page (frames page) Write) (λ page. Serves v e.pid page (frames page) Write) (λ page. serves_at v s shadowed agree e.pid page (frames page) Write) h
    by _ h = absurd h

-- ---- Steps

-- what serves an access is there in a list of what is kept
lets_through : (v : View) (kept : List kept.Kept) (p page frame place : ℕ) (access : Access) → (s : Serves v p page frame access) → slice_get kept place ≡ Some (translation s.kept) → LetsThrough kept p page frame access
lets_through v kept p page frame place access s there = record {
  place = place;
  write = s.kept.write;
  dirty = s.kept.dirty;
  there = there ∙ (λ i. Some (translation (record { slot = s.of_page i; frame = s.on_frame i; write = s.kept.write; dirty = s.kept.dirty })));
  right = s.written;
}

-- all that serves an access may be kept
kept_for : (v : View) (p address : ℕ) (size : Size) (frames : ℕ → ℕ) (access : Access) → EachTouched address size (λ page. Serves v p page (frames page) access)
    → (kept : List kept.Kept) × AreRead v kept × EachTouched address size (λ page. LetsThrough kept p page (frames page) access)
kept_for v p address size frames access all = by (second_page address size) all.1
  where
    one : kept.Kept
    one = translation all.0.kept

    by : (o : Option ℕ) → IfSome o (λ page. Serves v p page (frames page) access)
        → (kept : List kept.Kept) × AreRead v kept × (LetsThrough kept p (page_number address) (frames (page_number address)) access × IfSome o (λ page. LetsThrough kept p page (frames page) access))
    by None h = (one ∷ [], (all.0.given, tt), (lets_through v (one ∷ []) p (page_number address) (frames (page_number address)) 0 access all.0 refl, tt))
    by (Some page) h =
        let two = translation h.kept in (
          one ∷ two ∷ [],
          (all.0.given, (h.given, tt)),
          (
            lets_through v (one ∷ two ∷ []) p (page_number address) (frames (page_number address)) 0 access all.0 refl,
            lets_through v (one ∷ two ∷ []) p page (frames page) 1 access h refl,
          ),
        )

pub accesses_are_kept : (v : View) (s : Shadow) → IsShadowed v s → WalksAgree s → AccessesAreKept (record { core = v; shadow = s })
accesses_are_kept v s shadowed agree frames e reaches = by e.call (accesses_are_served v s shadowed agree frames e reaches)
  where
    by : (c : Call) → ServesCall v e.pid frames c → (kept : List kept.Kept) × AreRead v kept × LetCall kept e.pid frames c
    by (call.Load addr size) h = kept_for v e.pid addr size frames Read h
    by (call.Store addr size value) h = kept_for v e.pid addr size frames Write h
    by _ h = absurd h
