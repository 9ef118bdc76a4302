-- What memory keeps of others, where the state keeps what is theirs, and the ways of their pages stay.
use Rattle.std.proofs.Common.{◌≡◌, ◌≢◌, ◌∙◌, ◌<◌, ◌+◌, ◌*◌, ◌^◌, ◌==◌, ℕ, Bool, true, false, List, length, Option, Some, None, refl, sym, ap, subst, inl, inr, arith, is_some, unwrap_or}
use Rattle.std.specs.Prelude.{◌⊎◌, Ok, slice_get, IsTrue, MatchBool, if◌then◌else◌}
use Rattle.std.specs.Option.{option_and_then, option_map}
use Rattle.std.proofs.lemmas.Option.{slice_get_cases, slice_get_past, slice_get_within}
use Rattle.alloc_table.specs.declared.Role.{Role}
use Rattle.alloc_table.specs.declared.Role.TheVariants.{Reserved, Free, Directory, Table, Page}
use Rattle.page_words.proofs.Flags.{table_words_by_fields}
use Rattle.page_words.specs.Addresses.{index_number, page_number, slot_number, start_number}
use Rattle.page_words.specs.Words.{frame_number, is_present, is_lazy}
use Rattle.phys_memory.specs.Bytes.{frame_bytes}
use Rattle.table_walk.specs.declared.Access.TheVariants.{Read}
use Rattle.table_walk.specs.Walk.{walk_of}
use Rattle.address_space.proofs.standing.FramesStand.{way_parts, way_whole}
use Rattle.address_space.proofs.standing.Restored.{from_then}
use Rattle.address_space.proofs.standing.TablesStand.{own_is, owned}
use Rattle.address_space.specs.Image.{IsOneGroup, directory_at, is_lazy_at, is_user_slot, page_frame, page_word, present_word, table_at, word_of}
use Rattle.address_space.specs.ImageWords.{own_frame}
use Rattle.address_space.specs.Spaces.{Cell, Slot, at_page, slot_at}
use Rattle.address_space.specs.Stays.{FramesStay, Gone, way_of}
use Rattle.address_space.specs.Walks.{WalkEndsBy}
use Rattle.kernel_calls.proofs.CoreMemory.{root_quota, walks_of, ways_of}
use Rattle.kernel_calls.proofs.Linked.{mapped_way, tables_map}
use Rattle.kernel_calls.proofs.WalkedReplies.{lives}
use Rattle.kernel_calls.proofs.Writings.{Mapped, mapped_slot, slot_word, some_member, two_dir_words, two_words, unmapped_slot, word_at_slot}
use Rattle.kernel_calls.specs.Integrity.{Flags, flags_of, shares}
use Rattle.kernel_calls.specs.Cleaned.{EndsMarks}
use Rattle.kernel_calls.specs.Processors.{IsCore}
use Rattle.kernel_calls.specs.Translations.{MapsInRegion, is_all_of, is_ended}
use Rattle.kernel_calls.specs.Written.{IsOf, IsSameButAccessed, StandsAsBefore}
use Rattle.kernel_calls.specs.declared.translations.Ended.{Ended}
use Rattle.process_table.specs.Image.{memory_of}
use Rattle.process_table.specs.State.{is_live}
use Rattle.process_table.specs.View.{View}
use Rattle.kernel_laws.proofs.OthersKeep.{IsAlone, OthersKeep}
use Rattle.kernel_laws.specs.OwnRuns.{Leaves, MayWriteAlong, ServesAlike, WriteTheirOwn}
use Rattle.page_words.specs.FiniteMap as map
use Rattle.page_words.specs.FiniteSet as set

-- the ways of others' pages, with their directories and tables
pub record WaysKeep (own : ℕ → Bool) (v w : View) : Type 0 where
  pub directories : (q directory : ℕ) → own q ≡ false → directory_at (memory_of v) q ≡ Some directory
      → directory_at (memory_of w) q ≡ Some directory
  pub tables : (slot : Slot) (table : ℕ) → own slot.pid ≡ false → map.contains_key v.state.spaces slot ≡ true
      → table_at (memory_of v) slot.pid (slot_number slot.page) ≡ Some table
      → table_at (memory_of w) slot.pid (slot_number slot.page) ≡ Some table
  pub ways : (slot : Slot) (directory frame : ℕ) → own slot.pid ≡ false → way_of (memory_of v) slot ≡ Some (directory, frame)
      → way_of (memory_of w) slot ≡ Some (directory, frame)

-- ---- By what goes

-- ways of pages of these processes alone go
abbrev pub GoOfThese : (ℕ → Bool) → Gone → Type 0
GoOfThese own gone = (slot : Slot) (frame : ℕ) → own slot.pid ≡ false → gone slot frame ≡ false

-- translations of theirs alone are ended
abbrev pub EndOfThese : (ℕ → Bool) → Ended → Type 0
EndOfThese own ended = (slot : Slot) → own slot.pid ≡ false → is_ended ended slot ≡ false

pub ways_by_frames : (own : ℕ → Bool) (gone : Gone) (v w : View) → IsCore v → GoOfThese own gone
    → FramesStay gone (memory_of v) (memory_of w) → WaysKeep own v w
ways_by_frames own gone v w core spares stay = record {
  directories = λ q d strange live.
      stay.directories q d (record { page = 0; frame = 0; stays = spares (at_page q 0) 0 strange }) live;
  tables = λ slot t strange there linked.
      let way = mapped_way v core.image slot there in
      stay.tables slot way.0 way.1 t (spares slot way.1 strange) way.2 linked;
  ways = λ slot d f strange way. stay.ways slot d f (spares slot f strange) way;
}

-- what ends no page of a process doesn't end all of it
not_all : (ended : Ended) (q : ℕ) → is_ended ended (at_page q 0) ≡ false → is_all_of ended q ≡ false
not_all ended q h = grind arith

one_way : (d f g : ℕ) → ◌≡◌ {A = Option (ℕ × ℕ)} (Some (d, f)) (Some (d, g)) → f ≡ g
one_way d f g h = ap (λ (o : Option (ℕ × ℕ)). unwrap_or (option_map (λ (x : ℕ × ℕ). x.1) o) 0) h

-- a way is what a walk finds
module _ (v : View) (core : IsCore v) (slot : Slot) (d f : ℕ) (way : way_of (memory_of v) slot ≡ Some (d, f)) where
  abbrev way_address : ℕ
  way_address = start_number slot.page

  way_word : (k : ℕ) × (page_word (memory_of v) slot ≡ Some k)
  way_word = by (page_word (memory_of v) slot) refl (way_parts (memory_of v) slot d f way).names
    where
      by : (x : Option ℕ) → page_word (memory_of v) slot ≡ x → option_map frame_number x ≡ Some f
          → (k : ℕ) × (page_word (memory_of v) slot ≡ Some k)
      by None is k = cc
      by (Some k) is h = (k, is)

  way_there : is_some (map.get v.state.spaces slot) ≡ true
  way_there = by (is_some (map.get v.state.spaces slot)) refl
    where
      by : (b : Bool) → is_some (map.get v.state.spaces slot) ≡ b → is_some (map.get v.state.spaces slot) ≡ true
      by true is = is
      by false is = let k : None ≡ Some way_word.0 = sym (unmapped_slot v core slot is) ∙ way_word.1 in cc

  abbrev way_mapped : Mapped v slot
  way_mapped = mapped_slot v core slot way_there

  way_small : way_address < 2 ^ 32
  way_small = let h = (core.well_formed.cells slot way_mapped.cell way_mapped.mapped).user.1 in omega (arith, h)

  way_page : page_number way_address ≡ slot.page
  way_page = omega arith

  way_walked : walk_of v.bytes d way_address Read ≡ Ok f
  way_walked = by (map.get v.state.spaces (slot_at slot.pid way_address))
      (ap (λ k. map.get v.state.spaces (at_page slot.pid k)) way_page ∙ way_mapped.mapped)
      (walks_of core slot.pid d way_address Read (way_parts (memory_of v) slot d f way).live way_small)
    where
      by : (c : Option Cell) → c ≡ Some way_mapped.cell
          → WalkEndsBy v.bytes d way_address Read (is_lazy_at (memory_of v) (slot_at slot.pid way_address)) c
          → walk_of v.bytes d way_address Read ≡ Ok f
      by None is k = cc
      by (Some c) is k =
          let again : way_of (memory_of v) slot ≡ Some (d, k.frame) =
          sym (ap (λ n. way_of (memory_of v) (at_page slot.pid n)) way_page)
          ∙ (ways_of core).lead slot.pid d way_address k.frame Read (way_parts (memory_of v) slot d f way).live way_small k.found in
          k.found ∙ ap (λ n. Ok n) (one_way d k.frame f (sym again ∙ way))

pub ways_by_marks : (own : ℕ → Bool) (ended : Ended) (v w : View) → IsCore v → IsCore w → EndOfThese own ended
    → EndsMarks ended v w → WaysKeep own v w
ways_by_marks own ended v w core later spares ends = record {
  directories = λ q d strange live. ends.directories q d (not_all ended q (spares (at_page q 0) strange)) live;
  tables = λ slot t strange there linked. ends.tables slot t (spares slot strange) there linked;
  ways = λ slot d f strange way.
      let live = (way_parts (memory_of v) slot d f way).live in
      let at : page_number (way_address v core slot d f way) ≡ slot.page = way_page v core slot d f way in
      let low = way_small v core slot d f way in
      let kept = ends.translations slot.pid d (way_address v core slot d f way) f Read low
      (ap (λ n. is_ended ended (at_page slot.pid n)) at ∙ spares slot strange) (live, way_walked v core slot d f way) in
      sym (ap (λ n. way_of (memory_of w) (at_page slot.pid n)) at)
      ∙ (ways_of later).lead slot.pid d (way_address v core slot d f way) f Read kept.0 low kept.1;
}

-- ---- Groups

-- two slots of one frame share, and slots that share have one frame
in_group : (v : View) (slot other : Slot) (m : Mapped v slot) → is_lazy m.word ≡ false
    → page_frame (memory_of v) other ≡ Some (frame_number m.word) → shares v.state slot other ≡ true
in_group v slot other m real at =
    let one : IsOneGroup (memory_of v) slot m.word other = subst (λ b. MatchBool b (other ≡ slot) (page_frame (memory_of v) other ≡ Some (frame_number m.word))) (sym real) at in
    let there : IsTrue (set.contains m.cell.holders other) = (m.stands.group other).1 one in
    ap (λ (o : Option Cell). unwrap_or (option_map (λ (c : Cell). set.contains c.holders other) o) false) m.mapped ∙ there

one_group : (v : View) (slot other : Slot) (m : Mapped v slot) → is_lazy m.word ≡ false → shares v.state slot other ≡ true
    → page_frame (memory_of v) other ≡ Some (frame_number m.word)
one_group v slot other m real is =
    let there : IsTrue (set.contains m.cell.holders other) = sym (ap (λ (o : Option Cell). unwrap_or (option_map (λ (c : Cell). set.contains c.holders other) o) false) m.mapped) ∙ is in
    subst (λ b. MatchBool b (other ≡ slot) (page_frame (memory_of v) other ≡ Some (frame_number m.word))) real ((m.stands.group other).0 there)

-- a list has nothing past the end of one that is as long
beyond : {A : Type 0} (xs ys : List A) (k : ℕ) → length ys ≡ length xs → slice_get xs k ≡ None → slice_get ys k ≡ None
beyond {A} xs ys k same none = elim (slice_get_cases xs k).1 [
  | inl t ↦ absurd (let h : ◌≡◌ {A = Option A} None (Some t.0) = sym none ∙ t.2 in cc)
  | inr t ↦ slice_get_past ys k (let past = t.0 in omega (arith, same, past))
]

not_true : (b : Bool) → (b ≡ true → ⊥) → b ≡ false
not_true true h = absurd (h refl)
not_true false h = refl

both_there : (x y : Option Cell) → option_map flags_of x ≡ option_map flags_of y → is_some x ≡ is_some y
both_there None None h = refl
both_there (Some c) (Some d) h = refl
both_there None (Some d) h = cc
both_there (Some c) None h = cc

module _ (v w : View) (own : ℕ → Bool) (before : IsCore v) (later : IsCore w) (keep : OthersKeep own v.state w.state) (stay : WaysKeep own v w) where
  -- ---- A slot of another has its word, or none
  same_there : (slot : Slot) → own slot.pid ≡ false → is_live v.state slot.pid ≡ true
      → is_some (map.get w.state.spaces slot) ≡ is_some (map.get v.state.spaces slot)
  same_there slot strange live = both_there (map.get w.state.spaces slot) (map.get v.state.spaces slot) (keep.flags slot strange live)

  module _ (slot : Slot) (strange : own slot.pid ≡ false) (m : Mapped v slot) where
    live_owner : is_live v.state slot.pid ≡ true
    live_owner = before.well_formed.owners slot m.cell m.mapped

    abbrev mapped_later : Mapped w slot
    mapped_later = mapped_slot w later slot (same_there slot strange live_owner ∙ ap is_some m.mapped)

    same_flags : flags_of mapped_later.cell ≡ flags_of m.cell
    same_flags =
        let k : ◌≡◌ {A = Option Flags} (Some (flags_of mapped_later.cell)) (Some (flags_of m.cell)) =
        sym (ap (option_map flags_of) mapped_later.mapped) ∙ keep.flags slot strange live_owner ∙ ap (option_map flags_of) m.mapped in
        cc

    abbrev its_directory : ℕ
    its_directory = (word_at_slot v before slot m.word m.there).directory

    abbrev its_frame : ℕ
    its_frame = frame_number m.word

    its_way : way_of (memory_of v) slot ≡ Some (its_directory, its_frame)
    its_way = way_whole (memory_of v) slot its_directory its_frame (record {
      live = (word_at_slot v before slot m.word m.there).live;
      names = ap (option_map frame_number) m.there;
    })

    way_later : way_of (memory_of w) slot ≡ Some (its_directory, its_frame)
    way_later = stay.ways slot its_directory its_frame strange its_way

    same_frame : frame_number mapped_later.word ≡ its_frame
    same_frame =
        let k : ◌≡◌ {A = Option ℕ} (Some (frame_number mapped_later.word)) (Some its_frame) =
        sym (ap (option_map frame_number) mapped_later.there) ∙ (way_parts (memory_of w) slot its_directory its_frame way_later).names in
        cc

    lazy_is : (u : View) → IsCore u → (x : ℕ) → page_word (memory_of u) slot ≡ Some x
        → way_of (memory_of u) slot ≡ Some (its_directory, its_frame) → is_lazy x ≡ (its_frame == 0)
    lazy_is u core x at is =
        sym (ap (λ (y : Option ℕ). unwrap_or (option_map is_lazy y) false) at) ∙ (ways_of core).lazy slot its_directory its_frame is

    same_word : mapped_later.word ≡ m.word
    same_word =
        let a = (word_at_slot v before slot m.word m.there).names in
        let b = (word_at_slot w later slot mapped_later.word mapped_later.there).names in
        table_words_by_fields mapped_later.word m.word (inr b) (inr a) same_frame
        (b.present ∙ sym a.present)
        (sym mapped_later.stands.write ∙ ap (λ (x : Flags). x.write) same_flags ∙ m.stands.write)
        (lazy_is w later mapped_later.word mapped_later.there way_later ∙ sym (lazy_is v before m.word m.there its_way))
        (sym mapped_later.stands.accessed ∙ ap (λ (x : Flags). x.accessed) same_flags ∙ m.stands.accessed)
        (sym mapped_later.stands.dirty ∙ ap (λ (x : Flags). x.dirty) same_flags ∙ m.stands.dirty)
        (sym mapped_later.stands.may ∙ ap (λ (x : Flags). x.may) same_flags ∙ m.stands.may)

  word_stays : (slot : Slot) → own slot.pid ≡ false → is_live v.state slot.pid ≡ true
      → page_word (memory_of w) slot ≡ page_word (memory_of v) slot
  word_stays slot strange live = by (is_some (map.get v.state.spaces slot)) refl
    where
      by : (b : Bool) → is_some (map.get v.state.spaces slot) ≡ b
          → page_word (memory_of w) slot ≡ page_word (memory_of v) slot
      by false none = unmapped_slot w later slot (same_there slot strange live ∙ none) ∙ sym (unmapped_slot v before slot none)
      by true there =
          let m = mapped_slot v before slot there in
          (mapped_later slot strange m).there ∙ ap (λ k. Some k) (same_word slot strange m) ∙ sym m.there

  -- ---- Tables and directories
  no_table_comes : (q region t : ℕ) → own q ≡ false → is_live v.state q ≡ true → table_at (memory_of v) q region ≡ None
      → table_at (memory_of w) q region ≡ Some t → ⊥
  no_table_comes q region t strange live none new =
      let maps : MapsInRegion w.state q region = tables_map w later.image q region t new in
      let slot : Slot = at_page q maps.page in
      let k = mapped_slot v before slot (sym (same_there slot strange live) ∙ maps.mapped) in
      let linked = from_then (λ t. present_word (memory_of v) t (word_of (memory_of v) t (index_number maps.page)))
      (table_at (memory_of v) q (slot_number maps.page)) k.word k.there in
      let e : ◌≡◌ {A = Option ℕ} None (Some linked.0) = sym none ∙ sym (ap (table_at (memory_of v) q) maps.inside) ∙ linked.1 in
      cc

  tables_same : (q region : ℕ) → own q ≡ false → is_live v.state q ≡ true
      → table_at (memory_of w) q region ≡ table_at (memory_of v) q region
  tables_same q region strange live = by (table_at (memory_of v) q region) refl (table_at (memory_of w) q region) refl
    where
      by : (x : Option ℕ) → table_at (memory_of v) q region ≡ x → (y : Option ℕ) → table_at (memory_of w) q region ≡ y
          → table_at (memory_of w) q region ≡ table_at (memory_of v) q region
      by (Some t) is y new =
          let maps : MapsInRegion v.state q region = tables_map v before.image q region t is in
          sym (ap (table_at (memory_of w) q) maps.inside)
          ∙ stay.tables (at_page q maps.page) t strange maps.mapped (ap (table_at (memory_of v) q) maps.inside ∙ is) ∙ sym is
      by None is None new = new ∙ sym is
      by None is (Some t) new = absurd (no_table_comes q region t strange live is new)

  -- who has a table is live
  has_table : (q region table : ℕ) → table_at (memory_of v) q region ≡ Some table → is_live v.state q ≡ true
  has_table q region table linked = grind (arith, from_then, lives)

  pub table_stays : (q region table index : ℕ) → own q ≡ false → table_at (memory_of v) q region ≡ Some table → index < 1024
      → (table_at (memory_of w) q region ≡ Some table)
      × (word_of (memory_of w) table index ≡ word_of (memory_of v) table index)
  table_stays q region table index strange linked inside =
      let live = has_table q region table linked in
      let new : table_at (memory_of w) q region ≡ Some table = tables_same q region strange live ∙ linked in
      let page : ℕ = region * 1024 + index in
      let of_region : slot_number page ≡ region = omega (arith, inside) in
      let at : index_number page ≡ index = omega (arith, inside) in (
        new,
        two_words (word_of (memory_of w) table index) (word_of (memory_of v) table index)
            (later.image.memory.sound.table_words q region table index new inside)
            (before.image.memory.sound.table_words q region table index linked inside)
            (sym (slot_word w later q region table index page new of_region at) ∙ word_stays (at_page q page) strange live
            ∙ slot_word v before q region table index page linked of_region at),
      )

  pub directory_stays : (q directory region : ℕ) → own q ≡ false → directory_at (memory_of v) q ≡ Some directory → region < 1024
      → IsSameButAccessed (word_of (memory_of v) directory region) (word_of (memory_of w) directory region)
  directory_stays q directory region strange home inside = by (is_user_slot region) refl
    where
      new : directory_at (memory_of w) q ≡ Some directory
      new = stay.directories q directory strange home

      a : ℕ
      a = word_of (memory_of v) directory region

      b : ℕ
      b = word_of (memory_of w) directory region

      named : (u : View) → directory_at (memory_of u) q ≡ Some directory → is_user_slot region ≡ true
          → table_at (memory_of u) q region
          ≡ (if is_present (word_of (memory_of u) directory region) then Some (frame_number (word_of (memory_of u) directory region)) else None)
      named u is user = grind arith

      by : (c : Bool) → is_user_slot region ≡ c → IsSameButAccessed a b
      by true user =
          two_dir_words a b (before.image.memory.sound.directory_words q directory region home inside)
          (later.image.memory.sound.directory_words q directory region new inside)
          (sym (named v home user) ∙ sym (tables_same q region strange (lives v before q directory home)) ∙ named w new user)
      by false out = grind (arith, a, b, new)

  -- ---- A page of another, of which these processes have none
  module _ (slot : Slot) (f : ℕ) (strange : own slot.pid ≡ false) (at : page_frame (memory_of v) slot ≡ Some f)
      (none : (mate : Slot) → own mate.pid ≡ true → page_frame (memory_of v) mate ≡ Some f → ⊥) where
    held_word : (word : ℕ) × (page_word (memory_of v) slot ≡ Some word) × (own_frame 2 word ≡ Some f)
    held_word = from_then (own_frame 2) (page_word (memory_of v) slot) f at

    is_mapped : is_some (map.get v.state.spaces slot) ≡ true
    is_mapped = by (is_some (map.get v.state.spaces slot)) refl
      where
        by : (b : Bool) → is_some (map.get v.state.spaces slot) ≡ b → is_some (map.get v.state.spaces slot) ≡ true
        by true is = is
        by false is = let k : None ≡ Some held_word.0 = sym (unmapped_slot v before slot is) ∙ held_word.1 in cc

    abbrev held : Mapped v slot
    held = mapped_slot v before slot is_mapped

    abbrev held_later : Mapped w slot
    held_later = mapped_later slot strange held

    is_word : held.word ≡ held_word.0
    is_word = let c : Some held.word ≡ Some held_word.0 = sym held.there ∙ held_word.1 in cc

    real : is_lazy held.word ≡ false
    real = ap is_lazy is_word ∙ (owned held_word.0 f held_word.2).0

    on_frame : frame_number held.word ≡ f
    on_frame = ap frame_number is_word ∙ (owned held_word.0 f held_word.2).1

    alone : IsAlone v.state own slot
    alone mate his = not_true (shares v.state slot mate) (λ is. none mate his (one_group v slot mate held real is ∙ ap (λ k. Some k) on_frame))

    still_real : is_lazy held_later.word ≡ false
    still_real = ap is_lazy (same_word slot strange held) ∙ real

    still_on : frame_number held_later.word ≡ f
    still_on = ap frame_number (same_word slot strange held) ∙ on_frame

    pub page_keeps : page_frame (memory_of w) slot ≡ Some f
    page_keeps = ap (option_and_then (own_frame 2)) held_later.there ∙ own_is held_later.word still_real ∙ ap (λ k. Some k) still_on

    pub page_stays : frame_bytes w.bytes f ≡ frame_bytes v.bytes f
    page_stays =
        sym (ap (frame_bytes w.bytes) still_on) ∙ sym held_later.stands.bytes
        ∙ keep.bytes slot held.cell held_later.cell strange alone held.mapped held_later.mapped ∙ held.stands.bytes ∙ ap (frame_bytes v.bytes) on_frame

    -- and none of these processes comes to have it
    pub none_comes : (mate : Slot) → own mate.pid ≡ true → page_frame (memory_of w) mate ≡ Some f → ⊥
    none_comes mate his there =
        let shared : shares w.state slot mate ≡ true = in_group w slot mate held_later still_real (there ∙ ap (λ k. Some k) (sym still_on)) in
        let k : false ≡ true = sym (keep.alone slot strange alone mate his) ∙ shared in
        cc

  -- ---- By frames
  same_length : length w.roles ≡ length v.roles
  same_length = sym (root_quota w later) ∙ ap (λ n. 1 + n) keep.root ∙ root_quota v before

  module _ (f : ℕ) (may : MayWriteAlong v own f → ⊥) where
    not_his : (q : ℕ) → IsOf (memory_of v) q f → own q ≡ false
    not_his q his = not_true (own q) (λ is. may (inr (q, is, his)))

    -- what a frame of a process serves
    abbrev ServesIt : ℕ → Type 0
    ServesIt p = (slice_get w.roles f ≡ Some (Directory p)) ⊎ (((s : ℕ) × (slice_get w.roles f ≡ Some (Table p s))) ⊎ ((c : ℕ) × (slice_get w.roles f ≡ Some (Page c))))

    serves_it : (p : ℕ) → IsOf (memory_of w) p f → ServesIt p
    serves_it p (inl d) = inl ((later.image.memory.sound.directories f p).1 d)
    serves_it p (inr (inl t)) = inr (inl (t.0, (later.image.memory.sound.tables f p t.0).1 t.1))
    serves_it p (inr (inr t)) = inr (inr (later.image.memory.sound.pages (at_page p t.0) f t.1))

    -- with this role it is neither free nor of one of these processes, unless it is a page
    abbrev IsTheirs : Option Role → Type 0
    IsTheirs role = (p : ℕ) → own p ≡ true → ServesIt p → slice_get w.roles f ≡ role → ⊥

    no_role : IsTheirs None
    no_role p is (inl d) at = cc
    no_role p is (inr (inl t)) at = let k : None ≡ Some (Table p t.0) = sym at ∙ t.1 in cc
    no_role p is (inr (inr t)) at = let k : None ≡ Some (Page t.0) = sym at ∙ t.1 in cc

    not_reserved : IsTheirs (Some Reserved)
    not_reserved p is (inl d) at = let k : Some Reserved ≡ Some (Directory p) = sym at ∙ d in cc
    not_reserved p is (inr (inl t)) at = let k : Some Reserved ≡ Some (Table p t.0) = sym at ∙ t.1 in cc
    not_reserved p is (inr (inr t)) at = let k : Some Reserved ≡ Some (Page t.0) = sym at ∙ t.1 in cc

    no_directory : (q : ℕ) → own q ≡ false → IsTheirs (Some (Directory q))
    no_directory q strange p is (inl d) at =
        let k : Some (Directory q) ≡ Some (Directory p) = sym at ∙ d in
        let same : q ≡ p = cc in
        let both : false ≡ true = sym strange ∙ ap own same ∙ is in cc
    no_directory q strange p is (inr (inl t)) at = let k : Some (Directory q) ≡ Some (Table p t.0) = sym at ∙ t.1 in cc
    no_directory q strange p is (inr (inr t)) at = let k : Some (Directory q) ≡ Some (Page t.0) = sym at ∙ t.1 in cc

    no_table : (q s : ℕ) → own q ≡ false → IsTheirs (Some (Table q s))
    no_table q s strange p is (inl d) at = let k : Some (Table q s) ≡ Some (Directory p) = sym at ∙ d in cc
    no_table q s strange p is (inr (inl t)) at =
        let k : Some (Table q s) ≡ Some (Table p t.0) = sym at ∙ t.1 in
        let same : q ≡ p = cc in
        let both : false ≡ true = sym strange ∙ ap own same ∙ is in cc
    no_table q s strange p is (inr (inr t)) at = let k : Some (Table q s) ≡ Some (Page t.0) = sym at ∙ t.1 in cc

    no_page : (slot : Slot) (c : ℕ) (strange : own slot.pid ≡ false) (here : page_frame (memory_of v) slot ≡ Some f)
        → slice_get w.roles f ≡ Some (Page c) → (p : ℕ) → own p ≡ true → IsOf (memory_of w) p f → ⊥
    no_page slot c strange here at p is (inl d) = let k : Some (Page c) ≡ Some (Directory p) = sym at ∙ (later.image.memory.sound.directories f p).1 d in cc
    no_page slot c strange here at p is (inr (inl t)) = let k : Some (Page c) ≡ Some (Table p t.0) = sym at ∙ (later.image.memory.sound.tables f p t.0).1 t.1 in cc
    no_page slot c strange here at p is (inr (inr t)) = none_comes slot f strange here apart (at_page p t.0) is t.1
      where
        apart : (mate : Slot) → own mate.pid ≡ true → page_frame (memory_of v) mate ≡ Some f → ⊥
        apart mate his there = may (inr (mate.pid, his, inr (inr (mate.page, there))))

    stays_so : (role : Option Role) → slice_get w.roles f ≡ role → (Some Free ≢ role)
        → ((p : ℕ) → own p ≡ true → IsOf (memory_of w) p f → ⊥) → MayWriteAlong w own f → ⊥
    stays_so role at used none (inl free) = used (sym free ∙ at)
    stays_so role at used none (inr his) = none his.0 his.1 his.2

    is_left : (role : Option Role) → slice_get v.roles f ≡ role → Leaves v w own f
    is_left None is =
        let at : slice_get w.roles f ≡ None = beyond v.roles w.roles f same_length is in
        record {
          stands = subst (StandsAsBefore v w f) (sym is) tt;
          serves = subst (λ r. ServesAlike r (slice_get w.roles f)) (sym is) at;
          stays = stays_so None at (λ k. cc) (λ p mine his. no_role p mine (serves_it p his) at);
        }
    is_left (Some Reserved) is =
        let inside = slice_get_within v.roles f Reserved is in
        let zero = (before.image.memory.sound.reserved f inside).0 is in
        let at = (later.image.memory.sound.reserved f (let l = same_length in omega (arith, l, inside))).1 zero in
        let bytes = ap (frame_bytes w.bytes) zero ∙ later.image.memory.sound.zero_frame ∙ sym before.image.memory.sound.zero_frame ∙ sym (ap (frame_bytes v.bytes) zero) in
        record {
          stands = subst (StandsAsBefore v w f) (sym is) bytes;
          serves = subst (λ r. ServesAlike r (slice_get w.roles f)) (sym is) at;
          stays = stays_so (Some Reserved) at (λ k. cc) (λ p mine his. not_reserved p mine (serves_it p his) at);
        }
    is_left (Some Free) is = absurd (may (inl is))
    is_left (Some (Directory q)) is =
        let home = (before.image.memory.sound.directories f q).0 is in
        let strange = not_his q (inl home) in
        let at = (later.image.memory.sound.directories f q).1 (stay.directories q f strange home) in
        record {
          stands = subst (StandsAsBefore v w f) (sym is) (λ index inside. directory_stays q f index strange home inside);
          serves = subst (λ r. ServesAlike r (slice_get w.roles f)) (sym is) at;
          stays = stays_so (Some (Directory q)) at (λ k. cc) (λ p mine his. no_directory q strange p mine (serves_it p his) at);
        }
    is_left (Some (Table q s)) is =
        let linked = (before.image.memory.sound.tables f q s).0 is in
        let strange = not_his q (inr (inl (s, linked))) in
        let at = (later.image.memory.sound.tables f q s).1 (table_stays q s f 0 strange linked (omega arith)).0 in
        record {
          stands = subst (StandsAsBefore v w f) (sym is) (λ index inside. (table_stays q s f index strange linked inside).1);
          serves = subst (λ r. ServesAlike r (slice_get w.roles f)) (sym is) at;
          stays = stays_so (Some (Table q s)) at (λ k. cc) (λ p mine his. no_table q s strange p mine (serves_it p his) at);
        }
    is_left (Some (Page c)) is =
        let counted = before.image.memory.sound.counts f c is in
        let up = counted.0 in
        let count = counted.1.count in
        let one = some_member counted.1.members (omega (arith, up, count)) in
        let slot = one.0 in
        let here = (counted.1.are slot).0 one.1 in
        let strange = not_his slot.pid (inr (inr (slot.page, here))) in
        let apart : (mate : Slot) → own mate.pid ≡ true → page_frame (memory_of v) mate ≡ Some f → ⊥ =
        λ mate his there. may (inr (mate.pid, his, inr (inr (mate.page, there)))) in
        let after = later.image.memory.sound.pages slot f (page_keeps slot f strange here apart) in
        record {
          stands = subst (StandsAsBefore v w f) (sym is) (page_stays slot f strange here apart);
          serves = subst (λ r. ServesAlike r (slice_get w.roles f)) (sym is) (after.0, after.1);
          stays = stays_so (Some (Page after.0)) after.1 (λ k. cc) (λ p mine his. no_page slot after.0 strange here after.1 p mine his);
        }

  pub leaves : WriteTheirOwn v w own
  leaves f may = is_left f may (slice_get v.roles f) refl
