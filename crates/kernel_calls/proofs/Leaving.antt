-- What an event leaves of all that processors may keep.
use Rattle.kernel_calls.proofs.Prelude.{◌≡◌, ◌<◌, ◌^◌, ℕ, Bool, true, false, List, [], ◌∷◌, refl, ap, sym, ◌∙◌, subst, arith, Option, Some, None, is_some, eq-eqb, if◌then◌else◌, page_number, slot_number, start_number, same-true, ne_eqb, Read, Write, table_at, Slot, Cell, at_page, slot_at, FramesStay, none_goes, memory_of, State, View, IsWellFormed, IsCore, gone_by, answer, after, next, completes, TablesMap, TablesStay, is_ended, ended_by, FlagsStay, Ends, Translation, IsGiven, Kept, IsRead, AreRead, ends_in_region, is_invalidated, left_by, Keeps, change, walk, Keeping, nothing, onward, KeptAreGiven, KeptThroughRuns, Call, Event, Ended, stays_most}
use Rattle.kernel_calls.proofs.Decided.{next-stays, next-goes}
use Rattle.kernel_calls.proofs.Ends.{ends_no_more, without_gone}
use Rattle.kernel_calls.proofs.Linked.{directories_stay, tables_stay, tables_map}
use Rattle.kernel_calls.proofs.Flags.{IsFlag, has, own, accessed_is_flag, dirty_is_flag, Spared, keeps_call}
use Rattle.kernel_calls.proofs.Translated.{translations_stay, slots_stay, found_by}
use Rattle.kernel_calls.proofs.Untouched.{caller_live}
use Rattle.page_words.specs.FiniteMap as map
use Rattle.kernel_calls.specs.declared.calls.Call.TheVariants as call
use Rattle.kernel_calls.specs.declared.translations.Ended.TheVariants as end

-- ---- Flags

-- a slot that is mapped behind a call is spared by it, where the flag is no right
mapped_spared : (flag : Cell → Bool) (F : IsFlag flag) → ((c : Cell) (w : Bool) → flag (record c { write = w }) ≡ flag c) → (s : State) (p : ℕ) (c : Call) (slot : Slot) → has flag (map.get s.spaces slot) ≡ true
    → is_some (map.get (after s p c).spaces slot) ≡ true → Spared flag F s p c slot
mapped_spared flag F alike s p c slot h there = grind (arith, without_gone, own, has)

-- so no event clears it in a slot that is mapped before and behind it
flag_kept : (flag : Cell → Bool) → IsFlag flag → ((c : Cell) (w : Bool) → flag (record c { write = w }) ≡ flag c) → (s : State) (e : Event) (slot : Slot) → IsWellFormed s
    → is_some (map.get (next s e).spaces slot) ≡ true → has flag (map.get s.spaces slot) ≡ true → has flag (map.get (next s e).spaces slot) ≡ true
flag_kept flag F alike s e slot well there h = by (completes (answer s e)) refl
  where
    by : (b : Bool) → completes (answer s e) ≡ b → has flag (map.get (next s e).spaces slot) ≡ true
    by false is = ap (λ (t : State). has flag (map.get t.spaces slot)) (next-stays s e is) ∙ h
    by true is =
        let goes = next-goes s e is in
        ap (λ (t : State). has flag (map.get t.spaces slot)) goes
        ∙ keeps_call flag F s e.pid e.call slot well (caller_live s e is).1
        (mapped_spared flag F alike s e.pid e.call slot h (sym (ap (λ (t : State). is_some (map.get t.spaces slot)) goes) ∙ there)) h

flags_stay : (s t : State) (e : Event) → IsWellFormed s → t ≡ next s e → FlagsStay s t
flags_stay s t e well state slot c d was is =
    let there : is_some (map.get (next s e).spaces slot) ≡ true = sym (ap (λ (x : State). is_some (map.get x.spaces slot)) state) ∙ ap is_some is in
    let now : map.get (next s e).spaces slot ≡ Some d = sym (ap (λ (x : State). map.get x.spaces slot) state) ∙ is in (
      λ h. sym (ap (has (λ c. c.accessed)) now) ∙ flag_kept (λ c. c.accessed) accessed_is_flag (λ c w. refl) s e slot well there (ap (has (λ c. c.accessed)) was ∙ h),
      λ h. sym (ap (has (λ c. c.dirty)) now) ∙ flag_kept (λ c. c.dirty) dirty_is_flag (λ c w. refl) s e slot well there (ap (has (λ c. c.dirty)) was ∙ h),
    )

-- ---- All of it

pub event_ends : (v w : View) (e : Event) → IsCore v → IsCore w → w.state ≡ next v.state e → FramesStay (gone_by v.state e) (memory_of v) (memory_of w) → Ends (ended_by v e) v w
event_ends v w e now later state stay = record {
  translations = translations_stay v w e now later state stay;
  no_more = ends_no_more v w e now later state;
  found = found_by v now e;
  slots = slots_stay v w e now.well_formed state;
  flags = flags_stay v.state w.state e now.well_formed state;
  directories = directories_stay v w e stay;
  tables = tables_stay v w e now stay;
  linked = tables_map v now.image;
}

-- a call that asks for the quota, which changes nothing
abbrev asks : Event
asks = record { cpu = 0; pid = 0; call = call.Quota }

asks_stays : (s : State) → next s asks ≡ s
asks_stays s = grind (arith, next-stays, next-goes)

asks_ends_none : (v : View) → ended_by v asks ≡ end.Nothing
asks_ends_none v = grind arith

-- so does whatever leaves the state and all ways
pub nothing_ends : (v w : View) → IsCore v → IsCore w → w.state ≡ v.state → FramesStay none_goes (memory_of v) (memory_of w) → Ends end.Nothing v w
nothing_ends v w now later state stay =
    subst (λ (x : Ended). Ends x v w) (asks_ends_none v)
    (event_ends v w asks now later (state ∙ sym (asks_stays v.state)) (stays_most stay))

-- ---- What is kept

-- what is given stays given, where it isn't invalidated
given_stays : (ended : Ended) (v w : View) (t : Translation) → Ends ended v w → is_ended ended t.slot ≡ false → IsGiven v t → IsGiven w t
given_stays ended v w t ends spared given =
    let first : ℕ = start_number t.slot.page in
    let first_small : first < 2 ^ 32 = let l = given.page in omega (arith, l) in
    let first_page : page_number first ≡ t.slot.page = omega arith in
    let there : (d : Cell) × (map.get w.state.spaces t.slot ≡ Some d) = some_cell (map.get w.state.spaces t.slot)
    (ends.slots t.slot spared (ap is_some given.mapped)) in
    record {
      page = given.page;
      directory = given.directory;
      live = (ends.translations t.slot.pid given.directory first t.frame Read first_small (at first first_page) (given.live, given.read first first_small first_page)).0;
      read = λ a small page. (ends.translations t.slot.pid given.directory a t.frame Read small (at a page) (given.live, given.read a small page)).1;
      written = λ w a small page. (ends.translations t.slot.pid given.directory a t.frame Write small (at a page) (given.live, given.written w a small page)).1;
      cell = there.0;
      mapped = there.1;
      accessed = (ends.flags t.slot given.cell there.0 given.mapped there.1).0 given.accessed;
      dirty = λ kept. (ends.flags t.slot given.cell there.0 given.mapped there.1).1 (given.dirty kept);
    }
  where
    at : (a : ℕ) → page_number a ≡ t.slot.page → is_ended ended (slot_at t.slot.pid a) ≡ false
    at a page = ap (λ n. is_ended ended (at_page t.slot.pid n)) page ∙ spared

    some_cell : (x : Option Cell) → is_some x ≡ true → (d : Cell) × (x ≡ Some d)
    some_cell None h = cc
    some_cell (Some d) h = (d, refl)

-- no slot of a region is ended, where none of its pages is
pub region_spared : (ended : Ended) (p page : ℕ) → ends_in_region ended p (slot_number page) ≡ false
    → is_ended ended (at_page p page) ≡ false
region_spared ended p page spared = grind (arith, same-true, eq-eqb, ne_eqb)

-- so an entry of a directory stays where it isn't invalidated
pub entry_left : (ended : Ended) (v w : View) (p region table : ℕ) → TablesMap v → TablesStay ended v w
    → ends_in_region ended p region ≡ false
    → table_at (memory_of v) p region ≡ Some table → table_at (memory_of w) p region ≡ Some table
entry_left ended v w p region table all stay spared linked =
    let m = all p region table linked in
    let here : table_at (memory_of v) p (slot_number m.page) ≡ Some table = ap (table_at (memory_of v) p) m.inside ∙ linked in
    sym (ap (table_at (memory_of w) p) m.inside)
    ∙ stay (at_page p m.page) table
    (region_spared ended p m.page (ap (ends_in_region ended p) m.inside ∙ spared)) m.mapped here

pub entry_stays : (ended : Ended) (v w : View) (p region table : ℕ) → Ends ended v w
    → ends_in_region ended p region ≡ false
    → table_at (memory_of v) p region ≡ Some table → table_at (memory_of w) p region ≡ Some table
entry_stays ended v w p region table ends = entry_left ended v w p region table ends.linked ends.tables

-- what is kept is read afterwards, where it isn't invalidated
read_stays : (ended : Ended) (v w : View) (k : Kept) → Ends ended v w → is_invalidated ended k ≡ false → IsRead v k → IsRead w k
read_stays ended v w k ends spared given = grind (arith, given_stays, entry_stays)

pub left_read : (ended : Ended) (v w : View) (kept : List Kept) → Ends ended v w → AreRead v kept → AreRead w (left_by ended kept)
left_read ended v w [] ends given = tt
left_read ended v w (k ∷ kept) ends given = by (is_invalidated ended k) refl (left_read ended v w kept ends given.1)
  where
    by : (b : Bool) → is_invalidated ended k ≡ b → AreRead w (left_by ended kept) → AreRead w (if b then left_by ended kept else k ∷ left_by ended kept)
    by true is rest = rest
    by false is rest = (read_stays ended v w k ends is given.0, rest)

-- steps keep what walks read, where each change does
module _ (Leaves : Ended → View → View → Type 0)
    (left : (ended : Ended) (v w : View) (kept : List Kept) → Leaves ended v w → AreRead v kept → AreRead w (left_by ended kept)) where
  one : {v w : View} {kept between : List Kept} → Keeps Leaves v kept w between → AreRead v kept → AreRead w between
  one {v} {w} {kept} (change {ended = ended} leaves) given = left ended v w kept leaves given
  one (walk gives) given = (gives, given)

  pub through : {v x : View} {kept last : List Kept} → Keeping Leaves v kept x last → AreRead v kept → AreRead x last
  through nothing given = given
  through (onward step more) given = through more (one step given)

pub kept_given : KeptAreGiven
kept_given v x kept last keeping given = through Ends left_read keeping given

pub kept_through_runs : KeptThroughRuns
kept_through_runs v w (e ∷ events) (x ∷ ended) kept along given =
    kept_through_runs along.0 w events ended (left_by x kept) along.3
    (left_read x v along.0 kept (subst (λ (y : Ended). Ends y v along.0) (sym along.1) along.2.ends) given)
kept_through_runs v w _ _ kept along given = grind arith
