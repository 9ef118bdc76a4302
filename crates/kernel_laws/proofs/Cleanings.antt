-- What clearing accessed and dirty of a slot leaves and breaks.
use Rattle.kernel_laws.proofs.Prelude.{◌≡◌, ℕ, ◌^◌, ◌<◌, not, Bool, true, false, [], ◌∷◌, refl, sym, ap, ◌∙◌, is_some, Some, None, arith, if◌then◌else◌, page_number, start_number, some_value, kept, Read, Write, Cell, at_page, slot_at, is_live, View, get-inserted_other, page_is_user, cleaned, EndsMarks, answer, refused_or, info_of, info_of_page, is_ended, Translation, IsGiven, Kept, translation, directory_entry, IsRead, AreRead, is_invalidated, left_by, Reply, Ended, CleaningKeepsStates, CleaningIsUnseen, KeptThroughMarks, KeptAmongMarks, CleaningIsNoEvent, CleaningShows, well_formed-cleaned, entry_left, through, clean, there, get_clean, same_at}
use Rattle.page_words.specs.FiniteMap as map
use Rattle.process_table.specs.declared.causes.Cause.TheVariants as cause
use Rattle.kernel_calls.specs.declared.calls.Reply.TheVariants as reply

pub cleaning_keeps_states : CleaningKeepsStates
cleaning_keeps_states = well_formed-cleaned

pub cleaning_is_unseen : CleaningIsUnseen
cleaning_is_unseen s slot h mapped none = grind (arith, get-inserted_other, same_at, some_value)

pub cleaning_is_no_event : CleaningIsNoEvent
cleaning_is_no_event s slot c ended v w at marked before after ends = grind (arith, get_clean)

pub cleaning_shows : CleaningShows
cleaning_shows s p page c w at marked same =
    let slot = at_page p page in
    let live : is_live s p ≡ true = w.owners slot c at in
    let user = page_is_user page (w.cells slot c at).user in
    let t = cleaned s slot in
    let told : answer s (info_of_page p page) ≡ info_of c =
    (λ i. if live i then refused_or (if not (user i) then Some cause.BadPage else if not (ap is_some at i) then Some cause.NotMapped else None) (info_of (there s slot c at i)) else reply.Refused cause.NoProcess) in
    let later : answer t (info_of_page p page) ≡ info_of (clean c) =
    (λ i. if live i then refused_or (if not (user i) then Some cause.BadPage else if not (ap is_some (get_clean s slot c at) i) then Some cause.NotMapped else None) (info_of (there t slot (clean c) (get_clean s slot c at) i)) else reply.Refused cause.NoProcess) in
    let k : info_of (clean c) ≡ info_of c = sym later ∙ same ∙ told in
    let l : false ≡ c.accessed = ap accessed_in k in
    let m : false ≡ true = l ∙ marked in
    cc
  where
    accessed_in : Reply → Bool
    accessed_in (reply.Info write may accessed dirty holders) = accessed
    accessed_in _ = false

-- ---- What is kept

-- a translation that is given stays given, where it isn't ended
given_left : (ended : Ended) (v w : View) (t : Translation) → EndsMarks ended v w → is_ended ended t.slot ≡ false → IsGiven v t → IsGiven w t
given_left ended v w t ends spared given =
    let first : ℕ = start_number t.slot.page in
    let first_small : first < 2 ^ 32 = let l = given.page in omega (arith, l) in
    let first_page : page_number first ≡ t.slot.page = omega arith in
    let here : (d : Cell) × (map.get w.state.spaces t.slot ≡ Some d) = some_value (map.get w.state.spaces t.slot)
    (ends.slots t.slot spared (ap is_some given.mapped)) in
    record {
      page = given.page;
      directory = given.directory;
      live = (ends.translations t.slot.pid given.directory first t.frame Read first_small (at first first_page) (given.live, given.read first first_small first_page)).0;
      read = λ a small page. (ends.translations t.slot.pid given.directory a t.frame Read small (at a page) (given.live, given.read a small page)).1;
      written = λ w a small page. (ends.translations t.slot.pid given.directory a t.frame Write small (at a page) (given.live, given.written w a small page)).1;
      cell = here.0;
      mapped = here.1;
      accessed = (ends.flags t.slot given.cell here.0 spared given.mapped here.1).0 given.accessed;
      dirty = λ kept. (ends.flags t.slot given.cell here.0 spared given.mapped here.1).1 (given.dirty kept);
    }
  where
    at : (a : ℕ) → page_number a ≡ t.slot.page → is_ended ended (slot_at t.slot.pid a) ≡ false
    at a page = ap (λ n. is_ended ended (at_page t.slot.pid n)) page ∙ spared

read_left : (ended : Ended) (v w : View) (k : Kept) → EndsMarks ended v w → is_invalidated ended k ≡ false → IsRead v k → IsRead w k
read_left ended v w (translation t) ends spared given = given_left ended v w t ends spared given
read_left ended v w (directory_entry e) ends spared given = entry_left ended v w e.pid e.region e.table ends.linked ends.tables spared given

pub kept_through_marks : KeptThroughMarks
kept_through_marks ended v w [] ends given = tt
kept_through_marks ended v w (k ∷ kept) ends given = by (is_invalidated ended k) refl (kept_through_marks ended v w kept ends given.1)
  where
    by : (b : Bool) → is_invalidated ended k ≡ b → AreRead w (left_by ended kept) → AreRead w (if b then left_by ended kept else k ∷ left_by ended kept)
    by true is rest = rest
    by false is rest = (read_left ended v w k ends is given.0, rest)

pub kept_among_marks : KeptAmongMarks
kept_among_marks v x kept last keeping given = through EndsMarks kept_through_marks keeping given
