-- Acts of many bytes write only what was free and what is of their process.
use Rattle.std.proofs.Common.{◌≡◌, ◌+◌, ◌++◌, ◌==◌, ℕ, zero, suc, Bool, true, false, List, [], ◌∷◌, length, refl, sym, subst, arith}
use Rattle.std.specs.Prelude.{if◌then◌else◌}
use Rattle.page_words.proofs.MapLemmas.{same-true}
use Rattle.page_words.specs.Addresses.{page_number}
use Rattle.address_space.specs.Spaces.{at_page}
use Rattle.address_space.specs.Stays.{none_goes}
use Rattle.kernel_acts.specs.Installed.{closing, install_run, is_writable_at, map_of, opening, protect_of}
use Rattle.kernel_acts.specs.Loaded.{Loads, no_page, page_more}
use Rattle.kernel_acts.specs.Transfers.{carried, loads, of_lazy_pages, stores}
use Rattle.kernel_calls.specs.Machine.{answer, completes, end_of, next}
use Rattle.kernel_calls.specs.Processors.{IsCore}
use Rattle.kernel_calls.specs.declared.calls.Event.{Event}
use Rattle.process_table.specs.State.{State, is_mapped}
use Rattle.process_table.specs.View.{View}
use Rattle.kernel_laws.proofs.OthersKeep.{OthersKeep, cleaning_keeps, run_keeps}
use Rattle.kernel_laws.proofs.OthersStand.{EndOfThese, GoOfThese, leaves, ways_by_frames, ways_by_marks}
use Rattle.kernel_laws.proofs.OwnRuns.{leaving_composes}
use Rattle.kernel_laws.specs.OwnActs.{CleaningWritesItsOwn, CopiesWriteTheirOwn, InstallsWriteTheirOwn, LoadsWriteTheirOwn, ReadsWriteTheirOwn, only}
use Rattle.kernel_laws.specs.OwnRuns.{AreOwn, WriteTheirOwn}
use Rattle.kernel_calls.specs.declared.translations.Ended.TheVariants as end

-- ---- Whose events they are

itself : (p : ℕ) → (p == p) ≡ true
itself p = grind arith

own_loads : (p address n : ℕ) → AreOwn (only p) (loads p address n)
own_loads p address zero = tt
own_loads p address (suc n) = (record { mine = itself p; takes_none = λ g k at is. cc }, own_loads p (address + 1) n)

own_stores : (p address : ℕ) (bytes : List ℕ) → AreOwn (only p) (stores p address bytes)
own_stores p address [] = tt
own_stores p address (byte ∷ bytes) = (record { mine = itself p; takes_none = λ g k at is. cc }, own_stores p (address + 1) bytes)

own_first : (own : ℕ → Bool) (s : State) (events : List Event) → AreOwn own events → AreOwn own (carried s events)
own_first own s [] mine = tt
own_first own s (e ∷ events) mine = by (completes (answer s e)) (own_first own (next s e) events mine.1)
  where
    by : (b : Bool) → AreOwn own (carried (next s e) events) → AreOwn own (if b then e ∷ carried (next s e) events else [])
    by true rest = (mine.0, rest)
    by false rest = tt

own_both : (own : ℕ → Bool) (first second : List Event) → AreOwn own first → AreOwn own second → AreOwn own (first ++ second)
own_both own [] second mine more = more
own_both own (e ∷ first) second mine more = (mine.0, own_both own first second mine.1 more)

own_opening : (s : State) (p page : ℕ) → AreOwn (only p) (opening s p page)
own_opening s p page = by (is_writable_at s (at_page p page)) (is_mapped s (at_page p page))
  where
    by : (a b : Bool) → AreOwn (only p) (if a then [] else if b then protect_of p page true ∷ [] else map_of p page true ∷ [])
    by true b = tt
    by false true = (record { mine = itself p; takes_none = λ g k at is. cc }, tt)
    by false false = (record { mine = itself p; takes_none = λ g k at is. cc }, tt)

own_closing : (p page : ℕ) (write : Bool) → AreOwn (only p) (closing p page write)
own_closing p page true = tt
own_closing p page false = (record { mine = itself p; takes_none = λ g k at is. cc }, tt)

own_install : (s : State) (p address : ℕ) (part : List ℕ) (write : Bool) → AreOwn (only p) (install_run s p address part write)
own_install s p address part write =
    own_both (only p) (opening s p (page_number address)) (stores p address part ++ closing p (page_number address) write)
    (own_opening s p (page_number address))
    (own_both (only p) (stores p address part) (closing p (page_number address) write) (own_stores p address part)
    (own_closing p (page_number address) write))

-- ---- Whose ways go

none_of_others : (p : ℕ) → GoOfThese (only p) none_goes
none_of_others p slot frame strange = refl

lazy_of_others : (p address count : ℕ) → GoOfThese (only p) (of_lazy_pages p address count)
lazy_of_others p address count slot frame strange = grind arith

page_of_others : (p page : ℕ) → EndOfThese (only p) (end.Page p page)
page_of_others p page slot strange = grind (arith, same-true)

-- ---- The acts

-- the state after such a run, to others
keeps : (v w : View) (p : ℕ) (events : List Event) → IsCore v → AreOwn (only p) events → w.state ≡ end_of v.state events
    → OthersKeep (only p) v.state w.state
keeps v w p events core mine state =
    subst (OthersKeep (only p) v.state) (sym state) (run_keeps (only p) v.state events core.well_formed mine)

pub reads_write_their_own : ReadsWriteTheirOwn
reads_write_their_own v w p address count core later state stay =
    leaves v w (only p) core later
    (keeps v w p (carried v.state (loads p address count)) core (own_first (only p) v.state (loads p address count) (own_loads p address count)) state)
    (ways_by_frames (only p) none_goes v w core (none_of_others p) stay)

pub copies_write_their_own : CopiesWriteTheirOwn
copies_write_their_own v w p address count bytes core later state stay =
    leaves v w (only p) core later
    (keeps v w p (carried v.state (stores p address bytes)) core (own_first (only p) v.state (stores p address bytes) (own_stores p address bytes)) state)
    (ways_by_frames (only p) (of_lazy_pages p address count) v w core (lazy_of_others p address count) stay)

pub installs_write_their_own : InstallsWriteTheirOwn
installs_write_their_own v w p address part write core later run ends =
    leaves v w (only p) core later
    (keeps v w p (install_run v.state p address part write) core (own_install v.state p address part write) (sym run.after))
    (ways_by_marks (only p) (end.Page p (page_number address)) v w core later (page_of_others p (page_number address)) ends)

-- each state of a load is a core's, and page after page leaves others so
loaded : (p address : ℕ) (write : Bool) (v : View) → IsCore v → (bytes : List ℕ) (w : View) → Loads p address write v bytes w
    → IsCore w × WriteTheirOwn v w (only p)
loaded p address write v core bytes w no_page = (core, leaving_composes.none v (only p))
loaded p address write v core bytes w (page_more {before} part {u} first some within run state ends later) =
    let before_it = loaded p address write v core before u first in (
      later,
      leaving_composes.both v u w (only p) before_it.1
          (installs_write_their_own u w p (address + length before) part write before_it.0 later run ends),
    )

pub loads_write_their_own : LoadsWriteTheirOwn
loads_write_their_own v w p address bytes write core loads = (loaded p address write v core bytes w loads).1

pub cleaning_writes_its_own : CleaningWritesItsOwn
cleaning_writes_its_own v w p page core later state ends =
    leaves v w (only p) core later
    (subst (OthersKeep (only p) v.state) (sym state) (cleaning_keeps (only p) v.state (at_page p page) (itself p)))
    (ways_by_marks (only p) (end.Page p page) v w core later (page_of_others p page) ends)
