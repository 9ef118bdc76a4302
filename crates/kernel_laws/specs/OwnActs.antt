-- What those acts write that aren't carried out event by event: only what was free, and what is of their process. The
-- premises of each law are what the act's contract says.
use Rattle.std.specs.Prelude.{◌≡◌, ◌==◌, ℕ, Bool, List}
use Rattle.page_words.specs.Addresses.{page_number}
use Rattle.address_space.specs.Spaces.{at_page}
use Rattle.address_space.specs.Stays.{FramesStay, none_goes}
use Rattle.process_table.specs.Image.{memory_of}
use Rattle.process_table.specs.View.{View}
use Rattle.kernel_acts.specs.Installed.{Installs}
use Rattle.kernel_acts.specs.Loaded.{Loads}
use Rattle.kernel_acts.specs.Transfers.{carried, loads, of_lazy_pages, stores}
use Rattle.kernel_calls.specs.Cleaned.{EndsMarks, cleaned}
use Rattle.kernel_calls.specs.Machine.{end_of}
use Rattle.kernel_calls.specs.Processors.{IsCore}
use Rattle.kernel_laws.specs.OwnRuns.{WriteTheirOwn}
use Rattle.kernel_calls.specs.declared.translations.Ended.TheVariants as end

-- this process alone
abbrev pub only : ℕ → ℕ → Bool
only p q = q == p

-- bytes of its memory are read (`read_bytes`)
abbrev pub ReadsWriteTheirOwn : Type 0
ReadsWriteTheirOwn = (v w : View) (p address count : ℕ) → IsCore v → IsCore w
    → w.state ≡ end_of v.state (carried v.state (loads p address count))
    → FramesStay none_goes (memory_of v) (memory_of w) → WriteTheirOwn v w (only p)

-- these are written, of which so many go (`write_bytes`)
abbrev pub CopiesWriteTheirOwn : Type 0
CopiesWriteTheirOwn = (v w : View) (p address count : ℕ) (bytes : List ℕ) → IsCore v → IsCore w
    → w.state ≡ end_of v.state (carried v.state (stores p address bytes))
    → FramesStay (of_lazy_pages p address count) (memory_of v) (memory_of w) → WriteTheirOwn v w (only p)

-- these are put into one of its pages, whatever its right there (`install`)
abbrev pub InstallsWriteTheirOwn : Type 0
InstallsWriteTheirOwn = (v w : View) (p address : ℕ) (part : List ℕ) (write : Bool) → IsCore v → IsCore w
    → Installs v.state p address part write w.state → EndsMarks (end.Page p (page_number address)) v w
    → WriteTheirOwn v w (only p)

-- and into its pages, one after the other (`load_bytes`)
abbrev pub LoadsWriteTheirOwn : Type 0
LoadsWriteTheirOwn = (v w : View) (p address : ℕ) (bytes : List ℕ) (write : Bool) → IsCore v
    → Loads p address write v bytes w → WriteTheirOwn v w (only p)

-- the marks of one of its pages are cleared (`Core::clean`)
abbrev pub CleaningWritesItsOwn : Type 0
CleaningWritesItsOwn = (v w : View) (p page : ℕ) → IsCore v → IsCore w → w.state ≡ cleaned v.state (at_page p page)
    → EndsMarks (end.Page p page) v w → WriteTheirOwn v w (only p)
