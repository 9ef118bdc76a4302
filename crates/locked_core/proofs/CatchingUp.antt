-- A report that takes in a log from a place on, and the side that is not published.
use Rattle.std.proofs.Common.{◌≡◌, ℕ, ◌+◌, ◌<◌, List, [], ◌∷◌, ◌++◌, take, drop, length, refl, sym, ap, ◌∙◌, subst, append_assoc}
use Rattle.std.proofs.Math.ListN.{get_or}
use Rattle.std.proofs.lemmas.List.{append-nil, take_more, take-append-drop}
use Rattle.logbook.specs.Pages.{Book}
use Rattle.locked_core.specs.Pages.{Page, LagsBehind, page}
use Rattle.memory_report.proofs.HistoryLemmas.{begins_legal}
use Rattle.memory_report.specs.Histories.{Legal, state_after}
use Rattle.memory_report.specs.Reports.{report_of, Absorbs}
use Rattle.memory_report.specs.declared.entries.LogEntry.{LogEntry}
use Rattle.memory_report.specs.declared.report.Report.{Report}

-- with the entry at this place it is the report on one entry more
pub takes_next : (log : List LogEntry) (place : ℕ) (e : LogEntry) (before now : Report) → place < length log → e ≡ get_or log place e → Absorbs before e now → (frames : ℕ) → Legal frames log
    → before ≡ report_of (state_after frames (take place log)) → now ≡ report_of (state_after frames (take (place + 1) log))
takes_next log place e before now inside is took frames legal at =
    let more : take (place + 1) log ≡ take place log ++ e ∷ [] = take_more log place e inside ∙ ap (λ (x : LogEntry). take place log ++ x ∷ []) (sym is) in
    let begun : Legal frames (take (place + 1) log) = begins_legal frames (take (place + 1) log) (drop (place + 1) log) (subst (Legal frames) (sym (take-append-drop (place + 1) log)) legal) in
    took frames (take place log) (subst (Legal frames) more begun) at ∙ ap (λ l. report_of (state_after frames l)) (sym more)

-- a page that was behind, before one entry more
pub lags_more : (frames : ℕ) (book : Book) (log new : List LogEntry) (e : LogEntry) (p : Page) → LagsBehind p (page frames book log) → new ≡ log ++ e ∷ [] → LagsBehind p (page frames book new)
lags_more frames book log new e p behind grown = record {
  frames = behind.frames;
  book = behind.book;
  begins = (behind.begins.0 ++ e ∷ [], grown ∙ ap (λ l. l ++ e ∷ []) behind.begins.1 ∙ append_assoc p.log behind.begins.0 (e ∷ []));
}

-- a page of the same entries
pub lags_by_none : (whole p : Page) → p ≡ whole → LagsBehind p whole
lags_by_none whole p is = subst (λ (q : Page). LagsBehind q whole) (sym is) (record { frames = refl; book = refl; begins = ([], sym (append-nil whole.log)) })
