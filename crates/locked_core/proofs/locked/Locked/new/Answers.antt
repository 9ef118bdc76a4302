use Rattle.std.proofs.Common.{◌<◌, [], length, refl, sym, ap, ◌∙◌, subst, arith}
use Rattle.kernel_calls.specs.Processors.{IsCore}
use Rattle.locked_core.proofs.Entries.{legal_opening}
use Rattle.locked_core.proofs.Counting.{counted_none}
use Rattle.locked_core.proofs.Moments.{follows_none}
use Rattle.locked_core.specs.Counts.{counts_of}
use Rattle.locked_core.specs.Makers.{AreOfCpus}
use Rattle.locked_core.specs.Moments.{Follows, core_after, entries_in}
use Rattle.locked_core.specs.Pages.{Page, LagsBehind, page}
use Rattle.memory_report.specs.declared.entries.LogEntry.{LogEntry}
use Rattle.std.proofs.lemmas.List.Elements.{All-nil}
use Rattle.locked_core.proofs.locked.Locked.new.Goals as goal

pub invariant_of-result : goal.invariant_of-result
invariant_of-result g c =
    let none = c.requires.log.0 in
    let begun = legal_opening g.N.Name.frames c.args.log.entries c.args.core.state c.requires.size.0 c.requires.size.1 none c.requires.core in
    let w = c.requires.writer in
    let stands = c.stands.ensures in
    let core : IsCore g.N.Name.book.opening =
    subst IsCore c.requires.opening stands.core in
    let whole : Page = page g.N.Name.frames g.N.Name.book.history c.args.log.entries in
    let empty : LagsBehind (page g.N.Name.frames g.N.Name.book.history []) whole = record { frames = refl; book = refl; begins = (c.args.log.entries, refl) } in record {
      legal = begun.0;
      stands = begun.1;
      told = ap entries_in c.new.ensures ∙ sym none;
      left = ap (core_after g.N.Name.book.opening) c.new.ensures ∙ sym c.requires.opening;
      follows = subst (Follows g.N.Name.book.opening) (sym c.new.ensures) (follows_none g.N.Name.book.opening core);
      opened = sym (ap (λ v. v.state) c.requires.opening) ∙ c.requires.core;
      counted = c.requires.counted.0 ∙ ap length (sym none);
      tallied = c.requires.counted.1 ∙ sym (ap counts_of none ∙ counted_none);
      cpus = subst (AreOfCpus g.N.Name.book.parts) (sym none) (All-nil (λ (x : LogEntry). x.cpu < g.N.Name.book.parts));
      mine = w.1;
      shown = λ watched. w.0 ∙ ap (page g.N.Name.frames g.N.Name.book.history) (sym none);
      lags = subst (λ (p : Page). LagsBehind p whole) (sym w.0) empty;
      spare = subst (λ (p : Page). LagsBehind p whole) (sym c.requires.spare) empty;
      near = λ watched. (let long = ap length none in omega arith);
      keeps_named = c.requires.log.1;
      keeps_two = c.requires.keeps;
    }
