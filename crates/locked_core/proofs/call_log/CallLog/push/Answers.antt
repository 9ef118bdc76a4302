use Rattle.std.proofs.Common.{◌≡◌, ◌+◌, ◌<◌, ◌^◌, List, [], ◌∷◌, ◌++◌, length, length-append, sym, ap, ◌∙◌, subst, arith, All}
use Rattle.std.proofs.lemmas.List.Elements.{All-push}
use Rattle.locked_core.proofs.Counting.{counted_push}
use Rattle.locked_core.proofs.Keeping.{keeps_push}
use Rattle.locked_core.specs.Counts.{Log, last_of}
use Rattle.locked_core.specs.Moments.{entries_in}
use Rattle.memory_report.specs.declared.entries.LogEntry.{LogEntry}
use Rattle.locked_core.proofs.call_log.CallLog.push.Goals as goal

pub invariant_of-self : goal.invariant_of-self
invariant_of-self c =
    let had = c.self.invariant in
    let e : LogEntry = c.args.entry.now in
    let log : List LogEntry = entries_in c.self.inside.all.log in
    let new : List LogEntry = entries_in c.again.result.log in
    let grown : new ≡ log ++ e ∷ [] = ap (λ s. entries_in s.log) c.again.ensures ∙ (c.requires.all ∙ ap (λ (l : Log). l.entries ++ e ∷ []) (sym c.self.view_is)) in
    let longer : length new ≡ length log + 1 = ap length grown ∙ length-append log (e ∷ []) in
    let room : length log < 2 ^ 62 = subst (λ (l : Log). length l.entries < 2 ^ 62) (sym c.self.view_is) c.requires.room.0 in
    let long = had.long in
    let least = had.least in record {
      long = omega arith;
      most = omega arith;
      least = had.least;
      last = c.push_back_reserved.ensures.items ∙ (ap (λ l. l ++ e ∷ []) c.make_room.ensures.kept ∙ (keeps_push c.self.inside.keeps log c.self.inside.kept.items e (omega arith) had.last ∙ ap (last_of c.self.inside.keeps) (sym grown)));
      reserved = λ few. (let had = had.reserved few in let a = c.push_back_reserved.ensures.capacity in let b = c.make_room.ensures.capacity in omega arith);
      counted = c.count_one.ensures ∙ counted_push log new e c.self.inside.counts had.counted c.requires.cpu grown;
      small = subst (λ (l : List LogEntry). All (λ (x : LogEntry). x.cpu < 8) l) (sym grown) (All-push (λ (x : LogEntry). x.cpu < 8) log e had.small c.requires.cpu);
    }
