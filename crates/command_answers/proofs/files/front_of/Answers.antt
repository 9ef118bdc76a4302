use Rattle.std.proofs.Common.{ap, arith, length, length-take, subst, sym}
use Rattle.std.specs.Io.KnownBytes.{Consumes}
use Rattle.command_answers.proofs.FrontLemmas.{content_again, says_again}
use Rattle.command_answers.proofs.files.front_of.Goals as goal

pub returns-clause-content : goal.returns-clause-content
returns-clause-content g c =
    let file = g.F.Read.remaining c.args.file.now in
    let rest = g.F.Read.remaining c.fill.new.reader in
    content_again file rest c.kept.result.items (subst (Consumes file rest) (sym c.kept.ensures) c.in_ok-read.ensures.bytes)

pub returns-clause-says : goal.returns-clause-says
returns-clause-says g c =
    let long = length-take c.in_ok-read.read c.fill.new.buffer in
    let same = ap length c.kept.ensures in
    says_again (g.F.Read.remaining c.fill.new.reader) c.kept.result.items
    (λ short. c.in_ok-read.ensures.end (omega (arith, long, same, short, c.in_ok-read.ensures.length, c.in_ok-read.ensures.most)))
