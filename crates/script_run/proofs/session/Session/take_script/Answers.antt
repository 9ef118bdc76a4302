use Rattle.std.proofs.Common.{◌≡◌, ◌≤◌, ◌++◌, length, take, ◌∙◌, arith, length-append}
use Rattle.std.proofs.KnownBytes.{Consumes-trans}
use Rattle.std.proofs.lemmas.List.{length-take-le}
use Rattle.std.proofs.lemmas.Result.{err_from_is_err_and, on_ok_weaker, MatchResult-weaker}
use Rattle.script_run.specs.Script.{limit}
use Rattle.script_run.proofs.RunLemmas.{within_limit, at_limit, takes_none, ran_whole, ran_into_last, ran_into_line, ran_past, ran_into_reader}
use Rattle.script_run.proofs.session.Session.take_script.Goals as goal

pub returns-in_err-count-clause-err : goal.returns-in_err-count-clause-err
returns-in_err-count-clause-err g c =
    let p = err_from_is_err_and c.from_residual.result c.from_residual.ensures.1 in
    rw (p.1, p.2, c.in_err-count.ensures.failed.0) (λ frames reached.
    let far = c.loop-total.invariant.reached frames reached in
    ran_into_reader frames _ _ _ far.0 c.loop-total.self _ _ (within_limit _ (omega (arith, far.1))) far.2 c.in_err-count.ensures.failed.1 far.3)

pub returns-then-count-eq0-clause-ok : goal.returns-then-count-eq0-clause-ok
returns-then-count-eq0-clause-ok g c = λ frames reached.
    let far = c.loop-total.invariant.reached frames reached in
    let none : c.in_ok-count.count ≡ 0 = omega arith in
    let taken = takes_none (g.R.Read.remaining c.args.reader.now) (g.R.Read.remaining c.loop-total.reader) (g.R.Read.remaining c.read_some.new.reader) far.0 c.read_some.new.block c.in_ok-count.count far.2 c.in_ok-count.ensures.bytes none in
    on_ok_weaker c.finish.result (λ finished. ran_whole frames _ (g.R.Read.remaining c.read_some.new.reader) far.0 c.finish.new.self _ _ (within_limit _ (omega (arith, far.1))) taken (c.in_ok-count.ensures.end none) finished) (c.finish.ensures.ok frames far.0 _ far.3)

pub returns-then-count-eq0-clause-err : goal.returns-then-count-eq0-clause-err
returns-then-count-eq0-clause-err g c = λ frames reached.
    let far = c.loop-total.invariant.reached frames reached in
    let none : c.in_ok-count.count ≡ 0 = omega arith in
    let taken = takes_none (g.R.Read.remaining c.args.reader.now) (g.R.Read.remaining c.loop-total.reader) (g.R.Read.remaining c.read_some.new.reader) far.0 c.read_some.new.block c.in_ok-count.count far.2 c.in_ok-count.ensures.bytes none in
    MatchResult-weaker c.finish.result (c.finish.ensures.err frames far.0 _ far.3) (λ _ u. u) (λ fault stops. ran_into_last frames _ (g.R.Read.remaining c.read_some.new.reader) far.0 fault c.finish.new.self.output _ _ (within_limit _ (omega (arith, far.1))) taken (c.in_ok-count.ensures.end none) stops)

pub returns-in_err-feed-clause-err : goal.returns-in_err-feed-clause-err
returns-in_err-feed-clause-err g c =
    let p = err_from_is_err_and c.from_residual-in_err-feed.result c.from_residual-in_err-feed.ensures.1 in
    rw (p.1, p.2) (λ frames reached.
    let far = c.loop-total.invariant.reached frames reached in
    let more = take c.in_ok-count.count c.read_some.new.block in
    let size : length more ≡ c.in_ok-count.count = length-take-le c.in_ok-count.count c.read_some.new.block c.in_ok-count.ensures.bound.1 in
    let fits : length (far.0 ++ more) ≤ limit = within_limit (length (far.0 ++ more)) (omega (arith, far.1, length-append far.0 more, c.in_ok-count.ensures.bound.0)) in
    ran_into_line frames _ _ (far.0 ++ more) c.in_err-feed.field-0.0 c.feed.new.self.output _ _ fits
    (Consumes-trans (g.R.Read.remaining c.args.reader.now) (g.R.Read.remaining c.loop-total.reader) (g.R.Read.remaining c.read_some.new.reader) far.0 more far.2 c.in_ok-count.ensures.bytes)
    (c.in_err-feed.ensures.err frames far.0 _ far.3))

pub loop-total-preserved : goal.loop-total-preserved
loop-total-preserved g c = record {
  within = omega (arith, c.in_ok-count.ensures.bound.0);
  lines = omega (arith, c.in_ok-feed.ensures.lines, length-take-le c.in_ok-count.count c.read_some.new.block c.in_ok-count.ensures.bound.1);
  reached = λ frames reached.
      let far = c.loop-total.invariant.reached frames reached in
      let more = take c.in_ok-count.count c.read_some.new.block in
      let size : length more ≡ c.in_ok-count.count = length-take-le c.in_ok-count.count c.read_some.new.block c.in_ok-count.ensures.bound.1 in (
        far.0 ++ more,
        length-append far.0 more ∙ omega (arith, far.1),
        Consumes-trans (g.R.Read.remaining c.args.reader.now) (g.R.Read.remaining c.loop-total.reader) (g.R.Read.remaining c.read_some.new.reader) far.0 more far.2 c.in_ok-count.ensures.bytes,
        c.in_ok-feed.ensures.ok frames far.0 _ far.3,
      );
}

pub returns-in_err-past-clause-err : goal.returns-in_err-past-clause-err
returns-in_err-past-clause-err g c =
    let p = err_from_is_err_and c.from_residual-in_err-past.result c.from_residual-in_err-past.ensures.1 in
    rw (p.1, p.2, c.in_err-past.ensures.failed.0) (λ frames reached.
    let far = c.loop-total.invariant.reached frames reached in
    ran_into_reader frames _ _ _ far.0 c.loop-total.self _ _ (within_limit _ (omega (arith, far.1))) far.2 c.in_err-past.ensures.failed.1 far.3)

pub returns-then-past-gt0-clause-err : goal.returns-then-past-gt0-clause-err
returns-then-past-gt0-clause-err g c = λ frames reached.
    let far = c.loop-total.invariant.reached frames reached in
    let more = take c.in_ok-past.past c.read_some-2.new.block in
    let size : length more ≡ c.in_ok-past.past = length-take-le c.in_ok-past.past c.read_some-2.new.block c.in_ok-past.ensures.bound.1 in
    ran_past frames (g.R.Read.remaining c.args.reader.now) (g.R.Read.remaining c.loop-total.reader) (g.R.Read.remaining c.read_some-2.new.reader) far.0 more c.loop-total.self _ _
    (at_limit (length far.0) (omega (arith, far.1))) far.2 c.in_ok-past.ensures.bytes (omega (arith, size)) far.3

pub returns-clause-ok : goal.returns-clause-ok
returns-clause-ok g c = λ frames reached.
    let far = c.loop-total.invariant.reached frames reached in
    let none : c.in_ok-past.past ≡ 0 = omega arith in
    let taken = takes_none (g.R.Read.remaining c.args.reader.now) (g.R.Read.remaining c.loop-total.reader) (g.R.Read.remaining c.read_some-2.new.reader) far.0 c.read_some-2.new.block c.in_ok-past.past far.2 c.in_ok-past.ensures.bytes none in
    on_ok_weaker c.finish-2.result (λ finished. ran_whole frames _ (g.R.Read.remaining c.read_some-2.new.reader) far.0 c.finish-2.new.self _ _ (within_limit _ (omega (arith, far.1))) taken (c.in_ok-past.ensures.end none) finished) (c.finish-2.ensures.ok frames far.0 _ far.3)

pub returns-clause-err : goal.returns-clause-err
returns-clause-err g c = λ frames reached.
    let far = c.loop-total.invariant.reached frames reached in
    let none : c.in_ok-past.past ≡ 0 = omega arith in
    let taken = takes_none (g.R.Read.remaining c.args.reader.now) (g.R.Read.remaining c.loop-total.reader) (g.R.Read.remaining c.read_some-2.new.reader) far.0 c.read_some-2.new.block c.in_ok-past.past far.2 c.in_ok-past.ensures.bytes none in
    MatchResult-weaker c.finish-2.result (c.finish-2.ensures.err frames far.0 _ far.3) (λ _ u. u) (λ fault stops. ran_into_last frames _ (g.R.Read.remaining c.read_some-2.new.reader) far.0 fault c.finish-2.new.self.output _ _ (within_limit _ (omega (arith, far.1))) taken (c.in_ok-past.ensures.end none) stops)
