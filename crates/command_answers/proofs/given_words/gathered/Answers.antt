use Rattle.std.proofs.Common.{◌≡◌, IfOk, refl, subst}
use Rattle.std.specs.Vec.Iter.{into_iter_items}
use Rattle.std.proofs.lemmas.Iterator.{items_from_collect}
use Rattle.std.proofs.lemmas.Iterator.Adapters.{YieldsList-from_vec}
use Rattle.command_answers.proofs.given_words.gathered.Goals as goal

-- what was collected is all that the host gave
pub returns : goal.returns
returns c =
    let all = into_iter_items c.args.given in
    let drained = YieldsList-from_vec all refl c.args.given.rest.ok.0 in
    record {
      words = subst (λ made. IfOk made (λ words. words.items ≡ all)) c.in_ok-collect.was
          (items_from_collect c.collect.result c.collect.ensures.ran drained);
      fault = tt;
    }
