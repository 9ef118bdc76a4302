use Rattle.std.proofs.Common.{◌≡◌, ℕ, List, ◌++◌, subst}
use Rattle.std.specs.Prelude.{IfOk}
use Rattle.map_jobs.specs.Films.{page_text}
use Rattle.map_jobs.specs.declared.film_page.TheConstants.{HEAD, TAIL}
use Rattle.map_jobs.proofs.films.page_of.Goals as goal

pub returns : goal.returns
unfolding page_text
returns c =
    let front : c.as_bytes.result.now ≡ HEAD.now = c.as_bytes.ensures.value in
    let back : c.as_bytes-2.result.now ≡ TAIL.now = c.as_bytes-2.ensures.value in
    subst (λ (f : List ℕ). IfOk c.between.result (λ page. page.items ≡ f ++ (c.args.rows.now ++ TAIL.now))) front
    (subst (λ (b : List ℕ). IfOk c.between.result (λ page. page.items ≡ c.as_bytes.result.now ++ (c.args.rows.now ++ b))) back c.between.ensures)
