use Rattle.std.proofs.Common.{◌≡◌, ℕ, false, sym, ap, ◌∙◌, arith}
use Rattle.std.specs.Prelude.{◌==◌}
use Rattle.std.proofs.lemmas.Bool.Decides.{nat_tests}
use Rattle.kernel_calls.specs.Translations.{is_all_of}
use Rattle.page_words.specs.FiniteMap as map
use Rattle.shadow_tables.specs.Shadow.{at_page}
use Rattle.shadow_core.specs.Paired.{left_by}
use Rattle.shadow_core.proofs.pairs.drop_ended.Goals as goal

pub returns-in-Pages-clause-translations : goal.returns-in-Pages-clause-translations
returns-in-Pages-clause-translations c =
    c.forget_page-in-Pages-2.ensures.translations
    ∙ ap (λ m. map.remove m (at_page c.in-Pages.pid c.in-Pages.second)) c.forget_page-in-Pages.ensures.translations
    ∙ ap (λ e. left_by e c.args.shadow.now.translations) (sym c.in-Pages.is)

same_process : (p : ℕ) → (p == p) ≡ false → ⊥
same_process p e = grind (arith, nat_tests)

pub returns-in-Space-clause-pages : goal.returns-in-Space-clause-pages
returns-in-Space-clause-pages c =
    λ none. absurd (same_process c.in-Space.pid (sym (ap (λ e. is_all_of e c.in-Space.pid) c.in-Space.is) ∙ none c.in-Space.pid))
