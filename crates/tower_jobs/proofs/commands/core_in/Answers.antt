use Rattle.std.proofs.Common.{◌≡◌, ◌∙◌, Bool, List, Option, Some, false, ℕ, ap, inr, subst, sym}
use Rattle.std.specs.Fmt.{option_append}
use Rattle.std.specs.Prelude.{Result, Ok, Err, IfErr}
use Rattle.command_answers.specs.Files.{SaysWhole, says_whole}
use Rattle.tower_jobs.specs.Answers.{LacksAs}
use Rattle.tower_jobs.proofs.commands.core_in.Goals as goal

if_err : {T E : Type 0} (r : Result T E) {P Q : E → Type 0} → ((e : E) → P e → Q e) → IfErr r P → IfErr r Q
if_err (Ok x) weaker h = tt
if_err (Err e) weaker h = weaker e h

pub returns-else-says_whole-clause-none : goal.returns-else-says_whole-clause-none
returns-else-says_whole-clause-none g c =
    let front : List ℕ = c.in-Ok.front.items in
    let rest : Option (List ℕ) = g.F.Read.remaining c.front_of.new.file in
    let says : says_whole front ≡ false = sym (ap says_whole c.as_slice-2.ensures.value) ∙ sym c.says_whole.ensures ∙ c.if-says_whole.false in
    let same = c.chain-content.ensures.bytes ∙ ap (λ (bytes : List ℕ). option_append (Some bytes) rest) c.as_slice.ensures.value in
    if_err c.plain_core.result (λ answer lacks. inr (
      option_append (Some front) rest,
      false,
      c.in-Ok.ensures.content,
      subst (λ (b : Bool). SaysWhole b (option_append (Some front) rest)) says c.in-Ok.ensures.says,
      subst (λ (content : Option (List ℕ)). LacksAs false content answer) same lacks,
    )) c.plain_core.ensures.none
