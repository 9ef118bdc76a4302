use Rattle.std.proofs.Common.{inl, inr, refl}
use Rattle.std.specs.Prelude.{Result, Ok, Err, IfOk, IfErr}
use Rattle.tower_jobs.proofs.commands.core_named.Goals as goal

if_ok : {T E : Type 0} (r : Result T E) {P Q : T → Type 0} → ((x : T) → P x → Q x) → IfOk r P → IfOk r Q
if_ok (Ok x) weaker h = weaker x h
if_ok (Err e) weaker h = tt

if_err : {T E : Type 0} (r : Result T E) {P Q : E → Type 0} → ((e : E) → P e → Q e) → IfErr r P → IfErr r Q
if_err (Ok x) weaker h = tt
if_err (Err e) weaker h = weaker e h

pub returns-in-Ok-clause-core : goal.returns-in-Ok-clause-core
returns-in-Ok-clause-core g c =
    if_ok c.core_in.result (λ resumed has. (g.R.Opened.Read.remaining c.in-Ok.file, (c.in-Ok.file, c.in-Ok.ensures, refl), has)) c.core_in.ensures.core

pub returns-in-Ok-clause-none : goal.returns-in-Ok-clause-none
returns-in-Ok-clause-none g c =
    if_err c.core_in.result (λ answer lacks. inr (g.R.Opened.Read.remaining c.in-Ok.file, (c.in-Ok.file, c.in-Ok.ensures, refl), lacks)) c.core_in.ensures.none

pub returns-in-Err-clause-none : goal.returns-in-Err-clause-none
returns-in-Err-clause-none g c = inl refl
