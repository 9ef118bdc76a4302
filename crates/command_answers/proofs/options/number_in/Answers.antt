use Rattle.std.proofs.Common.{◌∙◌, sym}
use Rattle.std.specs.Str.Parse.{ParsesUnsigned, ExplainsUnsignedError, HasUnsignedDigitsIfOk}
use Rattle.clap.specs.Words.{found_of, one_text, rows_of}
use Rattle.clap.proofs.WalkLemmas.{one_text-rows}
use Rattle.command_answers.proofs.OptionLemmas.{option_read, found_some, found_none, found_other}
use Rattle.command_answers.proofs.options.number_in.Goals as goal

pub returns-in-Ok-Some : goal.returns-in-Ok-Some
returns-in-Ok-Some c =
    let found = found_of c.args.matches.now in
    sym (found_some c.args.absent c.try_get_one.result c.in-Ok-Some.field-0 c.in-Ok-Some.number c.in-Ok-Some.is c.in-Ok-Some.field-0-is)
    ∙ option_read (λ bs r. ParsesUnsigned 32 10 bs r × ExplainsUnsignedError 10 bs r × HasUnsignedDigitsIfOk bs r) c.args.name.now c.args.absent (rows_of found) (one_text found c.args.name.now) c.try_get_one.result
    (one_text-rows found c.args.name.now) (λ u x gives. gives.0) c.try_get_one.ensures.none c.try_get_one.ensures.value

pub returns-in-Ok-None : goal.returns-in-Ok-None
returns-in-Ok-None c =
    let found = found_of c.args.matches.now in
    sym (found_none c.args.absent c.try_get_one.result c.in-Ok-None.field-0 c.in-Ok-None.is c.in-Ok-None.field-0-is)
    ∙ option_read (λ bs r. ParsesUnsigned 32 10 bs r × ExplainsUnsignedError 10 bs r × HasUnsignedDigitsIfOk bs r) c.args.name.now c.args.absent (rows_of found) (one_text found c.args.name.now) c.try_get_one.result
    (one_text-rows found c.args.name.now) (λ u x gives. gives.0) c.try_get_one.ensures.none c.try_get_one.ensures.value

pub returns-in-Err : goal.returns-in-Err
returns-in-Err c =
    let found = found_of c.args.matches.now in
    sym (found_other c.args.absent c.try_get_one.result c.in-Err.field-0 c.in-Err.is)
    ∙ option_read (λ bs r. ParsesUnsigned 32 10 bs r × ExplainsUnsignedError 10 bs r × HasUnsignedDigitsIfOk bs r) c.args.name.now c.args.absent (rows_of found) (one_text found c.args.name.now) c.try_get_one.result
    (one_text-rows found c.args.name.now) (λ u x gives. gives.0) c.try_get_one.ensures.none c.try_get_one.ensures.value
