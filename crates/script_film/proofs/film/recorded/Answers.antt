use Rattle.std.proofs.Common.{rules, ◌≡◌, ℕ, ◌≤◌, List, [], refl, arith, ap, ◌∙◌, ◌++◌}
use Rattle.script_run.specs.Script.{limit}
use Rattle.script_run.specs.declared.faults.ScriptFault.{ScriptFault}
use Rattle.script_run.specs.declared.faults.ScriptFault.TheVariants as fault
use Rattle.script_film.specs.Film.{IsRefused}
use Rattle.script_film.specs.Rows.{frames_row, end_row}
use Rattle.script_film.proofs.FilmLemmas.{whole_film}
use Rattle.script_film.proofs.film.recorded.Goals as goal

-- no film of any script begins: there is no memory for it
only_memory : (f : ScriptFault) (frames : ℕ) → 16 ≤ frames → frames ≤ 4096 → ((script : List ℕ) → IsRefused f frames script) → f ≡ fault.NoMemory
unfolding limit
only_memory fault.BadSize frames low high h = absurd (h [] low high)
only_memory fault.TooLong frames low high h = absurd (let none = h [] in omega (arith, none))
only_memory fault.NoMemory frames low high h = refl
only_memory (fault.Malformed number) frames low high h = absurd (h [])
only_memory fault.ReadFailed frames low high h = absurd (h [])
only_memory fault.WriteFailed frames low high h = absurd (h [])

pub returns-in_err-recording-clause-fault : goal.returns-in_err-recording-clause-fault
returns-in_err-recording-clause-fault c =
    let h = only_memory c.in_err-recording.field-0.0 c.args.frames c.requires.size.0 c.requires.size.1 c.in_err-recording.ensures.fault in
    search (rules, h)

pub returns-clause-film : goal.returns-clause-film
returns-clause-film c =
    whole_film c.args.frames c.args.script.now c.in_ok-rows.rows.items c.in_ok-end.end c.take_lines.new.recording (c.in_ok-end.ensures.reaches c.args.frames c.in_ok-recording.ensures.records)
    (c.in_ok-rows.ensures.rows ∙ ap (λ l. frames_row c.args.frames ++ (l ++ end_row c.in_ok-end.end)) c.as_slice.ensures.value)
