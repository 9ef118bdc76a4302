use Rattle.std.proofs.Common.{◌++◌, rules, sym, append_assoc}
use Rattle.memory_image.specs.Spelling.{number, role_bytes}
use Rattle.text_output.specs.Output.{AppendsFront}
use Rattle.text_output.proofs.OutputLemmas.{wrote_first, cut_first, wrote_last, cut_last}
use Rattle.wide_image.proofs.writing.write_used.Goals as goal

pub returns-in_err-write_head-clause-err : goal.returns-in_err-write_head-clause-err
returns-in_err-write_head-clause-err g c =
    let cut : AppendsFront (g.W.Write.contents c.args.writer.now) (g.W.Write.contents c.write_head.new.writer) (number c.args.frame ++ (role_bytes c.args.role ++ c.args.part.now)) =
    cut_first _ _ _ (number c.args.frame ++ role_bytes c.args.role) c.args.part.now (sym (append_assoc (number c.args.frame) (role_bytes c.args.role) c.args.part.now)) c.in_err-write_head.ensures.err in
    search rules

pub returns-clause-ok : goal.returns-clause-ok
returns-clause-ok g c =
    let one = wrote_first _ _ _ (number c.args.frame ++ role_bytes c.args.role) c.args.part.now (sym (append_assoc (number c.args.frame) (role_bytes c.args.role) c.args.part.now)) c.in_ok-write_head.ensures.ok in
    wrote_last _ _ _ _ _ c.write_whole.result one c.write_whole.ensures.ok

pub returns-clause-err : goal.returns-clause-err
returns-clause-err g c =
    let one = wrote_first _ _ _ (number c.args.frame ++ role_bytes c.args.role) c.args.part.now (sym (append_assoc (number c.args.frame) (role_bytes c.args.role) c.args.part.now)) c.in_ok-write_head.ensures.ok in
    cut_last _ _ _ _ _ c.write_whole.result one c.write_whole.ensures.err
