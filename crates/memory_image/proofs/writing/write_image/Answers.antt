use Rattle.std.proofs.Common.{rules, refl}
use Rattle.text_output.specs.Output.{AppendsFront}
use Rattle.memory_image.specs.Spelling.{spelling}
use Rattle.text_output.proofs.OutputLemmas.{wrote_first, cut_first, wrote_piece, cut_piece, wrote_last, cut_last}
use Rattle.memory_image.proofs.WritingLemmas.{front, parts}
use Rattle.memory_image.proofs.writing.write_image.Goals as goal

pub returns-in_err-write_front-clause-err : goal.returns-in_err-write_front-clause-err
returns-in_err-write_front-clause-err g c =
    let image = c.args.image.now in
    let cut : AppendsFront (g.W.Write.contents c.args.writer.now) (g.W.Write.contents c.write_front.new.writer) (spelling c.args.image.now) =
    cut_first _ _ _ (front image) _ (parts image image.processes image.roles image.bytes refl refl refl) c.in_err-write_front.ensures.err in
    search rules

pub returns-in_err-write_processes-clause-err : goal.returns-in_err-write_processes-clause-err
returns-in_err-write_processes-clause-err g c =
    let image = c.args.image.now in
    let one = wrote_first _ _ _ (front image) _ (parts image c.processes.result.now image.roles image.bytes c.processes.ensures refl refl) c.in_ok-write_front.ensures.ok in
    let cut : AppendsFront (g.W.Write.contents c.args.writer.now) (g.W.Write.contents c.write_processes.new.writer) (spelling c.args.image.now) =
    cut_piece _ _ _ _ _ _ one c.in_err-write_processes.ensures.err in
    search rules

pub returns-in_err-write_roles-clause-err : goal.returns-in_err-write_roles-clause-err
returns-in_err-write_roles-clause-err g c =
    let image = c.args.image.now in
    let one = wrote_first _ _ _ (front image) _ (parts image c.processes.result.now c.roles.result.now image.bytes c.processes.ensures c.roles.ensures refl) c.in_ok-write_front.ensures.ok in
    let two = wrote_piece _ _ _ _ _ _ one c.in_ok-write_processes.ensures.ok in
    let cut : AppendsFront (g.W.Write.contents c.args.writer.now) (g.W.Write.contents c.write_roles.new.writer) (spelling c.args.image.now) =
    cut_piece _ _ _ _ _ _ two c.in_err-write_roles.ensures.err in
    search rules

pub returns-clause-ok : goal.returns-clause-ok
returns-clause-ok g c =
    let image = c.args.image.now in
    let one = wrote_first _ _ _ (front image) _ (parts image c.processes.result.now c.roles.result.now c.bytes.result.now c.processes.ensures c.roles.ensures c.bytes.ensures) c.in_ok-write_front.ensures.ok in
    let two = wrote_piece _ _ _ _ _ _ one c.in_ok-write_processes.ensures.ok in
    let three = wrote_piece _ _ _ _ _ _ two c.in_ok-write_roles.ensures.ok in
    wrote_last _ _ _ _ _ c.write_whole.result three c.write_whole.ensures.ok

pub returns-clause-err : goal.returns-clause-err
returns-clause-err g c =
    let image = c.args.image.now in
    let one = wrote_first _ _ _ (front image) _ (parts image c.processes.result.now c.roles.result.now c.bytes.result.now c.processes.ensures c.roles.ensures c.bytes.ensures) c.in_ok-write_front.ensures.ok in
    let two = wrote_piece _ _ _ _ _ _ one c.in_ok-write_processes.ensures.ok in
    let three = wrote_piece _ _ _ _ _ _ two c.in_ok-write_roles.ensures.ok in
    cut_last _ _ _ _ _ c.write_whole.result three c.write_whole.ensures.err
