use Rattle.std.proofs.Common.{rules, arith, refl, ap, ◌∙◌, length}
use Rattle.text_output.specs.Output.{AppendsFront}
use Rattle.text_output.proofs.OutputLemmas.{wrote_first, cut_first, wrote_piece, cut_piece, wrote_last, cut_last}
use Rattle.wide_image.specs.Layout.{frames_stored}
use Rattle.wide_image.specs.Wide.{head_text}
use Rattle.wide_image.proofs.Passing.{few_offers}
use Rattle.wide_image.proofs.WrittenWhole.{front, head_parts}
use Rattle.wide_image.proofs.writing.write_wide_head.Goals as goal

pub returns-in_err-write_front-clause-err : goal.returns-in_err-write_front-clause-err
returns-in_err-write_front-clause-err g c =
    let cut : AppendsFront (g.W.Write.contents c.args.writer.now) (g.W.Write.contents c.write_front.new.writer) (head_text (record { image = c.args.image.now; offers = c.args.offers.now })) =
    cut_first _ _ _ (front c.frames.result) _ (head_parts (record { image = c.args.image.now; offers = c.args.offers.now }) c.frames.result c.args.image.now.processes (length c.args.offers.now) c.count_stored-stored.result c.frames.ensures.count refl refl (c.count_stored-stored.ensures ∙ ap frames_stored c.roles-roles.ensures)) c.in_err-write_front.ensures.err in
    search rules

pub returns-in_err-write_processes-clause-err : goal.returns-in_err-write_processes-clause-err
returns-in_err-write_processes-clause-err g c =
    let one = wrote_first _ _ _ (front c.frames.result) _ (head_parts (record { image = c.args.image.now; offers = c.args.offers.now }) c.frames.result c.processes.result.now (length c.args.offers.now) c.count_stored-stored.result c.frames.ensures.count c.processes.ensures refl (c.count_stored-stored.ensures ∙ ap frames_stored c.roles-roles.ensures)) c.in_ok-write_front.ensures.ok in
    let cut : AppendsFront (g.W.Write.contents c.args.writer.now) (g.W.Write.contents c.write_processes.new.writer) (head_text (record { image = c.args.image.now; offers = c.args.offers.now })) =
    cut_piece _ _ _ _ _ _ one c.in_err-write_processes.ensures.err in
    search rules

pub returns-in_err-write_counts-clause-err : goal.returns-in_err-write_counts-clause-err
returns-in_err-write_counts-clause-err g c =
    let one = wrote_first _ _ _ (front c.frames.result) _ (head_parts (record { image = c.args.image.now; offers = c.args.offers.now }) c.frames.result c.processes.result.now c.count_of.result c.count_stored-stored.result c.frames.ensures.count c.processes.ensures c.count_of.ensures (c.count_stored-stored.ensures ∙ ap frames_stored c.roles-roles.ensures)) c.in_ok-write_front.ensures.ok in
    let two = wrote_piece _ _ _ _ _ _ one c.in_ok-write_processes.ensures.ok in
    let cut : AppendsFront (g.W.Write.contents c.args.writer.now) (g.W.Write.contents c.write_counts.new.writer) (head_text (record { image = c.args.image.now; offers = c.args.offers.now })) =
    cut_piece _ _ _ _ _ _ two c.in_err-write_counts.ensures.err in
    search rules

pub returns-clause-ok : goal.returns-clause-ok
returns-clause-ok g c =
    let one = wrote_first _ _ _ (front c.frames.result) _ (head_parts (record { image = c.args.image.now; offers = c.args.offers.now }) c.frames.result c.processes.result.now c.count_of.result c.count_stored-stored.result c.frames.ensures.count c.processes.ensures c.count_of.ensures (c.count_stored-stored.ensures ∙ ap frames_stored c.roles-roles.ensures)) c.in_ok-write_front.ensures.ok in
    let two = wrote_piece _ _ _ _ _ _ one c.in_ok-write_processes.ensures.ok in
    let three = wrote_piece _ _ _ _ _ _ two c.in_ok-write_counts.ensures.ok in
    wrote_last _ _ _ _ _ c.write_offers.result three c.write_offers.ensures.ok

pub returns-clause-err : goal.returns-clause-err
returns-clause-err g c =
    let one = wrote_first _ _ _ (front c.frames.result) _ (head_parts (record { image = c.args.image.now; offers = c.args.offers.now }) c.frames.result c.processes.result.now c.count_of.result c.count_stored-stored.result c.frames.ensures.count c.processes.ensures c.count_of.ensures (c.count_stored-stored.ensures ∙ ap frames_stored c.roles-roles.ensures)) c.in_ok-write_front.ensures.ok in
    let two = wrote_piece _ _ _ _ _ _ one c.in_ok-write_processes.ensures.ok in
    let three = wrote_piece _ _ _ _ _ _ two c.in_ok-write_counts.ensures.ok in
    cut_last _ _ _ _ _ c.write_offers.result three c.write_offers.ensures.err

pub count_of-requires : goal.count_of-requires
count_of-requires g c =
    let f = few_offers 0 c.args.offers.now (omega arith) c.requires.offers.pending c.requires.offers.rise in
    omega (arith, f)
