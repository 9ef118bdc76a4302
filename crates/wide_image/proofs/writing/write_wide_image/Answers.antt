use Rattle.std.proofs.Common.{rules, refl}
use Rattle.text_output.specs.Output.{AppendsFront}
use Rattle.text_output.proofs.OutputLemmas.{wrote_first, cut_first, wrote_last, cut_last}
use Rattle.wide_image.specs.Wide.{text}
use Rattle.wide_image.proofs.WrittenWhole.{parts}
use Rattle.wide_image.proofs.writing.write_wide_image.Goals as goal

pub returns-in_err-write_wide_head-clause-err : goal.returns-in_err-write_wide_head-clause-err
returns-in_err-write_wide_head-clause-err g c =
    let cut : AppendsFront (g.W.Write.contents c.args.writer.now) (g.W.Write.contents c.write_wide_head.new.writer) (text (record { image = c.args.image.now; offers = c.args.offers.now })) =
    cut_first _ _ _ _ _ (parts (record { image = c.args.image.now; offers = c.args.offers.now }) c.args.image.now.roles c.args.image.now.bytes refl refl) c.in_err-write_wide_head.ensures.err in
    search rules

pub returns-clause-ok : goal.returns-clause-ok
returns-clause-ok g c =
    wrote_last _ _ _ _ _ c.write_frames.result
    (wrote_first _ _ _ _ _ (parts (record { image = c.args.image.now; offers = c.args.offers.now }) c.roles-roles.result.now c.bytes.result.now c.roles-roles.ensures c.bytes.ensures) c.in_ok-write_wide_head.ensures.ok)
    c.write_frames.ensures.ok

pub returns-clause-err : goal.returns-clause-err
returns-clause-err g c =
    cut_last _ _ _ _ _ c.write_frames.result
    (wrote_first _ _ _ _ _ (parts (record { image = c.args.image.now; offers = c.args.offers.now }) c.roles-roles.result.now c.bytes.result.now c.roles-roles.ensures c.bytes.ensures) c.in_ok-write_wide_head.ensures.ok)
    c.write_frames.ensures.err
