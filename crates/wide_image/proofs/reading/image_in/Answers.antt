use Rattle.std.proofs.Common.{◌≡◌, ℕ, ◌<◌, map, sym, subst, ◌∙◌, arith}
use Rattle.std.specs.Prelude.{slice_index}
use Rattle.std.specs.List.{range_with_len}
use Rattle.memory_image.specs.Reading.{process_in}
use Rattle.memory_image.specs.Restored.{image_with}
use Rattle.memory_image.proofs.ReadingLemmas.{parent_in}
use Rattle.wide_image.specs.Wide.{WideImage, IsWhole, Encodes}
use Rattle.wide_image.specs.Reading.{offers_in}
use Rattle.wide_image.proofs.OfferTexts.{parties}
use Rattle.wide_image.proofs.Whole.{head_of, head_at, encoded}
use Rattle.wide_image.proofs.reading.image_in.Goals as goal

pub number_at-frames-requires : goal.number_at-frames-requires
number_at-frames-requires c = let l = (head_of c.args.bytes.now c.requires).long in omega arith

pub number_at-count-requires : goal.number_at-count-requires
number_at-count-requires c = let l = (head_of c.args.bytes.now c.requires).long in omega arith

pub number_at-stored-requires : goal.number_at-stored-requires
number_at-stored-requires c = let l = (head_of c.args.bytes.now c.requires).long in omega arith

pub offers_in-requires-clause-long : goal.offers_in-requires-clause-long
offers_in-requires-clause-long c =
    let l = (head_at c.args.bytes.now c.number_at-frames.result c.number_at-count.result c.number_at-stored.result c.number_at-frames.ensures c.number_at-count.ensures c.number_at-stored.ensures c.requires).long in
    omega arith

pub offers_in-requires-clause-parties : goal.offers_in-requires-clause-parties
offers_in-requires-clause-parties c =
    let small : (i : ℕ) → slice_index c.args.bytes.now i < 256 = λ i. omega (arith, c.type_inv.bytes i) in
    let K = head_at c.args.bytes.now c.number_at-frames.result c.number_at-count.result c.number_at-stored.result c.number_at-frames.ensures c.number_at-count.ensures c.number_at-stored.ensures c.requires in
    parties c.args.bytes.now small c.number_at-count.result K.offers_kept

pub frames_in-requires-clause-long : goal.frames_in-requires-clause-long
frames_in-requires-clause-long c =
    let l = (head_at c.args.bytes.now c.number_at-frames.result c.number_at-count.result c.number_at-stored.result c.number_at-frames.ensures c.number_at-count.ensures c.number_at-stored.ensures c.requires).long in
    omega arith

pub frames_in-requires-clause-few : goal.frames_in-requires-clause-few
frames_in-requires-clause-few c =
    (head_at c.args.bytes.now c.number_at-frames.result c.number_at-count.result c.number_at-stored.result c.number_at-frames.ensures c.number_at-count.ensures c.number_at-stored.ensures c.requires).most

pub frames_in-requires-clause-kept : goal.frames_in-requires-clause-kept
frames_in-requires-clause-kept c =
    (head_at c.args.bytes.now c.number_at-frames.result c.number_at-count.result c.number_at-stored.result c.number_at-frames.ensures c.number_at-count.ensures c.number_at-stored.ensures c.requires).frames_kept

pub processes_in-requires-clause-long : goal.processes_in-requires-clause-long
processes_in-requires-clause-long c = let l = (head_of c.args.bytes.now c.requires).long in omega arith

pub processes_in-requires-clause-parents : goal.processes_in-requires-clause-parents
processes_in-requires-clause-parents c = λ p low.
    let K = head_at c.args.bytes.now c.number_at-frames.result c.number_at-count.result c.number_at-stored.result c.number_at-frames.ensures c.number_at-count.ensures c.number_at-stored.ensures c.requires in
    parent_in c.args.bytes.now c.number_at-frames.result p (K.processes p low)

pub with_parts-requires : goal.with_parts-requires
with_parts-requires c =
    let small : (i : ℕ) → slice_index c.args.bytes.now i < 256 = λ i. omega (arith, c.type_inv.bytes i) in
    let K = head_at c.args.bytes.now c.number_at-frames.result c.number_at-count.result c.number_at-stored.result c.number_at-frames.ensures c.number_at-count.ensures c.number_at-stored.ensures c.requires in
    let E = encoded c.args.bytes.now small c.number_at-frames.result c.number_at-count.result c.number_at-stored.result c.number_at-frames.ensures c.number_at-count.ensures c.number_at-stored.ensures K c.in_ok-read.read.0.items c.in_ok-read.read.1.items c.in_ok-read.ensures in
    let path : ◌≡◌ {A = WideImage} (record { image = image_with c.processes_in.result c.in_ok-read.read.0.items c.in_ok-read.read.1.items; offers = c.in_ok-offers.offers.items })
    (record { image = image_with (map (process_in c.args.bytes.now) (range_with_len 0 64)) c.in_ok-read.read.0.items c.in_ok-read.read.1.items; offers = offers_in c.args.bytes.now c.number_at-count.result }) =
    λ i. record { image = image_with (c.processes_in.ensures i) c.in_ok-read.read.0.items c.in_ok-read.read.1.items; offers = c.in_ok-offers.ensures i } in
    subst IsWhole (sym path) E.whole

pub returns : goal.returns
returns c =
    let small : (i : ℕ) → slice_index c.args.bytes.now i < 256 = λ i. omega (arith, c.type_inv.bytes i) in
    let K = head_at c.args.bytes.now c.number_at-frames.result c.number_at-count.result c.number_at-stored.result c.number_at-frames.ensures c.number_at-count.ensures c.number_at-stored.ensures c.requires in
    let E = encoded c.args.bytes.now small c.number_at-frames.result c.number_at-count.result c.number_at-stored.result c.number_at-frames.ensures c.number_at-count.ensures c.number_at-stored.ensures K c.in_ok-read.read.0.items c.in_ok-read.read.1.items c.in_ok-read.ensures in
    let path : ◌≡◌ {A = WideImage} (record { image = image_with c.processes_in.result c.in_ok-read.read.0.items c.in_ok-read.read.1.items; offers = c.in_ok-offers.offers.items })
    (record { image = image_with (map (process_in c.args.bytes.now) (range_with_len 0 64)) c.in_ok-read.read.0.items c.in_ok-read.read.1.items; offers = offers_in c.args.bytes.now c.number_at-count.result }) =
    λ i. record { image = image_with (c.processes_in.ensures i) c.in_ok-read.read.0.items c.in_ok-read.read.1.items; offers = c.in_ok-offers.ensures i } in
    subst (Encodes c.args.bytes.now) (sym (c.with_parts.ensures ∙ path)) E
