use Rattle.std.proofs.Common.{◌≡◌, ℕ, ◌+◌, ◌*◌, ◌<◌, List, length, arith, sym, ap, subst, ◌∙◌}
use Rattle.std.specs.Prelude.{slice_index}
use Rattle.alloc_table.specs.declared.Role.{Role}
use Rattle.wide_image.specs.Reading.{AreRead, AreFrames}
use Rattle.wide_image.proofs.Loops.{frames_from}
use Rattle.wide_image.proofs.Records.{next_record, record_asks, read_more, read_all, long_more}
use Rattle.wide_image.proofs.frames.frames_in.Goals as goal

pub read_frame-added-requires-clause-owner : goal.read_frame-added-requires-clause-owner
read_frame-added-requires-clause-owner c =
    let small : (i : ℕ) → slice_index c.args.bytes.now i < 256 = λ i. omega (arith, c.type_inv.bytes i) in
    let k = next_record c.args.bytes.now small c.args.frames c.args.start c.args.count c.requires.long (length c.loop-number.roles.items) c.loop-number.number c.loop-number-test.true c.loop-number.invariant.rest in
    (record_asks c.args.bytes.now small c.args.frames c.args.start c.args.count c.requires.long (length c.loop-number.roles.items) (c.args.start + 4116 * c.loop-number.number) k.0).1

pub read_frame-added-requires-clause-from : goal.read_frame-added-requires-clause-from
read_frame-added-requires-clause-from c =
    let small : (i : ℕ) → slice_index c.args.bytes.now i < 256 = λ i. omega (arith, c.type_inv.bytes i) in
    let k = next_record c.args.bytes.now small c.args.frames c.args.start c.args.count c.requires.long (length c.loop-number.roles.items) c.loop-number.number c.loop-number-test.true c.loop-number.invariant.rest in
    (record_asks c.args.bytes.now small c.args.frames c.args.start c.args.count c.requires.long (length c.loop-number.roles.items) (c.args.start + 4116 * c.loop-number.number) k.0).0

pub loop-number-preserved : goal.loop-number-preserved
loop-number-preserved c =
    let small : (i : ℕ) → slice_index c.args.bytes.now i < 256 = λ i. omega (arith, c.type_inv.bytes i) in
    let k = next_record c.args.bytes.now small c.args.frames c.args.start c.args.count c.requires.long (length c.loop-number.roles.items) c.loop-number.number c.loop-number-test.true c.loop-number.invariant.rest in
    let asks = record_asks c.args.bytes.now small c.args.frames c.args.start c.args.count c.requires.long (length c.loop-number.roles.items) (c.args.start + 4116 * c.loop-number.number) k.0 in
    let roles = c.read_frame-added.ensures.roles c.if-not-added.false in
    let store = c.read_frame-added.ensures.store c.if-not-added.false in
    record {
      read =
          subst (λ (rs : List Role). AreRead c.args.bytes.now c.args.frames c.args.start c.args.count (c.loop-number.number + 1) rs c.read_frame-added.new.store.items) (sym roles)
          (subst (AreRead c.args.bytes.now c.args.frames c.args.start c.args.count (c.loop-number.number + 1) _) (sym store)
          (read_more c.args.bytes.now small c.args.frames c.args.start c.args.count c.requires.long c.loop-number.number c.loop-number.roles.items c.loop-number.store.items c.loop-number.invariant.read c.loop-number-test.true k.0));
      rest = ap (λ n. frames_from c.args.bytes.now c.args.frames c.args.start c.args.count n (c.loop-number.number + 1)) (ap length roles ∙ long_more c.loop-number.roles.items _ _ asks.0) ∙ k.1;
    }

pub returns : goal.returns
returns c =
    let small : (i : ℕ) → slice_index c.args.bytes.now i < 256 = λ i. omega (arith, c.type_inv.bytes i) in
    let roles = c.fill_to-filled.ensures.roles c.if-not-filled.false in
    let store = c.fill_to-filled.ensures.store c.if-not-filled.false in
    let all : c.loop-number.number ≡ c.args.count = omega (arith, c.loop-number.auto.number-end, c.loop-number-test.false) in
    let read = subst (λ k. AreRead c.args.bytes.now c.args.frames c.args.start c.args.count k c.loop-number.roles.items c.loop-number.store.items) all c.loop-number.invariant.read in
    let bytes : (i : ℕ) → slice_index c.fill_to-filled.new.store.items i < 256 = subst (λ (st : List ℕ). (i : ℕ) → slice_index st i < 256) c.as_slice.ensures.value c.are_small.ensures in
    subst (λ (rs : List Role). AreFrames c.args.bytes.now c.args.frames c.args.start c.args.count rs c.fill_to-filled.new.store.items) (sym roles)
    (subst (AreFrames c.args.bytes.now c.args.frames c.args.start c.args.count _) (sym store)
    (read_all c.args.bytes.now small c.args.frames c.args.start c.args.count c.requires.long c.loop-number.roles.items c.loop-number.store.items read
    (subst (λ (st : List ℕ). (i : ℕ) → slice_index st i < 256) store bytes)))
