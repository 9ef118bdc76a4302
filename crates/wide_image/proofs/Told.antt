-- A text tells its machine: what isn't free, and the offers.
use Rattle.std.proofs.Common.{◌≡◌, ◌*◌, Bool, true, false, length, refl, sym, ap, subst, ◌∙◌, arith}
use Rattle.memory_image.specs.Image.{frames}
use Rattle.memory_image.specs.Spelling.{process_bytes}
use Rattle.memory_image.proofs.SpellingLemmas.{same_parts, same_number, first_number, same_pieces, Fits, process_wide, process_exact, fields_fit}
use Rattle.wide_image.specs.declared.offers.PendingOffer.{PendingOffer}
use Rattle.wide_image.specs.FirstBytes.{snapshot_magic}
use Rattle.wide_image.specs.Layout.{frames_stored}
use Rattle.wide_image.specs.Offers.{AreListed, IsPending, right_number, offer_bytes}
use Rattle.wide_image.specs.Wide.{text}
use Rattle.wide_image.specs.InUse.{TextsTellMachines, MachinesAreRead}
use Rattle.wide_image.proofs.FrameTexts.{same_frames, agree_at}
use Rattle.wide_image.proofs.InUse.{free_frames}
use Rattle.wide_image.proofs.Passing.{few_offers, right_small}
use Rattle.wide_image.proofs.Whole.{offer_wide, stored_most}

right_exact : (a b : Bool) → right_number a ≡ right_number b → a ≡ b
right_exact true true h = refl
right_exact true false h = absurd (omega arith)
right_exact false true h = absurd (omega arith)
right_exact false false h = refl

offer_exact : (a b : PendingOffer) → IsPending a → IsPending b → offer_bytes a ≡ offer_bytes b → a ≡ b
offer_exact a b p q h =
    let p0 = p.offerer in let p1 = p.page in let p2 = p.target in
    let q0 = q.offerer in let q1 = q.page in let q2 = q.target in
    let x = first_number a.offerer b.offerer _ _ (omega arith) (omega arith) h in
    let y = first_number a.page b.page _ _ (omega arith) (omega arith) x.1 in
    let z = first_number a.target b.target _ _ (omega arith) (omega arith) y.1 in
    let w = right_exact a.write b.write (same_number (right_number a.write) (right_number b.write) (right_small a.write) (right_small b.write) z.1) in
    λ i. record { offerer = x.0 i; page = y.0 i; target = z.0 i; write = w i }

pub texts_tell : TextsTellMachines
unfolding text
texts_tell w v H J h =
    let wm = H.image.most in
    let vm = J.image.most in
    let ws = stored_most w.image.roles in
    let vs = stored_most v.image.roles in
    let wo = few_offers 0 w.offers (omega arith) H.offers.pending H.offers.rise in
    let vo = few_offers 0 v.offers (omega arith) J.offers.pending J.offers.rise in
    let a = same_parts snapshot_magic snapshot_magic _ _ refl h in
    let b = first_number 1 1 _ _ (omega arith) (omega arith) a.1 in
    let n = first_number (frames w.image) (frames v.image) _ _ (omega arith) (omega arith) b.1 in
    let p = same_pieces process_bytes 24 Fits process_wide process_exact w.image.processes v.image.processes _ _ (H.image.pids ∙ sym J.image.pids) (fields_fit 1048576 w.image (omega arith) H.image) (fields_fit 1048576 v.image (omega arith) J.image) n.1 in
    let k = first_number (length w.offers) (length v.offers) _ _ (omega arith) (omega arith) p.1 in
    let m = first_number (frames_stored w.image.roles) (frames_stored v.image.roles) _ _ (omega arith) (omega arith) k.1 in
    let o = same_pieces offer_bytes 16 IsPending offer_wide offer_exact w.offers v.offers _ _ k.0 H.offers.pending J.offers.pending m.1 in
    let f = same_frames 0 w.image.roles v.image.roles w.image.bytes v.image.bytes n.0 (omega arith) H.image.size J.image.size H.image.roles J.image.roles o.1 in (
      record {
        version = H.today ∙ sym J.today;
        processes = p.0;
        roles = f.same;
        size = H.image.size ∙ ap (λ n. 4096 * n) n.0 ∙ sym J.image.size;
        bytes = λ g role at used. agree_at w.image.roles w.image.bytes v.image.bytes f.agree g role at used;
      },
      o.0,
    )

pub machines_are_read : MachinesAreRead
machines_are_read v w read H shows stands E =
    let t = texts_tell w read H E.whole.fields E.is in
    (free_frames w.image read.image v.state H.image H.today t.0 stands, subst (AreListed v.state.offers) t.1 shows.offers)
