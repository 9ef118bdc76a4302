use Rattle.std.proofs.Common.{◌≡◌, ℕ, ◌+◌, ◌-◌, [], ◌∷◌, ◌++◌, List, All, length, length-append, false, ap, ◌∙◌, sym, subst, arith}
use Rattle.integrity_checker.specs.declared.draw.Drawer.{Drawer}
use Rattle.integrity_checker.specs.Held.{Helping}
use Rattle.integrity_checker.specs.Drawn.{drawer}
use Rattle.integrity_checker.proofs.Sums.{every_push}
use Rattle.integrity_checker.proofs.Drawing.{begins}
use Rattle.integrity_checker.proofs.audit.made.Goals as goal

pub of_words-opened-requires : goal.of_words-opened-requires
of_words-opened-requires c = begins _ _ c.requires.1

pub cut_one-seat-requires-clause-some : goal.cut_one-seat-requires-clause-some
cut_one-seat-requires-clause-some c =
    let share : ℕ = c.loop-number.rest.me.0.share in
    let is = ap (λ (v : Drawer). v.share) c.loop-number.invariant.1 in
    let lt = c.loop-number-test.true in
    omega (arith, is, lt)

pub cut_one-seat-requires-clause-idle : goal.cut_one-seat-requires-clause-idle
cut_one-seat-requires-clause-idle c = (ap (λ (v : Drawer). v.drawn) c.loop-number.invariant.1, ap (λ (v : Drawer). v.done) c.loop-number.invariant.1)

pub loop-number-preserved : goal.loop-number-preserved
loop-number-preserved c =
    let kept = c.loop-number.invariant in
    let cut = c.cut_one-seat.ensures in
    let P : Helping → Type 0 = λ h. (h.table ≡ c.in-Ok-opened.table.shared.table_id) × (h.image ≡ c.args.image) in
    let Q : Helping → Type 0 = λ h. h.answered ≡ [] in
    let helper = c.new-in-loop-number.result in
    let seat = c.new-in-loop-number.ensures in
    let grown : c.push.new.seats.items ≡ c.loop-number.seats.items ++ helper ∷ [] = c.in_ok-push.ensures in
    let long : length c.push.new.seats.items ≡ length c.loop-number.seats.items + 1 = ap length grown ∙ length-append c.loop-number.seats.items (helper ∷ []) in
    let share : c.loop-number.rest.me.0.share ≡ c.args.helpers + 1 - c.loop-number.number = ap (λ (v : Drawer). v.share) kept.1 in
    let image = ap (λ (v : Drawer). v.image) kept.1 in
    let less : c.loop-number.rest.me.0.share - 1 ≡ c.args.helpers + 1 - (c.loop-number.number + 1) = omega (arith, share) in (
      cut.own.0 ∙ kept.0,
      ap (λ m. m.0) cut.left ∙ (λ i. drawer (image i) (less i) [] false),
      ap (λ m. m.1) cut.left ∙ kept.2,
      (let k = kept.3 in omega (arith, k, long)),
      subst (λ (hs : List Helping). All P hs) (sym grown) (every_push P c.loop-number.seats.items helper kept.4 (ap (λ (h : Helping). h.table) seat ∙ cut.own.1 ∙ kept.0, ap (λ (h : Helping). h.image) seat ∙ ap (λ m. m.0.image) cut.right ∙ image)),
      subst (λ (hs : List Helping). All Q hs) (sym grown) (every_push Q c.loop-number.seats.items helper kept.5 (ap (λ (h : Helping). h.answered) seat)),
    )

pub returns-clause-own : goal.returns-clause-own
returns-clause-own c =
    let kept = c.loop-number.invariant in
    let P : Helping → Type 0 = λ h. (h.table ≡ c.in-Ok-opened.table.shared.table_id) × (h.image ≡ c.args.image) in
    let grown : c.push-2.new.seats.items ≡ c.loop-number.seats.items ++ c.new-3.result ∷ [] = c.in_ok-push-2.ensures in
    subst (λ (hs : List Helping). All P hs) (sym grown) (every_push P c.loop-number.seats.items c.new-3.result kept.4 (ap (λ (h : Helping). h.table) c.new-3.ensures ∙ kept.0, ap (λ (h : Helping). h.image) c.new-3.ensures ∙ ap (λ (v : Drawer). v.image) kept.1))

pub returns-clause-empty : goal.returns-clause-empty
returns-clause-empty c =
    let kept = c.loop-number.invariant in
    let Q : Helping → Type 0 = λ h. h.answered ≡ [] in
    let grown : c.push-2.new.seats.items ≡ c.loop-number.seats.items ++ c.new-3.result ∷ [] = c.in_ok-push-2.ensures in
    subst (λ (hs : List Helping). All Q hs) (sym grown) (every_push Q c.loop-number.seats.items c.new-3.result kept.5 (ap (λ (h : Helping). h.answered) c.new-3.ensures))
