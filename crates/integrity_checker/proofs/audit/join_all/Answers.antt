use Rattle.std.proofs.Common.{rules, ◌≡◌, ℕ, ◌+◌, ◌≤◌, ◌∷◌, [], ◌++◌, List, All, true, length, sum_by, ap, ◌∙◌, sym, subst, arith, length-append}
use Rattle.std.specs.Option.{option_to_list}
use Rattle.memory_image.specs.Image.{Image}
use Rattle.image_check.specs.Draws.{times}
use Rattle.integrity_checker.specs.Found.{IsFound}
use Rattle.integrity_checker.specs.Steps.{IsOf}
use Rattle.integrity_checker.specs.declared.draw.About.{About}
use Rattle.integrity_checker.specs.Held.{Audited, Helping}
use Rattle.integrity_checker.proofs.Drawing.{joins, totals}
use Rattle.integrity_checker.proofs.Finding.{StaysBelow, one_stays_below, both_stay_below, both_found, names_to_add, maps_to_add, all_drawn, all_clauses, all_names, all_maps}
use Rattle.integrity_checker.proofs.Sums.{times_append, every_last, sum_last}
use Rattle.integrity_checker.proofs.audit.join_all.Goals as goal

pub loop-helper-init : goal.loop-helper-init
loop-helper-init c =
    let own = c.requires.own.0 in
    let seat = c.first.inside.seat in
    let kept = c.first.invariant in
    let image : seat.me.0.image ≡ c.args.audit.now.image = ap (λ (h : Helping). h.image) c.first.view_is ∙ own.1 in (
      ap (λ (h : Helping). h.table) c.first.view_is ∙ own.0,
      kept.2 ∙ ap (λ (h : Helping). h.done) c.first.view_is ∙ c.requires.ended.0,
      (let one = kept.0 in let n : ℕ = length c.args.others.items in omega (arith, one)),
      (λ x. search rules),
      c.requires.own.1,
      c.requires.ended.1,
      image,
      subst (λ (i : Image). IsFound i seat.me.0.drawn c.first.inside.findings.clauses c.first.inside.findings.names.items c.first.inside.findings.maps.items) image kept.4,
      subst (λ (share : ℕ). StaysBelow c.args.audit.now.image share seat.me.0.drawn) (sym kept.0) (one_stays_below c.args.audit.now.image seat.me.0.drawn kept.3),
    )

pub join_seat-requires : goal.join_seat-requires
join_seat-requires c =
    let kept = c.loop-helper.invariant in
    let cut : c.loop-helper.others.items ≡ c.pop.new.self.items ++ c.in-Some.helper ∷ [] = c.pop.ensures.items ∙ ap (λ o. c.pop.new.self.items ++ option_to_list o) c.in-Some.is in
    let P : Helping → Type 0 = λ h. IsOf c.args.audit.now h in
    let Q : Helping → Type 0 = λ h. h.done ≡ true in
    let own = (every_last P c.pop.new.self.items c.in-Some.helper (subst (λ (hs : List Helping). All P hs) cut kept.4)).0 in
    let also = (every_last Q c.pop.new.self.items c.in-Some.helper (subst (λ (hs : List Helping). All Q hs) cut kept.5)).0 in
    let table : c.audit.inside.table.shared.table_id ≡ c.args.audit.now.table = ap (λ (a : Audited). a.table) c.audit.view_is in (
      kept.0 ∙ sym table,
      ap (λ (h : Helping). h.table) c.helper.view_is ∙ own.0 ∙ sym table,
      c.helper.invariant.1,
      search rules,
      joins _ _ _ _ _ kept.1 (c.helper.invariant.2 ∙ ap (λ (h : Helping). h.done) c.helper.view_is ∙ also),
    )

pub add-requires-clause-names : goal.add-requires-clause-names
add-requires-clause-names c =
    let kept = c.loop-helper.invariant in
    let cut : c.loop-helper.others.items ≡ c.pop.new.self.items ++ c.in-Some.helper ∷ [] = c.pop.ensures.items ∙ ap (λ o. c.pop.new.self.items ++ option_to_list o) c.in-Some.is in
    let P : Helping → Type 0 = λ h. IsOf c.args.audit.now h in
    let own = (every_last P c.pop.new.self.items c.in-Some.helper (subst (λ (hs : List Helping). All P hs) cut kept.4)).0 in
    let helper = c.helper.inside in
    let image : helper.seat.me.0.image ≡ c.args.audit.now.image = ap (λ (h : Helping). h.image) c.helper.view_is ∙ own.1 in
    let share : ℕ = c.loop-helper.seat.me.0.share in
    let had : ℕ = length c.args.others.items in
    let sum : share + length c.loop-helper.others.items ≡ 1 + had = kept.2 in
    let count : had + 1 ≡ c.args.audit.now.helpers = search rules in
    let most : c.args.audit.now.helpers ≤ 8 = subst (λ (a : Audited). a.helpers ≤ 8) c.audit.view_is c.audit.invariant.3 in
    let few : share ≤ 8 = omega (arith, sum, count, most) in
    names_to_add c.args.audit.now.image share c.loop-helper.seat.me.0.drawn helper.seat.me.0.drawn c.loop-helper.findings.names.items helper.findings.names.items few kept.8.names c.helper.invariant.3 kept.7.names
    (subst (λ (i : Image). IsFound i helper.seat.me.0.drawn helper.findings.clauses helper.findings.names.items helper.findings.maps.items) image c.helper.invariant.4).names

pub add-requires-clause-maps : goal.add-requires-clause-maps
add-requires-clause-maps c =
    let kept = c.loop-helper.invariant in
    let cut : c.loop-helper.others.items ≡ c.pop.new.self.items ++ c.in-Some.helper ∷ [] = c.pop.ensures.items ∙ ap (λ o. c.pop.new.self.items ++ option_to_list o) c.in-Some.is in
    let P : Helping → Type 0 = λ h. IsOf c.args.audit.now h in
    let own = (every_last P c.pop.new.self.items c.in-Some.helper (subst (λ (hs : List Helping). All P hs) cut kept.4)).0 in
    let helper = c.helper.inside in
    let image : helper.seat.me.0.image ≡ c.args.audit.now.image = ap (λ (h : Helping). h.image) c.helper.view_is ∙ own.1 in
    let share : ℕ = c.loop-helper.seat.me.0.share in
    let had : ℕ = length c.args.others.items in
    let sum : share + length c.loop-helper.others.items ≡ 1 + had = kept.2 in
    let count : had + 1 ≡ c.args.audit.now.helpers = search rules in
    let most : c.args.audit.now.helpers ≤ 8 = subst (λ (a : Audited). a.helpers ≤ 8) c.audit.view_is c.audit.invariant.3 in
    let few : share ≤ 8 = omega (arith, sum, count, most) in
    maps_to_add c.args.audit.now.image share c.loop-helper.seat.me.0.drawn helper.seat.me.0.drawn c.loop-helper.findings.maps.items helper.findings.maps.items few kept.8.maps c.helper.invariant.3 kept.7.maps
    (subst (λ (i : Image). IsFound i helper.seat.me.0.drawn helper.findings.clauses helper.findings.names.items helper.findings.maps.items) image c.helper.invariant.4).maps

pub loop-helper-preserved : goal.loop-helper-preserved
loop-helper-preserved c =
    let kept = c.loop-helper.invariant in
    let cut : c.loop-helper.others.items ≡ c.pop.new.self.items ++ c.in-Some.helper ∷ [] = c.pop.ensures.items ∙ ap (λ o. c.pop.new.self.items ++ option_to_list o) c.in-Some.is in
    let P : Helping → Type 0 = λ h. IsOf c.args.audit.now h in
    let Q : Helping → Type 0 = λ h. h.done ≡ true in
    let owns = every_last P c.pop.new.self.items c.in-Some.helper (subst (λ (hs : List Helping). All P hs) cut kept.4) in
    let popped = c.in-Some.helper in
    let helper = c.helper.inside in
    let image = c.args.audit.now.image in
    let me = c.join_seat.ensures.2 in
    let left : ℕ = length c.pop.new.self.items in
    let long : length c.loop-helper.others.items ≡ left + 1 = ap length cut ∙ length-append c.pop.new.self.items (popped ∷ []) in
    let one = c.helper.invariant.0 in
    let was : c.loop-helper.seat.me.0.share + length c.loop-helper.others.items ≡ 1 + length c.args.others.items = kept.2 in
    let shares : c.join_seat.new.seat.me.0.share ≡ c.loop-helper.seat.me.0.share + helper.seat.me.0.share = ap (λ m. m.0.share) me in
    let more : c.join_seat.new.seat.me.0.share ≡ c.loop-helper.seat.me.0.share + 1 = shares ∙ ap (λ k. c.loop-helper.seat.me.0.share + k) one in
    let drawn : c.join_seat.new.seat.me.0.drawn ≡ c.loop-helper.seat.me.0.drawn ++ helper.seat.me.0.drawn = ap (λ m. m.0.drawn) me in
    let had = subst (λ (i : Image). IsFound i helper.seat.me.0.drawn helper.findings.clauses helper.findings.names.items helper.findings.maps.items) (ap (λ (h : Helping). h.image) c.helper.view_is ∙ owns.0.1) c.helper.invariant.4 in (
      c.join_seat.ensures.0 ∙ kept.0,
      ap (λ m. m.0.done) me,
      (let all : ℕ = length c.args.others.items in omega (arith, was, more, long)),
      (λ x.
          let f : Helping → ℕ = λ h. times x h.answered in
          let a : times x c.join_seat.new.seat.me.0.drawn ≡ times x c.loop-helper.seat.me.0.drawn + f popped = ap (times x) drawn ∙ times_append x c.loop-helper.seat.me.0.drawn helper.seat.me.0.drawn ∙ ap (λ (h : Helping). times x c.loop-helper.seat.me.0.drawn + times x h.answered) c.helper.view_is in
          let b : sum_by f c.loop-helper.others.items ≡ sum_by f c.pop.new.self.items + f popped = ap (sum_by f) cut ∙ sum_last f c.pop.new.self.items popped in
          let e : times x c.loop-helper.seat.me.0.drawn + sum_by f c.loop-helper.others.items ≡ times x c.first.inside.seat.me.0.drawn + sum_by f c.args.others.items = kept.3 x in
          let k₁ : ℕ = times x c.join_seat.new.seat.me.0.drawn in
          let k₂ : ℕ = times x c.loop-helper.seat.me.0.drawn in
          let k₃ : ℕ = f popped in
          let k₄ : ℕ = sum_by f c.pop.new.self.items in
          let k₅ : ℕ = sum_by f c.loop-helper.others.items in
          let k₆ : ℕ = times x c.first.inside.seat.me.0.drawn in
          let k₇ : ℕ = sum_by f c.args.others.items in
          omega arith),
      owns.1,
      (every_last Q c.pop.new.self.items popped (subst (λ (hs : List Helping). All Q hs) cut kept.5)).1,
      ap (λ m. m.0.image) me ∙ kept.6,
      subst (λ (d : List ℕ). IsFound image d c.add.new.self.clauses c.add.new.self.names.items c.add.new.self.maps.items) (sym drawn)
          (both_found image _ _ _ _ _ _ _ _ _ _ _ kept.7 had c.add.ensures.clauses c.add.ensures.names c.add.ensures.maps),
      subst (λ (z : ℕ × List ℕ). StaysBelow image z.0 z.1) (λ i. (sym more i, sym drawn i)) (both_stay_below image c.loop-helper.seat.me.0.share c.loop-helper.seat.me.0.drawn helper.seat.me.0.drawn kept.8 c.helper.invariant.3),
    )

pub load-requires : goal.load-requires
load-requires c =
    let kept = c.loop-helper.invariant in
    let none : length c.loop-helper.others.items ≡ 0 = search rules in
    let share : ℕ = c.loop-helper.seat.me.0.share in
    let had : ℕ = length c.args.others.items in
    let sum : share + length c.loop-helper.others.items ≡ 1 + had = kept.2 in
    let count : had + 1 ≡ c.args.audit.now.helpers = search rules in
    let table = c.audit.inside.table.shared in
    let key : table.key.helpers ≡ c.args.audit.now.helpers = ap (λ (a : About). a.helpers) c.audit.invariant.0 ∙ ap (λ (a : Audited). a.helpers) c.audit.view_is in
    let all : share ≡ table.key.helpers = omega (arith, none, sum, count, key) in
    (kept.0 ∙ sym (ap (λ (a : Audited). a.table) c.audit.view_is), search rules, totals _ _ _ _ _ all kept.1)

pub returns-clause-processes : goal.returns-clause-processes
returns-clause-processes c = all_clauses _ _ _ _ _ c.loop-helper.invariant.7 (all_drawn _ c.load.ensures.2.1)

pub returns-clause-names : goal.returns-clause-names
returns-clause-names c = all_names _ _ _ _ _ c.loop-helper.invariant.7 (all_drawn _ c.load.ensures.2.1)

pub returns-clause-maps : goal.returns-clause-maps
returns-clause-maps c = all_maps _ _ _ _ _ c.loop-helper.invariant.7 (all_drawn _ c.load.ensures.2.1)
