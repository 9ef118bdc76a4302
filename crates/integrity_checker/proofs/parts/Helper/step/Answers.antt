use Rattle.std.proofs.Common.{rules, ◌≡◌, ℕ, ◌<◌, List, false, ap, sym, subst, ◌∙◌, arith}
use Rattle.memory_image.specs.Image.{Image}
use Rattle.image_check.specs.Draws.{AreSomeDrawn}
use Rattle.integrity_checker.specs.declared.draw.Drawer.{Drawer}
use Rattle.integrity_checker.specs.Found.{IsFound}
use Rattle.integrity_checker.specs.Held.{Audited, Helping}
use Rattle.integrity_checker.proofs.Drawing.{draws}
use Rattle.integrity_checker.proofs.Finding.{names_room, maps_room, one_more, one_more_found}
use Rattle.integrity_checker.proofs.parts.Helper.step.Goals as goal

pub fetch_add-found-requires : goal.fetch_add-found-requires
fetch_add-found-requires c =
    let one = c.self.invariant.0 in
    let share : ℕ = c.self.inside.seat.me.0.share in
    let idle : c.self.inside.seat.me.0.done ≡ false = search rules in
    (ap (λ (h : Helping). h.table) c.self.view_is ∙ c.requires.0 ∙ sym (ap (λ (a : Audited). a.table) c.audit.view_is), search rules, draws _ _ _ _ _ (let some_share : 0 < share = omega arith in some_share) idle)

pub judge-clause-requires-clause-names : goal.judge-clause-requires-clause-names
judge-clause-requires-clause-names c = names_room c.self.inside.seat.me.0.image c.self.inside.seat.me.0.drawn c.self.inside.findings.names.items c.self.invariant.3 c.self.invariant.4.names

pub judge-clause-requires-clause-maps : goal.judge-clause-requires-clause-maps
judge-clause-requires-clause-maps c = maps_room c.self.inside.seat.me.0.image c.self.inside.seat.me.0.drawn c.self.inside.findings.maps.items c.self.invariant.3 c.self.invariant.4.maps

pub invariant_of-self-2 : goal.invariant_of-self-2
invariant_of-self-2 c =
    let was = c.self.inside in
    let kept = c.self.invariant in
    let image : was.seat.me.0.image ≡ c.audit.inside.about.image = ap (λ (h : Helping). h.image) c.self.view_is ∙ c.requires.1 ∙ sym (ap (λ (a : Audited). a.image) c.audit.view_is) in
    let low : c.fetch_add-found.result < 64 = c.if-found-ge64.false in
    let drew = c.fetch_add-found.ensures.2 in
    let me = (drew.1 low).0 in
    let new = (drew.1 low).1 in (
      ap (λ (v : Drawer). v.share) me ∙ kept.0,
      drew.0 ∙ kept.1,
      ap (λ (v : Drawer). v.done) me ∙ kept.2,
      subst (λ (d : List ℕ). AreSomeDrawn d 64) (sym (ap (λ (v : Drawer). v.drawn) me)) (one_more _ _ kept.3 low new),
      subst (λ (z : Image × List ℕ). IsFound z.0 z.1 c.judge-clause.new.self.clauses c.judge-clause.new.self.names.items c.judge-clause.new.self.maps.items)
          (λ i. (sym (ap (λ (v : Drawer). v.image) me ∙ image) i, sym (ap (λ (v : Drawer). v.drawn) me) i))
          (one_more_found _ _ _ _ _ _ _ _ _ (subst (λ (i : Image). IsFound i was.seat.me.0.drawn was.findings.clauses was.findings.names.items was.findings.maps.items) image kept.4) low
          c.judge-clause.ensures.clauses c.judge-clause.ensures.names c.judge-clause.ensures.maps),
    )
