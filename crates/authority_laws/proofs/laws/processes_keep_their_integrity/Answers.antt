use Rattle.authority_laws.proofs.Prelude.{◌≢◌, [], ◌∷◌, refl, ap, ◌∙◌, is_some, All-head, All-tail, NobodyTakesBack, next, Event, next-stays, changes_are_rightful, kept-next, integrity, leaves_all}
use Rattle.authority_laws.proofs.laws.processes_keep_their_integrity.Goals as goal

nobody_takes_back : NobodyTakesBack
nobody_takes_back s [] p page w live others = refl
nobody_takes_back s (e ∷ events) p page w live others =
    let u = leaves_all s e p w live (All-head (λ (e : Event). p ≢ e.pid) e events others) in
    nobody_takes_back (next s e) events p page (kept-next s e w).0 (ap is_some u.member ∙ live)
    (All-tail (λ (e : Event). p ≢ e.pid) e events others)
    ∙ u.flags page

pub returns-clause-well_formed : goal.returns-clause-well_formed
returns-clause-well_formed c = λ s e w. (kept-next s e w).0

pub returns-clause-refused : goal.returns-clause-refused
returns-clause-refused c = next-stays

pub returns-clause-slots : goal.returns-clause-slots
returns-clause-slots c = changes_are_rightful

pub returns-clause-events : goal.returns-clause-events
returns-clause-events c = integrity

pub returns-clause-runs : goal.returns-clause-runs
returns-clause-runs c = nobody_takes_back
