-- Runs of some processes' events write only what was free and what is theirs.
use Rattle.std.proofs.Common.{◌≡◌, ◌≢◌, ◌∙◌, ℕ, Bool, true, false, List, [], ◌∷◌, Option, Some, None, refl, sym, ap, subst, inl}
use Rattle.std.specs.Prelude.{slice_get}
use Rattle.alloc_table.specs.declared.Role.{Role}
use Rattle.alloc_table.specs.declared.Role.TheVariants.{Reserved, Free, Directory, Table, Page}
use Rattle.page_words.specs.Addresses.{slot_number}
use Rattle.kernel_calls.proofs.Leaving.{region_spared}
use Rattle.kernel_calls.proofs.Writings.{ended_takes}
use Rattle.kernel_calls.specs.Along.{CarriesOut, EndAlong, EndsInOrder}
use Rattle.kernel_calls.specs.Processors.{IsCore}
use Rattle.kernel_calls.specs.Translations.{ended_by, ends_in_region}
use Rattle.kernel_calls.specs.Written.{StandsAsBefore}
use Rattle.kernel_calls.specs.declared.calls.Event.{Event}
use Rattle.kernel_calls.specs.declared.translations.Ended.{Ended}
use Rattle.process_table.specs.View.{View}
use Rattle.kernel_calls.proofs.Cleanings.{events_end_marks}
use Rattle.kernel_laws.proofs.OthersKeep.{OthersKeep, event_keeps}
use Rattle.kernel_laws.proofs.OthersStand.{EndOfThese, leaves, ways_by_marks}
use Rattle.kernel_laws.specs.OwnRuns.{ActsWriteTheirOwn, IsOwn, LeavingComposes, RunsWriteTheirOwn, ServesAlike, WriteTheirOwn}

-- ---- Two changes after each other

stands_then : (v u w : View) (f : ℕ) (x y : Option Role) → StandsAsBefore v u f x → ServesAlike x y → StandsAsBefore u w f y → StandsAsBefore v w f x
stands_then v u w f None y first alike later = tt
stands_then v u w f (Some Free) y first alike later = first
stands_then v u w f (Some Reserved) y first alike later = subst (StandsAsBefore u w f) alike later ∙ first
stands_then v u w f (Some (Page c)) y first alike later = subst (StandsAsBefore u w f) alike.1 later ∙ first
stands_then v u w f (Some (Table q s)) y first alike later = let next = subst (StandsAsBefore u w f) alike later in λ index inside. next index inside ∙ first index inside
stands_then v u w f (Some (Directory q)) y first alike later =
    let next = subst (StandsAsBefore u w f) alike later in
    λ index inside.
    let a = first index inside in
    let b = next index inside in
    record { frame = b.frame ∙ a.frame; present = b.present ∙ a.present }

alike_then : (x y z : Option Role) → ServesAlike x y → ServesAlike y z → ServesAlike x z
alike_then None y z first later = subst (λ k. ServesAlike k z) first later
alike_then (Some Free) y z first later = subst (λ k. ServesAlike k z) first later
alike_then (Some Reserved) y z first later = subst (λ k. ServesAlike k z) first later
alike_then (Some (Page c)) y z first later = subst (λ k. ServesAlike k z) first.1 later
alike_then (Some (Table q s)) y z first later = subst (λ k. ServesAlike k z) first later
alike_then (Some (Directory q)) y z first later = subst (λ k. ServesAlike k z) first later

stands_itself : (v : View) (f : ℕ) (x : Option Role) → (x ≡ Some Free → ⊥) → StandsAsBefore v v f x
stands_itself v f None free = tt
stands_itself v f (Some Reserved) free = refl
stands_itself v f (Some Free) free = absurd (free refl)
stands_itself v f (Some (Directory q)) free = λ index inside. record { frame = refl; present = refl }
stands_itself v f (Some (Table q s)) free = λ index inside. refl
stands_itself v f (Some (Page c)) free = refl

alike_itself : (x : Option Role) → ServesAlike x x
alike_itself None = refl
alike_itself (Some Reserved) = refl
alike_itself (Some Free) = refl
alike_itself (Some (Directory q)) = refl
alike_itself (Some (Table q s)) = refl
alike_itself (Some (Page c)) = (c, refl)

pub leaving_composes : LeavingComposes
leaving_composes = record {
  none = λ v own f may. record {
    stands = stands_itself v f (slice_get v.roles f) (λ free. may (inl free));
    serves = alike_itself (slice_get v.roles f);
    stays = may;
  };
  both = λ v u w own first later f may.
      let a = first f may in
      let b = later f a.stays in
      record {
        stands = stands_then v u w f (slice_get v.roles f) (slice_get u.roles f) a.stands a.serves b.stands;
        serves = alike_then (slice_get v.roles f) (slice_get u.roles f) (slice_get w.roles f) a.serves b.serves;
        stays = b.stays;
      };
}

-- ---- One event

-- what an event ends is of its process, since it takes no lazy page
spared : (own : ℕ → Bool) (v : View) (e : Event) → IsOwn own e → EndOfThese own (ended_by v e)
spared own v e mine slot strange = region_spared (ended_by v e) slot.pid slot.page (by (ends_in_region (ended_by v e) slot.pid (slot_number slot.page)) refl)
  where
    differ : slot.pid ≢ e.pid
    differ is = let k : false ≡ true = sym strange ∙ ap own is ∙ mine.mine in cc

    by : (b : Bool) → ends_in_region (ended_by v e) slot.pid (slot_number slot.page) ≡ b
        → ends_in_region (ended_by v e) slot.pid (slot_number slot.page) ≡ false
    by false is = is
    by true is = absurd (mine.takes_none _ _ _ (ended_takes v e slot.pid (slot_number slot.page) differ is).call)

event_leaves : (v u : View) (e : Event) (own : ℕ → Bool) → IsCore v → IsOwn own e → CarriesOut v e u → WriteTheirOwn v u own
event_leaves v u e own before mine done =
    leaves v u own before done.core
    (subst (OthersKeep own v.state) (sym done.state) (event_keeps own v.state e before.well_formed mine))
    (ways_by_marks own (ended_by v e) v u before done.core (spared own v e mine) (events_end_marks (ended_by v e) v u done.ends))

-- ---- Runs

pub runs_write_their_own : RunsWriteTheirOwn
runs_write_their_own v w own [] core mine run = subst (λ x. WriteTheirOwn v x own) run (leaving_composes.none v own)
runs_write_their_own v w own (e ∷ events) core mine run =
    leaving_composes.both v run.0 w own (event_leaves v run.0 e own core mine.0 run.1) (runs_write_their_own run.0 w own events run.1.core mine.1 run.2)

-- an act is a run
in_order : (v w : View) (events : List Event) (ended : List Ended) → EndAlong events ended v w → EndsInOrder events v w
in_order v w [] [] run = run
in_order v w [] (x ∷ ended) run = absurd run
in_order v w (e ∷ events) [] run = absurd run
in_order v w (e ∷ events) (x ∷ ended) run = (run.0, run.2, in_order run.0 w events ended run.3)

pub acts_write_their_own : ActsWriteTheirOwn
acts_write_their_own v w own events ended core mine run = runs_write_their_own v w own events core mine (in_order v w events ended run)
