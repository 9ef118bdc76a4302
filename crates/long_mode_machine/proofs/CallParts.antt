-- What the clauses of a call are, as parts of a move.
use Rattle.std.proofs.Common.{◌≡◌, ℕ, Bool, true, false, ◌%◌, refl, sym, ap, subst, ◌∙◌}
use Rattle.std.specs.Prelude.{if◌then◌else◌}
use Rattle.page_words.specs.FiniteMap as map
use Rattle.process_table.specs.View.{View}
use Rattle.kernel_calls.specs.Machine.{answer, completes}
use Rattle.kernel_calls.specs.declared.calls.Event.{Event}
use Rattle.kernel_calls.specs.declared.calls.Reply.{Reply}
use Rattle.kernel_calls.specs.declared.calls.Reply.TheVariants as reply
use Rattle.kernel_calls.specs.declared.translations.Ended.TheVariants as end
use Rattle.address_space.specs.Spaces as spaces
use Rattle.kernel_calls.specs.Translations.{ended_by, of_call, is_ended, is_all_of}
use Rattle.kernel_calls.specs.declared.translations.Ended.{Ended}
use Rattle.table_walk.specs.declared.Access.{Access}
use Rattle.page_words.specs.Addresses.{page_number}
use Rattle.shadow_tables.specs.Laws.{WalksAgree, LinksAreExact, PagesAreExact}
use Rattle.shadow_tables.specs.Needs.{TablesStay}
use Rattle.shadow_tables.specs.Shadow.{Shadow, IsFixed, at_page, root_frame}
use Rattle.shadow_core.specs.Paired.{IsStopped, handled_of, HasFilled, RootsStay, left_by}
use Rattle.shadow_core.proofs.Pairing.{left_get, entered-insert}
use Rattle.long_mode_machine.specs.LongMode.{IsAligned, IsTabled, IsLeft, HasForgotten}
use Rattle.long_mode_machine.specs.Moves.{FillsOne}

-- the laws of the tables after a call
pub tabled : (old new : Shadow) → IsAligned old → IsFixed old new → WalksAgree new → LinksAreExact new → PagesAreExact new → IsTabled new
tabled old new aligned fixed walks links pages = record {
  walks = walks;
  links = links;
  pages = pages;
  aligned = record { pool = ap (λ n. n % 4096) fixed.pool ∙ aligned.pool; block = ap (λ n. n % 4096) fixed.block ∙ aligned.block };
}

pub left_of : (old new : Shadow) (x : Ended) → new.translations ≡ left_by x old.translations → ((p : ℕ) → is_all_of x p ≡ false → root_frame new p ≡ root_frame old p)
    → ((p : ℕ) → is_all_of x p ≡ false → TablesStay old p new) → IsTabled new → IsLeft old (is_all_of x) new
left_of old new x left roots tables stands = record {
  less = λ p page t is. (left_get x old.translations p page t (ap (λ m. map.get m (at_page p page)) (sym left) ∙ is)).0;
  roots = roots;
  tables = tables;
  stands = stands;
}

pub forgotten : (old new : Shadow) (x : Ended) → new.translations ≡ left_by x old.translations → HasForgotten x new
forgotten old new x left p page t is = (left_get x old.translations p page t (ap (λ m. map.get m (at_page p page)) (sym left) ∙ is)).1

pub fills_one : (x : Ended) (w : View) (old new : Shadow) (p address : ℕ) (access : Access) → HasFilled w (left_by x old.translations) new p address access → RootsStay old p new
    → ((q : ℕ) → TablesStay old q new) → IsTabled new → FillsOne x w old p (page_number address) new
fills_one x w old new p address access filled roots tables stands = (
  filled.translation,
  record {
    entered = entered-insert (left_by x old.translations) new.translations p (page_number address) filled.translation filled.is;
    given = filled.given;
    roots = roots.stay;
    tables = tables;
    stands = stands;
  },
)

-- a fault that is stopped ends nothing
pub stops_none : (v : View) (e : Event) → IsStopped (handled_of (answer v.state e)) → ended_by v e ≡ end.Nothing
stops_none v e stopped = ap (λ (b : Bool). if b then of_call v e.pid e.call else end.Nothing) (by (answer v.state e) stopped)
  where
    by : (r : Reply) → IsStopped (handled_of r) → completes r ≡ false
    by (reply.Fault addr code) stopped = refl
    by (reply.Refused cause) stopped = refl
    by _ stopped = absurd stopped

-- all stays, where nothing was ended
pub same_left : (old new : Shadow) (x : Ended) → new ≡ old → IsTabled new → IsLeft old (is_all_of x) new
same_left old new x same stands = record {
  less = λ p page t is. ap (λ (s : Shadow). map.get s.translations (at_page p page)) (sym same) ∙ is;
  roots = λ p spared. ap (λ (s : Shadow). root_frame s p) same;
  tables = λ p spared. subst (TablesStay old p) (sym same) (λ page depth frame user deep is. is);
  stands = stands;
}

pub nothing_forgotten : (s : Shadow) (x : Ended) → x ≡ end.Nothing → HasForgotten x s
nothing_forgotten s x none p page t is = ap (λ (x : Ended). is_ended x (spaces.at_page p page)) none

pub not_true : (b : Bool) → (b ≡ true → ⊥) → b ≡ false
not_true true never = absurd (never refl)
not_true false never = refl
