use Rattle.std.proofs.Common.{◌≡◌, ℕ, ◌<◌, ◌≤◌, ◌+◌, ◌==◌, not, filter, length, drop}
use Rattle.page_sharing.specs.Listed.{offers_by, all_pending}
use Rattle.page_sharing.proofs.remove_all_to.Given as goal

abbrev pub invariant-loop-place : goal.invariant-loop-place
invariant-loop-place l = record {
  before : (p : ℕ) → p < l.place → offers_by l.lists p ≡ filter (λ offer. not (offer.target == l.target)) (offers_by l.initial.lists p);
  behind : (p : ℕ) → l.place ≤ p → offers_by l.lists p ≡ offers_by l.initial.lists p;
  places : length l.lists ≡ length l.initial.lists;
  went : l.gone + all_pending l.lists ≡ all_pending l.initial.lists;
  left : l.unseen ≡ all_pending (drop l.place l.initial.lists);
}
