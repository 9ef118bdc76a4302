-- A frame taken and a process's frames released: the lists hold each frame once, as before.
use Rattle.std.proofs.Common.{◌≡◌, ◌≢◌, ℕ, suc, ◌+◌, ◌-◌, ◌^◌, ◌<◌, ◌≤◌, ◌⊎◌, inl, inr, List, length, map, replicate, refl, sym, ap, subst, ◌∙◌, arith}
use Rattle.std.specs.Prelude.{sum, slice_index, slice_set}
use Rattle.std.proofs.lemmas.Bool.{cases_eq}
use Rattle.std.proofs.lemmas.Bool.Decides.{nat_tests}
use Rattle.std.proofs.lemmas.List.{get_or-set_same, get_or-set_other, length-set, length-replicate, get_or-replicate}
use Rattle.std.proofs.lemmas.List.FromFn.{get_or-map-range_with_len, length-map-range_with_len}
use Rattle.std.specs.List.{range_with_len}
use Rattle.std.proofs.lemmas.List.Sums.{sum_by-set}
use Rattle.shadow_tables.specs.declared.holdings.Holdings.{Holdings}
use Rattle.shadow_tables.specs.Holdings.{Place, Places, with_place, count_of, last_of, before, frame_count, IsNth, AreHeld, IsTakenBy, IsReleased, opening_places, next_place, released_place}

pub with_place-same : (places : Places) (frame : ℕ) (place : Place) → with_place places frame place frame ≡ place
with_place-same places frame place = grind (arith, nat_tests)

pub with_place-other : (places : Places) (frame : ℕ) (place : Place) (f : ℕ) → f ≢ frame → with_place places frame place f ≡ places f
with_place-other places frame place f n = grind (arith, nat_tests)

-- what is written when a process takes a frame
pub record Took (h : Holdings) (owner frame : ℕ) (h' : Holdings) : Type 0 where
  pub process : owner < 64
  pub some : count_of h 64 ≢ 0
  pub frame_is : frame ≡ last_of h 64
  pub next : h'.next.items ≡ slice_set h.next.items frame (last_of h owner)
  pub heads : h'.heads ≡ slice_set (slice_set h.heads 64 (before h frame)) owner frame
  pub counts : h'.counts ≡ slice_set (slice_set h.counts 64 (count_of h 64 - 1)) owner (count_of h owner + 1)

-- two counts are at most all frames
pub two_counts : (xs : List ℕ) (i j : ℕ) → i < length xs → j < length xs → i ≢ j → slice_index xs i + slice_index xs j ≤ sum xs
two_counts xs i j a b n =
    let one = sum_by-set (λ (x : ℕ). x) xs i 0 0 a in
    let two = sum_by-set (λ (x : ℕ). x) (slice_set xs i 0) j 0 0 (omega (arith, length-set xs i 0)) in
    let same = get_or-set_other xs i j 0 0 (λ e. n (sym e)) in
    omega (arith, one, two, same)

-- two items changed
pub set_two : (xs : List ℕ) (i j v w q : ℕ) → q ≢ i → q ≢ j → slice_index (slice_set (slice_set xs i v) j w) q ≡ slice_index xs q
set_two xs i j v w q a b = get_or-set_other (slice_set xs i v) j q w 0 b ∙ get_or-set_other xs i q v 0 a

module _ (places : Places) (h h' : Holdings) (owner frame : ℕ) (held : AreHeld places h) (took : Took h owner frame h') where
  count-own : count_of h' owner ≡ count_of h owner + 1
  count-own = ap (λ xs. slice_index xs owner) took.counts ∙ get_or-set_same (slice_set h.counts 64 (count_of h 64 - 1)) owner (count_of h owner + 1) 0 (omega (arith, length-set h.counts 64 (count_of h 64 - 1), held.counts, took.process))

  count-free : count_of h' 64 ≡ count_of h 64 - 1
  count-free = ap (λ xs. slice_index xs 64) took.counts ∙ get_or-set_other (slice_set h.counts 64 (count_of h 64 - 1)) owner 64 (count_of h owner + 1) 0 (omega (arith, took.process)) ∙ get_or-set_same h.counts 64 (count_of h 64 - 1) 0 (omega (arith, held.counts))

  count-other : (q : ℕ) → q ≢ owner → q ≢ 64 → count_of h' q ≡ count_of h q
  count-other q a b = ap (λ xs. slice_index xs q) took.counts ∙ set_two h.counts 64 owner (count_of h 64 - 1) (count_of h owner + 1) q b a

  last-own : last_of h' owner ≡ frame
  last-own = ap (λ xs. slice_index xs owner) took.heads ∙ get_or-set_same (slice_set h.heads 64 (before h frame)) owner frame 0 (omega (arith, length-set h.heads 64 (before h frame), held.heads, took.process))

  last-free : last_of h' 64 ≡ before h frame
  last-free = ap (λ xs. slice_index xs 64) took.heads ∙ get_or-set_other (slice_set h.heads 64 (before h frame)) owner 64 frame 0 (omega (arith, took.process)) ∙ get_or-set_same h.heads 64 (before h frame) 0 (omega (arith, held.heads))

  last-other : (q : ℕ) → q ≢ owner → q ≢ 64 → last_of h' q ≡ last_of h q
  last-other q a b = ap (λ xs. slice_index xs q) took.heads ∙ set_two h.heads 64 owner (before h frame) frame q b a

  same_frames : frame_count h' ≡ frame_count h
  same_frames = ap length took.next ∙ length-set h.next.items frame (last_of h owner)

  free : IsNth places h 64 (count_of h 64 - 1) frame
  free =
      let some = took.some in
      let at = held.last 64 (count_of h 64 - 1) (omega arith) (omega arith) in
      record { inside = omega (arith, at.inside, took.frame_is); owner_is = ap (λ f. (places f).owner) took.frame_is ∙ at.owner_is; rank_is = ap (λ f. (places f).rank) took.frame_is ∙ at.rank_is }

  before-own : before h' frame ≡ last_of h owner
  before-own = ap (λ xs. slice_index xs frame) took.next ∙ get_or-set_same h.next.items frame (last_of h owner) 0 free.inside

  before-other : (g : ℕ) → g ≢ frame → before h' g ≡ before h g
  before-other g n = ap (λ xs. slice_index xs g) took.next ∙ get_or-set_other h.next.items frame g (last_of h owner) 0 n

  pub taken_inside : frame < frame_count h
  taken_inside = free.inside

  pub taken_free : (places frame).owner ≡ 64
  taken_free = free.owner_is

  module _ (depth prefix : ℕ) where
    abbrev after : Places
    after = with_place places frame (next_place h owner depth prefix)

    own : after frame ≡ next_place h owner depth prefix
    own = with_place-same places frame (next_place h owner depth prefix)

    other : (f : ℕ) → f ≢ frame → after f ≡ places f
    other f n = with_place-other places frame (next_place h owner depth prefix) f n

    nth : (o k g : ℕ) → g ≢ frame → IsNth places h o k g → IsNth after h' o k g
    nth o k g n at = record { inside = omega (arith, at.inside, same_frames); owner_is = ap (λ p. p.owner) (other g n) ∙ at.owner_is; rank_is = ap (λ p. p.rank) (other g n) ∙ at.rank_is }

    -- a frame of another owner, or rank, is another
    apart : (o k g : ℕ) → IsNth places h o k g → (o ≢ 64) ⊎ (k ≢ count_of h 64 - 1) → g ≢ frame
    apart o k g at (inl n) e = n (sym at.owner_is ∙ ap (λ f. (places f).owner) e ∙ free.owner_is)
    apart o k g at (inr n) e = n (sym at.rank_is ∙ ap (λ f. (places f).rank) e ∙ free.rank_is)

    count_grows : (q : ℕ) → q ≢ 64 → count_of h q ≤ count_of h' q
    count_grows q n = elim (cases_eq q owner) [
      | inl e ↦ let a = ap (count_of h) e in let b = ap (count_of h') e in omega (arith, a, b, count-own)
      | inr m ↦ omega (arith, count-other q m n)
    ]

    rank_other : (f : ℕ) → f < frame_count h → f ≢ frame → (places f).rank < count_of h' (places f).owner
    rank_other f l n = elim (cases_eq (places f).owner 64) [
      | inl e ↦
          let lower : (places f).rank ≢ count_of h 64 - 1 = λ s. n (held.once f frame l free.inside (e ∙ sym free.owner_is) (s ∙ sym free.rank_is)) in
          let a = ap (count_of h) e in
          let b = ap (count_of h') e in
          omega (arith, a, b, lower, held.ranks f l, count-free, took.some)
      | inr m ↦ omega (arith, held.ranks f l, count_grows (places f).owner m)
    ]

    ranks-after : (f : ℕ) → f < frame_count h' → (after f).rank < count_of h' (after f).owner
    ranks-after f l =
        let P : Place → Type 0 = λ p. p.rank < count_of h' p.owner in
        elim (cases_eq f frame) [
          | inl e ↦ subst P (sym (ap after e ∙ own)) (omega (arith, count-own))
          | inr n ↦ subst P (sym (other f n)) (rank_other f (omega (arith, same_frames)) n)
        ]

    owners-after : (f : ℕ) → f < frame_count h' → (after f).owner ≤ 64
    owners-after f l =
        let P : Place → Type 0 = λ p. p.owner ≤ 64 in
        elim (cases_eq f frame) [
          | inl e ↦ subst P (sym (ap after e ∙ own)) (omega (arith, took.process))
          | inr n ↦ subst P (sym (other f n)) (held.owners f (omega (arith, same_frames)))
        ]

    -- the frame is the only one of its place
    alone : (g : ℕ) → g < frame_count h → g ≢ frame → (places g).owner ≡ owner → (places g).rank ≡ count_of h owner → ⊥
    alone g l n o r = let lt = held.ranks g l in let e = ap (count_of h) o in absurd (omega (arith, lt, e, r))

    once-after : (f g : ℕ) → f < frame_count h' → g < frame_count h' → (after f).owner ≡ (after g).owner → (after f).rank ≡ (after g).rank → f ≡ g
    once-after f g l m o r =
        let lf : f < frame_count h = omega (arith, same_frames) in
        let lg : g < frame_count h = omega (arith, same_frames) in
        elim (cases_eq f frame) [
          | inl e ↦ elim (cases_eq g frame) [
            | inl d ↦ e ∙ sym d
            | inr n ↦
                let at = ap after e ∙ own in
                absurd (alone g lg n (sym (ap (λ p. p.owner) (other g n)) ∙ sym o ∙ ap (λ p. p.owner) at) (sym (ap (λ p. p.rank) (other g n)) ∙ sym r ∙ ap (λ p. p.rank) at))
          ]
          | inr n ↦ elim (cases_eq g frame) [
            | inl d ↦
                let at = ap after d ∙ own in
                absurd (alone f lf n (sym (ap (λ p. p.owner) (other f n)) ∙ o ∙ ap (λ p. p.owner) at) (sym (ap (λ p. p.rank) (other f n)) ∙ r ∙ ap (λ p. p.rank) at))
            | inr k ↦
                held.once f g lf lg (sym (ap (λ p. p.owner) (other f n)) ∙ o ∙ ap (λ p. p.owner) (other g k)) (sym (ap (λ p. p.rank) (other f n)) ∙ r ∙ ap (λ p. p.rank) (other g k))
          ]
        ]

    -- the same frame, by an equation
    nth_at : (o k f g : ℕ) → f ≡ g → IsNth after h' o k g → IsNth after h' o k f
    nth_at o k f g e at = subst (IsNth after h' o k) (sym e) at

    own_nth : IsNth after h' owner (count_of h owner) frame
    own_nth = record { inside = omega (arith, free.inside, same_frames); owner_is = ap (λ p. p.owner) own; rank_is = ap (λ p. p.rank) own }

    last-after : (o k : ℕ) → o ≤ 64 → count_of h' o ≡ suc k → IsNth after h' o k (last_of h' o)
    last-after o k l c = elim (cases_eq o owner) [
      | inl e ↦
          let Q : ℕ → Type 0 = λ o. IsNth after h' o k (last_of h' o) in
          let k_is : count_of h owner ≡ k = omega (arith, count-own, ap (count_of h') (sym e), c) in
          subst Q (sym e) (nth_at owner k _ frame last-own (subst (λ k. IsNth after h' owner k frame) k_is own_nth))
      | inr n ↦ elim (cases_eq o 64) [
        | inl d ↦
            let Q : ℕ → Type 0 = λ o. IsNth after h' o k (last_of h' o) in
            let k_is : count_of h 64 - 1 ≡ suc k = sym count-free ∙ ap (count_of h') (sym d) ∙ c in
            let at : IsNth places h (places frame).owner k (before h frame) = held.next frame k free.inside (free.rank_is ∙ k_is) in
            let at_free : IsNth places h 64 k (before h frame) = subst (λ o. IsNth places h o k (before h frame)) free.owner_is at in
            subst Q (sym d) (nth_at 64 k _ (before h frame) last-free (nth 64 k (before h frame) (apart 64 k (before h frame) at_free (inr (omega (arith, k_is)))) at_free))
        | inr m ↦
            let at : IsNth places h o k (last_of h o) = held.last o k l (sym (count-other o n m) ∙ c) in
            nth_at o k _ (last_of h o) (last-other o n m) (nth o k (last_of h o) (apart o k (last_of h o) at (inl m)) at)
      ]
    ]

    next-own : (k : ℕ) → count_of h owner ≡ suc k → IsNth after h' owner k (before h' frame)
    next-own k c =
        let at : IsNth places h owner k (last_of h owner) = held.last owner k (omega (arith, took.process)) c in
        nth_at owner k _ (last_of h owner) before-own (nth owner k (last_of h owner) (apart owner k (last_of h owner) at (inl (omega (arith, took.process)))) at)

    next-other : (f k : ℕ) → f < frame_count h → f ≢ frame → (places f).rank ≡ suc k → IsNth after h' (places f).owner k (before h' f)
    next-other f k l n r =
        let at = held.next f k l r in
        let lt = rank_other f l n in
        nth_at (places f).owner k _ (before h f) (before-other f n) (nth (places f).owner k (before h f) (apart (places f).owner k (before h f) at
        (elim (cases_eq (places f).owner 64) [
          | inl e ↦ inr (let a = ap (count_of h') e in omega (arith, a, lt, r, count-free))
          | inr m ↦ inl m
        ])) at)

    next-after : (f k : ℕ) → f < frame_count h' → (after f).rank ≡ suc k → IsNth after h' (after f).owner k (before h' f)
    next-after f k l r = elim (cases_eq f frame) [
      | inl e ↦
          let at = ap after e ∙ own in
          let Q : ℕ → Type 0 = λ f. IsNth after h' (after f).owner k (before h' f) in
          let R : ℕ → Type 0 = λ o. IsNth after h' o k (before h' frame) in
          subst Q (sym e) (subst R (sym (ap (λ p. p.owner) own)) (next-own k (sym (ap (λ p. p.rank) at) ∙ r)))
      | inr n ↦
          let R : ℕ → Type 0 = λ o. IsNth after h' o k (before h' f) in
          subst R (sym (ap (λ p. p.owner) (other f n))) (next-other f k (omega (arith, same_frames)) n (sym (ap (λ p. p.rank) (other f n)) ∙ r))
    ]

    all-after : sum h'.counts ≡ frame_count h'
    all-after =
        let one = sum_by-set (λ (x : ℕ). x) h.counts 64 (count_of h 64 - 1) 0 (omega (arith, held.counts)) in
        let two = sum_by-set (λ (x : ℕ). x) (slice_set h.counts 64 (count_of h 64 - 1)) owner (count_of h owner + 1) 0 (omega (arith, length-set h.counts 64 (count_of h 64 - 1), held.counts, took.process)) in
        let there = get_or-set_other h.counts 64 owner (count_of h 64 - 1) 0 (omega (arith, took.process)) in
        let is = ap sum took.counts in
        omega (arith, one, two, there, is, held.all, same_frames, took.some)

    held-after : AreHeld after h'
    held-after = record {
      heads = ap length took.heads ∙ length-set (slice_set h.heads 64 (before h frame)) owner frame ∙ length-set h.heads 64 (before h frame) ∙ held.heads;
      counts = ap length took.counts ∙ length-set (slice_set h.counts 64 (count_of h 64 - 1)) owner (count_of h owner + 1) ∙ length-set h.counts 64 (count_of h 64 - 1) ∙ held.counts;
      most = omega (arith, same_frames, held.most);
      all = all-after;
      owners = owners-after;
      once = once-after;
      ranks = ranks-after;
      last = last-after;
      next = next-after;
    }

-- a process took the frame that the free list had last
pub takes : (h h' : Holdings) (owner frame : ℕ) → (places : Places) × AreHeld places h → Took h owner frame h' → IsTakenBy h owner frame h'
takes h h' owner frame is took = record {
  inside = taken_inside is.0 h h' owner frame is.1 took;
  frames = same_frames is.0 h h' owner frame is.1 took;
  was_free = λ places held. taken_free places h h' owner frame held took;
  held = λ places depth prefix held. held-after places h h' owner frame held took depth prefix;
  free = omega (arith, count-free is.0 h h' owner frame is.1 took, took.some);
  owned = count-own is.0 h h' owner frame is.1 took;
  others = count-other is.0 h h' owner frame is.1 took;
}

-- the frame that the free list has last
pub last_inside : (h : Holdings) → (places : Places) × AreHeld places h → count_of h 64 ≢ 0 → last_of h 64 < frame_count h
last_inside h is some = (is.1.last 64 (count_of h 64 - 1) (omega arith) (omega (arith, some))).inside

-- one more frame of a process fits
pub room : (h : Holdings) (owner : ℕ) → owner < 64 → (places : Places) × AreHeld places h → count_of h 64 ≢ 0 → count_of h owner + 1 < 2 ^ 32
room h owner process is some = omega (arith, two_counts h.counts owner 64 (omega (arith, is.1.counts)) (omega (arith, is.1.counts)) (omega arith), is.1.all, is.1.most, some)

-- the frames of a process and the free ones are at most all
pub sum_fits : (places : Places) (h : Holdings) (owner : ℕ) → owner < 64 → AreHeld places h → count_of h 64 + count_of h owner < 2 ^ 32
sum_fits places h owner process held = omega (arith, two_counts h.counts owner 64 (omega (arith, held.counts)) (omega (arith, held.counts)) (omega arith), held.all, held.most)

-- what is written when a process's frames are released
pub record Released (h : Holdings) (owner first : ℕ) (h' : Holdings) : Type 0 where
  pub process : owner < 64
  pub next : h'.next.items ≡ slice_set h.next.items first (last_of h 64)
  pub heads : h'.heads ≡ slice_set h.heads 64 (last_of h owner)
  pub counts : h'.counts ≡ slice_set (slice_set h.counts 64 (count_of h 64 + count_of h owner)) owner 0

pub released-own : (h : Holdings) (owner : ℕ) (p : Place) → p.owner ≡ owner → released_place h owner p ≡ record p { owner = 64; rank = p.rank + count_of h 64 }
released-own h owner p e = grind (arith, nat_tests)

pub released-other : (h : Holdings) (owner : ℕ) (p : Place) → p.owner ≢ owner → released_place h owner p ≡ p
released-other h owner p n = grind (arith, nat_tests)

module _ (places : Places) (h h' : Holdings) (owner first : ℕ) (held : AreHeld places h) (at_first : IsNth places h owner 0 first) (free : Released h owner first h') where
  abbrev all_free : Places
  all_free = λ f. released_place h owner (places f)

  free_count : count_of h' 64 ≡ count_of h 64 + count_of h owner
  free_count = ap (λ xs. slice_index xs 64) free.counts ∙ get_or-set_other (slice_set h.counts 64 (count_of h 64 + count_of h owner)) owner 64 0 0 (omega (arith, free.process)) ∙ get_or-set_same h.counts 64 (count_of h 64 + count_of h owner) 0 (omega (arith, held.counts))

  own_count : count_of h' owner ≡ 0
  own_count = ap (λ xs. slice_index xs owner) free.counts ∙ get_or-set_same (slice_set h.counts 64 (count_of h 64 + count_of h owner)) owner 0 0 (omega (arith, length-set h.counts 64 (count_of h 64 + count_of h owner), held.counts, free.process))

  other_count : (q : ℕ) → q ≢ owner → q ≢ 64 → count_of h' q ≡ count_of h q
  other_count q a b = ap (λ xs. slice_index xs q) free.counts ∙ set_two h.counts 64 owner (count_of h 64 + count_of h owner) 0 q b a

  free_last : last_of h' 64 ≡ last_of h owner
  free_last = ap (λ xs. slice_index xs 64) free.heads ∙ get_or-set_same h.heads 64 (last_of h owner) 0 (omega (arith, held.heads))

  other_last : (q : ℕ) → q ≢ 64 → last_of h' q ≡ last_of h q
  other_last q n = ap (λ xs. slice_index xs q) free.heads ∙ get_or-set_other h.heads 64 q (last_of h owner) 0 n

  frames_same : frame_count h' ≡ frame_count h
  frames_same = ap length free.next ∙ length-set h.next.items first (last_of h 64)

  first_before : before h' first ≡ last_of h 64
  first_before = ap (λ xs. slice_index xs first) free.next ∙ get_or-set_same h.next.items first (last_of h 64) 0 at_first.inside

  other_before : (g : ℕ) → g ≢ first → before h' g ≡ before h g
  other_before g n = ap (λ xs. slice_index xs g) free.next ∙ get_or-set_other h.next.items first g (last_of h 64) 0 n

  own_owner : (f : ℕ) → (places f).owner ≡ owner → (all_free f).owner ≡ 64
  own_owner f e = ap (λ p. p.owner) (released-own h owner (places f) e)

  own_rank : (f : ℕ) → (places f).owner ≡ owner → (all_free f).rank ≡ (places f).rank + count_of h 64
  own_rank f e = ap (λ p. p.rank) (released-own h owner (places f) e)

  other_place : (f : ℕ) → (places f).owner ≢ owner → all_free f ≡ places f
  other_place f n = released-other h owner (places f) n

  nth_own : (k g : ℕ) → IsNth places h owner k g → IsNth all_free h' 64 (k + count_of h 64) g
  nth_own k g at = record { inside = omega (arith, at.inside, frames_same); owner_is = own_owner g at.owner_is; rank_is = own_rank g at.owner_is ∙ ap (λ r. r + count_of h 64) at.rank_is }

  nth_other : (o k g : ℕ) → o ≢ owner → IsNth places h o k g → IsNth all_free h' o k g
  nth_other o k g n at =
      let same = other_place g (λ e. n (sym at.owner_is ∙ e)) in
      record { inside = omega (arith, at.inside, frames_same); owner_is = ap (λ p. p.owner) same ∙ at.owner_is; rank_is = ap (λ p. p.rank) same ∙ at.rank_is }

  free_rank : (f : ℕ) → f < frame_count h → (all_free f).rank < count_of h' (all_free f).owner
  free_rank f l = elim (cases_eq (places f).owner owner) [
    | inl e ↦ let a = ap (count_of h') (own_owner f e) in let b = ap (count_of h) e in omega (arith, a, b, own_rank f e, free_count, held.ranks f l)
    | inr n ↦
        let P : Place → Type 0 = λ p. p.rank < count_of h' p.owner in
        subst P (sym (other_place f n))
        (elim (cases_eq (places f).owner 64) [
          | inl d ↦ let a = ap (count_of h') d in let b = ap (count_of h) d in omega (arith, a, b, free_count, held.ranks f l)
          | inr m ↦ omega (arith, other_count (places f).owner n m, held.ranks f l)
        ])
  ]

  free_owner : (f : ℕ) → f < frame_count h → (all_free f).owner ≤ 64
  free_owner f l = elim (cases_eq (places f).owner owner) [
    | inl e ↦ omega (arith, own_owner f e)
    | inr n ↦ omega (arith, ap (λ p. p.owner) (other_place f n), held.owners f l)
  ]

  -- no frame that was free has the rank of one that is released
  ranks_apart : (f g : ℕ) → f < frame_count h → g < frame_count h → (places f).owner ≡ owner → (places g).owner ≢ owner
      → (all_free f).owner ≡ (all_free g).owner → (all_free f).rank ≡ (all_free g).rank → ⊥
  ranks_apart f g l m e n o r =
      let same = other_place g n in
      let g_free : (places g).owner ≡ 64 = sym (ap (λ p. p.owner) same) ∙ sym o ∙ own_owner f e in
      let a = ap (count_of h) g_free in
      let b = ap (λ p. p.rank) same in
      absurd (omega (arith, a, b, r, own_rank f e, held.ranks g m))

  free_once : (f g : ℕ) → f < frame_count h → g < frame_count h → (all_free f).owner ≡ (all_free g).owner → (all_free f).rank ≡ (all_free g).rank → f ≡ g
  free_once f g l m o r = elim (cases_eq (places f).owner owner) [
    | inl e ↦ elim (cases_eq (places g).owner owner) [
      | inl d ↦ held.once f g l m (e ∙ sym d) (omega (arith, own_rank f e, own_rank g d, r))
      | inr n ↦ absurd (ranks_apart f g l m e n o r)
    ]
    | inr n ↦ elim (cases_eq (places g).owner owner) [
      | inl d ↦ absurd (ranks_apart g f m l d n (sym o) (sym r))
      | inr k ↦
          held.once f g l m (sym (ap (λ p. p.owner) (other_place f n)) ∙ o ∙ ap (λ p. p.owner) (other_place g k)) (sym (ap (λ p. p.rank) (other_place f n)) ∙ r ∙ ap (λ p. p.rank) (other_place g k))
    ]
  ]

  last_free : (o k : ℕ) → o ≤ 64 → count_of h' o ≡ suc k → IsNth all_free h' o k (last_of h' o)
  last_free o k l c = elim (cases_eq o owner) [
    | inl e ↦ absurd (let a = ap (count_of h') e in omega (arith, a, own_count, c))
    | inr n ↦ elim (cases_eq o 64) [
      | inl d ↦
          let Q : ℕ → Type 0 = λ o. IsNth all_free h' o k (last_of h' o) in
          let R : ℕ → Type 0 = λ g. IsNth all_free h' 64 k g in
          let S : ℕ → Type 0 = λ k. IsNth all_free h' 64 k (last_of h owner) in
          let some : 0 < count_of h owner = let a = held.ranks first at_first.inside in let b = ap (count_of h) at_first.owner_is in omega (arith, a, b) in
          let k_is : count_of h owner - 1 + count_of h 64 ≡ k = omega (arith, some, free_count, ap (count_of h') (sym d), c) in
          let at : IsNth places h owner (count_of h owner - 1) (last_of h owner) = held.last owner (count_of h owner - 1) (omega (arith, free.process)) (omega (arith, some)) in
          subst Q (sym d) (subst R (sym free_last) (subst S k_is (nth_own (count_of h owner - 1) (last_of h owner) at)))
      | inr m ↦
          let R : ℕ → Type 0 = λ g. IsNth all_free h' o k g in
          subst R (sym (other_last o m)) (nth_other o k (last_of h o) n (held.last o k l (sym (other_count o n m) ∙ c)))
    ]
  ]

  next_own : (f k : ℕ) → f < frame_count h → (places f).owner ≡ owner → (places f).rank + count_of h 64 ≡ suc k → IsNth all_free h' 64 k (before h' f)
  next_own f k l e r = elim (cases_eq f first) [
    | inl d ↦
        let R : ℕ → Type 0 = λ f. IsNth all_free h' 64 k (before h' f) in
        let S : ℕ → Type 0 = λ g. IsNth all_free h' 64 k g in
        let none : (places f).rank ≡ 0 = ap (λ f. (places f).rank) d ∙ at_first.rank_is in
        subst R (sym d) (subst S (sym first_before) (nth_other 64 k (last_of h 64) (omega (arith, free.process)) (held.last 64 k (omega arith) (omega (arith, none, r)))))
    | inr n ↦
        let some : (places f).rank ≢ 0 = λ z. n (held.once f first l at_first.inside (e ∙ sym at_first.owner_is) (z ∙ sym at_first.rank_is)) in
        let S : ℕ → Type 0 = λ g. IsNth all_free h' 64 k g in
        let T : ℕ → Type 0 = λ k. IsNth all_free h' 64 k (before h f) in
        let U : ℕ → Type 0 = λ o. IsNth places h o ((places f).rank - 1) (before h f) in
        let k_is : (places f).rank - 1 + count_of h 64 ≡ k = omega (arith, some, r) in
        let at : IsNth places h owner ((places f).rank - 1) (before h f) = subst U e (held.next f ((places f).rank - 1) l (omega (arith, some))) in
        subst S (sym (other_before f n)) (subst T k_is (nth_own ((places f).rank - 1) (before h f) at))
  ]

  next_free : (f k : ℕ) → f < frame_count h → (all_free f).rank ≡ suc k → IsNth all_free h' (all_free f).owner k (before h' f)
  next_free f k l r = elim (cases_eq (places f).owner owner) [
    | inl e ↦
        let Q : ℕ → Type 0 = λ o. IsNth all_free h' o k (before h' f) in
        subst Q (sym (own_owner f e)) (next_own f k l e (sym (own_rank f e) ∙ r))
    | inr n ↦
        let same = other_place f n in
        let Q : ℕ → Type 0 = λ o. IsNth all_free h' o k (before h' f) in
        let R : ℕ → Type 0 = λ g. IsNth all_free h' (places f).owner k g in
        let apart : f ≢ first = λ d. n (ap (λ f. (places f).owner) d ∙ at_first.owner_is) in
        subst Q (sym (ap (λ p. p.owner) same)) (subst R (sym (other_before f apart)) (nth_other (places f).owner k (before h f) n (held.next f k l (sym (ap (λ p. p.rank) same) ∙ r))))
  ]

  all_counts : sum h'.counts ≡ frame_count h'
  all_counts =
      let one = sum_by-set (λ (x : ℕ). x) h.counts 64 (count_of h 64 + count_of h owner) 0 (omega (arith, held.counts)) in
      let two = sum_by-set (λ (x : ℕ). x) (slice_set h.counts 64 (count_of h 64 + count_of h owner)) owner 0 0 (omega (arith, length-set h.counts 64 (count_of h 64 + count_of h owner), held.counts, free.process)) in
      let there = get_or-set_other h.counts 64 owner (count_of h 64 + count_of h owner) 0 (omega (arith, free.process)) in
      let is = ap sum free.counts in
      omega (arith, one, two, there, is, held.all, frames_same)

  held_free : AreHeld all_free h'
  held_free = record {
    heads = ap length free.heads ∙ length-set h.heads 64 (last_of h owner) ∙ held.heads;
    counts = ap length free.counts ∙ length-set (slice_set h.counts 64 (count_of h 64 + count_of h owner)) owner 0 ∙ length-set h.counts 64 (count_of h 64 + count_of h owner) ∙ held.counts;
    most = omega (arith, frames_same, held.most);
    all = all_counts;
    owners = λ f l. free_owner f (omega (arith, frames_same));
    once = λ f g l m. free_once f g (omega (arith, frames_same)) (omega (arith, frames_same));
    ranks = λ f l. free_rank f (omega (arith, frames_same));
    last = last_free;
    next = λ f k l. next_free f k (omega (arith, frames_same));
  }

-- the frames of a process are put before the free ones
pub releases : (h h' : Holdings) (owner first : ℕ) → Released h owner first h' → IsReleased h owner first h'
releases h h' owner first free = record {
  frames = ap length free.next ∙ length-set h.next.items first (last_of h 64);
  held = λ places held at. held_free places h h' owner first held at free;
  counts = free.counts;
}

-- all frames are free at first
pub opens : (h : Holdings) (n : ℕ) → n < 2 ^ 32 → h.next.items ≡ map (λ f. f - 1) (range_with_len 0 n) → h.heads ≡ slice_set (replicate 65 0) 64 (n - 1) → h.counts ≡ slice_set (replicate 65 0) 64 n
    → AreHeld opening_places h
opens h n fits next heads counts =
    let frames : frame_count h ≡ n = ap length next ∙ length-map-range_with_len (λ f. f - 1) 0 n in
    let long : length {A = ℕ} (replicate 65 0) ≡ 65 = length-replicate {A = ℕ} 65 0 in
    let free_is : count_of h 64 ≡ n = ap (λ xs. slice_index xs 64) counts ∙ get_or-set_same (replicate 65 0) 64 n 0 (omega (arith, long)) in
    let last_is : last_of h 64 ≡ n - 1 = ap (λ xs. slice_index xs 64) heads ∙ get_or-set_same (replicate 65 0) 64 (n - 1) 0 (omega (arith, long)) in
    record {
      heads = ap length heads ∙ length-set (replicate 65 0) 64 (n - 1) ∙ long;
      counts = ap length counts ∙ length-set (replicate 65 0) 64 n ∙ long;
      most = omega (arith, frames);
      all = ap sum counts ∙ (let one = sum_by-set (λ (x : ℕ). x) (replicate 65 0) 64 n 0 (omega (arith, long)) in omega (arith, one, frames));
      owners = λ f l. omega arith;
      once = λ f g l m o r. r;
      ranks = λ f l. omega (arith, frames, free_is);
      last = λ owner k l c. elim (cases_eq owner 64) [
        | inl e ↦
            let P : ℕ → Type 0 = λ o. IsNth opening_places h o k (last_of h o) in
            let k_is : n ≡ suc k = sym free_is ∙ ap (count_of h) (sym e) ∙ c in
            subst P (sym e) (record { inside = omega (arith, last_is, frames, k_is); owner_is = refl; rank_is = omega (arith, last_is, k_is) })
        | inr m ↦ absurd (let none : count_of h owner ≡ 0 = ap (λ xs. slice_index xs owner) counts ∙ get_or-set_other (replicate 65 0) 64 owner n 0 m ∙ get_or-replicate 65 owner 0 0 (omega arith) in omega (arith, none, c))
      ];
      next = λ f k l r.
          let is : before h f ≡ f - 1 = ap (λ xs. slice_index xs f) next ∙ get_or-map-range_with_len (λ f. f - 1) 0 n f f 0 (omega (arith, frames)) (omega arith) in
          let f_is : f ≡ suc k = r in
          record { inside = omega (arith, is, frames); owner_is = refl; rank_is = omega (arith, is, f_is) };
    }
