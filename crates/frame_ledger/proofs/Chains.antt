-- The chain of free frames: what it says of the free set, and that each write of a ledger keeps it.
use Rattle.std.proofs.Common.{◌≡◌, ◌≢◌, ℕ, zero, suc, ◌+◌, ◌-◌, ◌<◌, ◌≤◌, inl, inr, true, false, cond, not, ◌&&◌, ◌||◌}
use Rattle.std.proofs.Common.{List, [], ◌∷◌, length, map, get_or, refl, sym, ap, subst, ◌∙◌, arith, replicate}
use Rattle.std.specs.Prelude.{slice_set, AllPairs}
use Rattle.std.specs.List.{All, range_with_len}
use Rattle.std.proofs.lemmas.List.{get_or-set_same, get_or-set_other, length-replicate, map-set, length-map, length-set}
use Rattle.std.proofs.lemmas.List.Elements.{All-head, All-tail, All-cons}
use Rattle.std.proofs.lemmas.List.Kept.{AllPairs-cons}
use Rattle.std.proofs.lemmas.List.Sums.{count_by-le-length}
use Rattle.std.proofs.lemmas.Bool.{ne_eqb, or_parts}
use Rattle.page_words.specs.FiniteMap.{nat_order, same}
use Rattle.page_words.specs.FiniteSet as set
use Rattle.page_words.specs.FiniteSet.{Set}
use Rattle.page_words.proofs.MapLemmas.{contains-insert, len-insert, same_itself, same_set}
use Rattle.page_words.proofs.SetLemmas.{contains-remove, contains-no_members, same_cases}
use Rattle.page_words.proofs.Marks.{contains-marked, contains-within, len-marked, marked-set_true, marked-set_false}
use Rattle.frame_ledger.specs.declared.TheConstants.{IN_USE, END}
use Rattle.frame_ledger.specs.FreeFrames.{FreeFrames, opening, with_free, without_free}
use Rattle.frame_ledger.specs.FreeList.{is_link, seen_as, all_in_use, number_at, IsChain, IsFreeList, IsLedger}

-- a set of these frames
abbrev members : List ℕ → Set nat_order
members frames = set.from_list frames

head_is_member : (f : ℕ) (frames : List ℕ) → set.contains (members (f ∷ frames)) f ≡ true
head_is_member f frames = contains-insert (members frames) f f ∙ ap (λ b. b || set.contains (members frames) f) (same_itself nat_order f)

-- a frame that none of them is
no_member : (f : ℕ) (frames : List ℕ) → All (λ q. f ≢ q) frames → set.contains (members frames) f ≡ false
no_member f [] none = refl
no_member f (x ∷ frames) none =
    contains-insert (members frames) x f
    ∙ elim (same_cases nat_order f x) [
      | inl is ↦ absurd (All-head (λ q. f ≢ q) x frames none is.0)
      | inr other ↦ ap (λ b. b || set.contains (members frames) f) other.1
    ]
    ∙ no_member f frames (All-tail (λ q. f ≢ q) x frames none)

none_is : (f : ℕ) (frames : List ℕ) → set.contains (members frames) f ≡ false → All (λ q. f ≢ q) frames
none_is f [] none = λ k d h. absurd (omega arith)
none_is f (x ∷ frames) none =
    let both = or_parts (same nat_order f x) (set.contains (members frames) f) (sym (contains-insert (members frames) x f) ∙ none) in
    let other : f ≢ x = λ is. (let e : true ≡ false = sym (ap (λ k. same nat_order f k) (sym is) ∙ same_itself nat_order f) ∙ both.0 in cc) in
    All-cons (λ q. f ≢ q) x frames other (none_is f frames both.1)

once-head : (x : ℕ) (frames : List ℕ) → AllPairs (λ a b. a ≢ b) (x ∷ frames) → All (λ q. x ≢ q) frames
once-head x frames once = λ k d h. once 0 (suc k) d (omega arith) (omega arith)

once-tail : (x : ℕ) (frames : List ℕ) → AllPairs (λ a b. a ≢ b) (x ∷ frames) → AllPairs (λ a b. a ≢ b) frames
once-tail x frames once = λ i j d lt h. once (suc i) (suc j) d (omega arith) (omega arith)

-- as many members as places, where no frame comes twice
len-members : (frames : List ℕ) → AllPairs (λ a b. a ≢ b) frames → set.len (members frames) ≡ length frames
len-members [] once = refl
len-members (x ∷ frames) once =
    let rest = len-members frames (once-tail x frames once) in
    len-insert (members frames) x tt
    ∙ ap (λ b. cond b (set.len (members frames)) (set.len (members frames) + 1)) (no_member x frames (once-head x frames once))
    ∙ (omega (arith, rest))

-- a new member that goes again
remove-insert : (s : Set nat_order) (f : ℕ) → set.contains s f ≡ false → set.remove (set.insert s f) f ≡ s
remove-insert s f none = same_set (set.remove (set.insert s f) f) s (λ q.
    contains-remove (set.insert s f) f q ∙ ap (λ b. not (same nat_order q f) && b) (contains-insert s f q)
    ∙ elim (same_cases nat_order q f) [
      | inl is ↦ ap (λ b. not b && (b || set.contains s q)) is.1 ∙ sym (ap (λ k. set.contains s k) is.0 ∙ none)
      | inr other ↦ ap (λ b. not b && (b || set.contains s q)) other.1
    ])

-- a write at a frame that isn't in the chain leaves it
IsChain-set : (places : List ℕ) (head f number : ℕ) (frames : List ℕ) → All (λ q. f ≢ q) frames → IsChain places head frames → IsChain (slice_set places f number) head frames
IsChain-set places head f number [] none linked = linked
IsChain-set places head f number (x ∷ frames) none linked =
    let other : x ≢ f = λ e. All-head (λ q. f ≢ q) x frames none (sym e) in
    let P : ℕ → Type 0 = λ k. IsChain (slice_set places f number) k frames in
    (linked.0, subst P (sym (get_or-set_other places f x number IN_USE other)) (IsChain-set places (number_at places x) f number frames (All-tail (λ q. f ≢ q) x frames none) linked.1))

-- what a ledger's places say of a frame
pub contains-seen_as : (places : List ℕ) (f : ℕ) → set.contains (seen_as places).free f ≡ is_link (number_at places f)
contains-seen_as places f = contains-marked (map is_link places) f ∙ link_at places f
  where
    link_at : (places : List ℕ) (f : ℕ) → get_or (map is_link places) f false ≡ is_link (get_or places f IN_USE)
    link_at [] f = refl
    link_at (n ∷ places) zero = refl
    link_at (n ∷ places) (suc f) = link_at places f

unmarked : (n : ℕ) → n ≤ 1048576 → is_link n ≡ true
unmarked n h = ap not (ne_eqb n IN_USE (omega arith))

-- what a ledger's places, head and count say of its free frames
module _ (places : List ℕ) (head count : ℕ) (ledger : IsLedger places head count) where
  unmarked_0 : get_or (map is_link places) 0 false ≡ false
  unmarked_0 = sym (contains-marked (map is_link places) 0) ∙ contains-seen_as places 0 ∙ ap is_link ledger.reserved

  -- a free frame is one of 1 to n - 1
  pub free_within : (f : ℕ) → set.contains (seen_as places).free f ≡ true → (1 ≤ f) × (f < length places)
  free_within f free = grind (arith, contains-within, unmarked_0, length-map)

  pub count_is : count ≡ set.len (seen_as places).free
  count_is =
      ledger.chain.2 ∙ sym (len-members ledger.chain.0 ledger.chain.1.once) ∙ ap set.len ledger.chain.1.each

  pub count_within : count ≤ 1048576
  count_within = grind (arith, count_is, len-marked, count_by-le-length, length-map)

  first_free : (frames : List ℕ) → IsFreeList places head frames → head ≢ END → set.contains (seen_as places).free head ≡ true
  first_free [] list more = absurd (more list.linked)
  first_free (x ∷ frames) list more = grind (arith, head_is_member)

  pub head_is_free : head ≢ END → set.contains (seen_as places).free head ≡ true
  head_is_free more = first_free ledger.chain.0 ledger.chain.1 more

  pub head_within : head ≢ END → (1 ≤ head) × (head < length places)
  head_within more = free_within head (head_is_free more)

  none_listed : (frames : List ℕ) → IsFreeList places head frames → head ≡ END → length frames ≡ 0
  none_listed [] list end = refl
  none_listed (x ∷ frames) list end =
      let free : set.contains (seen_as places).free x ≡ true = ap (λ s. set.contains s x) (sym list.each) ∙ head_is_member x frames in
      absurd (omega (arith, (free_within x free).0, list.linked.0, end))

  -- the list ends at once exactly where no frame is free
  pub none_free : head ≡ END → set.len (seen_as places).free ≡ 0
  none_free end = sym count_is ∙ ledger.chain.2 ∙ none_listed ledger.chain.0 ledger.chain.1 end

  pub some_free : head ≢ END → set.len (seen_as places).free ≢ 0
  some_free more none = let e : true ≡ false = sym (head_is_free more) ∙ contains-no_members (seen_as places).free none head in cc

  head_number : head ≤ 1048576
  head_number = grind (arith, same_cases, head_within)

  -- a frame put back in front
  pub seen_as-put_back : (f : ℕ) → f < length places → seen_as (slice_set places f head) ≡ with_free (seen_as places) f
  seen_as-put_back f h = grind (arith, map-set, unmarked, head_number, length-map, marked-set_true, length-set)

  pub IsLedger-put_back : (f : ℕ) → 1 ≤ f → f < length places → set.contains (seen_as places).free f ≡ false → IsLedger (slice_set places f head) f (count + 1)
  IsLedger-put_back f low h in_use =
      let frames = ledger.chain.0 in
      let list = ledger.chain.1 in
      let new : All (λ q. f ≢ q) frames = none_is f frames (ap (λ s. set.contains s f) list.each ∙ in_use) in
      let not_0 : 0 ≢ f = omega arith in
      let P : ℕ → Type 0 = λ k. IsChain (slice_set places f head) k frames in
      record {
        fewest = omega (arith, length-set places f head, ledger.fewest);
        most = omega (arith, length-set places f head, ledger.most);
        reserved = get_or-set_other places f 0 head IN_USE not_0 ∙ ledger.reserved;
        chain = (
          f ∷ frames,
          record {
            linked = (refl, subst P (sym (get_or-set_same places f head IN_USE h)) (IsChain-set places head f head frames new list.linked));
            once = AllPairs-cons (λ a b. a ≢ b) f frames new list.once;
            each = ap (λ s. set.insert s f) list.each ∙ sym (ap (λ l. l.free) (seen_as-put_back f h));
          },
          ap (λ n. n + 1) ledger.chain.2 ∙ (omega arith),
        );
      }

  -- the first frame taken
  pub seen_as-take : head ≢ END → seen_as (slice_set places head IN_USE) ≡ without_free (seen_as places) head
  seen_as-take more = grind (arith, map-set, head_within, length-map, marked-set_false, length-set)

  chain-take : (frames : List ℕ) → IsFreeList places head frames → (more : head ≢ END)
      → (rest : List ℕ) × IsFreeList (slice_set places head IN_USE) (number_at places head) rest × (length frames ≡ length rest + 1)
  chain-take [] list more = absurd (more list.linked)
  chain-take (x ∷ frames) list more =
      let others : All (λ q. x ≢ q) frames = once-head x frames list.once in
      let Q : ℕ → Type 0 = λ k. All (λ q. k ≢ q) frames in
      let new : All (λ q. head ≢ q) frames = subst Q (sym list.linked.0) others in
      let P : ℕ → Type 0 = λ k. IsChain places (number_at places k) frames in
      let linked : IsChain places (number_at places head) frames = subst P (sym list.linked.0) list.linked.1 in (
        frames,
        record {
          linked = IsChain-set places (number_at places head) head IN_USE frames new linked;
          once = once-tail x frames list.once;
          each = grind (arith, remove-insert, no_member, seen_as-take);
        },
        omega arith,
      )

  pub IsLedger-take : (next : ℕ) → head ≢ END → next ≡ number_at places head → IsLedger (slice_set places head IN_USE) next (count - 1)
  IsLedger-take next more is =
      let left = chain-take ledger.chain.0 ledger.chain.1 more in
      let not_0 : 0 ≢ head = omega (arith, (head_within more).0) in
      let P : ℕ → Type 0 = λ k. IsFreeList (slice_set places head IN_USE) k left.0 in
      record {
        fewest = omega (arith, length-set places head IN_USE, ledger.fewest);
        most = omega (arith, length-set places head IN_USE, ledger.most);
        reserved = get_or-set_other places head 0 IN_USE IN_USE not_0 ∙ ledger.reserved;
        chain = (left.0, subst P (sym is) left.1, omega (arith, ledger.chain.2, left.2));
      }

-- a ledger of which no frame is free
none_marked : (n : ℕ) (f : ℕ) → number_at (replicate n IN_USE) f ≡ IN_USE
none_marked zero f = refl
none_marked (suc n) zero = refl
none_marked (suc n) (suc f) = none_marked n f

pub seen_as-all_in_use : (n : ℕ) → seen_as (replicate n IN_USE) ≡ all_in_use n
seen_as-all_in_use n =
    λ i. record {
      free = same_set (seen_as (replicate n IN_USE)).free set.empty (λ q. contains-seen_as (replicate n IN_USE) q ∙ ap is_link (none_marked n q)) i;
      frames = length-replicate n IN_USE i;
    }

pub IsLedger-all_in_use : (n : ℕ) → 16 ≤ n → n ≤ 1048576 → IsLedger (replicate n IN_USE) END 0
IsLedger-all_in_use n low high = grind (arith, length-replicate, none_marked, seen_as-all_in_use)

-- the frames from this one on, to the last
abbrev pub free_from : ℕ → ℕ → FreeFrames
free_from first frames = record { free = set.from_list (range_with_len first (frames - first)); frames = frames }

pub free_from-opening : (frames : ℕ) → free_from 1 frames ≡ opening frames
unfolding opening
free_from-opening frames = refl

below_range : (q first count : ℕ) → q < first → set.contains (members (range_with_len first count)) q ≡ false
below_range q first zero h = refl
below_range q first (suc count) h =
    contains-insert (members (range_with_len (first + 1) count)) first q
    ∙ elim (same_cases nat_order q first) [
      | inl is ↦ absurd (omega (arith, is.0))
      | inr other ↦ ap (λ b. b || set.contains (members (range_with_len (first + 1) count)) q) other.1
    ]
    ∙ below_range q (first + 1) count (omega arith)

pub contains-free_from : (q first frames : ℕ) → q < first → set.contains (free_from first frames).free q ≡ false
contains-free_from q first frames h = below_range q first (frames - first) h
