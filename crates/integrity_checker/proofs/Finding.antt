-- What is found of one number more, and of two lists of numbers.
use Rattle.std.proofs.Common.{◌≡◌, ◌≢◌, ℕ, zero, suc, ◌+◌, ◌*◌, ◌<◌, ◌≤◌, ◌==◌, cond, List, [], ◌∷◌, ◌++◌, length, length-set, map, replicate, sum_by, refl, sym, ap, ◌∙◌, arith, inl, inr, get_or, Option, Some, None}
use Rattle.std.specs.Prelude.{slice_index, slice_set}
use Rattle.std.specs.List.{range_with_len}
use Rattle.std.proofs.lemmas.Bool.{cases_eq, eq-eqb, ne_eqb}
use Rattle.std.proofs.lemmas.Option.{unwrap_or-slice_get, slice_get-get_or}
use Rattle.std.proofs.lemmas.List.{get_or-set_same, get_or-set_other}
use Rattle.std.proofs.lemmas.List.Sums.{sum_by-append, sum_by-cons}
use Rattle.std.proofs.lemmas.List.FromFn.{length-map-range_with_len, get_or-map-range_with_len}
use Rattle.page_map.specs.Pages.{counted}
use Rattle.address_space.specs.Image.{table_at}
use Rattle.memory_image.specs.Image.{Image, frames, memory_of}
use Rattle.memory_image.proofs.FillLemmas.{filled_to}
use Rattle.image_check.specs.declared.clauses.ProcessClause.{ProcessClause}
use Rattle.image_check.specs.Counts.{is_this, frame_of, names_by, maps_by, names, maps}
use Rattle.image_check.specs.Verdict.{process_clause}
use Rattle.image_check.specs.Adds.{Adds, Counts, HaveRoom}
use Rattle.image_check.specs.Draws.{times, AreDrawn, AreSomeDrawn}
use Rattle.image_check.proofs.AddLemmas.{sum_bound}
use Rattle.page_map.proofs.PageLemmas.{count_range-le}
use Rattle.image_check.proofs.DrawLemmas.{draws_add_up, draws_stay_below}
use Rattle.integrity_checker.specs.Drawn.{once_below}
use Rattle.integrity_checker.specs.Found.{IsFound, HaveRoomFor, clause_at, either}
use Rattle.integrity_checker.proofs.Sums.{times_append, times_one, once_in, once_out}

names-most : (image : Image) (f p : ℕ) → names_by image p f ≤ 720896
names-most image f p = let a = count_range-le (λ s. is_this f (table_at (memory_of image) p s)) 256 704 in omega (arith, a)

maps-most : (image : Image) (f p : ℕ) → maps_by image p f ≤ 720896
maps-most image f p = count_range-le (λ page. is_this f (frame_of image p page)) 0x40000 0xb0000

-- what numbers that are apart add
most_drawn : (g : ℕ → ℕ) (drawn : List ℕ) → ((p : ℕ) → g p ≤ 720896) → AreSomeDrawn drawn 64 → sum_by g drawn ≤ 46137344
most_drawn g drawn each some =
    let a = draws_stay_below g drawn 64 some in
    let b = sum_bound g 720896 0 64 each in
    omega (arith, a, b)

pub most_names : (image : Image) (drawn : List ℕ) → AreSomeDrawn drawn 64 → (f : ℕ) → sum_by (λ p. names_by image p f) drawn ≤ 46137344
most_names image drawn some f = most_drawn (λ p. names_by image p f) drawn (names-most image f) some

pub most_maps : (image : Image) (drawn : List ℕ) → AreSomeDrawn drawn 64 → (f : ℕ) → sum_by (λ p. maps_by image p f) drawn ≤ 46137344
most_maps image drawn some f = most_drawn (λ p. maps_by image p f) drawn (maps-most image f) some

room_for : (g : ℕ → ℕ → ℕ) (counts : List ℕ) (n more : ℕ) (drawn : List ℕ) → more ≤ 720896 → ((f : ℕ) → sum_by (g f) drawn ≤ 46137344)
    → Counts counts n (λ f. sum_by (g f) drawn) → HaveRoom counts more
room_for g counts n more drawn small most has f inside =
    let l = has.long in
    let i : f < n = omega arith in
    let a = has.each f i in
    let b = most f in
    omega (arith, a, b, small)

pub names_room : (image : Image) (drawn : List ℕ) (counts : List ℕ) → AreSomeDrawn drawn 64 → Counts counts (frames image) (λ f. sum_by (λ p. names_by image p f) drawn) → HaveRoom counts 704
names_room image drawn counts some has = room_for (λ f p. names_by image p f) counts (frames image) 704 drawn (omega arith) (most_names image drawn some) has

pub maps_room : (image : Image) (drawn : List ℕ) (counts : List ℕ) → AreSomeDrawn drawn 64 → Counts counts (frames image) (λ f. sum_by (λ p. maps_by image p f) drawn) → HaveRoom counts 720896
maps_room image drawn counts some has = room_for (λ f p. maps_by image p f) counts (frames image) 720896 drawn (omega arith) (most_maps image drawn some) has

-- one more that was not there
pub one_more : (drawn : List ℕ) (p : ℕ) → AreSomeDrawn drawn 64 → p < 64 → times p drawn ≡ 0 → AreSomeDrawn (drawn ++ p ∷ []) 64
one_more drawn p some low new = record {
  below = λ x under. elim (cases_eq x p) [
    | inl e ↦
        let t : times x drawn ≡ 0 = ap (λ y. times y drawn) e ∙ new in
        let a = times_append x drawn (p ∷ []) in
        let b = times_one x p in
        let c : counted (p == x) ≡ 1 = ap counted (eq-eqb p x (sym e)) in
        omega (arith, t, a, b, c)
    | inr n ↦
        let a = times_append x drawn (p ∷ []) in
        let b = times_one x p in
        let c : counted (p == x) ≡ 0 = ap counted (ne_eqb p x (λ e. n (sym e))) in
        let s = some.below x under in
        omega (arith, a, b, c, s)
  ];
  above = λ x over.
      let a = times_append x drawn (p ∷ []) in
      let b = times_one x p in
      let c : counted (p == x) ≡ 0 = ap counted (ne_eqb p x (λ e. absurd (let k : x ≡ p = sym e in omega (arith, k, low, over)))) in
      let s = some.above x over in
      omega (arith, a, b, c, s);
}

counts_more : (g : ℕ → ℕ → ℕ) (n : ℕ) (drawn : List ℕ) (p : ℕ) (old new : List ℕ) → Counts old n (λ f. sum_by (g f) drawn) → Adds old new (λ f. g f p) → Counts new n (λ f. sum_by (g f) (drawn ++ p ∷ []))
counts_more g n drawn p old new has adds = record {
  long = adds.same ∙ has.long;
  each = λ f inside.
      let l = has.long in
      let a = adds.each f (omega (arith, l, inside)) in
      let b = has.each f inside in
      let c = sum_by-append (g f) drawn (p ∷ []) in
      let d = sum_by-cons (g f) p [] in
      let e : sum_by (g f) [] ≡ 0 = refl in
      omega (arith, a, b, c, d, e);
}

counts_both : (g : ℕ → ℕ → ℕ) (n : ℕ) (drawn also : List ℕ) (old other new : List ℕ)
    → Counts old n (λ f. sum_by (g f) drawn) → Counts other n (λ f. sum_by (g f) also) → Adds old new (λ f. slice_index other f) → Counts new n (λ f. sum_by (g f) (drawn ++ also))
counts_both g n drawn also old other new has had adds = record {
  long = adds.same ∙ has.long;
  each = λ f inside.
      let l = has.long in
      let a = adds.each f (omega (arith, l, inside)) in
      let b = has.each f inside in
      let c = had.each f inside in
      let d = sum_by-append (g f) drawn also in
      omega (arith, a, b, c, d);
}

-- the clause of a number by how often it stands there
abbrev clause_by : ℕ → Option ProcessClause → Option ProcessClause
clause_by n c = cond (n == 0) None c

clause-some : (n : ℕ) (c : Option ProcessClause) → n ≢ 0 → clause_by n c ≡ c
clause-some n c e = ap (λ b. cond b None c) (ne_eqb n 0 e)

pub none_at : (n p : ℕ) → clause_at (replicate n None) p ≡ None
none_at zero p = refl
none_at (suc n) zero = refl
none_at (suc n) (suc p) = none_at n p

pub nothing_found : (image : Image) (clauses : List (Option ProcessClause)) (ns ms : List ℕ) → length clauses ≡ 64 → ((p : ℕ) → p < 64 → clause_at clauses p ≡ None)
    → Counts ns (frames image) (λ f. 0) → Counts ms (frames image) (λ f. 0) → IsFound image [] clauses ns ms
nothing_found image clauses ns ms long none has had = record {
  long = long;
  clauses = none;
  names = has;
  maps = had;
}

pub one_more_found : (image : Image) (drawn : List ℕ) (p : ℕ) (cs cs' : List (Option ProcessClause)) (ns ns' ms ms' : List ℕ)
    → IsFound image drawn cs ns ms → p < 64 → cs' ≡ slice_set cs p (process_clause image p)
    → Adds ns ns' (λ f. names_by image p f) → Adds ms ms' (λ f. maps_by image p f) → IsFound image (drawn ++ p ∷ []) cs' ns' ms'
one_more_found image drawn p cs cs' ns ns' ms ms' was low is adds also = record {
  long = ap length is ∙ length-set cs p (process_clause image p) ∙ was.long;
  clauses = λ x under. ap (λ c. clause_at c x) is ∙ unwrap_or-slice_get (slice_set cs p (process_clause image p)) x None ∙ elim (cases_eq x p) [
    | inl e ↦
        let a = times_append x drawn (p ∷ []) in
        let b = times_one x p in
        let c : counted (p == x) ≡ 1 = ap counted (eq-eqb p x (sym e)) in
        ap (λ y. get_or (slice_set cs p (process_clause image p)) y None) e
        ∙ get_or-set_same cs p (process_clause image p) None (let l = was.long in omega (arith, l, low))
        ∙ ap (process_clause image) (sym e)
        ∙ sym (clause-some (times x (drawn ++ p ∷ [])) (process_clause image x) (λ z. omega (arith, a, b, c, z)))
    | inr n ↦
        let a = times_append x drawn (p ∷ []) in
        let b = times_one x p in
        let c : counted (p == x) ≡ 0 = ap counted (ne_eqb p x (λ e. n (sym e))) in
        let same : times x drawn ≡ times x (drawn ++ p ∷ []) = omega (arith, a, b, c) in
        get_or-set_other cs p x (process_clause image p) None n
        ∙ sym (unwrap_or-slice_get cs x None)
        ∙ was.clauses x under
        ∙ ap (λ t. clause_by t (process_clause image x)) same
  ];
  names = counts_more (λ f q. names_by image q f) (frames image) drawn p ns ns' was.names adds;
  maps = counts_more (λ f q. maps_by image q f) (frames image) drawn p ms ms' was.maps also;
}

-- the clause of a number that stands in either list
either-found : (m n : ℕ) (c : Option ProcessClause) → either (clause_by m c) (clause_by n c) ≡ clause_by (m + n) c
either-found zero n c = ap (λ k. clause_by k c) (let e : n ≡ 0 + n = omega arith in e)
either-found (suc m) n None = (λ i. either (by_zero (suc m) i) (by_zero n i)) ∙ sym (by_zero (suc m + n))
  where
    by_zero : (k : ℕ) → clause_by k None ≡ None
    by_zero zero = refl
    by_zero (suc k) = clause-some (suc k) None (λ e. omega (arith, e))
either-found (suc m) n (Some c) = (λ i. either (clause-some (suc m) (Some c) (λ e. omega (arith, e)) i) (clause_by n (Some c))) ∙ sym (clause-some (suc m + n) (Some c) (λ e. omega (arith, e)))

map-at : (g : ℕ → Option ProcessClause) (x : ℕ) → x < 64 → clause_at (map g (range_with_len 0 64)) x ≡ g x
map-at g x low = unwrap_or-slice_get (map g (range_with_len 0 64)) x None ∙ get_or-map-range_with_len g 0 64 x x None low (omega arith)

pub both_found : (image : Image) (drawn also : List ℕ) (cs ds es : List (Option ProcessClause)) (ns ns' ns'' ms ms' ms'' : List ℕ)
    → IsFound image drawn cs ns ms → IsFound image also ds ns' ms' → es ≡ map (λ p. either (clause_at cs p) (clause_at ds p)) (range_with_len 0 64)
    → Adds ns ns'' (λ f. slice_index ns' f) → Adds ms ms'' (λ f. slice_index ms' f) → IsFound image (drawn ++ also) es ns'' ms''
both_found image drawn also cs ds es ns ns' ns'' ms ms' ms'' was had is adds too = record {
  long = ap length is ∙ length-map-range_with_len (λ p. either (clause_at cs p) (clause_at ds p)) 0 64;
  clauses = λ x under.
      ap (λ c. clause_at c x) is
      ∙ map-at (λ p. either (clause_at cs p) (clause_at ds p)) x under
      ∙ (λ i. either (was.clauses x under i) (had.clauses x under i))
      ∙ either-found (times x drawn) (times x also) (process_clause image x)
      ∙ ap (λ t. clause_by t (process_clause image x)) (sym (times_append x drawn also));
  names = counts_both (λ f q. names_by image q f) (frames image) drawn also ns ns' ns'' was.names had.names adds;
  maps = counts_both (λ f q. maps_by image q f) (frames image) drawn also ms ms' ms'' was.maps had.maps too;
}

-- ---- All numbers were drawn

pub all_drawn : (drawn : List ℕ) → ((x : ℕ) → times x drawn ≡ once_below x 64) → AreDrawn drawn 64
all_drawn drawn all = record {
  below = λ x low. all x ∙ once_in x 64 low;
  above = λ x high. all x ∙ once_out x 64 high;
}

pub all_clauses : (image : Image) (drawn : List ℕ) (cs : List (Option ProcessClause)) (ns ms : List ℕ) → IsFound image drawn cs ns ms → AreDrawn drawn 64 → cs ≡ map (process_clause image) (range_with_len 0 64)
all_clauses image drawn cs ns ms has all =
    filled_to (process_clause image) 64 cs has.long (λ p low.
    let l = has.long in
    slice_get-get_or cs p None (omega (arith, l, low))
    ∙ ap Some (sym (unwrap_or-slice_get cs p None) ∙ has.clauses p low ∙ clause-some (times p drawn) (process_clause image p) (λ z. let b = all.below p low in omega (arith, z, b))))

pub all_names : (image : Image) (drawn : List ℕ) (cs : List (Option ProcessClause)) (ns ms : List ℕ) → IsFound image drawn cs ns ms → AreDrawn drawn 64 → Counts ns (frames image) (λ f. names image f)
unfolding names
all_names image drawn cs ns ms has all = record { long = has.names.long; each = λ f inside. has.names.each f inside ∙ draws_add_up (λ p. names_by image p f) drawn 64 all }

pub all_maps : (image : Image) (drawn : List ℕ) (cs : List (Option ProcessClause)) (ns ms : List ℕ) → IsFound image drawn cs ns ms → AreDrawn drawn 64 → Counts ms (frames image) (λ f. maps image f)
unfolding maps
all_maps image drawn cs ns ms has all = record { long = has.maps.long; each = λ f inside. has.maps.each f inside ∙ draws_add_up (λ p. maps_by image p f) drawn 64 all }

-- ---- Room for what others found

room_to_add : (g : ℕ → ℕ → ℕ) (n share : ℕ) (drawn also : List ℕ) (into other : List ℕ) → share ≤ 8
    → ((f : ℕ) → sum_by (g f) drawn ≤ share * 46137344) → ((f : ℕ) → sum_by (g f) also ≤ 46137344)
    → Counts into n (λ f. sum_by (g f) drawn) → Counts other n (λ f. sum_by (g f) also) → HaveRoomFor into other
room_to_add g n share drawn also into other few most each has had = record {
  same = had.long ∙ sym has.long;
  room = λ f inside.
      let l = has.long in
      let i : f < n = omega (arith, l, inside) in
      let a = has.each f i in
      let b = had.each f i in
      let c = most f in
      let d = each f in
      omega (arith, few, a, b, c, d);
}

pub names_to_add : (image : Image) (share : ℕ) (drawn also : List ℕ) (into other : List ℕ) → share ≤ 8
    → ((f : ℕ) → sum_by (λ p. names_by image p f) drawn ≤ share * 46137344) → AreSomeDrawn also 64
    → Counts into (frames image) (λ f. sum_by (λ p. names_by image p f) drawn) → Counts other (frames image) (λ f. sum_by (λ p. names_by image p f) also) → HaveRoomFor into other
names_to_add image share drawn also into other few most some has had = room_to_add (λ f p. names_by image p f) (frames image) share drawn also into other few most (most_names image also some) has had

pub maps_to_add : (image : Image) (share : ℕ) (drawn also : List ℕ) (into other : List ℕ) → share ≤ 8
    → ((f : ℕ) → sum_by (λ p. maps_by image p f) drawn ≤ share * 46137344) → AreSomeDrawn also 64
    → Counts into (frames image) (λ f. sum_by (λ p. maps_by image p f) drawn) → Counts other (frames image) (λ f. sum_by (λ p. maps_by image p f) also) → HaveRoomFor into other
maps_to_add image share drawn also into other few most some has had = room_to_add (λ f p. maps_by image p f) (frames image) share drawn also into other few most (most_maps image also some) has had

sum_most : (g : ℕ → ℕ) (share : ℕ) (drawn also : List ℕ) → sum_by g drawn ≤ share * 46137344 → sum_by g also ≤ 46137344 → sum_by g (drawn ++ also) ≤ (share + 1) * 46137344
sum_most g share drawn also most each = let a = sum_by-append g drawn also in omega (arith, a, most, each)

-- what is found of all drawn numbers of so many helpers stays below that many times what one may find
pub record StaysBelow (image : Image) (share : ℕ) (drawn : List ℕ) : Type 0 where
  pub names : (f : ℕ) → sum_by (λ p. names_by image p f) drawn ≤ share * 46137344
  pub maps : (f : ℕ) → sum_by (λ p. maps_by image p f) drawn ≤ share * 46137344

pub one_stays_below : (image : Image) (drawn : List ℕ) → AreSomeDrawn drawn 64 → StaysBelow image 1 drawn
one_stays_below image drawn some = record {
  names = λ f. let a = most_names image drawn some f in omega (arith, a);
  maps = λ f. let a = most_maps image drawn some f in omega (arith, a);
}

pub both_stay_below : (image : Image) (share : ℕ) (drawn also : List ℕ) → StaysBelow image share drawn → AreSomeDrawn also 64 → StaysBelow image (share + 1) (drawn ++ also)
both_stay_below image share drawn also below some = record {
  names = λ f. sum_most (λ p. names_by image p f) share drawn also (below.names f) (most_names image also some f);
  maps = λ f. sum_most (λ p. maps_by image p f) share drawn also (below.maps f) (most_maps image also some f);
}
