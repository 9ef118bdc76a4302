-- What the pages of a load cost together: each is counted once those before it are mapped.
use Rattle.kernel_acts.proofs.Prelude.{◌≡◌, ◌≢◌, ℕ, zero, suc, ◌+◌, ◌-◌, ◌<◌, ◌≤◌, ◌==◌, ◌&&◌, Bool, true, false, not, List, [], ◌∷◌, ◌++◌, append_assoc, refl, sym, ap, ◌∙◌, arith, if◌then◌else◌, range_with_len, eqb-true, eq-eqb, append-nil, page_number, slot_number, offset_number, nat_order, range_split, Spaces, at_page, fresh, cost, regions_of, need, page_need, with_page, with_pages, kept, cost-with_page, need-beside, State, extra_cost, get-inserted_other, pages_under}
use Rattle.kernel_acts.proofs.LoadedPages.{pages_more}
use Rattle.page_words.specs.FiniteMap as map
use Rattle.page_words.specs.FiniteSet as set
use Rattle.address_space.proofs.costs.Costs.{same_pages}

with_pages-append : (S : Spaces) (p : ℕ) (xs ys : List ℕ) → with_pages S p (xs ++ ys) ≡ with_pages (with_pages S p xs) p ys
with_pages-append S p [] ys = refl
with_pages-append S p (x ∷ xs) ys = with_pages-append (with_page S p x) p xs ys

-- ---- A page behind pages that are mapped now

key_beside : (S : Spaces) (p x y : ℕ) → y ≢ x → map.contains_key (with_page S p x) (at_page p y) ≡ map.contains_key S (at_page p y)
key_beside S p x y apart = grind (arith, get-inserted_other)

key_ahead : (S : Spaces) (p f k y : ℕ) → f + k ≤ y → map.contains_key (with_pages S p (range_with_len f k)) (at_page p y) ≡ map.contains_key S (at_page p y)
key_ahead S p f zero y h = refl
key_ahead S p f (suc k) y h =
    key_ahead (with_page S p f) p (f + 1) k y (omega (arith, h)) ∙ key_beside S p f y (λ e. absurd (omega (arith, e, h)))

need_apart : (S : Spaces) (p x y : ℕ) → (slot_number x == slot_number y) ≡ false → need (with_page S p x) p y ≡ need S p y
need_apart S p x y other = grind (arith, need-beside)

-- a page of a region that has one before it
need_together : (S : Spaces) (p x y : ℕ) → (slot_number x == slot_number y) ≡ true → need (with_page S p x) p y ≡ 1
need_together S p x y one = by (map.contains_key S (at_page p x)) refl
  where
    inserted : need (map.insert S (at_page p x) (fresh (at_page p x) true)) p y ≡ 1
    inserted = need-beside S p x y (fresh (at_page p x) true) ∙ ap (λ b. if b then 1 else need S p y) one

    by : (b : Bool) → map.contains_key S (at_page p x) ≡ b → need (if b then S else map.insert S (at_page p x) (fresh (at_page p x) true)) p y ≡ 1
    by true there =
        ap (λ (pages : set.Set nat_order). if set.contains (regions_of pages) (slot_number y) then 1 else 2)
        (same_pages S (map.insert S (at_page p x) (fresh (at_page p x) true)) p p (λ q. sym (kept S (at_page p x) (fresh (at_page p x) true) there (at_page p q))))
        ∙ inserted
    by false none = inserted

-- the first page of a region
region_ends : (f y : ℕ) → f < y → (slot_number (y - 1) == slot_number y) ≡ false → (slot_number f == slot_number y) ≡ false
region_ends f y below ends = grind (arith, eqb-true, eq-eqb)

need_far : (S : Spaces) (p f k y : ℕ) → f + k ≤ y → (slot_number (y - 1) == slot_number y) ≡ false → need (with_pages S p (range_with_len f k)) p y ≡ need S p y
need_far S p f zero y h ends = refl
need_far S p f (suc k) y h ends =
    need_far (with_page S p f) p (f + 1) k y (omega (arith, h)) ends ∙ need_apart S p f y (region_ends f y (omega (arith, h)) ends)

need_close : (S : Spaces) (p f k y : ℕ) → y ≡ f + suc k → (slot_number (y - 1) == slot_number y) ≡ true → need (with_pages S p (range_with_len f (suc k))) p y ≡ 1
need_close S p f k y here one = grind (arith, range_split, with_pages-append, need_together)

-- what it costs in addition
abbrev pub behind : Spaces → ℕ → ℕ → Bool → ℕ
behind S p page is_first =
    if map.contains_key S (at_page p page) then 0 else (if not is_first && (slot_number (page - 1) == slot_number page) then 1 else need S p page)

need_behind : (S : Spaces) (p f k y : ℕ) (b : Bool) → y ≡ f + k → (k ≡ 0 → b ≡ true) → (0 < k → b ≡ false)
    → page_need (with_pages S p (range_with_len f k)) p y ≡ behind S p y b
need_behind S p f k y b here first second =
    ap (λ there. if there then 0 else need (with_pages S p (range_with_len f k)) p y) (key_ahead S p f k y (omega (arith, here)))
    ∙ ap (λ n. if map.contains_key S (at_page p y) then 0 else n) (by k here first second (slot_number (y - 1) == slot_number y) refl)
  where
    by : (k : ℕ) → y ≡ f + k → (k ≡ 0 → b ≡ true) → (0 < k → b ≡ false) → (c : Bool) → (slot_number (y - 1) == slot_number y) ≡ c
        → need (with_pages S p (range_with_len f k)) p y ≡ (if not b && (slot_number (y - 1) == slot_number y) then 1 else need S p y)
    by zero at is other c h = sym (ap (λ x. if not x && (slot_number (y - 1) == slot_number y) then 1 else need S p y) (is refl))
    by (suc k) at is other true h = need_close S p f k y at h ∙ sym (λ i. if not (other (omega arith) i) && h i then 1 else need S p y)
    by (suc k) at is other false h = need_far S p f (suc k) y (omega (arith, at)) h ∙ sym (λ i. if not (other (omega arith) i) && h i then 1 else need S p y)

-- a page that has one before it is not the first
pub later : (done : ℕ) → 0 < done → (done == 0) ≡ false
later done some = grind (arith, eqb-true)

-- ---- The loop

-- the pages of so many of n bytes from a on were counted
pub record Counting (S : Spaces) (p a n at done need : ℕ) : Type 0 where
  pub k : ℕ
  pub all : pages_under a n ≡ range_with_len (page_number a) k ++ pages_under at (n - done)
  pub here : done < n → page_number at ≡ page_number a + k
  pub first : k ≡ 0 → done ≡ 0
  pub behind_one : 0 < k → 0 < done
  pub paid : cost (with_pages S p (range_with_len (page_number a) k)) p ≡ cost S p + need

pub counting_on : (S : Spaces) (p a n at done need c more : ℕ) (b : Bool) → Counting S p a n at done need → done < n → 0 < c → c ≤ n - done
    → offset_number at + c ≤ 4096 → (c < n - done → offset_number at + c ≡ 4096) → (done ≡ 0 → b ≡ true) → (0 < done → b ≡ false)
    → more ≡ behind S p (page_number at) b → Counting S p a n (at + c) (done + c) (need + more)
counting_on S p a n at done need c more b i below some most within whole first second is =
    let f = page_number a in
    let y = page_number at in
    let here : y ≡ f + i.k = i.here below in
    let R = range_with_len f i.k in
    let T = with_pages S p R in
    let left : n - done - c ≡ n - (done + c) = omega arith in
    let grown : R ++ y ∷ [] ≡ range_with_len f (i.k + 1) = ap (λ x. R ++ x ∷ []) here ∙ sym (range_split f i.k 1) in
    let paid = i.paid in
    let cost_more = cost-with_page T p y in
    let mine : page_need T p y ≡ more =
    need_behind S p f i.k y b here (λ e. first (i.first e)) (λ l. second (i.behind_one l)) ∙ sym is
    in
    record {
      k = i.k + 1;
      all = i.all ∙ ap (λ xs. R ++ xs) (pages_more at (n - done) c some most within whole ∙ ap (λ m. y ∷ pages_under (at + c) m) left)
          ∙ sym (append_assoc R (y ∷ []) (pages_under (at + c) (n - (done + c)))) ∙ ap (λ xs. xs ++ pages_under (at + c) (n - (done + c))) grown;
      here = grind arith;
      first = λ e. absurd (omega (arith, e));
      behind_one = λ l. omega (arith, some);
      paid = grind (arith, with_pages-append);
    }

pub counting_all : (s : State) (p a n at done need : ℕ) → Counting s.spaces p a n at done need → n ≤ done → need ≡ extra_cost s p (pages_under a n)
counting_all s p a n at done need i ended = grind (arith, append-nil)
