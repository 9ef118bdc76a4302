-- What the runs of a table list: its pages, each once and in order.
use Rattle.std.proofs.Common.{◌≡◌, ℕ, zero, suc, ◌+◌, ◌-◌, ◌*◌, ◌<◌, ◌≤◌, Bool, true, false, ◌==◌, List, [], ◌∷◌, ◌++◌, map, length, refl, sym, ap, ◌∙◌, arith, append_assoc, length-append, inl, inr}
use Rattle.std.specs.Prelude.{if◌then◌else◌}
use Rattle.std.specs.List.{flat_map, range_with_len}
use Rattle.std.proofs.lemmas.Bool.{and_parts, cases_Bool, eqb-true}
use Rattle.std.proofs.lemmas.Grind.{flat_map-append}
use Rattle.std.proofs.lemmas.List.{map-append}
use Rattle.page_words.specs.Words.{is_present}
use Rattle.address_space.specs.Image.{word_of}
use Rattle.memory_image.specs.Image.{Image, memory_of}
use Rattle.image_map.specs.declared.runs.Run.{Run}
use Rattle.image_map.specs.Runs.{page_of, pages_of, goes_on, runs_from, runs_of, pages_in}

-- ---- Ranges

pub range-append : (a m n : ℕ) → range_with_len a (m + n) ≡ range_with_len a m ++ range_with_len (a + m) n
range-append a zero n =
    let long : zero + n ≡ n = omega arith in
    let at : a ≡ a + zero = omega arith in
    λ i. range_with_len (at i) (long i)
range-append a (suc m) n =
    ap (range_with_len a) (let e : suc m + n ≡ suc (m + n) = omega arith in e)
    ∙ ap (λ l. a ∷ l) (range-append (a + 1) m n ∙ ap (λ k. range_with_len (a + 1) m ++ range_with_len k n) (let e : a + 1 + m ≡ a + suc m = omega arith in e))

module _ {X : Type 0} where
  pub same-range : (f g : ℕ → List X) (a n : ℕ) → ((k : ℕ) → a ≤ k → k < a + n → f k ≡ g k) → flat_map f (range_with_len a n) ≡ flat_map g (range_with_len a n)
  same-range f g a zero h = refl
  same-range f g a (suc n) h = λ i. h a (omega arith) (omega arith) i ++ same-range f g (a + 1) n (λ k low high. h k (omega arith) (omega arith)) i

  pub none-range : (f : ℕ → List X) (a n : ℕ) → ((k : ℕ) → a ≤ k → k < a + n → f k ≡ []) → flat_map f (range_with_len a n) ≡ []
  none-range f a zero h = refl
  none-range f a (suc n) h = λ i. h a (omega arith) (omega arith) i ++ none-range f (a + 1) n (λ k low high. h k (omega arith) (omega arith)) i

  -- numbers that are all moved on
  pub shift-range : (g : ℕ → List X) (b a n : ℕ) → flat_map (λ i. g (b + i)) (range_with_len a n) ≡ flat_map g (range_with_len (b + a) n)
  shift-range g b a zero = refl
  shift-range g b a (suc n) = ap (λ l. g (b + a) ++ l) (shift-range g b (a + 1) n ∙ ap (λ k. flat_map g (range_with_len k n)) (let e : b + (a + 1) ≡ b + a + 1 = omega arith in e))

  first-part : (g : ℕ → List X) (a : ℕ) → flat_map (λ i. g (1024 * a + i)) (range_with_len 0 1024) ≡ flat_map g (range_with_len (1024 * a) 1024)
  first-part g a = shift-range g (1024 * a) 0 1024 ∙ ap (λ k. flat_map g (range_with_len k 1024)) (let e : 1024 * a + 0 ≡ 1024 * a = omega arith in e)

  -- a range in parts of 1,024
  pub in-parts : (g : ℕ → List X) (a n : ℕ) → flat_map (λ s. flat_map (λ i. g (1024 * s + i)) (range_with_len 0 1024)) (range_with_len a n) ≡ flat_map g (range_with_len (1024 * a) (1024 * n))
  in-parts g a zero = ap (λ k. flat_map g (range_with_len (1024 * a) k)) (let e : 0 ≡ 1024 * zero = omega arith in e)
  in-parts g a (suc n) =
      (λ i. first-part g a i ++ (in-parts g (a + 1) n ∙ ap (λ k. flat_map g (range_with_len k (1024 * n))) (let e : 1024 * (a + 1) ≡ 1024 * a + 1024 = omega arith in e)) i)
      ∙ sym (flat_map-append g (range_with_len (1024 * a) 1024) (range_with_len (1024 * a + 1024) (1024 * n)))
      ∙ ap (flat_map g) (sym (range-append (1024 * a) 1024 (1024 * n)) ∙ ap (range_with_len (1024 * a)) (let e : 1024 + 1024 * n ≡ 1024 * suc n = omega arith in e))

  pub short-range : (f : ℕ → List X) (a n : ℕ) → ((k : ℕ) → length (f k) ≤ 1) → length (flat_map f (range_with_len a n)) ≤ n
  short-range f a zero h = omega arith
  short-range f a (suc n) h =
      let one = h a in
      let rest = short-range f (a + 1) n h in
      omega (arith, one, rest, length-append (f a) (flat_map f (range_with_len (a + 1) n)))

-- what is made of each item of what is made of each number
pub through : {X Y : Type 0} (h : X → List Y) (f : ℕ → List X) (a n : ℕ) → flat_map h (flat_map f (range_with_len a n)) ≡ flat_map (λ k. flat_map h (f k)) (range_with_len a n)
through h f a zero = refl
through h f a (suc n) = flat_map-append h (f a) (flat_map f (range_with_len (a + 1) n)) ∙ ap (λ l. flat_map h (f a) ++ l) (through h f (a + 1) n)

pub mapped-through : {X Y : Type 0} (h : X → Y) (f : ℕ → List X) (a n : ℕ) → map h (flat_map f (range_with_len a n)) ≡ flat_map (λ k. map h (f k)) (range_with_len a n)
mapped-through h f a zero = refl
mapped-through h f a (suc n) = map-append h (f a) (flat_map f (range_with_len (a + 1) n)) ∙ ap (λ l. map h (f a) ++ l) (mapped-through h f (a + 1) n)

-- ---- Runs

abbrev pub IsRun : Run → Type 0
IsRun run = run.first ≤ run.last

-- a run and the next, where it goes on with it
joined : (run next : Run) → IsRun run → IsRun next → goes_on run next ≡ true → pages_in (record run { last = next.last }) ≡ pages_in run ++ pages_in next
joined run next low high on =
    let parts = and_parts (run.last + 1 == next.first) (run.word == next.word) on in
    let at : run.last + 1 ≡ next.first = eqb-true (run.last + 1) next.first parts.0 in
    let word : run.word ≡ next.word = eqb-true run.word next.word parts.1 in
    let long : next.last + 1 - run.first ≡ (run.last + 1 - run.first) + (next.last + 1 - next.first) = omega arith in
    let second : run.first + (run.last + 1 - run.first) ≡ next.first = omega arith in
    ap (λ n. map (λ page. (page, run.word)) (range_with_len run.first n)) long
    ∙ ap (map (λ page. (page, run.word))) (range-append run.first (run.last + 1 - run.first) (next.last + 1 - next.first))
    ∙ map-append (λ page. (page, run.word)) (range_with_len run.first (run.last + 1 - run.first)) (range_with_len (run.first + (run.last + 1 - run.first)) (next.last + 1 - next.first))
    ∙ (λ i. pages_in run ++ map (λ page. (page, word i)) (range_with_len (second i) (next.last + 1 - next.first)))

further : (run next : Run) → IsRun run → IsRun next → goes_on run next ≡ true → IsRun (record run { last = next.last })
further run next low high on =
    let at = eqb-true (run.last + 1) next.first (and_parts (run.last + 1 == next.first) (run.word == next.word) on).0 in
    omega arith

-- each is one
abbrev pub AreRuns : List Run → Type 0
AreRuns [] = Unit {0}
AreRuns (run ∷ rest) = IsRun run × AreRuns rest

are-append : (xs ys : List Run) → AreRuns xs → AreRuns ys → AreRuns (xs ++ ys)
are-append [] ys a b = b
are-append (x ∷ xs) ys a b = (a.0, are-append xs ys a.1 b)

-- a run with what is behind it, by whether the next goes on with it
abbrev next-runs : Run → Run → List Run → Bool → List Run
next-runs run next rest b = if b then runs_from (record run { last = next.last }) rest else run ∷ runs_from next rest

pub pages-from : (run : Run) (rest : List Run) → IsRun run → AreRuns rest → flat_map pages_in (runs_from run rest) ≡ pages_in run ++ flat_map pages_in rest
pages-from run [] low are = refl
pages-from run (next ∷ rest) low are = elim (cases_Bool (goes_on run next)) [
  | inl on ↦
      ap (λ b. flat_map pages_in (next-runs run next rest b)) on
      ∙ pages-from (record run { last = next.last }) rest (further run next low are.0 on) are.1
      ∙ ap (λ l. l ++ flat_map pages_in rest) (joined run next low are.0 on)
      ∙ append_assoc (pages_in run) (pages_in next) (flat_map pages_in rest)
  | inr off ↦
      ap (λ b. flat_map pages_in (next-runs run next rest b)) off
      ∙ ap (λ l. pages_in run ++ l) (pages-from next rest are.0 are.1)
]

pub pages-same : (es : List Run) → AreRuns es → flat_map pages_in (runs_of es) ≡ flat_map pages_in es
pages-same [] are = refl
pages-same (run ∷ rest) are = pages-from run rest are.0 are.1

few-from : (run : Run) (rest : List Run) → length (runs_from run rest) ≤ 1 + length rest
few-from run [] = omega arith
few-from run (next ∷ rest) = elim (cases_Bool (goes_on run next)) [
  | inl on ↦
      let same : length (runs_from run (next ∷ rest)) ≡ length (runs_from (record run { last = next.last }) rest) = ap (λ b. length (next-runs run next rest b)) on in
      let r = few-from (record run { last = next.last }) rest in omega (arith, r, same)
  | inr off ↦
      let same : length (runs_from run (next ∷ rest)) ≡ length (run ∷ runs_from next rest) = ap (λ b. length (next-runs run next rest b)) off in
      let r = few-from next rest in omega (arith, r, same)
]

pub few-runs : (es : List Run) → length (runs_of es) ≤ length es
few-runs [] = omega arith
few-runs (run ∷ rest) = let r = few-from run rest in omega (arith, r)

-- ---- The pages of a table

-- a page with its word, where that is present
abbrev pub word_at_page : ℕ → ℕ → List (ℕ × ℕ)
word_at_page page word = if is_present word then (page, word) ∷ [] else []

one-page : (page word : ℕ) → flat_map pages_in (page_of page word) ≡ word_at_page page word
one-page page word = by (is_present word)
  where
    by : (b : Bool) → flat_map pages_in (if b then record { first = page; last = page; word = word } ∷ [] else []) ≡ (if b then (page, word) ∷ [] else [])
    by true = ap (λ n. map (λ q. (q, word)) (range_with_len page n) ++ []) (let e : page + 1 - page ≡ 1 = omega arith in e)
    by false = refl

-- the run of one page
abbrev one-run : ℕ → ℕ → Run
one-run page word = record { first = page; last = page; word = word }

page-is-run : (page word : ℕ) → AreRuns (page_of page word)
page-is-run page word = by (is_present word)
  where
    by : (b : Bool) → AreRuns (if b then one-run page word ∷ [] else [])
    by true = (omega arith, tt)
    by false = tt

short-page : (page word : ℕ) → length (page_of page word) ≤ 1
short-page page word = by (is_present word)
  where
    by : (b : Bool) → length (if b then one-run page word ∷ [] else []) ≤ 1
    by true = omega arith
    by false = omega arith

all-runs : (f : ℕ → List Run) (a n : ℕ) → ((k : ℕ) → AreRuns (f k)) → AreRuns (flat_map f (range_with_len a n))
all-runs f a zero h = tt
all-runs f a (suc n) h = are-append (f a) (flat_map f (range_with_len (a + 1) n)) (h a) (all-runs f (a + 1) n h)

module _ (image : Image) (s t : ℕ) where
  abbrev word : ℕ → ℕ
  word i = word_of (memory_of image) t i

  -- the runs of a table list the pages of its present words
  pub runs-list : flat_map pages_in (runs_of (pages_of image s t)) ≡ flat_map (λ i. word_at_page (1024 * s + i) (word_of (memory_of image) t i)) (range_with_len 0 1024)
  unfolding pages_of
  runs-list =
      pages-same (pages_of image s t) (all-runs (λ i. page_of (1024 * s + i) (word i)) 0 1024 (λ i. page-is-run (1024 * s + i) (word i)))
      ∙ through pages_in (λ i. page_of (1024 * s + i) (word i)) 0 1024
      ∙ same-range (λ i. flat_map pages_in (page_of (1024 * s + i) (word i))) (λ i. word_at_page (1024 * s + i) (word i)) 0 1024 (λ i low high. one-page (1024 * s + i) (word i))

  pub few-in-table : length (runs_of (pages_of image s t)) ≤ 1024
  unfolding pages_of
  few-in-table =
      let few = few-runs (pages_of image s t) in
      let short = short-range (λ i. page_of (1024 * s + i) (word i)) 0 1024 (λ i. short-page (1024 * s + i) (word i)) in
      omega (arith, few, short)
