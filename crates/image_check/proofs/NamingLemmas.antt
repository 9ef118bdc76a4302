-- What a directory names and maps, added up by the frames that it names in place of its slots.
use Rattle.std.proofs.Common.{◌≡◌, ◌≢◌, ℕ, zero, suc, ◌+◌, ◌-◌, ◌*◌, ◌<◌, ◌≤◌, Bool, List, length, mul-add, add-mul, mul-le-mul_left, mul-zero, zero-mul, one-mul, refl, sym, ap, ◌∙◌, arith, inl, inr, Option, Some, None}
use Rattle.std.specs.Prelude.{◌==◌, if◌then◌else◌}
use Rattle.std.proofs.lemmas.Bool.{cases_eq, cases_lt, eq-eqb, ne_eqb}
use Rattle.page_words.specs.Words.{is_present}
use Rattle.page_map.specs.Pages.{counted, count_range}
use Rattle.page_map.proofs.PageLemmas.{count_range-add, count_range-le, count_range-more, count_range-none, count_range-zero, count_word}
use Rattle.address_space.specs.Image.{table_at}
use Rattle.memory_image.specs.Image.{Image, frames, memory_of}
use Rattle.address_space.specs.ImageWords.{own_frame}
use Rattle.memory_image.proofs.ImageReads.{no_word}
use Rattle.image_check.specs.Counts.{sum_range, is_this, frame_of, names_by, maps_by}
use Rattle.image_check.specs.Adds.{Adds, HaveRoom, MayGrow, frame_named, maps_first, names_before, naming_first, times_named, words_naming}
use Rattle.image_check.proofs.RangeLemmas.{sum-none, sum-one, sum-same, sum-add, sum-more, sum_goes_on}
use Rattle.image_check.proofs.AddLemmas.{adds_nothing, adds_both}
use Rattle.image_check.proofs.SlotLemmas.{maps_in_table, maps_without_table}

-- ---- Sums of products

sum-plus : (f g : ℕ → ℕ) (first count : ℕ) → sum_range (λ k. f k + g k) first count ≡ sum_range f first count + sum_range g first count
unfolding sum_range
sum-plus f g first zero = refl
sum-plus f g first (suc count) = let r = sum-plus f g (first + 1) count in omega (arith, r)

-- what g gives for a frame, where there is one
abbrev given : (ℕ → ℕ) → Option ℕ → ℕ
given g None = 0
given g (Some t) = g t

-- of all frames, the one that is named
by-name : (g : ℕ → ℕ) (n : ℕ) → ((t : ℕ) → n ≤ t → g t ≡ 0) → (x : Option ℕ) → sum_range (λ t. counted (is_this t x) * g t) 0 n ≡ given g x
by-name g n past None = sum-none (λ t. counted (is_this t None) * g t) 0 n (λ t low high. zero-mul (g t))
by-name g n past (Some u) = elim (cases_lt u n) [
  | inl inside ↦
      sum-one (λ t. counted (u == t) * g t) 0 n u (omega arith) (omega arith) (λ t other. ap (λ b. counted b * g t) (ne_eqb u t (λ e. other (sym e))) ∙ zero-mul (g t))
      ∙ ap (λ b. counted b * g u) (eq-eqb u u refl) ∙ one-mul (g u)
  | inr outside ↦
      sum-none (λ t. counted (u == t) * g t) 0 n (λ t low high. ap (λ b. counted b * g t) (ne_eqb u t (λ e. omega arith)) ∙ zero-mul (g t))
      ∙ sym (past u outside)
]

-- by frames, each as often as it is named, or by the slots that name them
by-slots : (tab : ℕ → Option ℕ) (g : ℕ → ℕ) (n : ℕ) → ((t : ℕ) → n ≤ t → g t ≡ 0) → (first count : ℕ)
    → sum_range (λ t. count_range (λ s. is_this t (tab s)) first count * g t) 0 n ≡ sum_range (λ s. given g (tab s)) first count
unfolding sum_range count_range
by-slots tab g n past first zero = sum-none (λ t. 0 * g t) 0 n (λ t low high. zero-mul (g t))
by-slots tab g n past first (suc count) =
    sum-same (λ t. (counted (is_this t (tab first)) + count_range (λ s. is_this t (tab s)) (first + 1) count) * g t) (λ t. counted (is_this t (tab first)) * g t + count_range (λ s. is_this t (tab s)) (first + 1) count * g t) 0 n
    (λ t low high. add-mul (counted (is_this t (tab first))) (count_range (λ s. is_this t (tab s)) (first + 1) count) (g t))
    ∙ sum-plus (λ t. counted (is_this t (tab first)) * g t) (λ t. count_range (λ s. is_this t (tab s)) (first + 1) count * g t) 0 n
    ∙ (λ i. by-name g n past (tab first) i + by-slots tab g n past (first + 1) count i)

-- a count over pages, slot by slot
by-regions : (p : ℕ → Bool) (first count : ℕ) → count_range p (1024 * first) (1024 * count) ≡ sum_range (λ s. count_range p (1024 * s) 1024) first count
unfolding sum_range count_range
by-regions p first zero = refl
by-regions p first (suc count) =
    let a : 1024 * suc count ≡ 1024 + 1024 * count = omega arith in
    let b : 1024 * first + 1024 ≡ 1024 * (first + 1) = omega arith in
    ap (count_range p (1024 * first)) a ∙ count_range-add p (1024 * first) 1024 (1024 * count)
    ∙ (λ i. count_range p (1024 * first) 1024 + count_range p (b i) (1024 * count))
    ∙ ap (λ k. count_range p (1024 * first) 1024 + k) (by-regions p (first + 1) count)

-- ---- One process

module _ (image : Image) (p f : ℕ) (size : length image.bytes ≡ 4096 * frames image) where
  -- a frame past the end names none
  past_names_none : (t : ℕ) → frames image ≤ t → words_naming image t f ≡ 0
  past_names_none t past = count_range-none (λ i. is_this f (frame_named image t i)) 0 1024
      (λ i low. ap (λ w. is_this f (if is_present w then own_frame image.version w else None)) (sym (no_word image.bytes (frames image) t (0 + i) size past)))

  by-slot : (s : ℕ) (x : Option ℕ) → table_at (memory_of image) p s ≡ x → given (λ t. words_naming image t f) x ≡ count_range (λ page. is_this f (frame_of image p page)) (1024 * s) 1024
  by-slot s None none = sym (maps_without_table image p s f none)
  by-slot s (Some t) there = maps_in_table image p s t f size there

  -- what the tables of a process map, by the frames that it names
  pub maps_by_names : sum_range (λ t. names_by image p t * words_naming image t f) 0 (frames image) ≡ maps_by image p f
  maps_by_names =
      by-slots (table_at (memory_of image) p) (λ t. words_naming image t f) (frames image) past_names_none 256 704
      ∙ sum-same (λ s. given (λ t. words_naming image t f) (table_at (memory_of image) p s)) (λ s. count_range (λ page. is_this f (frame_of image p page)) (1024 * s) 1024) 256 704
      (λ s low high. by-slot s (table_at (memory_of image) p s) refl)
      ∙ sym (by-regions (λ page. is_this f (frame_of image p page)) 256 704)

-- ---- Steps of the loops

-- so many more of a range
pub times_go_on : (p : ℕ → ℕ → Bool) (xs ys zs : List ℕ) (times k : ℕ)
    → Adds xs ys (λ f. times * count_range (p f) 0 k) → Adds ys zs (λ f. times * counted (p f k)) → Adds xs zs (λ f. times * count_range (p f) 0 (k + 1))
times_go_on p xs ys zs times k a b = adds_both xs ys zs (λ f. times * count_range (p f) 0 k) (λ f. times * counted (p f k)) (λ f. times * count_range (p f) 0 (k + 1)) a b
    (λ f. sym (times_more (p f) times k))
  where
    times_more : (p : ℕ → Bool) (times k : ℕ) → times * count_range p 0 (k + 1) ≡ times * count_range p 0 k + times * counted (p k)
    times_more p times k = ap (λ n. times * n) (sym (count_word p k (count_range p 0 k) (counted (p k)) refl refl)) ∙ mul-add times (count_range p 0 k) (counted (p k))

pub times_begin : (p : ℕ → ℕ → Bool) (xs : List ℕ) (times : ℕ) → Adds xs xs (λ f. times * count_range (p f) 0 0)
times_begin p xs times = adds_nothing xs (λ f. times * count_range (p f) 0 0) (λ f. ap (λ n. times * n) (count_range-zero (p f) 0) ∙ mul-zero times)

-- room for so many more of a range
pub times_room : (p : ℕ → ℕ → Bool) (xs ys : List ℕ) (times count k : ℕ) → k < count → MayGrow xs (λ f. times * count_range (p f) 0 count)
    → Adds xs ys (λ f. times * count_range (p f) 0 k) → MayGrow ys (λ f. times * counted (p f k))
times_room p xs ys times count k low room a f inside =
    let s = a.same in
    let i : f < length xs = omega arith in
    let whole : count_range (p f) 0 count ≡ count_range (p f) 0 (k + 1) + count_range (p f) (0 + (k + 1)) (count - (k + 1)) =
    ap (count_range (p f) 0) (let e : count ≡ k + 1 + (count - (k + 1)) = omega arith in e) ∙ count_range-add (p f) 0 (k + 1) (count - (k + 1)) in
    let part : times * count_range (p f) 0 (k + 1) ≤ times * count_range (p f) 0 count = mul-le-mul_left times (omega (arith, whole)) in
    let more = ap (λ n. times * n) (count_word (p f) k (count_range (p f) 0 k) (counted (p f k)) refl refl) in
    let split = mul-add times (count_range (p f) 0 k) (counted (p f k)) in
    omega (arith, room f i, a.each f i, part, more, split)

-- room for one term more of a sum
pub term_room : (g : ℕ → ℕ → ℕ) (xs ys : List ℕ) (n k : ℕ) → k < n → MayGrow xs (λ f. sum_range (g f) 0 n) → Adds xs ys (λ f. sum_range (g f) 0 k) → MayGrow ys (λ f. g f k)
term_room g xs ys n k low room a f inside =
    let s = a.same in
    let i : f < length xs = omega arith in
    let more = sum_goes_on (g f) k (sum_range (g f) 0 k) (g f k) refl refl in
    let whole : sum_range (g f) 0 n ≡ sum_range (g f) 0 (k + 1) + sum_range (g f) (0 + (k + 1)) (n - (k + 1)) =
    ap (sum_range (g f) 0) (let e : n ≡ k + 1 + (n - (k + 1)) = omega arith in e) ∙ sum-add (g f) 0 (k + 1) (n - (k + 1)) in
    omega (arith, room f i, a.each f i, more, whole)

-- ---- Each table at the first word that names it

-- 1, or 0 for no time
abbrev once : ℕ → ℕ
once zero = 0
once (suc n) = 1

once-some : (n : ℕ) → (n ≡ 0 → ⊥) → once n ≡ 1
once-some zero some = absurd (some refl)
once-some (suc n) some = refl

once-times : (n w : ℕ) → once n * (n * w) ≡ n * w
once-times zero w = zero-mul (0 * w) ∙ sym (zero-mul w)
once-times (suc n) w = one-mul (suc n * w)

module _ (image : Image) (p f : ℕ) (size : length image.bytes ≡ 4096 * frames image) where
  abbrev tab : ℕ → Option ℕ
  tab s = table_at (memory_of image) p s

  -- how many words name f by way of frame t
  abbrev by_way : ℕ → ℕ
  by_way t = names_by image p t * words_naming image t f

  -- by way of the frames that so many words of the directory name
  abbrev by_first : ℕ → ℕ
  by_first k = sum_range (λ t. once (names_before image p k t) * by_way t) 0 (frames image)

  names-more : (k t : ℕ) (x : Option ℕ) → tab (256 + k) ≡ x → names_before image p (k + 1) t ≡ names_before image p k t + counted (is_this t x)
  names-more k t x is = count_range-more (λ s. is_this t (tab s)) 256 k ∙ ap (λ y. names_before image p k t + counted (is_this t y)) is

  names-other : (k t u : ℕ) → tab (256 + k) ≡ Some u → t ≢ u → names_before image p (k + 1) t ≡ names_before image p k t
  names-other k t u there differ =
      let none : counted (u == t) ≡ 0 = ap counted (ne_eqb u t (λ e. differ (sym e))) in
      let more = names-more k t (Some u) there in
      omega (arith, none, more)

  names-own : (k t u : ℕ) → tab (256 + k) ≡ Some u → t ≡ u → names_before image p (k + 1) t ≡ names_before image p k t + 1
  names-own k t u there same =
      let one : counted (u == t) ≡ 1 = ap counted (eq-eqb u t (sym same)) in
      let more = names-more k t (Some u) there in
      omega (arith, one, more)

  first_none : (k : ℕ) → tab (256 + k) ≡ None → by_first (k + 1) ≡ by_first k
  first_none k none = sum-same (λ t. once (names_before image p (k + 1) t) * by_way t) (λ t. once (names_before image p k t) * by_way t) 0 (frames image)
      (λ t low high. ap (λ n. once n * by_way t) (let more = names-more k t None none in omega (arith, more)))

  first_again : (k u : ℕ) → tab (256 + k) ≡ Some u → (names_before image p k u ≡ 0 → ⊥) → by_first (k + 1) ≡ by_first k
  first_again k u there seen = sum-same (λ t. once (names_before image p (k + 1) t) * by_way t) (λ t. once (names_before image p k t) * by_way t) 0 (frames image)
      (λ t low high. ap (λ n. n * by_way t) (alike t))
    where
      alike : (t : ℕ) → once (names_before image p (k + 1) t) ≡ once (names_before image p k t)
      alike t = elim (cases_eq t u) [
        | inl same ↦
            let some : names_before image p k t ≡ 0 → ⊥ = λ e. seen (ap (names_before image p k) (sym same) ∙ e) in
            once-some (names_before image p (k + 1) t) (λ e. let more = names-own k t u there same in omega (arith, more, e)) ∙ sym (once-some (names_before image p k t) some)
        | inr differ ↦ ap once (names-other k t u there differ)
      ]

  first_fresh : (k u : ℕ) → tab (256 + k) ≡ Some u → names_before image p k u ≡ 0 → by_first (k + 1) ≡ by_first k + by_way u
  first_fresh k u there unseen =
      sum-same (λ t. once (names_before image p (k + 1) t) * by_way t) (λ t. once (names_before image p k t) * by_way t + counted (is_this t (Some u)) * by_way t) 0 (frames image) (λ t low high. one-more t)
      ∙ sum-plus (λ t. once (names_before image p k t) * by_way t) (λ t. counted (is_this t (Some u)) * by_way t) 0 (frames image)
      ∙ ap (λ n. by_first k + n) (by-name by_way (frames image) past (Some u))
    where
      past : (t : ℕ) → frames image ≤ t → by_way t ≡ 0
      past t beyond = ap (λ n. names_by image p t * n) (past_names_none image p f size t beyond) ∙ mul-zero (names_by image p t)

      one-more : (t : ℕ) → once (names_before image p (k + 1) t) * by_way t ≡ once (names_before image p k t) * by_way t + counted (is_this t (Some u)) * by_way t
      one-more t = elim (cases_eq t u) [
        | inl same ↦
            let none : names_before image p k t ≡ 0 = ap (names_before image p k) same ∙ unseen in
            let new : names_before image p (k + 1) t ≡ 1 = (let more = names-own k t u there same in omega (arith, more, none)) in
            let a : once (names_before image p (k + 1) t) * by_way t ≡ by_way t = ap (λ n. once n * by_way t) new ∙ one-mul (by_way t) in
            let b : once (names_before image p k t) * by_way t ≡ 0 = ap (λ n. once n * by_way t) none ∙ zero-mul (by_way t) in
            let c : counted (u == t) * by_way t ≡ by_way t = ap (λ x. counted x * by_way t) (eq-eqb u t (sym same)) ∙ one-mul (by_way t) in
            omega (arith, a, b, c)
        | inr differ ↦
            let a : once (names_before image p (k + 1) t) * by_way t ≡ once (names_before image p k t) * by_way t = ap (λ n. once n * by_way t) (names-other k t u there differ) in
            let c : counted (u == t) * by_way t ≡ 0 = ap (λ x. counted x * by_way t) (ne_eqb u t (λ e. differ (sym e))) ∙ zero-mul (by_way t) in
            omega (arith, a, c)
      ]

  first_step : (k : ℕ) → by_first k + maps_first image p k f ≡ by_first (k + 1)
  first_step k = by (tab (256 + k)) refl
    where
      by : (x : Option ℕ) → tab (256 + k) ≡ x → by_first k + naming_first image p k f x ≡ by_first (k + 1)
      by None none = (let e = first_none k none in omega (arith, e))
      by (Some u) there = elim (cases_eq (names_before image p k u) 0) [
        | inl unseen ↦
            let times : times_named image p k u ≡ names_by image p u = ap (λ b. if b then names_by image p u else 0) (eq-eqb (names_before image p k u) 0 unseen) in
            ap (λ n. by_first k + n * words_naming image u f) times ∙ sym (first_fresh k u there unseen)
        | inr seen ↦
            let times : times_named image p k u ≡ 0 = ap (λ b. if b then names_by image p u else 0) (ne_eqb (names_before image p k u) 0 seen) in
            let none : times_named image p k u * words_naming image u f ≡ 0 = ap (λ n. n * words_naming image u f) times ∙ zero-mul (words_naming image u f) in
            let e = first_again k u there seen in
            omega (arith, none, e)
      ]

  firsts : (k : ℕ) → sum_range (λ j. maps_first image p j f) 0 k ≡ by_first k
  unfolding sum_range
  firsts zero = sym (sum-none (λ t. once (names_before image p 0 t) * by_way t) 0 (frames image) (λ t low high. ap (λ n. once n * by_way t) (count_range-zero (λ s. is_this t (tab s)) 256) ∙ zero-mul (by_way t)))
  firsts (suc k) =
      let e : suc k ≡ k + 1 = omega arith in
      let step = first_step k in
      let before = firsts k in
      let more = sum-more (λ j. maps_first image p j f) k in
      let now : by_first (suc k) ≡ by_first (k + 1) = ap by_first e in
      omega (arith, step, before, more, now)

  -- what the tables map, each at the first word that names it
  pub maps_by_first : sum_range (λ j. maps_first image p j f) 0 704 ≡ maps_by image p f
  maps_by_first =
      firsts 704
      ∙ sum-same (λ t. once (names_before image p 704 t) * by_way t) by_way 0 (frames image) (λ t low high. once-times (names_by image p t) (words_naming image t f))
      ∙ maps_by_names image p f size

-- room for what a process maps
pub room_by_first : (image : Image) (p : ℕ) (maps : List ℕ) → length image.bytes ≡ 4096 * frames image → HaveRoom maps 720896 → MayGrow maps (λ f. sum_range (λ j. maps_first image p j f) 0 704)
room_by_first image p maps size room f inside =
    let most = count_range-le (λ page. is_this f (frame_of image p page)) 0x40000 0xb0000 in
    let e = maps_by_first image p f size in
    omega (arith, room f inside, e, most)

-- a slot that names no table adds nothing
pub adds_none_first : (image : Image) (p count : ℕ) (maps : List ℕ) → table_at (memory_of image) p (256 + count) ≡ None → Adds maps maps (λ f. maps_first image p count f)
adds_none_first image p count maps none = adds_nothing maps (λ f. maps_first image p count f) (λ f. ap (naming_first image p count f) none)
