-- Each step of the lock keeps its rule.
use Rattle.std.proofs.Common.{◌≡◌, ◌≢◌, ℕ, zero, suc, ◌==◌, Bool, List, [], ◌∷◌, ◌++◌, length, set, true, false, true≢false, refl, sym, ap, ◌∙◌, subst, ⊎_elim, arith, append-nil, append_assoc, None, Some, Option}
use Rattle.std.specs.Prelude.{slice_index}
use Rattle.std.proofs.lemmas.Bool.Decides.{nat_tests}
use mathlib.Core.Option.{some, none, some-injective, some-ne-none}
use prog.Atomic.{either}
use lib.ListN.{get_elem?}
use Rattle.atomic_table.specs.Table.{State, Me, Act, Valid, step, stepped, carried_after, keeps, takes, gives, Allows, Splits, opening}
use Rattle.atomic_table.proofs.Lists.{at_set, at_snoc, set_again}
use Rattle.seat_lock.specs.declared.law.Doing.{Doing}
use Rattle.seat_lock.specs.Locks.{Begins, Begun, Closes, Gives, Holds, Takes, doing}

off : false ≡ true → ⊥
off e = true≢false (sym e)

one_home : {A : Type 0} (hs : List A) (y : A) → length hs ≡ 1 → set hs 0 y ≡ y ∷ []
one_home [] y e = absurd (omega arith)
one_home (h ∷ []) y e = refl
one_home (h ∷ g ∷ hs) y e = absurd (omega arith)

module _ {T : Type 0} where
  begins_itself : (xs : List T) → Begins xs xs
  begins_itself xs = ([], sym (append-nil xs))

  begins_more : (log seen : List T) (x : T) → Begins log seen → Begins (log ++ x ∷ []) seen
  begins_more log seen x h = (h.0 ++ x ∷ [], ap (λ l. l ++ x ∷ []) h.1 ∙ append_assoc seen h.0 (x ∷ []))

  -- a view of a table after the seat's own became w: that one, or another's
  view_is : (views : List (Doing T)) (id k : ℕ) (w v : Doing T) (P : Type 0) → get_elem? (set views id w) k ≡ some v
      → (k ≡ id → w ≡ v → P) → (k ≢ id → get_elem? views k ≡ some v → P) → P
  view_is views id k w v P at here other = ⊎_elim (λ (t : (k ≡ id) × (w ≡ v)). here t.0 t.1) (λ (t : (k ≢ id) × (get_elem? views k ≡ some v)). other t.0 t.1) (at_set views id k w v at)

  -- nobody has it, and one seat gets it, with all of the history
  taken_holds : (s : State (Option T) (Doing T)) (id : ℕ) (h : Holds s) → ((k : ℕ) (v : Doing T) → get_elem? s.views k ≡ some v → v.has ≡ false)
      → Holds (record { words = 1 ∷ []; homes = none ∷ []; views = set s.views id (doing true h.whole) })
  taken_holds s id h idle = record {
    whole = h.whole;
    word = 1;
    words = refl;
    prefix = λ k v at. view_is s.views id k (doing true h.whole) v (Begins h.whole v.log) at
        (λ here same. subst (λ (u : Doing T). Begins h.whole u.log) same (begins_itself h.whole))
        (λ other was. h.prefix k v was);
    home = λ e. absurd (omega arith);
    fresh = λ e. absurd (omega arith);
    nobody = λ e. absurd (omega arith);
    none = λ e. absurd (omega arith);
    owner = λ k v at has. view_is s.views id k (doing true h.whole) v (v.log ≡ h.whole) at
        (λ here same. ap (λ (u : Doing T). u.log) (sym same))
        (λ other was. absurd (off (sym (idle k v was) ∙ has)));
    one = λ j k u v atj atk hasj hask. view_is s.views id j (doing true h.whole) u (j ≡ k) atj
        (λ here same. view_is s.views id k (doing true h.whole) v (j ≡ k) atk
        (λ there alike. here ∙ sym there)
        (λ other was. absurd (off (sym (idle k v was) ∙ hask))))
        (λ other was. absurd (off (sym (idle j u was) ∙ hasj)));
  }

  by_has : (s : State (Option T) (Doing T)) (id : ℕ) (v : Doing T) (h : Holds s) → get_elem? s.views id ≡ some v → v.has ≡ true
      → (k : ℕ) (u : Doing T) → k ≢ id → get_elem? s.views k ≡ some u → (b : Bool) → u.has ≡ b → b ≡ false
  by_has s id v h mine has k u other was true is = absurd (other (h.one k id u v was mine is has))
  by_has s id v h mine has k u other was false is = refl

  -- whoever has it gives a value, which is the last of the history then
  given_holds : (s : State (Option T) (Doing T)) (id : ℕ) (v : Doing T) (x : T) (h : Holds s) → get_elem? s.views id ≡ some v → v.has ≡ true
      → Holds (record { words = 0 ∷ []; homes = some (Some x) ∷ []; views = set s.views id (doing false (v.log ++ x ∷ [])) })
  given_holds s id v x h mine has =
      let all : v.log ≡ h.whole = h.owner id v mine has in
      let more : List T = v.log ++ x ∷ [] in
      let idle : (k : ℕ) (u : Doing T) → get_elem? (set s.views id (doing false more)) k ≡ some u → u.has ≡ false =
      λ k u at. view_is s.views id k (doing false more) u (u.has ≡ false) at
      (λ here same. ap (λ (w : Doing T). w.has) (sym same))
      (λ other was. by_has s id v h mine has k u other was u.has refl) in
      record {
        whole = more;
        word = 0;
        words = refl;
        prefix = λ k u at. view_is s.views id k (doing false more) u (Begins more u.log) at
            (λ here same. subst (λ (w : Doing T). Begins more w.log) same (begins_itself more))
            (λ other was. begins_more v.log u.log x (subst (λ (l : List T). Begins l u.log) (sym all) (h.prefix k u was)));
        home = λ e. (x, refl, (v.log, refl));
        fresh = λ e. absurd (omega arith);
        nobody = λ e. idle;
        none = λ e. absurd (omega arith);
        owner = λ k u at is. absurd (off (sym (idle k u at) ∙ is));
        one = λ j k u w atj atk hasj hask. absurd (off (sym (idle j u atj) ∙ hasj));
      }

  -- the value that the slot holds which was taken last
  gave : List (ℕ × Option T) → List T → List T
  gave [] log = log
  gave ((k, None) ∷ rest) log = log
  gave ((k, Some x) ∷ rest) log = log ++ x ∷ []

  gives_at : (id : ℕ) (v : Doing T) (x : T) → v.has ≡ true
      → Allows Holds 1 id (v, (0, Some x) ∷ []) 0 (λ _. 0) (λ _. Gives (step 1 0 0 0 none) (v, (0, Some x) ∷ []) 0)
  unfolding gave
  gives_at id v x has s h long mine small =
      let w : Doing T = doing false (v.log ++ x ∷ []) in
      let words : set s.words 0 0 ≡ 0 ∷ [] = ap (λ ws. set ws 0 0) h.words in
      let homes : set s.homes 0 (some (Some x)) ≡ some (Some x) ∷ [] = one_home s.homes (some (Some x)) long in (
        w,
        gives,
        tt,
        subst Holds (λ i. record { words = sym words i; homes = sym homes i; views = set s.views id w }) (given_holds s id v x h mine has),
        λ y same. λ i. (doing false (gave (same i) v.log), []),
      )

  pub gives_allowed : (id : ℕ) (me : Me (Option T) (Doing T)) → me.0.has ≡ true → (x : T) → me.1 ≡ (0, Some x) ∷ []
      → Allows Holds 1 id me 0 (λ _. 0) (λ _. Gives (step 1 0 0 0 none) me 0)
  gives_allowed id me has x held = subst (λ c. Allows Holds 1 id (me.0, c) 0 (λ _. 0) (λ _. Gives (step 1 0 0 0 none) (me.0, c) 0)) (sym held) (gives_at id me.0 x has)

  -- the word isn't the one expected: nothing happens
  missed : (s : State (Option T) (Doing T)) (id n : ℕ) (v : Doing T) (h : Holds s) → get_elem? s.views id ≡ some v → (h.word == n) ≡ false
      → Holds (stepped s 0 (either (slice_index s.words 0 == n) 1 (slice_index s.words 0)) id [] v keeps)
  missed s id n v h mine is =
      let now : slice_index s.words 0 ≡ h.word = ap (λ ws. slice_index ws 0) h.words in
      let found : (slice_index s.words 0 == n) ≡ false = ap (λ m. m == n) now ∙ is in
      let value : either (slice_index s.words 0 == n) 1 (slice_index s.words 0) ≡ h.word = rw found now in
      let words : set s.words 0 (either (slice_index s.words 0 == n) 1 (slice_index s.words 0)) ≡ s.words = ap (λ m. set s.words 0 m) value ∙ (ap (λ ws. set ws 0 h.word) h.words ∙ sym h.words) in
      subst Holds (λ i. record { words = sym words i; homes = s.homes; views = sym (set_again s.views id v mine) i }) h

  takes_at : (id : ℕ) (v : Doing T) → v.has ≡ false → (s : State (Option T) (Doing T)) → (h : Holds s) → get_elem? s.views id ≡ some v → (b : Bool) → (h.word == 0) ≡ b
      → (w : Doing T) × (a : Act (Option T)) × Valid s.homes [] a × Holds (stepped s 0 (either (slice_index s.words 0 == 0) 1 (slice_index s.words 0)) id [] w a) × Takes (step 1 0 0 1 none) (v, []) (slice_index s.words 0) (w, carried_after [] a)
  takes_at id v idle s h mine true is =
      let now : slice_index s.words 0 ≡ h.word = ap (λ ws. slice_index ws 0) h.words in
      let free : h.word ≡ 0 = grind (arith, nat_tests, is) in
      let found : (slice_index s.words 0 == 0) ≡ true = ap (λ n. n == 0) now ∙ is in
      let value : either (slice_index s.words 0 == 0) 1 (slice_index s.words 0) ≡ 1 = rw found refl in
      let home = h.home free in
      let w : Doing T = doing true h.whole in
      let words : set s.words 0 (either (slice_index s.words 0 == 0) 1 (slice_index s.words 0)) ≡ 1 ∷ [] = ap (λ m. set s.words 0 m) value ∙ ap (λ ws. set ws 0 1) h.words in
      let homes : set s.homes 0 none ≡ none ∷ [] = ap (λ hs. set hs 0 none) home.1 in (
        w,
        takes 0 (Some home.0),
        ap (λ hs. get_elem? hs 0) home.1,
        subst Holds (λ i. record { words = sym words i; homes = sym homes i; views = set s.views id w }) (taken_holds s id h (h.nobody free)),
        rw found (record { log = h.whole; held = home.0; now = refl; begins = h.prefix id v mine; last = home.2 }),
      )
  takes_at id v idle s h mine false is =
      let found : (slice_index s.words 0 == 0) ≡ false = ap (λ ws. slice_index ws 0 == 0) h.words ∙ is in
      (v, keeps, tt, missed s id 0 v h mine is, rw found refl)

  pub takes_allowed : (id : ℕ) (me : Me (Option T) (Doing T)) → me.0.has ≡ false → me.1 ≡ []
      → Allows Holds 1 id me 0 (λ n. either (n == 0) 1 n) (Takes (step 1 0 0 1 none) me)
  takes_allowed id me idle none_held = subst (λ c. Allows Holds 1 id (me.0, c) 0 (λ n. either (n == 0) 1 n) (Takes (step 1 0 0 1 none) (me.0, c))) (sym none_held)
      (λ s h long mine small. takes_at id me.0 idle s h mine (h.word == 0) refl)

  begins_at : (id : ℕ) (v : Doing T) → v.has ≡ false → (s : State (Option T) (Doing T)) → (h : Holds s) → get_elem? s.views id ≡ some v → (b : Bool) → (h.word == 3) ≡ b
      → (w : Doing T) × (a : Act (Option T)) × Valid s.homes [] a × Holds (stepped s 0 (either (slice_index s.words 0 == 3) 1 (slice_index s.words 0)) id [] w a) × Begun (step 1 0 3 1 none) (v, []) (slice_index s.words 0) (w, carried_after [] a)
  begins_at id v idle s h mine true is =
      let now : slice_index s.words 0 ≡ h.word = ap (λ ws. slice_index ws 0) h.words in
      let free : h.word ≡ 3 = grind (arith, nat_tests, is) in
      let found : (slice_index s.words 0 == 3) ≡ true = ap (λ n. n == 3) now ∙ is in
      let value : either (slice_index s.words 0 == 3) 1 (slice_index s.words 0) ≡ 1 = rw found refl in
      let home = h.fresh free in
      let w : Doing T = doing true h.whole in
      let words : set s.words 0 (either (slice_index s.words 0 == 3) 1 (slice_index s.words 0)) ≡ 1 ∷ [] = ap (λ m. set s.words 0 m) value ∙ ap (λ ws. set ws 0 1) h.words in
      let homes : set s.homes 0 none ≡ none ∷ [] = ap (λ hs. set hs 0 none) home.0 in (
        w,
        takes 0 None,
        ap (λ hs. get_elem? hs 0) home.0,
        subst Holds (λ i. record { words = sym words i; homes = sym homes i; views = set s.views id w }) (taken_holds s id h (h.none free)),
        rw found (λ i. (doing true (home.1 i), (0, None) ∷ [])),
      )
  begins_at id v idle s h mine false is =
      let found : (slice_index s.words 0 == 3) ≡ false = ap (λ ws. slice_index ws 0 == 3) h.words ∙ is in
      (v, keeps, tt, missed s id 3 v h mine is, rw found refl)

  pub begins_allowed : (id : ℕ) (me : Me (Option T) (Doing T)) → me.0.has ≡ false → me.1 ≡ []
      → Allows Holds 1 id me 0 (λ n. either (n == 3) 1 n) (Begun (step 1 0 3 1 none) me)
  begins_allowed id me idle none_held = subst (λ c. Allows Holds 1 id (me.0, c) 0 (λ n. either (n == 3) 1 n) (Begun (step 1 0 3 1 none) (me.0, c))) (sym none_held)
      (λ s h long mine small. begins_at id me.0 idle s h mine (h.word == 3) refl)

  -- the slot stays out for good
  pub closes_allowed : (id : ℕ) (me : Me (Option T) (Doing T)) → me.0.has ≡ true
      → Allows Holds 1 id me 0 (λ _. 2) (λ _. Closes (step 1 0 2 0 none) me 2)
  closes_allowed id me has s h long mine small =
      let words : set s.words 0 2 ≡ 2 ∷ [] = ap (λ ws. set ws 0 2) h.words in (
        me.0,
        keeps,
        tt,
        record {
          whole = h.whole;
          word = 2;
          words = words;
          prefix = λ k v at. h.prefix k v (subst (λ vs. get_elem? vs k ≡ some v) (set_again s.views id me.0 mine) at);
          home = λ e. absurd (omega arith);
          fresh = λ e. absurd (omega arith);
          nobody = λ e. absurd (omega arith);
          none = λ e. absurd (omega arith);
          owner = λ k v at. h.owner k v (subst (λ vs. get_elem? vs k ≡ some v) (set_again s.views id me.0 mine) at);
          one = λ j k u v atj atk. h.one j k u v (subst (λ vs. get_elem? vs j ≡ some u) (set_again s.views id me.0 mine) atj) (subst (λ vs. get_elem? vs k ≡ some v) (set_again s.views id me.0 mine) atk);
        },
        refl,
      )

  -- one seat more, which has nothing
  pub splits_allowed : (id : ℕ) (v : Doing T) → Splits Holds id v v (doing false v.log)
  splits_allowed id v s h mine =
      let right : Doing T = doing false v.log in
      let views : set s.views id v ≡ s.views = set_again s.views id v mine in
      let is : (P : Doing T → ℕ → Type 0) (k : ℕ) (u : Doing T) → get_elem? (s.views ++ right ∷ []) k ≡ some u → (get_elem? s.views k ≡ some u → P u k) → P right k → P u k =
      λ P k u at old new. ⊎_elim old (λ (same : right ≡ u). subst (λ (w : Doing T). P w k) same new) (at_snoc s.views right u k at) in
      subst Holds (λ i. record { words = s.words; homes = s.homes; views = sym views i ++ right ∷ [] }) (record {
        whole = h.whole;
        word = h.word;
        words = h.words;
        prefix = λ k u at. is (λ w j. Begins h.whole w.log) k u at (h.prefix k u) (h.prefix id v mine);
        home = h.home;
        fresh = h.fresh;
        nobody = λ e k u at. is (λ w j. w.has ≡ false) k u at (h.nobody e k u) refl;
        none = λ e k u at. is (λ w j. w.has ≡ false) k u at (h.none e k u) refl;
        owner = λ k u at. is (λ w j. w.has ≡ true → w.log ≡ h.whole) k u at (h.owner k u) (λ e. absurd (off e));
        one = λ j k u w atj atk. is (λ x l. x.has ≡ true → w.has ≡ true → l ≡ k) j u atj
            (λ wasj. is (λ y m. u.has ≡ true → y.has ≡ true → j ≡ m) k w atk (λ wask. h.one j k u w wasj wask) (λ a b. absurd (off b)))
            (λ a b. absurd (off a));
      })

  -- of one view, what holds of it
  single : (w : Doing T) (k : ℕ) (v : Doing T) (P : Doing T → Type 0) → get_elem? (w ∷ []) k ≡ some v → P w → P v
  single w zero v P at holds = subst P (some-injective w v at) holds
  single w (suc k) v P at holds = absurd (some-ne-none v (sym at))

  pub opening_holds : Holds {T = T} (opening (3 ∷ []) (None ∷ []) (doing false []))
  opening_holds = record {
    whole = [];
    word = 3;
    words = refl;
    prefix = λ k v at. single (doing false []) k v (λ u. Begins [] u.log) at (begins_itself []);
    home = λ e. absurd (omega arith);
    fresh = λ e. (refl, refl);
    nobody = λ e. absurd (omega arith);
    none = λ e k v at. single (doing false []) k v (λ u. u.has ≡ false) at refl;
    owner = λ k v at. single (doing false []) k v (λ u. u.has ≡ true → u.log ≡ []) at (λ e. absurd (off e));
    one = λ j k u v atj atk hasj. absurd (off (sym (single (doing false []) j u (λ w. w.has ≡ false) atj refl) ∙ hasj));
  }
