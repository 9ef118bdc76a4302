-- Runs that stop at the first event that is refused or faults, and transfers one behind another.
use Rattle.kernel_acts.proofs.Prelude.{◌≡◌, ℕ, zero, suc, ◌+◌, ◌<◌, true, false, List, [], ◌∷◌, ◌++◌, length, take, drop, refl, ap, sym, ◌∙◌, subst, arith, ◌-◌, ◌≤◌, Option, Some, None, length-drop, append_assoc, length-append, append-nil, take-append-drop, length-take-le, take_at, drop_at, drop-drop, if◌then◌else◌, slice_index, State, answer, next, end_of, completes, load_byte, store_byte, loads, stores, carried, stop_of, value_in, values, AreLoaded, AreStored, Reads, Writes, Event, Reply, put_mid, answers-append, end_of-append}
use Rattle.kernel_calls.specs.declared.calls.Reply.TheVariants as reply

-- ---- A run of which all is carried out, and then more

record Goes (s : State) (e : Event) (events : List Event) : Type 0 where
  first : completes (answer s e) ≡ true
  rest : carried (next s e) events ≡ events

goes : (s : State) (e : Event) (events : List Event) → carried s (e ∷ events) ≡ e ∷ events → Goes s e events
goes s e events all = grind arith

pub carried-append : (s : State) (xs ys : List Event) → carried s xs ≡ xs → carried s (xs ++ ys) ≡ xs ++ carried (end_of s xs) ys
carried-append s [] ys all = refl
carried-append s (x ∷ xs) ys all =
    let g = goes s x xs all in
    ap (λ b. if b then x ∷ carried (next s x) (xs ++ ys) else []) g.first ∙ ap (λ es. x ∷ es) (carried-append (next s x) xs ys g.rest)

pub stop_of-append : (s : State) (xs ys : List Event) → carried s xs ≡ xs → stop_of s (xs ++ ys) ≡ stop_of (end_of s xs) ys
stop_of-append s [] ys all = refl
stop_of-append s (x ∷ xs) ys all =
    let g = goes s x xs all in
    ap (λ b. if b then stop_of (next s x) (xs ++ ys) else Some (answer s x)) g.first ∙ stop_of-append (next s x) xs ys g.rest

-- where all is carried out, nothing stops it
pub stop_of-none : (s : State) (xs : List Event) → carried s xs ≡ xs → stop_of s xs ≡ None
stop_of-none s [] all = refl
stop_of-none s (x ∷ xs) all =
    let g = goes s x xs all in
    ap (λ b. if b then stop_of (next s x) xs else Some (answer s x)) g.first ∙ stop_of-none (next s x) xs g.rest

-- the first event of a run stops it
pub carried-first : (s : State) (e : Event) (events : List Event) → completes (answer s e) ≡ false → carried s (e ∷ events) ≡ []
carried-first s e events stops = ap (λ b. if b then e ∷ carried (next s e) events else []) stops

pub stop_of-first : (s : State) (e : Event) (events : List Event) → completes (answer s e) ≡ false → stop_of s (e ∷ events) ≡ Some (answer s e)
stop_of-first s e events stops = ap (λ b. if b then stop_of (next s e) events else Some (answer s e)) stops

-- ---- Loads and stores in a row

pub loads-append : (p a k m : ℕ) → loads p a (k + m) ≡ loads p a k ++ loads p (a + k) m
loads-append p a zero m = grind arith
loads-append p a (suc k) m =
    let n : suc k + m ≡ suc (k + m) = omega arith in
    let e : a + 1 + k ≡ a + suc k = omega arith in
    ap (loads p a) n ∙ ap (λ es. load_byte p a ∷ es) (loads-append p (a + 1) k m ∙ ap (λ x. loads p (a + 1) k ++ loads p x m) e)

pub length-loads : (p a n : ℕ) → length (loads p a n) ≡ n
length-loads p a zero = refl
length-loads p a (suc n) = ap suc (length-loads p (a + 1) n)

pub stores-append : (p a : ℕ) (xs ys : List ℕ) → stores p a (xs ++ ys) ≡ stores p a xs ++ stores p (a + length xs) ys
stores-append p a [] ys = let e : a ≡ a + 0 = omega arith in ap (λ x. stores p x ys) e
stores-append p a (x ∷ xs) ys = grind (arith, (stores-append p (a + 1) xs ys))

pub length-stores : (p a : ℕ) (xs : List ℕ) → length (stores p a xs) ≡ length xs
length-stores p a [] = refl
length-stores p a (x ∷ xs) = ap suc (length-stores p (a + 1) xs)

-- ---- One more byte, and one part more

values-append : (xs ys : List Reply) → values (xs ++ ys) ≡ values xs ++ values ys
values-append [] ys = refl
values-append (x ∷ xs) ys = ap (λ vs. value_in x ∷ vs) (values-append xs ys)

pub loaded-none : (s : State) (p a : ℕ) → AreLoaded s p a 0 [] s
loaded-none s p a = record { all = refl; told = refl; after = refl }

pub loaded-first : (s t u : State) (p a k v : ℕ) (bytes : List ℕ) → answer s (load_byte p a) ≡ reply.Value v → next s (load_byte p a) ≡ t
    → AreLoaded t p (a + 1) k bytes u → AreLoaded s p a (suc k) (v ∷ bytes) u
loaded-first s t u p a k v bytes told moved rest = grind arith

pub loaded-then : (s t u : State) (p a k m : ℕ) (xs ys : List ℕ) → AreLoaded s p a k xs t → AreLoaded t p (a + k) m ys u → AreLoaded s p a (k + m) (xs ++ ys) u
loaded-then s t u p a k m xs ys first rest =
    grind (arith, loads-append, carried-append, answers-append, values-append, end_of-append)

pub stored-none : (s : State) (p a : ℕ) → AreStored s p a [] s
stored-none s p a = record { all = refl; after = refl }

pub stored-first : (s t u : State) (p a b : ℕ) (bytes : List ℕ) → answer s (store_byte p a b) ≡ reply.Done → next s (store_byte p a b) ≡ t
    → AreStored t p (a + 1) bytes u → AreStored s p a (b ∷ bytes) u
stored-first s t u p a b bytes done moved rest = grind arith

pub stored-then : (s t u : State) (p a : ℕ) (xs ys : List ℕ) → AreStored s p a xs t → AreStored t p (a + length xs) ys u → AreStored s p a (xs ++ ys) u
stored-then s t u p a xs ys first rest = grind (arith, stores-append, carried-append, end_of-append)

-- ---- What a transfer tells at its end

-- so many of some loads are carried out, and this stops the rest
read_by : (s t : State) (p a done : ℕ) (old new : List ℕ) (stop : Option Reply) → AreLoaded s p a done (take done new) t → drop done new ≡ drop done old → take done new ++ drop done new ≡ new
    → carried s (loads p a (length old)) ≡ loads p a done → stop ≡ stop_of s (loads p a (length old)) → Reads s p a old new (record { count = done; stop = stop }) t
read_by s t p a done old new stop loaded rest whole here stops = grind (arith, length-loads)

pub read_whole : (s t : State) (p a done : ℕ) (old new : List ℕ) → AreLoaded s p a done (take done new) t → drop done new ≡ drop done old → done ≡ length old → Reads s p a old new (record { count = done; stop = None }) t
read_whole s t p a done old new loaded rest is =
    read_by s t p a done old new None loaded rest (take-append-drop done new)
    (ap (λ n. carried s (loads p a n)) (sym is) ∙ loaded.all)
    (sym (ap (λ n. stop_of s (loads p a n)) (sym is) ∙ stop_of-none s (loads p a done) loaded.all))

pub read_stopped : (s t : State) (p a done : ℕ) (old new : List ℕ) (r : Reply) → AreLoaded s p a done (take done new) t → drop done new ≡ drop done old → done < length old
    → r ≡ answer t (load_byte p (a + done)) → completes r ≡ false → Reads s p a old new (record { count = done; stop = Some r }) t
read_stopped s t p a done old new r loaded rest less told stops =
    let m : ℕ = length old - suc done in
    let e : Event = load_byte p (a + done) in
    let more : List Event = loads p (a + done + 1) m in
    let size : length old ≡ done + suc m = omega (arith, less) in
    let split : loads p a (length old) ≡ loads p a done ++ (e ∷ more) = ap (loads p a) size ∙ loads-append p a done (suc m) in
    let fails : completes (answer t e) ≡ false = sym (ap completes told) ∙ stops in
    read_by s t p a done old new (Some r) loaded rest (take-append-drop done new)
    (ap (carried s) split ∙ carried-append s (loads p a done) (e ∷ more) loaded.all ∙ ap (λ x. loads p a done ++ carried x (e ∷ more)) loaded.after
    ∙ ap (λ es. loads p a done ++ es) (carried-first t e more fails) ∙ append-nil (loads p a done))
    (ap Some told ∙ sym (ap (stop_of s) split ∙ stop_of-append s (loads p a done) (e ∷ more) loaded.all ∙ ap (λ x. stop_of x (e ∷ more)) loaded.after ∙ stop_of-first t e more fails))

take_all : (xs : List ℕ) → take (length xs) xs ≡ xs
take_all [] = refl
take_all (x ∷ xs) = ap (λ ys. x ∷ ys) (take_all xs)

pub written_whole : (s t : State) (p a done : ℕ) (bytes : List ℕ) → AreStored s p a (take done bytes) t → done ≡ length bytes → Writes s p a bytes (record { count = done; stop = None }) t
written_whole s t p a done bytes stored is = grind (arith, take_all, length-stores, stop_of-none)

-- the first byte of what is left
record Left (bytes : List ℕ) (done count : ℕ) : Type 0 where
  more : List ℕ
  is : drop done bytes ≡ slice_index (take count (drop done bytes)) 0 ∷ more

left_of : (bytes : List ℕ) (done count : ℕ) → done < length bytes → 0 < count → Left bytes done count
left_of bytes done zero less some = absurd (omega (arith, some))
left_of bytes done (suc n) less some = by (drop done bytes) refl
  where
    by : (xs : List ℕ) → drop done bytes ≡ xs → Left bytes done (suc n)
    by [] is = let none : length (drop done bytes) ≡ 0 = ap length is in let size = length-drop done bytes in absurd (omega (arith, none, size, less))
    by (x ∷ xs) is = record { more = xs; is = is ∙ ap (λ ys. slice_index (take (suc n) ys) 0 ∷ xs) (sym is) }

pub written_stopped : (s t : State) (p a done count : ℕ) (bytes : List ℕ) (r : Reply) → AreStored s p a (take done bytes) t → done < length bytes → 0 < count
    → r ≡ answer t (store_byte p (a + done) (slice_index (take count (drop done bytes)) 0)) → completes r ≡ false → Writes s p a bytes (record { count = done; stop = Some r }) t
written_stopped s t p a done count bytes r stored less some told stops =
    let b : ℕ = slice_index (take count (drop done bytes)) 0 in
    let l = left_of bytes done count less some in
    let e : Event = store_byte p (a + done) b in
    let xs : List ℕ = take done bytes in
    let size : length xs ≡ done = length-take-le done bytes (omega (arith, less)) in
    let more : List Event = stores p (a + done + 1) l.more in
    let split : stores p a bytes ≡ stores p a xs ++ (e ∷ more) =
    ap (stores p a) (sym (take-append-drop done bytes)) ∙ stores-append p a xs (drop done bytes)
    ∙ ap (λ n. stores p a xs ++ stores p (a + n) (drop done bytes)) size ∙ ap (λ ys. stores p a xs ++ stores p (a + done) ys) l.is in
    let fails : completes (answer t e) ≡ false = sym (ap completes told) ∙ stops in
    let here : carried s (stores p a bytes) ≡ stores p a xs =
    ap (carried s) split ∙ carried-append s (stores p a xs) (e ∷ more) stored.all ∙ ap (λ x. stores p a xs ++ carried x (e ∷ more)) stored.after
    ∙ ap (λ es. stores p a xs ++ es) (carried-first t e more fails) ∙ append-nil (stores p a xs) in
    grind (arith, length-stores, stop_of-append, stop_of-first)

-- ---- A part more of a list

pub take_more : (xs : List ℕ) (done count : ℕ) → take (done + count) xs ≡ take done xs ++ take count (drop done xs)
take_more xs zero count = let n : 0 + count ≡ count = omega arith in ap (λ k. take k xs) n
take_more [] (suc done) count = nothing (suc done + count) ∙ sym (nothing count)
  where
    nothing : (k : ℕ) → take {A = ℕ} k [] ≡ []
    nothing k = grind arith
take_more (x ∷ xs) (suc done) count = let n : suc done + count ≡ suc (done + count) = omega arith in ap (λ k. take k (x ∷ xs)) n ∙ ap (λ ys. x ∷ ys) (take_more xs done count)

-- a list with a part of it replaced
module _ (xs part : List ℕ) (done count k : ℕ) (same : k ≡ count) (size : length part ≡ count) (fits : done + count ≤ length xs) where
  before : length (take done xs) ≡ done
  before = length-take-le done xs (omega (arith, fits))

  whole : length (take done xs ++ part) ≡ done + count
  whole = let a = before in length-append (take done xs) part ∙ (λ i. a i + size i)

  split : put_mid done k xs part ≡ (take done xs ++ part) ++ drop (done + count) xs
  split = ap (λ ys. take done xs ++ (part ++ ys)) (ap (λ n. drop n (drop done xs)) same ∙ drop-drop count done xs) ∙ sym (append_assoc (take done xs) part (drop (done + count) xs))

  -- its bytes up to that part's end
  pub mid_take : take (done + count) (put_mid done k xs part) ≡ take done xs ++ part
  mid_take = ap (take (done + count)) split ∙ take_at (take done xs ++ part) (drop (done + count) xs) (done + count) whole

  -- and behind it
  pub mid_drop : drop (done + count) (put_mid done k xs part) ≡ drop (done + count) xs
  mid_drop = ap (drop (done + count)) split ∙ drop_at (take done xs ++ part) (drop (done + count) xs) (done + count) whole

  pub mid_long : length (put_mid done k xs part) ≡ length xs
  mid_long = grind (arith, split, length-append, whole, length-drop)

-- a list with a part replaced by itself
pub mid_same : (xs part : List ℕ) (done k : ℕ) → part ≡ take k (drop done xs) → put_mid done k xs part ≡ xs
mid_same xs part done k is = ap (λ ys. take done xs ++ (ys ++ drop k (drop done xs))) is ∙ ap (λ ys. take done xs ++ ys) (take-append-drop k (drop done xs)) ∙ take-append-drop done xs

-- ---- A part more of a transfer

pub record ReadOn (s u : State) (p a done count k : ℕ) (old out part : List ℕ) : Type 0 where
  pub loaded : AreLoaded s p a (done + count) (take (done + count) (put_mid done k out part)) u
  pub rest : drop (done + count) (put_mid done k out part) ≡ drop (done + count) old
  pub long : length (put_mid done k out part) ≡ length out

pub read_on : (s t u : State) (p a at done count k : ℕ) (old out part : List ℕ) → at ≡ a + done → done + count ≤ length out → k ≡ count → length part ≡ length (take k (drop done out))
    → AreLoaded s p a done (take done out) t → drop done out ≡ drop done old → AreLoaded t p at (length (take k (drop done out))) part u → ReadOn s u p a done count k old out part
read_on s t u p a at done count k old out part place fits same long loaded rest more =
    let few : length (take k (drop done out)) ≡ count = let b = length-drop done out in length-take-le k (drop done out) (omega (arith, b, same, fits)) ∙ same in
    let size : length part ≡ count = long ∙ few in
    record {
      loaded = subst (λ (xs : List ℕ). AreLoaded s p a (done + count) xs u) (sym (mid_take out part done count k same size fits))
          (loaded-then s t u p a done count (take done out) part loaded
          (subst (λ n. AreLoaded t p n count part u) place (subst (λ n. AreLoaded t p at n part u) few more)));
      rest = mid_drop out part done count k same size fits ∙ sym (drop-drop count done out) ∙ ap (drop count) rest ∙ drop-drop count done old;
      long = mid_long out part done count k same size fits;
    }

pub written_on : (s t u : State) (p a at done count k : ℕ) (bytes : List ℕ) → at ≡ a + done → done + count ≤ length bytes → k ≡ count
    → AreStored s p a (take done bytes) t → AreStored t p at (take k (drop done bytes)) u → AreStored s p a (take (done + count) bytes) u
written_on s t u p a at done count k bytes place fits same stored more =
    let long : length (take done bytes) ≡ done = length-take-le done bytes (omega (arith, fits)) in
    subst (λ (xs : List ℕ). AreStored s p a xs u) (sym (take_more bytes done count))
    (stored-then s t u p a (take done bytes) (take count (drop done bytes)) stored
    (subst (λ n. AreStored t p n (take count (drop done bytes)) u) (place ∙ ap (λ n. a + n) (sym long)) (subst (λ n. AreStored t p at (take n (drop done bytes)) u) same more)))
