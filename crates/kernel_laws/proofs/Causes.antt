-- The first cause that applies to a call, and the first byte of an access that faults.
use Rattle.kernel_laws.proofs.Prelude.{◌≡◌, ℕ, zero, suc, ◌+◌, ◌<◌, ◌≤◌, ◌++◌, ◌==◌, ◌&&◌, Bool, true, false, not, List, [], ◌∷◌, refl, sym, ap, subst, ◌∙◌, Option, Some, None, is_some, is_none, unwrap_or, arith, inl, inr, nat_lt, nat_le, ◌⊎◌, ◌↔◌, if◌then◌else◌, IfSome, All, range_with_len, option_map, not-false, ltb-true, leb-true, lt-ltb, le-leb, cases_eq, cases_lt, eqb-true, eq-eqb, same_Some, All-nil, All-cons, All-tail, covered, page_number, second_page, is_user_page, IsUserPage, Size, Slot, Cell, cell_or_fresh, fresh, cost, at_page, slot_at, Book, given, quota_of, next_number, number_of_children, pending, Access, Read, Write, error_code, State, is_live, is_mapped, room, child_of, loaded, Cause, page_is_user, user_page, outside, is_read_only, read_only, fault_or, step_of, Flags, flags_of, flags_at, IsCovered, answer, completes, refused_or, planned_or, info_of, Call, Event, Reply, drop, find, PageStep, own_page, asks_to_write, target_of, key_of, frames_asked, causes_of, Applies, IsOutside, IsReadOnly, IsLowest, Faults, CompletesUnless, RefusedByTheFirst, FaultsAtTheFirstByte, none_in}
use Rattle.page_words.specs.FiniteMap as map
use Rattle.process_table.specs.declared.causes.Cause.TheVariants as cause
use Rattle.fault_handler.specs.declared.plans.Plan.TheVariants as plan
use Rattle.kernel_calls.specs.declared.calls.Call.TheVariants as call
use Rattle.kernel_calls.specs.declared.calls.Reply.TheVariants as reply

-- ---- The first of some tests that is true

-- a test, and the cause that it is of
record Test : Type 0 where
  holds : Bool
  names : Cause

abbrev test : Bool → Cause → Test
test b c = record { holds = b; names = c }

abbrev first_of : List Test → Option Cause
first_of [] = None
first_of (t ∷ ts) = if t.holds then Some t.names else first_of ts

abbrev names_in : List Test → List Cause
names_in [] = []
names_in (t ∷ ts) = t.names ∷ names_in ts

record FirstIn (P : Cause → Type 0) (cs : List Cause) (c : Cause) : Type 0 where
  before : List Cause
  after : List Cause
  order : cs ≡ before ++ c ∷ after
  applies : P c
  none : All (λ other. P other → ⊥) before

record And (A B : Type 0) : Type 0 where
  first : A
  rest : B

and : {A B : Type 0} → A → B → And A B
and a b = record { first = a; rest = b }

-- each test tells whether its cause applies
abbrev Agree : (Cause → Type 0) → List Test → Type 0
Agree P [] = Unit {0}
Agree P (t ∷ ts) = And ((t.holds ≡ true) ↔ P t.names) (Agree P ts)

-- a test, and that it is true exactly if this holds
abbrev Told : Type 0 → Type 0
Told P = (holds : Bool) × ((holds ≡ true) ↔ P)

module _ (P : Cause → Type 0) (told : (c : Cause) → Told (P c)) where
  abbrev tests_of : List Cause → List Test
  tests_of [] = []
  tests_of (c ∷ cs) = test (told c).0 c ∷ tests_of cs

  names_of : (cs : List Cause) → names_in (tests_of cs) ≡ cs
  names_of [] = refl
  names_of (c ∷ cs) = ap (λ xs. c ∷ xs) (names_of cs)

  agree : (cs : List Cause) → Agree P (tests_of cs)
  agree [] = tt
  agree (c ∷ cs) = and (told c).1 (agree cs)

module _ (P : Cause → Type 0) where
  abbrev Fails : Cause → Type 0
  Fails c = P c → ⊥

  none_first : (ts : List Test) → Agree P ts → first_of ts ≡ None → All Fails (names_in ts)
  none_first [] a h = All-nil Fails
  none_first (t ∷ ts) a h = by t.holds refl h (none_first ts a.rest)
    where
      by : (b : Bool) → t.holds ≡ b → (if b then Some t.names else first_of ts) ≡ None → (first_of ts ≡ None → All Fails (names_in ts)) → All Fails (t.names ∷ names_in ts)
      by b is k later = grind arith

  no_first : (ts : List Test) → Agree P ts → All Fails (names_in ts) → first_of ts ≡ None
  no_first [] a h = refl
  no_first (t ∷ ts) a h = by t.holds refl (no_first ts a.rest (All-tail Fails t.names (names_in ts) h))
    where
      by : (b : Bool) → t.holds ≡ b → first_of ts ≡ None → (if b then Some t.names else first_of ts) ≡ None
      by b is later = grind arith

  some_first : (ts : List Test) (c : Cause) → Agree P ts → first_of ts ≡ Some c → FirstIn P (names_in ts) c
  some_first [] c a h = cc
  some_first (t ∷ ts) c a h = by t.holds refl h (some_first ts c a.rest)
    where
      by : (b : Bool) → t.holds ≡ b → (if b then Some t.names else first_of ts) ≡ Some c → (first_of ts ≡ Some c → FirstIn P (names_in ts) c) → FirstIn P (t.names ∷ names_in ts) c
      by true is k later = let e = same_Some t.names c k in record {
        before = [];
        after = names_in ts;
        order = ap (λ x. x ∷ names_in ts) e;
        applies = subst P e (a.first.0 is);
        none = All-nil Fails;
      }
      by false is k later = let r = later k in record {
        before = t.names ∷ r.before;
        after = r.after;
        order = ap (λ xs. t.names ∷ xs) r.order;
        applies = r.applies;
        none = All-cons Fails t.names r.before (λ p. let x = a.first.1 p in cc) r.none;
      }

-- ---- Calls that are no accesses

-- what is to be shown of each event
record Settled (s : State) (e : Event) : Type 0 where
  completes : (completes (answer s e) ≡ true)
      ↔ (All (λ c. Applies s e.pid e.call c → ⊥) (causes_of e.call) × ((byte code : ℕ) → Faults s e.pid e.call byte code → ⊥))
  refused : (c : Cause) → answer s e ≡ reply.Refused c → FirstIn (Applies s e.pid e.call) (causes_of e.call) c
  faults : (byte code : ℕ) → (answer s e ≡ reply.Fault byte code)
      ↔ ((is_live s e.pid ≡ true) × Faults s e.pid e.call byte code)

module _ (s : State) (e : Event) (ts : List Test) (r : Reply)
    (is : answer s e ≡ refused_or (first_of ts) r) (good : completes r ≡ true)
    (agree : Agree (Applies s e.pid e.call) ts) (all : names_in ts ≡ causes_of e.call)
    (never : (byte code : ℕ) → Faults s e.pid e.call byte code → ⊥) where
  abbrev P : Cause → Type 0
  P c = Applies s e.pid e.call c

  went : (x : Option Cause) → completes (refused_or x r) ≡ true → x ≡ None
  went x h = grind arith

  goes : (x : Option Cause) → x ≡ None → completes (refused_or x r) ≡ true
  goes x h = grind arith

  stops : (x : Option Cause) (c : Cause) → refused_or x r ≡ reply.Refused c → x ≡ Some c
  stops x c h = grind arith

  no_fault : (x : Option Cause) (byte code : ℕ) → refused_or x r ≡ reply.Fault byte code → ⊥
  no_fault x byte code h = grind arith

  settled : Settled s e
  settled = record {
    completes = grind (arith, none_first, went, goes, no_first);
    refused = λ c h. subst (λ cs. FirstIn P cs c) all (some_first P ts c agree (stops (first_of ts) c (sym is ∙ h)));
    faults = λ byte code. (λ h. absurd (no_fault (first_of ts) byte code (sym is ∙ h)), λ h. absurd (never byte code h.1));
  }

-- ---- What each test tells

-- a test turned round
turned : (b : Bool) → (not b ≡ true) ↔ (b ≡ false)
turned b = grind arith

itself : (b : Bool) → (b ≡ true) ↔ (b ≡ true)
itself b = (λ h. h, λ h. h)

outside_user : (page : ℕ) → (not (is_user_page page) ≡ true) ↔ (IsUserPage page → ⊥)
outside_user page = grind (arith, page_is_user, turned, user_page)

less : (a b : ℕ) → (nat_lt a b ≡ true) ↔ (a < b)
less a b = (ltb-true a b, lt-ltb a b)

at_least : (a b : ℕ) → (nat_le a b ≡ true) ↔ (a ≤ b)
at_least a b = (leb-true a b, le-leb a b)

same_number : (a b : ℕ) → (a == b ≡ true) ↔ (a ≡ b)
same_number a b = (eqb-true a b, eq-eqb a b)

same_target : (a b : ℕ) → (a == b ≡ true) ↔ (Some a ≡ Some b)
same_target a b = (λ h. ap Some (eqb-true a b h), λ h. eq-eqb a b (same_Some a b h))

-- a page is mapped without a right; one that is not mapped would get all
withheld : (s : State) (slot : Slot) (write : Bool)
    → (write && not (cell_or_fresh s.spaces slot).may ≡ true)
    ↔ ((write ≡ true) × ((f : Flags) × (flags_at s slot ≡ Some f) × (f.may ≡ false)))
withheld s slot false = (λ h. cc, λ h. let a = h.0 in cc)
withheld s slot true = by (map.get s.spaces slot)
  where
    by : (x : Option Cell) → (not (unwrap_or x (fresh slot true)).may ≡ true)
        ↔ ((true ≡ true) × ((f : Flags) × (option_map flags_of x ≡ Some f) × (f.may ≡ false)))
    by None = (λ h. cc, λ h. let a = h.1.1 in cc)
    by (Some c) = (
      λ h. (refl, (flags_of c, refl, (turned c.may).0 h)),
      λ h. let f = h.1 in let same = same_Some (flags_of c) f.0 f.1 in (turned c.may).1 (ap (λ (g : Flags). g.may) same ∙ f.2),
    )

record Found (t : ℕ → Bool) (a n k : ℕ) : Type 0 where
  low : a ≤ k
  high : k < a + n
  passes : t k ≡ true
  first : (j : ℕ) → a ≤ j → j < k → t j ≡ false

found_number : (t : ℕ → Bool) (a n k : ℕ) → find t (range_with_len a n) ≡ Some k → Found t a n k
found_number t a zero k h = cc
found_number t a (suc n) k h = by (t a) refl h (found_number t (a + 1) n k)
  where
    by : (b : Bool) → t a ≡ b → (if b then Some a else find t (range_with_len (a + 1) n)) ≡ Some k
        → (find t (range_with_len (a + 1) n) ≡ Some k → Found t (a + 1) n k) → Found t a (suc n) k
    by b is some later = grind (arith, same_Some, cases_eq)

no_number : (book : Book) → (is_none (next_number book) ≡ true) ↔ ((k : ℕ) → k < 64 → map.contains_key book k ≡ true)
no_number book = by (next_number book) refl
  where
    free : ℕ → Bool
    free k = not (map.contains_key book k)

    by : (x : Option ℕ) → next_number book ≡ x → (is_none x ≡ true) ↔ ((k : ℕ) → k < 64 → map.contains_key book k ≡ true)
    by None is = (λ _ k low. not-false (map.contains_key book k) (none_in free 0 64 is k (omega arith) (omega (arith, low))), λ _. refl)
    by (Some k) is = grind (arith, found_number, free)

-- ---- Whether a cause applies

-- a test of a value, if there is one
abbrev there : {A : Type 0} (Q : A → Type 0) → ((a : A) → Told (Q a)) → (x : Option A) → Told (IfSome x Q)
there Q told None = (true, (λ h. tt, λ h. refl))
there Q told (Some a) = told a

module _ (s : State) (p : ℕ) (c : Call) where
  -- a right is requested that the page lacks
  abbrev lacks : (asks : Bool) (x : Option ℕ) → Told ((asks ≡ true)
      × IfSome x (λ page. (f : Flags) × (flags_at s (at_page p page) ≡ Some f) × (f.may ≡ false)))
  lacks asks None = (asks, (λ h. (h, tt), λ h. h.0))
  lacks asks (Some page) = (_, withheld s (at_page p page) asks)

  nobody : (false ≡ true) ↔ (None ≡ Some p)
  nobody = (λ h. cc, λ h. cc)

  abbrev offers_itself : (x : Option ℕ) → Told (x ≡ Some p)
  offers_itself None = (false, nobody)
  offers_itself (Some target) = (_, same_target target p)

  -- for each cause, a test of whether it applies
  abbrev judged : (k : Cause) → Told (Applies s p c k)
  judged cause.NoProcess = (_, turned (is_live s p))
  judged cause.BadPage = there _ (λ page. (_, outside_user page)) (own_page c)
  judged cause.NotMapped = there _ (λ page. (_, turned (is_mapped s (at_page p page)))) (own_page c)
  judged cause.Mapped = there _ (λ page. (_, itself (is_mapped s (at_page p page)))) (own_page c)
  judged cause.Quota = (_, less (room s p) (frames_asked s p c))
  judged cause.Rights = lacks (asks_to_write c) (own_page c)
  judged cause.SelfOffer = offers_itself (target_of c)
  judged cause.NoTarget = there _ (λ target. (_, turned (is_live s target))) (target_of c)
  judged cause.OfferPending = there _ (λ key. (_, itself (map.contains_key s.offers key))) (key_of p c)
  judged cause.TooManyOffers = (_, at_least 32 (map.len (pending s.offers p)))
  judged cause.NoOffer = there _ (λ key. (_, turned (map.contains_key s.offers key))) (key_of p c)
  judged cause.TableFull = (_, no_number s.book)
  judged cause.BadQuota = (_, same_number (frames_asked s p c) 0)
  judged cause.HasChildren = (_, less 0 (number_of_children s.book p))
  judged cause.RootExit = (_, same_number p 0)
  judged cause.TooSmall = (_, less (frames_asked s p c) (cost s.spaces p))

-- ---- Each call

-- the reply where none applies
abbrev granted : State → ℕ → Call → Reply
granted s p (call.Info page) = info_of (cell_or_fresh s.spaces (at_page p page))
granted s p (call.Spawn quota) = reply.Child (child_of s)
granted s p (call.Fork quota) = reply.Child (child_of s)
granted s p call.Quota = reply.Quota (quota_of s.book p) (cost s.spaces p) (given s.book p)
granted s p _ = reply.Done

refused_as : (live : Bool) (x : Option Cause) (r : Reply) → (if live then refused_or x r else reply.Refused cause.NoProcess)
    ≡ refused_or (if not live then Some cause.NoProcess else x) r
refused_as live x r = grind arith

abbrev event_of : ℕ → ℕ → Call → Event
event_of cpu p c = record { cpu = cpu; pid = p; call = c }

-- ---- Accesses

module _ (access : Access) (first : PageStep) (second : Option PageStep) (r : Reply) (good : completes r ≡ true) where
  abbrev told : Bool → Option ℕ → Option ℕ → Bool → Reply
  told l o f q = if l then planned_or (fault_or o access false (fault_or f access true (if q then plan.Refused cause.Quota else plan.Ready first second))) r
      else reply.Refused cause.NoProcess

  record Outcome (l : Bool) (o f : Option ℕ) (q : Bool) : Type 0 where
    completes : (completes (told l o f q) ≡ true) ↔ ((l ≡ true) × (o ≡ None) × (f ≡ None) × (q ≡ false))
    refused : (c : Cause) → told l o f q ≡ reply.Refused c → ((l ≡ false) × (c ≡ cause.NoProcess)) ⊎ ((l ≡ true) × (q ≡ true) × (c ≡ cause.Quota))
    faults : (byte code : ℕ) → (told l o f q ≡ reply.Fault byte code)
        ↔ ((l ≡ true) × (((o ≡ Some byte) × (code ≡ error_code access false)) ⊎ ((o ≡ None) × (f ≡ Some byte) × (code ≡ error_code access true))))

  outcome : (l : Bool) (o f : Option ℕ) (q : Bool) → Outcome l o f q
  outcome l o f q = grind (arith, same_Some)

-- the first byte that a test finds is the first for which what it tells holds
module _ (t : ℕ → Bool) (Q : ℕ → Type 0) (tells : (a : ℕ) → (t a ≡ true) ↔ Q a) (address : ℕ) (size : Size) where
  first_is : (byte : ℕ) → find t (covered address size) ≡ Some byte → IsLowest address size Q byte
  first_is byte h = grind (arith, found_number, cases_lt)

  is_first : (byte : ℕ) → IsLowest address size Q byte → find t (covered address size) ≡ Some byte
  is_first byte h = grind (arith, none_in, found_number, cases_lt)

-- a slot is mapped without the right to write
read_only_at : (s : State) (slot : Slot) → (is_read_only s slot ≡ true) ↔ ((f : Flags) × (flags_at s slot ≡ Some f) × (f.write ≡ false))
read_only_at s slot = by (map.get s.spaces slot)
  where
    by : (x : Option Cell) → (is_some x && not (unwrap_or x (fresh slot true)).write ≡ true)
        ↔ ((f : Flags) × (option_map flags_of x ≡ Some f) × (f.write ≡ false))
    by None = (λ h. cc, λ h. let a = h.1 in cc)
    by (Some c) = (
      λ h. (flags_of c, refl, (turned c.write).0 h),
      λ h. let same = same_Some (flags_of c) h.0 h.1 in (turned c.write).1 (ap (λ (g : Flags). g.write) same ∙ h.2),
    )

module _ (address : ℕ) (size : Size) where
  abbrev is_outside : ℕ → Bool
  is_outside byte = not (is_user_page (page_number byte))

  abbrev AllInside : Type 0
  AllInside = (other : ℕ) → IsCovered address size other → IsUserPage (page_number other)

  outside_tells : (byte : ℕ) → (is_outside byte ≡ true) ↔ IsOutside byte
  outside_tells byte = outside_user (page_number byte)

  all_inside : outside address size ≡ None → AllInside
  all_inside none other inside = grind (arith, user_page, not-false, none_in)

  none_outside : AllInside → outside address size ≡ None
  none_outside all = grind (arith, found_number, outside_tells)

-- what is to be shown of an access
module _ (s : State) (e : Event) (access : Access) (o f : Option ℕ) (r : Reply) (good : completes r ≡ true)
    (first : PageStep) (second : Option PageStep)
    (is : answer s e ≡ told access first second r good (is_live s e.pid) o f (nat_lt (room s e.pid) (frames_asked s e.pid e.call)))
    (all : causes_of e.call ≡ cause.NoProcess ∷ cause.Quota ∷ [])
    (faulting : (byte code : ℕ) → Faults s e.pid e.call byte code
    ↔ (((o ≡ Some byte) × (code ≡ error_code access false)) ⊎ ((o ≡ None) × (f ≡ Some byte) × (code ≡ error_code access true)))) where
  abbrev l : Bool
  l = is_live s e.pid

  abbrev q : Bool
  q = nat_lt (room s e.pid) (frames_asked s e.pid e.call)

  abbrev A : Cause → Type 0
  A c = Applies s e.pid e.call c

  out : Outcome access first second r good l o f q
  out = outcome access first second r good l o f q

  asks_more : (q ≡ true) ↔ A cause.Quota
  asks_more = less (room s e.pid) (frames_asked s e.pid e.call)

  abbrev Clear : Type 0
  Clear = All (λ c. A c → ⊥) (cause.NoProcess ∷ cause.Quota ∷ [])

  clear : l ≡ true → q ≡ false → Clear
  clear live enough = grind (arith, asks_more)

  goes_on : (o ≡ None) × (f ≡ None) → (byte code : ℕ) → Faults s e.pid e.call byte code → ⊥
  goes_on none byte code h = grind arith

  no_byte : ((byte code : ℕ) → Faults s e.pid e.call byte code → ⊥) → (o ≡ None) × (f ≡ None)
  no_byte never = by o refl f refl
    where
      by : (x : Option ℕ) → o ≡ x → (y : Option ℕ) → f ≡ y → (x ≡ None) × (y ≡ None)
      by (Some a) i y j = absurd (never a (error_code access false) ((faulting a (error_code access false)).1 (inl (i, refl))))
      by None i (Some a) j = absurd (never a (error_code access true) ((faulting a (error_code access true)).1 (inr (i, j, refl))))
      by None i None j = (refl, refl)

  live_by : Clear → l ≡ true
  live_by clear = grind arith

  room_by : Clear → q ≡ false
  room_by clear = grind (arith, asks_more)

  settled_access : Settled s e
  settled_access = record {
    completes = (
      λ h. let k = out.completes.0 (sym (ap completes is) ∙ h) in (subst (All (λ c. A c → ⊥)) (sym all) (clear k.0 k.3), goes_on (k.1, k.2)),
      λ h. let clear = subst (All (λ c. A c → ⊥)) all h.0 in let none = no_byte h.1 in
          ap completes is ∙ out.completes.1 (live_by clear, none.0, none.1, room_by clear),
    );
    refused = λ c h. elim (out.refused c (sym is ∙ h)) [
      | inl k ↦ record {
        before = [];
        after = cause.Quota ∷ [];
        order = all ∙ ap (λ x. x ∷ cause.Quota ∷ []) (sym k.1);
        applies = subst A (sym k.1) k.0;
        none = All-nil (λ c. A c → ⊥);
      }
      | inr k ↦ record {
        before = cause.NoProcess ∷ [];
        after = [];
        order = all ∙ ap (λ x. cause.NoProcess ∷ x ∷ []) (sym k.2);
        applies = subst A (sym k.2) (asks_more.0 k.1);
        none = All-cons (λ c. A c → ⊥) cause.NoProcess [] (λ dead. let a = k.0 in cc) (All-nil (λ c. A c → ⊥));
      }
    ];
    faults = λ byte code. (
      λ h. let k = (out.faults byte code).0 (sym is ∙ h) in (k.0, (faulting byte code).1 k.1),
      λ h. is ∙ (out.faults byte code).1 (h.0, (faulting byte code).0 h.1),
    );
  }

-- ---- All calls

-- the byte of an access that may not be read or written, by what the two tests find
module _ (s : State) (p address : ℕ) (size : Size) where
  load_faults : (byte code : ℕ) → (IsLowest address size IsOutside byte × (code ≡ 4))
      ↔ (((outside address size ≡ Some byte) × (code ≡ 4)) ⊎ ((outside address size ≡ None) × (None ≡ Some byte) × (code ≡ 5)))
  load_faults byte code = (
    λ h. inl (is_first (is_outside address size) IsOutside (outside_tells address size) address size byte h.0, h.1),
    λ h. elim h [
      | inl k ↦ (first_is (is_outside address size) IsOutside (outside_tells address size) address size byte k.0, k.1)
      | inr k ↦ (let a = k.1 in cc)
    ],
  )

  abbrev is_barred : ℕ → Bool
  is_barred byte = is_read_only s (slot_at p byte)

  barred_tells : (byte : ℕ) → (is_barred byte ≡ true) ↔ IsReadOnly s p byte
  barred_tells byte = read_only_at s (slot_at p byte)

  abbrev StoreFaults : ℕ → ℕ → Type 0
  StoreFaults byte code = (IsLowest address size IsOutside byte × (code ≡ 6))
      ⊎ (((other : ℕ) → IsCovered address size other → IsUserPage (page_number other))
      × IsLowest address size (IsReadOnly s p) byte × (code ≡ 7))

  store_faults : (byte code : ℕ) → StoreFaults byte code
      ↔ (((outside address size ≡ Some byte) × (code ≡ 6)) ⊎ ((outside address size ≡ None) × (read_only s p address size ≡ Some byte) × (code ≡ 7)))
  store_faults byte code = (to, fro)
    where
      to : StoreFaults byte code
          → ((outside address size ≡ Some byte) × (code ≡ 6)) ⊎ ((outside address size ≡ None) × (read_only s p address size ≡ Some byte) × (code ≡ 7))
      to h = elim h [
        | inl k ↦ inl (is_first (is_outside address size) IsOutside (outside_tells address size) address size byte k.0, k.1)
        | inr k ↦ inr (none_outside address size k.0, is_first is_barred (IsReadOnly s p) barred_tells address size byte k.1, k.2)
      ]

      fro : ((outside address size ≡ Some byte) × (code ≡ 6)) ⊎ ((outside address size ≡ None) × (read_only s p address size ≡ Some byte) × (code ≡ 7))
          → StoreFaults byte code
      fro h = elim h [
        | inl k ↦ inl (first_is (is_outside address size) IsOutside (outside_tells address size) address size byte k.0, k.1)
        | inr k ↦ inr (all_inside address size k.0, first_is is_barred (IsReadOnly s p) barred_tells address size byte k.1, k.2)
      ]

settle : (s : State) (cpu p : ℕ) (c : Call) → Settled s (event_of cpu p c)
settle s cpu p (call.Load address size) =
    settled_access s (event_of cpu p (call.Load address size)) Read (outside address size) None
    (reply.Value (loaded s p address size)) refl (step_of s p (page_number address)) (option_map (step_of s p) (second_page address size))
    refl refl (load_faults s p address size)
settle s cpu p (call.Store address size value) =
    settled_access s (event_of cpu p (call.Store address size value)) Write (outside address size) (read_only s p address size)
    reply.Done refl (step_of s p (page_number address)) (option_map (step_of s p) (second_page address size))
    refl refl (store_faults s p address size)
settle s cpu p c =
    settled s (event_of cpu p c) (tests_of _ (judged s p c) (causes_of c)) (granted s p c)
    (refused_as (is_live s p) (first_of (tests_of _ (judged s p c) (drop 1 (causes_of c)))) (granted s p c)) refl
    (agree _ (judged s p c) (causes_of c)) (names_of _ (judged s p c) (causes_of c)) (λ byte code h. h)

pub completes_unless : CompletesUnless
completes_unless s e = (settle s e.cpu e.pid e.call).completes

pub refused_by_the_first : RefusedByTheFirst
refused_by_the_first s e c h = let r = (settle s e.cpu e.pid e.call).refused c h in (r.before, r.after, r.order, r.applies, r.none)

pub faults_at_the_first_byte : FaultsAtTheFirstByte
faults_at_the_first_byte s e byte code = (settle s e.cpu e.pid e.call).faults byte code
