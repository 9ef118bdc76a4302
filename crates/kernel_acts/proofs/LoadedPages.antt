-- The pages of a load, one after another: what is against it, before and after each page.
use Rattle.kernel_acts.proofs.Prelude.{◌≡◌, ℕ, zero, suc, ◌+◌, ◌-◌, ◌<◌, ◌≤◌, ◌&&◌, Bool, true, false, List, [], ◌∷◌, refl, sym, ap, subst, ◌∙◌, is_some, None, Err, inl, inr, arith, nat_lt, Result, Ok, ◌↔◌, if◌then◌else◌, IsTrue, IsOk, IfErr, list_all, range_with_len, cases_lt, leb-true, ltb-false, le-ltb, page_number, offset_number, is_user_page, IsUserPage, get-map_values, same_cases, Slot, slot_order, Spaces, Cell, at_page, slot_at, fresh, cell_or_fresh, set_bytes, write_at, protected, stored, cost, with_page, with_pages, cost-same, key-stored, kept, cost-with_page, Book, given, quota_of, State, is_live, is_mapped, overdrawn, both_true, get-inserted, get-inserted_other, page_is_user, pages_under, may_at, load_refusal, answer, completes, Reply, map_of, protect_of, is_writable_at, installed, IsNotOpened, key-insert}
use Rattle.page_words.specs.FiniteMap as map
use Rattle.page_words.specs.FiniteSet as set
use Rattle.process_table.specs.declared.causes.Cause.TheVariants as cause
use Rattle.kernel_calls.specs.declared.calls.Reply.TheVariants as reply

-- the page of a part, and those of the bytes behind it
pub pages_more : (a n c : ℕ) → 0 < c → c ≤ n → offset_number a + c ≤ 4096 → (c < n → offset_number a + c ≡ 4096)
    → pages_under a n ≡ page_number a ∷ pages_under (a + c) (n - c)
pages_more a zero c some most within whole = absurd (omega (arith, some, most))
pages_more a (suc m) c some most within whole = elim (cases_lt c (suc m)) [
  | inl below ↦
      let full = whole below in
      let k : ℕ = m - c in
      let left : suc m - c ≡ suc k = omega (arith, below) in
      let count : page_number (a + m) + 1 - page_number a ≡ suc (page_number (a + c + k) + 1 - page_number (a + c)) = omega (arith, full, below) in
      let next : page_number a + 1 ≡ page_number (a + c) = omega (arith, full, some) in
      ap (range_with_len (page_number a)) count
      ∙ ap (λ x. page_number a ∷ range_with_len x (page_number (a + c + k) + 1 - page_number (a + c))) next
      ∙ ap (λ n. page_number a ∷ pages_under (a + c) n) (sym left)
  | inr past ↦ grind arith
]

-- ---- A test of each page

user_page : (page : ℕ) → is_user_page page ≡ true → IsUserPage page
user_page page h = grind (arith, both_true, leb-true)

pub user_test : (page : ℕ) (b : Bool) → (IsTrue b ↔ IsUserPage page) → b ≡ is_user_page page
user_test page b h = grind (arith, page_is_user, user_page)

pages_first : (a n : ℕ) → 0 < n → (rest : List ℕ) × (pages_under a n ≡ page_number a ∷ rest)
pages_first a zero some = absurd (omega (arith, some))
pages_first a (suc m) some =
    let count : page_number (a + m) + 1 - page_number a ≡ suc (page_number (a + m) - page_number a) = omega arith in
    (range_with_len (page_number a + 1) (page_number (a + m) - page_number a), ap (range_with_len (page_number a)) count)

first_of_all : (f : ℕ → Bool) (a n : ℕ) → 0 < n → list_all f (pages_under a n) ≡ true → f (page_number a) ≡ true
first_of_all f a n some all =
    let first = pages_first a n some in
    (both_true (f (page_number a)) (list_all f first.0) (sym (ap (list_all f) first.1) ∙ all)).0

-- the first page fails it
pub fails_first : (f : ℕ → Bool) (a n done : ℕ) → done < n → f (page_number a) ≡ false → list_all f (pages_under a (n - done)) ≡ false
fails_first f a n done some fails =
    let first = pages_first a (n - done) (omega (arith, some)) in
    ap (list_all f) first.1 ∙ ap (λ b. b && list_all f first.0) fails

-- the first page passes it, so that the others decide
pub passes_first : (f : ℕ → Bool) (at next n done c : ℕ) → next ≡ at + c → 0 < c → c ≤ n - done → offset_number at + c ≤ 4096
    → (c < n - done → offset_number at + c ≡ 4096) → f (page_number at) ≡ true → list_all f (pages_under at (n - done)) ≡ list_all f (pages_under next (n - (done + c)))
passes_first f at next n done c on some most within whole passes =
    let left : n - done - c ≡ n - (done + c) = omega arith in
    ap (list_all f) (pages_more at (n - done) c some most within whole) ∙ ap (λ b. b && list_all f (pages_under (at + c) (n - done - c))) passes
    ∙ (λ i. list_all f (pages_under (sym on i) (left i)))

-- where all are of the user range, the first is
pub user_first : (at n done : ℕ) → done < n → list_all is_user_page (pages_under at (n - done)) ≡ true → IsUserPage (page_number at)
user_first at n done some all = user_page (page_number at) (first_of_all is_user_page at (n - done) (omega (arith, some)) all)

-- and the others are
pub user_rest : (at next n done c : ℕ) → next ≡ at + c → 0 < c → c ≤ n - done → offset_number at + c ≤ 4096
    → (c < n - done → offset_number at + c ≡ 4096) → list_all is_user_page (pages_under at (n - done)) ≡ true
    → list_all is_user_page (pages_under next (n - (done + c))) ≡ true
user_rest at next n done c on some most within whole all = grind (arith, passes_first, first_of_all)

-- ---- Nothing is against it

pub record Unrefused (s : State) (p : ℕ) (pages : List ℕ) : Type 0 where
  pub live : is_live s p ≡ true
  pub user : list_all is_user_page pages ≡ true
  pub may : list_all (may_at s p) pages ≡ true
  pub room : overdrawn s p pages ≡ false

pub unrefused : (s : State) (p : ℕ) (pages : List ℕ) → load_refusal s p pages ≡ None → Unrefused s p pages
unrefused s p pages h = grind arith

pub refusal_none : (s : State) (p : ℕ) (pages : List ℕ) → Unrefused s p pages → load_refusal s p pages ≡ None
refusal_none s p pages u = grind arith

-- ---- Costs

pub cost_grows : (S : Spaces) (p : ℕ) (pages : List ℕ) → cost S p ≤ cost (with_pages S p pages) p
cost_grows S p [] = omega arith
cost_grows S p (page ∷ pages) = grind (arith, cost-with_page, (cost_grows (with_page S p page) p pages))

room_rest : (q g c d e : ℕ) → c ≤ d → d ≤ e → nat_lt (q - c - g) (e - c) ≡ false → nat_lt (q - d - g) (e - d) ≡ false
room_rest q g c d e below above fits = grind (arith, ltb-false, le-ltb)

-- room for some pages is room for the first
pub first_fits : (s : State) (p page : ℕ) (pages : List ℕ) → overdrawn s p (page ∷ pages) ≡ false → overdrawn s p (page ∷ []) ≡ false
first_fits s p page pages fits = grind (arith, ltb-false, le-ltb, cost_grows)

-- ---- Which slots are mapped

abbrev SameKeys : Spaces → Spaces → Type 0
SameKeys S T = (q : Slot) → map.contains_key S q ≡ map.contains_key T q

with_page-keys : (S : Spaces) (p page : ℕ) (c : Cell) → SameKeys (with_page S p page) (map.insert S (at_page p page) c)
with_page-keys S p page c q = grind (arith, kept, key-insert)

with_page_same : (S T : Spaces) (p page : ℕ) → SameKeys S T → SameKeys (with_page S p page) (with_page T p page)
with_page_same S T p page is q = grind (arith, with_page-keys, key-insert)

cost_with_same : (S T : Spaces) (p : ℕ) (pages : List ℕ) → SameKeys S T → cost (with_pages S p pages) p ≡ cost (with_pages T p pages) p
cost_with_same S T p [] is = cost-same S T p is
cost_with_same S T p (page ∷ pages) is = cost_with_same (with_page S p page) (with_page T p page) p pages (with_page_same S T p page is)

inserted_there : (S : Spaces) (slot : Slot) (c : Cell) → map.contains_key (map.insert S slot c) slot ≡ true
inserted_there S slot c = ap is_some (get-inserted S slot c)

-- a page that was stored into, and whose right was changed or not
module _ (S : Spaces) (p a : ℕ) (part : List ℕ) where
  abbrev own : Slot
  own = slot_at p a

  abbrev opened : Spaces
  opened = protected S own true

  abbrev filled : Spaces
  filled = stored opened own (offset_number a) part

  opened_keys : SameKeys opened (with_page S p (page_number a))
  opened_keys q = grind (arith, with_page-keys)

  filled_keys : SameKeys filled (with_page S p (page_number a))
  filled_keys q =
      let c = cell_or_fresh opened own in
      key-stored opened own (offset_number a) part c q
      ∙ kept opened own c (inserted_there S own (record (cell_or_fresh S own) { write = true })) q ∙ opened_keys q

  closed_keys : SameKeys (protected filled own false) (with_page S p (page_number a))
  closed_keys q =
      let there : map.contains_key filled own ≡ true = filled_keys own ∙ with_page-keys S p (page_number a) (fresh own true) own ∙ inserted_there S own (fresh own true) in
      kept filled own (record (cell_or_fresh filled own) { write = false }) there q ∙ filled_keys q

installed_keys : (s : State) (p a : ℕ) (part : List ℕ) (write : Bool) → SameKeys (installed s p a part write).spaces (with_page s.spaces p (page_number a))
installed_keys s p a part true = filled_keys s.spaces p a part
installed_keys s p a part false = closed_keys s.spaces p a part

pub installed_book : (s : State) (p a : ℕ) (part : List ℕ) (write : Bool) → (installed s p a part write).book ≡ s.book
installed_book s p a part x4 = grind arith

-- ---- What a process may do

abbrev may_of : Spaces → Slot → Bool
may_of S q = (cell_or_fresh S q).may

may_insert : (S : Spaces) (slot : Slot) (c : Cell) → c.may ≡ may_of S slot → (q : Slot) → may_of (map.insert S slot c) q ≡ may_of S q
may_insert S slot c is q = grind (arith, same_cases, get-inserted, get-inserted_other)

may_set_bytes : (S : Spaces) (group : set.Set slot_order) (bytes : List ℕ) (q : Slot) → may_of (set_bytes S group bytes) q ≡ may_of S q
may_set_bytes S group bytes q = grind (arith, get-map_values)

may_protected : (S : Spaces) (slot : Slot) (write : Bool) (q : Slot) → may_of (protected S slot write) q ≡ may_of S q
may_protected S slot write q = may_insert S slot (record (cell_or_fresh S slot) { write = write }) refl q

may_stored : (S : Spaces) (slot : Slot) (at : ℕ) (new : List ℕ) (q : Slot) → may_of (stored S slot at new) q ≡ may_of S q
may_stored S slot at new q =
    let c = cell_or_fresh S slot in
    let bytes = write_at c.bytes at new in
    may_insert (set_bytes S c.holders bytes) slot (record c { bytes = bytes; accessed = true; dirty = true }) (sym (may_set_bytes S c.holders bytes slot)) q
    ∙ may_set_bytes S c.holders bytes q

pub installed_may : (s : State) (p a : ℕ) (part : List ℕ) (write : Bool) (page : ℕ) → may_at (installed s p a part write) p page ≡ may_at s p page
installed_may s p a part true page = may_stored (protected s.spaces (slot_at p a) true) (slot_at p a) (offset_number a) part (at_page p page) ∙ may_protected s.spaces (slot_at p a) true (at_page p page)
installed_may s p a part false page =
    may_protected (stored (protected s.spaces (slot_at p a) true) (slot_at p a) (offset_number a) part) (slot_at p a) false (at_page p page)
    ∙ may_stored (protected s.spaces (slot_at p a) true) (slot_at p a) (offset_number a) part (at_page p page) ∙ may_protected s.spaces (slot_at p a) true (at_page p page)

all_same : (f g : ℕ → Bool) → ((x : ℕ) → f x ≡ g x) → (xs : List ℕ) → list_all f xs ≡ list_all g xs
all_same f g is x3 = grind arith

-- ---- The first page, and the others once it is installed

pub first_unrefused : (s : State) (p page : ℕ) (pages : List ℕ) → Unrefused s p (page ∷ pages) → Unrefused s p (page ∷ [])
first_unrefused s p page pages u = grind (arith, both_true, first_fits)

pub rest_unrefused : (s t : State) (p a : ℕ) (part : List ℕ) (write : Bool) (pages : List ℕ) → t ≡ installed s p a part write
    → Unrefused s p (page_number a ∷ pages) → Unrefused t p pages
rest_unrefused s t p a part write pages is u =
    let book = ap (λ (x : State). x.book) is ∙ installed_book s p a part write in
    let W = with_page s.spaces p (page_number a) in
    let keys : SameKeys t.spaces W = λ q. ap (λ (x : State). map.contains_key x.spaces q) is ∙ installed_keys s p a part write q in
    record {
      live = ap (λ (b : Book). map.contains_key b p) book ∙ u.live;
      user = (both_true (is_user_page (page_number a)) (list_all is_user_page pages) u.user).1;
      may = all_same (may_at t p) (may_at s p) (λ page. ap (λ (x : State). may_at x p page) is ∙ installed_may s p a part write page) pages
          ∙ (both_true (may_at s p (page_number a)) (list_all (may_at s p) pages) u.may).1;
      room = (λ i. nat_lt (quota_of (book i) p - cost-same t.spaces W p keys i - given (book i) p) (cost_with_same t.spaces W p pages keys i - cost-same t.spaces W p keys i))
          ∙ room_rest (quota_of s.book p) (given s.book p) (cost s.spaces p) (cost W p) (cost (with_pages W p pages) p)
          (cost_grows s.spaces p (page_number a ∷ [])) (cost_grows W p pages) u.room;
    }

-- of all pages left, the first
pub part_unrefused : (s : State) (p at n c : ℕ) → 0 < c → c ≤ n → offset_number at + c ≤ 4096 → (c < n → offset_number at + c ≡ 4096)
    → load_refusal s p (pages_under at n) ≡ None → load_refusal s p (page_number at ∷ []) ≡ None
part_unrefused s p at n c some most within whole none =
    let rest = pages_under (at + c) (n - c) in
    refusal_none s p (page_number at ∷ []) (first_unrefused s p (page_number at) rest
    (subst (Unrefused s p) (pages_more at n c some most within whole) (unrefused s p (pages_under at n) none)))

-- and those behind it
pub rest_of_load : (s t : State) (p at next n done c : ℕ) (part : List ℕ) (write : Bool) → next ≡ at + c → 0 < c → c ≤ n - done → offset_number at + c ≤ 4096
    → (c < n - done → offset_number at + c ≡ 4096) → t ≡ installed s p at part write → load_refusal s p (pages_under at (n - done)) ≡ None
    → load_refusal t p (pages_under next (n - (done + c))) ≡ None
rest_of_load s t p at next n done c part write on some most within whole is none =
    let rest = pages_under (at + c) (n - done - c) in
    let left : n - done - c ≡ n - (done + c) = omega arith in
    let all = subst (Unrefused s p) (pages_more at (n - done) c some most within whole) (unrefused s p (pages_under at (n - done)) none) in
    (λ i. load_refusal t p (pages_under (on i) (sym left i))) ∙ refusal_none t p rest (rest_unrefused s t p at part write rest is all)

-- ---- A page against which there is nothing is opened

none_opens : (s : State) (p page : ℕ) (told : Reply) → Unrefused s p (page ∷ []) → IsNotOpened s p page told → ⊥
none_opens s p page told u n = by (is_writable_at s (at_page p page)) (is_mapped s (at_page p page)) refl n.first
  where
    user : is_user_page page ≡ true
    user = (both_true (is_user_page page) true u.user).0

    may : (cell_or_fresh s.spaces (at_page p page)).may ≡ true
    may = (both_true (may_at s p page) true u.may).0

    done : answer s n.event ≡ reply.Done → ⊥
    done is = let stop : true ≡ false = sym (ap completes (n.reply ∙ is)) ∙ n.stops in cc

    by : (x y : Bool) → is_mapped s (at_page p page) ≡ y
        → (if x then [] else if y then protect_of p page true ∷ [] else map_of p page true ∷ []) ≡ n.event ∷ [] → ⊥
    by x y there h = grind (arith, done, user, may)

pub part_goes : (s : State) (p page : ℕ) (told : Result (Unit {0}) Reply) → load_refusal s p (page ∷ []) ≡ None → IfErr told (IsNotOpened s p page) → IsOk told
part_goes s p page (Ok x) none h = refl
part_goes s p page (Err told) none h = absurd (none_opens s p page told (unrefused s p (page ∷ []) none) h)
