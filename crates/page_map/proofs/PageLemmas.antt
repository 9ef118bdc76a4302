-- What the finite map of a directory answers, when two are equal, and how many pages one has.
use Rattle.page_map.proofs.Prelude
use Prelude.{◌≡◌, ◌≢◌, ℕ, zero, suc, ◌+◌, ◌-◌, ◌*◌, ◌/◌, ◌<◌, ◌≤◌, Bool, true, false, refl, ap, sym, ◌∙◌, arith, inl, inr, Option, Some, None, is_some, option_and_then, IsUserPage, slot_number, index_number, PageEntry, is_present, word_in, Frames, word_entry, table_of, entry_at, cond, ◌||◌, max, ◌⊎◌, cases_lt, Map, nat_order, same, get-insert, len-insert, get-collect, same_map, same_cases, get-remove, user_pages, entries_of, is_mapped, counted, count_range}
use Rattle.std.specs.List.{list_any, range_with_len}
use mir.Val.{bool_byte}
use Rattle.page_words.specs.FiniteMap as map

-- a number is one of a range exactly between its ends
any-range_in : (q first count : ℕ) → first ≤ q → q < first + count → list_any (same nat_order q) (range_with_len first count) ≡ true
any-range_in q first zero low high = absurd (omega arith)
any-range_in q first (suc count) low high = elim (same_cases nat_order q first) [
  | inl h ↦ ap (λ b. b || list_any (same nat_order q) (range_with_len (first + 1) count)) h.1
  | inr h ↦ ap (λ b. b || list_any (same nat_order q) (range_with_len (first + 1) count)) h.1 ∙ (let n = h.0 in any-range_in q (first + 1) count (omega arith) (omega arith))
]

any-range_out : (q first count : ℕ) → (q < first) ⊎ (first + count ≤ q) → list_any (same nat_order q) (range_with_len first count) ≡ false
any-range_out q first zero h = refl
any-range_out q first (suc count) side = elim (same_cases nat_order q first) [
  | inl h ↦ let e = h.0 in absurd (elim side [ inl l ↦ omega arith | inr l ↦ omega arith ])
  | inr h ↦ ap (λ b. b || list_any (same nat_order q) (range_with_len (first + 1) count)) h.1 ∙ any-range_out q (first + 1) count (elim side [ inl l ↦ inl (omega arith) | inr l ↦ inr (omega arith) ])
]

in_user_pages : (page : ℕ) → IsUserPage page → list_any (same nat_order page) user_pages ≡ true
unfolding user_pages
in_user_pages page h = any-range_in page 0x40000 0xb0000 h.0 h.1

not_in_user_pages : (page : ℕ) → (page < 0x40000) ⊎ (0xf0000 ≤ page) → list_any (same nat_order page) user_pages ≡ false
unfolding user_pages
not_in_user_pages page h = any-range_out page 0x40000 0xb0000 h

pub get-entries_user : (m : Frames) (d page : ℕ) → IsUserPage page → map.get (entries_of m d) page ≡ entry_at m d page
unfolding entries_of
get-entries_user m d page h = get-collect nat_order (entry_at m d) user_pages page ∙ ap (λ b. cond b (entry_at m d page) None) (in_user_pages page h)

pub get-entries_other : (m : Frames) (d page : ℕ) → (page < 0x40000) ⊎ (0xf0000 ≤ page) → map.get (entries_of m d) page ≡ None
unfolding entries_of
get-entries_other m d page h = get-collect nat_order (entry_at m d) user_pages page ∙ ap (λ b. cond b (entry_at m d page) None) (not_in_user_pages page h)

pub user_cases : (page : ℕ) → IsUserPage page ⊎ ((page < 0x40000) ⊎ (0xf0000 ≤ page))
user_cases page = grind (arith, cases_lt)

-- directories with the same entry at each page have the same map
pub entries-same : (m m' : Frames) (d d' : ℕ) → ((page : ℕ) → IsUserPage page → entry_at m' d' page ≡ entry_at m d page) → entries_of m' d' ≡ entries_of m d
entries-same m m' d d' h = same_map _ _ (λ q. elim (user_cases q) [
  | inl user ↦ get-entries_user m' d' q user ∙ h q user ∙ sym (get-entries_user m d q user)
  | inr other ↦ get-entries_other m' d' q other ∙ sym (get-entries_other m d q other)
])

-- one entry more
pub entries-insert : (m m' : Frames) (d page : ℕ) (e : PageEntry) → IsUserPage page → entry_at m' d page ≡ Some e
    → ((q : ℕ) → IsUserPage q → q ≢ page → entry_at m' d q ≡ entry_at m d q) → entries_of m' d ≡ map.insert (entries_of m d) page e
entries-insert m m' d page e own is others = same_map _ _ (λ q.
    elim (same_cases nat_order q page) [
      | inl h ↦ ap (map.get (entries_of m' d)) h.0 ∙ get-entries_user m' d page own ∙ is ∙ sym (ap (λ b. cond b (Some e) (map.get (entries_of m d) q)) h.1)
      | inr h ↦ elim (user_cases q) [
        | inl user ↦ get-entries_user m' d q user ∙ others q user h.0 ∙ sym (get-entries_user m d q user)
        | inr out ↦ get-entries_other m' d q out ∙ sym (get-entries_other m d q out)
      ] ∙ sym (ap (λ b. cond b (Some e) (map.get (entries_of m d) q)) h.1)
    ] ∙ sym (get-insert (entries_of m d) page e q))

-- one entry less
pub entries-remove : (m m' : Frames) (d page : ℕ) → IsUserPage page → entry_at m' d page ≡ None
    → ((q : ℕ) → IsUserPage q → q ≢ page → entry_at m' d q ≡ entry_at m d q) → entries_of m' d ≡ map.remove (entries_of m d) page
entries-remove m m' d page own is others = same_map _ _ (λ q.
    elim (same_cases nat_order q page) [
      | inl h ↦ ap (map.get (entries_of m' d)) h.0 ∙ get-entries_user m' d page own ∙ is ∙ sym (ap (λ b. cond b None (map.get (entries_of m d) q)) h.1)
      | inr h ↦ elim (user_cases q) [
        | inl user ↦ get-entries_user m' d q user ∙ others q user h.0 ∙ sym (get-entries_user m d q user)
        | inr out ↦ get-entries_other m' d q out ∙ sym (get-entries_other m d q out)
      ] ∙ sym (ap (λ b. cond b None (map.get (entries_of m d) q)) h.1)
    ] ∙ sym (get-remove (entries_of m d) page q))

counted-le : (b : Bool) → counted b ≤ 1
counted-le b = grind arith

pub count_range-le : (p : ℕ → Bool) (first count : ℕ) → count_range p first count ≤ count
unfolding count_range
count_range-le p first zero = omega arith
count_range-le p first (suc count) = omega (arith, counted-le (p first), count_range-le p (first + 1) count)

pub count_range-zero : (p : ℕ → Bool) (first : ℕ) → count_range p first 0 ≡ 0
unfolding count_range
count_range-zero p first = refl

-- a range in two parts
pub count_range-add : (p : ℕ → Bool) (first count more : ℕ) → count_range p first (count + more) ≡ count_range p first count + count_range p (first + count) more
unfolding count_range
count_range-add p first zero more = let a : 0 + more ≡ more = omega arith in let b : first + 0 ≡ first = omega arith in rw (a, b) (let k = count_range p first more in omega arith)
count_range-add p first (suc count) more =
    let a : suc count + more ≡ suc (count + more) = omega arith in
    let b : first + suc count ≡ first + 1 + count = omega arith in
    ap (count_range p first) a ∙ (let r = count_range-add p (first + 1) count more in let s : count_range p (first + suc count) more ≡ count_range p (first + 1 + count) more = ap (λ f. count_range p f more) b in omega arith)

-- one number more
pub count_range-more : (p : ℕ → Bool) (first count : ℕ) → count_range p first (count + 1) ≡ count_range p first count + counted (p (first + count))
unfolding count_range
count_range-more p first count = count_range-add p first count 1 ∙ (let k = count_range p first count in let c = counted (p (first + count)) in omega arith)

-- ranges whose numbers pass alike
pub count_range-same : (p q : ℕ → Bool) (first other count : ℕ) → ((i : ℕ) → i < count → p (first + i) ≡ q (other + i)) → count_range p first count ≡ count_range q other count
unfolding count_range
count_range-same p q first other zero h = refl
count_range-same p q first other (suc count) h =
    let a : first + 0 ≡ first = omega arith in
    let b : other + 0 ≡ other = omega arith in
    let one : p first ≡ q other = ap p (sym a) ∙ h 0 (omega arith) ∙ ap q b in
    let rest = count_range-same p q (first + 1) (other + 1) count (λ i l. let x : first + 1 + i ≡ first + (i + 1) = omega arith in let y : other + (i + 1) ≡ other + 1 + i = omega arith in ap p x ∙ h (i + 1) (omega arith) ∙ ap q y) in
    rw (one, rest) refl

-- ranges in which no number passes
pub count_range-none : (p : ℕ → Bool) (first count : ℕ) → ((i : ℕ) → i < count → p (first + i) ≡ false) → count_range p first count ≡ 0
unfolding count_range
count_range-none p first zero h = refl
count_range-none p first (suc count) h =
    let a : first + 0 ≡ first = omega arith in
    let one : p first ≡ false = ap p (sym a) ∙ h 0 (omega arith) in
    let rest = count_range-none p (first + 1) count (λ i l. let x : first + 1 + i ≡ first + (i + 1) = omega arith in ap p x ∙ h (i + 1) (omega arith)) in
    rw (one, rest) refl

len-put_some : {X : Type 0} (k : ℕ) (x : Option X) (m : Map nat_order X) → map.get m k ≡ None → map.len (map.put_some k x m) ≡ counted (is_some x) + map.len m
len-put_some k None m h = omega arith
len-put_some k (Some x) m h = len-insert m k x ∙ ap (λ o. cond (is_some o) (map.len m) (map.len m + 1)) h ∙ omega arith

len-collect : {X : Type 0} (f : ℕ → Option X) (first count : ℕ) → map.len (map.collect {o = nat_order} f (range_with_len first count)) ≡ count_range (λ k. is_some (f k)) first count
unfolding count_range
len-collect f first zero = refl
len-collect f first (suc count) =
    len-put_some first (f first) (map.collect {o = nat_order} f (range_with_len (first + 1) count))
    (get-collect nat_order f (range_with_len (first + 1) count) first ∙ ap (λ b. cond b (f first) None) (any-range_out first (first + 1) count (inl (omega arith))))
    ∙ ap (λ n. counted (is_some (f first)) + n) (len-collect f (first + 1) count)

len-user_pages : {X : Type 0} (f : ℕ → Option X) → map.len (map.collect {o = nat_order} f user_pages) ≡ count_range (λ k. is_some (f k)) 0x40000 0xb0000
unfolding user_pages
len-user_pages f = len-collect f 0x40000 0xb0000

-- the number of pages is the number of entries
pub len-entries_of : (m : Frames) (d : ℕ) → map.len (entries_of m d) ≡ count_range (λ page. is_some (entry_at m d page)) 0x40000 0xb0000
unfolding entries_of
len-entries_of m d = len-user_pages (entry_at m d)

-- an entry that was read from the words is the map's
pub entry_of_map : (m : Frames) (d page : ℕ) (e : Option PageEntry) → IsUserPage page → e ≡ entry_at m d page → e ≡ map.get (entries_of m d) page
entry_of_map m d page e user is = is ∙ sym (get-entries_user m d page user)

-- a word holds an entry exactly where it is present
pub present_word : (w : ℕ) (e : PageEntry) → word_entry w ≡ Some e → is_present w ≡ true
present_word w e is = grind arith

pub absent_word : (w : ℕ) → word_entry w ≡ None → is_present w ≡ false
absent_word w none = grind arith

-- ---- The pages of one slot

-- a page whose slot has a table is mapped where its word is present
pub mapped_in_table : (m : Frames) (d slot t page : ℕ) → slot_number page ≡ slot → table_of m d slot ≡ Some t → is_some (entry_at m d page) ≡ is_present (word_in (m t) (index_number page))
mapped_in_table m d slot t page s there = grind arith

-- a page whose slot has none isn't
pub unmapped_without_table : (m : Frames) (d slot page : ℕ) → slot_number page ≡ slot → table_of m d slot ≡ None → is_some (entry_at m d page) ≡ false
unmapped_without_table m d slot page s none = ap (λ x. is_some (option_and_then (λ table. word_entry (word_in (m table) (index_number page))) x)) (ap (table_of m d) s ∙ none)

pub count-table : (m : Frames) (d slot t : ℕ) → table_of m d slot ≡ Some t
    → count_range (λ i. is_present (word_in (m t) i)) 0 1024 ≡ count_range (λ page. is_some (entry_at m d page)) (1024 * slot) 1024
count-table m d slot t there = grind (arith, count_range-same, mapped_in_table)

pub count-no_table : (m : Frames) (d slot : ℕ) → table_of m d slot ≡ None → count_range (λ page. is_some (entry_at m d page)) (1024 * slot) 1024 ≡ 0
count-no_table m d slot none = count_range-none (λ page. is_some (entry_at m d page)) (1024 * slot) 1024 (λ i l. unmapped_without_table m d slot (1024 * slot + i) (omega arith) none)

-- ---- A count that goes on

-- a test as a number
pub bool_counted : (b : Bool) → (bool_byte b ≡ counted b) × (bool_byte b ≤ 1)
bool_counted true = (refl, omega arith)
bool_counted false = (refl, omega arith)

pub count_word : (p : ℕ → Bool) (i n k : ℕ) → n ≡ count_range p 0 i → k ≡ counted (p i) → n + k ≡ count_range p 0 (i + 1)
count_word p i n k so_far one = grind (arith, count_range-more)

pub count_slot : (p : ℕ → Bool) (slot n k : ℕ) → 256 ≤ slot → n ≡ count_range p 0x40000 (1024 * (slot - 256)) → k ≡ count_range p (1024 * slot) 1024 → n + k ≡ count_range p 0x40000 (1024 * (slot + 1 - 256))
count_slot p slot n k low so_far more =
    let a : 1024 * (slot + 1 - 256) ≡ 1024 * (slot - 256) + 1024 = omega arith in
    let b : 0x40000 + 1024 * (slot - 256) ≡ 1024 * slot = omega arith in
    let c : count_range p (0x40000 + 1024 * (slot - 256)) 1024 ≡ count_range p (1024 * slot) 1024 = ap (λ f. count_range p f 1024) b in
    let d : count_range p 0x40000 (1024 * (slot + 1 - 256)) ≡ count_range p 0x40000 (1024 * (slot - 256) + 1024) = ap (count_range p 0x40000) a in
    omega (arith, count_range-add p 0x40000 (1024 * (slot - 256)) 1024)

-- ---- The next page

pub found_page : (m : Frames) (d page : ℕ) → 0x40000 ≤ page → page < 0xf0000 → is_some (entry_at m d page) ≡ true → is_mapped m d page ≡ true
found_page m d page low high is = ap is_some (get-entries_user m d page (low, high)) ∙ is

pub none_from : (m : Frames) (d from end page : ℕ) → ((p : ℕ) → max from 0x40000 ≤ p → p < end → is_some (entry_at m d p) ≡ false)
    → from ≤ page → (page < end) ⊎ (0xf0000 ≤ end) → is_mapped m d page ≡ false
none_from m d from end page none low before = grind (arith, user_cases, get-entries_user, get-entries_other)

-- slots without a table map no page
pub none_in_slots : (m : Frames) (d first slot page : ℕ) → ((s : ℕ) → first / 1024 ≤ s → s < slot → table_of m d s ≡ None)
    → first ≤ page → page < 1024 * slot → is_some (entry_at m d page) ≡ false
none_in_slots m d first slot page none low high = unmapped_without_table m d (slot_number page) page refl (none (slot_number page) (omega arith) (omega arith))

-- nor is a page mapped before the first entry of the table behind them
pub none_before : (m : Frames) (d first slot t end page : ℕ) → ((s : ℕ) → first / 1024 ≤ s → s < slot → table_of m d s ≡ None) → table_of m d slot ≡ Some t
    → ((i : ℕ) → first - 1024 * slot ≤ i → i < end → word_entry (word_in (m t) i) ≡ None)
    → end ≤ 1024 → first ≤ page → page < 1024 * slot + end → is_some (entry_at m d page) ≡ false
none_before m d first slot t end page none there empty most low high = elim (cases_lt page (1024 * slot)) [
  | inl below ↦ none_in_slots m d first slot page none low below
  | inr above ↦ mapped_in_table m d slot t page (omega arith) there ∙ absent_word (word_in (m t) (index_number page)) (empty (index_number page) (omega arith) (omega arith))
]

-- that entry's page is
pub entry_there : (m : Frames) (d slot t index : ℕ) (e : PageEntry) → table_of m d slot ≡ Some t → index < 1024 → word_entry (word_in (m t) index) ≡ Some e
    → is_some (entry_at m d (slot * 1024 + index)) ≡ true
entry_there m d slot t index e there small is =
    let i : index_number (slot * 1024 + index) ≡ index = omega arith in
    mapped_in_table m d slot t (slot * 1024 + index) (omega arith) there ∙ ap (λ k. is_present (word_in (m t) k)) i ∙ present_word (word_in (m t) index) e is

pub count_end : (p : ℕ → Bool) (slot n : ℕ) → slot ≡ 960 → n ≡ count_range p 0x40000 (1024 * (slot - 256)) → n ≡ count_range p 0x40000 0xb0000
count_end p slot n end so_far = so_far ∙ ap (count_range p 0x40000) (let e : 1024 * (slot - 256) ≡ 0xb0000 = omega arith in e)
