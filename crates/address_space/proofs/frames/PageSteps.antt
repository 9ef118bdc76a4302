-- How pages and their counts change with one entry, and what the bytes of pages give.
use Rattle.address_space.proofs.Prelude.{◌≡◌, ◌≢◌, ℕ, ◌+◌, true, false, cond, List, ap, sym, ◌∙◌, arith, inl, inr, Some, None, cases_eq, ne_eqb, Reserved, Free, Directory, Table, Page, PageEntry, same, Slot, slot_order, same_or_not, same_itself, get-insert, same_map, same_set, len-insert, Entries, names, holders_of, lazy_count, spaces_of, Roles, Pages, HoldsPage}
use Rattle.address_space.proofs.entries.Removal.{put_back, removed, kept_other}
use Rattle.address_space.proofs.entries.Refinement.{contains-holders_of, same_holders, names-insert_same, holders-insert, holders-other, get-spaces_of, Unused}
use Rattle.page_words.specs.FiniteMap as map
use Rattle.page_words.specs.FiniteSet as set

-- a frame that an entry may name is no free frame, no table and no directory
pub no_free : (R : Roles) (f g : ℕ) → HoldsPage (R f) → R g ≡ Some Free → f ≢ g
no_free R f g h free same = grind arith

pub no_table : (R : Roles) (f g p s : ℕ) → HoldsPage (R f) → R g ≡ Some (Table p s) → f ≢ g
no_table R f g p s h table same = grind arith

pub no_directory : (R : Roles) (f g p : ℕ) → HoldsPage (R f) → R g ≡ Some (Directory p) → f ≢ g
no_directory R f g p h directory same = grind arith

-- no entry names a free frame
pub unused : (E : Entries) (R : Roles) (f : ℕ) → Pages E R → R f ≡ Some Free → Unused E f
unused E R f h free q = grind (arith, ne_eqb, no_free)

-- and so no slot holds it
pub unused_count : (E : Entries) (R : Roles) (f : ℕ) → Pages E R → R f ≡ Some Free → 0 ≡ set.len (holders_of E f)
unused_count E R f P free = sym (ap set.len (same_set (holders_of E f) set.empty (λ q. contains-holders_of E f q ∙ unused E R f P free q)))

-- spaces see the bytes of the frames that entries name, and no others
pub same_bytes : (E : Entries) (m m' : ℕ → List ℕ) → ((q : Slot) (d : PageEntry) → map.get E q ≡ Some d → m' d.frame ≡ m d.frame) → spaces_of E m' ≡ spaces_of E m
same_bytes E m m' is = same_map _ _ (λ q. get-spaces_of E m' q ∙ (grind arith) ∙ sym (get-spaces_of E m q))

-- an entry that keeps its frame
pub pages-same : (E : Entries) (R : Roles) (slot : Slot) (old new : PageEntry) → Pages E R → map.get E slot ≡ Some old → new.frame ≡ old.frame → Pages (map.insert E slot new) R
pages-same E R slot old new P found kept = record {
  pages = grind (arith, same_or_not, get-insert);
  counts = λ f c is. let old_counts = P.counts f c is in (old_counts.0, old_counts.1 ∙ sym (ap set.len (same_holders (map.insert E slot new) E f (names-insert_same E slot old new found kept f))));
}

-- a new entry on a frame, whose count becomes the number of its slots
pub pages-more : (E : Entries) (R R' : Roles) (slot : Slot) (e : PageEntry) (n : ℕ) → Pages E R → ((f c : ℕ) → R' f ≡ Some (Page c) → names f (map.get E slot) ≡ false) → R' e.frame ≡ Some (Page (n + 1)) → n ≡ set.len (holders_of E e.frame)
    → ((g : ℕ) → g ≢ e.frame → R' g ≡ R g) → Pages (map.insert E slot e) R'
pages-more E R R' slot e n P none own count others = record {
  pages = grind (arith, same_or_not, get-insert, cases_eq);
  counts = λ f c is. elim (cases_eq f e.frame) [
    | inl same ↦
        let k : Some (Page c) ≡ Some (Page (n + 1)) = sym is ∙ ap R' same ∙ own in
        let c_is : c ≡ n + 1 = cc in
        let l : set.len (holders_of (map.insert E slot e) f) ≡ set.len (holders_of E e.frame) + 1 =
        ap (λ g. set.len (holders_of (map.insert E slot e) g)) same ∙ ap set.len (holders-insert E slot e) ∙ len-insert (holders_of E e.frame) slot tt
        ∙ ap (λ b. cond b (set.len (holders_of E e.frame)) (set.len (holders_of E e.frame) + 1)) (contains-holders_of E e.frame slot ∙ none e.frame (n + 1) own) in
        (omega arith, omega arith)
    | inr differ ↦
        let old = P.counts f c (sym (others f differ) ∙ is) in
        (old.0, old.1 ∙ sym (ap set.len (holders-other E slot e f (none f c is) (ne_eqb e.frame f (λ s. differ (sym s))))))
  ];
}

-- a new entry on a frame that was free
pub pages-fresh : (E : Entries) (R R' : Roles) (slot : Slot) (e : PageEntry) → Pages E R → map.get E slot ≡ None → R e.frame ≡ Some Free → R' e.frame ≡ Some (Page 1)
    → ((g : ℕ) → g ≢ e.frame → R' g ≡ R g) → Pages (map.insert E slot e) R'
pages-fresh E R R' slot e h none free own others = grind (arith, pages-more, unused_count)

-- a new entry on a page
pub pages-join : (E : Entries) (R R' : Roles) (slot : Slot) (e : PageEntry) (c : ℕ) → Pages E R → map.get E slot ≡ None → R e.frame ≡ Some (Page c) → R' e.frame ≡ Some (Page (c + 1))
    → ((g : ℕ) → g ≢ e.frame → R' g ≡ R g) → Pages (map.insert E slot e) R'
pages-join E R R' slot e c P none was own others = pages-more E R R' slot e c P (λ f n _. ap (names f) none) own (P.counts e.frame c was).1 others

-- an entry beside the new one still names a page
pub kept_holder : (E : Entries) (R : Roles) (slot : Slot) (e : PageEntry) (q : Slot) (x : PageEntry) → Pages (map.insert E slot e) R → map.get E slot ≡ None → map.get E q ≡ Some x → HoldsPage (R x.frame)
kept_holder E R slot e q x P none found = P.pages q x (get-insert E slot e q ∙ elim (same_or_not slot_order q slot) [
  | inl h ↦ absurd (let k : None ≡ Some x = sym none ∙ ap (map.get E) (sym h.0) ∙ found in cc)
  | inr h ↦ ap (λ b. cond b (Some e) (map.get E q)) h ∙ found
])

-- the role of a frame that was no page and is none
pub pages-role : (E : Entries) (R R' : Roles) (f : ℕ) → Pages E R → R f ≢ Some Reserved → ((c : ℕ) → R f ≢ Some (Page c)) → ((c : ℕ) → R' f ≢ Some (Page c)) → ((g : ℕ) → g ≢ f → R' g ≡ R g) → Pages E R'
pages-role E R R' f h k before after others = grind arith

-- a new lazy entry
pub pages-lazy : (E : Entries) (R : Roles) (slot : Slot) (e : PageEntry) → Pages E R → map.get E slot ≡ None → e.frame ≡ 0 → R 0 ≡ Some Reserved → Pages (map.insert E slot e) R
pages-lazy E R slot e P none lazy zero = record {
  pages = grind (arith, same_or_not, get-insert);
  counts = λ f c is. let old = P.counts f c is in (old.0, old.1 ∙ sym (ap set.len (holders-other E slot e f (ap (names f) none) (ne_eqb e.frame f (λ same. let k : R 0 ≡ R f = ap R (sym lazy ∙ same) in cc)))));
}

-- there is one lazy page more
pub lazy-more : (E : Entries) (slot : Slot) (e : PageEntry) → map.get E slot ≡ None → e.frame ≡ 0 → lazy_count (map.insert E slot e) ≡ lazy_count E + 1
lazy-more E slot e none lazy =
    ap (λ g. set.len (holders_of (map.insert E slot e) g)) (sym lazy) ∙ ap set.len (holders-insert E slot e) ∙ len-insert (holders_of E e.frame) slot tt
    ∙ ap (λ b. cond b (set.len (holders_of E e.frame)) (set.len (holders_of E e.frame) + 1)) (contains-holders_of E e.frame slot ∙ ap (names e.frame) none)
    ∙ ap (λ g. set.len (holders_of E g) + 1) lazy

-- as many lazy pages, where an entry on another frame came
pub lazy-real : (E : Entries) (slot : Slot) (e : PageEntry) → map.get E slot ≡ None → e.frame ≢ 0 → lazy_count (map.insert E slot e) ≡ lazy_count E
lazy-real E slot e none real = ap set.len (holders-other E slot e 0 (ap (names 0) none) (ne_eqb e.frame 0 real))

-- or where one keeps its frame
pub lazy-same : (E : Entries) (slot : Slot) (old new : PageEntry) → map.get E slot ≡ Some old → new.frame ≡ old.frame → holders_of (map.insert E slot new) 0 ≡ holders_of E 0
lazy-same E slot old new found kept = same_holders (map.insert E slot new) E 0 (names-insert_same E slot old new found kept 0)

-- or where one has a frame of its own from now on
pub lazy-fewer : (E : Entries) (slot : Slot) (new : PageEntry) → new.frame ≢ 0 → (q : Slot) → set.contains (holders_of E 0) q ≡ false → set.contains (holders_of (map.insert E slot new) 0) q ≡ false
lazy-fewer E slot new real q was =
    contains-holders_of (map.insert E slot new) 0 q ∙ ap (names 0) (get-insert E slot new q) ∙ (grind (arith, ne_eqb, contains-holders_of))

-- an entry that goes: its frame has one slot less, and every other as many
pub holders-less : (E : Entries) (slot : Slot) (e : PageEntry) → map.get E slot ≡ Some e
    → (set.len (holders_of E e.frame) ≡ set.len (holders_of (map.remove E slot) e.frame) + 1) × ((f : ℕ) → f ≢ e.frame → holders_of (map.remove E slot) f ≡ holders_of E f)
holders-less E slot e found = (
  ap (λ x. set.len (holders_of x e.frame)) (sym back) ∙ ap set.len (holders-insert E' slot e) ∙ len-insert (holders_of E' e.frame) slot tt
      ∙ ap (λ b. cond b (set.len (holders_of E' e.frame)) (set.len (holders_of E' e.frame) + 1)) (contains-holders_of E' e.frame slot ∙ ap (names e.frame) (removed E slot)),
  λ f n. sym (ap (λ x. holders_of x f) (sym back) ∙ holders-other E' slot e f (ap (names f) (removed E slot)) (ne_eqb e.frame f (λ s. n (sym s)))),
)
  where
    E' : Entries
    E' = map.remove E slot

    back : map.insert E' slot e ≡ E
    back = put_back E slot e found

-- a lazy page gets a frame: one lazy page less
pub lazy-filled : (E : Entries) (slot : Slot) (old new : PageEntry) → map.get E slot ≡ Some old → old.frame ≡ 0 → new.frame ≢ 0 → lazy_count (map.insert E slot new) + 1 ≡ lazy_count E
lazy-filled E slot old new found lazy real =
    let same : holders_of (map.insert E slot new) 0 ≡ holders_of (map.remove E slot) 0 = same_holders (map.insert E slot new) (map.remove E slot) 0 (λ q.
    elim (same_or_not slot_order q slot) [
      | inl h ↦ ap (names 0) (get-insert E slot new q ∙ ap (λ b. cond b (Some new) (map.get E q)) h.1) ∙ ne_eqb new.frame 0 real ∙ sym (ap (names 0) (ap (map.get (map.remove E slot)) h.0 ∙ removed E slot))
      | inr h ↦ ap (names 0) (get-insert E slot new q ∙ ap (λ b. cond b (Some new) (map.get E q)) h) ∙ sym (ap (names 0) (kept_other E slot q (λ e. let b = same_itself slot_order slot in let c : same slot_order q slot ≡ true = ap (λ x. same slot_order x slot) e ∙ b in cc)))
    ]) in
    let l : set.len (holders_of (map.insert E slot new) 0) ≡ set.len (holders_of (map.remove E slot) old.frame) = ap set.len (same ∙ ap (holders_of (map.remove E slot)) (sym lazy)) in
    omega (arith, (holders-less E slot old found).0, l, ap (λ g. set.len (holders_of E g)) lazy)
