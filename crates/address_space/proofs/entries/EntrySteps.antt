-- How tables and entries change where one frame, one word or one role does.
use Rattle.address_space.proofs.Prelude.{◌≡◌, ◌≢◌, ℕ, ◌^◌, ◌<◌, ◌≤◌, true, false, cond, length, refl, ap, sym, ◌∙◌, subst, arith, inl, inr, Option, Some, None, option_and_then, list_any, cases_eq, slot_number, index_number, IsKernelTableWord, is_present, word_in, with_word_in, with_frame, with_frame-same, with_frame-other, word_in_same, word_in_other, length-with_word_in, Reserved, Directory, Table, PageEntry, Frames, word_table, table_of, word_entry, entry_at, Slot, slot_order, at_page, same, user_slots, same_or_not, same_itself, get-insert, same_map, get-collect, Directories, Roles, table_in, entry_in, entries_in, Tables, InUseAt}
use Rattle.address_space.proofs.entries.UserSlots.{in_user_slots}
use Rattle.address_space.proofs.entries.Removal.{removed, kept_other}
use Rattle.page_words.specs.FiniteMap as map

-- memory with another word at a page, in this table
abbrev pub with_word_at : Frames → ℕ → ℕ → ℕ → Frames
with_word_at m table page w = with_frame m table (with_word_in (m table) (index_number page) w)

-- a frame that is no directory, no table and not the reserved one
pub record Loose (R : Roles) (f : ℕ) : Type 0 where
  pub no_directory : (p : ℕ) → R f ≢ Some (Directory p)
  pub no_table : (p s : ℕ) → R f ≢ Some (Table p s)
  pub not_reserved : R f ≢ Some Reserved

pub get-entries_in : (D : Directories) (m : Frames) (q : Slot) → map.get (entries_in D m) q ≡ cond (list_any (same slot_order q) user_slots) (entry_in D m q) None
unfolding entries_in
get-entries_in D m q = get-collect slot_order (entry_in D m) user_slots q

pub differ : (q slot : Slot) → same slot_order q slot ≡ false → q ≡ slot → ⊥
differ q slot h k = let b = same_itself slot_order slot in let c : same slot_order q slot ≡ true = ap (λ x. same slot_order x slot) k ∙ b in cc

-- an entry, by its table
pub entry_by_table : (D : Directories) (m : Frames) (q : Slot) → entry_in D m q ≡ option_and_then (λ table. word_entry (word_in (m table) (index_number q.page))) (table_in D m q.pid (slot_number q.page))
entry_by_table D m q = grind arith

-- an entry stays where its table does, with its bytes
pub entry_kept : (D D' : Directories) (m m' : Frames) (q : Slot) → table_in D' m' q.pid (slot_number q.page) ≡ table_in D m q.pid (slot_number q.page)
    → ((t : ℕ) → table_in D m q.pid (slot_number q.page) ≡ Some t → m' t ≡ m t) → entry_in D' m' q ≡ entry_in D m q
entry_kept D D' m m' q same kept = grind (arith, entry_by_table)

-- where each process has the same entries, so has the whole
pub same_entries : (D : Directories) (m m' : Frames) → ((q : Slot) → entry_in D m' q ≡ entry_in D m q) → entries_in D m' ≡ entries_in D m
same_entries D m m' is = same_map _ _ (λ q. get-entries_in D m' q ∙ ap (λ x. cond (list_any (same slot_order q) user_slots) x None) (is q) ∙ sym (get-entries_in D m q))

-- ---- One entry is written into a table

module _ (D : Directories) (m : Frames) (R : Roles) (T : Tables D m R) (p d page t : ℕ) (w : ℕ) (live : D p ≡ Some d) (there : table_of m d (slot_number page) ≡ Some t) (lt : w < 2 ^ 32) where
  named : table_in D m p (slot_number page) ≡ Some t
  named = ap (option_and_then (λ d. table_of m d (slot_number page))) live ∙ there

  role_t : R t ≡ Some (Table p (slot_number page))
  role_t = T.table p (slot_number page) t named

  long_t : length (m t) ≡ 4096
  long_t = T.long t (Table p (slot_number page)) role_t

  pub dir_kept : (q d' : ℕ) → D q ≡ Some d' → with_word_at m t page w d' ≡ m d'
  dir_kept q d' is = with_frame-other m t d' _ (λ same. let r = T.directory q d' is in let s = role_t in let k : R d' ≡ R t = ap R same in cc)

  pub tables_kept : (q s : ℕ) → table_in D (with_word_at m t page w) q s ≡ table_in D m q s
  tables_kept q s = grind (arith, dir_kept)

  pub entry_own : entry_in D (with_word_at m t page w) (at_page p page) ≡ word_entry w
  entry_own = grind (arith, dir_kept, with_frame-same, word_in_same, long_t)

  pub entry_other : (q : Slot) → (q ≡ record { pid = p; page = page } → ⊥) → entry_in D (with_word_at m t page w) q ≡ entry_in D m q
  entry_other q n = by (D q.pid) refl
    where
      word : (d' t' : ℕ) → D q.pid ≡ Some d' → table_of m d' (slot_number q.page) ≡ Some t' → word_in (with_word_at m t page w t') (index_number q.page) ≡ word_in (m t') (index_number q.page)
      word d' t' is found = elim (cases_eq t' t) [
        | inl same ↦
            let r : R t' ≡ Some (Table q.pid (slot_number q.page)) = T.table q.pid (slot_number q.page) t' (ap (option_and_then (λ d. table_of m d (slot_number q.page))) is ∙ found) in
            let k : R t' ≡ R t = ap R same in
            let s = role_t in
            let pid : q.pid ≡ p = cc in
            let slot : slot_number q.page ≡ slot_number page = cc in
            ap (λ g. word_in (with_word_at m t page w g) (index_number q.page)) same
            ∙ ap (λ l. word_in l (index_number q.page)) (with_frame-same m t (with_word_in (m t) (index_number page) w))
            ∙ word_in_other (m t) (index_number page) (index_number q.page) w long_t (omega arith) (λ i. n (let h : q.page ≡ page = omega arith in λ j. record { pid = pid j; page = h j }))
            ∙ ap (λ g. word_in (m g) (index_number q.page)) (sym same)
        | inr differ ↦ ap (λ l. word_in l (index_number q.page)) (with_frame-other m t t' _ differ)
      ]

      by : (x : Option ℕ) → D q.pid ≡ x → option_and_then (λ d. entry_at (with_word_at m t page w) d q.page) x ≡ option_and_then (λ d. entry_at m d q.page) x
      by None is = refl
      by (Some d') is =
          ap (option_and_then (λ table. word_entry (word_in (with_word_at m t page w table) (index_number q.page)))) (ap (λ l. word_table (word_in l (slot_number q.page))) (dir_kept q.pid d' is))
          ∙ (grind (arith, word))

  -- the whole map has that entry more
  pub entries-insert : (e : PageEntry) → word_entry w ≡ Some e → p < 64 → 0x40000 ≤ page → page < 0xf0000 → entries_in D (with_word_at m t page w) ≡ map.insert (entries_in D m) (at_page p page) e
  entries-insert e holds few low high = same_map _ _ (λ q.
      get-entries_in D (with_word_at m t page w) q
      ∙ elim (same_or_not slot_order q (at_page p page)) [
        | inl h ↦ grind (arith, in_user_slots, entry_own, get-insert)
        | inr h ↦ grind (arith, entry_other, differ, get-entries_in, get-insert)
      ])

  word_kept : (t' i : ℕ) → i < 1024 → IsKernelTableWord w → IsKernelTableWord (word_in (m t') i) → IsKernelTableWord (word_in (with_word_at m t page w t') i)
  word_kept t' i small_i good old = elim (cases_eq t' t) [
    | inl same_t ↦ elim (cases_eq i (index_number page)) [
      | inl same_i ↦ (subst IsKernelTableWord (sym (ap (λ g. word_in (with_word_at m t page w g) i) same_t ∙ ap (λ l. word_in l i) (with_frame-same m t (with_word_in (m t) (index_number page) w)) ∙ ap (word_in (with_word_in (m t) (index_number page) w)) same_i ∙ word_in_same (m t) (index_number page) w long_t (omega arith) lt)) good)
      | inr differ ↦ subst IsKernelTableWord (sym (ap (λ g. word_in (with_word_at m t page w g) i) same_t ∙ ap (λ l. word_in l i) (with_frame-same m t (with_word_in (m t) (index_number page) w)) ∙ word_in_other (m t) (index_number page) i w long_t (omega arith) differ ∙ ap (λ g. word_in (m g) i) (sym same_t))) old
    ]
    | inr differ ↦ subst (λ l. IsKernelTableWord (word_in l i)) (sym (with_frame-other m t t' _ differ)) old
  ]

  pub tables-entry : IsKernelTableWord w → Tables D (with_word_at m t page w) R
  tables-entry good =
      grind (
        arith,
        with_frame-other,
        role_t,
        tables_kept,
        dir_kept,
        word_kept,
        cases_eq,
        with_frame-same,
        length-with_word_in,
        long_t,
        differ,
      )

  pub use_own : is_present w ≡ true → InUseAt D (with_word_at m t page w) p (slot_number page)
  use_own present g found =
      let k : Some g ≡ Some t = sym found ∙ tables_kept p (slot_number page) ∙ named in
      let same : g ≡ t = cc in
      (index_number page, omega arith, ap is_present (grind (arith, with_frame-same, word_in_same, long_t)) ∙ present)

  pub use_kept : is_present w ≡ true → (q r : ℕ) → InUseAt D m q r → InUseAt D (with_word_at m t page w) q r
  use_kept present q r use_at g found = elim (cases_eq g t) [
    | inl same ↦ (index_number page, omega arith, grind (arith, with_frame-same, word_in_same, long_t))
    | inr differ ↦ let u = use_at g (sym (tables_kept q r) ∙ found) in (u.0, u.1, ap (λ l. is_present (word_in l u.0)) (with_frame-other m t g _ differ) ∙ u.2)
  ]

  -- the whole map has that entry no more
  pub entries-remove : word_entry w ≡ None → entries_in D (with_word_at m t page w) ≡ map.remove (entries_in D m) (at_page p page)
  entries-remove holds = same_map _ _ (λ q.
      get-entries_in D (with_word_at m t page w) q
      ∙ elim (same_or_not slot_order q (at_page p page)) [
        | inl h ↦ grind (arith, entry_own, removed)
        | inr h ↦ grind (arith, entry_other, differ, get-entries_in, kept_other)
      ])
