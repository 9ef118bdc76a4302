-- What the words that are written say.
use Rattle.page_map.proofs.Prelude
use Prelude.{◌≡◌, ◌≢◌, ℕ, ◌-◌, ◌^◌, ◌<◌, ◌≤◌, Bool, true, false, refl, ap, sym, ◌∙◌, subst, arith, inl, inr, not, ◌&&◌, or_lt, and_le_l, flag, with_flag, word_with_frame, frame_number, is_present, is_writable, is_accessed, is_dirty, has_may, is_lazy, is_granted, NamesPage, NamesTable, flag-with_flag_same, flag-with_flag_other, flag-with_frame, frame-with_flag, frame-with_frame, same_from_fields, same_cases, nat_order, PageEntry, entry_from, lets_writes, walked_word, entry_word, IsKernelEntry, link_word, word_table, word_entry}
use Rattle.std.specs.Prelude.{Some}
use Rattle.std.proofs.Math.Pow.{pow-lt}

-- a flag that was set before another one still reads
kept : (w k j : ℕ) (b c : Bool) → k < 32 → j < 32 → j ≢ k → flag w j ≡ c → flag (with_flag w k b) j ≡ c
kept w k j b c h i n e = flag-with_flag_other w k j b h i n ∙ e

-- a flag of an entry's word below the two that say lazy and granted
outer : (e : PageEntry) (j : ℕ) (c : Bool) → j < 10 → flag (walked_word e) j ≡ c → flag (entry_word e) j ≡ c
outer e j c l h = kept _ 11 j e.write c (omega arith) (omega arith) (omega arith) (kept _ 10 j e.lazy c (omega arith) (omega arith) (omega arith) h)

pub entry_word-present : (e : PageEntry) → is_present (entry_word e) ≡ true
entry_word-present e = outer e 0 true (omega arith)
    (kept _ 6 0 e.dirty true (omega arith) (omega arith) (omega arith)
    (kept _ 5 0 e.accessed true (omega arith) (omega arith) (omega arith)
    (kept _ 9 0 e.may true (omega arith) (omega arith) (omega arith)
    (kept _ 1 0 (lets_writes e) true (omega arith) (omega arith) (omega arith)
    (kept _ 2 0 true true (omega arith) (omega arith) (omega arith)
    (flag-with_flag_same (word_with_frame 0 e.frame) 0 true (omega arith)))))))

pub with_flag_lt : (w k : ℕ) (b : Bool) → w < 2 ^ 32 → k < 32 → with_flag w k b < 2 ^ 32
with_flag_lt w k true h i = or_lt 32 w (2 ^ k) h (pow-lt i)
with_flag_lt w k false h i = omega (arith, and_le_l w (2 ^ 32 - 1 - 2 ^ k))

-- a word and the frame that it names, in turn
record Keeps (w f : ℕ) : Type 0 where
  pub small : w < 2 ^ 32
  pub frame : frame_number w ≡ f

keeps : (w f k : ℕ) (b : Bool) → k < 12 → Keeps w f → Keeps (with_flag w k b) f
keeps w f k b h r = grind (arith, with_flag_lt, frame-with_flag)

entry_word-keeps : (e : PageEntry) → e.frame < 2 ^ 20 → Keeps (entry_word e) e.frame
entry_word-keeps e h =
    keeps _ _ 11 e.write (omega arith) (keeps _ _ 10 e.lazy (omega arith)
    (keeps _ _ 6 e.dirty (omega arith) (keeps _ _ 5 e.accessed (omega arith) (keeps _ _ 9 e.may (omega arith)
    (keeps _ _ 1 (lets_writes e) (omega arith) (keeps _ _ 2 true (omega arith) (keeps _ _ 0 true (omega arith)
    (record { small = omega arith; frame = frame-with_frame 0 e.frame }))))))))

-- what the processor reads in the word of an entry: whether writes go through
entry_word-writable : (e : PageEntry) → is_writable (entry_word e) ≡ lets_writes e
entry_word-writable e = outer e 1 (lets_writes e) (omega arith)
    (kept _ 6 1 e.dirty (lets_writes e) (omega arith) (omega arith) (omega arith)
    (kept _ 5 1 e.accessed (lets_writes e) (omega arith) (omega arith) (omega arith)
    (kept _ 9 1 e.may (lets_writes e) (omega arith) (omega arith) (omega arith) (flag-with_flag_same _ 1 (lets_writes e) (omega arith)))))

pub entry_from-entry_word : (e : PageEntry) → e.frame < 2 ^ 20 → entry_from (entry_word e) ≡ e
entry_from-entry_word e h =
    let write : is_granted (entry_word e) ≡ e.write = flag-with_flag_same _ 11 e.write (omega arith) in
    let lazy : is_lazy (entry_word e) ≡ e.lazy =
    kept _ 11 10 e.write e.lazy (omega arith) (omega arith) (omega arith) (flag-with_flag_same _ 10 e.lazy (omega arith)) in
    let may : has_may (entry_word e) ≡ e.may = outer e 9 e.may (omega arith)
    (kept _ 6 9 e.dirty e.may (omega arith) (omega arith) (omega arith)
    (kept _ 5 9 e.accessed e.may (omega arith) (omega arith) (omega arith) (flag-with_flag_same _ 9 e.may (omega arith)))) in
    let accessed : is_accessed (entry_word e) ≡ e.accessed = outer e 5 e.accessed (omega arith)
    (kept _ 6 5 e.dirty e.accessed (omega arith) (omega arith) (omega arith) (flag-with_flag_same _ 5 e.accessed (omega arith))) in
    let dirty : is_dirty (entry_word e) ≡ e.dirty = outer e 6 e.dirty (omega arith) (flag-with_flag_same _ 6 e.dirty (omega arith)) in
    let frame = (entry_word-keeps e h).frame in
    rw (frame, write, may, accessed, dirty, lazy) refl

pub entry_word-lt : (e : PageEntry) → e.frame < 2 ^ 20 → entry_word e < 2 ^ 32
entry_word-lt e h = (entry_word-keeps e h).small

pub word_entry-entry_word : (e : PageEntry) → e.frame < 2 ^ 20 → word_entry (entry_word e) ≡ Some e
word_entry-entry_word e h = rw (entry_word-present e, entry_from-entry_word e h) refl

-- a flag that an entry doesn't set
entry_flag : (e : PageEntry) (j : ℕ) → j < 10 → j ≢ 0 → j ≢ 1 → j ≢ 2 → j ≢ 5 → j ≢ 6 → j ≢ 9 → flag 0 j ≡ false → flag (entry_word e) j ≡ false
entry_flag e j l a b c d f g z = outer e j false l
    (kept _ 6 j e.dirty false (omega arith) (omega arith) f
    (kept _ 5 j e.accessed false (omega arith) (omega arith) d
    (kept _ 9 j e.may false (omega arith) (omega arith) g
    (kept _ 1 j (lets_writes e) false (omega arith) (omega arith) b
    (kept _ 2 j true false (omega arith) (omega arith) c
    (kept _ 0 j true false (omega arith) (omega arith) a
    (flag-with_frame 0 e.frame j (omega arith) ∙ z)))))))

pub entry_word-names : (e : PageEntry) → e.frame < 2 ^ 20 → IsKernelEntry e → NamesPage (entry_word e)
entry_word-names e h k =
    let from = entry_from-entry_word e h in
    let granted : is_granted (entry_word e) ≡ e.write = ap (λ (x : PageEntry). x.write) from in
    let lazy : is_lazy (entry_word e) ≡ e.lazy = ap (λ (x : PageEntry). x.lazy) from in
    let frame : frame_number (entry_word e) ≡ e.frame = (entry_word-keeps e h).frame in
    record {
      frame = λ real. subst (λ f. 1 ≤ f) (sym frame) (k.frame (sym lazy ∙ real));
      zero = λ is. frame ∙ k.zero (sym lazy ∙ is);
      clean = λ is. ap (λ (x : PageEntry). x.dirty) from ∙ k.clean (sym lazy ∙ is);
      present = entry_word-present e;
      writable = entry_word-writable e ∙ sym (λ i. granted i && not (lazy i));
      user = outer e 2 true (omega arith)
          (kept _ 6 2 e.dirty true (omega arith) (omega arith) (omega arith)
          (kept _ 5 2 e.accessed true (omega arith) (omega arith) (omega arith)
          (kept _ 9 2 e.may true (omega arith) (omega arith) (omega arith)
          (kept _ 1 2 (lets_writes e) true (omega arith) (omega arith) (omega arith)
          (flag-with_flag_same _ 2 true (omega arith))))));
      bit_3 = entry_flag e 3 (omega arith) (omega arith) (omega arith) (omega arith) (omega arith) (omega arith) (omega arith) refl;
      bit_4 = entry_flag e 4 (omega arith) (omega arith) (omega arith) (omega arith) (omega arith) (omega arith) (omega arith) refl;
      bit_7 = entry_flag e 7 (omega arith) (omega arith) (omega arith) (omega arith) (omega arith) (omega arith) (omega arith) refl;
      bit_8 = entry_flag e 8 (omega arith) (omega arith) (omega arith) (omega arith) (omega arith) (omega arith) (omega arith) refl;
      right = λ w. ap (λ (x : PageEntry). x.may) from ∙ k.right (sym granted ∙ w);
      touched = λ d. ap (λ (x : PageEntry). x.accessed) from ∙ k.touched (sym (ap (λ (x : PageEntry). x.dirty) from) ∙ d);
    }

-- a flag that reads alike in two words does so after the same flag was set in both
alike : (v w k j : ℕ) (b c : Bool) → k < 32 → j < 32 → (j ≡ k → b ≡ c) → flag v j ≡ flag w j → flag (with_flag v k b) j ≡ flag (with_flag w k c) j
alike v w k j b c h i values same = grind (arith, same_cases, flag-with_flag_same, flag-with_flag_other)

-- the entry of a copy on this frame
abbrev copy : PageEntry → ℕ → PageEntry
copy e f = record e { frame = f; accessed = false; dirty = false }

copy_flag : (e : PageEntry) (f j : ℕ) → j < 12 → j ≢ 5 → j ≢ 6 → flag (entry_word e) j ≡ flag (entry_word (copy e f)) j
copy_flag e f j l a d =
    let i : j < 32 = omega (arith, l) in
    alike _ _ 11 j e.write e.write (omega arith) i (λ _. refl)
    (alike _ _ 10 j e.lazy e.lazy (omega arith) i (λ _. refl)
    (alike _ _ 6 j e.dirty false (omega arith) i (λ is. absurd (d is))
    (alike _ _ 5 j e.accessed false (omega arith) i (λ is. absurd (a is))
    (alike _ _ 9 j e.may e.may (omega arith) i (λ _. refl)
    (alike _ _ 1 j (lets_writes e) (lets_writes e) (omega arith) i (λ _. refl)
    (alike _ _ 2 j true true (omega arith) i (λ _. refl)
    (alike _ _ 0 j true true (omega arith) i (λ _. refl)
    (flag-with_frame 0 e.frame j l ∙ sym (flag-with_frame 0 f j l)))))))))

-- the word of a copy is the page's word with another frame, and untouched
pub entry_word-copy : (e : PageEntry) (f : ℕ) → f < 2 ^ 20 → with_flag (with_flag (word_with_frame (entry_word e) f) 5 false) 6 false ≡ entry_word (copy e f)
entry_word-copy e f small = same_from_fields _ _ frame flags
  where
    named : ℕ
    named = word_with_frame (entry_word e) f

    from : entry_from (entry_word (copy e f)) ≡ copy e f
    from = entry_from-entry_word (copy e f) small

    frame : frame_number (with_flag (with_flag named 5 false) 6 false) ≡ frame_number (entry_word (copy e f))
    frame =
        (keeps _ f 6 false (omega arith) (keeps _ f 5 false (omega arith) (record { small = omega (arith, small); frame = frame-with_frame (entry_word e) f }))).frame
        ∙ sym (entry_word-keeps (copy e f) small).frame

    flags : (j : ℕ) → j < 12 → flag (with_flag (with_flag named 5 false) 6 false) j ≡ flag (entry_word (copy e f)) j
    flags j l = elim (same_cases nat_order j 6) [
      | inl six ↦ ap (flag (with_flag (with_flag named 5 false) 6 false)) six.0 ∙ flag-with_flag_same _ 6 false (omega arith)
          ∙ sym (ap (λ (x : PageEntry). x.dirty) from) ∙ sym (ap (flag (entry_word (copy e f))) six.0)
      | inr past ↦ flag-with_flag_other _ 6 j false (omega arith) (omega (arith, l)) past.0 ∙ elim (same_cases nat_order j 5) [
        | inl five ↦ ap (flag (with_flag named 5 false)) five.0 ∙ flag-with_flag_same named 5 false (omega arith)
            ∙ sym (ap (λ (x : PageEntry). x.accessed) from) ∙ sym (ap (flag (entry_word (copy e f))) five.0)
        | inr other ↦ flag-with_flag_other named 5 j false (omega arith) (omega (arith, l)) other.0 ∙ flag-with_frame (entry_word e) f j l ∙ copy_flag e f j l other.0 past.0
      ]
    ]

link_keeps : (t : ℕ) → t < 2 ^ 20 → Keeps (link_word t) t
link_keeps t h =
    keeps _ _ 2 true (omega arith) (keeps _ _ 1 true (omega arith) (keeps _ _ 0 true (omega arith)
    (record { small = omega arith; frame = frame-with_frame 0 t })))

pub link_word-lt : (t : ℕ) → t < 2 ^ 20 → link_word t < 2 ^ 32
link_word-lt t h = (link_keeps t h).small

pub link_word-present : (t : ℕ) → is_present (link_word t) ≡ true
link_word-present t =
    kept _ 2 0 true true (omega arith) (omega arith) (omega arith)
    (kept _ 1 0 true true (omega arith) (omega arith) (omega arith)
    (flag-with_flag_same (word_with_frame 0 t) 0 true (omega arith)))

pub word_table-link_word : (t : ℕ) → t < 2 ^ 20 → word_table (link_word t) ≡ Some t
word_table-link_word t h = rw (link_word-present t, (link_keeps t h).frame) refl

link_flag : (t j : ℕ) → j < 12 → j ≢ 0 → j ≢ 1 → j ≢ 2 → flag 0 j ≡ false → flag (link_word t) j ≡ false
link_flag t j l a b c z =
    kept _ 2 j true false (omega arith) (omega arith) c
    (kept _ 1 j true false (omega arith) (omega arith) b
    (kept _ 0 j true false (omega arith) (omega arith) a
    (flag-with_frame 0 t j l ∙ z)))

pub link_word-names : (t : ℕ) → t < 2 ^ 20 → 1 ≤ t → NamesTable (link_word t)
link_word-names t h o = record {
  frame = omega (arith, (link_keeps t h).frame);
  present = link_word-present t;
  writable = kept _ 2 1 true true (omega arith) (omega arith) (omega arith) (flag-with_flag_same _ 1 true (omega arith));
  user = flag-with_flag_same _ 2 true (omega arith);
  bit_3 = link_flag t 3 (omega arith) (omega arith) (omega arith) (omega arith) refl;
  bit_4 = link_flag t 4 (omega arith) (omega arith) (omega arith) (omega arith) refl;
  bit_6 = link_flag t 6 (omega arith) (omega arith) (omega arith) (omega arith) refl;
  bit_7 = link_flag t 7 (omega arith) (omega arith) (omega arith) (omega arith) refl;
  bit_8 = link_flag t 8 (omega arith) (omega arith) (omega arith) (omega arith) refl;
  bit_9 = link_flag t 9 (omega arith) (omega arith) (omega arith) (omega arith) refl;
  bit_10 = link_flag t 10 (omega arith) (omega arith) (omega arith) (omega arith) refl;
  bit_11 = link_flag t 11 (omega arith) (omega arith) (omega arith) (omega arith) refl;
}
