-- What a write of one word, and zeros in a frame, leave of the tables.
use Rattle.std.proofs.Common.{◌≡◌, ◌≢◌, ℕ, suc, ◌+◌, ◌*◌, ◌%◌, ◌^◌, ◌<◌, ◌≤◌, ◌⊎◌, true, length, replicate, refl, sym, ap, subst, ◌∙◌, arith, inl, inr}
use Rattle.std.specs.Prelude.{slice_index}
use Rattle.std.specs.List.{splice}
use Rattle.std.proofs.lemmas.Bool.{cases_eq, cases_lt}
use Rattle.shadow_tables.specs.declared.tables.Tables.{Tables}
use Rattle.shadow_tables.specs.declared.tables.Translation.{Translation}
use Rattle.shadow_tables.specs.LongWords.{long_at, with_long, long_place, entry_word}
use Rattle.shadow_tables.specs.Kernel.{IsKernelWord}
use Rattle.shadow_tables.specs.Shadow.{frame_address}
use Rattle.shadow_tables.specs.Holdings.{Places}
use Rattle.shadow_tables.specs.Tables.{frames_of, word_of, AreBlocks, LinksTo, Translates, IsWord, IsTable, SameBlocks}
use Rattle.shadow_tables.proofs.LongWordLemmas.{long_by_bytes, long_at-with_long_same, long_at-with_long_other, long_apart, byte-with_long_other, byte-zero_frame, byte-zero_other, long_of_zeros}

-- ---- Bytes

-- one word is written
pub record Wrote (t t' : Tables) (frame index word : ℕ) : Type 0 where
  pub blocks : SameBlocks t t'
  pub own : word_of t' frame index ≡ word
  pub others : (g j : ℕ) → j < 512 → (g ≡ frame → j ≢ index) → word_of t' g j ≡ word_of t g j
  pub upper : (g k : ℕ) → k < 2048 → (g ≡ frame → index < 256) → slice_index t'.bytes.items (4096 * g + 2048 + k) ≡ slice_index t.bytes.items (4096 * g + 2048 + k)

pub wrote : (t t' : Tables) (frame index word : ℕ) → AreBlocks t → SameBlocks t t' → frame < frames_of t → index < 512 → word < 2 ^ 64
    → t'.bytes.items ≡ with_long t.bytes.items (long_place frame index) word → Wrote t t' frame index word
wrote t t' frame index word are blocks inside below fits bytes =
    let room : long_place frame index + 8 ≤ length t.bytes.items = omega (arith, are.bytes) in
    record {
      blocks = blocks;
      own = ap (λ xs. long_at xs (long_place frame index)) bytes ∙ long_at-with_long_same t.bytes.items (long_place frame index) word room fits;
      others = λ g j l apart. ap (λ xs. long_at xs (long_place g j)) bytes
          ∙ elim (long_apart frame index g j below l) [
            | inl same ↦ absurd (apart same.0 same.1)
            | inr side ↦ long_at-with_long_other t.bytes.items (long_place frame index) (long_place g j) word room side
          ];
      upper = λ g k l half. ap (λ xs. slice_index xs (4096 * g + 2048 + k)) bytes
          ∙ byte-with_long_other t.bytes.items (long_place frame index) (4096 * g + 2048 + k) word room
          (elim (cases_eq g frame) [
            | inl e ↦ inr (let h = half e in omega arith)
            | inr n ↦ elim (cases_lt g frame) [ inl less ↦ inl (omega arith) | inr more ↦ inr (omega arith) ]
          ]);
    }

-- a frame is zero
pub record Cleared (t t' : Tables) (frame : ℕ) : Type 0 where
  pub blocks : SameBlocks t t'
  pub own : (j : ℕ) → j < 512 → word_of t' frame j ≡ 0
  pub others : (g j : ℕ) → j < 512 → g ≢ frame → word_of t' g j ≡ word_of t g j
  pub upper : (g k : ℕ) → k < 2048 → g ≢ frame → slice_index t'.bytes.items (4096 * g + 2048 + k) ≡ slice_index t.bytes.items (4096 * g + 2048 + k)

pub cleared : (t t' : Tables) (frame : ℕ) → AreBlocks t → SameBlocks t t' → frame < frames_of t
    → t'.bytes.items ≡ splice t.bytes.items (4096 * frame) (4096 * frame + 4096) (replicate 4096 0) → Cleared t t' frame
cleared t t' frame are blocks inside bytes =
    let room : 4096 * frame + 4096 ≤ length t.bytes.items = omega (arith, are.bytes) in
    let other : (g k : ℕ) → k < 4096 → g ≢ frame → slice_index t'.bytes.items (4096 * g + k) ≡ slice_index t.bytes.items (4096 * g + k) =
    λ g k l n. ap (λ xs. slice_index xs (4096 * g + k)) bytes
    ∙ byte-zero_other t.bytes.items frame (4096 * g + k) room (elim (cases_lt g frame) [ inl less ↦ inl (omega arith) | inr more ↦ inr (omega arith) ]) in
    record {
      blocks = blocks;
      own = λ j l. long_of_zeros t'.bytes.items (long_place frame j) (λ k b.
          let e : long_place frame j + k ≡ 4096 * frame + (8 * j + k) = omega arith in
          ap (slice_index t'.bytes.items) e ∙ ap (λ xs. slice_index xs (4096 * frame + (8 * j + k))) bytes ∙ byte-zero_frame t.bytes.items frame (8 * j + k) room (omega arith));
      others = λ g j l n. long_by_bytes t'.bytes.items t.bytes.items (long_place g j) (long_place g j) (λ k b.
          let e : long_place g j + k ≡ 4096 * g + (8 * j + k) = omega arith in
          ap (slice_index t'.bytes.items) e ∙ other g (8 * j + k) (omega arith) n ∙ ap (slice_index t.bytes.items) (sym e));
      upper = λ g k l n.
          let e : 4096 * g + 2048 + k ≡ 4096 * g + (2048 + k) = omega arith in
          ap (slice_index t'.bytes.items) e ∙ other g (2048 + k) (omega arith) n ∙ ap (slice_index t.bytes.items) (sym e);
    }

-- ---- Blocks

pub then_blocks : (t u v : Tables) → SameBlocks t u → SameBlocks u v → SameBlocks t v
then_blocks t u v a b = record { pool = b.pool ∙ a.pool; block = b.block ∙ a.block; kernel = b.kernel ∙ a.kernel; length = b.length ∙ a.length; frames = b.frames ∙ a.frames }

pub blocks_stay : (t t' : Tables) → AreBlocks t → SameBlocks t t' → length t'.roots ≡ 64 → AreBlocks t'
blocks_stay t t' are same roots =
    let pool = same.pool in
    let block = same.block in
    let frames = same.frames in
    record {
      bytes = same.length ∙ are.bytes ∙ ap (λ n. 4096 * n) (sym frames);
      kernel = ap (λ v. length v.items) same.kernel ∙ are.kernel;
      words = λ k below. subst (λ v. IsKernelWord (long_at v.items (8 * k))) (sym same.kernel) (are.words k below);
      roots = roots;
      pool = ap (λ n. n % 4096) pool ∙ are.pool;
      pool_end = omega (arith, are.pool_end, pool, frames);
      block = ap (λ n. n % 4096) block ∙ are.block;
      block_end = omega (arith, are.block_end, block);
    }

-- ---- Tables

-- the frames of a table's owner have their places as before
pub record SamePlaces (places places' : Places) (t t' : Tables) (table : ℕ) : Type 0 where
  pub blocks : SameBlocks t t'
  pub inside : table < frames_of t
  pub same : (g : ℕ) → g < frames_of t → (places g).owner ≡ (places table).owner → places' g ≡ places g

link_stays : (places places' : Places) (t t' : Tables) (table index below : ℕ) → SamePlaces places places' t t' table → word_of t' table index ≡ word_of t table index
    → LinksTo places t table index below → LinksTo places' t' table index below
link_stays places places' t t' table index below same word link =
    let own = same.same table same.inside refl in
    let its = same.same below link.inside link.owner in
    record {
      inside = omega (arith, link.inside, same.blocks.frames);
      word = word ∙ link.word ∙ ap (λ pool. entry_word (frame_address pool below) true) (sym same.blocks.pool);
      owner = ap (λ p. p.owner) its ∙ link.owner ∙ sym (ap (λ p. p.owner) own);
      depth = ap (λ p. p.depth) its ∙ link.depth ∙ sym (ap (λ p. suc p.depth) own);
      prefix = ap (λ p. p.prefix) its ∙ link.prefix ∙ sym (ap (λ p. 512 * p.prefix + index) own);
    }

entry_stays : (places places' : Places) (t t' : Tables) (table index : ℕ) (entry : Translation) → SamePlaces places places' t t' table → word_of t' table index ≡ word_of t table index
    → Translates places t table index entry → Translates places' t' table index entry
entry_stays places places' t t' table index entry same word is =
    let own = same.same table same.inside refl in
    let prefix : (places' table).prefix ≡ (places table).prefix = ap (λ p. p.prefix) own in
    let user = is.user in
    record {
      frame = is.frame;
      word = word ∙ is.word ∙ ap (λ block. entry_word (frame_address block entry.frame) entry.write) (sym same.blocks.block);
      user = (omega (arith, user.0, prefix), omega (arith, user.1, prefix));
    }

word_stays : (places places' : Places) (t t' : Tables) (table index : ℕ) → SamePlaces places places' t t' table → word_of t' table index ≡ word_of t table index
    → IsWord places t table index → IsWord places' t' table index
word_stays places places' t t' table index same word is =
    let own = same.same table same.inside refl in
    let depth : (places' table).depth ≡ (places table).depth = ap (λ p. p.depth) own in
    record {
      link = λ deep half. elim (is.link (omega (arith, depth)) (λ e. half (depth ∙ e))) [
        | inl none ↦ inl (word ∙ none)
        | inr more ↦ inr (more.0, link_stays places places' t t' table index more.0 same word more.1)
      ];
      page = λ deep. elim (is.page (sym depth ∙ deep)) [
        | inl none ↦ inl (word ∙ none)
        | inr more ↦ inr (more.0, entry_stays places places' t t' table index more.0 same word more.1)
      ];
    }

-- a table of which each word is as before, or is right in itself
pub table_stays : (places places' : Places) (t t' : Tables) (table : ℕ) → SamePlaces places places' t t' table
    → ((places table).depth ≡ 0 → (k : ℕ) → k < 2048 → slice_index t'.bytes.items (4096 * table + 2048 + k) ≡ slice_index t.bytes.items (4096 * table + 2048 + k))
    → ((i : ℕ) → i < 512 → (word_of t' table i ≡ word_of t table i) ⊎ IsWord places' t' table i)
    → IsTable places t table → IsTable places' t' table
table_stays places places' t t' table same upper words is =
    let own = same.same table same.inside refl in
    let depth : (places' table).depth ≡ (places table).depth = ap (λ p. p.depth) own in
    record {
      deep = omega (arith, is.deep, depth);
      words = λ i l. elim (words i l) [
        | inl word ↦ word_stays places places' t t' table i same word (is.words i l)
        | inr right ↦ right
      ];
      kernel = λ e k l. upper (sym depth ∙ e) k l ∙ is.kernel (sym depth ∙ e) k l ∙ ap (λ v. slice_index v.items k) (sym same.blocks.kernel);
    }

-- a word that is 0 is right at any place
pub zero_word : (places : Places) (t : Tables) (table index : ℕ) → word_of t table index ≡ 0 → IsWord places t table index
zero_word places t table index none = record { link = λ _ _. inl none; page = λ _. inl none }
