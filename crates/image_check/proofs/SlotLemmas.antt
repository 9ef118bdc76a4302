-- The pages of one slot, by the words of its table.
use Rattle.std.proofs.Common.{◌≡◌, ℕ, ◌+◌, ◌*◌, ◌<◌, Bool, true, false, ◌&&◌, length, refl, sym, ap, ◌∙◌, arith, inl, inr, Some, None, is_some}
use Rattle.std.specs.Prelude.{if◌then◌else◌}
use Rattle.std.specs.Option.{option_and_then}
use Rattle.std.proofs.lemmas.Bool.{cases_lt, lt-ltb, le-ltb}
use Rattle.page_words.specs.Addresses.{slot_number, index_number}
use Rattle.page_words.specs.Words.{is_present}
use Rattle.page_map.specs.Pages.{count_range}
use Rattle.page_map.proofs.PageLemmas.{count_range-same, count_range-none}
use Rattle.address_space.specs.Spaces.{at_page}
use Rattle.address_space.specs.Image as memory
use Rattle.address_space.specs.Image.{named_by, table_at, word_of, present_word, page_word}
use Rattle.memory_image.specs.Image.{Image, frames, process_at, directory_from, memory_of}
use Rattle.address_space.specs.ImageWords.{own_frame}
use Rattle.image_check.specs.Counts.{is_this, frame_of, names_by, maps_by, words_in}
use Rattle.image_check.specs.Adds.{frame_named, words_naming}
use Rattle.memory_image.proofs.ImageReads.{no_word}
use Rattle.memory_image.proofs.References.{directory_read}

module _ (image : Image) (p slot : ℕ) where
  abbrev M : memory.Image
  M = memory_of image

  -- the word of a page whose slot has a table
  word-in : (t i : ℕ) → i < 1024 → table_at M p slot ≡ Some t → page_word M (at_page p (1024 * slot + i)) ≡ present_word M t (word_of M t i)
  word-in t i low there =
      let region : slot_number (1024 * slot + i) ≡ slot = omega arith in
      let index : index_number (1024 * slot + i) ≡ i = omega arith in
      ap (λ x. option_and_then (λ t. present_word M t (word_of M t (index_number (1024 * slot + i)))) x) (ap (table_at M p) region ∙ there)
      ∙ ap (λ j. present_word M t (word_of M t j)) index

  no-word : (i : ℕ) → i < 1024 → table_at M p slot ≡ None → page_word M (at_page p (1024 * slot + i)) ≡ None
  no-word i low none =
      let region : slot_number (1024 * slot + i) ≡ slot = omega arith in
      ap (λ x. option_and_then (λ t. present_word M t (word_of M t (index_number (1024 * slot + i)))) x) (ap (table_at M p) region ∙ none)

  -- a word past the end is 0, and not present
  present-inside : length image.bytes ≡ 4096 * frames image → (t i : ℕ) → present_word M t (word_of M t i) ≡ (if is_present (word_of M t i) then Some (word_of M t i) else None)
  present-inside size t i = elim (cases_lt t (frames image)) [
    | inl inside ↦ ap (λ b. if b && is_present (word_of M t i) then Some (word_of M t i) else None) (lt-ltb t (frames image) inside)
    | inr past ↦
        let z : word_of M t i ≡ 0 = sym (no_word image.bytes (frames image) t i size past) in
        ap (λ b. if b && is_present (word_of M t i) then Some (word_of M t i) else None) (le-ltb t (frames image) past)
        ∙ sym (ap (λ w. if is_present w then Some w else None) z)
  ]

  some-if : (b : Bool) (w : ℕ) → is_some (if b then Some w else None) ≡ b
  some-if true w = refl
  some-if false w = refl

  pub pages_in_table : (t : ℕ) → length image.bytes ≡ 4096 * frames image → table_at M p slot ≡ Some t
      → words_in image t ≡ count_range (λ page. is_some (page_word M (at_page p page))) (1024 * slot) 1024
  pages_in_table t size there =
      count_range-same (λ i. is_present (word_of M t i)) (λ page. is_some (page_word M (at_page p page))) 0 (1024 * slot) 1024
      (λ i low. ap (λ k. is_present (word_of M t k)) (let e : 0 + i ≡ i = omega arith in e)
      ∙ sym (ap is_some (word-in t i low there ∙ present-inside size t i) ∙ some-if (is_present (word_of M t i)) (word_of M t i)))

  pub pages_without_table : table_at M p slot ≡ None → count_range (λ page. is_some (page_word M (at_page p page))) (1024 * slot) 1024 ≡ 0
  pages_without_table none = count_range-none (λ page. is_some (page_word M (at_page p page))) (1024 * slot) 1024 (λ i low. ap is_some (no-word i low none))

  named-if : (b : Bool) (w : ℕ) → option_and_then (own_frame image.version) (if b then Some w else None) ≡ (if b then own_frame image.version w else None)
  named-if true w = refl
  named-if false w = refl

  -- what a table adds to the counts
  pub maps_in_table : (t f : ℕ) → length image.bytes ≡ 4096 * frames image → table_at M p slot ≡ Some t
      → words_naming image t f ≡ count_range (λ page. is_this f (frame_of image p page)) (1024 * slot) 1024
  maps_in_table t f size there =
      count_range-same (λ i. is_this f (frame_named image t i)) (λ page. is_this f (frame_of image p page)) 0 (1024 * slot) 1024
      (λ i low. ap (λ k. is_this f (frame_named image t k)) (let e : 0 + i ≡ i = omega arith in e)
      ∙ sym (ap (λ x. is_this f (option_and_then (own_frame image.version) x)) (word-in t i low there ∙ present-inside size t i) ∙ ap (is_this f) (named-if (is_present (word_of M t i)) (word_of M t i))))

  pub maps_without_table : (f : ℕ) → table_at M p slot ≡ None → count_range (λ page. is_this f (frame_of image p page)) (1024 * slot) 1024 ≡ 0
  maps_without_table f none = count_range-none (λ page. is_this f (frame_of image p page)) (1024 * slot) 1024 (λ i low. ap (λ x. is_this f (option_and_then (own_frame image.version) x)) (no-word i low none))

-- ---- A process that isn't live names nothing

dead-table : (image : Image) (p s : ℕ) → process_at image p ≡ None → table_at (memory_of image) p s ≡ None
dead-table image p s none = ap (λ x. option_and_then (λ d. named_by s (word_of (memory_of image) d s)) x) (sym (directory_read image p (process_at image p) refl) ∙ ap directory_from none)

pub names_of_dead : (image : Image) (p : ℕ) → process_at image p ≡ None → (f : ℕ) → names_by image p f ≡ 0
names_of_dead image p none f = count_range-none (λ s. is_this f (table_at (memory_of image) p s)) 256 704 (λ i low. ap (is_this f) (dead-table image p (256 + i) none))

pub maps_of_dead : (image : Image) (p : ℕ) → process_at image p ≡ None → (f : ℕ) → maps_by image p f ≡ 0
maps_of_dead image p none f =
    count_range-none (λ page. is_this f (frame_of image p page)) 0x40000 0xb0000
    (λ i low. ap (λ x. is_this f (option_and_then (own_frame image.version) (option_and_then (λ t. present_word (memory_of image) t (word_of (memory_of image) t (index_number (0x40000 + i)))) x))) (dead-table image p (slot_number (0x40000 + i)) none))
