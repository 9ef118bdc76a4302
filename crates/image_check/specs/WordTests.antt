-- Whether a word is one that a kernel writes, as a test.
use Rattle.std.specs.Prelude.{ℕ, Bool, ◌&&◌, ◌||◌, ◌==◌, not, nat_le, if◌then◌else◌, List, [], ◌∷◌}
use Rattle.std.specs.List.{list_all}
use Rattle.std.specs.Bool.{Decides}
use Rattle.page_words.specs.Words.{flag, frame_number, is_present, is_writable, is_user, is_accessed, is_dirty, has_may, is_lazy, is_granted, NamesTable}
use Rattle.address_space.specs.ImageWords.{NamesPageIn}

-- each of these bits is 0
abbrev pub are_clear : ℕ → List ℕ → Bool
are_clear word places = list_all (λ k. not (flag word k)) places

-- whether a directory word links a table as the kernel writes it
abbrev pub names_table : ℕ → Bool
names_table word = nat_le 1 (frame_number word) && is_present word && is_writable word && is_user word && are_clear word (3 ∷ 4 ∷ 6 ∷ 7 ∷ 8 ∷ 9 ∷ 10 ∷ 11 ∷ [])

-- whether a holds only together with b
abbrev pub only_with : Bool → Bool → Bool
only_with a b = not a || b

-- the word of a page, as a kernel of version 1 writes it
abbrev pub names_real_page : ℕ → Bool
names_real_page word = nat_le 1 (frame_number word) && is_present word && is_user word && are_clear word (3 ∷ 4 ∷ 7 ∷ 8 ∷ 10 ∷ 11 ∷ [])
    && only_with (is_writable word) (has_may word) && only_with (is_dirty word) (is_accessed word)

-- the two are both true or both false
abbrev pub are_equal : Bool → Bool → Bool
are_equal a b = if a then b else not b

-- a lazy page is on frame 0 and clean, any other on another frame
abbrev pub is_lazy_or_real : ℕ → Bool
is_lazy_or_real word = if is_lazy word then frame_number word == 0 && not (is_dirty word) else nat_le 1 (frame_number word)

-- the word of a page, lazy or not, as a kernel of version 2 writes it
abbrev pub names_any_page : ℕ → Bool
names_any_page word = is_lazy_or_real word && is_present word && is_user word && are_clear word (3 ∷ 4 ∷ 7 ∷ 8 ∷ [])
    && are_equal (is_writable word) (is_granted word && not (is_lazy word))
    && only_with (is_granted word) (has_may word) && only_with (is_dirty word) (is_accessed word)

-- whether a table word is one of its version
abbrev pub names_page : ℕ → ℕ → Bool
names_page version word = if version == 2 then names_any_page word else names_real_page word

-- the tests say which words a kernel writes
abbrev pub TestsDecide : Type 0
TestsDecide = ((word : ℕ) → Decides (names_table word) (NamesTable word)) × ((version word : ℕ) → Decides (names_page version word) (NamesPageIn version word))
