-- What a table word says in an image of each version.
use Rattle.std.specs.Prelude.{◌≡◌, ℕ, ◌≤◌, ◌⊎◌, Bool, true, false, ◌&&◌, ◌==◌, if◌then◌else◌, MatchBool, Option, Some, None}
use Rattle.address_space.specs.Below.{flag, frame_number, is_present, is_writable, is_user, is_accessed, is_dirty, has_may, is_lazy, is_granted, NamesPage}

-- whether the word's page is lazy: in version 1 none is
abbrev pub is_lazy_word : ℕ → ℕ → Bool
is_lazy_word version word = version == 2 && is_lazy word

-- whether the process may write to the word's page now: version 1 has no bit of its own for it
abbrev pub lets_write : ℕ → ℕ → Bool
lets_write version word = if version == 2 then is_granted word else is_writable word

-- the frame of its own that the word names
abbrev pub own_frame : ℕ → ℕ → Option ℕ
own_frame version word = if is_lazy_word version word then None else Some (frame_number word)

-- a table word with a page, as a kernel of version 1 writes it: it names a frame
pub record NamesRealPage (word : ℕ) : Type 0 where
  pub frame : 1 ≤ frame_number word
  pub present : is_present word ≡ true
  pub user : is_user word ≡ true
  pub bit_3 : flag word 3 ≡ false
  pub bit_4 : flag word 4 ≡ false
  pub bit_7 : flag word 7 ≡ false
  pub bit_8 : flag word 8 ≡ false
  pub bit_10 : flag word 10 ≡ false
  pub bit_11 : flag word 11 ≡ false
  pub right : is_writable word ≡ true → has_may word ≡ true
  pub touched : is_dirty word ≡ true → is_accessed word ≡ true

-- a table word with a page, as a kernel of this version writes it
abbrev pub NamesPageIn : ℕ → ℕ → Type 0
NamesPageIn version word = MatchBool (version == 2) (NamesPage word) (NamesRealPage word)

-- a table word that a kernel of this version writes
abbrev pub IsTableWord : ℕ → ℕ → Type 0
IsTableWord version word = (word ≡ 0) ⊎ NamesPageIn version word
