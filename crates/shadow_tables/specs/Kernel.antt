-- The kernel's half of each root: 256 words of its own.
use Rattle.std.specs.Prelude.{◌≡◌, ℕ, ◌-◌, ◌*◌, ◌^◌, ◌<◌, ◌≤◌, ◌⊎◌, true, false, List}
use Rattle.page_words.specs.Words.{is_present, is_user, is_accessed}
use Rattle.shadow_tables.specs.LongWords.{long_at}

-- A word that is present is accessed, so that no processor writes it, and isn't one of user mode, so that no process
-- reaches anything through it.
pub record IsKernelWord (word : ℕ) : Type 0 where
  pub accessed : is_present word ≡ true → is_accessed word ≡ true
  pub closed : is_present word ≡ true → is_user word ≡ false

-- so it is with each word of a half
abbrev pub AreKernelWords : List ℕ → Type 0
AreKernelWords half = (k : ℕ) → k < 256 → IsKernelWord (long_at half (8 * k))

-- an address that a processor in long mode takes: bits 47 to 63 are all the same
abbrev pub IsCanonical : ℕ → Type 0
IsCanonical address = (address < 2 ^ 47) ⊎ ((2 ^ 64 - 2 ^ 47 ≤ address) × (address < 2 ^ 64))
