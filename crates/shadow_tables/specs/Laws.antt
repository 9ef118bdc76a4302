-- The laws of shadow tables: what the walk of a processor over the pool gives.
use Rattle.std.specs.Prelude.{◌≡◌, ℕ, suc, ◌+◌, ◌-◌, ◌*◌, ◌^◌, ◌<◌, ◌≤◌, true, is_some, Some, Ok}
use Rattle.std.specs.List.{slice_range}
use Rattle.page_words.specs.Addresses.{page_number, IsUserPage}
use Rattle.page_words.specs.FiniteMap as map
use Rattle.table_walk.specs.declared.Access.{Access}
use Rattle.shadow_tables.specs.LongWalk.{long_walk}
use Rattle.shadow_tables.specs.LongWords.{long_at, long_place}
use Rattle.shadow_tables.specs.Needs.{index_at, table_at}
use Rattle.shadow_tables.specs.Shadow.{Shadow, at_page, frame_address, root_frame, shadow_end, link_for, word_for}

-- the walk of each address of the lower half, from each root, ends as the translation of its page says
abbrev pub WalksAgree : Shadow → Type 0
WalksAgree s = (p root address : ℕ) (access : Access) → root_frame s p ≡ Some root → address < 2 ^ 47
    → long_walk s.bytes s.pool (frame_address s.pool root) address access
    ≡ shadow_end s.block (map.get s.translations (at_page p (page_number address))) address access

-- the word of an index of a frame
abbrev pub word_at : Shadow → ℕ → ℕ → ℕ
word_at s frame index = long_at s.bytes (long_place frame index)

-- Each word that leads to a table for pages of the lower half has the table's address and the flags of `entry_word`, or is
-- 0 if the table is missing. It has no other bit.
abbrev pub LinksAreExact : Shadow → Type 0
LinksAreExact s = (p page depth frame : ℕ) → page < 2 ^ 35 → depth < 3 → table_at s p page depth ≡ Some frame
    → word_at s frame (index_at depth page) ≡ link_for s.pool (table_at s p page (suc depth))

-- Each word of a page of the lower half has its frame's address and such flags, or is 0 if the page has no translation.
abbrev pub PagesAreExact : Shadow → Type 0
PagesAreExact s = (p page frame : ℕ) → page < 2 ^ 35 → table_at s p page 3 ≡ Some frame
    → word_at s frame (index_at 3 page) ≡ word_for s.block (map.get s.translations (at_page p page))

-- the upper half of each root is the kernel's, in the entries 256 to 511
abbrev pub KernelHalves : Shadow → Type 0
KernelHalves s = (p root : ℕ) → root_frame s p ≡ Some root → slice_range s.bytes (4096 * root + 2048) (4096 * root + 4096) ≡ s.kernel

-- the walk of no address of the upper half reaches a page
abbrev pub UpperHalvesAreClosed : Shadow → Type 0
UpperHalvesAreClosed s = (p root address physical : ℕ) (access : Access) → root_frame s p ≡ Some root → 2 ^ 64 - 2 ^ 47 ≤ address → address < 2 ^ 64
    → long_walk s.bytes s.pool (frame_address s.pool root) address access ≡ Ok physical → ⊥

-- only user pages of the 64 processes have translations
abbrev pub UserPagesOnly : Shadow → Type 0
UserPagesOnly s = (p page : ℕ) → is_some (map.get s.translations (at_page p page)) ≡ true → (p < 64) × IsUserPage page
