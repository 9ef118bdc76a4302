-- What a contract sees of shadow tables: a finite map from slots, each a page of a process, to translations, and the
-- bytes of the pool that a processor walks.
use Rattle.std.specs.Prelude.{◌≡◌, ℕ, ◌+◌, ◌*◌, ◌%◌, Bool, true, not, ◌&&◌, if◌then◌else◌, List, length, replicate, slice_index_or, Option, Some, None, Result, Ok, Err, refl}
use Rattle.std.specs.Option.{option_map}
use Rattle.std.specs.declared.cmp.Ordering.{Ordering}
use Rattle.std.specs.declared.cmp.Ordering.TheVariants.{Less, Equal, Greater}
use Rattle.std.specs.Ordering.{nat_cmp, then_cmp, on, ordering_then}
use Rattle.std.specs.Cmp.{IsTotalOrder, nat_cmp_total, on_total, then_total}
use Rattle.std.specs.FinMap.{IsAntisymmetric, nat_cmp-IsAntisymmetric}
use Rattle.std.specs.Coded.{Coded, code_by, coded×, coded_ℕ, coded_bool, coded_list, coded_option}
use Rattle.page_words.specs.FiniteMap as map
use Rattle.page_words.specs.FiniteMap.{Order, Map}
use Rattle.page_words.specs.Codes.{map_code}
use Rattle.table_walk.specs.declared.Access.{Access}
use Rattle.table_walk.specs.Walk.{is_write}
use Rattle.shadow_tables.specs.LongWords.{entry_word}
use Rattle.shadow_tables.specs.declared.walk.LongEnd.{LongEnd}
use Rattle.shadow_tables.specs.declared.walk.LongEnd.TheVariants.{Missing, Denied}
use Rattle.shadow_tables.specs.declared.tables.Translation.{Translation}

-- a page of a process
pub record Slot : Type 0 where
  pub pid : ℕ
  pub page : ℕ

-- the slot of a page of a process
abbrev pub at_page : ℕ → ℕ → Slot
at_page p page = record { pid = p; page = page }

-- by process, then by page
abbrev pub slot_cmp : Slot → Slot → Ordering
slot_cmp = then_cmp (on (λ s. s.pid) nat_cmp) (on (λ s. s.page) nat_cmp)

both_equal : (a b : Ordering) → ordering_then a b ≡ Equal → (a ≡ Equal) × (b ≡ Equal)
both_equal Less b e = cc
both_equal Equal b e = (refl, e)
both_equal Greater b e = cc

pub slot_same : IsAntisymmetric slot_cmp
slot_same x y e =
    let ps = both_equal (nat_cmp x.pid y.pid) _ e in
    let p = nat_cmp-IsAntisymmetric _ _ ps.0 in
    let q = nat_cmp-IsAntisymmetric _ _ ps.1 in
    λ i. record { pid = p i; page = q i }

pub slot_total : IsTotalOrder slot_cmp
slot_total = then_total (on_total (λ s. s.pid) nat_cmp_total) (on_total (λ s. s.page) nat_cmp_total)

-- the order of slots: by process, then by page
abbrev pub slot_order : Order Slot
slot_order = record { cmp = slot_cmp; total = slot_total; same = slot_same }

-- for each slot that has one, its translation
abbrev pub Translations : Type 0
Translations = Map slot_order Translation

-- shadow tables, as a contract sees them
pub record Shadow : Type 0 where
  pub translations : Translations
  -- for each of the 64 processes the frame of the pool that is its root, where it has one
  pub roots : List (Option ℕ)
  -- for each process how many frames of the pool its tables take
  pub taken : List ℕ
  -- how many frames of the pool are free
  pub free : ℕ
  -- the bytes of the pool, and the physical address at which they lie
  pub bytes : List ℕ
  pub pool : ℕ
  -- the physical address at which frame 0 of the translations lies
  pub block : ℕ
  -- the upper half of each root
  pub kernel : List ℕ

-- the code of shadow tables
abbrev pub shadow_code : Coded Shadow
shadow_code =
    code_by (Translations × (List (Option ℕ) × (List ℕ × (ℕ × (List ℕ × (ℕ × (ℕ × List ℕ)))))))
    (coded× (map_code slot_code translation_code) (coded× (coded_list (coded_option coded_ℕ)) (coded× (coded_list coded_ℕ) (coded× coded_ℕ (coded× (coded_list coded_ℕ) (coded× coded_ℕ (coded× coded_ℕ (coded_list coded_ℕ))))))))
    (λ s. (s.translations, (s.roots, (s.taken, (s.free, (s.bytes, (s.pool, (s.block, s.kernel))))))))
    (λ p. record { translations = p.0; roots = p.1.0; taken = p.1.1.0; free = p.1.1.1.0; bytes = p.1.1.1.1.0; pool = p.1.1.1.1.1.0; block = p.1.1.1.1.1.1.0; kernel = p.1.1.1.1.1.1.1 })
    (λ _. refl)
  where
    slot_code : Coded Slot
    slot_code = code_by (ℕ × ℕ) (coded× coded_ℕ coded_ℕ) (λ s. (s.pid, s.page)) (λ p. record { pid = p.0; page = p.1 }) (λ _. refl)

    translation_code : Coded Translation
    translation_code = code_by (ℕ × Bool) (coded× coded_ℕ coded_bool) (λ t. (t.frame, t.write)) (λ p. record { frame = p.0; write = p.1 }) (λ _. refl)

-- the physical address of a frame of the pool
abbrev pub frame_address : ℕ → ℕ → ℕ
frame_address pool frame = pool + 4096 * frame

-- the root of a process, a frame of the pool
abbrev pub root_frame : Shadow → ℕ → Option ℕ
root_frame s p = slice_index_or s.roots p None

-- the physical address of a process's root
abbrev pub root_of : Shadow → ℕ → Option ℕ
root_of s p = option_map (frame_address s.pool) (root_frame s p)

-- the word that leads to a table of the pool, or to none
abbrev pub link_for : ℕ → Option ℕ → ℕ
link_for pool None = 0
link_for pool (Some frame) = entry_word (frame_address pool frame) true

-- the word of a translation, or of none
abbrev pub word_for : ℕ → Option Translation → ℕ
word_for block None = 0
word_for block (Some entry) = entry_word (frame_address block entry.frame) entry.write

-- how a walk ends at a page with this translation, or with none
abbrev pub shadow_end : ℕ → Option Translation → ℕ → Access → Result ℕ LongEnd
shadow_end block None address access = Err Missing
shadow_end block (Some t) address access = if is_write access && not t.write then Err Denied else Ok (block + 4096 * t.frame + address % 4096)

-- no translation, and all frames free
abbrev pub opening : List ℕ → ℕ → ℕ → ℕ → List ℕ → Shadow
opening bytes frames pool block kernel = record { translations = map.empty; roots = replicate 64 None; taken = replicate 64 0; free = frames; bytes = bytes; pool = pool; block = block; kernel = kernel }

-- where the pool and the translated frames lie, and what the kernel has in each root, is as before
pub record IsFixed (old new : Shadow) : Type 0 where
  pub pool : new.pool ≡ old.pool
  pub block : new.block ≡ old.block
  pub kernel : new.kernel ≡ old.kernel
  pub size : length new.bytes ≡ length old.bytes
