-- A walk from a table that is cached ends as the tables' translation of the page says.
use Rattle.std.proofs.Common.{◌≡◌, ℕ, zero, suc, ◌+◌, ◌-◌, ◌*◌, ◌/◌, ◌%◌, ◌^◌, ◌<◌, ◌≤◌, ◌⊎◌, inl, inr, Bool, true, false, List, [], ◌∷◌, Option, Some, None, Ok, Err, refl, sym, ap, subst, ◌∙◌, arith}
use Rattle.std.specs.Prelude.{Result, not, ◌&&◌}
use Rattle.std.specs.Option.{option_and_then}
use Rattle.page_words.specs.Addresses.{start_number}
use Rattle.page_words.specs.FiniteMap as map
use Rattle.page_words.specs.Words.{is_present, is_user, is_writable}
use Rattle.table_walk.specs.Walk.{first_that_applies}
use Rattle.table_walk.specs.declared.Access.{Access}
use Rattle.table_walk.specs.declared.Access.TheVariants.{Read, Write}
use Rattle.shadow_tables.specs.Laws.{word_at}
use Rattle.shadow_tables.specs.LongWalk.{holds_table, way_word, allows, is_marked, step_of, and_on, from_table, from_directory, from_pointers}
use Rattle.shadow_tables.specs.LongWords.{long_at, long_place, target_of, is_foreign, entry_word}
use Rattle.shadow_tables.specs.Needs.{index_at, table_at, table_named}
use Rattle.shadow_tables.specs.Shadow.{Shadow, at_page, frame_address, root_frame, shadow_end, link_for, word_for}
use Rattle.shadow_tables.specs.declared.tables.Translation.{Translation}
use Rattle.shadow_tables.specs.declared.walk.LongEnd.{LongEnd}
use Rattle.shadow_tables.specs.declared.walk.LongEnd.TheVariants.{Missing, Denied, Unmarked, Foreign}
use Rattle.long_mode_machine.specs.LongMode.{Processor, TableEntry, IsLinked, IsTabled, LeadsOn, walk_on}

-- the tables translate a page, to the frame at this physical address and with this right
pub record Translated (s : Shadow) (p at physical : ℕ) (access : Access) : Type 0 where
  pub translation : Translation
  pub there : map.get s.translations (at_page p at) ≡ Some translation
  pub ends : physical ≡ s.block + 4096 * translation.frame
  pub right : access ≡ Write → translation.write ≡ true

-- how a walk that reaches a frame ends, says the translation
pub walk_translates : (s : Shadow) (p at physical : ℕ) (access : Access)
    → shadow_end s.block (map.get s.translations (at_page p at)) (start_number at) access ≡ Ok physical → Translated s p at physical access
walk_translates s p at physical access = by (map.get s.translations (at_page p at)) refl access refl
  where
    ends_is : (n : ℕ) → ◌≡◌ {A = Result ℕ LongEnd} (Ok (s.block + 4096 * n + start_number at % 4096)) (Ok physical) → physical ≡ s.block + 4096 * n
    ends_is n e = (let sum : s.block + 4096 * n + start_number at % 4096 ≡ physical = cc in omega (arith, sum))

    by : (o : Option Translation) → map.get s.translations (at_page p at) ≡ o → (a : Access) → a ≡ access → shadow_end s.block o (start_number at) a ≡ Ok physical
        → Translated s p at physical access
    by None there a is e = cc
    by (Some t) there Read is e = record { translation = t; there = there; ends = ends_is t.frame e; right = λ w. cc }
    by (Some t) there Write is e = allowed t.write refl e
      where
        allowed : (w : Bool) → t.write ≡ w → shadow_end s.block (Some (record { frame = t.frame; write = w })) (start_number at) Write ≡ Ok physical → Translated s p at physical access
        allowed true can e = record { translation = t; there = there; ends = ends_is t.frame e; right = λ w. can }
        allowed false can e = cc

-- ---- One step

-- what a step says that goes on
record Says (word target : ℕ) (access : Access) : Type 0 where
  present : is_present word ≡ true
  allowed : allows word access ≡ true
  target_is : target_of word ≡ target

lines : (a b c d e : Bool) (next target : ℕ)
    → first_that_applies {X = Result ℕ LongEnd} ((not a, Err Foreign) ∷ (not b, Err Missing) ∷ (c, Err Foreign) ∷ (not d, Err Denied) ∷ (not e, Err Unmarked) ∷ []) (Ok next) ≡ Ok target
    → (b ≡ true) × (d ≡ true) × (next ≡ target)
lines false b c d e next target is = cc
lines true false c d e next target is = cc
lines true true true d e next target is = cc
lines true true false false e next target is = cc
lines true true false true false next target is = cc
lines true true false true true next target is = (refl, refl, cc)

step_says : (bytes : List ℕ) (pool table address : ℕ) (access : Access) (shift : ℕ) (is_last : Bool) (target : ℕ) → step_of bytes pool table address access shift is_last ≡ Ok target
    → Says (way_word bytes pool table address shift) target access
step_says bytes pool table address access shift is_last target is =
    let w = way_word bytes pool table address shift in
    let k = lines (holds_table bytes pool table) (is_present w) (is_foreign w) (allows w access) (is_marked w access is_last) (target_of w) target is in
    record { present = k.0; allowed = k.1; target_is = k.2 }

-- a walk that ends well goes on from somewhere
on_ok : (more : ℕ → Result ℕ LongEnd) (r : Result ℕ LongEnd) (physical : ℕ) → and_on more r ≡ Ok physical → (target : ℕ) × (r ≡ Ok target) × (more target ≡ Ok physical)
on_ok more (Ok target) physical e = (target, refl, e)
on_ok more (Err end) physical e = absurd (cc)

next_is : (more : ℕ → Result ℕ LongEnd) (a b physical : ℕ) → a ≡ b → more a ≡ Ok physical → more b ≡ Ok physical
next_is more a b physical same e = subst (λ (t : ℕ). more t ≡ Ok physical) same e

module _ (s : Shadow) (stands : IsTabled s) (p at physical : ℕ) (lower : at < 2 ^ 35) (access : Access) where
  abbrev address : ℕ
  address = start_number at

  -- where a walk reads the word of an index
  word_is : (f shift depth : ℕ) → address / 2 ^ shift % 512 ≡ index_at depth at → way_word s.bytes s.pool (frame_address s.pool f) address shift ≡ word_at s f (index_at depth at)
  word_is f shift depth index = ap (long_at s.bytes) (omega (arith, index))

  -- on to the next table
  link_on : (depth f shift target : ℕ) → depth < 3 → address / 2 ^ shift % 512 ≡ index_at depth at → table_at s p at depth ≡ Some f
      → step_of s.bytes s.pool (frame_address s.pool f) address access shift false ≡ Ok target
      → (g : ℕ) × (table_at s p at (suc depth) ≡ Some g) × (target ≡ frame_address s.pool g)
  link_on depth f shift target deep index is e =
      let says = step_says s.bytes s.pool (frame_address s.pool f) address access shift false target e in
      by (way_word s.bytes s.pool (frame_address s.pool f) address shift) says (table_at s p at (suc depth)) refl (word_is f shift depth index ∙ stands.links p at depth f lower deep is)
    where
      names : (g : ℕ) → target_of (entry_word (frame_address s.pool g) true) ≡ frame_address s.pool g
      names g = omega (arith, stands.aligned.pool)

      by : (word : ℕ) → Says word target access → (o : Option ℕ) → table_at s p at (suc depth) ≡ o → word ≡ link_for s.pool o
          → (g : ℕ) × (table_at s p at (suc depth) ≡ Some g) × (target ≡ frame_address s.pool g)
      by word says None there is = absurd (let e : true ≡ false = sym says.present ∙ ap is_present is in cc)
      by word says (Some g) there is = (g, there, sym says.target_is ∙ ap target_of is ∙ names g)

  -- the last step, to the page
  from_last : (f : ℕ) → table_at s p at 3 ≡ Some f → from_table s.bytes s.pool address access (frame_address s.pool f) ≡ Ok physical → Translated s p at physical access
  from_last f is e =
      let found = on_ok (λ page. Ok (page + address % 4096)) (step_of s.bytes s.pool (frame_address s.pool f) address access 12 true) physical e in
      let says = step_says s.bytes s.pool (frame_address s.pool f) address access 12 true found.0 found.1 in
      by (way_word s.bytes s.pool (frame_address s.pool f) address 12) found.0 says found.2 (map.get s.translations (at_page p at)) refl
      (word_is f 12 3 (omega arith) ∙ stands.pages p at f lower is)
    where
      target_is : (target : ℕ) → ◌≡◌ {A = Result ℕ LongEnd} (Ok (target + address % 4096)) (Ok physical) → target ≡ physical
      target_is target e = (let sum : target + address % 4096 ≡ physical = cc in omega (arith, sum))

      names : (n : ℕ) (write : Bool) → target_of (entry_word (frame_address s.block n) write) ≡ s.block + 4096 * n
      names n true = omega (arith, stands.aligned.block)
      names n false = omega (arith, stands.aligned.block)

      closed : (n : ℕ) → is_writable (entry_word (frame_address s.block n) false) ≡ false
      closed n = grind (arith, stands.aligned.block)

      writes : (t : Translation) (w : Bool) (word : ℕ) → t.write ≡ w → (a : Access) → allows word a ≡ true → word ≡ entry_word (frame_address s.block t.frame) w → a ≡ Write → t.write ≡ true
      writes t true word is a may there write = is
      writes t false word is Read may there write = cc
      writes t false word is Write may there write = absurd (let shut : is_writable word ≡ false = ap is_writable there ∙ closed t.frame in denied (is_user word) (is_writable word) shut may)
        where
          denied : (u w : Bool) → w ≡ false → (u && not (true && not w)) ≡ true → ⊥
          denied true true shut may = cc
          denied true false shut may = cc
          denied false w shut may = cc

      by : (word target : ℕ) → Says word target access → ◌≡◌ {A = Result ℕ LongEnd} (Ok (target + address % 4096)) (Ok physical) → (o : Option Translation)
          → map.get s.translations (at_page p at) ≡ o → word ≡ word_for s.block o → Translated s p at physical access
      by word target says end None there is = absurd (let e : true ≡ false = sym says.present ∙ ap is_present is in cc)
      by word target says end (Some t) there is =
          let reached : s.block + 4096 * t.frame ≡ physical = sym (names t.frame t.write) ∙ sym (ap target_of is) ∙ says.target_is ∙ target_is target end in
          record { translation = t; there = there; ends = sym reached; right = writes t t.write word refl access says.allowed is }

  from_two : (f : ℕ) → table_at s p at 2 ≡ Some f → from_directory s.bytes s.pool address access (frame_address s.pool f) ≡ Ok physical → Translated s p at physical access
  from_two f is e =
      let found = on_ok (from_table s.bytes s.pool address access) (step_of s.bytes s.pool (frame_address s.pool f) address access 21 false) physical e in
      let next = link_on 2 f 21 found.0 (omega arith) (omega arith) is found.1 in
      from_last next.0 next.1 (next_is (from_table s.bytes s.pool address access) found.0 (frame_address s.pool next.0) physical next.2 found.2)

  from_one : (f : ℕ) → table_at s p at 1 ≡ Some f → from_pointers s.bytes s.pool address access (frame_address s.pool f) ≡ Ok physical → Translated s p at physical access
  from_one f is e =
      let found = on_ok (from_directory s.bytes s.pool address access) (step_of s.bytes s.pool (frame_address s.pool f) address access 30 false) physical e in
      let next = link_on 1 f 30 found.0 (omega arith) (omega arith) is found.1 in
      from_two next.0 next.1 (next_is (from_directory s.bytes s.pool address access) found.0 (frame_address s.pool next.0) physical next.2 found.2)

-- ---- The table for another page

next_table : (s : Shadow) (i j : ℕ) (o q : Option ℕ) → i ≡ j → o ≡ q
    → option_and_then (λ frame. table_named s (long_at s.bytes (long_place frame i))) o ≡ option_and_then (λ frame. table_named s (long_at s.bytes (long_place frame j))) q
next_table s i j o q same one = ap (λ (i : ℕ). option_and_then (λ frame. table_named s (long_at s.bytes (long_place frame i))) o) same
    ∙ ap (option_and_then (λ frame. table_named s (long_at s.bytes (long_place frame j)))) one

first_same : (s : Shadow) (p a b : ℕ) → a / 2 ^ 27 ≡ b / 2 ^ 27 → table_at s p a 1 ≡ table_at s p b 1
first_same s p a b e = next_table s (index_at 0 a) (index_at 0 b) (root_frame s p) (root_frame s p) (omega (arith, e)) refl

second_same : (s : Shadow) (p a b : ℕ) → a / 2 ^ 18 ≡ b / 2 ^ 18 → table_at s p a 2 ≡ table_at s p b 2
second_same s p a b e = next_table s (index_at 1 a) (index_at 1 b) (table_at s p a 1) (table_at s p b 1) (omega (arith, e)) (first_same s p a b (omega (arith, e)))

third_same : (s : Shadow) (p a b : ℕ) → a / 2 ^ 9 ≡ b / 2 ^ 9 → table_at s p a 3 ≡ table_at s p b 3
third_same s p a b e = next_table s (index_at 2 a) (index_at 2 b) (table_at s p a 2) (table_at s p b 2) (omega (arith, e)) (second_same s p a b (omega (arith, e)))

one_of_three : (d : ℕ) → 1 ≤ d → d ≤ 3 → (d ≡ 1) ⊎ ((d ≡ 2) ⊎ (d ≡ 3))
one_of_three zero least most = absurd (omega (arith, least))
one_of_three (suc zero) least most = inl refl
one_of_three (suc (suc zero)) least most = inr (inl refl)
one_of_three (suc (suc (suc zero))) least most = inr (inr refl)
one_of_three (suc (suc (suc (suc n)))) least most = absurd (omega (arith, most))

pub table_translates : (s : Shadow) (c : Processor) (e : TableEntry) (at physical : ℕ) (access : Access) → IsTabled s → IsLinked s c e → LeadsOn e at
    → walk_on s e (start_number at) access ≡ Ok physical → Translated s e.pid at physical access
table_translates s c e at physical access stands linked on walk = elim (one_of_three e.depth on.least on.most) [
  | inl d ↦ from_one s stands e.pid at physical on.lower access e.frame (first_same s e.pid at e.page (same 1 d) ∙ there 1 d) (goes 1 d)
  | inr (inl d) ↦ from_two s stands e.pid at physical on.lower access e.frame (second_same s e.pid at e.page (same 2 d) ∙ there 2 d) (goes 2 d)
  | inr (inr d) ↦ from_last s stands e.pid at physical on.lower access e.frame (third_same s e.pid at e.page (same 3 d) ∙ there 3 d) (goes 3 d)
]
  where
    same : (d : ℕ) → e.depth ≡ d → at / 2 ^ (36 - 9 * d) ≡ e.page / 2 ^ (36 - 9 * d)
    same d is = subst (λ (d : ℕ). at / 2 ^ (36 - 9 * d) ≡ e.page / 2 ^ (36 - 9 * d)) is on.same

    there : (d : ℕ) → e.depth ≡ d → table_at s e.pid e.page d ≡ Some e.frame
    there d is = subst (λ (d : ℕ). table_at s e.pid e.page d ≡ Some e.frame) is linked.there

    goes : (d : ℕ) → e.depth ≡ d → walk_on s (record e { depth = d }) (start_number at) access ≡ Ok physical
    goes d is = subst (λ (d : ℕ). walk_on s (record e { depth = d }) (start_number at) access ≡ Ok physical) is walk
