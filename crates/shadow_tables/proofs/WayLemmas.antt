-- The way from a root to the table of a page: where its tables have their places, and which changes leave it.
use Rattle.std.proofs.Common.{◌≡◌, ℕ, zero, suc, ◌+◌, ◌*◌, ◌/◌, ◌^◌, ◌<◌, ◌≤◌, ◌⊎◌, true, length, Option, Some, None, refl, sym, ap, subst, ◌∙◌, arith, inl, inr}
use Rattle.std.proofs.lemmas.Bool.{cases_eq, cases_lt}
use Rattle.std.proofs.lemmas.List.{get_or_past}
use Rattle.std.proofs.lemmas.Bool.Decides.{nat_tests}
use Rattle.std.specs.Option.{option_and_then}
use Rattle.page_words.specs.Addresses.{IsUserPage}
use Rattle.shadow_tables.specs.declared.tables.Tables.{Tables}
use Rattle.shadow_tables.specs.LongWords.{entry_word}
use Rattle.shadow_tables.specs.Shadow.{Shadow, frame_address}
use Rattle.shadow_tables.specs.Holdings.{Places}
use Rattle.shadow_tables.specs.Tables.{frames_of, word_of, named_by, index_at, prefix_at, way, missing_in, shared_in, WaysStay, translation_in, translation_at, seen_as, AreBlocks, AreTables, LinksTo, IsTable, SameBlocks}
use Rattle.shadow_tables.specs.Needs.{if_missing, table_at, table_named, named_within, frames_needed, shared_missing, TablesStay}
use Rattle.shadow_tables.proofs.LongWordLemmas.{SaysEntry, says_entry}

-- ---- Steps of an option

pub then_some : {X : Type 0} (f : ℕ → Option X) (o : Option ℕ) (v : X) → option_and_then f o ≡ Some v → (g : ℕ) × (o ≡ Some g) × (f g ≡ Some v)
then_some f None v e = absurd (cc)
then_some f (Some g) v e = (g, refl, e)

pub same_then : {X : Type 0} (f f' : ℕ → Option X) (o o' : Option ℕ) → o' ≡ o → ((g : ℕ) → o ≡ Some g → f' g ≡ f g) → option_and_then f' o' ≡ option_and_then f o
same_then f f' None o' e h = ap (option_and_then f') e
same_then f f' (Some g) o' e h = ap (option_and_then f') e ∙ h g refl

-- ---- The parts of a page's number

pub prefix_at-next : (d page : ℕ) → d < 3 → prefix_at (suc d) page ≡ 512 * prefix_at d page + index_at d page
prefix_at-next zero page h = omega arith
prefix_at-next (suc zero) page h = omega arith
prefix_at-next (suc (suc zero)) page h = omega arith
prefix_at-next (suc (suc (suc d))) page h = absurd (omega arith)

pub prefix_at-root : (page : ℕ) → page < 2 ^ 35 → prefix_at 0 page ≡ 0
prefix_at-root page h = omega arith

pub prefix_at-last : (page : ℕ) → 512 * prefix_at 3 page + index_at 3 page ≡ page
prefix_at-last page = omega arith

pub index_at-below : (d page : ℕ) → index_at d page < 512
index_at-below d page = omega arith

pub index_at-root : (page : ℕ) → page < 2 ^ 35 → index_at 0 page < 256
index_at-root page h = omega arith

-- ---- What a word names

pub named_by-link : (t : Tables) (g : ℕ) → AreBlocks t → g < frames_of t → named_by t (entry_word (frame_address t.pool g) true) ≡ Some g
named_by-link t g b l =
    let pool = b.pool in
    let whole : frame_address t.pool g ≡ 4096 * (t.pool / 4096 + g) = omega arith in
    let says : SaysEntry (entry_word (frame_address t.pool g) true) (4096 * (t.pool / 4096 + g)) true =
    subst (λ (a : ℕ). SaysEntry (entry_word a true) (4096 * (t.pool / 4096 + g)) true) (sym whole) (says_entry (t.pool / 4096 + g) true (omega (arith, b.pool_end, pool))) in
    let present = says.present in
    let number : entry_word (frame_address t.pool g) true / 4096 ≡ t.pool / 4096 + g = omega (arith, says.target_is) in
    grind (arith, nat_tests)

-- ---- The places of tables on the way

-- a table for a page, of this depth
pub record IsAt (places : Places) (t : Tables) (p page d frame : ℕ) : Type 0 where
  pub inside : frame < frames_of t
  pub owner : (places frame).owner ≡ p
  pub depth : (places frame).depth ≡ d
  pub prefix : (places frame).prefix ≡ prefix_at d page

-- a word on the way is 0, or leads on
pub next_at : (places : Places) (t : Tables) (p page d frame : ℕ) → AreTables places t → p < 64 → page < 2 ^ 35 → d < 3 → IsAt places t p page d frame
    → (word_of t frame (index_at d page) ≡ 0) ⊎ ((below : ℕ) × LinksTo places t frame (index_at d page) below)
next_at places t p page d frame are process lower deep at =
    let table : IsTable places t frame = are.tables frame at.inside (omega (arith, at.owner)) in
    (table.words (index_at d page) (index_at-below d page)).link (omega (arith, at.depth)) (λ none. let e = ap (λ d. index_at d page) (sym at.depth ∙ none) in omega (arith, e, index_at-root page lower))

pub linked_at : (places : Places) (t : Tables) (p page d frame below : ℕ) → d < 3 → IsAt places t p page d frame → LinksTo places t frame (index_at d page) below → IsAt places t p page (suc d) below
linked_at places t p page d frame below deep at link = record {
  inside = link.inside;
  owner = link.owner ∙ at.owner;
  depth = link.depth ∙ ap suc at.depth;
  prefix = link.prefix ∙ (let e = at.prefix in omega (arith, e, prefix_at-next d page deep));
}

pub some_same : (g h : ℕ) → ◌≡◌ {A = Option ℕ} (Some g) (Some h) → g ≡ h
some_same g h e = cc

pub none_some : (g : ℕ) → ◌≡◌ {A = Option ℕ} None (Some g) → ⊥
none_some g e = cc

module _ (places : Places) (t : Tables) (are : AreTables places t) (p page : ℕ) (process : p < 64) (lower : page < 2 ^ 35) where
  pub place_of_way : (d frame : ℕ) → d ≤ 3 → way t p page d ≡ Some frame → IsAt places t p page d frame
  place_of_way zero frame deep is =
      let root = are.roots p frame process is in
      record { inside = root.inside; owner = root.owner; depth = root.depth; prefix = root.prefix ∙ sym (prefix_at-root page lower) }
  place_of_way (suc d) frame deep is =
      let step = then_some (λ f. named_by t (word_of t f (index_at d page))) (way t p page d) frame is in
      let at = place_of_way d step.0 (omega arith) step.1 in
      elim (next_at places t p page d step.0 are process lower (omega arith) at) [
        | inl none ↦ absurd (none_some frame (sym (ap (named_by t) none) ∙ step.2))
        | inr more ↦
            let e : more.0 ≡ frame = some_same more.0 frame (sym (ap (named_by t) more.1.word ∙ named_by-link t more.0 are.blocks more.1.inside) ∙ step.2) in
            subst (IsAt places t p page (suc d)) e (linked_at places t p page d step.0 more.0 (omega arith) at more.1)
      ]

-- ---- Changes off the way

-- the words on the way to a page are as before
pub record SamePath (t t' : Tables) (p page depth : ℕ) : Type 0 where
  pub blocks : SameBlocks t t'
  pub root : way t' p 0 0 ≡ way t p 0 0
  pub words : (k frame : ℕ) → k < depth → way t p page k ≡ Some frame → word_of t' frame (index_at k page) ≡ word_of t frame (index_at k page)

pub named_by-same : (t t' : Tables) (word word' : ℕ) → SameBlocks t t' → word' ≡ word → named_by t' word' ≡ named_by t word
named_by-same t t' word word' same e = let a = same.pool in let b = same.frames in rw (a, b, e) refl

shorter : (t t' : Tables) (p page d : ℕ) → SamePath t t' p page (suc d) → SamePath t t' p page d
shorter t t' p page d same = record { blocks = same.blocks; root = same.root; words = λ k frame h. same.words k frame (omega arith) }

pub same_way : (t t' : Tables) (p page d : ℕ) → SamePath t t' p page d → way t' p page d ≡ way t p page d
same_way t t' p page zero same = same.root
same_way t t' p page (suc d) same =
    same_then (λ f. named_by t (word_of t f (index_at d page))) (λ f. named_by t' (word_of t' f (index_at d page))) (way t p page d) (way t' p page d)
    (same_way t t' p page d (shorter t t' p page d same))
    (λ g is. named_by-same t t' _ _ same.blocks (same.words d g (omega arith) is))

translation_in-same : (block block' word word' : ℕ) → block' ≡ block → word' ≡ word → translation_in block' word' ≡ translation_in block word
translation_in-same block block' word word' e f = rw (e, f) refl

pub same_translation : (t t' : Tables) (p page : ℕ) → SamePath t t' p page 4 → translation_at t' p page ≡ translation_at t p page
same_translation t t' p page same =
    same_then (λ f. translation_in t.block (word_of t f (index_at 3 page))) (λ f. translation_in t'.block (word_of t' f (index_at 3 page))) (way t p page 3) (way t' p page 3)
    (same_way t t' p page 3 (shorter t t' p page 3 same))
    (λ g is. translation_in-same t.block t'.block _ _ same.blocks.block (same.words 3 g (omega arith) is))

-- ---- Ways that end

pub no_next : (t : Tables) (p page d : ℕ) → way t p page d ≡ None → way t p page (suc d) ≡ None
no_next t p page d e = ap (option_and_then (λ f. named_by t (word_of t f (index_at d page)))) e

-- the table that leads to one
before : (t : Tables) (p page d frame : ℕ) → way t p page (suc d) ≡ Some frame → (g : ℕ) × (way t p page d ≡ Some g)
before t p page d frame is = let step = then_some (λ f. named_by t (word_of t f (index_at d page))) (way t p page d) frame is in (step.0, step.1)

-- how many tables are missing, where the way ends after that many
pub missing_past : (t : Tables) (p page d frame : ℕ) → d ≤ 3 → way t p page d ≡ Some frame → (d < 3 → way t p page (suc d) ≡ None) → missing_in t p page + d ≡ 3
missing_past t p page zero frame h is ends =
    let one = ends (omega arith) in
    let two = no_next t p page 1 one in
    omega (arith, ap if_missing is, ap if_missing one, ap if_missing two, ap if_missing (no_next t p page 2 two))
missing_past t p page (suc zero) frame h is ends =
    let root = before t p page 0 frame is in
    let two = ends (omega arith) in
    omega (arith, ap if_missing root.1, ap if_missing is, ap if_missing two, ap if_missing (no_next t p page 2 two))
missing_past t p page (suc (suc zero)) frame h is ends =
    let one = before t p page 1 frame is in
    let root = before t p page 0 one.0 one.1 in
    omega (arith, ap if_missing root.1, ap if_missing one.1, ap if_missing is, ap if_missing (ends (omega arith)))
missing_past t p page (suc (suc (suc zero))) frame h is ends =
    let two = before t p page 2 frame is in
    let one = before t p page 1 two.0 two.1 in
    let root = before t p page 0 one.0 one.1 in
    omega (arith, ap if_missing root.1, ap if_missing one.1, ap if_missing two.1, ap if_missing is)
missing_past t p page (suc (suc (suc (suc d)))) frame h is ends = absurd (omega arith)

-- without a root, all four are missing
pub missing_all : (t : Tables) (p page : ℕ) → way t p page 0 ≡ None → missing_in t p page ≡ 4
missing_all t p page none =
    let one = no_next t p page 0 none in
    let two = no_next t p page 1 one in
    omega (arith, ap if_missing none, ap if_missing one, ap if_missing two, ap if_missing (no_next t p page 2 two))

-- tables that lead as before are missing as before
pub missing_same : (t v : Tables) (p page : ℕ) → ((d : ℕ) → d ≤ 3 → way v p page d ≡ way t p page d) → missing_in v p page ≡ missing_in t p page
missing_same t v p page same =
    omega (arith, ap if_missing (same 0 (omega arith)), ap if_missing (same 1 (omega arith)), ap if_missing (same 2 (omega arith)), ap if_missing (same 3 (omega arith)))

less_missing : (o o' : Option ℕ) → ((f : ℕ) → o ≡ Some f → o' ≡ Some f) → if_missing o' ≤ if_missing o
less_missing None None h = omega arith
less_missing None (Some g) h = omega arith
less_missing (Some f) o' h = let e = ap if_missing (h f refl) in omega (arith, e)

-- tables that lead on as before are no more missing
pub missing_less : (t v : Tables) (p page : ℕ) → IsUserPage page → WaysStay t v → missing_in v p page ≤ missing_in t p page
missing_less t v p page user stay =
    let less = λ (d : ℕ) (deep : d ≤ 3). less_missing (way t p page d) (way v p page d) (λ f. stay p page d f user deep) in
    omega (arith, less 0 (omega arith), less 1 (omega arith), less 2 (omega arith), less 3 (omega arith))

-- without a root there is no way
pub no_way : (t : Tables) (p page d : ℕ) → way t p page 0 ≡ None → way t p page d ≡ None
no_way t p page zero none = none
no_way t p page (suc d) none = no_next t p page d (no_way t p page d none)

-- the tables of a page are those of its GiB
way_one : (t : Tables) (p page other : ℕ) → index_at 0 page ≡ index_at 0 other → way t p page 1 ≡ way t p other 1
way_one t p page other e = ap (λ i. option_and_then (λ f. named_by t (word_of t f i)) (way t p 0 0)) e

way_two : (t : Tables) (p page other : ℕ) → index_at 0 page ≡ index_at 0 other → index_at 1 page ≡ index_at 1 other → way t p page 2 ≡ way t p other 2
way_two t p page other e f =
    ap (λ i. option_and_then (λ f. named_by t (word_of t f i)) (way t p page 1)) f
    ∙ ap (option_and_then (λ f. named_by t (word_of t f (index_at 1 other)))) (way_one t p page other e)

-- what a page needs of the shared tables is no longer missing
module _ (t v : Tables) (p page table : ℕ) (user : IsUserPage page) (stay : WaysStay t v) (filled : way v p page 3 ≡ Some table) where
  less : (other d : ℕ) → IsUserPage other → d ≤ 3 → if_missing (way v p other d) ≤ if_missing (way t p other d)
  less other d its deep = less_missing (way t p other d) (way v p other d) (λ f. stay p other d f its deep)

  no_more : missing_in v p page ≡ 0
  no_more = let past = missing_past v p page 3 table (omega arith) filled (λ h. absurd (omega (arith, h))) in omega (arith, past)

  one : (u : Tables) → way u p page 1 ≡ way u p 0x40000 1
  one u = way_one u p page 0x40000 (omega (arith, user.1))

  two : (other : ℕ) → IsUserPage other → page / 2 ^ 18 ≡ other / 2 ^ 18 → (u : Tables) → if_missing (way u p page 2) ≡ if_missing (way u p other 2)
  two other its same u = ap if_missing (way_two u p page other (omega (arith, user.1, its.1)) (omega (arith, same)))

  last : if_missing (way t p page 3) ≤ 1
  last = at_most (way t p page 3)
    where
      at_most : (o : Option ℕ) → if_missing o ≤ 1
      at_most None = omega arith
      at_most (Some f) = omega arith

  by_region : (page / 2 ^ 18 ≡ 1) ⊎ ((page / 2 ^ 18 ≡ 2) ⊎ (page / 2 ^ 18 ≡ 3)) → shared_in v p + missing_in t p page ≤ shared_in t p + 1
  by_region (inl is) =
      let same = two 0x40000 (omega arith, omega arith) (omega (arith, is)) in
      let b = less 0x80000 2 (omega arith, omega arith) (omega arith) in
      let c = less 0xc0000 2 (omega arith, omega arith) (omega arith) in
      omega (arith, no_more, ap if_missing (one v), ap if_missing (one t), same v, same t, b, c, last)
  by_region (inr (inl is)) =
      let same = two 0x80000 (omega arith, omega arith) (omega (arith, is)) in
      let a = less 0x40000 2 (omega arith, omega arith) (omega arith) in
      let c = less 0xc0000 2 (omega arith, omega arith) (omega arith) in
      omega (arith, no_more, ap if_missing (one v), ap if_missing (one t), same v, same t, a, c, last)
  by_region (inr (inr is)) =
      let same = two 0xc0000 (omega arith, omega arith) (omega (arith, is)) in
      let a = less 0x40000 2 (omega arith, omega arith) (omega arith) in
      let b = less 0x80000 2 (omega arith, omega arith) (omega arith) in
      omega (arith, no_more, ap if_missing (one v), ap if_missing (one t), same v, same t, a, b, last)

  pub shared_less : shared_in v p + missing_in t p page ≤ shared_in t p + 1
  shared_less = by_region (which page user)
    where
      which : (page : ℕ) → IsUserPage page → (page / 2 ^ 18 ≡ 1) ⊎ ((page / 2 ^ 18 ≡ 2) ⊎ (page / 2 ^ 18 ≡ 3))
      which page user = grind (arith, cases_eq)

-- the way as a contract sees it
pub table_at-way : (t : Tables) (p page d : ℕ) → AreBlocks t → table_at (seen_as t) p page d ≡ way t p page d
table_at-way t p page zero are = refl
table_at-way t p page (suc d) are =
    let frames : length t.bytes.items / 4096 ≡ frames_of t = omega (arith, are.bytes) in
    ap (option_and_then (λ f. table_named (seen_as t) (word_of t f (index_at d page)))) (table_at-way t p page d are)
    ∙ ap (λ n. option_and_then (λ f. named_within t.pool n (word_of t f (index_at d page))) (way t p page d)) frames

-- tables of a process that stay, as a contract sees them
pub tables_stay : (t v : Tables) (s : Shadow) (p : ℕ) → AreBlocks t → AreBlocks v → seen_as t ≡ s
    → ((page depth frame : ℕ) → IsUserPage page → depth ≤ 3 → way t p page depth ≡ Some frame → way v p page depth ≡ Some frame)
    → TablesStay s p (seen_as v)
tables_stay t v s p are are_v is stay page depth frame user deep there =
    table_at-way v p page depth are_v
    ∙ stay page depth frame user deep (sym (table_at-way t p page depth are) ∙ ap (λ (s : Shadow). table_at s p page depth) is ∙ there)

pub shared-missing : (t : Tables) (p : ℕ) → AreBlocks t → shared_missing (seen_as t) p ≡ shared_in t p
shared-missing t p are =
    omega (arith, ap if_missing (table_at-way t p 0x40000 0 are), ap if_missing (table_at-way t p 0x40000 1 are), ap if_missing (table_at-way t p 0x40000 2 are), ap if_missing (table_at-way t p 0x80000 2 are), ap if_missing (table_at-way t p 0xc0000 2 are))

pub needed-missing : (t : Tables) (p page : ℕ) → AreBlocks t → frames_needed (seen_as t) p page ≡ missing_in t p page
needed-missing t p page are =
    omega (arith, ap if_missing (table_at-way t p page 0 are), ap if_missing (table_at-way t p page 1 are), ap if_missing (table_at-way t p page 2 are), ap if_missing (table_at-way t p page 3 are))

-- a way that ends leads to no translation
pub nothing_after : (t : Tables) (p page d : ℕ) → d ≤ 3 → way t p page d ≡ None → translation_at t p page ≡ None
nothing_after t p page zero h e = ap (option_and_then (λ f. translation_in t.block (word_of t f (index_at 3 page)))) (no_next t p page 2 (no_next t p page 1 (no_next t p page 0 e)))
nothing_after t p page (suc zero) h e = ap (option_and_then (λ f. translation_in t.block (word_of t f (index_at 3 page)))) (no_next t p page 2 (no_next t p page 1 e))
nothing_after t p page (suc (suc zero)) h e = ap (option_and_then (λ f. translation_in t.block (word_of t f (index_at 3 page)))) (no_next t p page 2 e)
nothing_after t p page (suc (suc (suc zero))) h e = ap (option_and_then (λ f. translation_in t.block (word_of t f (index_at 3 page)))) e
nothing_after t p page (suc (suc (suc (suc d)))) h e = absurd (omega arith)

-- neither does a word that is 0
pub nothing_at : (t : Tables) (p page d frame : ℕ) → d ≤ 3 → way t p page d ≡ Some frame → word_of t frame (index_at d page) ≡ 0 → translation_at t p page ≡ None
nothing_at t p page d frame h is none = elim (cases_eq d 3) [
  | inl e ↦
      let three : way t p page 3 ≡ Some frame = ap (way t p page) (sym e) ∙ is in
      let word : word_of t frame (index_at 3 page) ≡ 0 = ap (λ d. word_of t frame (index_at d page)) (sym e) ∙ none in
      ap (option_and_then (λ f. translation_in t.block (word_of t f (index_at 3 page)))) three ∙ ap (translation_in t.block) word
  | inr n ↦
      nothing_after t p page (suc d) (omega arith) (ap (option_and_then (λ f. named_by t (word_of t f (index_at d page)))) is ∙ ap (named_by t) none)
]

-- a process with a table has a root
pub rooted_way : (t : Tables) (p page d frame : ℕ) → way t p page d ≡ Some frame → way t p 0 0 ≡ None → ⊥
rooted_way t p page zero frame is none = none_some frame (sym none ∙ is)
rooted_way t p page (suc d) frame is none =
    let step = then_some (λ f. named_by t (word_of t f (index_at d page))) (way t p page d) frame is in
    rooted_way t p page d step.0 step.1 none

-- an option is that number, or isn't
pub some_or_not : (o : Option ℕ) (f : ℕ) → (o ≡ Some f) ⊎ (o ≡ Some f → ⊥)
some_or_not None f = inr (λ e. none_some f e)
some_or_not (Some g) f = elim (cases_eq g f) [ inl e ↦ inl (ap Some e) | inr n ↦ inr (λ e. n (some_same g f e)) ]

pub user_lower : (page : ℕ) → IsUserPage page → page < 2 ^ 35
user_lower page h = omega (arith, h.1)

-- a process with a table is one of the 64
pub process_of_way : (t : Tables) (p page d frame : ℕ) → AreBlocks t → way t p page d ≡ Some frame → p < 64
process_of_way t p page d frame are is = elim (cases_lt p 64) [
  | inl less ↦ less
  | inr more ↦ absurd (rooted_way t p page d frame is (get_or_past t.roots p None (omega (arith, are.roots, more))))
]

-- a table on a way lies in the pool
pub way_inside : (t : Tables) (p page d frame : ℕ) → (places : Places) × AreTables places t → page < 2 ^ 35 → d ≤ 3 → way t p page d ≡ Some frame → frame < frames_of t
way_inside t p page d frame stands lower deep is =
    (place_of_way stands.0 t stands.1 p page (process_of_way t p page d frame stands.1.blocks is) lower d frame deep is).inside
