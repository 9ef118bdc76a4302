-- The processor's walk of the pool, from a root, ends as the translation of the page says.
use Rattle.std.proofs.Common.{◌≡◌, ℕ, suc, ◌+◌, ◌-◌, ◌*◌, ◌/◌, ◌%◌, ◌^◌, ◌<◌, ◌≤◌, ◌⊎◌, Bool, true, false, not, ◌&&◌, List, [], ◌∷◌, length, take, drop, Option, Some, None, Result, Ok, Err, refl, sym, ap, subst, ◌∙◌, arith, inl, inr, length-drop}
use Rattle.std.specs.Prelude.{if◌then◌else◌, slice_index, slice_index_or, sum}
use Rattle.std.specs.List.{slice_range}
use Rattle.std.specs.Option.{option_and_then}
use Rattle.std.proofs.lemmas.Bool.{cases_lt}
use Rattle.std.proofs.lemmas.Bool.Decides.{nat_tests}
use Rattle.std.proofs.lemmas.List.{get_or_past, get_or-drop, get_or-take, length-take-le, ext_get_or, take_all}
use Rattle.std.proofs.lemmas.List.Sums.{sum_by_more}
use Rattle.page_words.specs.Addresses.{IsUserPage}
use Rattle.page_words.specs.FiniteMap as map
use Rattle.table_walk.specs.declared.Access.{Access}
use Rattle.table_walk.specs.declared.Access.TheVariants.{Read, Write}
use Rattle.table_walk.specs.Walk.{is_write, first_that_applies}
use Rattle.page_words.specs.Words.{is_present, is_writable}
use Rattle.shadow_tables.specs.declared.tables.Tables.{Tables}
use Rattle.shadow_tables.specs.declared.walk.LongEnd.{LongEnd}
use Rattle.shadow_tables.specs.declared.walk.LongEnd.TheVariants.{Missing, Denied, Unmarked, Foreign}
use Rattle.shadow_tables.specs.LongWords.{long_at, long_place, target_of, is_foreign, entry_word}
use Rattle.shadow_tables.specs.LongWalk.{holds_table, way_word, allows, is_marked, step_of, and_on, from_table, from_directory, from_pointers, long_walk}
use Rattle.shadow_tables.specs.Shadow.{at_page, frame_address, shadow_end, link_for, word_for}
use Rattle.shadow_tables.specs.Holdings.{Places, count_of}
use Rattle.shadow_tables.specs.Needs.{table_at}
use Rattle.shadow_tables.specs.Tables.{word_of, named_by, index_at, way, translation_in, translation_at, translations_in, seen_as, AreTables, IsTable}
use Rattle.shadow_tables.specs.Laws.{WalksAgree, LinksAreExact, PagesAreExact, KernelHalves, UpperHalvesAreClosed}
use Rattle.shadow_tables.specs.Kernel.{IsKernelWord}
use Rattle.shadow_tables.proofs.LongWordLemmas.{SaysEntry, says_entry, long_by_bytes}
use Rattle.shadow_tables.proofs.WayLemmas.{place_of_way, process_of_way, table_at-way, next_at, named_by-link, nothing_at, nothing_after, prefix_at-last, index_at-below}
use Rattle.shadow_tables.proofs.ChangeLemmas.{translation_in-entry}
use Rattle.shadow_tables.proofs.SlotLemmas.{get-user, get-out}

-- ---- One step

-- the pool holds the table
holds : (bytes : List ℕ) (pool frame : ℕ) → 4096 * frame + 4096 ≤ length bytes → holds_table bytes pool (frame_address pool frame) ≡ true
holds bytes pool frame h = grind (arith, nat_tests)

step_missing : (bytes : List ℕ) (pool table address : ℕ) (access : Access) (shift : ℕ) (is_last : Bool) → holds_table bytes pool table ≡ true → way_word bytes pool table address shift ≡ 0
    → step_of bytes pool table address access shift is_last ≡ Err Missing
step_missing bytes pool table address access shift is_last inside word = rw (inside, word) refl

step_on : (bytes : List ℕ) (pool table address : ℕ) (access : Access) (shift word target : ℕ) → holds_table bytes pool table ≡ true → way_word bytes pool table address shift ≡ word → SaysEntry word target true
    → step_of bytes pool table address access shift false ≡ Ok target
step_on bytes pool table address Read shift word target inside is says = rw (inside, is, says.present, says.foreign, says.user, says.accessed) (ap Ok says.target_is)
step_on bytes pool table address Write shift word target inside is says = rw (inside, is, says.present, says.foreign, says.user, says.writable, says.accessed) (ap Ok says.target_is)

-- the last step, to a page
abbrev page_end : Access → Bool → ℕ → Result ℕ LongEnd
page_end access write target = if is_write access && not write then Err Denied else Ok target

step_last : (bytes : List ℕ) (pool table address : ℕ) (access : Access) (shift word target : ℕ) (write : Bool) → holds_table bytes pool table ≡ true → way_word bytes pool table address shift ≡ word → SaysEntry word target write
    → step_of bytes pool table address access shift true ≡ page_end access write target
step_last bytes pool table address Read shift word target write inside is says = rw (inside, is, says.present, says.foreign, says.user, says.accessed) (ap Ok says.target_is)
step_last bytes pool table address Write shift word target true inside is says = rw (inside, is, says.present, says.foreign, says.user, says.writable, says.accessed, says.dirty) (ap Ok says.target_is)
step_last bytes pool table address Write shift word target false inside is says = rw (inside, is, says.present, says.foreign, says.user, says.writable) refl

-- ---- The index of an address

shift_39 : (address : ℕ) → address / 2 ^ 39 % 512 ≡ index_at 0 (address / 4096)
shift_39 address = omega arith

shift_30 : (address : ℕ) → address / 2 ^ 30 % 512 ≡ index_at 1 (address / 4096)
shift_30 address = omega arith

shift_21 : (address : ℕ) → address / 2 ^ 21 % 512 ≡ index_at 2 (address / 4096)
shift_21 address = omega arith

shift_12 : (address : ℕ) → address / 2 ^ 12 % 512 ≡ index_at 3 (address / 4096)
shift_12 address = omega arith

module _ (places : Places) (t : Tables) (are : AreTables places t) (p : ℕ) (process : p < 64) (address : ℕ) (lower : address < 2 ^ 47) (access : Access) where
  abbrev page : ℕ
  page = address / 4096

  low_page : page < 2 ^ 35
  low_page = omega arith

  -- where the walk has come, and how it is to end
  abbrev wanted : Result ℕ LongEnd
  wanted = shadow_end t.block (translation_at t p page) address access

  in_pool : (d frame : ℕ) → d ≤ 3 → way t p page d ≡ Some frame → holds_table t.bytes.items t.pool (frame_address t.pool frame) ≡ true
  in_pool d frame deep is =
      let its = place_of_way places t are p page process low_page d frame deep is in
      holds t.bytes.items t.pool frame (omega (arith, its.inside, are.blocks.bytes))

  word_is : (d frame shift : ℕ) → address / 2 ^ shift % 512 ≡ index_at d page → way_word t.bytes.items t.pool (frame_address t.pool frame) address shift ≡ word_of t frame (index_at d page)
  word_is d frame shift index =
      let e : frame_address t.pool frame - t.pool + 8 * (address / 2 ^ shift % 512) ≡ long_place frame (index_at d page) = omega (arith, index) in
      ap (long_at t.bytes.items) e

  -- the step at a table that isn't the last, and what follows it
  through : (d frame shift : ℕ) (more : ℕ → Result ℕ LongEnd) → d < 3 → address / 2 ^ shift % 512 ≡ index_at d page → way t p page d ≡ Some frame
      → ((below : ℕ) → way t p page (suc d) ≡ Some below → more (frame_address t.pool below) ≡ wanted)
      → and_on more (step_of t.bytes.items t.pool (frame_address t.pool frame) address access shift false) ≡ wanted
  through d frame shift more deep index is rest =
      let its = place_of_way places t are p page process low_page d frame (omega arith) is in
      let inside = in_pool d frame (omega arith) is in
      let word = word_is d frame shift index in
      elim (next_at places t p page d frame are process low_page deep its) [
        | inl none ↦
            ap (and_on more) (step_missing t.bytes.items t.pool (frame_address t.pool frame) address access shift false inside (word ∙ none))
            ∙ sym (ap (λ entry. shadow_end t.block entry address access) (nothing_at t p page d frame (omega arith) is none))
        | inr link ↦
            let whole : frame_address t.pool link.0 ≡ 4096 * (t.pool / 4096 + link.0) = omega (arith, are.blocks.pool) in
            let says : SaysEntry (entry_word (frame_address t.pool link.0) true) (frame_address t.pool link.0) true =
            subst (λ (a : ℕ). SaysEntry (entry_word a true) a true) (sym whole) (says_entry (t.pool / 4096 + link.0) true (omega (arith, are.blocks.pool_end, are.blocks.pool, link.1.inside))) in
            ap (and_on more) (step_on t.bytes.items t.pool (frame_address t.pool frame) address access shift _ (frame_address t.pool link.0) inside (word ∙ link.1.word) says)
            ∙ rest link.0 (ap (option_and_then (λ f. named_by t (word_of t f (index_at d page)))) is ∙ ap (named_by t) link.1.word ∙ named_by-link t link.0 are.blocks link.1.inside)
      ]

  translation_is : (table : ℕ) → way t p page 3 ≡ Some table → translation_at t p page ≡ translation_in t.block (word_of t table (index_at 3 page))
  translation_is table is = ap (option_and_then (λ f. translation_in t.block (word_of t f (index_at 3 page)))) is

  page_case : (write : Bool) (target : ℕ) → and_on (λ page. Ok (page + address % 4096)) (page_end access write target) ≡ (if is_write access && not write then Err Denied else Ok (target + address % 4096))
  page_case write target = grind arith

  at_table : (table : ℕ) → way t p page 3 ≡ Some table → from_table t.bytes.items t.pool address access (frame_address t.pool table) ≡ wanted
  at_table table is =
      let its = place_of_way places t are p page process low_page 3 table (omega arith) is in
      let inside = in_pool 3 table (omega arith) is in
      let word = word_is 3 table 12 (shift_12 address) in
      let owned : (places table).owner < 64 = omega (arith, its.owner, process) in
      elim (((are.tables table its.inside owned).words (index_at 3 page) (index_at-below 3 page)).page its.depth) [
        | inl none ↦
            ap (and_on (λ page. Ok (page + address % 4096))) (step_missing t.bytes.items t.pool (frame_address t.pool table) address access 12 true inside (word ∙ none))
            ∙ sym (ap (λ entry. shadow_end t.block entry address access) (nothing_at t p page 3 table (omega arith) is none))
        | inr entry ↦
            let e = entry.0 in
            let whole : frame_address t.block e.frame ≡ 4096 * (t.block / 4096 + e.frame) = omega (arith, are.blocks.block) in
            let says : SaysEntry (entry_word (frame_address t.block e.frame) e.write) (frame_address t.block e.frame) e.write =
            subst (λ (a : ℕ). SaysEntry (entry_word a e.write) a e.write) (sym whole) (says_entry (t.block / 4096 + e.frame) e.write (omega (arith, are.blocks.block_end, are.blocks.block, entry.1.frame))) in
            ap (and_on (λ page. Ok (page + address % 4096))) (step_last t.bytes.items t.pool (frame_address t.pool table) address access 12 _ (frame_address t.block e.frame) e.write inside (word ∙ entry.1.word) says)
            ∙ page_case e.write (frame_address t.block e.frame)
            ∙ sym (ap (λ entry. shadow_end t.block entry address access) (translation_is table is ∙ ap (translation_in t.block) entry.1.word ∙ translation_in-entry t.block e.frame e.write are.blocks.block are.blocks.block_end entry.1.frame))
      ]

  pub walk_is : (root : ℕ) → way t p page 0 ≡ Some root → long_walk t.bytes.items t.pool (frame_address t.pool root) address access ≡ wanted
  unfolding long_walk
  walk_is root is =
      through 0 root 39 (from_pointers t.bytes.items t.pool address access) (omega arith) (shift_39 address) is (λ pointers is.
      through 1 pointers 30 (from_directory t.bytes.items t.pool address access) (omega arith) (shift_30 address) is (λ directory is.
      through 2 directory 21 (from_table t.bytes.items t.pool address access) (omega arith) (shift_21 address) is at_table))

-- a page that isn't of the user range has no translation
pub no_translation : (places : Places) (t : Tables) (p page : ℕ) → AreTables places t → p < 64 → page < 2 ^ 35 → (page < 0x40000) ⊎ (0xf0000 ≤ page) → translation_at t p page ≡ None
no_translation places t p page are process lower out = by (way t p page 3) refl
  where
    far : (page : ℕ) → IsUserPage page → (page < 0x40000) ⊎ (0xf0000 ≤ page) → ⊥
    far page user (inl less) = absurd (omega (arith, user.0))
    far page user (inr more) = absurd (omega (arith, user.1))

    by : (o : Option ℕ) → way t p page 3 ≡ o → translation_at t p page ≡ None
    by None is = nothing_after t p page 3 (omega arith) is
    by (Some table) is =
        let its = place_of_way places t are p page process lower 3 table (omega arith) is in
        let owned : (places table).owner < 64 = omega (arith, its.owner, process) in
        elim (((are.tables table its.inside owned).words (index_at 3 page) (index_at-below 3 page)).page its.depth) [
          | inl none ↦ nothing_at t p page 3 table (omega arith) is none
          | inr entry ↦
              let prefix = its.prefix in
              let whole : 512 * (places table).prefix + index_at 3 page ≡ page = omega (arith, prefix, prefix_at-last page) in
              absurd (far page (subst IsUserPage whole entry.1.user) out)
        ]

user_or_not : (page : ℕ) → IsUserPage page ⊎ ((page < 0x40000) ⊎ (0xf0000 ≤ page))
user_or_not page = grind (arith, cases_lt)

rooted_process : (places : Places) (t : Tables) (p root : ℕ) → AreTables places t → slice_index_or t.roots p None ≡ Some root → p < 64
rooted_process places t p root are is = elim (cases_lt p 64) [
  | inl less ↦ less
  | inr more ↦ absurd (let past = get_or_past t.roots p None (omega (arith, are.blocks.roots, more)) in none_is root (sym past ∙ is))
]
  where
    none_is : (g : ℕ) → ◌≡◌ {A = Option ℕ} None (Some g) → ⊥
    none_is g e = cc

-- the translation of a page of the lower half, as a contract sees it
seen_translation : (places : Places) (t : Tables) (p page : ℕ) → AreTables places t → p < 64 → page < 2 ^ 35 → map.get (translations_in t) (at_page p page) ≡ translation_at t p page
seen_translation places t p page are process lower = elim (user_or_not page) [
  | inl user ↦ get-user t (at_page p page) process user
  | inr out ↦ get-out t (at_page p page) (inr out) ∙ sym (no_translation places t p page are process lower out)
]

pub walks_agree : (places : Places) (t : Tables) → AreTables places t → WalksAgree (seen_as t)
walks_agree places t are p root address access is lower =
    let process = rooted_process places t p root are is in
    walk_is places t are p process address lower access root is
    ∙ ap (λ entry. shadow_end t.block entry address access) (sym (seen_translation places t p (address / 4096) are process (omega arith)))

pub links_are_exact : (places : Places) (t : Tables) → AreTables places t → LinksAreExact (seen_as t)
links_are_exact places t are p page depth frame lower deep seen =
    let is : way t p page depth ≡ Some frame = sym (table_at-way t p page depth are.blocks) ∙ seen in
    let process = process_of_way t p page depth frame are.blocks is in
    let its = place_of_way places t are p page process lower depth frame (omega arith) is in
    let next : table_at (seen_as t) p page (suc depth) ≡ named_by t (word_of t frame (index_at depth page)) =
    table_at-way t p page (suc depth) are.blocks ∙ ap (option_and_then (λ f. named_by t (word_of t f (index_at depth page)))) is in
    elim (next_at places t p page depth frame are process lower deep its) [
      | inl none ↦ none ∙ ap (link_for t.pool) (sym (next ∙ ap (named_by t) none))
      | inr link ↦ link.1.word ∙ ap (link_for t.pool) (sym (next ∙ ap (named_by t) link.1.word ∙ named_by-link t link.0 are.blocks link.1.inside))
    ]

pub pages_are_exact : (places : Places) (t : Tables) → AreTables places t → PagesAreExact (seen_as t)
pages_are_exact places t are p page table lower seen =
    let is : way t p page 3 ≡ Some table = sym (table_at-way t p page 3 are.blocks) ∙ seen in
    let process = process_of_way t p page 3 table are.blocks is in
    let its = place_of_way places t are p page process lower 3 table (omega arith) is in
    let owned : (places table).owner < 64 = omega (arith, its.owner, process) in
    let found = seen_translation places t p page are process lower ∙ ap (option_and_then (λ f. translation_in t.block (word_of t f (index_at 3 page)))) is in
    elim (((are.tables table its.inside owned).words (index_at 3 page) (index_at-below 3 page)).page its.depth) [
      | inl none ↦ none ∙ ap (word_for t.block) (sym (found ∙ ap (translation_in t.block) none))
      | inr entry ↦ entry.1.word ∙ ap (word_for t.block) (sym (found ∙ ap (translation_in t.block) entry.1.word
          ∙ translation_in-entry t.block entry.0.frame entry.0.write are.blocks.block are.blocks.block_end entry.1.frame))
    ]

pub kernel_halves : (places : Places) (t : Tables) → AreTables places t → KernelHalves (seen_as t)
kernel_halves places t are p root is =
    let its = are.roots p root (rooted_process places t p root are is) is in
    let inside = its.inside in
    let size : length (slice_range t.bytes.items (4096 * root + 2048) (4096 * root + 4096)) ≡ 2048 =
    length-take-le (4096 * root + 4096 - (4096 * root + 2048)) (drop (4096 * root + 2048) t.bytes.items) (omega (arith, length-drop (4096 * root + 2048) t.bytes.items, are.blocks.bytes, inside)) ∙ omega arith in
    let owned : (places root).owner < 64 = omega (arith, its.owner, rooted_process places t p root are is) in
    let table : IsTable places t root = are.tables root inside owned in
    ext_get_or 0 _ _ (size ∙ sym are.blocks.kernel) (λ k l.
    get_or-take (4096 * root + 4096 - (4096 * root + 2048)) (drop (4096 * root + 2048) t.bytes.items) k 0 (omega (arith, size)) ∙ get_or-drop (4096 * root + 2048) t.bytes.items k 0
    ∙ table.kernel its.depth k (omega (arith, size)))

-- a word of a root's upper half is the kernel's
upper_word : (places : Places) (t : Tables) (p root k : ℕ) → AreTables places t → way t p 0 0 ≡ Some root → k < 256 → word_of t root (256 + k) ≡ long_at t.kernel.items (8 * k)
upper_word places t p root k are is below =
    let process = rooted_process places t p root are is in
    let its = are.roots p root process is in
    let table : IsTable places t root = are.tables root its.inside (omega (arith, its.owner, process)) in
    long_by_bytes t.bytes.items t.kernel.items (long_place root (256 + k)) (8 * k) (λ i b.
    let e : long_place root (256 + k) + i ≡ 4096 * root + 2048 + (8 * k + i) = omega arith in
    ap (slice_index t.bytes.items) e ∙ table.kernel its.depth (8 * k + i) (omega arith))

lines_end : (held present foreign allowed marked : Bool) (next target : ℕ) → (present ≡ true → allowed ≡ false)
    → (let r : Result ℕ LongEnd = first_that_applies ((not held, Err Foreign) ∷ (not present, Err Missing) ∷ (foreign, Err Foreign) ∷ (not allowed, Err Denied) ∷ (not marked, Err Unmarked) ∷ []) (Ok next) in r ≡ Ok target) → ⊥
lines_end false present foreign allowed marked next target closed e = cc
lines_end true false foreign allowed marked next target closed e = cc
lines_end true true true allowed marked next target closed e = cc
lines_end true true false true marked next target closed e = let no = closed refl in cc
lines_end true true false false marked next target closed e = cc

step_closed : (bytes : List ℕ) (pool table address target : ℕ) (access : Access) (shift word : ℕ) → way_word bytes pool table address shift ≡ word → IsKernelWord word
    → step_of bytes pool table address access shift false ≡ Ok target → ⊥
step_closed bytes pool table address target access shift word is closed e =
    let w = way_word bytes pool table address shift in
    let its : IsKernelWord w = subst IsKernelWord (sym is) closed in
    lines_end (holds_table bytes pool table) (is_present w) (is_foreign w) (allows w access) (is_marked w access false) (target_of w) target (λ p. ap (λ u. u && not (is_write access && not (is_writable w))) (its.closed p)) e

and_on-ok : (more : ℕ → Result ℕ LongEnd) (r : Result ℕ LongEnd) (physical : ℕ) → and_on more r ≡ Ok physical → (target : ℕ) × (r ≡ Ok target)
and_on-ok more (Ok target) physical e = (target, refl)
and_on-ok more (Err end) physical e = absurd (cc)

pub upper_halves : (places : Places) (t : Tables) → AreTables places t → UpperHalvesAreClosed (seen_as t)
unfolding long_walk
upper_halves places t are p root address physical access is least most e =
    let found = and_on-ok (from_pointers t.bytes.items t.pool address access) (step_of t.bytes.items t.pool (frame_address t.pool root) address access 39 false) physical e in
    let k = address / 2 ^ 39 % 512 - 256 in
    let below : k < 256 = omega arith in
    let place : frame_address t.pool root - t.pool + 8 * (address / 2 ^ 39 % 512) ≡ long_place root (256 + k) = omega (arith, least, most) in
    step_closed t.bytes.items t.pool (frame_address t.pool root) address found.0 access 39 (long_at t.kernel.items (8 * k)) (ap (long_at t.bytes.items) place ∙ upper_word places t p root k are is below) (are.blocks.words k below) found.1

pub all_frames : (places : Places) (t : Tables) → AreTables places t → 4096 * (count_of t.holdings 64 + sum (take 64 t.holdings.counts)) ≡ length t.bytes.items
all_frames places t are =
    let more = sum_by_more (λ (x : ℕ). x) t.holdings.counts 64 0 (omega (arith, are.held.counts)) in
    let whole = ap sum (take_all 65 t.holdings.counts (omega (arith, are.held.counts))) in
    omega (arith, more, whole, are.held.all, are.blocks.bytes)
