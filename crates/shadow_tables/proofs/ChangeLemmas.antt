-- A translation entered or forgotten in its table, and all frames of a process released.
use Rattle.std.proofs.Common.{◌≡◌, ◌≢◌, ℕ, zero, suc, ◌+◌, ◌-◌, ◌*◌, ◌/◌, ◌%◌, ◌^◌, ◌<◌, ◌≤◌, Bool, List, length, take, replicate, Option, Some, None, refl, sym, ap, subst, ◌∙◌, arith, inl, inr}
use Rattle.std.specs.Prelude.{slice_index, slice_set, slice_index_or, sum, IfSome}
use Rattle.page_words.specs.FiniteMap as map
use Rattle.std.specs.Option.{option_and_then}
use Rattle.std.proofs.lemmas.Bool.{cases_eq, cases_lt}
use Rattle.std.proofs.lemmas.Bool.Decides.{nat_tests}
use Rattle.std.proofs.lemmas.List.{get_or-set_same, get_or-set_other, get_or-take, get_or-replicate, get_or_past, length-take, length-set, length-take-le, length-replicate, ext_get_or, take_all}
use Rattle.std.proofs.lemmas.List.Sums.{sum_by_more}
use Rattle.page_words.specs.Addresses.{IsUserPage}
use Rattle.shadow_tables.specs.declared.tables.Tables.{Tables}
use Rattle.shadow_tables.specs.declared.tables.Translation.{Translation}
use Rattle.shadow_tables.specs.declared.holdings.Holdings.{Holdings}
use Rattle.shadow_tables.specs.LongWords.{long_at, long_place, entry_word}
use Rattle.shadow_tables.specs.Shadow.{at_page, frame_address, word_for}
use Rattle.shadow_tables.specs.Holdings.{Places, IsNth, AreHeld, IsReleased, released_place, count_of}
use Rattle.shadow_tables.specs.Tables.{frames_of, word_of, index_at, way, translation_in, translation_at, translations_in, AreBlocks, AreTables, IsWord, IsTable, SameBlocks, SameButBytes, IsShadow, IsChanged}
use Rattle.shadow_tables.proofs.HoldingLemmas.{released-other}
use Rattle.shadow_tables.proofs.LongWordLemmas.{SaysEntry, says_entry}
use Rattle.shadow_tables.proofs.WayLemmas.{IsAt, place_of_way, none_some, same_way, same_translation, nothing_after, process_of_way, no_way, prefix_at-last, user_lower, index_at-below}
use Rattle.shadow_tables.proofs.SlotLemmas.{get-user}
use Rattle.shadow_tables.proofs.TableLemmas.{Wrote, blocks_stay, table_stays, zero_word}

-- the word of a translation is that translation
pub translation_in-entry : (block frame : ℕ) (write : Bool) → block % 4096 ≡ 0 → block + 2 ^ 32 ≤ 2 ^ 52 → frame < 2 ^ 20
    → translation_in block (entry_word (frame_address block frame) write) ≡ Some (record { frame = frame; write = write })
translation_in-entry block frame write whole fits below =
    let place : frame_address block frame ≡ 4096 * (block / 4096 + frame) = omega arith in
    let word = entry_word (frame_address block frame) write in
    let says : SaysEntry word (4096 * (block / 4096 + frame)) write =
    subst (λ (a : ℕ). SaysEntry (entry_word a write) (4096 * (block / 4096 + frame)) write) (sym place) (says_entry (block / 4096 + frame) write (omega (arith, fits))) in
    let number : (word / 4096 - block / 4096) % 2 ^ 20 ≡ frame = omega (arith, says.target_is) in
    rw (says.present, says.writable, number) refl

-- a word of the last table is written: 0, or a translation of its page
pub record Changing (places : Places) (t v : Tables) (p page table word : ℕ) (entry : Option Translation) : Type 0 where
  pub are : AreTables places t
  pub process : p < 64
  pub user : IsUserPage page
  pub way_is : way t p page 3 ≡ Some table
  pub wrote : Wrote t v table (index_at 3 page) word
  pub same : SameButBytes t v
  pub right : IsWord places v table (index_at 3 page)
  pub entry_is : translation_in t.block word ≡ entry

module _ (places : Places) (t v : Tables) (p page table word : ℕ) (entry : Option Translation) (l : Changing places t v p page table word entry) where
  at : IsAt places t p page 3 table
  at = place_of_way places t l.are p page l.process (user_lower page l.user) 3 table (omega arith) l.way_is

  blocks : SameBlocks t v
  blocks = l.same.blocks

  root_is : (q : ℕ) → way v q 0 0 ≡ way t q 0 0
  root_is q = ap (λ r. slice_index_or r q None) l.same.roots

  table_after : (g : ℕ) → g < frames_of t → (places g).owner < 64 → IsTable places v g
  table_after g inside process =
      table_stays places places t v g
      (record { blocks = blocks; inside = inside; same = λ h _ _. refl })
      (λ root k below. l.wrote.upper g k below (λ e. let depth = ap (λ g. (places g).depth) e in absurd (omega (arith, depth, root, at.depth))))
      (λ j below. elim (cases_eq g table) [
        | inl e ↦ elim (cases_eq j (index_at 3 page)) [
          | inl i ↦
              let P : ℕ → Type 0 = λ g. IsWord places v g j in
              inr (subst P (sym e) (subst (IsWord places v table) (sym i) l.right))
          | inr n ↦ inl (l.wrote.others g j below (λ _. n))
        ]
        | inr n ↦ inl (l.wrote.others g j below (λ e. absurd (n e)))
      ])
      (l.are.tables g inside process)

  tables_after : AreTables places v
  tables_after = record {
    held = subst (AreHeld places) (sym l.same.holdings) l.are.held;
    blocks = blocks_stay t v l.are.blocks blocks (ap length l.same.roots ∙ l.are.blocks.roots);
    roots = λ q g process is.
        let root = l.are.roots q g process (sym (root_is q) ∙ is) in
        record { inside = omega (arith, root.inside, blocks.frames); owner = root.owner; rank = root.rank; depth = root.depth; prefix = root.prefix };
    rooted = λ q process none. ap (λ h. count_of h q) l.same.holdings ∙ l.are.rooted q process (sym (root_is q) ∙ none);
    tables = λ g inside process. table_after g (omega (arith, inside, blocks.frames)) process;
  }

  -- the tables above are as before
  words_above : (q other k g : ℕ) → q < 64 → other < 2 ^ 35 → k < 3 → way t q other k ≡ Some g → word_of v g (index_at k other) ≡ word_of t g (index_at k other)
  words_above q other k g process lower deep is =
      let its = place_of_way places t l.are q other process lower k g (omega (arith, deep)) is in
      l.wrote.others g (index_at k other) (index_at-below k other) (λ e. let depth = ap (λ g. (places g).depth) e in absurd (omega (arith, depth, its.depth, at.depth, deep)))

  way_after : way v p page 3 ≡ Some table
  way_after = same_way t v p page 3 (record { blocks = blocks; root = root_is p; words = λ k g deep is. words_above p page k g l.process (user_lower page l.user) deep is }) ∙ l.way_is

  own_translation : translation_at v p page ≡ entry
  own_translation =
      ap (option_and_then (λ f. translation_in v.block (word_of v f (index_at 3 page)))) way_after
      ∙ ap (translation_in v.block) l.wrote.own ∙ ap (λ block. translation_in block word) blocks.block ∙ l.entry_is

  -- the word of another page is another
  other_word : (q other g : ℕ) → q < 64 → other < 2 ^ 35 → (q ≡ p → other ≢ page) → way t q other 3 ≡ Some g → word_of v g (index_at 3 other) ≡ word_of t g (index_at 3 other)
  other_word q other g process lower apart is =
      let its = place_of_way places t l.are q other process lower 3 g (omega arith) is in
      l.wrote.others g (index_at 3 other) (index_at-below 3 other) (λ e i.
      let owner : q ≡ p = sym its.owner ∙ ap (λ g. (places g).owner) e ∙ at.owner in
      let prefix = sym its.prefix ∙ ap (λ g. (places g).prefix) e ∙ at.prefix in
      absurd (apart owner (omega (arith, prefix, i, prefix_at-last other, prefix_at-last page))))

  other_translation : (q other : ℕ) → q < 64 → IsUserPage other → (q ≡ p → other ≢ page) → translation_at v q other ≡ translation_at t q other
  other_translation q other process user apart = same_translation t v q other (record {
    blocks = blocks;
    root = root_is q;
    words = λ k g below is. elim (cases_eq k 3) [
      | inl e ↦
          let P : ℕ → Type 0 = λ k. word_of v g (index_at k other) ≡ word_of t g (index_at k other) in
          subst P (sym e) (other_word q other g process (user_lower other user) apart (ap (way t q other) (sym e) ∙ is))
      | inr n ↦ words_above q other k g process (user_lower other user) (omega arith) is
    ];
  })

  ways_stay : (q other depth : ℕ) → q < 64 → IsUserPage other → depth ≤ 3 → way v q other depth ≡ way t q other depth
  ways_stay q other depth process user deep = same_way t v q other depth (record {
    blocks = blocks;
    root = root_is q;
    words = λ k g below is. words_above q other k g process (user_lower other user) (omega (arith, below, deep)) is;
  })

  -- of a process that is none, there are no tables
  ways_all : (q other depth : ℕ) → IsUserPage other → depth ≤ 3 → way v q other depth ≡ way t q other depth
  ways_all q other depth user deep = elim (cases_lt q 64) [
    | inl process ↦ ways_stay q other depth process user deep
    | inr past ↦
        let none : way t q other 0 ≡ None = get_or_past t.roots q None (omega (arith, l.are.blocks.roots, past)) in
        no_way v q other depth (root_is q ∙ none) ∙ sym (no_way t q other depth none)
  ]

  pub change : IsChanged t p page entry v
  change = record {
    stands = (places, tables_after);
    is = own_translation;
    others = other_translation;
    ways = ways_all;
    same = l.same;
  }

-- the word of a translation is right in the last table for its page
pub entry_right : (places : Places) (t v : Tables) (p page table frame : ℕ) (write : Bool) → AreTables places t → p < 64 → IsUserPage page → way t p page 3 ≡ Some table → frame < 2 ^ 20 → SameBlocks t v
    → word_of v table (index_at 3 page) ≡ entry_word (frame_address t.block frame) write → IsWord places v table (index_at 3 page)
entry_right places t v p page table frame write are process user is below blocks word =
    let its = place_of_way places t are p page process (user_lower page user) 3 table (omega arith) is in
    let prefix = its.prefix in
    let whole : 512 * (places table).prefix + index_at 3 page ≡ page = omega (arith, prefix, prefix_at-last page) in
    record {
      link = λ deep. absurd (omega (arith, deep, its.depth));
      page = λ _. inr (
        record { frame = frame; write = write },
        record {
          frame = below;
          word = word ∙ ap (λ block. entry_word (frame_address block frame) write) (sym blocks.block);
          user = (omega (arith, whole, user.0), omega (arith, whole, user.1));
        },
      );
    }

-- ---- A process is forgotten

pub record Forgetting (places : Places) (t v : Tables) (p root : ℕ) : Type 0 where
  pub are : AreTables places t
  pub process : p < 64
  pub root_is : way t p 0 0 ≡ Some root
  pub released : IsReleased t.holdings p root v.holdings
  pub bytes : v.bytes ≡ t.bytes
  pub roots : v.roots ≡ slice_set t.roots p None
  pub blocks : SameBlocks t v

module _ (places : Places) (t v : Tables) (p root : ℕ) (l : Forgetting places t v p root) where
  abbrev pub left : Places
  left = λ f. released_place t.holdings p (places f)

  nth : IsNth places t.holdings p 0 root
  nth = let is = l.are.roots p root l.process l.root_is in record { inside = is.inside; owner_is = is.owner; rank_is = is.rank }

  kept_place : (g : ℕ) → (places g).owner ≢ p → left g ≡ places g
  kept_place g n = released-other t.holdings p (places g) n

  -- a frame that is still a process's was one of another
  owner_left : (g : ℕ) → (left g).owner < 64 → (places g).owner ≢ p
  owner_left g h e = let free : (left g).owner ≡ 64 = grind (arith, nat_tests) in absurd (omega (arith, free, h))

  own_root : way v p 0 0 ≡ None
  own_root = ap (λ r. slice_index_or r p None) l.roots ∙ get_or-set_same t.roots p None None (omega (arith, l.are.blocks.roots, l.process))

  other_root : (q : ℕ) → q ≢ p → way v q 0 0 ≡ way t q 0 0
  other_root q n = ap (λ r. slice_index_or r q None) l.roots ∙ get_or-set_other t.roots p q None None n

  count_is : (q : ℕ) → q ≢ p → q ≢ 64 → count_of v.holdings q ≡ count_of t.holdings q
  count_is q n m =
      ap (λ xs. slice_index xs q) l.released.counts
      ∙ get_or-set_other (slice_set t.holdings.counts 64 (count_of t.holdings 64 + count_of t.holdings p)) p q 0 0 n
      ∙ get_or-set_other t.holdings.counts 64 q (count_of t.holdings 64 + count_of t.holdings p) 0 m

  own_count : count_of v.holdings p ≡ 0
  own_count =
      ap (λ xs. slice_index xs p) l.released.counts
      ∙ get_or-set_same (slice_set t.holdings.counts 64 (count_of t.holdings 64 + count_of t.holdings p)) p 0 0 (omega (arith, length-set t.holdings.counts 64 (count_of t.holdings 64 + count_of t.holdings p), l.are.held.counts, l.process))

  word_is : (g j : ℕ) → word_of v g j ≡ word_of t g j
  word_is g j = ap (λ b. long_at b.items (long_place g j)) l.bytes

  pub tables_left : AreTables left v
  tables_left = record {
    held = l.released.held places l.are.held nth;
    blocks = blocks_stay t v l.are.blocks l.blocks (ap length l.roots ∙ length-set t.roots p None ∙ l.are.blocks.roots);
    roots = λ q g process is. elim (cases_eq q p) [
      | inl e ↦ absurd (none_some g (sym own_root ∙ ap (λ q. way v q 0 0) (sym e) ∙ is))
      | inr n ↦
          let was = l.are.roots q g process (sym (other_root q n) ∙ is) in
          let same = kept_place g (λ e. n (sym was.owner ∙ e)) in
          record {
            inside = omega (arith, was.inside, l.blocks.frames);
            owner = ap (λ p. p.owner) same ∙ was.owner;
            rank = ap (λ p. p.rank) same ∙ was.rank;
            depth = ap (λ p. p.depth) same ∙ was.depth;
            prefix = ap (λ p. p.prefix) same ∙ was.prefix;
          }
    ];
    rooted = λ q process none. elim (cases_eq q p) [
      | inl e ↦ ap (count_of v.holdings) e ∙ own_count
      | inr n ↦ count_is q n (omega (arith, process)) ∙ l.are.rooted q process (sym (other_root q n) ∙ none)
    ];
    tables = λ g inside process.
        let n = owner_left g process in
        let same = kept_place g n in
        let within : g < frames_of t = omega (arith, inside, l.blocks.frames) in
        table_stays places left t v g
        (record { blocks = l.blocks; inside = within; same = λ h _ own. kept_place h (λ e. n (sym own ∙ e)) })
        (λ _ k _. ap (λ b. slice_index b.items (4096 * g + 2048 + k)) l.bytes)
        (λ j _. inl (word_is g j))
        (l.are.tables g within (omega (arith, process, ap (λ p. p.owner) same)));
  }

  pub own_gone : (page : ℕ) → translation_at v p page ≡ None
  own_gone page = nothing_after v p page 0 (omega arith) own_root

  pub others_stay : (q page : ℕ) → q ≢ p → translation_at v q page ≡ translation_at t q page
  others_stay q page n = same_translation t v q page (record { blocks = l.blocks; root = other_root q n; words = λ k g _ _. word_is g (index_at k page) })

  pub ways_of_others : (q page depth : ℕ) → q ≢ p → way v q page depth ≡ way t q page depth
  ways_of_others q page depth n = same_way t v q page depth (record { blocks = l.blocks; root = other_root q n; words = λ k g _ _. word_is g (index_at k page) })

-- a translation is entered, or none is left
pub changed : (places : Places) (t v : Tables) (p page table : ℕ) (entry : Option Translation) → AreTables places t → IsUserPage page → way t p page 3 ≡ Some table → IfSome entry (λ e. e.frame < 2 ^ 20)
    → Wrote t v table (index_at 3 page) (word_for t.block entry) → SameButBytes t v → IsChanged t p page entry v
changed places t v p page table None are user is below wrote same =
    change places t v p page table 0 None (record {
      are = are;
      process = process_of_way t p page 3 table are.blocks is;
      user = user;
      way_is = is;
      wrote = wrote;
      same = same;
      right = zero_word places v table (index_at 3 page) wrote.own;
      entry_is = refl;
    })
changed places t v p page table (Some e) are user is below wrote same =
    let process = process_of_way t p page 3 table are.blocks is in
    change places t v p page table (word_for t.block (Some e)) (Some e) (record {
      are = are;
      process = process;
      user = user;
      way_is = is;
      wrote = wrote;
      same = same;
      right = entry_right places t v p page table e.frame e.write are process user is below same.blocks wrote.own;
      entry_is = translation_in-entry t.block e.frame e.write are.blocks.block are.blocks.block_end below;
    })

-- the translation of a page is read in the table for it
pub read_at : (t : Tables) (p page table : ℕ) → p < 64 → IsUserPage page → way t p page 3 ≡ Some table → map.get (translations_in t) (at_page p page) ≡ translation_in t.block (word_of t table (index_at 3 page))
read_at t p page table process user is = get-user t (at_page p page) process user ∙ ap (option_and_then (λ f. translation_in t.block (word_of t f (index_at 3 page)))) is

pub read_none : (t : Tables) (p page : ℕ) → p < 64 → IsUserPage page → way t p page 3 ≡ None → map.get (translations_in t) (at_page p page) ≡ None
read_none t p page process user is = get-user t (at_page p page) process user ∙ nothing_after t p page 3 (omega arith) is

-- the tables once a process's frames are released
abbrev pub released_tables : Tables → Holdings → ℕ → Tables
released_tables t h p = record t { holdings = h; roots = slice_set t.roots p None }

pub forgetting : (places : Places) (t : Tables) (h : Holdings) (p root : ℕ) → AreTables places t → p < 64 → way t p 0 0 ≡ Some root → IsReleased t.holdings p root h → Forgetting places t (released_tables t h p) p root
forgetting places t h p root are process is released = record {
  are = are;
  process = process;
  root_is = is;
  released = released;
  bytes = refl;
  roots = refl;
  blocks = record { pool = refl; block = refl; kernel = refl; length = refl; frames = released.frames };
}

-- ---- What each process has taken

pub taken_front : (xs : List ℕ) (p n : ℕ) → length xs ≡ 65 → p < 64 → take 64 (slice_set (slice_set xs 64 n) p 0) ≡ slice_set (take 64 xs) p 0
taken_front xs p n long below =
    let front : length (take 64 xs) ≡ 64 = length-take-le 64 xs (omega (arith, long)) in
    let size : length (take 64 (slice_set (slice_set xs 64 n) p 0)) ≡ 64 = length-take-le 64 (slice_set (slice_set xs 64 n) p 0) (omega (arith, length-set (slice_set xs 64 n) p 0, length-set xs 64 n, long)) in
    ext_get_or 0 _ _ (size ∙ sym (length-set (take 64 xs) p 0 ∙ front)) (λ k l.
    let inside : k < 64 = omega (arith, size) in
    get_or-take 64 (slice_set (slice_set xs 64 n) p 0) k 0 inside
    ∙ elim (cases_eq k p) [
      | inl e ↦
          ap (slice_index (slice_set (slice_set xs 64 n) p 0)) e ∙ get_or-set_same (slice_set xs 64 n) p 0 0 (omega (arith, length-set xs 64 n, long))
          ∙ sym (ap (slice_index (slice_set (take 64 xs) p 0)) e ∙ get_or-set_same (take 64 xs) p 0 0 (omega (arith, front)))
      | inr m ↦
          get_or-set_other (slice_set xs 64 n) p k 0 0 m ∙ get_or-set_other xs 64 k n 0 (omega (arith, inside))
          ∙ sym (get_or-set_other (take 64 xs) p k 0 0 m ∙ get_or-take 64 xs k 0 inside)
    ])

-- the counts of a process in two lists
pub front_same : (xs ys : List ℕ) (p : ℕ) → (p ≢ 64 → slice_index ys p ≡ slice_index xs p) → slice_index (take 64 ys) p ≡ slice_index (take 64 xs) p
front_same xs ys p same = elim (cases_lt p 64) [
  | inl below ↦ get_or-take 64 ys p 0 below ∙ same (omega arith) ∙ sym (get_or-take 64 xs p 0 below)
  | inr past ↦ get_or_past (take 64 ys) p 0 (omega (arith, length-take 64 ys)) ∙ sym (get_or_past (take 64 xs) p 0 (omega (arith, length-take 64 xs)))
]

-- what is 0 is 0
pub set_zero : (xs : List ℕ) (p : ℕ) → p < 64 → slice_index xs p ≡ 0 → take 64 xs ≡ slice_set (take 64 xs) p 0
set_zero xs p below none =
    ext_get_or 0 _ _ (sym (length-set (take 64 xs) p 0)) (λ k l. elim (cases_eq k p) [
      | inl e ↦
          let at : slice_index (take 64 xs) p ≡ 0 = get_or-take 64 xs p 0 below ∙ none in
          let inside : p < length (take 64 xs) = omega (arith, e) in
          ap (slice_index (take 64 xs)) e ∙ at ∙ sym (ap (slice_index (slice_set (take 64 xs) p 0)) e ∙ get_or-set_same (take 64 xs) p 0 0 inside)
      | inr m ↦ sym (get_or-set_other (take 64 xs) p k 0 0 m)
    ])

-- ---- All processes are forgotten

pub no_roots : (t : Tables) → AreBlocks t → ((p : ℕ) → p < 64 → way t p 0 0 ≡ None) → t.roots ≡ replicate 64 None
no_roots t are none =
    ext_get_or None _ _ (are.roots ∙ sym (length-replicate {A = Option ℕ} 64 None)) (λ k l. none k (omega (arith, are.roots)) ∙ sym (get_or-replicate 64 k None None (omega (arith, are.roots))))

sum_none : (xs : List ℕ) (n : ℕ) → n ≤ length xs → ((k : ℕ) → k < n → slice_index xs k ≡ 0) → sum (take n xs) ≡ 0
sum_none xs zero h none = refl
sum_none xs (suc n) h none =
    let e : suc n ≡ n + 1 = omega arith in
    let more = sum_by_more (λ (x : ℕ). x) xs n 0 (omega arith) in
    let rest = sum_none xs n (omega arith) (λ k l. none k (omega arith)) in
    ap (λ n. sum (take n xs)) e ∙ (omega (arith, more, rest, none n (omega arith)))

pub all_free : (t : Tables) → IsShadow t → ((p : ℕ) → p < 64 → way t p 0 0 ≡ None) → 4096 * count_of t.holdings 64 ≡ length t.bytes.items
all_free t stands none =
    let are = stands.1 in
    let counts = are.held.counts in
    let more = sum_by_more (λ (x : ℕ). x) t.holdings.counts 64 0 (omega (arith, counts)) in
    let whole = ap sum (take_all 65 t.holdings.counts (omega (arith, counts))) in
    let rest = sum_none t.holdings.counts 64 (omega (arith, counts)) (λ k l. are.rooted k l (none k l)) in
    omega (arith, more, whole, rest, are.held.all, are.blocks.bytes)
