-- A copy of a process's pages goes from region to region, and through each by its table.
use Rattle.address_space.proofs.Prelude.{◌≡◌, ℕ, suc, ◌+◌, ◌-◌, ◌*◌, ◌<◌, ◌≤◌, Bool, true, false, List, length, refl, ap, sym, ◌∙◌, subst, arith, Option, Some, None, is_some, slice_get, slice_set, IfSome, if◌then◌else◌, option_and_then, slot_number, index_number, IsUserPage, is_present, frame_bytes, word_in, Role, PageEntry, Frames, table_of, entry_at, entry_from, entry_word, word_entry, counted, count_range, count_range-none, count_range-same, Slot, cost, at_page, cell_or_fresh, copy_of, directory_of, spaces_in, table_in, total_cost, IsSound, IsSpaces, IsCounted, IsEmptySpace, PageCopied, CopiedBelow, CopyIn, PagesCopied, words_left, ◌⊎◌, inl, inr, cases_lt, Cell, Spaces, Set, nat_order, option_map, cost_of, need, pages_of, regions_of, without, is_slot, region_pages, length-set, slice_get_within, Inside, TakesPage, set-set, count_range-add, count-table, mapped_in_table, count_none}
use Rattle.page_map.specs.declared.regions.Listed.{Listed}
use Rattle.address_space.proofs.Lemmas.{Room, contains-pages_of, cost-insert, need-least, need-one, need-two, region_member, region_there as region_kept, cost_left, page_left, len-subset, mapped_read, live_small, page_map_of, count_there, count_by_entries, one_inserted, region_more, table_count, entry_rules, named_inside}
use Rattle.address_space.proofs.steps.Copies.{copied_over, copied_past, copied_next, copied_at_last, room_for_copy, put_other}
use Rattle.address_space.proofs.steps.WalkSteps.{word_of_entry}
use Rattle.page_words.specs.FiniteMap as map
use Rattle.page_words.specs.FiniteSet as set

-- ---- The words of a table that are left

word_absent : (w : ℕ) → is_present w ≡ false → word_entry w ≡ None
word_absent w h = ap (λ b. if b then Some (entry_from w) else None) h

word_present : (w : ℕ) (e : PageEntry) → word_entry w ≡ Some e → is_present w ≡ true
word_present w e h = grind (arith, word_absent)

-- where none is left, no word has an entry
pub none_left : (bytes : List ℕ) (table index : ℕ) → words_left bytes table index ≡ 0 → (i : ℕ) → index ≤ i → i < 1024 → word_entry (word_in (frame_bytes bytes table) i) ≡ None
none_left bytes table index none i low high =
    word_absent (word_in (frame_bytes bytes table) i) (count_none (λ k. is_present (word_in (frame_bytes bytes table) k)) index (1024 - index) i none low (omega (arith, low, high)))

-- where no word has an entry, none is left
pub none_listed : {bytes memory : List ℕ} (table index : ℕ) → memory ≡ bytes → ((i : ℕ) → index ≤ i → i < 1024 → word_entry (word_in (frame_bytes memory table) i) ≡ None) → words_left bytes table index ≡ 0
none_listed {bytes} {memory} table index same none =
    sym (ap (λ b. words_left b table index) same)
    ∙ count_range-none (λ i. is_present (word_in (frame_bytes memory table) i)) index (1024 - index)
    (λ i l. (grind arith))

-- behind the first word with an entry one less is left
pub one_left : (bytes : List ℕ) (table index found : ℕ) (e : PageEntry) → index ≤ found → found < 1024 → ((i : ℕ) → index ≤ i → i < found → word_entry (word_in (frame_bytes bytes table) i) ≡ None)
    → word_entry (word_in (frame_bytes bytes table) found) ≡ Some e → words_left bytes table index ≡ words_left bytes table (found + 1) + 1
unfolding count_range
one_left bytes table index found e up inside least is =
    let long : 1024 - index ≡ (found - index) + (1024 - found) = omega (arith, up, inside) in
    let parts : count_range P index (1024 - index) ≡ count_range P index (found - index) + count_range P (index + (found - index)) (1024 - found) = ap (count_range P index) long ∙ count_range-add P index (found - index) (1024 - found) in
    let here : index + (found - index) ≡ found = omega (arith, up) in
    let moved : count_range P (index + (found - index)) (1024 - found) ≡ count_range P found (1024 - found) = ap (λ k. count_range P k (1024 - found)) here in
    let some : 1024 - found ≡ suc (1024 - (found + 1)) = omega (arith, inside) in
    let rest : count_range P found (1024 - found) ≡ counted (P found) + count_range P (found + 1) (1024 - (found + 1)) = ap (count_range P found) some in
    let one : counted (P found) ≡ 1 = ap counted (word_present (word_in (frame_bytes bytes table) found) e is) in
    omega (arith, parts, count_range-none P index (found - index) (λ i l. (grind arith)), moved, rest, one)
  where
    P : ℕ → Bool
    P i = is_present (word_in (frame_bytes bytes table) i)

-- the same of what was looked for
pub left_behind : (bytes : List ℕ) (table index left : ℕ) (x : Option Listed) → left ≡ words_left bytes table index → IfSome x (λ listed. (index ≤ listed.index) × (listed.index < 1024))
    → IfSome x (λ listed. word_entry (word_in (frame_bytes bytes table) listed.index) ≡ Some listed.entry)
    → IfSome x (λ listed. (i : ℕ) → index ≤ i → i < listed.index → word_entry (word_in (frame_bytes bytes table) i) ≡ None)
    → IfSome x (λ listed. left ≡ words_left bytes table (listed.index + 1) + 1)
left_behind bytes table index left x all within entry least = grind (arith, one_left)

-- ---- Regions

-- no page of a region without a table has an entry
pub no_entry_there : (m : Frames) (source page : ℕ) → table_of m source (slot_number page) ≡ None → entry_at m source page ≡ None
no_entry_there m source page none = ap (option_and_then (λ t. word_entry (word_in (m t) (index_number page)))) none

-- the entry of a page is that of its word
pub listed_entry : (m : Frames) (source slot table index : ℕ) (x : Option PageEntry) → index < 1024 → table_of m source slot ≡ Some table → word_entry (word_in (m table) index) ≡ x → entry_at m source (1024 * slot + index) ≡ x
listed_entry m source slot table index x few there is = grind arith

-- the word of a page is present where the page is mapped
present_mapped : (directories : List (Option ℕ)) (memory : List ℕ) (from source slot table index : ℕ) → length directories ≡ 64 → directory_of directories from ≡ Some source → index < 1024 → 256 ≤ slot → slot < 960
    → table_of (frame_bytes memory) source slot ≡ Some table → is_present (word_in (frame_bytes memory table) index) ≡ is_some (map.get (spaces_in directories memory) (at_page from (1024 * slot + index)))
present_mapped directories memory from source slot table index long home inside low high there =
    let s : slot_number (1024 * slot + index) ≡ slot = omega arith in
    let i : index ≡ index_number (1024 * slot + index) = omega arith in
    ap (λ k. is_present (word_in (frame_bytes memory table) k)) i
    ∙ sym (mapped_in_table (frame_bytes memory) source slot table (1024 * slot + index) s there)
    ∙ sym (mapped_read directories memory from source (1024 * slot + index) home (live_small directories from source long home) (omega (arith, low)) (omega (arith, high, inside)))

-- the count of a region's table is how many words are present in it
module _ {directories : List (Option ℕ)} {bytes : List ℕ} {roles : List Role} {d slot table : ℕ} (counts : List ℕ) (p : ℕ) (sound : IsSound directories bytes roles) (live : directory_of directories p ≡ Some d) (low : 256 ≤ slot) (high : slot < 960)
    (there : table_of (frame_bytes bytes) d slot ≡ Some table) (C : IsCounted (spaces_in directories bytes) roles counts) where
  pub region_there : table < length counts
  region_there = count_there directories bytes roles counts p d (1024 * slot) table 0 sound live (omega (arith, low), omega (arith, high)) (ap (table_of (frame_bytes bytes) d) (omega arith) ∙ there) C

  pub region_words : (n : ℕ) → slice_get counts table ≡ Some n → n ≡ words_left bytes table 0
  region_words n is =
      count_by_entries directories bytes roles counts p d (1024 * slot) table n sound live (omega (arith, low), omega (arith, high)) (ap (table_of (frame_bytes bytes) d) (omega arith) ∙ there) C is
      ∙ ap (λ s. count_range (λ other. is_some (entry_at (frame_bytes bytes) d other)) (1024 * s) 1024) (omega arith)
      ∙ sym (count-table (frame_bytes bytes) d slot table there)

-- the counts once a table, where one is given, counts so many
abbrev pub count_made : List ℕ → Option ℕ → ℕ → List ℕ
count_made counts None k = counts
count_made counts (Some t) k = slice_set counts t k

pub count_step : (counts : List ℕ) (linked : Option ℕ) (t k n : ℕ) → ((u : ℕ) → linked ≡ Some u → u ≡ t) → slice_set (count_made counts linked k) t n ≡ count_made counts (Some t) n
count_step counts None t k n same = refl
count_step counts (Some u) t k n same = ap (λ i. slice_set (slice_set counts i k) t n) (same u refl) ∙ set-set counts t k n

pub none_made : (x : Option ℕ) → ((t : ℕ) → x ≡ Some t → ⊥) → x ≡ None
none_made None none = refl
none_made (Some t) none = absurd (none t refl)

-- a process without a page in a region has no table there
pub no_table_there : {directories : List (Option ℕ)} {bytes : List ℕ} {roles : List Role} {d slot : ℕ} (p : ℕ) → IsSpaces directories bytes roles → directory_of directories p ≡ Some d → 256 ≤ slot → slot < 960
    → ((i : ℕ) → i < 1024 → map.get (spaces_in directories bytes) (at_page p (1024 * slot + i)) ≡ None) → table_in (directory_of directories) (frame_bytes bytes) p slot ≡ None
no_table_there {directories} {bytes} {roles} {d} {slot} p spaces live low high bare = by (table_of (frame_bytes bytes) d slot) refl
  where
    by : (x : Option ℕ) → table_of (frame_bytes bytes) d slot ≡ x → table_in (directory_of directories) (frame_bytes bytes) p slot ≡ None
    by None is = ap (option_and_then (λ d. table_of (frame_bytes bytes) d slot)) live ∙ is
    by (Some t) is =
        let used = spaces.in_use p slot t (ap (option_and_then (λ d. table_of (frame_bytes bytes) d slot)) live ∙ is) in
        let mapped = sym used.2 ∙ present_mapped directories bytes p d slot t used.0 spaces.sound.pids live used.1 low high is ∙ ap is_some (bare used.0 used.1) in
        cc

module _ {directories : List (Option ℕ)} {bytes one : List ℕ} {roles roles1 : List Role} {from source to slot table : ℕ} where
  -- a copy comes to a region over those without a table
  pub region_begun : {first : ℕ} → directory_of directories from ≡ Some source → IsSpaces directories bytes roles → IsEmptySpace (spaces_in directories bytes) to
      → cost (spaces_in directories bytes) from + total_cost directories (spaces_in directories bytes) ≤ length roles → CopiedBelow directories from to (1024 * first) bytes roles one roles1
      → first ≤ slot → slot < 960 → ((s : ℕ) → first ≤ s → s < slot → table_of (frame_bytes one) source s ≡ None) → table_of (frame_bytes one) source slot ≡ Some table
      → CopyIn directories from source to slot table 0 bytes roles one roles1
  region_begun {first} home before empty room so_far up few least there =
      let here : 1024 * slot ≡ 1024 * slot + 0 = omega arith in
      assumption (subst (λ n. CopiedBelow directories from to n bytes roles one roles1) here
      (copied_past directories bytes one roles roles1 from source to (1024 * first) (1024 * slot) empty so_far home (omega (arith, up)) (omega (arith, few))
      (λ page low high. no_entry_there (frame_bytes one) source page (least (slot_number page) (omega (arith, low)) (omega (arith, high))))))

  -- no page of the region is mapped
  pub none_mapped : CopyIn directories from source to slot table 0 bytes roles one roles1 → region_pages (spaces_in directories one) to slot ≡ 0
  none_mapped begun = count_range-none (λ page. map.contains_key (spaces_in directories one) (at_page to page)) (1024 * slot) 1024 (λ i few. ap is_some (begun.so_far.rest (1024 * slot + i) (omega arith)))

  -- a table of the region that is counted is one of those that are
  pub made_inside : {index : ℕ} (counts : List ℕ) (t k : ℕ) → CopyIn directories from source to slot table index bytes roles one roles1 → Some t ≡ table_in (directory_of directories) (frame_bytes one) to slot
      → IsCounted (spaces_in directories one) roles1 (slice_set counts t k) → t < length counts
  made_inside counts t k copy there right =
      let S = spaces_in directories one in
      let is = table_count S S directories one roles1 (slice_set counts t k) to slot t k copy.so_far.after.sound (sym there) right in
      omega (arith, slice_get_within (slice_set counts t k) t (region_pages S to slot) is, length-set counts t k)

  -- whose table lies in memory
  pub copy_inside : {index : ℕ} {memory : List ℕ} → CopyIn directories from source to slot table index bytes roles one roles1 → memory ≡ one → slot < 960 → 4096 * table + 4096 ≤ length memory
  copy_inside copy same few =
      subst (λ b. 4096 * table + 4096 ≤ length b) (sym same)
      ((page_map_of directories one roles1 from source copy.so_far.after.sound copy.home).tables_inside slot table (omega (arith, few)) copy.there)

  -- and through it over the words without an entry
  pub copy_passed : {index : ℕ} (beyond : ℕ) {memory : List ℕ} → CopyIn directories from source to slot table index bytes roles one roles1 → memory ≡ one → index ≤ beyond → beyond ≤ 1024 → slot < 960
      → ((i : ℕ) → index ≤ i → i < beyond → word_entry (word_in (frame_bytes memory table) i) ≡ None) → CopyIn directories from source to slot table beyond bytes roles one roles1
  copy_passed {index} beyond {memory} copy same up most few none = assumption
      (copied_past directories bytes one roles roles1 from source to (1024 * slot + index) (1024 * slot + beyond) copy.empty copy.so_far copy.home (omega (arith, up)) (omega (arith, most, few)) absent)
    where
      absent : (page : ℕ) → 1024 * slot + index ≤ page → page < 1024 * slot + beyond → entry_at (frame_bytes one) source page ≡ None
      absent page low high = grind (arith, listed_entry)

  pub region_ended : CopyIn directories from source to slot table 1024 bytes roles one roles1 → CopiedBelow directories from to (1024 * (slot + 1)) bytes roles one roles1
  region_ended copy = let e : 1024 * slot + 1024 ≡ 1024 * (slot + 1) = omega arith in subst (λ n. CopiedBelow directories from to n bytes roles one roles1) e copy.so_far

  module _ {index : ℕ} {e : PageEntry} {memory : List ℕ} (copy : CopyIn directories from source to slot table index bytes roles one roles1) (same : memory ≡ one) (inside : index < 1024) (few : slot < 960)
      (is : word_entry (word_in (frame_bytes memory table) index) ≡ Some e) where
    pub copy_entry : entry_at (frame_bytes one) source (1024 * slot + index) ≡ Some e
    copy_entry = listed_entry (frame_bytes one) source slot table index (Some e) inside copy.there (ap (λ b. word_entry (word_in (frame_bytes b table) index)) (sym same) ∙ is)

    pub copy_user : IsUserPage (1024 * slot + index)
    copy_user = (copy.so_far.low, omega (arith, inside, few))

    -- the word is that of the entry, as the kernel writes it
    pub copy_word : word_in (frame_bytes memory table) index ≡ entry_word e
    copy_word =
        let sound = copy.so_far.after.sound in
        let kernel = sound.tables.table_words from slot table index (ap (option_and_then (λ d. table_of (frame_bytes one) d slot)) copy.home ∙ copy.there) inside in
        let small = (named_inside directories one roles1 from source (1024 * slot + index) e sound copy.home copy_user.0 copy_user.1 copy_entry).small in
        let rules = entry_rules directories one roles1 from source (1024 * slot + index) e sound copy.home copy_entry in
        let same_word = ap (λ b. word_in (frame_bytes b table) index) same in
        same_word ∙ word_of_entry (word_in (frame_bytes one table) index) e kernel (ap word_entry (sym same_word) ∙ is) small rules

    pub copy_unmapped : map.get (spaces_in directories one) (at_page to (1024 * slot + index)) ≡ None
    copy_unmapped = copy.so_far.rest (1024 * slot + index) (omega arith)

    pub copy_room : {target : ℕ} → directory_of directories to ≡ Some target → Room directories (spaces_in directories one) roles1 to (1024 * slot + index)
    copy_room {target} live =
        room_for_copy directories bytes one roles roles1 from source to target (1024 * slot + index) copy.so_far copy.home live copy_user (ap is_some copy_entry) copy.before copy.empty copy.room

    pub copy_takes : {target : ℕ} → directory_of directories to ≡ Some target → TakesPage directories one roles1 to (1024 * slot + index)
    copy_takes live = record { user = copy_user; live = ap is_some live; spaces = copy.so_far.after; room = copy_room live }

    -- and its frame lies in memory
    pub copy_lies : Inside one e.frame
    copy_lies = named_inside directories one roles1 from source (1024 * slot + index) e copy.so_far.after.sound copy.home copy_user.0 copy_user.1 copy_entry

    -- what the copy of the page costs: its table, where its region has none yet, and its frame
    pub copy_need : {target : ℕ} (linked : Option ℕ) → directory_of directories to ≡ Some target
        → linked ≡ table_in (directory_of directories) (frame_bytes one) to (slot_number (1024 * slot + index))
        → need (spaces_in directories one) to (1024 * slot + index) ≡ (if is_some linked then 1 else 2)
    unfolding spaces_in
    copy_need {target} None live is = grind (arith, need-two)
    copy_need {target} (Some t) live is =
        let few = live_small directories to target copy.so_far.after.sound.pids live in
        need-one (directory_of directories) (frame_bytes one) to (1024 * slot + index) t few copy_user.0 copy_user.1
        (sym is)
        (copy.so_far.after.in_use to (slot_number (1024 * slot + index)))

    pub copy_cost : {two : List ℕ} {roles2 : List Role} → PageCopied directories from to (1024 * slot + index) one roles1 two roles2
        → cost (spaces_in directories two) to ≡ cost (spaces_in directories one) to + need (spaces_in directories one) to (1024 * slot + index)
    copy_cost made =
        ap (λ S. cost S to) made.spaces
        ∙ cost-insert (spaces_in directories one) (at_page to (1024 * slot + index))
        (copy_of (at_page to (1024 * slot + index)) (cell_or_fresh (spaces_in directories one) (at_page from (1024 * slot + index)))) copy_unmapped

    pub copy_stepped : {target : ℕ} {two : List ℕ} {roles2 : List Role} → directory_of directories to ≡ Some target → PageCopied directories from to (1024 * slot + index) one roles1 two roles2
        → CopyIn directories from source to slot table (index + 1) bytes roles two roles2
    copy_stepped {target} {two} {roles2} live made =
        let next : 1024 * slot + index + 1 ≡ 1024 * slot + (index + 1) = omega arith in
        assumption (
          subst (λ n. CopiedBelow directories from to n bytes roles two roles2) next
              (copied_next directories bytes one roles roles1 from source to target (1024 * slot + index) copy.so_far copy.home live copy_user (ap is_some copy_entry) two roles2 made),
          sym (ap (option_and_then (λ d. table_of (frame_bytes two) d slot)) copy.home)
              ∙ made.tables from slot table (ap (option_and_then (λ d. table_of (frame_bytes one) d slot)) copy.home ∙ copy.there),
        )

    -- one page more of the region is mapped
    pub copy_mapped : {two : List ℕ} {roles2 : List Role} → PageCopied directories from to (1024 * slot + index) one roles1 two roles2
        → region_pages (spaces_in directories two) to slot ≡ region_pages (spaces_in directories one) to slot + 1
    copy_mapped {two} made =
        let there : slot_number (1024 * slot + index) ≡ slot = omega (arith, inside) in
        let S = spaces_in directories one in
        let page : Slot = at_page to (1024 * slot + index) in
        let more = one_inserted S (spaces_in directories two) page (copy_of page (cell_or_fresh S (at_page from (1024 * slot + index)))) copy_unmapped (λ q. ap (λ x. map.contains_key x q) made.spaces) in
        ap (region_pages (spaces_in directories two) to) (sym there) ∙ region_more S (spaces_in directories two) to (1024 * slot + index) more ∙ ap (λ s. region_pages S to s + 1) there

    -- the words that are left stay as they are
    pub words_kept : {two : List ℕ} {roles2 : List Role} → PageCopied directories from to (1024 * slot + index) one roles1 two roles2 → CopyIn directories from source to slot table (index + 1) bytes roles two roles2
        → words_left two table (index + 1) ≡ words_left one table (index + 1)
    words_kept {two} {roles2} made after =
        count_range-same (λ i. is_present (word_in (frame_bytes two table) i)) (λ i. is_present (word_in (frame_bytes one table) i)) (index + 1) (index + 1) (1024 - (index + 1))
        (λ i l. word (index + 1 + i) (omega arith) (omega (arith, l, inside)))
      where
        long : length directories ≡ 64
        long = copy.so_far.after.sound.pids

        -- the slot is one of the user range
        user : 256 ≤ slot
        user = let low = copy.so_far.low in omega (arith, low, inside)

        word : (i : ℕ) → index < i → i < 1024 → is_present (word_in (frame_bytes two table) i) ≡ is_present (word_in (frame_bytes one table) i)
        word i past most =
            present_mapped directories two from source slot table i long copy.home most user few after.there
            ∙ ap is_some (ap (λ S. map.get S (at_page from (1024 * slot + i))) made.spaces
            ∙ put_other (spaces_in directories one) (at_page to (1024 * slot + index)) (copy_of (at_page to (1024 * slot + index)) (cell_or_fresh (spaces_in directories one) (at_page from (1024 * slot + index)))) (at_page from (1024 * slot + i))
            (λ same. let page : 1024 * slot + i ≡ 1024 * slot + index = ap (λ (q : Slot). q.page) same in omega (arith, page, past)))
            ∙ sym (present_mapped directories one from source slot table i long copy.home most user few copy.there)

-- no region is left
pub regions_copied : {directories : List (Option ℕ)} {bytes one : List ℕ} {roles roles1 : List Role} {from source to : ℕ} (first : ℕ) → directory_of directories from ≡ Some source → IsSpaces directories bytes roles
    → IsEmptySpace (spaces_in directories bytes) to → CopiedBelow directories from to (1024 * first) bytes roles one roles1 → ((s : ℕ) → first ≤ s → s < 960 → table_of (frame_bytes one) source s ≡ None)
    → PagesCopied directories from to bytes roles one roles1
regions_copied {directories} {bytes} {one} {roles} {roles1} {from} {source} {to} first home before empty so_far none =
    let high = so_far.high in
    copied_at_last directories bytes one roles roles1 from to before
    (copied_past directories bytes one roles roles1 from source to (1024 * first) 0xf0000 empty so_far home high (omega arith)
    (λ page low past. no_entry_there (frame_bytes one) source page (none (slot_number page) (omega (arith, low)) (omega (arith, past)))))

-- fewer pages cost no more
cost_subset : (few many : Set nat_order) → ((q : ℕ) → set.contains few q ≡ true → set.contains many q ≡ true) → cost_of few ≤ cost_of many
cost_subset few many within =
    let regions = len-subset (regions_of few) (regions_of many) (λ r there.
    let m = region_member few r there in
    subst (λ n. set.contains (regions_of many) n ≡ true) m.1 (region_kept many m.0 (within m.0 m.2))) in
    omega (arith, len-subset few many within, regions)

copied_there : (slot : Slot) (x : Option Cell) → is_some x ≡ is_some (option_map (copy_of slot) x)
copied_there slot None = refl
copied_there slot (Some c) = refl

-- Where the copies cost as much as the pages, no page is left.
module _ {directories : List (Option ℕ)} {bytes one : List ℕ} {roles roles1 : List Role} {from to next : ℕ}
    (so_far : CopiedBelow directories from to next bytes roles one roles1)
    (full : cost (spaces_in directories bytes) from ≤ cost (spaces_in directories one) to) where
  abbrev S : Spaces
  S = spaces_in directories bytes

  abbrev S1 : Spaces
  S1 = spaces_in directories one

  none_left_over : (page : ℕ) → next ≤ page → map.get S (at_page from page) ≡ None
  none_left_over page above = by (map.get S (at_page from page)) refl
    where
      left : Spaces
      left = without S (is_slot from page)

      copied : (q : ℕ) → map.contains_key S1 (at_page to q) ≡ true → map.contains_key left (at_page from q) ≡ true
      copied q there = elim (cases_lt q next) [
        | inl less ↦
            page_left S from page q (λ same. absurd (omega (arith, less, above, same)))
            ∙ copied_there (at_page to q) (map.get S (at_page from q)) ∙ sym (ap is_some (so_far.below q less)) ∙ there
        | inr beyond ↦ absurd (let none = ap is_some (so_far.rest q beyond) in cc)
      ]

      fewer : cost S1 to ≤ cost left from
      fewer = cost_subset (pages_of S1 to) (pages_of left from)
          (λ q there. contains-pages_of left from q ∙ copied q (sym (contains-pages_of S1 to q) ∙ there))

      by : (x : Option Cell) → map.get S (at_page from page) ≡ x → map.get S (at_page from page) ≡ None
      by None is = is
      by (Some cell) is = absurd (omega (arith, fewer, full, cost_left S from page cell is, need-least left from page))

-- All are copied: no region from there on has a table, or the copies cost as much as the pages.
pub all_copied : {directories : List (Option ℕ)} {bytes one : List ℕ} {roles roles1 : List Role} {from source to used made left : ℕ} (first : ℕ) → directory_of directories from ≡ Some source
    → IsSpaces directories bytes roles → IsEmptySpace (spaces_in directories bytes) to → CopiedBelow directories from to (1024 * first) bytes roles one roles1
    → used ≡ cost (spaces_in directories bytes) from → made ≡ cost (spaces_in directories one) to → left ≡ used - made
    → (left ≡ 0) ⊎ ((s : ℕ) → first ≤ s → s < 960 → table_of (frame_bytes one) source s ≡ None) → PagesCopied directories from to bytes roles one roles1
all_copied first home before empty so_far used made rest (inr none) = regions_copied first home before empty so_far none
all_copied {directories} {bytes} {one} {roles} {roles1} {from} {source} {to} first home before empty so_far used made rest (inl full) =
    copied_at_last directories bytes one roles roles1 from to before
    (copied_over directories bytes one roles roles1 from to (1024 * first) 0xf0000 so_far so_far.high (omega arith)
    (λ page low past. none_left_over so_far (omega (arith, used, made, rest, full)) page low))
