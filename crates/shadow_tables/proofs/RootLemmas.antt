-- A root that is missing is taken: zero below, and the kernel's words above.
use Rattle.std.proofs.Common.{◌≡◌, ◌≢◌, ℕ, ◌+◌, ◌*◌, ◌^◌, ◌<◌, ◌≤◌, length, Some, None, sym, ap, subst, ◌∙◌, arith, inl, inr}
use Rattle.std.specs.Prelude.{slice_index, slice_set, slice_index_or}
use Rattle.std.specs.List.{splice}
use Rattle.std.specs.Option.{option_and_then}
use Rattle.page_words.specs.Addresses.{IsUserPage}
use Rattle.std.proofs.lemmas.Bool.{cases_eq, cases_lt}
use Rattle.std.proofs.lemmas.List.{get_or-set_same, get_or-set_other, length-set}
use Rattle.phys_memory.proofs.Words.{byte-splice_below, byte-splice_in, byte-splice_above}
use Rattle.shadow_tables.specs.declared.tables.Tables.{Tables}
use Rattle.shadow_tables.specs.LongWords.{long_place}
use Rattle.shadow_tables.specs.Holdings.{Places, with_place, next_place, count_of, AreHeld}
use Rattle.shadow_tables.specs.Tables.{frames_of, word_of, named_by, index_at, way, missing_in, WaysStay, translation_at, AreTables, IsTable, IsRoot, SameBlocks, IsFresh, IsStep}
use Rattle.shadow_tables.proofs.HoldingLemmas.{with_place-same, with_place-other}
use Rattle.shadow_tables.proofs.LongWordLemmas.{long_by_bytes}
use Rattle.shadow_tables.proofs.WayLemmas.{place_of_way, none_some, some_same, process_of_way, same_way, rooted_way, same_translation, nothing_after, nothing_at, missing_past, missing_all, user_lower, index_at-below, index_at-root}
use Rattle.shadow_tables.proofs.TableLemmas.{Cleared, then_blocks, blocks_stay, table_stays}

-- what there is before and after: a frame is taken and cleared, and its upper half is written
pub record Rooting (places : Places) (t u v : Tables) (p frame : ℕ) : Type 0 where
  pub are : AreTables places t
  pub process : p < 64
  pub missing : way t p 0 0 ≡ None
  pub fresh : IsFresh t p frame u
  pub clear : Cleared t u frame
  pub same : SameBlocks u v
  pub holdings : v.holdings ≡ u.holdings
  pub bytes : v.bytes.items ≡ splice u.bytes.items (4096 * frame + 2048) (4096 * frame + 4096) u.kernel.items
  pub roots : v.roots ≡ slice_set u.roots p (Some frame)

module _ (places : Places) (t u v : Tables) (p frame : ℕ) (l : Rooting places t u v p frame) where
  free : (places frame).owner ≡ 64
  free = l.fresh.taken.was_free places l.are.held

  owned : (g : ℕ) → (places g).owner < 64 → g ≢ frame
  owned g h e = let own = ap (λ g. (places g).owner) e in absurd (omega (arith, own, free))

  blocks : SameBlocks t v
  blocks = then_blocks t u v l.fresh.blocks l.same

  roots_is : v.roots ≡ slice_set t.roots p (Some frame)
  roots_is = l.roots ∙ ap (λ r. slice_set r p (Some frame)) l.fresh.roots

  root_is : way v p 0 0 ≡ Some frame
  root_is = ap (λ r. slice_index_or r p None) roots_is ∙ get_or-set_same t.roots p (Some frame) None (omega (arith, l.are.blocks.roots, l.process))

  other_root : (q : ℕ) → q ≢ p → way v q 0 0 ≡ way t q 0 0
  other_root q n = ap (λ r. slice_index_or r q None) roots_is ∙ get_or-set_other t.roots p q (Some frame) None n

  inside : 4096 * frame + 4096 ≤ length u.bytes.items
  inside = omega (arith, l.fresh.taken.inside, l.are.blocks.bytes, l.fresh.blocks.length)

  half : length u.kernel.items ≡ 2048
  half = ap (λ v. length v.items) l.fresh.blocks.kernel ∙ l.are.blocks.kernel

  byte_below : (k : ℕ) → k < 4096 * frame + 2048 → slice_index v.bytes.items k ≡ slice_index u.bytes.items k
  byte_below k h = ap (λ xs. slice_index xs k) l.bytes ∙ byte-splice_below u.bytes.items u.kernel.items (4096 * frame + 2048) (4096 * frame + 4096) k (omega (arith, inside)) h

  byte_above : (k : ℕ) → 4096 * frame + 4096 ≤ k → slice_index v.bytes.items k ≡ slice_index u.bytes.items k
  byte_above k h = ap (λ xs. slice_index xs k) l.bytes ∙ byte-splice_above u.bytes.items u.kernel.items (4096 * frame + 2048) (4096 * frame + 4096) k (omega (arith, inside)) (omega (arith, half)) (omega arith) h

  byte_in : (k : ℕ) → k < 2048 → slice_index v.bytes.items (4096 * frame + 2048 + k) ≡ slice_index v.kernel.items k
  byte_in k h =
      ap (λ xs. slice_index xs (4096 * frame + 2048 + k)) l.bytes
      ∙ byte-splice_in u.bytes.items u.kernel.items (4096 * frame + 2048) (4096 * frame + 4096) k (omega (arith, inside)) (omega (arith, half))
      ∙ ap (λ v. slice_index v.items k) (sym l.same.kernel)

  byte_other : (g k : ℕ) → k < 4096 → g ≢ frame → slice_index v.bytes.items (4096 * g + k) ≡ slice_index u.bytes.items (4096 * g + k)
  byte_other g k h n = elim (cases_lt g frame) [
    | inl less ↦ byte_below (4096 * g + k) (omega arith)
    | inr more ↦ byte_above (4096 * g + k) (omega arith)
  ]

  other_word : (g j : ℕ) → j < 512 → g ≢ frame → word_of v g j ≡ word_of t g j
  other_word g j h n =
      long_by_bytes v.bytes.items u.bytes.items (long_place g j) (long_place g j) (λ k b.
      let e : long_place g j + k ≡ 4096 * g + (8 * j + k) = omega arith in
      ap (slice_index v.bytes.items) e ∙ byte_other g (8 * j + k) (omega arith) n ∙ ap (slice_index u.bytes.items) (sym e))
      ∙ l.clear.others g j h n

  new_word : (j : ℕ) → j < 256 → word_of v frame j ≡ 0
  new_word j h =
      long_by_bytes v.bytes.items u.bytes.items (long_place frame j) (long_place frame j) (λ k b. byte_below (long_place frame j + k) (omega arith))
      ∙ l.clear.own j (omega arith)

  abbrev after : Places
  after = with_place places frame (next_place t.holdings p 0 0)

  new : after frame ≡ next_place t.holdings p 0 0
  new = with_place-same places frame (next_place t.holdings p 0 0)

  kept : (g : ℕ) → g ≢ frame → after g ≡ places g
  kept g n = with_place-other places frame (next_place t.holdings p 0 0) g n

  new_table : IsTable after v frame
  new_table =
      let depth = ap (λ p. p.depth) new in
      record {
        deep = omega (arith, depth);
        words = λ j below. record {
          link = λ _ lower. inl (new_word j (lower depth));
          page = λ deep. absurd (omega (arith, depth, deep));
        };
        kernel = λ _ k h. byte_in k h;
      }

  old_table : (g : ℕ) → g < frames_of t → (places g).owner < 64 → IsTable after v g
  old_table g within process =
      table_stays places after t v g
      (record { blocks = blocks; inside = within; same = λ h _ own. kept h (owned h (omega (arith, own, process))) })
      (λ _ k below.
      let e : 4096 * g + 2048 + k ≡ 4096 * g + (2048 + k) = omega arith in
      ap (slice_index v.bytes.items) e ∙ byte_other g (2048 + k) (omega arith) (owned g process) ∙ ap (slice_index u.bytes.items) (sym e)
      ∙ l.clear.upper g k below (owned g process))
      (λ j below. inl (other_word g j below (owned g process)))
      (l.are.tables g within process)

  new_root : IsRoot after v p frame
  new_root = record {
    inside = omega (arith, l.fresh.taken.inside, blocks.frames);
    owner = ap (λ p. p.owner) new;
    rank = ap (λ p. p.rank) new ∙ l.are.rooted p l.process l.missing;
    depth = ap (λ p. p.depth) new;
    prefix = ap (λ p. p.prefix) new;
  }

  old_root : (q g : ℕ) → q < 64 → way t q 0 0 ≡ Some g → IsRoot after v q g
  old_root q g process is =
      let root = l.are.roots q g process is in
      let same = kept g (owned g (omega (arith, root.owner, process))) in
      record {
        inside = omega (arith, root.inside, blocks.frames);
        owner = ap (λ p. p.owner) same ∙ root.owner;
        rank = ap (λ p. p.rank) same ∙ root.rank;
        depth = ap (λ p. p.depth) same ∙ root.depth;
        prefix = ap (λ p. p.prefix) same ∙ root.prefix;
      }

  tables_after : AreTables after v
  tables_after = record {
    held = subst (AreHeld after) (sym l.holdings) (l.fresh.taken.held places 0 0 l.are.held);
    blocks = blocks_stay t v l.are.blocks blocks (ap length roots_is ∙ length-set t.roots p (Some frame) ∙ l.are.blocks.roots);
    roots = λ q g process is. elim (cases_eq q p) [
      | inl e ↦
          let same : g ≡ frame = some_same g frame (sym is ∙ ap (λ q. way v q 0 0) e ∙ root_is) in
          let P : ℕ → Type 0 = λ q. IsRoot after v q g in
          subst P (sym e) (subst (IsRoot after v p) (sym same) new_root)
      | inr n ↦ old_root q g process (sym (other_root q n) ∙ is)
    ];
    rooted = λ q process none. elim (cases_eq q p) [
      | inl e ↦ absurd (none_some frame (sym none ∙ ap (λ q. way v q 0 0) e ∙ root_is))
      | inr n ↦ ap (λ h. count_of h q) l.holdings ∙ l.fresh.taken.others q n (omega (arith, process)) ∙ l.are.rooted q process (sym (other_root q n) ∙ none)
    ];
    tables = λ g inside process. elim (cases_eq g frame) [
      | inl e ↦ subst (IsTable after v) (sym e) new_table
      | inr n ↦ old_table g (omega (arith, inside, blocks.frames)) (omega (arith, process, ap (λ p. p.owner) (kept g n)))
    ];
  }

  translation_is : (q page : ℕ) → q < 64 → page < 2 ^ 35 → translation_at v q page ≡ translation_at t q page
  translation_is q page process lower = elim (cases_eq q p) [
    | inl e ↦
        let P : ℕ → Type 0 = λ q. translation_at v q page ≡ translation_at t q page in
        subst P (sym e) (nothing_at v p page 0 frame (omega arith) root_is (new_word (index_at 0 page) (index_at-root page lower)) ∙ sym (nothing_after t p page 0 (omega arith) l.missing))
    | inr n ↦ same_translation t v q page (record {
      blocks = blocks;
      root = other_root q n;
      words = λ k g below is.
          let its = place_of_way places t l.are q page process lower k g (omega (arith, below)) is in
          other_word g (index_at k page) (index_at-below k page) (owned g (omega (arith, its.owner, process)));
    })
  ]

  -- one table less is missing
  missing_is : (page : ℕ) → page < 2 ^ 35 → missing_in t p page ≡ missing_in v p page + 1
  missing_is page lower =
      let old = missing_all t p page l.missing in
      let new = missing_past v p page 0 frame (omega arith) root_is (λ _.
      ap (option_and_then (λ f. named_by v (word_of v f (index_at 0 page)))) root_is ∙ ap (named_by v) (new_word (index_at 0 page) (index_at-root page lower))) in
      omega (arith, old, new)

  -- the tables of the others lead on, and the process had none
  ways_more : WaysStay t v
  ways_more q at d g user deep is = let process = process_of_way t q at d g l.are.blocks is in elim (cases_eq q p) [
    | inl e ↦ absurd (rooted_way t q at d g is (ap (λ q. way t q 0 0) e ∙ l.missing))
    | inr n ↦ same_way t v q at d (record {
      blocks = blocks;
      root = other_root q n;
      words = λ k h below way.
          let its = place_of_way places t l.are q at process (user_lower at user) k h (omega (arith, below, deep)) way in
          other_word h (index_at k at) (index_at-below k at) (owned h (omega (arith, its.owner, process)));
    }) ∙ is
  ]

  pub rooting_step : (page : ℕ) → IsUserPage page → IsStep t p page 0 (Some frame) v
  rooting_step page user = record {
    process = l.process;
    stands = (after, tables_after);
    same = record {
      at = λ q at process user. translation_is q at process (user_lower at user);
      roots = λ q g is. elim (cases_eq q p) [
        | inl e ↦ absurd (none_some g (sym l.missing ∙ ap (λ q. way t q 0 0) (sym e) ∙ is))
        | inr n ↦ other_root q n ∙ is
      ];
      ways = ways_more;
      blocks = blocks;
    };
    others = record {
      roots = other_root;
      counts = λ q n m. ap (λ h. count_of h q) l.holdings ∙ l.fresh.taken.others q n m;
    };
    way_is = root_is;
    spent = let e = ap (λ h. count_of h 64) l.holdings in omega (arith, e, l.fresh.taken.free, missing_is page (user_lower page user));
    none = tt;
  }
