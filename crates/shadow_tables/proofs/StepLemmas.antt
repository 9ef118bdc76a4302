-- The steps of a fill: a table that is missing is taken, zero, and linked; a root that is missing is taken.
use Rattle.std.proofs.Common.{◌≡◌, ◌≢◌, ℕ, zero, suc, ◌+◌, ◌^◌, ◌<◌, ◌≤◌, true, length, Option, Some, None, refl, sym, ap, subst, ◌∙◌, arith, inl, inr}
use Rattle.std.specs.Prelude.{slice_index_or, IfNone}
use Rattle.std.specs.Option.{option_and_then}
use Rattle.std.proofs.lemmas.Bool.{cases_eq}
use Rattle.shadow_tables.specs.declared.tables.Tables.{Tables}
use Rattle.shadow_tables.specs.LongWords.{entry_word}
use Rattle.shadow_tables.specs.Shadow.{frame_address}
use Rattle.shadow_tables.specs.Holdings.{Places, with_place, next_place, count_of, AreHeld}
use Rattle.shadow_tables.specs.Tables.{frames_of, word_of, named_by, index_at, prefix_at, way, missing_in, translation_at, AreTables, LinksTo, IsWord, IsTable, IsShadow, SameBlocks, SameButBytes, IsFresh, IsStep}
use Rattle.shadow_tables.proofs.HoldingLemmas.{with_place-same, with_place-other}
use Rattle.shadow_tables.proofs.WayLemmas.{IsAt, place_of_way, process_of_way, next_at, named_by-link, named_by-same, none_some, then_some, same_way, same_translation, nothing_at, missing_past, rooted_way, some_or_not, user_lower, index_at-below, index_at-root, prefix_at-next}
use Rattle.shadow_tables.proofs.TableLemmas.{Wrote, Cleared, then_blocks, blocks_stay, table_stays, zero_word}

-- two steps in sequence
pub then_step : (t u v : Tables) (p page first second frame : ℕ) (found : Option ℕ) → IsStep t p page first (Some frame) u → IsStep u p page second found v → IsStep t p page second found v
then_step t u v p page first second frame found a b = record {
  process = a.process;
  stands = b.stands;
  same = record {
    at = λ q at process user. b.same.at q at process user ∙ a.same.at q at process user;
    roots = λ q frame e. b.same.roots q frame (a.same.roots q frame e);
    ways = λ q at d frame user deep e. b.same.ways q at d frame user deep (a.same.ways q at d frame user deep e);
    blocks = then_blocks t u v a.same.blocks b.same.blocks;
  };
  others = record {
    roots = λ q n. b.others.roots q n ∙ a.others.roots q n;
    counts = λ q n m. b.others.counts q n m ∙ a.others.counts q n m;
  };
  way_is = b.way_is;
  spent = omega (arith, a.spent, b.spent);
  none = none_of found b.none;
}
  where
    none_of : (found : Option ℕ) → IfNone found (count_of u.holdings 64 < missing_in u p page) → IfNone found (count_of t.holdings 64 < missing_in t p page)
    none_of (Some frame) h = tt
    none_of None h = omega (arith, h, a.spent)

-- a step that found no frame, in a longer sequence
pub stopped : (t u : Tables) (p page first second : ℕ) → IsStep t p page first None u → IsStep t p page second None u
stopped t u p page first second a = record {
  process = a.process;
  stands = a.stands;
  same = a.same;
  others = a.others;
  way_is = tt;
  spent = a.spent;
  none = a.none;
}

-- a step that changes nothing, as no frame is free
pub none_left : (t : Tables) (p page d : ℕ) → IsShadow t → p < 64 → count_of t.holdings 64 ≡ 0 → 0 < missing_in t p page → IsStep t p page d None t
none_left t p page d stands process none missing = record {
  process = process;
  stands = stands;
  same = record { at = λ _ _ _ _. refl; roots = λ _ _ e. e; ways = λ _ _ _ _ _ _ e. e; blocks = record { pool = refl; block = refl; kernel = refl; length = refl; frames = refl } };
  others = record { roots = λ _ _. refl; counts = λ _ _ _. refl };
  way_is = tt;
  spent = refl;
  none = omega (arith, none, missing);
}

-- ---- A table is linked

-- what there is before and after: a frame is taken and cleared, and named by a word that was 0
pub record Linking (places : Places) (t u v : Tables) (p page d table frame : ℕ) : Type 0 where
  pub are : AreTables places t
  pub process : p < 64
  pub lower : page < 2 ^ 35
  pub deep : d < 3
  pub way_is : way t p page d ≡ Some table
  pub missing : named_by t (word_of t table (index_at d page)) ≡ None
  pub fresh : IsFresh t p frame u
  pub clear : Cleared t u frame
  pub wrote : Wrote u v table (index_at d page) (entry_word (frame_address t.pool frame) true)
  pub same : SameButBytes u v

module _ (places : Places) (t u v : Tables) (p page d table frame : ℕ) (l : Linking places t u v p page d table frame) where
  at : IsAt places t p page d table
  at = place_of_way places t l.are p page l.process l.lower d table (omega (arith, l.deep)) l.way_is

  free : (places frame).owner ≡ 64
  free = l.fresh.taken.was_free places l.are.held

  -- a process's frame isn't the one that was free
  owned : (g : ℕ) → (places g).owner < 64 → g ≢ frame
  owned g h e = let own = ap (λ g. (places g).owner) e in absurd (omega (arith, own, free))

  was_zero : word_of t table (index_at d page) ≡ 0
  was_zero = elim (next_at places t p page d table l.are l.process l.lower l.deep at) [
    | inl none ↦ none
    | inr more ↦ absurd (none_some more.0 (sym l.missing ∙ ap (named_by t) more.1.word ∙ named_by-link t more.0 l.are.blocks more.1.inside))
  ]

  blocks : SameBlocks t v
  blocks = then_blocks t u v l.fresh.blocks l.same.blocks

  roots_is : v.roots ≡ t.roots
  roots_is = l.same.roots ∙ l.fresh.roots

  -- words of other tables
  word_is : (g j : ℕ) → j < 512 → g ≢ frame → (g ≡ table → j ≢ index_at d page) → word_of v g j ≡ word_of t g j
  word_is g j h n apart = l.wrote.others g j h apart ∙ l.clear.others g j h n

  -- the words of the new table
  new_word : (j : ℕ) → j < 512 → word_of v frame j ≡ 0
  new_word j h = l.wrote.others frame j h (λ e. absurd (owned table (omega (arith, at.owner, l.process)) (sym e))) ∙ l.clear.own j h

  abbrev after : Places
  after = with_place places frame (next_place t.holdings p (suc d) (prefix_at (suc d) page))

  new : after frame ≡ next_place t.holdings p (suc d) (prefix_at (suc d) page)
  new = with_place-same places frame (next_place t.holdings p (suc d) (prefix_at (suc d) page))

  kept : (g : ℕ) → g ≢ frame → after g ≡ places g
  kept g n = with_place-other places frame (next_place t.holdings p (suc d) (prefix_at (suc d) page)) g n

  links : LinksTo after v table (index_at d page) frame
  links =
      let of_table = kept table (owned table (omega (arith, at.owner, l.process))) in
      let prefix = ap (λ p. p.prefix) of_table in
      record {
        inside = omega (arith, l.fresh.taken.inside, blocks.frames);
        word = l.wrote.own ∙ ap (λ pool. entry_word (frame_address pool frame) true) (sym blocks.pool);
        owner = ap (λ p. p.owner) new ∙ sym (ap (λ p. p.owner) of_table ∙ at.owner);
        depth = ap (λ p. p.depth) new ∙ sym (ap (λ p. suc p.depth) of_table ∙ ap suc at.depth);
        prefix = ap (λ p. p.prefix) new ∙ (let e = at.prefix in omega (arith, e, prefix, prefix_at-next d page l.deep));
      }

  old_table : (g : ℕ) → g < frames_of t → (places g).owner < 64 → IsTable after v g
  old_table g inside process =
      table_stays places after t v g
      (record { blocks = blocks; inside = inside; same = λ h _ own. kept h (owned h (omega (arith, own, process))) })
      (λ root k below.
      l.wrote.upper g k below (λ e. let depth : d ≡ 0 = sym at.depth ∙ ap (λ g. (places g).depth) (sym e) ∙ root in let index = ap (λ d. index_at d page) depth in omega (arith, index, index_at-root page l.lower))
      ∙ l.clear.upper g k below (owned g process))
      (λ j below. elim (cases_eq g table) [
        | inl e ↦ elim (cases_eq j (index_at d page)) [
          | inl i ↦
              let P : ℕ → Type 0 = λ g. IsWord after v g j in
              let Q : ℕ → Type 0 = λ j. IsWord after v table j in
              inr (subst P (sym e) (subst Q (sym i) (record {
                link = λ _ _. inr (frame, links);
                page = λ deep.
                    let of_table = ap (λ p. p.depth) (kept table (owned table (omega (arith, at.owner, l.process)))) in
                    absurd (omega (arith, deep, of_table, at.depth, l.deep));
              })))
          | inr n ↦ inl (word_is g j below (owned g process) (λ _. n))
        ]
        | inr n ↦ inl (word_is g j below (owned g process) (λ e. absurd (n e)))
      ])
      (l.are.tables g inside process)

  new_table : IsTable after v frame
  new_table =
      let depth = ap (λ p. p.depth) new in
      record {
        deep = omega (arith, depth, l.deep);
        words = λ j below. zero_word after v frame j (new_word j below);
        kernel = λ root k _. absurd (omega (arith, depth, root));
      }

  tables_after : AreTables after v
  tables_after = record {
    held = subst (AreHeld after) (sym l.same.holdings) (l.fresh.taken.held places (suc d) (prefix_at (suc d) page) l.are.held);
    blocks = blocks_stay t v l.are.blocks blocks (ap length roots_is ∙ l.are.blocks.roots);
    roots = λ q g process is.
        let root = l.are.roots q g process (sym (ap (λ r. slice_index_or r q None) roots_is) ∙ is) in
        let same = kept g (owned g (omega (arith, root.owner, process))) in
        record {
          inside = omega (arith, root.inside, blocks.frames);
          owner = ap (λ p. p.owner) same ∙ root.owner;
          rank = ap (λ p. p.rank) same ∙ root.rank;
          depth = ap (λ p. p.depth) same ∙ root.depth;
          prefix = ap (λ p. p.prefix) same ∙ root.prefix;
        };
    rooted = λ q process none.
        let was : way t q 0 0 ≡ None = sym (ap (λ r. slice_index_or r q None) roots_is) ∙ none in
        elim (cases_eq q p) [
          | inl e ↦ absurd (rooted_way t p page d table l.way_is (subst (λ q. way t q 0 0 ≡ None) e was))
          | inr n ↦ ap (λ h. count_of h q) l.same.holdings ∙ l.fresh.taken.others q n (omega (arith, process)) ∙ l.are.rooted q process was
        ];
    tables = λ g inside process. elim (cases_eq g frame) [
      | inl e ↦ subst (IsTable after v) (sym e) new_table
      | inr n ↦ old_table g (omega (arith, inside, blocks.frames)) (omega (arith, process, ap (λ p. p.owner) (kept g n)))
    ];
  }

  -- words on the way to a page, above the table
  above : (q at_page k g : ℕ) → q < 64 → at_page < 2 ^ 35 → k ≤ 3 → way t q at_page k ≡ Some g → (g ≡ table → index_at k at_page ≢ index_at d page) → word_of v g (index_at k at_page) ≡ word_of t g (index_at k at_page)
  above q at_page k g process lower deep is apart =
      let its = place_of_way places t l.are q at_page process lower k g deep is in
      word_is g (index_at k at_page) (index_at-below k at_page) (owned g (omega (arith, its.owner, process))) apart

  -- two ways to one table are as long
  same_depth : (q at_page k g : ℕ) → q < 64 → at_page < 2 ^ 35 → k ≤ 3 → way t q at_page k ≡ Some g → g ≡ table → k ≡ d
  same_depth q at_page k g process lower deep is e =
      let its = place_of_way places t l.are q at_page process lower k g deep is in
      sym its.depth ∙ ap (λ g. (places g).depth) e ∙ at.depth

  way_before : (q at_page : ℕ) → q < 64 → at_page < 2 ^ 35 → way v q at_page d ≡ way t q at_page d
  way_before q at_page process lower = same_way t v q at_page d (record {
    blocks = blocks;
    root = ap (λ r. slice_index_or r q None) roots_is;
    words = λ k g below is. above q at_page k g process lower (omega (arith, below, l.deep)) is (λ e. let same = same_depth q at_page k g process lower (omega (arith, below, l.deep)) is e in absurd (omega (arith, same, below)));
  })

  way_after : (q at_page : ℕ) → q < 64 → at_page < 2 ^ 35 → way t q at_page d ≡ Some table → index_at d at_page ≡ index_at d page → way v q at_page (suc d) ≡ Some frame
  way_after q at_page process lower is index =
      ap (option_and_then (λ f. named_by v (word_of v f (index_at d at_page)))) (way_before q at_page process lower ∙ is)
      ∙ ap (λ i. named_by v (word_of v table i)) index ∙ ap (named_by v) links.word
      ∙ named_by-link v frame (tables_after.blocks) links.inside

  translation_is : (q at_page : ℕ) → q < 64 → at_page < 2 ^ 35 → translation_at v q at_page ≡ translation_at t q at_page
  translation_is q at_page process lower = elim (some_or_not (way t q at_page d) table) [
    | inl is ↦ elim (cases_eq (index_at d at_page) (index_at d page)) [
      | inl index ↦
          nothing_at v q at_page (suc d) frame (omega (arith, l.deep)) (way_after q at_page process lower is index) (new_word (index_at (suc d) at_page) (index_at-below (suc d) at_page))
          ∙ sym (nothing_at t q at_page d table (omega (arith, l.deep)) is (ap (word_of t table) index ∙ was_zero))
      | inr n ↦ off (λ k g deep its e. let same = same_depth q at_page k g process lower deep its e in let index = ap (λ d. index_at d at_page) same in λ i. n (sym index ∙ i))
    ]
    | inr n ↦ off (λ k g deep its e. absurd (n (subst (λ k. way t q at_page k ≡ Some table) (same_depth q at_page k g process lower deep its e) (its ∙ ap Some e))))
  ]
    where
      off : ((k g : ℕ) → k ≤ 3 → way t q at_page k ≡ Some g → g ≡ table → index_at k at_page ≢ index_at d page) → translation_at v q at_page ≡ translation_at t q at_page
      off apart = same_translation t v q at_page (record {
        blocks = blocks;
        root = ap (λ r. slice_index_or r q None) roots_is;
        words = λ k g below is. above q at_page k g process lower (omega (arith, below)) is (apart k g (omega (arith, below)) is);
      })

  -- each table that there was leads on
  ways_more : (q at_page k g : ℕ) → q < 64 → at_page < 2 ^ 35 → k ≤ 3 → way t q at_page k ≡ Some g → way v q at_page k ≡ Some g
  ways_more q at_page zero g process lower deep is = ap (λ r. slice_index_or r q None) roots_is ∙ is
  ways_more q at_page (suc k) g process lower deep is =
      let step = then_some (λ f. named_by t (word_of t f (index_at k at_page))) (way t q at_page k) g is in
      let same = above q at_page k step.0 process lower (omega (arith, deep)) step.1 (λ e i.
      none_some g (sym (ap (named_by t) (ap (λ h. word_of t h (index_at k at_page)) e ∙ ap (word_of t table) i ∙ was_zero)) ∙ step.2)) in
      ap (option_and_then (λ f. named_by v (word_of v f (index_at k at_page)))) (ways_more q at_page k step.0 process lower (omega (arith, deep)) step.1)
      ∙ named_by-same t v (word_of t step.0 (index_at k at_page)) (word_of v step.0 (index_at k at_page)) blocks same ∙ step.2

  new_way : way v p page (suc d) ≡ Some frame
  new_way = way_after p page l.process l.lower l.way_is refl

  -- one table less is missing
  missing_is : missing_in t p page ≡ missing_in v p page + 1
  missing_is =
      let old = missing_past t p page d table (omega (arith, l.deep)) l.way_is (λ _. ap (option_and_then (λ f. named_by t (word_of t f (index_at d page)))) l.way_is ∙ l.missing) in
      let new = missing_past v p page (suc d) frame (omega (arith, l.deep)) new_way (λ _.
      ap (option_and_then (λ f. named_by v (word_of v f (index_at (suc d) page)))) new_way ∙ ap (named_by v) (new_word (index_at (suc d) page) (index_at-below (suc d) page))) in
      omega (arith, old, new)

  pub linking_step : IsStep t p page (suc d) (Some frame) v
  linking_step = record {
    process = l.process;
    stands = (after, tables_after);
    same = record {
      at = λ q at_page process user. translation_is q at_page process (user_lower at_page user);
      roots = λ q g is. ap (λ r. slice_index_or r q None) roots_is ∙ is;
      ways = λ q at_page k g user deep is. ways_more q at_page k g (process_of_way t q at_page k g l.are.blocks is) (user_lower at_page user) deep is;
      blocks = blocks;
    };
    others = record {
      roots = λ q _. ap (λ r. slice_index_or r q None) roots_is;
      counts = λ q n m. ap (λ h. count_of h q) l.same.holdings ∙ l.fresh.taken.others q n m;
    };
    way_is = new_way;
    spent = let e = ap (λ h. count_of h 64) l.same.holdings in omega (arith, e, l.fresh.taken.free, missing_is);
    none = tt;
  }
