-- In a sound image no clause fails.
use Rattle.std.proofs.Common.{◌≡◌, ◌≢◌, ℕ, ◌+◌, ◌*◌, ◌<◌, Bool, true, false, ◌&&◌, ◌||◌, not, [], ◌∷◌, refl, sym, ap, ◌∙◌, arith, inl, inr, Option, Some, None, is_some}
use Rattle.std.specs.Prelude.{if◌then◌else◌, ◌==◌, nat_le}
use Rattle.std.specs.Option.{option_and_then, option_map}
use Rattle.std.specs.List.{list_all}
use Rattle.std.proofs.lemmas.Option.{slice_get_within}
use Rattle.std.proofs.lemmas.Bool.{and_from, cases_eq, eqb-true, eq-eqb, ne_eqb, le-leb}
use Rattle.page_words.specs.Words.{is_present, frame_number, IsKernelDirWord}
use Rattle.address_space.specs.ImageWords.{is_lazy_word, own_frame, IsTableWord}
use Rattle.memory_image.specs.Sound.{account_from, account_at, IsSound}
use Rattle.process_table.specs.Image.{Account}
use Rattle.page_words.proofs.OptionLemmas.{is_some-map}
use Rattle.memory_image.specs.Tests.{first_failing}
use Rattle.memory_image.proofs.References.{same_some, directory-of, pid-small}
use Rattle.phys_memory.specs.Bytes.{frame_bytes}
use Rattle.alloc_table.specs.declared.Role.{Role}
use Rattle.alloc_table.specs.declared.Role.TheVariants.{Reserved, Free, Directory, Table, Page}
use Rattle.address_space.specs.Spaces.{zeros, at_page}
use Rattle.address_space.specs.Image as memory
use Rattle.address_space.specs.Image.{directory_at, word_of, is_user_slot, table_at}
use Rattle.image_check.specs.declared.clauses.ProcessClause.TheVariants as of_process
use Rattle.image_check.specs.declared.clauses.FrameClause.{FrameClause}
use Rattle.image_check.specs.declared.clauses.FrameClause.TheVariants as of_frame
use Rattle.memory_image.specs.declared.processes.Process.{Process}
use Rattle.memory_image.specs.Image.{Image, frames, process_at, role_at, memory_of, IsWideImage}
use Rattle.image_check.specs.Counts.{all_range, is_this, tables_by, pages_by, names, maps, words_in, frame_of}
use Rattle.image_check.specs.WordTests.{names_table, names_page}
use Rattle.image_check.specs.Verdict.{NothingFails, clause_of, frame_clause, clause_by_role, is_blank_and_reserved, serves, is_unnamed, is_unmapped, is_reserved, is_directory_of, is_table_of, is_page, has_parent, has_directory, links_table, links_tables, maps_page, maps_pages, table_is_right, quotas_from}
use Rattle.image_check.proofs.RangeLemmas.{all-from, count-there, this-is}
use Rattle.image_check.proofs.WordLemmas.{tests_decide, names-present}
use Rattle.image_check.proofs.Linked.{real_own, linked, link, word-from, maps-is, maps-none, names-none, names-one, charge-is}
use Rattle.image_check.proofs.ClauseLemmas.{first_passes, Passes, pass_all, role_directory, role_table, all_zeros, quotas_listed}

module _ (image : Image) (I : IsWideImage image) (S : IsSound image) where
  abbrev M : memory.Image
  M = memory_of image

  -- ---- Frames

  role-0 : role_at image 0 ≡ Some Reserved
  role-0 = (S.memory.reserved 0 (let a = I.fewest in omega arith)).1 refl

  -- a table's frame has its role alone
  table-role : (p s f : ℕ) → table_at M p s ≡ Some f → role_at image f ≡ Some (Table p s)
  table-role p s f h = (S.memory.tables f p s).1 h

  page-role : (p page f : ℕ) → frame_of image p page ≡ Some f → (c : ℕ) × (role_at image f ≡ Some (Page c))
  page-role p page f h = S.memory.pages (at_page p page) f h

  unnamed : (f : ℕ) (role : Role) → ((p s : ℕ) → role ≡ Table p s → ⊥) → role_at image f ≡ Some role → is_unnamed image f ≡ true
  unnamed f role other is = eq-eqb (names image f) 0 (names-none image f (λ p s h. other p s (let a = sym is ∙ table-role p s f h in cc)))

  unmapped : (f : ℕ) (role : Role) → ((c : ℕ) → role ≡ Page c → ⊥) → role_at image f ≡ Some role → is_unmapped image f ≡ true
  unmapped f role other is = eq-eqb (maps image f) 0 (maps-none image f (λ p page h. let c = page-role p page f h in other c.0 (let a = sym is ∙ c.1 in cc)))

  same_table : (p s q r : ℕ) → Table q r ≡ Table p s → (q ≡ p) × (r ≡ s)
  same_table p s q r h = (cc, cc)

  named-once : (f p s : ℕ) → role_at image f ≡ Some (Table p s) → names image f ≡ 1
  named-once f p s is =
      let h = (S.memory.tables f p s).0 is in
      let l = linked image p s f h in
      names-one image f p s (pid-small image I.pids p l.r l.live) h
      (λ q r k. same_table p s q r (let a : Some (Table q r) ≡ Some (Table p s) = sym (table-role q r f k) ∙ is in cc))

  serving : (f : ℕ) (role : Role) → f ≢ 0 → role_at image f ≡ Some role → (serves image f role).0 ≡ true
  serving f Reserved differ is = absurd (differ ((S.memory.reserved f (slice_get_within image.roles f Reserved is)).0 is))
  serving f Free differ is = and_from (is_unnamed image f) (is_unmapped image f) (unnamed f Free (λ p s e. cc) is) (unmapped f Free (λ c e. cc) is)
  serving f (Directory p) differ is =
      and_from (is_this f (directory_at M p) && is_unnamed image f) (is_unmapped image f)
      (and_from (is_this f (directory_at M p)) (is_unnamed image f) (this-is f (directory_at M p) ((S.memory.directories f p).0 is)) (unnamed f (Directory p) (λ q s e. cc) is))
      (unmapped f (Directory p) (λ c e. cc) is)
  serving f (Table p s) differ is =
      and_from (is_this f (table_at M p s) && (names image f == 1)) (is_unmapped image f)
      (and_from (is_this f (table_at M p s)) (names image f == 1) (this-is f (table_at M p s) ((S.memory.tables f p s).0 is)) (eq-eqb (names image f) 1 (named-once f p s is)))
      (unmapped f (Table p s) (λ c e. cc) is)
  serving f (Page c) differ is =
      let k = S.memory.counts f c is in
      let one = k.0 in
      and_from (nat_le 1 c && (c == maps image f)) (is_unnamed image f)
      (and_from (nat_le 1 c) (c == maps image f) (le-leb 1 c (omega arith)) (eq-eqb c (maps image f) (maps-is image I.pids f c k.1)))
      (unnamed f (Page c) (λ p s e. cc) is)

  by-role : (f : ℕ) (x : Option Role) → f ≢ 0 → role_at image f ≡ x → clause_by_role image f x ≡ None
  by-role f None differ is = refl
  by-role f (Some role) differ is = first_passes (serves image f role).0 (serves image f role).1 None (serving f role differ is) refl

  blank : is_blank_and_reserved image ≡ true
  blank = and_from (is_reserved (role_at image 0)) (list_all (λ b. b == 0) (frame_bytes image.bytes 0))
      (ap is_reserved role-0) (ap (list_all (λ b. b == 0)) S.memory.zero_frame ∙ zeros-pass)
    where
      zeros-pass : list_all (λ b. b == 0) zeros ≡ true
      zeros-pass = all_zeros 4096

  at-0 : (b : Bool) (x y : Option FrameClause) → b ≡ true → x ≡ None → (if b then x else y) ≡ None
  at-0 true x y h e = e
  at-0 false x y h e = cc

  not-0 : (b : Bool) (x y : Option FrameClause) → b ≡ false → y ≡ None → (if b then x else y) ≡ None
  not-0 true x y h e = cc
  not-0 false x y h e = e

  pub frames-pass : (f : ℕ) → f < frames image → frame_clause image f ≡ None
  frames-pass f inside = elim (cases_eq f 0) [
    | inl e ↦ at-0 (f == 0) (first_failing ((is_blank_and_reserved image, of_frame.Reserved) ∷ [])) (clause_by_role image f (role_at image f)) (eq-eqb f 0 e) (first_passes (is_blank_and_reserved image) of_frame.Reserved None blank refl)
    | inr differ ↦ not-0 (f == 0) (first_failing ((is_blank_and_reserved image, of_frame.Reserved) ∷ [])) (clause_by_role image f (role_at image f)) (ne_eqb f 0 differ) (by-role f (role_at image f) differ refl)
  ]

  -- ---- Processes

  module _ (p : ℕ) (r : Process) (live : process_at image p ≡ Some r) where
    told : account_at image p ≡ Some (account_from r)
    told = ap (option_map account_from) live

    choose : (b x y : Bool) → (b ≡ true → x ≡ true) → (b ≡ false → y ≡ true) → (if b then x else y) ≡ true
    choose true x y h k = h refl
    choose false x y h k = k refl

    parent-passes : has_parent image p r ≡ true
    parent-passes = elim (cases_eq p 0) [
      | inl e ↦ choose (p == 0) (1 + r.quota == frames image) (is_some (process_at image r.parent))
          (λ _. let same : account_from r ≡ S.root.0 = same_some (account_from r) S.root.0 (sym told ∙ ap (account_at image) e ∙ S.root.1) in
          eq-eqb (1 + r.quota) (frames image) (ap (λ (c : Account). 1 + c.quota) same ∙ S.root.2))
          (λ n. absurd (let y = sym (eq-eqb p 0 e) ∙ n in cc))
      | inr differ ↦ choose (p == 0) (1 + r.quota == frames image) (is_some (process_at image r.parent))
          (λ y. absurd (differ (eqb-true p 0 y)))
          (λ _. sym (is_some-map account_from (process_at image r.parent)) ∙ S.parents p (account_from r) told)
    ]

    own-directory : role_at image r.directory ≡ Some (Directory p)
    own-directory = (S.memory.directories r.directory p).1 (directory-of image p r live)

    directory-passes : has_directory image p r ≡ true
    directory-passes = and_from (not (r.directory == 0)) (is_directory_of p (role_at image r.directory))
        (ap not (ne_eqb r.directory 0 (λ e. let a = sym (ap (role_at image) e ∙ role-0) ∙ own-directory in cc)))
        (role_directory p (role_at image r.directory) own-directory)

    or_left : (a b : Bool) → a ≡ true → (a || b) ≡ true
    or_left true b h = refl
    or_left false b h = cc

    or_right : (a b : Bool) → b ≡ true → (a || b) ≡ true
    or_right true b h = refl
    or_right false b h = h

    link-passes : (s : ℕ) → s < 1024 → links_table image p s (word_of M r.directory s) ≡ true
    link-passes s low = by (is_user_slot s) refl (S.memory.directory_words p r.directory s (directory-of image p r live) low)
      where
        word : ℕ
        word = word_of M r.directory s

        by : (b : Bool) → is_user_slot s ≡ b → IsKernelDirWord (word_of M r.directory s) → links_table image p s (word_of M r.directory s) ≡ true
        by false out k = or_left (word_of M r.directory s == 0) _ (eq-eqb (word_of M r.directory s) 0 (S.memory.no_more p r.directory s (directory-of image p r live) low out))
        by true user (inl z) = or_left (word_of M r.directory s == 0) _ (eq-eqb (word_of M r.directory s) 0 z)
        by true user (inr n) = or_right (word_of M r.directory s == 0) (is_user_slot s && names_table (word_of M r.directory s) && is_table_of p s (role_at image (frame_number (word_of M r.directory s))))
            (and_from (is_user_slot s && names_table (word_of M r.directory s)) (is_table_of p s (role_at image (frame_number (word_of M r.directory s))))
            (and_from (is_user_slot s) (names_table (word_of M r.directory s)) user ((tests_decide.0 (word_of M r.directory s)).1 n))
            (role_table p s (role_at image (frame_number (word_of M r.directory s))) (table-role p s (frame_number (word_of M r.directory s)) (link image p s r live user n.present))))

    links-pass : links_tables image p r ≡ true
    unfolding links_tables
    links-pass = all-from (λ s. links_table image p s (word_of M r.directory s)) 0 1024 (λ s low high. link-passes s (omega (arith, high)))

    map-passes : (s t i : ℕ) → table_at M p s ≡ Some t → i < 1024 → maps_page image (word_of M t i) ≡ true
    map-passes s t i h low = by (S.memory.table_words p s t i h low)
      where
        inside : t < frames image
        inside = slice_get_within image.roles t (Table p s) (table-role p s t h)

        holds : (b : Bool) → is_lazy_word image.version (word_of M t i) ≡ b → is_present (word_of M t i) ≡ true → (b || is_page (role_at image (frame_number (word_of M t i)))) ≡ true
        holds true e present = refl
        holds false e present =
            let w = word-from image p s t i h inside low present in
            let k = page-role p (s * 1024 + i) (frame_number (word_of M t i)) (ap (option_and_then (own_frame image.version)) w ∙ real_own image.version (word_of M t i) e) in
            ap is_page k.1

        by : IsTableWord image.version (word_of M t i) → maps_page image (word_of M t i) ≡ true
        by (inl z) = or_left (word_of M t i == 0) _ (eq-eqb (word_of M t i) 0 z)
        by (inr n) =
            or_right (word_of M t i == 0) (names_page image.version (word_of M t i) && (is_lazy_word image.version (word_of M t i) || is_page (role_at image (frame_number (word_of M t i)))))
            (and_from (names_page image.version (word_of M t i)) (is_lazy_word image.version (word_of M t i) || is_page (role_at image (frame_number (word_of M t i)))) ((tests_decide.1 image.version (word_of M t i)).1 n)
            (holds (is_lazy_word image.version (word_of M t i)) refl (names-present image.version (word_of M t i) n)))

    table-passes : (s : ℕ) (x : Option ℕ) → table_at M p s ≡ x → table_is_right image x ≡ true
    table-passes s None h = refl
    table-passes s (Some t) h =
        let used = S.memory.in_use p s t h in
        let low = used.1 in
        and_from (nat_le 1 (words_in image t)) (all_range (λ i. maps_page image (word_of M t i)) 0 1024)
        (le-leb 1 (words_in image t) (count-there (λ i. is_present (word_of M t i)) 0 1024 used.0 (omega arith) (omega arith) used.2))
        (all-from (λ i. maps_page image (word_of M t i)) 0 1024 (λ i low high. map-passes s t i h (omega (arith, high))))

    maps-pass : maps_pages image p ≡ true
    unfolding maps_pages
    maps-pass = all-from (λ s. table_is_right image (table_at M p s)) 256 704 (λ s low high. table-passes s (table_at M p s) refl)

    pub passes : Passes image p r
    passes = record {
      parent = parent-passes;
      directory = directory-passes;
      tables = links-pass;
      pages = maps-pass;
      used = eq-eqb r.used (1 + tables_by image p + pages_by image p) (charge-is image I.pids p r.used (S.used p (account_from r) told));
      given = eq-eqb r.given (quotas_from image p) (S.given p (account_from r) told ∙ sym (quotas_listed image p));
      quota = le-leb (r.used + r.given) r.quota (S.within p (account_from r) told);
    }

  by-process : (p : ℕ) (x : Option Process) → process_at image p ≡ x → clause_of image p x ≡ None
  by-process p None is = elim (cases_eq p 0) [
    | inl e ↦ absurd (
        let none = sym S.root.1 ∙ ap (account_at image) (sym e) ∙ ap (option_map account_from) is in cc)
    | inr differ ↦ dead (p == 0) (ne_eqb p 0 differ)
  ]
    where
      dead : (b : Bool) → b ≡ false → (if b then Some of_process.Parent else None) ≡ None
      dead true h = cc
      dead false h = refl
  by-process p (Some r) is = pass_all image p r (passes p r is)

  pub nothing_fails : NothingFails image
  nothing_fails = record { processes = λ p small. by-process p (process_at image p) refl; frames = frames-pass }
