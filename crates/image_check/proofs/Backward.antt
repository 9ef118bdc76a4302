-- Where no clause fails, the image is sound.
use Rattle.std.proofs.Common.{◌≡◌, ◌≢◌, ℕ, ◌+◌, ◌<◌, ◌≤◌, Bool, true, false, ◌&&◌, ◌||◌, not, [], ◌∷◌, length, replicate, refl, sym, ap, subst, ◌∙◌, arith, inl, inr, Option, Some, None, is_some, sum_by}
use Rattle.std.specs.Prelude.{if◌then◌else◌, ◌⊎◌, ◌==◌, nat_le}
use Rattle.std.specs.Option.{option_map}
use Rattle.std.specs.List.{list_all, range_with_len}
use Rattle.std.proofs.lemmas.Option.{slice_get_within}
use Rattle.std.proofs.lemmas.Bool.{and_parts, or_cases, cases_eq, eqb-true, ne_eqb, leb-true}
use Rattle.page_words.specs.Addresses.{slot_number, index_number}
use Rattle.page_words.specs.Words.{is_present, frame_number, NamesTable, IsKernelDirWord}
use Rattle.address_space.specs.ImageWords.{is_lazy_word, NamesPageIn, IsTableWord}
use Rattle.memory_image.specs.Sound.{account_from, account_at, IsSound}
use Rattle.memory_image.specs.Tests.{first_failing}
use Rattle.phys_memory.specs.Bytes.{frame_bytes}
use Rattle.phys_memory.proofs.Frames.{length-frame}
use Rattle.alloc_table.specs.declared.Role.{Role}
use Rattle.alloc_table.specs.declared.Role.TheVariants.{Reserved, Directory, Table, Page}
use Rattle.address_space.specs.Spaces.{Slot, slot_order, zeros}
use Rattle.address_space.specs.Image as memory
use Rattle.address_space.specs.Image.{directory_at, word_of, is_user_slot, table_at, page_frame, IsCount, IsSoundImage}
use Rattle.image_check.specs.declared.clauses.FrameClause.{FrameClause}
use Rattle.image_check.specs.declared.clauses.FrameClause.TheVariants as of_frame
use Rattle.memory_image.specs.declared.processes.Process.{Process}
use Rattle.memory_image.specs.Image.{Image, frames, process_at, role_at, memory_of, IsWideImage}
use Rattle.image_check.specs.Counts.{all_range, is_this, tables_by, pages_by, names, maps, words_in}
use Rattle.image_check.specs.WordTests.{names_table, names_page}
use Rattle.image_check.specs.Verdict.{NothingFails, is_blank_and_reserved, clause_of, clause_by_role, serves, is_unnamed, is_unmapped, is_reserved, is_directory_of, is_table_of, is_page, links_table, links_tables, maps_page, maps_pages, table_is_right, quotas_from}
use Rattle.image_check.proofs.RangeLemmas.{all-at, count-some, this-true}
use Rattle.image_check.proofs.WordLemmas.{tests_decide}
use Rattle.page_words.proofs.OptionLemmas.{is_some-map}
use Rattle.process_table.specs.Image.{Account, IsCharge, quota_from}
use Rattle.memory_image.proofs.References.{from_map, user_range, directory-of, live-of, pid-small}
use Rattle.image_check.proofs.Linked.{linked, mapped, maps-counts, charge-counts}
use Rattle.image_check.proofs.ClauseLemmas.{passes_first, Passes, all_pass, directory_role, table_role, page_role, reserved_role, zeros_from, quotas_listed}

module _ (image : Image) (I : IsWideImage image) (N : NothingFails image) where
  abbrev M : memory.Image
  M = memory_of image

  passes : (p : ℕ) (r : Process) → process_at image p ≡ Some r → Passes image p r
  passes p r live = all_pass image p r (sym (ap (clause_of image p) live) ∙ N.processes p (pid-small image I.pids p r live))

  root : (r : Process) × (process_at image 0 ≡ Some r)
  root = by (process_at image 0) refl
    where
      by : (x : Option Process) → process_at image 0 ≡ x → (r : Process) × (process_at image 0 ≡ Some r)
      by None e = let h = sym (ap (clause_of image 0) e) ∙ N.processes 0 (omega arith) in cc
      by (Some r) e = (r, e)

  -- ---- Frames

  blank : (is_reserved (role_at image 0) ≡ true) × (list_all (λ b. b == 0) (frame_bytes image.bytes 0) ≡ true)
  blank =
      let h = N.frames 0 (let a = I.fewest in omega arith) in
      and_parts (is_reserved (role_at image 0)) (list_all (λ b. b == 0) (frame_bytes image.bytes 0)) (passes_first (is_reserved (role_at image 0) && list_all (λ b. b == 0) (frame_bytes image.bytes 0)) _ _ h).0

  role-0 : role_at image 0 ≡ Some Reserved
  role-0 = reserved_role (role_at image 0) blank.0

  zero-frame : frame_bytes image.bytes 0 ≡ zeros
  zero-frame =
      let few = I.fewest in
      let size = I.size in
      let long : length (frame_bytes image.bytes 0) ≡ 4096 = length-frame image.bytes 0 (omega arith) in
      zeros_from (frame_bytes image.bytes 0) blank.1 ∙ ap (λ n. replicate n 0) long

  otherwise : (b : Bool) (x y : Option FrameClause) → b ≡ false → (if b then x else y) ≡ None → y ≡ None
  otherwise true x y h e = cc
  otherwise false x y h e = e

  -- a frame other than 0 serves as its role says
  served : (f : ℕ) (role : Role) → f < frames image → f ≢ 0 → role_at image f ≡ Some role → (serves image f role).0 ≡ true
  served f role inside differ is =
      let a = otherwise (f == 0) (first_failing ((is_blank_and_reserved image, of_frame.Reserved) ∷ [])) (clause_by_role image f (role_at image f)) (ne_eqb f 0 differ) (N.frames f inside) in
      let b : clause_by_role image f (Some role) ≡ None = sym (ap (clause_by_role image f) is) ∙ a in
      (passes_first (serves image f role).0 (serves image f role).1 None b).0

  -- and is another frame, where that isn't Reserved
  inside-roles : (f : ℕ) (role : Role) → role_at image f ≡ Some role → f < frames image
  inside-roles f role is = slice_get_within image.roles f role is

  other-than-0 : (f : ℕ) (role : Role) → (role ≡ Reserved → ⊥) → role_at image f ≡ Some role → f ≢ 0
  other-than-0 f role differ is e = differ (let a : role_at image 0 ≡ Some role = ap (role_at image) (sym e) ∙ is in let b = sym a ∙ role-0 in cc)

  serving : (f : ℕ) (role : Role) → (role ≡ Reserved → ⊥) → role_at image f ≡ Some role → (serves image f role).0 ≡ true
  serving f role differ is = served f role (inside-roles f role is) (other-than-0 f role differ is) is

  reserved-alone : (f : ℕ) → f < frames image → role_at image f ≡ Some Reserved → f ≡ 0
  reserved-alone f inside is = elim (cases_eq f 0) [
    | inl e ↦ e
    | inr differ ↦ absurd (let h = served f Reserved inside differ is in cc)
  ]

  directory-back : (f p : ℕ) → role_at image f ≡ Some (Directory p) → directory_at M p ≡ Some f
  directory-back f p is =
      let h = serving f (Directory p) (λ e. cc) is in
      let a = and_parts (is_this f (directory_at M p) && is_unnamed image f) (is_unmapped image f) h in
      let b = and_parts (is_this f (directory_at M p)) (is_unnamed image f) a.0 in
      this-true f (directory_at M p) b.0

  table-back : (f p s : ℕ) → role_at image f ≡ Some (Table p s) → table_at M p s ≡ Some f
  table-back f p s is =
      let h = serving f (Table p s) (λ e. cc) is in
      let a = and_parts (is_this f (table_at M p s) && (names image f == 1)) (is_unmapped image f) h in
      let b = and_parts (is_this f (table_at M p s)) (names image f == 1) a.0 in
      this-true f (table_at M p s) b.0

  page-counts : (f c : ℕ) → role_at image f ≡ Some (Page c) → (0 < c) × IsCount slot_order c (λ slot. page_frame M slot ≡ Some f)
  page-counts f c is =
      let h = serving f (Page c) (λ e. cc) is in
      let a = and_parts (nat_le 1 c && (c == maps image f)) (is_unnamed image f) h in
      let b = and_parts (nat_le 1 c) (c == maps image f) a.0 in
      let one = leb-true 1 c b.0 in
      (omega (arith, one), subst (λ n. IsCount slot_order n (λ slot. page_frame M slot ≡ Some f)) (sym (eqb-true c (maps image f) b.1)) (maps-counts image I.pids f))

  -- ---- Words

  directory-role : (p d : ℕ) → directory_at M p ≡ Some d → role_at image d ≡ Some (Directory p)
  directory-role p d h =
      let r = live-of image p d h in
      let a = and_parts (not (r.0.directory == 0)) (is_directory_of p (role_at image r.0.directory)) (passes p r.0 r.1).directory in
      ap (role_at image) (sym r.2) ∙ directory_role p (role_at image r.0.directory) a.1

  linking : (p d s : ℕ) → directory_at M p ≡ Some d → s < 1024 → links_table image p s (word_of M d s) ≡ true
  unfolding links_tables
  linking p d s h low =
      let r = live-of image p d h in
      ap (λ k. links_table image p s (word_of M k s)) (sym r.2)
      ∙ all-at (λ s. links_table image p s (word_of M r.0.directory s)) 0 1024 (passes p r.0 r.1).tables s (omega arith) (omega (arith, low))

  record Leads (p s word : ℕ) : Type 0 where
    user : is_user_slot s ≡ true
    names : NamesTable word
    role : role_at image (frame_number word) ≡ Some (Table p s)

  leading : (p s word : ℕ) → links_table image p s word ≡ true → (word ≡ 0) ⊎ Leads p s word
  leading p s word h = elim (or_cases (word == 0) (is_user_slot s && names_table word && is_table_of p s (role_at image (frame_number word))) h) [
    | inl z ↦ inl (eqb-true word 0 z)
    | inr b ↦
        let a = and_parts (is_user_slot s && names_table word) (is_table_of p s (role_at image (frame_number word))) b in
        let c = and_parts (is_user_slot s) (names_table word) a.0 in
        inr (record { user = c.0; names = (tests_decide.0 word).0 c.1; role = table_role p s (role_at image (frame_number word)) a.1 })
  ]

  dir-word : (p d s : ℕ) → directory_at M p ≡ Some d → s < 1024 → IsKernelDirWord (word_of M d s)
  dir-word p d s h low = elim (leading p s (word_of M d s) (linking p d s h low)) [ inl z ↦ inl z | inr l ↦ inr l.names ]

  dir-word-outside : (p d s : ℕ) → directory_at M p ≡ Some d → s < 1024 → is_user_slot s ≡ false → word_of M d s ≡ 0
  dir-word-outside p d s h low out = elim (leading p s (word_of M d s) (linking p d s h low)) [ inl z ↦ z | inr l ↦ (let u = l.user in cc) ]

  table-role : (f p s : ℕ) → table_at M p s ≡ Some f → role_at image f ≡ Some (Table p s)
  table-role f p s h =
      let l = linked image p s f h in
      let u = user_range s l.user in
      let high = u.1 in
      elim (leading p s (word_of M l.r.directory s) (linking p l.r.directory s (directory-of image p l.r l.live) (omega arith))) [
        | inl z ↦ absurd (let a = sym (ap is_present z) ∙ l.present in cc)
        | inr w ↦ ap (role_at image) (sym l.frame) ∙ w.role
      ]

  right : (p s t : ℕ) → table_at M p s ≡ Some t → table_is_right image (Some t) ≡ true
  unfolding maps_pages
  right p s t h =
      let l = linked image p s t h in
      let u = user_range s l.user in
      let high = u.1 in
      sym (ap (table_is_right image) h) ∙ all-at (λ s. table_is_right image (table_at M p s)) 256 704 (passes p l.r l.live).pages s u.0 (omega arith)

  mapping : (p s t i : ℕ) → table_at M p s ≡ Some t → i < 1024 → maps_page image (word_of M t i) ≡ true
  mapping p s t i h low =
      let a = and_parts (nat_le 1 (words_in image t)) (all_range (λ i. maps_page image (word_of M t i)) 0 1024) (right p s t h) in
      all-at (λ i. maps_page image (word_of M t i)) 0 1024 a.1 i (omega arith) (omega (arith, low))

  record Holds (word : ℕ) : Type 0 where
    names : NamesPageIn image.version word
    role : is_lazy_word image.version word ≡ false → (count : ℕ) × (role_at image (frame_number word) ≡ Some (Page count))

  holding : (word : ℕ) → maps_page image word ≡ true → (word ≡ 0) ⊎ Holds word
  holding word h = elim (or_cases (word == 0) (names_page image.version word && (is_lazy_word image.version word || is_page (role_at image (frame_number word)))) h) [
    | inl z ↦ inl (eqb-true word 0 z)
    | inr b ↦
        let a = and_parts (names_page image.version word) (is_lazy_word image.version word || is_page (role_at image (frame_number word))) b in
        inr (record {
          names = (tests_decide.1 image.version word).0 a.0;
          role = λ real. page_role (role_at image (frame_number word)) (sym (λ i. real i || is_page (role_at image (frame_number word))) ∙ a.1);
        })
  ]

  table-word : (p s t i : ℕ) → table_at M p s ≡ Some t → i < 1024 → IsTableWord image.version (word_of M t i)
  table-word p s t i h low = elim (holding (word_of M t i) (mapping p s t i h low)) [ inl z ↦ inl z | inr w ↦ inr w.names ]

  in-use : (p s t : ℕ) → table_at M p s ≡ Some t → (i : ℕ) × (i < 1024) × (is_present (word_of M t i) ≡ true)
  in-use p s t h =
      let a = and_parts (nat_le 1 (words_in image t)) (all_range (λ i. maps_page image (word_of M t i)) 0 1024) (right p s t h) in
      let c = count-some (λ i. is_present (word_of M t i)) 0 1024 (leb-true 1 (words_in image t) a.0) in
      (c.0, (let k = c.2 in omega arith), c.3)

  page-role : (slot : Slot) (f : ℕ) → page_frame M slot ≡ Some f → (c : ℕ) × (role_at image f ≡ Some (Page c))
  page-role slot f h =
      let w = mapped image slot.pid slot.page f h in
      elim (holding (word_of M w.t (index_number slot.page)) (mapping slot.pid (slot_number slot.page) w.t (index_number slot.page) w.table (omega arith))) [
        | inl z ↦ absurd (let a = sym (ap is_present z) ∙ w.present in cc)
        | inr k ↦ let c = k.role w.real in (c.0, ap (role_at image) (sym w.frame) ∙ c.1)
      ]

  sound-memory : IsSoundImage M
  sound-memory = record {
    size = I.size;
    reserved = λ f inside. (reserved-alone f inside, λ e. ap (role_at image) e ∙ role-0);
    zero_frame = zero-frame;
    directories = λ f p. (directory-back f p, directory-role p f);
    tables = λ f p s. (table-back f p s, table-role f p s);
    pages = page-role;
    counts = page-counts;
    directory_words = dir-word;
    no_more = dir-word-outside;
    table_words = table-word;
    in_use = in-use;
  }

  -- ---- Processes

  root-quota : (r : Process) → process_at image 0 ≡ Some r → 1 + r.quota ≡ frames image
  root-quota r live = eqb-true (1 + r.quota) (frames image) (passes 0 r live).parent

  live-parent : (p : ℕ) (r : Process) → p ≢ 0 → process_at image p ≡ Some r → is_some (process_at image r.parent) ≡ true
  live-parent p r differ live = sym (not_root (p == 0) (1 + r.quota == frames image) (is_some (process_at image r.parent)) (ne_eqb p 0 differ)) ∙ (passes p r live).parent
    where
      not_root : (b x y : Bool) → b ≡ false → (if b then x else y) ≡ y
      not_root true x y h = cc
      not_root false x y h = refl

  parent-there : (p : ℕ) (r : Process) → process_at image p ≡ Some r → is_some (process_at image r.parent) ≡ true
  parent-there p r live = elim (cases_eq p 0) [
    | inl e ↦ ap (λ q. is_some (process_at image q)) ((I.processes p r live).root e) ∙ ap is_some root.1
    | inr differ ↦ live-parent p r differ live
  ]

  of-account : (P : Account → Type 0) (p : ℕ) → ((r : Process) → process_at image p ≡ Some r → P (account_from r)) → (c : Account) → account_at image p ≡ Some c → P c
  of-account P p each c is = let r = from_map account_from (process_at image p) c is in subst P r.2 (each r.0 r.1)

  pub sound : IsSound image
  sound = record {
    memory = sound-memory;
    root = (account_from root.0, ap (option_map account_from) root.1, root-quota root.0 root.1);
    live = λ p. is_some-map account_from (process_at image p) ∙ sym (is_some-map (λ r. r.directory) (process_at image p));
    parents = λ p. of-account (λ c. is_some (account_at image c.parent) ≡ true) p (λ r live. is_some-map account_from (process_at image r.parent) ∙ parent-there p r live);
    given = λ p. of-account (λ c. c.given ≡ sum_by (λ q. quota_from p q (account_at image q)) (range_with_len 0 64)) p (λ r live. eqb-true r.given (quotas_from image p) (passes p r live).given ∙ quotas_listed image p);
    within = λ p. of-account (λ c. c.used + c.given ≤ c.quota) p (λ r live. leb-true (r.used + r.given) r.quota (passes p r live).quota);
    used = λ p. of-account (λ c. IsCharge M p c.used) p (λ r live. charge-counts image I.pids p r.used (eqb-true r.used (1 + tables_by image p + pages_by image p) (passes p r live).used));
  }
