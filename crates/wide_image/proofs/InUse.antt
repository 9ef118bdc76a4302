-- What a free frame holds is no part of what an image represents.
use Rattle.std.proofs.Common.{◌≡◌, ℕ, ◌<◌, Bool, true, false, ◌&&◌, List, length, refl, sym, ap, subst, ◌∙◌, arith, inl, inr, Option, Some, None}
use Rattle.std.specs.Prelude.{slice_get, is_some, nat_lt, if◌then◌else◌, IsTrue, MatchBool, ◌↔◌}
use Rattle.std.specs.Option.{option_and_then, option_map, unwrap_or}
use Rattle.page_words.specs.Addresses.{slot_number, index_number}
use Rattle.page_words.specs.Words.{frame_number, is_present, IsKernelDirWord}
use Rattle.page_words.specs.FiniteMap as map
use Rattle.page_words.specs.FiniteMap.{Order, nat_order}
use Rattle.phys_memory.specs.Bytes.{frame_bytes, word_in}
use Rattle.alloc_table.specs.declared.Role.{Role}
use Rattle.alloc_table.specs.declared.Role.TheVariants.{Reserved, Directory, Table, Page}
use Rattle.alloc_table.specs.Roles.{is_free}
use Rattle.address_space.specs.Spaces.{Slot, slot_order, Cell, Spaces, at_page}
use Rattle.address_space.specs.Image as memory
use Rattle.address_space.specs.Image.{directory_at, word_of, named_by, table_at, present_word, page_word, page_frame, IsCount, IsSoundImage, CellStands, SlotStands, StandsFor}
use Rattle.address_space.specs.ImageWords.{is_lazy_word, own_frame, IsTableWord}
use Rattle.process_table.specs.State.{State}
use Rattle.memory_image.specs.Image.{directory_from}
use Rattle.memory_image.specs.Sound.{account_from, shown_by}
use Rattle.wide_image.specs.InUse.{FreeFramesDoNotMatter}
use Rattle.process_table.specs.Image as machine

-- a count is one of what holds as well
pub count_same : {K : Type 0} (order : Order K) (n : ℕ) (P Q : K → Type 0) → ((k : K) → P k → Q k) → ((k : K) → Q k → P k) → IsCount order n P → IsCount order n Q
count_same order n P Q there back c = record { members = c.members; are = λ key. (λ h. there key ((c.are key).0 h), λ h. (c.are key).1 (back key h)); count = c.count }

then_same : {A B : Type 0} (f g : A → Option B) (x : Option A) → ((a : A) → x ≡ Some a → f a ≡ g a) → option_and_then f x ≡ option_and_then g x
then_same f g None h = refl
then_same f g (Some a) h = h a refl

-- memory with other bytes
abbrev pub with_bytes : memory.Image → List ℕ → memory.Image
with_bytes M rest = record { version = M.version; directories = M.directories; bytes = rest; roles = M.roles }

-- ---- Memory

module _ (M : memory.Image) (rest : List ℕ) (today : M.version ≡ 2) (size : length rest ≡ length M.bytes)
    (parts : (f : ℕ) (role : Role) → slice_get M.roles f ≡ Some role → is_free role ≡ false → frame_bytes M.bytes f ≡ frame_bytes rest f)
    (some_frame : 0 < length M.roles) (S : IsSoundImage M) where
  abbrev N : memory.Image
  N = with_bytes M rest

  directory_word : (p d s : ℕ) → directory_at M p ≡ Some d → word_of M d s ≡ word_of N d s
  directory_word p d s h = ap (λ (part : List ℕ). word_in part s) (parts d (Directory p) ((S.directories d p).1 h) refl)

  table_word : (p s t i : ℕ) → table_at M p s ≡ Some t → word_of M t i ≡ word_of N t i
  table_word p s t i h = ap (λ (part : List ℕ). word_in part i) (parts t (Table p s) ((S.tables t p s).1 h) refl)

  pub table_same : (p s : ℕ) → table_at M p s ≡ table_at N p s
  table_same p s = then_same (λ d. named_by s (word_of M d s)) (λ d. named_by s (word_of N d s)) (directory_at M p) (λ d h. ap (named_by s) (directory_word p d s h))

  pub word_same : (slot : Slot) → page_word M slot ≡ page_word N slot
  word_same slot =
      then_same (λ t. present_word M t (word_of M t (index_number slot.page))) (λ t. present_word N t (word_of N t (index_number slot.page))) (table_at M slot.pid (slot_number slot.page))
      (λ t h. ap (present_word M t) (table_word slot.pid (slot_number slot.page) t (index_number slot.page) h))
      ∙ ap (option_and_then (λ t. present_word N t (word_of N t (index_number slot.page)))) (table_same slot.pid (slot_number slot.page))

  frame_same : (slot : Slot) → page_frame M slot ≡ page_frame N slot
  frame_same slot = ap (option_and_then (own_frame M.version)) (word_same slot)

  first_frame : frame_bytes M.bytes 0 ≡ frame_bytes rest 0
  first_frame = parts 0 Reserved ((S.reserved 0 some_frame).1 refl) refl

  pub sound_still : IsSoundImage N
  sound_still = record {
    size = size ∙ S.size;
    reserved = S.reserved;
    zero_frame = sym first_frame ∙ S.zero_frame;
    directories = S.directories;
    tables = λ f p s. (λ h. sym (table_same p s) ∙ (S.tables f p s).0 h, λ h. (S.tables f p s).1 (table_same p s ∙ h));
    pages = λ slot f h. S.pages slot f (frame_same slot ∙ h);
    counts = λ f c h. let k = S.counts f c h in (k.0, count_same slot_order c (λ slot. page_frame M slot ≡ Some f) (λ slot. page_frame N slot ≡ Some f) (λ slot e. sym (frame_same slot) ∙ e) (λ slot e. frame_same slot ∙ e) k.1);
    directory_words = λ p d s h low. subst IsKernelDirWord (directory_word p d s h) (S.directory_words p d s h low);
    no_more = λ p d s h low out. sym (directory_word p d s h) ∙ S.no_more p d s h low out;
    table_words = λ p s t i h low. subst (IsTableWord M.version) (table_word p s t i (table_same p s ∙ h)) (S.table_words p s t i (table_same p s ∙ h) low);
    in_use = λ p s t h. let u = S.in_use p s t (table_same p s ∙ h) in (u.0, u.1, sym (ap is_present (table_word p s t u.0 (table_same p s ∙ h))) ∙ u.2);
  }

  -- the word of a page is one that the kernel writes
  chosen_some : (b : Bool) (x y : ℕ) → (if b then Some x else None) ≡ Some y → x ≡ y
  chosen_some true x y h = ap (λ o. unwrap_or o x) h
  chosen_some false x y h = cc

  then_some : (f : ℕ → Option ℕ) (x : Option ℕ) (y : ℕ) → option_and_then f x ≡ Some y → (a : ℕ) × (x ≡ Some a) × (f a ≡ Some y)
  then_some f None y h = cc
  then_some f (Some a) y h = (a, refl, h)

  index_low : (page : ℕ) → index_number page < 1024
  index_low page = omega arith

  lazy_zero : (slot : Slot) (word : ℕ) → page_word M slot ≡ Some word → is_lazy_word M.version word ≡ true → frame_number word ≡ 0
  lazy_zero slot word h lazy =
      let t = then_some (λ t. present_word M t (word_of M t (index_number slot.page))) (table_at M slot.pid (slot_number slot.page)) word h in
      let e = chosen_some (nat_lt t.0 (length M.roles) && is_present (word_of M t.0 (index_number slot.page))) (word_of M t.0 (index_number slot.page)) word t.2 in
      let k = subst (IsTableWord M.version) e (S.table_words slot.pid (slot_number slot.page) t.0 (index_number slot.page) t.1 (index_low slot.page)) in
      by k lazy
    where
      by : IsTableWord M.version word → is_lazy_word M.version word ≡ true → frame_number word ≡ 0
      by k lazy = two (subst (λ v. IsTableWord v word) today k) (subst (λ v. is_lazy_word v word ≡ true) today lazy)
        where
          two : IsTableWord 2 word → is_lazy_word 2 word ≡ true → frame_number word ≡ 0
          two (inl zero) lazy = ap frame_number zero
          two (inr names) lazy = names.zero lazy

  bytes_same : (slot : Slot) (word : ℕ) → page_word M slot ≡ Some word → frame_bytes M.bytes (frame_number word) ≡ frame_bytes rest (frame_number word)
  bytes_same slot word h = by (is_lazy_word M.version word) refl
    where
      by : (b : Bool) → is_lazy_word M.version word ≡ b → frame_bytes M.bytes (frame_number word) ≡ frame_bytes rest (frame_number word)
      by true lazy = (λ i. frame_bytes M.bytes (lazy_zero slot word h lazy i)) ∙ first_frame ∙ (λ i. frame_bytes rest (sym (lazy_zero slot word h lazy) i))
      by false real =
          let own : page_frame M slot ≡ Some (frame_number word) = ap (option_and_then (own_frame M.version)) h ∙ ap (λ b. if b then None else Some (frame_number word)) real in
          let p = S.pages slot (frame_number word) own in
          parts (frame_number word) (Page p.0) p.1 refl

  group_same : (slot other : Slot) (word : ℕ) (b : Bool) → MatchBool b (other ≡ slot) (page_frame M other ≡ Some (frame_number word)) ↔ MatchBool b (other ≡ slot) (page_frame N other ≡ Some (frame_number word))
  group_same slot other word true = (λ h. h, λ h. h)
  group_same slot other word false = (λ h. sym (frame_same other) ∙ h, λ h. frame_same other ∙ h)

  cell_still : (slot : Slot) (word : ℕ) (cell : Cell) → page_word M slot ≡ Some word → CellStands M slot word cell → CellStands N slot word cell
  cell_still slot word cell h C = record {
    write = C.write;
    may = C.may;
    accessed = C.accessed;
    dirty = C.dirty;
    bytes = C.bytes ∙ bytes_same slot word h;
    group = λ other.
        let g = group_same slot other word (is_lazy_word M.version word) in
        (λ h. g.0 ((C.group other).0 h), λ h. (C.group other).1 (g.1 h));
  }

  slot_still : (slot : Slot) (x : Option ℕ) (c : Option Cell) → page_word M slot ≡ x → SlotStands M slot x c → SlotStands N slot x c
  slot_still slot None None h s = tt
  slot_still slot (Some word) (Some cell) h s = cell_still slot word cell h s
  slot_still slot None (Some cell) h s = s
  slot_still slot (Some word) None h s = s

  pub stands_still : (spaces : Spaces) → StandsFor M spaces → StandsFor N spaces
  stands_still spaces F = record {
    sound = sound_still;
    cells = λ slot. subst (λ x. SlotStands N slot x (map.get spaces slot)) (word_same slot) (slot_still slot (page_word M slot) (map.get spaces slot) refl (F.cells slot));
  }

-- ---- Machines

module _ (X : machine.Image) (rest : List ℕ) (today : X.memory.version ≡ 2) (size : length rest ≡ length X.memory.bytes)
    (parts : (f : ℕ) (role : Role) → slice_get X.memory.roles f ≡ Some role → is_free role ≡ false → frame_bytes X.memory.bytes f ≡ frame_bytes rest f)
    (some_frame : 0 < length X.memory.roles) where
  abbrev pub Y : machine.Image
  Y = record { memory = with_bytes X.memory rest; accounts = X.accounts }

  pub sound_machine : machine.IsSoundImage X → machine.IsSoundImage Y
  sound_machine S = record {
    memory = sound_still X.memory rest today size parts some_frame S.memory;
    root = S.root;
    live = S.live;
    parents = S.parents;
    given = S.given;
    within = S.within;
    used = λ p c h. charge p c.used (S.used p c h);
  }
    where
      charge : (p used : ℕ) → machine.IsCharge X.memory p used → machine.IsCharge Y.memory p used
      charge p used k = record {
        tables = k.tables;
        pages = k.pages;
        named = count_same nat_order k.tables (λ s. IsTrue (is_some (table_at X.memory p s))) (λ s. IsTrue (is_some (table_at Y.memory p s)))
            (λ s e. subst (λ x. IsTrue (is_some x)) (table_same X.memory rest today size parts some_frame S.memory p s) e)
            (λ s e. subst (λ x. IsTrue (is_some x)) (sym (table_same X.memory rest today size parts some_frame S.memory p s)) e) k.named;
        mapped = count_same nat_order k.pages (λ page. IsTrue (is_some (page_word X.memory (at_page p page)))) (λ page. IsTrue (is_some (page_word Y.memory (at_page p page))))
            (λ page e. subst (λ x. IsTrue (is_some x)) (word_same X.memory rest today size parts some_frame S.memory (at_page p page)) e)
            (λ page e. subst (λ x. IsTrue (is_some x)) (sym (word_same X.memory rest today size parts some_frame S.memory (at_page p page))) e) k.mapped;
        sum = k.sum;
      }

  pub machine_still : (s : State) → machine.StandsFor X s → machine.StandsFor Y s
  machine_still s F = record {
    sound = sound_machine F.sound;
    memory = stands_still X.memory rest today size parts some_frame F.sound.memory s.spaces F.memory;
    accounts = F.accounts;
  }

-- ---- Images

pub free_frames : FreeFramesDoNotMatter
free_frames image other s fits today A F =
    let few = fits.fewest in
    let path : ◌≡◌ {A = machine.Image} (Y (shown_by image) other.bytes today (sym A.size) A.bytes (omega arith)) (shown_by other) =
    λ i. record {
      memory = record { version = A.version i; directories = λ p. directory_from (unwrap_or (slice_get (A.processes i) p) None); bytes = other.bytes; roles = A.roles i };
      accounts = λ p. option_map account_from (unwrap_or (slice_get (A.processes i) p) None);
    } in
    subst (λ (shown : machine.Image). machine.StandsFor shown s) path (machine_still (shown_by image) other.bytes today (sym A.size) A.bytes (omega arith) s F)
