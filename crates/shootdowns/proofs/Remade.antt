-- Memory in which bytes of pages and of free frames were written, or dirty was set in words of pages that aren't lazy: it
-- is a core's, whose cells have those bytes, and dirty there.
use Rattle.shootdowns.proofs.Prelude.{◌≡◌, ◌≤◌, ◌≢◌, ℕ, ◌+◌, ◌*◌, ◌<◌, ◌^◌, Bool, true, false, List, [], ◌∷◌, length, refl, ap, sym, ◌∙◌, subst, arith, Option, Some, None, ◌↔◌, ◌&&◌, not, if◌then◌else◌, nat_lt, IsTrue, MatchBool, slice_get, sum_by, Ok, option_and_then, option_map, slot_number, index_number, nat_order, flag, with_flag, frame_number, is_present, is_accessed, is_lazy, IsKernelDirWord, NamesPage, flag-with_flag_same, set_flag_other, set_flag_frame, is_some-map, frame_bytes, word_in, Table, Access, Read, Write, walk_of, directory_at, table_at, word_of, present_word, page_word, page_frame, is_lazy_at, IsCount, SlotStands, CellStands, is_lazy_word, own_frame, IsTableWord, Slot, slot_order, Cell, slot_at, at_page, way_of, from_map, IsSoundImage, Account, IsCharge, image_of, memory_of, account_of, quota_from, State, View, IsWellFormed, given, IsCore, Kept, translation, directory_entry, IsRead, AreRead, ways_of, has, walk_takes, walk_finds, has_right}
use Rattle.std.specs.Prelude.{is_some}
use Rattle.std.specs.Option.{unwrap_or}
use Rattle.std.specs.List.{range_with_len}
use Rattle.page_words.specs.FiniteMap as map
use Rattle.page_words.specs.FiniteSet as set
use Rattle.address_space.specs.Image as memory
use Rattle.address_space.proofs.costs.AccessCosts.{cost-same}
use Rattle.kernel_calls.specs.Processors.{with_bytes}
use Rattle.kernel_calls.proofs.Writings.{word_at_slot}
use Rattle.shootdowns.proofs.DirtyCells.{dirt, dirt_alike, dirt_flags, dirt_accessed}
use Rattle.shootdowns.proofs.Filled.{fill}

-- a word with dirty set, where it is the one
abbrev pub mark : Bool → ℕ → ℕ
mark true word = with_flag word 6 true
mark false word = word

mark_flag : (b : Bool) (word j : ℕ) → j ≢ 6 → flag (mark b word) j ≡ flag word j
mark_flag true word j apart = set_flag_other word 6 j apart
mark_flag false word j apart = refl

pub mark_frame : (b : Bool) (word : ℕ) → frame_number (mark b word) ≡ frame_number word
mark_frame true word = set_flag_frame word 6 (omega arith)
mark_frame false word = refl

mark_own : (b : Bool) (word : ℕ) → own_frame 2 (mark b word) ≡ own_frame 2 word
mark_own b word = (λ i. if mark_flag b word 10 (omega arith) i then None else Some (mark_frame b word i))

-- a table word with dirty set
dirty_names : (word : ℕ) → is_lazy word ≡ false → is_accessed word ≡ true → NamesPage word → NamesPage (with_flag word 6 true)
dirty_names word real touched k = record {
  frame = λ h. subst (λ n. 1 ≤ n) (sym (mark_frame true word)) (k.frame real);
  zero = λ h. absurd (lazy h);
  clean = λ h. absurd (lazy h);
  present = mark_flag true word 0 (omega arith) ∙ k.present;
  writable = mark_flag true word 1 (omega arith) ∙ k.writable ∙ (λ i. sym (mark_flag true word 11 (omega arith)) i && not (sym (mark_flag true word 10 (omega arith)) i));
  user = mark_flag true word 2 (omega arith) ∙ k.user;
  bit_3 = mark_flag true word 3 (omega arith) ∙ k.bit_3;
  bit_4 = mark_flag true word 4 (omega arith) ∙ k.bit_4;
  bit_7 = mark_flag true word 7 (omega arith) ∙ k.bit_7;
  bit_8 = mark_flag true word 8 (omega arith) ∙ k.bit_8;
  right = λ h. mark_flag true word 9 (omega arith) ∙ k.right (sym (mark_flag true word 11 (omega arith)) ∙ h);
  touched = λ h. mark_flag true word 5 (omega arith) ∙ touched;
}
  where
    lazy : is_lazy (with_flag word 6 true) ≡ true → ⊥
    lazy h = let e : false ≡ true = sym real ∙ sym (mark_flag true word 10 (omega arith)) ∙ h in cc

-- what is known of such memory, where each slot's bytes are in this frame, and these slots have dirty set
pub record Remade (w : View) (F : Slot → ℕ) (one : Slot → Bool) (t : State) (bytes : List ℕ) : Type 0 where
  pub long : length bytes ≡ length w.bytes
  pub zero : frame_bytes bytes 0 ≡ frame_bytes w.bytes 0
  pub directories : (p d s : ℕ) → directory_at (memory_of w) p ≡ Some d → word_in (frame_bytes bytes d) s ≡ word_of (memory_of w) d s
  pub tables : (slot : Slot) (f : ℕ) → table_at (memory_of w) slot.pid (slot_number slot.page) ≡ Some f
      → word_in (frame_bytes bytes f) (index_number slot.page) ≡ mark (one slot) (word_of (memory_of w) f (index_number slot.page))
  pub real : (slot : Slot) → one slot ≡ true → (n : ℕ) × (page_word (memory_of w) slot ≡ Some n) × (is_lazy n ≡ false) × (is_accessed n ≡ true)
  pub names : (slot : Slot) (n : ℕ) → page_word (memory_of w) slot ≡ Some n → F slot ≡ frame_number n
  pub book : t.book ≡ w.state.book
  pub well : IsWellFormed t
  pub cells : (slot : Slot) → map.get t.spaces slot ≡ option_map (λ c. fill F bytes slot (dirt (one slot) c)) (map.get w.state.spaces slot)

module _ (w : View) (core : IsCore w) (F : Slot → ℕ) (one : Slot → Bool) (t : State) (bytes : List ℕ) (r : Remade w F one t bytes) where
  abbrev x : View
  x = with_bytes w t bytes

  abbrev S : memory.IsSoundImage (memory_of w)
  S = core.image.memory.sound

  abbrev change : Slot → Cell → Cell
  change slot c = fill F bytes slot (dirt (one slot) c)

  -- ---- Words

  table_same : (q s : ℕ) → table_at (memory_of x) q s ≡ table_at (memory_of w) q s
  table_same q s = grind arith

  page_marked : (slot : Slot) → page_word (memory_of x) slot ≡ option_map (mark (one slot)) (page_word (memory_of w) slot)
  page_marked slot =
      ap (option_and_then (λ f. present_word (memory_of x) f (word_of (memory_of x) f (index_number slot.page)))) (table_same slot.pid (slot_number slot.page))
      ∙ by (table_at (memory_of w) slot.pid (slot_number slot.page)) refl
    where
      marks : (b : Bool) (f n : ℕ) → present_word (memory_of w) f (mark b n) ≡ option_map (mark b) (present_word (memory_of w) f n)
      marks b f n =
          (λ i. if nat_lt f (length w.roles) && mark_flag b n 0 (omega arith) i then Some (mark b n) else None)
          ∙ out (nat_lt f (length w.roles) && is_present n)
        where
          out : (c : Bool) → (if c then Some (mark b n) else None) ≡ option_map (mark b) (if c then Some n else None)
          out x0 = grind arith

      by : (y : Option ℕ) → table_at (memory_of w) slot.pid (slot_number slot.page) ≡ y
          → option_and_then (λ f. present_word (memory_of x) f (word_of (memory_of x) f (index_number slot.page))) y
          ≡ option_map (mark (one slot)) (option_and_then (λ f. present_word (memory_of w) f (word_of (memory_of w) f (index_number slot.page))) y)
      by x0 is = grind (arith, marks)

  -- a word that is there was there, but for dirty
  word_before : (slot : Slot) (n : ℕ) → page_word (memory_of x) slot ≡ Some n → (m : ℕ) × (page_word (memory_of w) slot ≡ Some m) × (mark (one slot) m ≡ n)
  word_before slot n is = from_map (mark (one slot)) (page_word (memory_of w) slot) n (sym (page_marked slot) ∙ is)

  frame_same : (slot : Slot) → page_frame (memory_of x) slot ≡ page_frame (memory_of w) slot
  frame_same slot = grind (arith, page_marked, mark_own)

  lazy_same : (slot : Slot) → is_lazy_at (memory_of x) slot ≡ is_lazy_at (memory_of w) slot
  lazy_same slot = ap (λ (y : Option ℕ). unwrap_or (option_map (is_lazy_word 2) y) false) (page_marked slot) ∙ by (page_word (memory_of w) slot)
    where
      by : (y : Option ℕ) → unwrap_or (option_map (is_lazy_word 2) (option_map (mark (one slot)) y)) false ≡ unwrap_or (option_map (is_lazy_word 2) y) false
      by None = refl
      by (Some n) = mark_flag (one slot) n 10 (omega arith)

  way_same : (slot : Slot) → way_of (memory_of x) slot ≡ way_of (memory_of w) slot
  way_same slot = grind (arith, page_marked, mark_frame)

  -- ---- The image

  -- the word at an index of a table, by its slot
  at_index : (q s f i : ℕ) → i < 1024 → table_at (memory_of w) q s ≡ Some f
      → (b : Bool) × (word_of (memory_of x) f i ≡ mark b (word_of (memory_of w) f i))
      × (b ≡ true → (n : ℕ) × (word_of (memory_of w) f i ≡ n) × NamesPage n × (is_lazy n ≡ false) × (is_accessed n ≡ true))
  at_index q s f i low linked = (
    one slot,
    subst (λ k. word_of (memory_of x) f k ≡ mark (one slot) (word_of (memory_of w) f k)) index (r.tables slot f there),
    λ is.
        let k = r.real slot is in
        let known : option_and_then (λ g. present_word (memory_of w) g (word_of (memory_of w) g (index_number slot.page))) (Some f) ≡ Some k.0 =
        sym (ap (option_and_then (λ g. present_word (memory_of w) g (word_of (memory_of w) g (index_number slot.page)))) there) ∙ k.1 in
        (k.0, ap (word_of (memory_of w) f) (sym index) ∙ present (nat_lt f (length w.roles)) (is_present (word_of (memory_of w) f (index_number slot.page))) _ k.0 known, (word_at_slot w core slot k.0 k.1).names, k.2, k.3),
  )
    where
      slot : Slot
      slot = at_page q (s * 1024 + i)

      index : index_number slot.page ≡ i
      index = omega (arith, low)

      region : slot_number slot.page ≡ s
      region = omega (arith, low)

      there : table_at (memory_of w) slot.pid (slot_number slot.page) ≡ Some f
      there = ap (table_at (memory_of w) q) region ∙ linked

      present : (a b : Bool) (word n : ℕ) → (if a && b then Some word else None) ≡ Some n → word ≡ n
      present x0 x1 word n k = grind arith

  sound : memory.IsSoundImage (memory_of x)
  sound = record {
    size = r.long ∙ S.size;
    reserved = S.reserved;
    zero_frame = r.zero ∙ S.zero_frame;
    directories = S.directories;
    tables = λ f q s. subst (λ (y : Option ℕ). (slice_get w.roles f ≡ Some (Table q s)) ↔ (y ≡ Some f)) (sym (table_same q s)) (S.tables f q s);
    pages = λ slot f h. S.pages slot f (sym (frame_same slot) ∙ h);
    counts = λ f c h.
        let k = S.counts f c h in
        (k.0, subst (λ (g : Slot → Option ℕ). IsCount slot_order c (λ slot. g slot ≡ Some f)) (λ i slot. sym (frame_same slot) i) k.1);
    directory_words = λ q d s h l. subst IsKernelDirWord (sym (r.directories q d s h)) (S.directory_words q d s h l);
    no_more = λ q d s h l u. r.directories q d s h ∙ S.no_more q d s h l u;
    table_words = λ q s f i h l.
        let k = sym (table_same q s) ∙ h in
        let m = at_index q s f i l k in
        subst (IsTableWord 2) (sym m.1) (words (word_of (memory_of w) f i) m.0 (S.table_words q s f i k l) m.2);
    in_use = λ q s f h.
        let k = sym (table_same q s) ∙ h in
        let u = S.in_use q s f k in
        let m = at_index q s f u.0 u.1 k in
        (u.0, u.1, ap is_present m.1 ∙ mark_flag m.0 (word_of (memory_of w) f u.0) 0 (omega arith) ∙ u.2);
  }
    where
      words : (word : ℕ) (b : Bool) → IsTableWord 2 word → (b ≡ true → (n : ℕ) × (word ≡ n) × NamesPage n × (is_lazy n ≡ false) × (is_accessed n ≡ true)) → IsTableWord 2 (mark b word)
      words word x1 h k = grind (arith, dirty_names)

  cell_stands : (slot : Slot) → SlotStands (memory_of x) slot (page_word (memory_of x) slot) (map.get t.spaces slot)
  cell_stands slot =
      subst (λ (y : Option ℕ). SlotStands (memory_of x) slot y (map.get t.spaces slot)) (sym (page_marked slot))
      (subst (SlotStands (memory_of x) slot (option_map (mark (one slot)) (page_word (memory_of w) slot))) (sym (r.cells slot))
      (by (page_word (memory_of w) slot) refl (map.get w.state.spaces slot) (core.image.memory.cells slot)))
    where
      stands : (b : Bool) (n : ℕ) (c : Cell) → F slot ≡ frame_number n → CellStands (memory_of w) slot n c → CellStands (memory_of x) slot (mark b n) (fill F bytes slot (dirt b c))
      stands b n c on k = record {
        write = (dirt_alike b c).write ∙ k.write ∙ sym (mark_flag b n 11 (omega arith));
        may = (dirt_alike b c).may ∙ k.may ∙ sym (mark_flag b n 9 (omega arith));
        accessed = dirt_accessed b c ∙ k.accessed ∙ sym (mark_flag b n 5 (omega arith));
        dirty = dirties b;
        bytes = ap (frame_bytes bytes) (on ∙ sym (mark_frame b n));
        group = λ other.
            subst (λ (h : set.Set slot_order). IsTrue (set.contains h other) ↔ MatchBool (is_lazy_word 2 (mark b n)) (other ≡ slot) (page_frame (memory_of x) other ≡ Some (frame_number (mark b n))))
            (sym (dirt_alike b c).holders)
            (subst (λ (g : Option ℕ). IsTrue (set.contains c.holders other) ↔ MatchBool (is_lazy_word 2 (mark b n)) (other ≡ slot) (g ≡ Some (frame_number (mark b n)))) (sym (frame_same other))
            (subst (λ (z : Bool × ℕ). IsTrue (set.contains c.holders other) ↔ MatchBool z.0 (other ≡ slot) (page_frame (memory_of w) other ≡ Some z.1))
            (λ i. (sym (mark_flag b n 10 (omega arith)) i, sym (mark_frame b n) i)) (k.group other)));
      }
        where
          dirties : (b : Bool) → (dirt b c).dirty ≡ flag (mark b n) 6
          dirties true = sym (flag-with_flag_same n 6 true (omega arith))
          dirties false = k.dirty

      by : (y : Option ℕ) → page_word (memory_of w) slot ≡ y → (z : Option Cell) → SlotStands (memory_of w) slot y z
          → SlotStands (memory_of x) slot (option_map (mark (one slot)) y) (option_map (change slot) z)
      by x0 is x2 k = grind (arith, stands)

  -- ---- Accounts

  account_same : (q : ℕ) → account_of t q ≡ account_of w.state q
  account_same q = grind (arith, cost-same, is_some-map)

  charge_same : (q used : ℕ) → IsCharge (memory_of w) q used → IsCharge (memory_of x) q used
  charge_same q used k = record {
    tables = k.tables;
    pages = k.pages;
    named = subst (λ (g : ℕ → Option ℕ). IsCount nat_order k.tables (λ s. IsTrue (is_some (g s)))) (λ i s. sym (table_same q s) i) k.named;
    mapped = subst (λ (g : ℕ → Bool). IsCount nat_order k.pages (λ n. IsTrue (g n)))
        (λ i n. sym (ap is_some (page_marked (at_page q n)) ∙ is_some-map (mark (one (at_page q n))) (page_word (memory_of w) (at_page q n))) i) k.mapped;
    sum = k.sum;
  }

  image_sound : IsSoundImage (image_of x)
  image_sound =
      let R = core.image.sound in
      record {
        memory = sound;
        root = (R.root.0, account_same 0 ∙ R.root.1, R.root.2);
        live = λ q. ap is_some (account_same q) ∙ R.live q;
        parents = λ q c h. ap is_some (account_same c.parent) ∙ R.parents q c (sym (account_same q) ∙ h);
        given = λ q c h.
            subst (λ (g : ℕ → Option Account). c.given ≡ sum_by (λ k. quota_from q k (g k)) (range_with_len 0 64)) (λ i k. sym (account_same k) i)
            (R.given q c (sym (account_same q) ∙ h));
        within = λ q c h. R.within q c (sym (account_same q) ∙ h);
        used = λ q c h. charge_same q c.used (R.used q c (sym (account_same q) ∙ h));
      }

  pub remade : IsCore x
  remade = grind (arith, sound, image_sound, cell_stands)

  -- ---- What stays

  pub names_before : (slot : Slot) (n : ℕ) → page_word (memory_of x) slot ≡ Some n → (m : ℕ) × (page_word (memory_of w) slot ≡ Some m) × (frame_number m ≡ frame_number n)
  names_before slot n is = let k = word_before slot n is in (k.0, k.1, sym (mark_frame (one slot) k.0) ∙ ap frame_number k.2)

  pub linked_before : (q s f : ℕ) → table_at (memory_of x) q s ≡ Some f → table_at (memory_of w) q s ≡ Some f
  linked_before q s f is = sym (table_same q s) ∙ is

  -- a walk that found a frame finds it
  found_again : (p d a f : ℕ) (access : Access) → directory_at (memory_of w) p ≡ Some d → a < 2 ^ 32 → walk_of w.bytes d a access ≡ Ok f → walk_of bytes d a access ≡ Ok f
  found_again p d a f access live small found =
      walk_finds x remade p d a f access small (way_same (slot_at p a) ∙ (ways_of core).lead p d a f access live small found)
      (λ is.
      let right = has_right w core (slot_at p a) (walk_takes w core p d a f live small (ap (walk_of w.bytes d a) (sym is) ∙ found)) in
      (ap (has (λ c. c.write)) (r.cells (slot_at p a)) ∙ writes (map.get w.state.spaces (slot_at p a)) ∙ right.0, lazy_same (slot_at p a) ∙ right.1))
    where
      writes : (z : Option Cell) → has (λ c. c.write) (option_map (change (slot_at p a)) z) ≡ has (λ c. c.write) z
      writes z = grind (arith, has, fill, dirt)

  kept_same : (k : Kept) → IsRead w k → IsRead x k
  kept_same (translation k) g = record {
    page = g.page;
    directory = g.directory;
    live = g.live;
    read = λ a l h. found_again k.slot.pid g.directory a k.frame Read g.live l (g.read a l h);
    written = λ writes a l h. found_again k.slot.pid g.directory a k.frame Write g.live l (g.written writes a l h);
    cell = change k.slot g.cell;
    mapped = r.cells k.slot ∙ ap (option_map (change k.slot)) g.mapped;
    accessed = (dirt_flags (one k.slot) g.cell).0 g.accessed;
    dirty = λ h. (dirt_flags (one k.slot) g.cell).1 (g.dirty h);
  }
  kept_same (directory_entry k) h = table_same k.pid k.region ∙ h

  pub all_same : (kept : List Kept) → AreRead w kept → AreRead x kept
  all_same [] every = tt
  all_same (k ∷ kept) every = (kept_same k every.0, all_same kept every.1)
