-- What a sound image with current words represents: a state without offers, which is well formed.
use Rattle.process_table.proofs.Prelude.{◌≡◌, ℕ, ◌+◌, ◌<◌, ◌≤◌, Bool, true, false, List, length, refl, sym, ap, subst, ◌∙◌, Option, Some, None, is_some, unwrap_or, arith, option_map, option_and_then, range_with_len, slice_get_within, slot_number, index_number, IsUserPage, Order, nat_order, same_set, is_some-map, some_value, Slot, Cell, Spaces, cost, SlotStands, directory_at, table_at, present_word, page_word, word_of, Book, Member, given, quota_of, Containers, Offers, as_account, account_of, IsCharge, quota_from, IsSoundImage, StandsFor, State, IsWhole, IsCellAt, IsWellFormed, ◌↔◌, IsTrue, MatchBool, slice_index, Page, directory_of, spaces_in, one_group, word_names, IsCount, CellStands, IsOneGroup, image_from, named_by, page_frame, from_map, from_then, user_named, account_told, image_in, RootIsItsParent}
use Rattle.process_table.specs.Image.{Image}
use Rattle.page_words.specs.Words.{frame_number, is_lazy, NamesPage}
use Rattle.alloc_table.specs.declared.Role.{Role}
use Rattle.address_space.specs.ImageWords.{own_frame}
use Rattle.address_space.specs.Restored.{HasRoom, view_from}
use Rattle.address_space.proofs.standing.TablesStand.{owned, own_is}
use Rattle.address_space.proofs.steps.Steps.{live_small}
use Rattle.quota_tree.specs.Accounts.{account_at, member_in, book_in, containers_in, Agree}
use Rattle.quota_tree.proofs.CollectedLemmas.{get-collected}
use Rattle.process_table.proofs.Lemmas.{total-within, charge-stands, given-range, sum-same, total-book}
use Rattle.page_words.specs.FiniteMap as map
use Rattle.page_words.specs.FiniteSet as set
use Rattle.address_space.specs.Image as memory
use Rattle.address_space.specs.View as frames
use Rattle.address_space.proofs.standing.Restored as memory_restored
use Rattle.quota_tree.specs.declared.accounts.Account as quota_tree

-- ---- A charge is one number

count_one : {K : Type 0} (order : Order K) (n k : ℕ) (P : K → Type 0) → IsCount order n P → IsCount order k P → n ≡ k
count_one order n k P a b = a.count ∙ ap set.len (same_set a.members b.members (λ key. one_group _ _ (a.are key) (b.are key))) ∙ sym b.count

charge_one : (M : memory.Image) (p a b : ℕ) → IsCharge M p a → IsCharge M p b → a ≡ b
charge_one M p a b x y =
    grind (
      arith,
      count_one nat_order x.tables y.tables _ x.named y.named,
      count_one nat_order x.pages y.pages _ x.mapped y.mapped,
    )

module _ (directories : List (Option ℕ)) (accounts : List (Option quota_tree.Account)) (bytes : List ℕ) (roles : List Role)
    (pids : length directories ≡ 64) (least : 0 < length roles) (few : length roles ≤ 1048576) (small : (i : ℕ) → slice_index bytes i < 256)
    (root_parent : RootIsItsParent accounts) (I : IsSoundImage (image_in directories accounts bytes roles)) where
  abbrev image : Image
  image = image_in directories accounts bytes roles

  abbrev M : memory.Image
  M = image_from directories bytes roles

  abbrev spaces : Spaces
  spaces = spaces_in directories bytes

  abbrev book : Book
  book = book_in accounts

  abbrev no_offers : Offers
  no_offers = map.empty

  -- the state that the image stands for
  abbrev pub state : State
  state = record { spaces = spaces; book = book; offers = no_offers }

  stands : memory.StandsFor M spaces
  stands = memory_restored.stands directories bytes roles pids least few I.memory

  -- ---- The book

  get-book : (p : ℕ) → map.get book p ≡ option_map member_in (account_at accounts p)
  get-book p = get-collected member_in accounts p

  live-account : (p : ℕ) → is_some (image.accounts p) ≡ map.contains_key book p
  live-account p = is_some-map account_told (account_at accounts p) ∙ sym (is_some-map member_in (account_at accounts p)) ∙ sym (ap is_some (get-book p))

  live-directory : (p : ℕ) → is_some (directory_of directories p) ≡ map.contains_key book p
  live-directory p = sym (I.live p) ∙ live-account p

  in-book : (p : ℕ) (member : Member) → map.get book p ≡ Some member → (a : quota_tree.Account) × (account_at accounts p ≡ Some a) × (member_in a ≡ member)
  in-book p member is = from_map member_in (account_at accounts p) member (sym (get-book p) ∙ is)

  account-is : (p : ℕ) (a : quota_tree.Account) → account_at accounts p ≡ Some a → image.accounts p ≡ Some (account_told a)
  account-is p a is = ap (option_map account_told) is

  book-is : (p : ℕ) (a : quota_tree.Account) → account_at accounts p ≡ Some a → map.get book p ≡ Some (member_in a)
  book-is p a is = get-book p ∙ ap (option_map member_in) is

  process-small : (p : ℕ) → map.contains_key book p ≡ true → p < 64
  process-small p live = let d = some_value (directory_of directories p) (live-directory p ∙ live) in live_small directories p d.0 pids d.1

  used-is : (p : ℕ) (a : quota_tree.Account) → account_at accounts p ≡ Some a → a.used ≡ cost spaces p
  used-is p a is = charge_one M p a.used (cost spaces p) (I.used p (account_told a) (account-is p a is)) (charge-stands M spaces stands p)

  given-is : (p : ℕ) (a : quota_tree.Account) → account_at accounts p ≡ Some a → a.given ≡ given book p
  given-is p a is =
      I.given p (account_told a) (account-is p a is)
      ∙ sum-same (λ q. quota_from p q (image.accounts q)) (λ q. quota_from p q (account_of state q)) (range_with_len 0 64) (λ q. ap (quota_from p q) refl ∙ (grind arith) ∙ ap (λ x. quota_from p q (option_map (as_account state q) x)) (sym (get-book q)))
      ∙ sym (given-range state p (λ k member is. process-small k (ap is_some is)))

  root-account : (a : quota_tree.Account) × (account_at accounts 0 ≡ Some a) × (1 + a.quota ≡ length roles)
  root-account = grind (arith, from_map)

  quota-is : (p : ℕ) (a : quota_tree.Account) → account_at accounts p ≡ Some a → quota_of book p ≡ a.quota
  quota-is p a is = ap (λ o. unwrap_or (option_map (λ (m : Member). m.quota) o) 0) (book-is p a is)

  parent-live : (p : ℕ) (a : quota_tree.Account) → account_at accounts p ≡ Some a → map.contains_key book a.parent ≡ true
  parent-live p a is = sym (live-account a.parent) ∙ I.parents p (account_told a) (account-is p a is)

  pub agree : Agree accounts
  agree = record {
    root = record {
      quota = root-account.0.quota;
      is = book-is 0 root-account.0 root-account.1 ∙ ap (λ q. Some (record { parent = q; quota = root-account.0.quota })) (root_parent root-account.0 root-account.1);
    };
    each = grind (arith, parent-live, given-is, used-is, account-is);
  }

  -- ---- The cells

  word-of-cell : (slot : Slot) (cell : Cell) → map.get spaces slot ≡ Some cell → (word : ℕ) × (page_word M slot ≡ Some word) × CellStands M slot word cell
  word-of-cell slot cell found = by (page_word M slot) refl (subst (SlotStands M slot (page_word M slot)) found (stands.cells slot))
    where
      by : (x : Option ℕ) → page_word M slot ≡ x → SlotStands M slot x (Some cell) → (word : ℕ) × (page_word M slot ≡ Some word) × CellStands M slot word cell
      by x is h = grind arith

  cell-of-word : (slot : Slot) (word : ℕ) → page_word M slot ≡ Some word → (cell : Cell) × (map.get spaces slot ≡ Some cell) × CellStands M slot word cell
  cell-of-word slot word at = by (map.get spaces slot) refl (subst (λ x. SlotStands M slot x (map.get spaces slot)) at (stands.cells slot))
    where
      by : (x : Option Cell) → map.get spaces slot ≡ x → SlotStands M slot (Some word) x → (cell : Cell) × (map.get spaces slot ≡ Some cell) × CellStands M slot word cell
      by None is h = absurd h
      by (Some cell) is h = (cell, is, h)

  kernel : (slot : Slot) (word : ℕ) → page_word M slot ≡ Some word → NamesPage word
  kernel slot word at = word_names directories bytes roles (memory_restored.sound directories bytes roles pids least few I.memory) slot word at

  -- a mapped page is one of the user range, of a process with a directory
  slot-range : (slot : Slot) (word : ℕ) → page_word M slot ≡ Some word → IsUserPage slot.page × (is_some (directory_of directories slot.pid) ≡ true)
  slot-range slot word at =
      let t = from_then (λ t. present_word M t (word_of M t (index_number slot.page))) (table_at M slot.pid (slot_number slot.page)) word at in
      let d = from_then (λ d. named_by (slot_number slot.page) (word_of M d (slot_number slot.page))) (directory_at M slot.pid) t.0 t.1 in
      let user = user_named (slot_number slot.page) (word_of M d.0 (slot_number slot.page)) t.0 d.2 in
      ((omega (arith, user.0), omega (arith, user.1)), ap is_some d.1)

  -- the frame of a present word lies in memory
  frame-inside : (slot : Slot) (word : ℕ) → page_word M slot ≡ Some word → frame_number word < length roles
  frame-inside slot word at = by (is_lazy word) refl
    where
      by : (b : Bool) → is_lazy word ≡ b → frame_number word < length roles
      by true is = let z = (kernel slot word at).zero is in omega (arith, z, least)
      by false is =
          let r = I.memory.pages slot (frame_number word) (ap (option_and_then (own_frame 2)) at ∙ own_is word is) in
          slice_get_within roles (frame_number word) (Page r.0) r.1

  -- the group of a slot with a frame of its own
  group-real : (slot : Slot) (word : ℕ) (cell : Cell) → CellStands M slot word cell → is_lazy word ≡ false → (f : ℕ) → frame_number word ≡ f
      → (q : Slot) → IsTrue (set.contains cell.holders q) ↔ (page_frame M q ≡ Some f)
  group-real slot word cell c real f same q = grind arith

  -- the slots of a group have the same bytes and the same group
  alike-in : (slot : Slot) (cell : Cell) (word : ℕ) → map.get spaces slot ≡ Some cell → CellStands M slot word cell → (other : Slot) → IsOneGroup M slot word other
      → (c : Cell) × (map.get spaces other ≡ Some c) × (c.holders ≡ cell.holders) × (c.bytes ≡ cell.bytes)
  alike-in slot cell word found c other h = by (is_lazy word) refl h
    where
      by : (b : Bool) → is_lazy word ≡ b → MatchBool b (other ≡ slot) (page_frame M other ≡ Some (frame_number word)) → (c : Cell) × (map.get spaces other ≡ Some c) × (c.holders ≡ cell.holders) × (c.bytes ≡ cell.bytes)
      by true is k = (cell, ap (map.get spaces) k ∙ found, refl, refl)
      by false is k =
          let w = from_then (own_frame 2) (page_word M other) (frame_number word) k in
          let own = owned w.0 (frame_number word) w.2 in
          let d = cell-of-word other w.0 w.1 in
          let e = d.2 in (
            d.0,
            d.1,
            same_set d.0.holders cell.holders (λ q. one_group _ _ (group-real other w.0 d.0 e own.0 (frame_number word) own.1 q) (group-real slot word cell c is (frame_number word) refl q)),
            memory_restored.cells_alike directories bytes roles pids least few I.memory slot other word w.0 cell d.0 c e own.1,
          )

  cell-at : (slot : Slot) (cell : Cell) → map.get spaces slot ≡ Some cell → IsCellAt spaces slot cell
  cell-at slot cell found =
      let w = word-of-cell slot cell found in
      let c = w.2 in
      let k = kernel slot w.0 w.1 in
      let inside = frame-inside slot w.0 w.1 in
      record {
        user = (slot-range slot w.0 w.1).0;
        long = memory_restored.cell_long directories bytes roles pids least few I.memory slot w.0 cell c inside;
        small = memory_restored.cell_small directories bytes roles pids least few I.memory small slot w.0 cell c inside;
        write_may = λ h. c.may ∙ k.right (sym c.write ∙ h);
        dirty_accessed = λ h. c.accessed ∙ k.touched (sym c.dirty ∙ h);
        own = (c.group slot).1 (grind (arith, own_is));
        alike = λ other h. alike-in slot cell w.0 found c other ((c.group other).0 h);
      }

  -- ---- The state

  rooms : (p : ℕ) → map.contains_key book p ≡ true → cost spaces p + given book p ≤ quota_of book p
  rooms p live =
      let m = some_value (map.get book p) live in
      let b = in-book p m.0 m.1 in
      let w = I.within p (account_told b.0) (account-is p b.0 b.1) in
      grind (arith, used-is, given-is, quota-is)

  pub well_formed : IsWellFormed state
  well_formed = record {
    root = ap is_some (book-is 0 root-account.0 root-account.1);
    root_parent = λ member is. (let b = in-book 0 member is in ap (λ (m : Member). m.parent) (sym b.2) ∙ root_parent b.0 b.1);
    processes = λ p member is. (process-small p (ap is_some is), (let b = in-book p member is in subst (λ (m : Member). map.contains_key book m.parent ≡ true) b.2 (parent-live p b.0 b.1)));
    rooms = rooms;
    owners = λ slot cell found. (let w = word-of-cell slot cell found in sym (live-directory slot.pid) ∙ (slot-range slot w.0 w.1).1);
    cells = cell-at;
    offers = λ key right found. cc;
    few = λ p. omega arith;
  }

  root-quota : 1 + quota_of book 0 ≡ length roles
  root-quota = ap (λ n. 1 + n) (quota-is 0 root-account.0 root-account.1) ∙ root-account.2

  -- all processes together cost no more than all frames but frame 0
  pub room : HasRoom directories bytes roles
  room =
      grind (
        arith,
        total-within state well_formed,
        total-book directories state live-directory process-small,
        root-quota,
        well_formed,
        live-directory,
        process-small,
      )

  -- the parts that are made of the image agree
  pub parts_whole : (v : frames.View) (c : Containers) (o : Offers) → v ≡ view_from directories bytes roles → c ≡ containers_in accounts → o ≡ no_offers → IsWhole v c o
  parts_whole v c o is_v is_c is_o =
      grind (arith, live-directory, some_value, in-book, get-collected, used-is, root-quota, well_formed)

  -- and the image stands for their state
  pub state_stands : StandsFor image state
  state_stands = grind (arith, stands, get-book, used-is, given-is)
