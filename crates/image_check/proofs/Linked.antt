-- What an image's tables and pages are by its words.
use Rattle.std.proofs.Common.{◌≡◌, ℕ, ◌+◌, ◌*◌, ◌<◌, ◌≤◌, Bool, true, false, ◌&&◌, length, refl, ap, subst, ◌∙◌, arith, Some, None, is_some}
use Rattle.std.specs.Prelude.{if◌then◌else◌, nat_lt, IsTrue}
use Rattle.std.specs.Option.{option_and_then}
use Rattle.std.specs.List.{list_any}
use Rattle.std.proofs.lemmas.Bool.{and_parts, ltb-true, lt-ltb}
use Rattle.page_words.specs.Addresses.{slot_number, index_number}
use Rattle.page_words.specs.Words.{is_present, frame_number}
use Rattle.page_words.specs.FiniteMap.{same}
use Rattle.address_space.specs.Spaces.{Slot, slot_order, at_page}
use Rattle.address_space.specs.Slots.{user_slots}
use Rattle.address_space.proofs.entries.UserSlots.{in_user_slots}
use Rattle.address_space.specs.Image as memory
use Rattle.address_space.specs.Image.{directory_at, word_of, is_user_slot, named_by, table_at, present_word, page_word, page_frame}
use Rattle.process_table.specs.Image as machine
use Rattle.memory_image.specs.declared.processes.Process.{Process}
use Rattle.memory_image.specs.Image.{Image, frames, process_at, memory_of}
use Rattle.address_space.specs.ImageWords.{is_lazy_word, own_frame}
use Rattle.memory_image.proofs.References.{is_there, same_some, chosen_some, then_some, user_range, directory-of, live-of, pid-small}
use Rattle.image_check.specs.Counts.{is_this, frame_of, names_by, maps_by, tables_by, pages_by, names, maps}
use Rattle.image_check.proofs.RangeLemmas.{sum-none, sum-one, count-none, count-one, this-true, this-is}
use Rattle.image_check.proofs.Sizes.{number_count, number_count_is, slot_count, slot_count_is}

-- ---- Options and tests

pub own_real : (version word f : ℕ) → own_frame version word ≡ Some f → (is_lazy_word version word ≡ false) × (frame_number word ≡ f)
own_real version word f h = by (is_lazy_word version word) h
  where
    by : (b : Bool) → (if b then None else Some (frame_number word)) ≡ Some f → (b ≡ false) × (frame_number word ≡ f)
    by true h = cc
    by false h = (refl, same_some (frame_number word) f h)

pub real_own : (version word : ℕ) → is_lazy_word version word ≡ false → own_frame version word ≡ Some (frame_number word)
real_own version word e = λ i. if e i then None else Some (frame_number word)

pub false_from : (b : Bool) → (b ≡ true → ⊥) → b ≡ false
false_from true h = absurd (h refl)
false_from false h = refl

module _ (image : Image) where
  abbrev pub M : memory.Image
  M = memory_of image

  -- ---- Tables

  pub record IsLinked (p s t : ℕ) : Type 0 where
    pub r : Process
    pub live : process_at image p ≡ Some r
    pub user : is_user_slot s ≡ true
    pub present : is_present (word_of M r.directory s) ≡ true
    pub frame : frame_number (word_of M r.directory s) ≡ t

  pub linked : (p s t : ℕ) → table_at M p s ≡ Some t → IsLinked p s t
  linked p s t h =
      let d = then_some (λ d. named_by s (word_of M d s)) (directory_at M p) t h in
      let w = chosen_some (is_user_slot s && is_present (word_of M d.0 s)) (frame_number (word_of M d.0 s)) t d.2 in
      let b = and_parts (is_user_slot s) (is_present (word_of M d.0 s)) w.0 in
      let r = live-of image p d.0 d.1 in
      record {
        r = r.0;
        live = r.1;
        user = b.0;
        present = ap (λ k. is_present (word_of M k s)) r.2 ∙ b.1;
        frame = ap (λ k. frame_number (word_of M k s)) r.2 ∙ w.1;
      }

  pub link : (p s : ℕ) (r : Process) → process_at image p ≡ Some r → is_user_slot s ≡ true → is_present (word_of M r.directory s) ≡ true → table_at M p s ≡ Some (frame_number (word_of M r.directory s))
  link p s r live user present =
      ap (option_and_then (λ d. named_by s (word_of M d s))) (directory-of image p r live)
      ∙ (λ i. if user i && present i then Some (frame_number (word_of M r.directory s)) else None)

  -- ---- Pages

  pub record IsMapped (p page f : ℕ) : Type 0 where
    pub t : ℕ
    pub table : table_at M p (slot_number page) ≡ Some t
    pub inside : t < frames image
    pub present : is_present (word_of M t (index_number page)) ≡ true
    pub real : is_lazy_word image.version (word_of M t (index_number page)) ≡ false
    pub frame : frame_number (word_of M t (index_number page)) ≡ f

  pub record IsWordAt (p page word : ℕ) : Type 0 where
    pub t : ℕ
    pub table : table_at M p (slot_number page) ≡ Some t
    pub inside : t < frames image
    pub present : is_present word ≡ true
    pub is : word_of M t (index_number page) ≡ word

  pub word-at : (p page word : ℕ) → page_word M (at_page p page) ≡ Some word → IsWordAt p page word
  word-at p page word h =
      let t = then_some (λ t. present_word M t (word_of M t (index_number page))) (table_at M p (slot_number page)) word h in
      let c = chosen_some (nat_lt t.0 (length image.roles) && is_present (word_of M t.0 (index_number page))) (word_of M t.0 (index_number page)) word t.2 in
      let b = and_parts (nat_lt t.0 (length image.roles)) (is_present (word_of M t.0 (index_number page))) c.0 in
      record { t = t.0; table = t.1; inside = ltb-true t.0 (length image.roles) b.0; present = subst (λ w. is_present w ≡ true) c.1 b.1; is = c.1 }

  pub mapped : (p page f : ℕ) → frame_of image p page ≡ Some f → IsMapped p page f
  mapped p page f h =
      let w = then_some (own_frame image.version) (page_word M (at_page p page)) f h in
      let a = word-at p page w.0 w.1 in
      let o = own_real image.version w.0 f w.2 in
      record { t = a.t; table = a.table; inside = a.inside; present = ap is_present a.is ∙ a.present; real = ap (is_lazy_word image.version) a.is ∙ o.0; frame = ap frame_number a.is ∙ o.1 }

  pub word-from : (p s t i : ℕ) → table_at M p s ≡ Some t → t < frames image → i < 1024 → is_present (word_of M t i) ≡ true
      → page_word M (at_page p (s * 1024 + i)) ≡ Some (word_of M t i)
  word-from p s t i table inside low present =
      let region : slot_number (s * 1024 + i) ≡ s = omega arith in
      let index : index_number (s * 1024 + i) ≡ i = omega arith in
      let small = lt-ltb t (length image.roles) inside in
      ap (λ x. option_and_then (λ t. present_word M t (word_of M t (index_number (s * 1024 + i)))) x) (ap (table_at M p) region ∙ table)
      ∙ ap (λ j. present_word M t (word_of M t j)) index
      ∙ (λ k. if small k && present k then Some (word_of M t i) else None)

  -- a mapped page is one of the user range
  pub user-slot : length image.processes ≡ 64 → (slot : Slot) (word : ℕ) → page_word M slot ≡ Some word → (slot.pid < 64) × (0x40000 ≤ slot.page) × (slot.page < 0xf0000)
  user-slot pids slot word h =
      let a = word-at slot.pid slot.page word h in
      let l = linked slot.pid (slot_number slot.page) a.t a.table in
      let u = user_range (slot_number slot.page) l.user in
      let low = u.0 in
      let high = u.1 in
      (pid-small image pids slot.pid l.r l.live, omega arith, omega arith)

  -- ---- Counts

  module _ (pids : length image.processes ≡ 64) where
    in-user-slots : (slot : Slot) (word : ℕ) → page_word M slot ≡ Some word → list_any (same slot_order slot) user_slots ≡ true
    in-user-slots slot word h = let u = user-slot pids slot word h in in_user_slots slot.pid slot.page u.0 u.1 u.2

    frame-test : (f : ℕ) (slot : Slot) → is_this f (page_frame M slot) ≡ true → list_any (same slot_order slot) user_slots ≡ true
    frame-test f slot h =
        let w = then_some (own_frame image.version) (page_word M slot) f (this-true f (page_frame M slot) h) in
        in-user-slots slot w.0 w.1

    -- how many slots are mapped to a frame
    pub maps-counts : (f : ℕ) → memory.IsCount slot_order (maps image f) (λ slot. page_frame M slot ≡ Some f)
    unfolding maps
    maps-counts f = slot_count (λ slot. is_this f (page_frame M slot)) (frame-test f) (λ slot. page_frame M slot ≡ Some f) (λ slot. (this-true f (page_frame M slot), this-is f (page_frame M slot)))

    pub maps-is : (f n : ℕ) → memory.IsCount slot_order n (λ slot. page_frame M slot ≡ Some f) → n ≡ maps image f
    unfolding maps
    maps-is f n c = slot_count_is (λ slot. is_this f (page_frame M slot)) (frame-test f) (λ slot. page_frame M slot ≡ Some f) (λ slot. (this-true f (page_frame M slot), this-is f (page_frame M slot))) n c

    module _ (p : ℕ) where
      table-test : (s : ℕ) → is_some (table_at M p s) ≡ true → (256 ≤ s) × (s < 256 + 704)
      table-test s h =
          let t = is_there (table_at M p s) h in
          let l = linked p s t.0 t.1 in
          let u = user_range s l.user in
          (u.0, let k = u.1 in omega arith)

      page-test : (page : ℕ) → is_some (page_word M (at_page p page)) ≡ true → (0x40000 ≤ page) × (page < 0x40000 + 0xb0000)
      page-test page h =
          let w = is_there (page_word M (at_page p page)) h in
          let u = user-slot pids (at_page p page) w.0 w.1 in
          let low = u.1 in
          let high = u.2 in
          (low, omega arith)

      pub charge-counts : (used : ℕ) → used ≡ 1 + tables_by image p + pages_by image p → machine.IsCharge M p used
      charge-counts used is = record {
        tables = tables_by image p;
        pages = pages_by image p;
        named = number_count (λ s. is_some (table_at M p s)) 256 704 table-test (λ s. IsTrue (is_some (table_at M p s))) (λ s. (λ h. h, λ h. h));
        mapped = number_count (λ page. is_some (page_word M (at_page p page))) 0x40000 0xb0000 page-test (λ page. IsTrue (is_some (page_word M (at_page p page)))) (λ page. (λ h. h, λ h. h));
        sum = is;
      }

      pub charge-is : (used : ℕ) → machine.IsCharge M p used → used ≡ 1 + tables_by image p + pages_by image p
      charge-is used c =
          let a = number_count_is (λ s. is_some (table_at M p s)) 256 704 table-test (λ s. IsTrue (is_some (table_at M p s))) (λ s. (λ h. h, λ h. h)) c.tables c.named in
          let b = number_count_is (λ page. is_some (page_word M (at_page p page))) 0x40000 0xb0000 page-test (λ page. IsTrue (is_some (page_word M (at_page p page)))) (λ page. (λ h. h, λ h. h)) c.pages c.mapped in
          c.sum ∙ (λ i. 1 + a i + b i)

  -- ---- Frames that nothing names, or one alone

  pub maps-none : (f : ℕ) → ((p page : ℕ) → frame_of image p page ≡ Some f → ⊥) → maps image f ≡ 0
  unfolding maps
  maps-none f none = sum-none (λ p. maps_by image p f) 0 64 (λ p _ _. count-none (λ page. is_this f (frame_of image p page)) 0x40000 0xb0000
      (λ page _ _. false_from (is_this f (frame_of image p page)) (λ h. none p page (this-true f (frame_of image p page) h))))

  pub names-none : (f : ℕ) → ((p s : ℕ) → table_at M p s ≡ Some f → ⊥) → names image f ≡ 0
  unfolding names
  names-none f none = sum-none (λ p. names_by image p f) 0 64 (λ p _ _. count-none (λ s. is_this f (table_at M p s)) 256 704
      (λ s _ _. false_from (is_this f (table_at M p s)) (λ h. none p s (this-true f (table_at M p s) h))))

  pub names-one : (f p s : ℕ) → p < 64 → table_at M p s ≡ Some f → ((q r : ℕ) → table_at M q r ≡ Some f → (q ≡ p) × (r ≡ s)) → names image f ≡ 1
  unfolding names
  names-one f p s small is alone =
      let l = linked p s f is in
      let u = user_range s l.user in
      let a = sum-one (λ q. names_by image q f) 0 64 p (omega arith) (omega (arith, small))
      (λ q differ. count-none (λ r. is_this f (table_at M q r)) 256 704 (λ r _ _. false_from (is_this f (table_at M q r)) (λ h. differ (alone q r (this-true f (table_at M q r) h)).0))) in
      let b = count-one (λ r. is_this f (table_at M p r)) 256 704 s u.0 (let k = u.1 in omega arith) (this-is f (table_at M p s) is)
      (λ r differ. false_from (is_this f (table_at M p r)) (λ h. differ (alone p r (this-true f (table_at M p r) h)).1)) in
      a ∙ b
