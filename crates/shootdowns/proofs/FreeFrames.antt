-- What a processor does by its walk writes no free frame.
use Rattle.shootdowns.proofs.Prelude.{◌≡◌, ◌≢◌, ℕ, zero, suc, ◌+◌, ◌*◌, ◌/◌, ◌%◌, ◌<◌, ◌^◌, true, List, length, refl, ap, sym, ◌∙◌, subst, arith, Option, Some, None, IsOk, slice_get, slice_set, option_map, page_number, slot_number, index_number, offset_number, start_number, second_page, byte_count, frame_number, frame_bytes, word_at, word_place, with_word, IsInside, frames-with_word, frames-with_byte, with_frame-other, word_in-frame, length-with_word, Role, Free, Directory, Table, Access, Read, Write, walk_of, dir_place, dir_word, table_place, byte_place, finds, after_walked_store, Image, image_from, bytes_of, at_page, directory_of, table_in, found_at, found_each, found_fits, found, get_user, memory_of, View, IsCore, IsWalked, finds_call, bytes_accessed, Call, Event, Reply, spaces}
use Rattle.std.proofs.Math.ListN.{length-set}
use Rattle.std.specs.Option.{unwrap_or}
use Rattle.table_walk.specs.Marks.{marked, accessed_word, touched_word, CanBeMarked}
use Rattle.table_walk.proofs.MarkLemmas.{marks_keep_walks, marks_change_two_words}
use Rattle.address_space.specs.Sound.{IsSound, HoldsPage}
use Rattle.address_space.proofs.steps.Steps.{inside, live_small, table_by_word}
use Rattle.address_space.proofs.steps.WalkedPages.{finds_first, finds_second}
use Rattle.address_space.proofs.steps.WalkSteps.{FoundEntry, found_entry, found_inside, named_frame, byte_written, load_marked}
use Rattle.kernel_calls.specs.declared.calls.Call.TheVariants as call

-- no byte of a free frame is written
abbrev pub LeavesFree : View → View → Type 0
LeavesFree v w = (f : ℕ) → slice_get v.roles f ≡ Some Free → frame_bytes w.bytes f ≡ frame_bytes v.bytes f

-- a frame with another role is another frame
apart : (roles : List Role) (f g : ℕ) (r : Role) → slice_get roles f ≡ Some Free → slice_get roles g ≡ Some r → r ≢ Free → f ≢ g
apart roles f g r free is other same = grind arith

-- a word that is written in another frame
beside_word : (bytes : List ℕ) (g index w f : ℕ) → index < 1024 → IsInside bytes g → f ≢ g → frame_bytes (with_word bytes (word_place g index) w) f ≡ frame_bytes bytes f
beside_word bytes g index w f low in_g other = grind (arith, frames-with_word, with_frame-other)

module _ (directories : List (Option ℕ)) (roles : List Role) (p d f : ℕ) (live : directory_of directories p ≡ Some d) (free : slice_get roles f ≡ Some Free) where
  can_mark : (bytes : List ℕ) (address : ℕ) (access : Access) → IsSound directories bytes roles → address < 2 ^ 32 → IsOk (walk_of bytes d address access) → CanBeMarked bytes d address access
  can_mark bytes address access sound small ok = grind (arith, found)

  module _ (bytes : List ℕ) (address : ℕ) (access : Access) (sound : IsSound directories bytes roles) (e : FoundEntry bytes d address access) where
    abbrev s : ℕ
    s = slot_number (page_number address)

    small : s < 1024
    small = let high = e.high in omega (arith, high)

    -- the frame that the directory's word names is a table's
    table : slice_get roles (frame_number (dir_word bytes d address)) ≡ Some (Table p s)
    table =
        let at = found (directory_of directories) (frame_bytes bytes) p d (page_number address) e.entry e.here in
        let names = ap frame_number (word_in-frame bytes d s small) ∙ table_by_word _ at.table at.there in
        ap (slice_get roles) names
        ∙ sound.tables.table p s at.table (ap (λ (o : Option ℕ). table_in (λ q. o) (frame_bytes bytes) p s) live ∙ at.there)

    -- and the frame that is found is a page's, or frame 0
    page : HoldsPage (slice_get roles e.entry.frame)
    page = sound.pages.pages (at_page p (page_number address)) e.entry
        (get_user (directory_of directories) (frame_bytes bytes) p d (page_number address) e.entry live (live_small directories p d sound.pids live) e.low e.high e.here)

    page_apart : f ≢ e.entry.frame
    page_apart = grind (arith, page, apart)

    mark_free : frame_bytes (marked bytes d address access) f ≡ frame_bytes bytes f
    unfolding marked
    mark_free =
        let in_d = inside directories bytes roles d (Directory p) sound (sound.tables.directory p d live) in
        let t : ℕ = frame_number (dir_word bytes d address) in
        let in_t = inside directories bytes roles t (Table p s) sound table in
        let half : List ℕ = with_word bytes (dir_place d address) (accessed_word (dir_word bytes d address)) in
        let long : length half ≡ length bytes = length-with_word bytes (dir_place d address) (accessed_word (dir_word bytes d address)) (let h = in_d.fits in let l = small in omega (arith, h, l)) in
        beside_word half t (index_number (page_number address)) (touched_word access (word_at half (table_place bytes d address))) f (omega arith)
        (let h = in_t.fits in omega (arith, h, long)) (apart roles f t (Table p s) free table (λ k. cc))
        ∙ beside_word bytes d s (accessed_word (dir_word bytes d address)) f small in_d.fits (apart roles f d (Directory p) free (sound.tables.directory p d live) (λ k. cc))

  -- the bytes of a store
  stored_free : (n : ℕ) (bytes : List ℕ) (address v : ℕ) → IsSound directories bytes roles → ((i : ℕ) → i < n → IsOk (walk_of bytes d (address + i) Write)) → address + n < 2 ^ 32
      → frame_bytes (after_walked_store bytes d address (bytes_of n v)) f ≡ frame_bytes bytes f
  stored_free zero bytes address v sound all fits = refl
  stored_free (suc n) bytes address v sound all fits =
      let here : address + 0 ≡ address = omega arith in
      let small : address < 2 ^ 32 = omega (arith, fits) in
      let ok : IsOk (walk_of bytes d address Write) = subst (λ a. IsOk (walk_of bytes d a Write)) here (all 0 (omega arith)) in
      let first : List ℕ = marked bytes d address Write in
      let two : List ℕ = slice_set first (byte_place bytes d address) (v % 256) in
      let can = can_mark bytes address Write sound small ok in
      let put = byte_written directories bytes two roles p d address v sound live small ok (marks_keep_walks bytes d address Write can) refl (length-set first (byte_place bytes d address) (v % 256)) in
      let e = found_entry directories bytes roles p d sound live address Write small ok in
      let long = (marks_change_two_words bytes d address Write can).same_length in
      let in_page = (found_inside directories bytes roles p d sound live address Write e).fits in
      let named = named_frame directories bytes roles p d sound live address Write e in
      let put_free : frame_bytes two f ≡ frame_bytes first f =
      ap (λ g. frame_bytes (slice_set first (4096 * g + offset_number address) (v % 256)) f) named
      ∙ ap (λ (m : ℕ → List ℕ). m f) (frames-with_byte first e.entry.frame (offset_number address) (v % 256) (omega arith) (omega (arith, in_page, long)))
      ∙ with_frame-other (frame_bytes first) e.entry.frame f (slice_set (frame_bytes first e.entry.frame) (offset_number address) (v % 256)) (page_apart bytes address Write sound e) in
      stored_free n two (address + 1) (v / 256) put.touched.sound
      (λ i l. let next : address + suc i ≡ address + 1 + i = omega arith in
      subst IsOk (sym (put.walks (address + 1 + i) Write (omega (arith, fits, l)))) (subst (λ a. IsOk (walk_of bytes d a Write)) next (all (suc i) (omega (arith, l)))))
      (omega (arith, fits))
      ∙ put_free ∙ mark_free bytes address Write sound e

  call_free : (bytes : List ℕ) (c : Call) → IsSound directories bytes roles → (v : View) → memory_of v ≡ image_from directories bytes roles → finds_call v p c ≡ true
      → frame_bytes (bytes_accessed bytes d c) f ≡ frame_bytes bytes f
  call_free bytes (call.Store addr size value) sound v is h =
      let each = found_each directories bytes roles p d addr size Write sound live (sym (ap (λ (m : Image). finds m p addr size Write) is) ∙ h) in
      stored_free (byte_count size) bytes addr value sound each.found (found_fits bytes d addr size Write each)
  call_free bytes (call.Load addr size) sound v is h = by (second_page addr size) refl
    where
      test : finds (image_from directories bytes roles) p addr size Read ≡ true
      test = sym (ap (λ (m : Image). finds m p addr size Read) is) ∙ h

      found_first : (addr < 2 ^ 32) × IsOk (walk_of bytes d addr Read)
      found_first = found_at (image_from directories bytes roles) p d addr Read live (finds_first (image_from directories bytes roles) p addr size Read test)

      e : FoundEntry bytes d addr Read
      e = found_entry directories bytes roles p d sound live addr Read found_first.0 found_first.1

      by : (x : Option ℕ) → second_page addr size ≡ x
          → frame_bytes (unwrap_or (option_map (λ page. marked (marked bytes d addr Read) d (start_number page) Read) x) (marked bytes d addr Read)) f ≡ frame_bytes bytes f
      by None none = mark_free bytes addr Read sound e
      by (Some page) some =
          let at = found_at (image_from directories bytes roles) p d (start_number page) Read live (finds_second (image_from directories bytes roles) p addr size Read page some test) in
          let later = (load_marked directories bytes roles p d addr sound live e).sound in
          let ok = subst IsOk (sym (marks_keep_walks bytes d addr Read (can_mark bytes addr Read sound found_first.0 found_first.1) d (start_number page) Read)) at.1 in
          mark_free (marked bytes d addr Read) (start_number page) Read later (found_entry directories (marked bytes d addr Read) roles p d later live (start_number page) Read at.0 ok)
          ∙ mark_free bytes addr Read sound e
  call_free bytes _ sound v is h = cc

pub walk_leaves : (w u : View) (a : Event) (q : Reply) → IsCore w → IsWalked w a q u → LeavesFree w u
walk_leaves w u a q core k f free = grind (arith, call_free, spaces)
