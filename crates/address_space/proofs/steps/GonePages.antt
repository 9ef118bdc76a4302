-- A page whose entry goes: its frame, the count of its table, and the table, which goes with its last page.
use Rattle.address_space.proofs.Prelude.{◌≡◌, ℕ, ◌-◌, ◌*◌, ◌<◌, ◌≤◌, true, false, List, length, refl, ap, sym, ◌∙◌, subst, Option, Some, is_some, slice_get, slice_set, slot_number, IsUserPage, frame_bytes, Role, Page, IsInUse, get-set_same, table_of, entry_at, IsCleared, count_range, Found, directory_of, spaces_in, IsCounted, AreCountedSpaces, EntryLeft, TableFreed, SlotRemoved, arith, ◌≢◌, ◌+◌, ◌==◌, Bool, inl, inr, if◌then◌else◌, some_value, no_value, Spaces, cost, need, without, is_slot, at_page, IsAlone, IsShared, eq-eqb, ne_eqb, one_alone, another_one, same_cases, nat_order, Inner}
use Rattle.address_space.proofs.Lemmas.{AreCountedInside, found_at, spaces_at, cost_left, relief_alone, relief_shared, one_less, counted_roles, alike_left, counted_freed, table_freed, count_there, count_positive, count_by_entries, page_uncounted, found_known, found_mapped, found_there, found_below, live_small}
use Rattle.page_words.specs.FiniteMap as map
use Rattle.address_space.proofs.steps.Leaves.{slot_removed, freed_table}

-- what is known of a page that was found, by the directory that was read
record AtHome (bytes : List ℕ) (d page : ℕ) (f : Found) : Type 0 where
  table : table_of (frame_bytes bytes) d (slot_number page) ≡ Some f.table
  here : entry_at (frame_bytes bytes) d page ≡ Some f.entry

module _ (inner : Inner) (p d page : ℕ) (f : Found) (before : AreCountedInside inner) (user : IsUserPage page) (is : found_at inner p page ≡ Some f) (live : directory_of inner.directories p ≡ Some d) where
  at_home : AtHome inner.memory d page f
  at_home = grind (arith, found_known)

  pub home_table : table_of (frame_bytes inner.memory) d (slot_number page) ≡ Some f.table
  home_table = at_home.table

  pub home_entry : entry_at (frame_bytes inner.memory) d page ≡ Some f.entry
  home_entry = at_home.here

  -- the count of its table
  pub home_count : f.table < length inner.counts.items
  home_count = count_there inner.directories inner.memory inner.frames inner.counts.items p d page f.table 0 before.spaces.sound live user home_table before.counted

  pub home_positive : (n : ℕ) → slice_get inner.counts.items f.table ≡ Some n → 1 ≤ n
  home_positive n counts = count_positive inner.directories inner.memory inner.frames inner.counts.items p d page f.table n before.spaces.sound live user home_table before.counted counts (ap is_some home_entry)

  pub home_counts : (n : ℕ) → slice_get inner.counts.items f.table ≡ Some n → n ≡ count_range (λ other. is_some (entry_at (frame_bytes inner.memory) d other)) (1024 * slot_number page) 1024
  home_counts n counts = count_by_entries inner.directories inner.memory inner.frames inner.counts.items p d page f.table n before.spaces.sound live user home_table before.counted counts

  -- what the process's cost falls by
  pub home_relief : (n : ℕ) → slice_get inner.counts.items f.table ≡ Some n → cost (without (spaces_at inner) (is_slot p page)) p + (if n == 1 then 2 else 1) ≡ cost (spaces_at inner) p
  home_relief n counts =
      let cell = some_value (map.get S (at_page p page)) (sym (found_mapped inner p page before user) ∙ ap is_some is) in
      let gone : need (without S (is_slot p page)) p page ≡ (if n == 1 then 2 else 1) = elim (same_cases nat_order n 1) [
        | inl one ↦ relief_alone inner.directories inner.memory p d page live (alone one.0) ∙ sym (ap (λ b. if b then 2 else 1) (eq-eqb n 1 one.0))
        | inr more ↦ relief_shared inner.directories inner.memory p d page (live_small inner.directories p d before.spaces.sound.pids live) live (shared more.0) ∙ sym (ap (λ b. if b then 2 else 1) (ne_eqb n 1 more.0))
      ] in
      sym (cost_left S p page cell.0 cell.1 ∙ ap (λ k. cost (without S (is_slot p page)) p + k) gone)
    where
      S : Spaces
      S = spaces_at inner

      mapped : ℕ → Bool
      mapped other = is_some (entry_at (frame_bytes inner.memory) d other)

      alone : n ≡ 1 → IsAlone (frame_bytes inner.memory) d page
      alone one i l apart =
          no_value (entry_at (frame_bytes inner.memory) d (slot_number page * 1024 + i))
          (one_alone mapped (1024 * slot_number page) 1024 page (slot_number page * 1024 + i) (sym (home_counts n counts) ∙ one) (omega arith) (omega arith) (ap is_some home_entry) (omega arith) (omega arith) apart)

      shared : n ≢ 1 → IsShared (frame_bytes inner.memory) d page
      shared more =
          let r = another_one mapped (1024 * slot_number page) 1024 page (λ one. more (home_counts n counts ∙ one)) (omega arith) (omega arith) (ap is_some home_entry) in
          let low = r.1 in
          let high = r.2 in
          let first = user.0 in
          let last = user.1 in
          record { other = r.0; low = omega arith; high = omega arith; region = omega arith; apart = r.3; mapped = r.4 }

  -- its frame, where it has one of its own
  pub home_in_use : f.entry.lazy ≡ false → IsInUse inner.frames f.entry.frame
  home_in_use real = let r = found_below inner p page f before user is real in record { role = Page r.count; is = r.page; in_use = refl }

  module _ (two : List ℕ) (one : List Role) (freed : Option ℕ) (cleared : IsCleared (frame_bytes inner.memory) d page freed (frame_bytes two)) (left : EntryLeft inner.frames f.entry one) where
    pub gone_table : (t : ℕ) → freed ≡ Some t → IsInUse one t
    gone_table = freed_table inner.directories inner.memory two inner.frames one p d page f.entry freed before.spaces.sound live user.0 user.1 home_entry cleared left

    module _ (last : List Role) (long : length two ≡ length inner.memory) (table : TableFreed one freed last) where
      pub gone_page : SlotRemoved inner.directories p page inner.memory inner.frames two last
      gone_page = slot_removed inner.directories inner.memory two inner.frames one last p d page f.entry freed before.spaces live user.0 user.1 home_entry cleared long left table

      pub gone_kept : (n : ℕ) (counts' : List ℕ) → slice_get inner.counts.items f.table ≡ Some n → counts' ≡ slice_set inner.counts.items f.table (n - 1) → (is_some freed ≡ true → n ≡ 1) → AreCountedSpaces inner.directories two last counts'
      gone_kept n counts' counts now end =
          let S = spaces_in inner.directories inner.memory in
          let after = spaces_in inner.directories two in
          let less = one_less S after p page (found_there inner p page f before user is) gone_page.spaces in
          let uncounted = subst (IsCounted after inner.frames) (sym now)
          (page_uncounted inner.directories inner.memory inner.frames inner.counts.items p d page f.table n before.spaces.sound live user home_table before.counted counts after less) in
          let rest = counted_roles after inner.frames one counts' (alike_left after inner.directories inner.memory inner.frames one p d page f.entry before.spaces.sound live user home_entry left) uncounted in
          record {
            spaces = gone_page.after;
            counted = counted_freed after one last counts' freed rest
                (λ t came.
                let e : Some t ≡ Some f.table = sym (table_freed (frame_bytes inner.memory) (frame_bytes two) d page t f.entry freed home_entry cleared came) ∙ home_table in
                let same : t ≡ f.table = cc in
                ap (λ l. slice_get l t) now ∙ ap (slice_get (slice_set inner.counts.items f.table (n - 1))) same
                ∙ get-set_same inner.counts.items f.table (n - 1) home_count ∙ ap (λ k. Some (k - 1)) (end (ap is_some came)))
                table;
          }
