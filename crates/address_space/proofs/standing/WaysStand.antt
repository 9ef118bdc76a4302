-- Each walk that finds a frame goes the way of its slot.
use Rattle.address_space.proofs.Prelude.{◌≡◌, ℕ, false, List, refl, ap, sym, ◌∙◌, arith, Option, Some, None, subst, option_map, option_and_then, is_ok, ne_eqb, page_number, frame_bytes, Role, PageEntry, slot_at, image_from, directory_of, entries_in, spaces_in, IsSound, IsSpaces, WaysAgree, eq-eqb, nat_tests, Access, walk_of, is_outside, entry_at, is_lazy_entry, end_at_entry, walks_read_entries, cell_of, WalkEndsBy, WalksAgree}
use Rattle.address_space.proofs.Lemmas.{word_names, same_entry, read_entry, same_lazy, frame_read, way_parts, way_whole, live_small, page_map_of, holds_inside, get_user, get-spaces_of}
use Rattle.address_space.proofs.steps.WalkSteps.{found_entry}
use Rattle.page_words.specs.FiniteMap as map

-- ---- Every walk ends as the spaces say.

module _ (directories : List (Option ℕ)) (bytes : List ℕ) (roles : List Role) (sound : IsSound directories bytes roles) where
  -- what is mapped at an address is what its entry says
  cell_of_entry : (p d address : ℕ) → directory_of directories p ≡ Some d
      → map.get (spaces_in directories bytes) (slot_at p address) ≡ option_map (cell_of (entries_in (directory_of directories) (frame_bytes bytes)) (frame_bytes bytes) (slot_at p address)) (entry_at (frame_bytes bytes) d (page_number address))
  unfolding spaces_in
  cell_of_entry p d address live =
      let m = frame_bytes bytes in
      let E = entries_in (directory_of directories) m in
      get-spaces_of E m (slot_at p address)
      ∙ ap (option_map (cell_of E m (slot_at p address))) (read_entry directories bytes roles sound (slot_at p address) ∙ sym (same_entry directories bytes roles sound (slot_at p address))
      ∙ ap (option_and_then (λ d. entry_at m d (page_number address))) live)

  entry_found : (p d address : ℕ) (e : PageEntry) → directory_of directories p ≡ Some d → entry_at (frame_bytes bytes) d (page_number address) ≡ Some e
      → map.get (entries_in (directory_of directories) (frame_bytes bytes)) (slot_at p address) ≡ Some e
  entry_found p d address e live is =
      read_entry directories bytes roles sound (slot_at p address) ∙ sym (same_entry directories bytes roles sound (slot_at p address))
      ∙ ap (option_and_then (λ d. entry_at (frame_bytes bytes) d (page_number address))) live ∙ is

  ends_by : (p d address : ℕ) (access : Access) → directory_of directories p ≡ Some d → (x : Option PageEntry) → entry_at (frame_bytes bytes) d (page_number address) ≡ x
      → walk_of bytes d address access ≡ end_at_entry bytes address access x
      → WalkEndsBy bytes d address access (is_lazy_entry x) (option_map (cell_of (entries_in (directory_of directories) (frame_bytes bytes)) (frame_bytes bytes) (slot_at p address)) x)
  ends_by p d address access live None at walk = walk
  ends_by p d address access live (Some e) at walk = grind (arith, within)
    where
      within : is_outside bytes e.frame ≡ false
      within =
          let i = (holds_inside directories bytes roles e.frame sound (sound.pages.pages (slot_at p address) e (entry_found p d address e live at))).fits in
          grind (arith, nat_tests)

pub walks_agree : (directories : List (Option ℕ)) (bytes : List ℕ) (roles : List Role) → IsSpaces directories bytes roles → WalksAgree (image_from directories bytes roles) (spaces_in directories bytes)
walks_agree directories bytes roles s p d address access live small =
    subst (λ l. WalkEndsBy bytes d address access l (map.get (spaces_in directories bytes) (slot_at p address)))
    (ap is_lazy_entry (sym (ap (option_and_then (λ d. entry_at (frame_bytes bytes) d (page_number address))) live)) ∙ sym (same_lazy directories bytes roles s.sound (slot_at p address)))
    (subst (WalkEndsBy bytes d address access (is_lazy_entry (entry_at (frame_bytes bytes) d (page_number address)))) (sym (cell_of_entry directories bytes roles s.sound p d address live))
    (ends_by directories bytes roles s.sound p d address access live (entry_at (frame_bytes bytes) d (page_number address)) refl
    (walks_read_entries bytes d address access (page_map_of directories bytes roles p d s.sound live) small)))

pub ways_agree : (directories : List (Option ℕ)) (bytes : List ℕ) (roles : List Role) → IsSound directories bytes roles
    → WaysAgree (image_from directories bytes roles)
ways_agree directories bytes roles sound = record {
  lead = λ p d a f access live small walk.
      let e = found_entry directories bytes roles p d sound live a access small (ap is_ok walk) in
      let there = get_user (directory_of directories) (frame_bytes bytes) p d (page_number a) e.entry live
      (live_small directories p d sound.pids live) e.low e.high e.here in
      way_whole (image_from directories bytes roles) (slot_at p a) d f
      (record {
        live = live;
        names = sym (frame_read directories bytes roles sound (slot_at p a))
            ∙ ap (option_map (λ (x : PageEntry). x.frame)) there
            ∙ ap Some (cc);
      });
  lazy = grind (arith, word_names, eq-eqb, ne_eqb, way_parts);
  clean = λ slot word is. (word_names directories bytes roles sound slot word is).clean;
}
