use Rattle.address_space.proofs.Prelude.{◌≡◌, ◌<◌, ◌≤◌, ◌∙◌, ℕ, List, Option, Some, None, true, is_some, ap, sym, subst, refl, frame_bytes, table_of, is_lazy_entry, IsPageMap, at_page, none_goes, cost, ◌⊎◌, FramesStay, View, directory_of, entry_in, spaces_in, IsSound, image_from, IsCopying, CopyIn}
use Rattle.address_space.proofs.Lemmas.{frames_stay, same_lazy, page_map_of, empty_cost}
use Rattle.address_space.proofs.steps.Copies.{copied_at_first}
use Rattle.address_space.proofs.steps.RegionCopies.{all_copied, region_begun, region_ended}
use Rattle.address_space.proofs.Spaces.copy_charged_space.Goals as goal

pub loop-region-init : goal.loop-region-init
loop-region-init c =
    rw (← c.self.view_is)
    (record { so_far = copied_at_first c.self.inside.directories c.self.inside.memory c.self.inside.frames c.args.from c.args.to c.self.invariant.spaces (rw (← c.self.view_is) at c.requires.empty); same = refl; made = sym (empty_cost (spaces_in c.self.inside.directories c.self.inside.memory) c.args.to (rw (← c.self.view_is) at c.requires.empty)) })

pub region_left-requires : goal.region_left-requires
region_left-requires c =
    let so_far = rw (← c.self.view_is) at c.loop-region.invariant.so_far in
    let bytes : c.self-in-loop-region.inside.memory ≡ c.loop-region.self.bytes = ap (λ (v : View). v.bytes) c.self-in-loop-region.view_is in
    subst (λ b. IsPageMap b c.home-source.result) (sym bytes) (page_map_of c.self.inside.directories c.loop-region.self.bytes c.loop-region.self.roles c.args.from c.home-source.result so_far.after.sound c.home-source.ensures)

pub copy_region-made-requires-clause-copying : goal.copy_region-made-requires-clause-copying
copy_region-made-requires-clause-copying c =
    let so_far = rw (← c.self.view_is) at c.loop-region.invariant.so_far in
    let same = rw (← c.self.view_is) at c.loop-region.invariant.same in
    let bytes : c.self-in-loop-region.inside.memory ≡ c.loop-region.self.bytes = ap (λ (v : View). v.bytes) c.self-in-loop-region.view_is in
    let least = subst (λ b. (s : ℕ) → c.loop-region.first ≤ s → s < c.in-Some.region.slot → table_of (frame_bytes b) c.home-source.result s ≡ None) bytes c.in-Some.ensures.least in
    let there = subst (λ b. table_of (frame_bytes b) c.home-source.result c.in-Some.region.slot ≡ Some c.in-Some.region.table) bytes c.in-Some.ensures.table in
    let begun =
    region_begun {slot = c.in-Some.region.slot} {table = c.in-Some.region.table} c.home-source.ensures c.self.invariant.spaces (rw (← c.self.view_is) at c.requires.empty) (rw (← c.self.view_is) at c.requires.room) so_far
    c.in-Some.ensures.within.0 c.in-Some.ensures.within.1 least there in
    subst (λ (l : List (Option ℕ)). IsCopying l c.args.to c.in-Some.region.slot c.in-Some.region.table c.loop-region.self.bytes c.loop-region.self.roles) (sym same)
    (record { from = c.args.from; source = c.home-source.result; bytes = c.self.inside.memory; roles = c.self.inside.frames; begun = begun })

pub copy_region-made-requires-clause-live : goal.copy_region-made-requires-clause-live
copy_region-made-requires-clause-live c =
    let same = rw (← c.self.view_is) at c.loop-region.invariant.same in
    subst (λ (l : List (Option ℕ)). is_some (directory_of l c.args.to) ≡ true) (sym same) (rw (← c.self.view_is) at c.requires.live)

pub copy_region-made-requires-clause-used : goal.copy_region-made-requires-clause-used
copy_region-made-requires-clause-used c =
    c.loop-region.invariant.made ∙ ap (λ (l : List (Option ℕ)). cost (spaces_in l c.loop-region.self.bytes) c.args.to) (sym c.loop-region.invariant.same)

pub loop-region-preserved : goal.loop-region-preserved
loop-region-preserved c =
    rw (← c.self.view_is)
    (
    let so_far = rw (← c.self.view_is) at c.loop-region.invariant.so_far in
    let same = rw (← c.self.view_is) at c.loop-region.invariant.same in
    let bytes : c.self-in-loop-region.inside.memory ≡ c.loop-region.self.bytes = ap (λ (v : View). v.bytes) c.self-in-loop-region.view_is in
    let least = subst (λ b. (s : ℕ) → c.loop-region.first ≤ s → s < c.in-Some.region.slot → table_of (frame_bytes b) c.home-source.result s ≡ None) bytes c.in-Some.ensures.least in
    let there = subst (λ b. table_of (frame_bytes b) c.home-source.result c.in-Some.region.slot ≡ Some c.in-Some.region.table) bytes c.in-Some.ensures.table in
    let begun =
    region_begun {slot = c.in-Some.region.slot} {table = c.in-Some.region.table} c.home-source.ensures c.self.invariant.spaces (rw (← c.self.view_is) at c.requires.empty) (rw (← c.self.view_is) at c.requires.room) so_far
    c.in-Some.ensures.within.0 c.in-Some.ensures.within.1 least there in
    let ended =
    subst (λ (l : List (Option ℕ)). CopyIn l c.args.from c.home-source.result c.args.to c.in-Some.region.slot c.in-Some.region.table 0 c.self.inside.memory c.self.inside.frames c.loop-region.self.bytes c.loop-region.self.roles
    → CopyIn l c.args.from c.home-source.result c.args.to c.in-Some.region.slot c.in-Some.region.table 1024 c.self.inside.memory c.self.inside.frames c.copy_region-made.new.self.bytes c.copy_region-made.new.self.roles) same
    (c.copy_region-made.ensures.copied c.args.from c.home-source.result c.self.inside.memory c.self.inside.frames) begun in
    record {
      so_far = region_ended ended;
      same = c.copy_region-made.ensures.directories ∙ same;
      made = c.copy_region-made.ensures.used ∙ ap (λ (l : List (Option ℕ)). cost (spaces_in l c.copy_region-made.new.self.bytes) c.args.to) (c.copy_region-made.ensures.directories ∙ same);
    })

pub returns-clause-spaces : goal.returns-clause-spaces
returns-clause-spaces c =
    rw (← c.self.view_is)
    (
    let so_far = rw (← c.self.view_is) at c.loop-region.invariant.so_far in
    let same = rw (← c.self.view_is) at c.loop-region.invariant.same in
    let bytes : c.self-in-loop-region.inside.memory ≡ c.loop-region.self.bytes = ap (λ (v : View). v.bytes) c.self-in-loop-region.view_is in
    let none = subst (λ b. (c.saturating_sub.result ≡ 0) ⊎ ((s : ℕ) → c.loop-region.first ≤ s → s < 960 → table_of (frame_bytes b) c.home-source.result s ≡ None)) bytes c.in_default.ensures.none in
    let used = rw (← c.self.view_is) at c.requires.used in
    let made = rw (← c.self.view_is) at c.loop-region.invariant.made in
    let copied = all_copied c.loop-region.first c.home-source.ensures c.self.invariant.spaces (rw (← c.self.view_is) at c.requires.empty) so_far used made c.saturating_sub.ensures none in
    subst (λ (v : View). v.spaces ≡ spaces_in v.directories v.bytes) c.self-in-loop-region.view_is refl ∙ ap (λ (l : List (Option ℕ)). spaces_in l c.loop-region.self.bytes) same ∙ copied.spaces)

pub returns-clause-lazy : goal.returns-clause-lazy
returns-clause-lazy c =
    rw (← c.self.view_is)
    (
    let so_far = rw (← c.self.view_is) at c.loop-region.invariant.so_far in
    let same = rw (← c.self.view_is) at c.loop-region.invariant.same in
    let bytes : c.self-in-loop-region.inside.memory ≡ c.loop-region.self.bytes = ap (λ (v : View). v.bytes) c.self-in-loop-region.view_is in
    let none = subst (λ b. (c.saturating_sub.result ≡ 0) ⊎ ((s : ℕ) → c.loop-region.first ≤ s → s < 960 → table_of (frame_bytes b) c.home-source.result s ≡ None)) bytes c.in_default.ensures.none in
    let used = rw (← c.self.view_is) at c.requires.used in
    let made = rw (← c.self.view_is) at c.loop-region.invariant.made in
    let copied = all_copied c.loop-region.first c.home-source.ensures c.self.invariant.spaces (rw (← c.self.view_is) at c.requires.empty) so_far used made c.saturating_sub.ensures none in
    let sound : IsSound c.loop-region.self.directories c.loop-region.self.bytes c.loop-region.self.roles = subst (λ (v : View). IsSound v.directories v.bytes v.roles) c.self-in-loop-region.view_is c.self-in-loop-region.invariant.spaces.sound in
    λ page. same_lazy c.loop-region.self.directories c.loop-region.self.bytes c.loop-region.self.roles sound (at_page c.args.to page)
    ∙ ap (λ (l : List (Option ℕ)). is_lazy_entry (entry_in (directory_of l) (frame_bytes c.loop-region.self.bytes) (at_page c.args.to page))) same
    ∙ copied.lazy page ∙ sym (same_lazy c.self.inside.directories c.self.inside.memory c.self.inside.frames c.self.invariant.spaces.sound (at_page c.args.from page)))

pub returns-clause-frames : goal.returns-clause-frames
returns-clause-frames c = c.loop-region.invariant.so_far.length

pub returns-clause-stay : goal.returns-clause-stay
returns-clause-stay c =
    rw (← c.self.view_is)
    (
    let so_far = rw (← c.self.view_is) at c.loop-region.invariant.so_far in
    let same = rw (← c.self.view_is) at c.loop-region.invariant.same in
    subst (λ l. FramesStay none_goes (image_from c.self.inside.directories c.self.inside.memory c.self.inside.frames) (image_from l c.loop-region.self.bytes c.loop-region.self.roles)) (sym same)
    (frames_stay none_goes c.self.inside.directories c.self.inside.memory c.loop-region.self.bytes c.self.inside.frames c.loop-region.self.roles c.self.invariant.spaces.sound so_far.after.sound so_far.stay))
