use Rattle.address_space.proofs.Prelude.{◌≡◌, ◌+◌, ◌*◌, ◌<◌, ◌≤◌, ◌∙◌, ℕ, List, Option, Some, ap, sym, subst, refl, inl, arith, frame_bytes, word_in, word_entry, View, directory_of, DroppedBelow, words_left}
use Rattle.address_space.proofs.Lemmas.{dropped_next, page_map_of}
use Rattle.address_space.proofs.steps.RegionCopies.{region_there, region_words}
use Rattle.address_space.proofs.steps.RegionDrops.{RegionLeft, left_linked, left_next, listed_found, region_passed}
use Rattle.address_space.proofs.Spaces.drop_region.Goals as goal

pub count_at-left-requires : goal.count_at-left-requires
count_at-left-requires c =
    region_there c.self.inside.counts.items c.args.pid c.self.invariant.spaces.sound (rw (← c.self.view_is) at c.requires.home) c.requires.low c.requires.high (rw (← c.self.view_is) at c.requires.table) c.self.invariant.counted

pub loop-listed-init : goal.loop-listed-init
loop-listed-init c =
    let words =
    region_words c.self.inside.counts.items c.args.pid c.self.invariant.spaces.sound (rw (← c.self.view_is) at c.requires.home) c.requires.low c.requires.high (rw (← c.self.view_is) at c.requires.table) c.self.invariant.counted c.count_at-left.result c.count_at-left.ensures in
    let few : c.args.slot < 1024 = omega (arith, c.requires.high) in
    let map = page_map_of c.self.inside.directories c.self.inside.memory c.self.inside.frames c.args.pid c.args.directory c.self.invariant.spaces.sound (rw (← c.self.view_is) at c.requires.home) in
    record {
      so_far = λ v begun. (let here : 1024 * c.args.slot ≡ 1024 * c.args.slot + 0 = omega arith in subst (λ n. DroppedBelow v c.args.pid n c.args.self.now) here begun);
      used = c.requires.used;
      same = refl;
      left = record { words = rw (← c.self.view_is) words; linked = inl c.requires.table };
      inside = rw (← c.self.view_is) (map.tables_inside c.args.slot c.args.table few (rw (← c.self.view_is) at c.requires.table));
      within = omega arith;
    }

pub next_left-requires-clause-inside : goal.next_left-requires-clause-inside
next_left-requires-clause-inside c = grind (arith, c.loop-listed.invariant.inside)

pub next_left-requires-clause-left : goal.next_left-requires-clause-left
next_left-requires-clause-left c = grind (arith, c.loop-listed.invariant.left.words)

pub overflow_sub-left : goal.overflow_sub-left
overflow_sub-left c = omega (arith, c.in-Some.ensures.left)

pub unmap_found-used-requires-clause-home : goal.unmap_found-used-requires-clause-home
unmap_found-used-requires-clause-home c = ap (λ (l : List (Option ℕ)). directory_of l c.args.pid) c.loop-listed.invariant.same ∙ c.requires.home

pub unmap_found-used-requires-clause-user : goal.unmap_found-used-requires-clause-user
unmap_found-used-requires-clause-user c = let up = c.in-Some.ensures.within in (omega (arith, c.requires.low), omega (arith, c.requires.high, up.1))

pub unmap_found-used-requires-clause-found : goal.unmap_found-used-requires-clause-found
unmap_found-used-requires-clause-found c =
    let same : c.self-in-loop-listed.inside.memory ≡ c.loop-listed.self.bytes = ap (λ (v : View). v.bytes) c.self-in-loop-listed.view_is in
    let home : directory_of c.loop-listed.self.directories c.args.pid ≡ Some c.args.directory = ap (λ (l : List (Option ℕ)). directory_of l c.args.pid) c.loop-listed.invariant.same ∙ c.requires.home in
    listed_found c.loop-listed.self.directories c.loop-listed.self.bytes c.args.pid c.args.slot home (left_linked _ c.loop-listed.invariant.left c.in-Some.ensures.left) c.in-Some.ensures.within.1
    (subst (λ b. word_entry (word_in (frame_bytes b c.args.table) c.in-Some.listed.index) ≡ Some c.in-Some.listed.entry) same c.in-Some.ensures.entry)

pub overflow_sub-used : goal.overflow_sub-used
overflow_sub-used c = omega (arith, c.unmap_found-used.ensures.relief, c.loop-listed.invariant.used)

pub loop-listed-preserved : goal.loop-listed-preserved
loop-listed-preserved c =
    let same : c.self-in-loop-listed.inside.memory ≡ c.loop-listed.self.bytes = ap (λ (v : View). v.bytes) c.self-in-loop-listed.view_is in
    let home : directory_of c.self-in-loop-listed.inside.directories c.args.pid ≡ Some c.args.directory = ap (λ (v : View). directory_of v.directories c.args.pid) c.self-in-loop-listed.view_is
    ∙ ap (λ (l : List (Option ℕ)). directory_of l c.args.pid) c.loop-listed.invariant.same ∙ c.requires.home in
    let up = c.in-Some.ensures.within in
    let left = subst (λ b. RegionLeft b c.args.directory c.args.slot c.args.table c.loop-listed.index c.loop-listed.left) (sym same) c.loop-listed.invariant.left in
    let some : c.loop-listed.left ≡ words_left c.loop-listed.self.bytes c.args.table (c.in-Some.listed.index + 1) + 1 = c.in-Some.ensures.left ∙ ap (λ b. words_left b c.args.table (c.in-Some.listed.index + 1) + 1) same in
    record {
      so_far = λ v begun.
          let here = subst (λ (w : View). DroppedBelow v c.args.pid (1024 * c.args.slot + c.loop-listed.index) w) (sym c.self-in-loop-listed.view_is) (c.loop-listed.invariant.so_far v begun) in
          let passed = region_passed c.self-in-loop-listed.inside c.in-Some.listed.index here home left c.requires.high up.0 (omega (arith, up.1)) c.in-Some.ensures.least in
          let next : 1024 * c.args.slot + c.in-Some.listed.index + 1 ≡ 1024 * c.args.slot + (c.in-Some.listed.index + 1) = omega arith in
          subst (λ n. DroppedBelow v c.args.pid n c.unmap_found-used.new.self) next
          (dropped_next v c.loop-listed.self c.unmap_found-used.new.self c.args.pid (1024 * c.args.slot + c.in-Some.listed.index) (subst (λ (w : View). DroppedBelow v c.args.pid (1024 * c.args.slot + c.in-Some.listed.index) w) c.self-in-loop-listed.view_is passed)
          (omega (arith, c.requires.high, up.1)) c.unmap_found-used.ensures.spaces c.unmap_found-used.ensures.stay c.unmap_found-used.ensures.loose c.unmap_found-used.ensures.directories c.unmap_found-used.ensures.frames);
      used =
          omega (arith, c.unmap_found-used.ensures.relief, c.loop-listed.invariant.used);
      same = c.unmap_found-used.ensures.directories ∙ c.loop-listed.invariant.same;
      left = left_next c.loop-listed.invariant.left up.1 some c.unmap_found-used.ensures.words;
      inside = subst (λ n. 4096 * c.args.table + 4096 ≤ n) (sym c.unmap_found-used.ensures.long) c.loop-listed.invariant.inside;
      within = omega (arith, up.1);
    }

pub returns-clause-dropped : goal.returns-clause-dropped
returns-clause-dropped c v begun =
    let same : c.self-in-loop-listed.inside.memory ≡ c.loop-listed.self.bytes = ap (λ (v : View). v.bytes) c.self-in-loop-listed.view_is in
    let home : directory_of c.self-in-loop-listed.inside.directories c.args.pid ≡ Some c.args.directory = ap (λ (v : View). directory_of v.directories c.args.pid) c.self-in-loop-listed.view_is
    ∙ ap (λ (l : List (Option ℕ)). directory_of l c.args.pid) c.loop-listed.invariant.same ∙ c.requires.home in
    let left = subst (λ b. RegionLeft b c.args.directory c.args.slot c.args.table c.loop-listed.index c.loop-listed.left) (sym same) c.loop-listed.invariant.left in
    let here = subst (λ (w : View). DroppedBelow v c.args.pid (1024 * c.args.slot + c.loop-listed.index) w) (sym c.self-in-loop-listed.view_is) (c.loop-listed.invariant.so_far v begun) in
    subst (λ (w : View). DroppedBelow v c.args.pid (1024 * c.args.slot + 1024) w) c.self-in-loop-listed.view_is
    (region_passed c.self-in-loop-listed.inside 1024 here home left c.requires.high c.loop-listed.invariant.within (omega arith) c.in_default.ensures.none)

pub returns-clause-used : goal.returns-clause-used
returns-clause-used c = c.loop-listed.invariant.used
