use Rattle.address_space.proofs.Prelude.{◌≡◌, ◌+◌, ◌*◌, ◌≤◌, ◌∙◌, ℕ, List, Option, Some, ap, sym, subst, refl, arith, is_some, slice_set, slot_number, frame_bytes, Role, some_value, table_in, AreCountedSpaces, IsCounted, TableGot, TakesPage, region_pages, cost, directory_of, spaces_in, CopyIn, counted}
use Rattle.address_space.proofs.steps.RegionCopies.{none_listed, region_there, region_words, no_table_there, none_mapped, none_made, made_inside, count_made, count_step, copy_takes, copy_lies, copy_inside, copy_passed, copy_entry, copy_word, copy_unmapped, copy_need, copy_cost, copy_mapped, copy_stepped, words_kept}
use Rattle.address_space.proofs.steps.Copies.{copied_entry}
use Rattle.address_space.proofs.steps.NewPages.{got_sound, got_inside, got_lies, got_free, CopyMade, copy_made}
use Rattle.address_space.proofs.costs.ChargeLemmas.{cost_fits}
use Rattle.address_space.proofs.Spaces.copy_region.Goals as goal

pub count_at-pages-requires : goal.count_at-pages-requires
count_at-pages-requires c =
    let begun = (rw (← c.self.view_is) at c.requires.copying).begun in
    let low = begun.so_far.low in
    region_there c.self.inside.counts.items (rw (← c.self.view_is) at c.requires.copying).from begun.so_far.after.sound begun.home (omega (arith, low)) c.requires.slot begun.there c.self.invariant.counted

pub loop-listed-init : goal.loop-listed-init
loop-listed-init c =
    let begun = (rw (← c.self.view_is) at c.requires.copying).begun in
    let low = begun.so_far.low in
    let inside : 256 ≤ c.args.slot = omega (arith, low) in
    let used = rw (← c.self.view_is) at c.requires.used in
    let none = none_mapped begun in
    rw (← c.self.view_is)
    (record {
      so_far = λ from source bytes roles begun. begun;
      same = refl;
      linked = sym (no_table_there c.args.to begun.so_far.after (some_value (directory_of c.self.inside.directories c.args.to) (rw (← c.self.view_is) at c.requires.live)).1 inside c.requires.slot (λ i few. begun.so_far.rest (1024 * c.args.slot + i) (omega arith)));
      left = region_words c.self.inside.counts.items (rw (← c.self.view_is) at c.requires.copying).from begun.so_far.after.sound begun.home inside c.requires.slot begun.there c.self.invariant.counted c.count_at-pages.result c.count_at-pages.ensures;
      used = omega (arith, used);
      within = omega arith;
      counted = c.self.invariant.counted;
      mapped = omega (arith, none);
    })

pub next_left-requires-clause-inside : goal.next_left-requires-clause-inside
next_left-requires-clause-inside c =
    let q = c.requires.copying in
    copy_inside (c.loop-listed.invariant.so_far q.from q.source q.bytes q.roles q.begun) refl c.requires.slot

pub overflow_add-charged : goal.overflow_add-charged
overflow_add-charged c =
    let q = c.requires.copying in
    let here = c.loop-listed.invariant.so_far q.from q.source q.bytes q.roles q.begun in
    let none = none_listed c.args.table c.loop-listed.index refl c.in_default.ensures.none in
    let fits = cost_fits c.args.self.now.directories c.loop-listed.self-inside.memory c.loop-listed.self-inside.frames c.args.to (some_value (directory_of c.args.self.now.directories c.args.to) c.requires.live).0 here.so_far.after (some_value (directory_of c.args.self.now.directories c.args.to) c.requires.live).1 in
    omega (arith, fits, c.loop-listed.invariant.used, c.loop-listed.invariant.left, none)

pub overflow_add-result : goal.overflow_add-result
overflow_add-result c =
    let q = c.requires.copying in
    let here = c.loop-listed.invariant.so_far q.from q.source q.bytes q.roles q.begun in
    let none = none_listed c.args.table c.loop-listed.index refl c.in_default.ensures.none in
    let fits = cost_fits c.args.self.now.directories c.loop-listed.self-inside.memory c.loop-listed.self-inside.frames c.args.to (some_value (directory_of c.args.self.now.directories c.args.to) c.requires.live).0 here.so_far.after (some_value (directory_of c.args.self.now.directories c.args.to) c.requires.live).1 in
    let one = ap (λ (x : Option ℕ). counted (is_some x)) c.in-Some-linked.is in
    omega (arith, fits, c.loop-listed.invariant.used, c.loop-listed.invariant.left, none, one)

pub set_count-requires : goal.set_count-requires
set_count-requires c =
    let q = c.requires.copying in
    let here = c.loop-listed.invariant.so_far q.from q.source q.bytes q.roles q.begun in
    made_inside c.loop-listed.self-inside.counts.items c.in-Some-linked.made (region_pages (spaces_in c.args.self.now.directories c.loop-listed.self-inside.memory) c.args.to c.args.slot) here (sym c.in-Some-linked.is ∙ c.loop-listed.invariant.linked)
    (subst (λ (x : Option ℕ). IsCounted (spaces_in c.args.self.now.directories c.loop-listed.self-inside.memory) c.loop-listed.self-inside.frames (count_made c.loop-listed.self-inside.counts.items x (region_pages (spaces_in c.args.self.now.directories c.loop-listed.self-inside.memory) c.args.to c.args.slot))) c.in-Some-linked.is c.loop-listed.invariant.counted)

pub invariant_of-self : goal.invariant_of-self
invariant_of-self c =
    let q = c.requires.copying in
    let here = c.loop-listed.invariant.so_far q.from q.source q.bytes q.roles q.begun in
    let nothing = none_made c.loop-listed.linked c.in_default-linked.not-Some in
    subst (λ (l : List (Option ℕ)). AreCountedSpaces l c.loop-listed.self-inside.memory c.loop-listed.self-inside.frames c.loop-listed.self-inside.counts.items) (sym c.loop-listed.invariant.same) (record {
      spaces = here.so_far.after;
      counted = subst (λ (x : Option ℕ). IsCounted (spaces_in c.args.self.now.directories c.loop-listed.self-inside.memory) c.loop-listed.self-inside.frames (count_made c.loop-listed.self-inside.counts.items x (region_pages (spaces_in c.args.self.now.directories c.loop-listed.self-inside.memory) c.args.to c.args.slot))) nothing c.loop-listed.invariant.counted;
    })

pub invariant_of-self-2 : goal.invariant_of-self-2
invariant_of-self-2 c =
    let q = c.requires.copying in
    let here = c.loop-listed.invariant.so_far q.from q.source q.bytes q.roles q.begun in
    let none = none_listed c.args.table c.loop-listed.index refl c.in_default.ensures.none in
    let all : (region_pages (spaces_in c.args.self.now.directories c.loop-listed.self-inside.memory) c.args.to c.args.slot) ≡ c.count_at-pages.result = omega (arith, c.loop-listed.invariant.mapped, c.loop-listed.invariant.left, none) in
    subst (λ (l : List (Option ℕ)). AreCountedSpaces l c.loop-listed.self-inside.memory c.loop-listed.self-inside.frames c.set_count.new.counts.items) (sym c.loop-listed.invariant.same) (record {
      spaces = here.so_far.after;
      counted = subst (IsCounted (spaces_in c.args.self.now.directories c.loop-listed.self-inside.memory) c.loop-listed.self-inside.frames) (ap (λ (x : Option ℕ). count_made c.loop-listed.self-inside.counts.items x (region_pages (spaces_in c.args.self.now.directories c.loop-listed.self-inside.memory) c.args.to c.args.slot)) c.in-Some-linked.is ∙ ap (slice_set c.loop-listed.self-inside.counts.items c.in-Some-linked.made) all ∙ sym c.set_count.ensures) c.loop-listed.invariant.counted;
    })

pub returns-in_default-linked-clause-used : goal.returns-in_default-linked-clause-used
returns-in_default-linked-clause-used c =
    let none = none_listed c.args.table c.loop-listed.index refl c.in_default.ensures.none in
    let nothing = none_made c.loop-listed.linked c.in_default-linked.not-Some in
    let no = ap (λ (x : Option ℕ). counted (is_some x)) nothing in
    let charged : c.args.used + c.count_at-pages.result ≡ cost (spaces_in c.args.self.now.directories c.loop-listed.self-inside.memory) c.args.to = omega (arith, no, c.loop-listed.invariant.used, c.loop-listed.invariant.left, none) in
    charged ∙ ap (λ (l : List (Option ℕ)). cost (spaces_in l c.loop-listed.self-inside.memory) c.args.to) (sym c.loop-listed.invariant.same)

pub returns-in_default-linked-clause-copied : goal.returns-in_default-linked-clause-copied
returns-in_default-linked-clause-copied c from source bytes roles begun =
    copy_passed 1024 (c.loop-listed.invariant.so_far from source bytes roles begun) refl c.loop-listed.invariant.within (omega arith) c.requires.slot c.in_default.ensures.none

pub returns-clause-used : goal.returns-clause-used
returns-clause-used c =
    let none = none_listed c.args.table c.loop-listed.index refl c.in_default.ensures.none in
    let one = ap (λ (x : Option ℕ). counted (is_some x)) c.in-Some-linked.is in
    let charged : c.args.used + c.count_at-pages.result + 1 ≡ cost (spaces_in c.args.self.now.directories c.loop-listed.self-inside.memory) c.args.to = omega (arith, one, c.loop-listed.invariant.used, c.loop-listed.invariant.left, none) in
    charged ∙ ap (λ (l : List (Option ℕ)). cost (spaces_in l c.loop-listed.self-inside.memory) c.args.to) (sym c.loop-listed.invariant.same)

pub returns-clause-copied : goal.returns-clause-copied
returns-clause-copied c from source bytes roles begun =
    copy_passed 1024 (c.loop-listed.invariant.so_far from source bytes roles begun) refl c.loop-listed.invariant.within (omega arith) c.requires.slot c.in_default.ensures.none

pub give_table-made-requires-clause-takes : goal.give_table-made-requires-clause-takes
give_table-made-requires-clause-takes c =
    let q = c.requires.copying in
    let here = c.loop-listed.invariant.so_far q.from q.source q.bytes q.roles q.begun in
    let up = c.in-Some.ensures.within in
    let found = copy_passed c.in-Some.listed.index here refl up.0 (omega (arith, up.1)) c.requires.slot c.in-Some.ensures.least in
    subst (λ (l : List (Option ℕ)). TakesPage l c.loop-listed.self-inside.memory c.loop-listed.self-inside.frames c.args.to (1024 * c.args.slot + c.in-Some.listed.index)) (sym c.loop-listed.invariant.same) (copy_takes found refl up.1 c.requires.slot c.in-Some.ensures.entry (some_value (directory_of c.args.self.now.directories c.args.to) c.requires.live).1)

pub give_table-made-requires-clause-linked : goal.give_table-made-requires-clause-linked
give_table-made-requires-clause-linked c =
    let up = c.in-Some.ensures.within in
    let there : slot_number (1024 * c.args.slot + c.in-Some.listed.index) ≡ c.args.slot = omega (arith, up.1) in
    c.loop-listed.invariant.linked ∙ ap (λ (l : List (Option ℕ)). table_in (directory_of l) (frame_bytes c.loop-listed.self-inside.memory) c.args.to c.args.slot) (sym c.loop-listed.invariant.same)
    ∙ ap (table_in (directory_of c.loop-listed.self-inside.directories) (frame_bytes c.loop-listed.self-inside.memory) c.args.to) (sym there)

pub copy_frame-frame-requires-clause-frame : goal.copy_frame-frame-requires-clause-frame
copy_frame-frame-requires-clause-frame c =
    let q = c.requires.copying in
    let here = c.loop-listed.invariant.so_far q.from q.source q.bytes q.roles q.begun in
    let up = c.in-Some.ensures.within in
    let found = copy_passed c.in-Some.listed.index here refl up.0 (omega (arith, up.1)) c.requires.slot c.in-Some.ensures.least in
    let got = subst (λ (l : List (Option ℕ)). TableGot l c.loop-listed.self-inside.memory c.loop-listed.self-inside.frames c.args.to (1024 * c.args.slot + c.in-Some.listed.index) c.give_table-made.result c.give_table-made.new.memory c.give_table-made.new.frames) c.loop-listed.invariant.same c.give_table-made.ensures in
    got_lies c.args.self.now.directories c.loop-listed.self-inside.memory c.loop-listed.self-inside.frames c.args.to (1024 * c.args.slot + c.in-Some.listed.index) c.give_table-made.result c.give_table-made.new.memory c.give_table-made.new.frames (copy_takes found refl up.1 c.requires.slot c.in-Some.ensures.entry (some_value (directory_of c.args.self.now.directories c.args.to) c.requires.live).1) got c.in-Some.listed.entry.frame (copy_lies found refl up.1 c.requires.slot c.in-Some.ensures.entry)

pub copy_frame-frame-requires-clause-free : goal.copy_frame-frame-requires-clause-free
copy_frame-frame-requires-clause-free c =
    let q = c.requires.copying in
    let here = c.loop-listed.invariant.so_far q.from q.source q.bytes q.roles q.begun in
    let up = c.in-Some.ensures.within in
    let found = copy_passed c.in-Some.listed.index here refl up.0 (omega (arith, up.1)) c.requires.slot c.in-Some.ensures.least in
    let got = subst (λ (l : List (Option ℕ)). TableGot l c.loop-listed.self-inside.memory c.loop-listed.self-inside.frames c.args.to (1024 * c.args.slot + c.in-Some.listed.index) c.give_table-made.result c.give_table-made.new.memory c.give_table-made.new.frames) c.loop-listed.invariant.same c.give_table-made.ensures in
    got_free c.args.self.now.directories c.loop-listed.self-inside.memory c.loop-listed.self-inside.frames c.args.to (1024 * c.args.slot + c.in-Some.listed.index) c.give_table-made.result c.give_table-made.new.memory c.give_table-made.new.frames (copy_takes found refl up.1 c.requires.slot c.in-Some.ensures.entry (some_value (directory_of c.args.self.now.directories c.args.to) c.requires.live).1) got

pub put_copy-requires-clause-inside : goal.put_copy-requires-clause-inside
put_copy-requires-clause-inside c =
    let q = c.requires.copying in
    let here = c.loop-listed.invariant.so_far q.from q.source q.bytes q.roles q.begun in
    let up = c.in-Some.ensures.within in
    let found = copy_passed c.in-Some.listed.index here refl up.0 (omega (arith, up.1)) c.requires.slot c.in-Some.ensures.least in
    let got = subst (λ (l : List (Option ℕ)). TableGot l c.loop-listed.self-inside.memory c.loop-listed.self-inside.frames c.args.to (1024 * c.args.slot + c.in-Some.listed.index) c.give_table-made.result c.give_table-made.new.memory c.give_table-made.new.frames) c.loop-listed.invariant.same c.give_table-made.ensures in
    got_inside c.args.self.now.directories c.loop-listed.self-inside.memory c.loop-listed.self-inside.frames c.args.to (1024 * c.args.slot + c.in-Some.listed.index) c.give_table-made.result c.give_table-made.new.memory c.give_table-made.new.frames (copy_takes found refl up.1 c.requires.slot c.in-Some.ensures.entry (some_value (directory_of c.args.self.now.directories c.args.to) c.requires.live).1) got c.copy_frame-frame.new.memory c.copy_frame-frame.ensures.length

pub loop-listed-preserved : goal.loop-listed-preserved
loop-listed-preserved c =
    let up = c.in-Some.ensures.within in
    let there : slot_number (1024 * c.args.slot + c.in-Some.listed.index) ≡ c.args.slot = omega (arith, up.1) in
    let got = subst (λ (l : List (Option ℕ)). TableGot l c.loop-listed.self-inside.memory c.loop-listed.self-inside.frames c.args.to (1024 * c.args.slot + c.in-Some.listed.index) c.give_table-made.result c.give_table-made.new.memory c.give_table-made.new.frames) c.loop-listed.invariant.same c.give_table-made.ensures in
    let passed : (from source : ℕ) (bytes : List ℕ) (roles : List Role) → CopyIn c.args.self.now.directories from source c.args.to c.args.slot c.args.table 0 bytes roles c.args.self.now.bytes c.args.self.now.roles → CopyIn c.args.self.now.directories from source c.args.to c.args.slot c.args.table c.in-Some.listed.index bytes roles c.loop-listed.self-inside.memory c.loop-listed.self-inside.frames =
    λ from source bytes roles begun. copy_passed c.in-Some.listed.index (c.loop-listed.invariant.so_far from source bytes roles begun) refl up.0 (omega (arith, up.1)) c.requires.slot c.in-Some.ensures.least in
    let copied : (from source : ℕ) (bytes : List ℕ) (roles : List Role) → CopyIn c.args.self.now.directories from source c.args.to c.args.slot c.args.table 0 bytes roles c.args.self.now.bytes c.args.self.now.roles → CopyMade c.args.self.now.directories from c.args.to (1024 * c.args.slot + c.in-Some.listed.index) c.give_table-made.result c.loop-listed.self-inside.memory c.loop-listed.self-inside.frames c.put_copy.new.memory c.copy_frame-frame.new.frames =
    λ from source bytes roles begun.
    let found = passed from source bytes roles begun in
    copy_made c.args.self.now.directories c.loop-listed.self-inside.memory c.loop-listed.self-inside.frames c.args.to (1024 * c.args.slot + c.in-Some.listed.index) c.give_table-made.result c.give_table-made.new.memory c.give_table-made.new.frames (copy_takes found refl up.1 c.requires.slot c.in-Some.ensures.entry (some_value (directory_of c.args.self.now.directories c.args.to) c.requires.live).1) got from source c.in-Some.listed.entry (copied_entry c.in-Some.listed.entry c.copy_frame-frame.result) c.copy_frame-frame.new.memory c.put_copy.new.memory c.copy_frame-frame.new.frames found.home (copy_entry found refl up.1 c.requires.slot c.in-Some.ensures.entry) (copy_unmapped found refl up.1 c.requires.slot c.in-Some.ensures.entry) c.copy_frame-frame.ensures.copied
    (c.put_copy.ensures.frames c.in-Some.listed.entry (c.in-Some.ensures.word ∙ copy_word found refl up.1 c.requires.slot c.in-Some.ensures.entry)) c.put_copy.ensures.length in
    let so_far : (from source : ℕ) (bytes : List ℕ) (roles : List Role) → CopyIn c.args.self.now.directories from source c.args.to c.args.slot c.args.table 0 bytes roles c.args.self.now.bytes c.args.self.now.roles → CopyIn c.args.self.now.directories from source c.args.to c.args.slot c.args.table (c.in-Some.listed.index + 1) bytes roles c.put_copy.new.memory c.copy_frame-frame.new.frames =
    λ from source bytes roles begun. let found = passed from source bytes roles begun in copy_stepped found refl up.1 c.requires.slot c.in-Some.ensures.entry (some_value (directory_of c.args.self.now.directories c.args.to) c.requires.live).1 (copied from source bytes roles begun).whole in
    let q = c.requires.copying in
    let found = passed q.from q.source q.bytes q.roles q.begun in
    let made = copied q.from q.source q.bytes q.roles q.begun in
    let kept = words_kept found refl up.1 c.requires.slot c.in-Some.ensures.entry made.whole (so_far q.from q.source q.bytes q.roles q.begun) in
    let linked : Some c.give_table-made.result ≡ table_in (directory_of c.args.self.now.directories) (frame_bytes c.put_copy.new.memory) c.args.to c.args.slot = sym made.table ∙ ap (table_in (directory_of c.args.self.now.directories) (frame_bytes c.put_copy.new.memory) c.args.to) there in
    let same_table : (u : ℕ) → c.loop-listed.linked ≡ Some u → u ≡ c.give_table-made.result = λ u is.
    let e : Some u ≡ Some c.give_table-made.result = sym (made.whole.tables c.args.to c.args.slot u (sym c.loop-listed.invariant.linked ∙ is)) ∙ sym linked in cc in
    let more = copy_mapped found refl up.1 c.requires.slot c.in-Some.ensures.entry made.whole in
    record {
      so_far = so_far;
      same = c.loop-listed.invariant.same;
      linked = linked;
      left = omega (arith, c.in-Some.ensures.left, kept);
      used =
          (let linked = c.loop-listed.invariant.linked ∙ ap (table_in (directory_of c.args.self.now.directories) (frame_bytes c.loop-listed.self-inside.memory) c.args.to) (sym there) in
          let need = copy_need found refl up.1 c.requires.slot c.in-Some.ensures.entry c.loop-listed.linked (some_value (directory_of c.args.self.now.directories c.args.to) c.requires.live).1 linked in
          let cost = copy_cost found refl up.1 c.requires.slot c.in-Some.ensures.entry made.whole in
          grind (arith, need, cost, c.loop-listed.invariant.used, c.in-Some.ensures.left));
      within = omega (arith, up.1);
      counted = subst (IsCounted (spaces_in c.args.self.now.directories c.put_copy.new.memory) c.copy_frame-frame.new.frames) (ap (λ s. slice_set (count_made c.loop-listed.self-inside.counts.items c.loop-listed.linked (region_pages (spaces_in c.args.self.now.directories c.loop-listed.self-inside.memory) c.args.to c.args.slot)) c.give_table-made.result (region_pages (spaces_in c.args.self.now.directories c.put_copy.new.memory) c.args.to s)) there
          ∙ count_step c.loop-listed.self-inside.counts.items c.loop-listed.linked c.give_table-made.result (region_pages (spaces_in c.args.self.now.directories c.loop-listed.self-inside.memory) c.args.to c.args.slot) (region_pages (spaces_in c.args.self.now.directories c.put_copy.new.memory) c.args.to c.args.slot) same_table) (made.counted (count_made c.loop-listed.self-inside.counts.items c.loop-listed.linked (region_pages (spaces_in c.args.self.now.directories c.loop-listed.self-inside.memory) c.args.to c.args.slot)) c.loop-listed.invariant.counted);
      mapped = omega (arith, more, c.loop-listed.invariant.mapped, c.in-Some.ensures.left);
    }

pub copy_frame-frame-requires-clause-size : goal.copy_frame-frame-requires-clause-size
copy_frame-frame-requires-clause-size c =
    let q = c.requires.copying in
    let here = c.loop-listed.invariant.so_far q.from q.source q.bytes q.roles q.begun in
    let up = c.in-Some.ensures.within in
    let found = copy_passed c.in-Some.listed.index here refl up.0 (omega (arith, up.1)) c.requires.slot c.in-Some.ensures.least in
    let got = subst (λ (l : List (Option ℕ)). TableGot l c.loop-listed.self-inside.memory c.loop-listed.self-inside.frames c.args.to (1024 * c.args.slot + c.in-Some.listed.index) c.give_table-made.result c.give_table-made.new.memory c.give_table-made.new.frames) c.loop-listed.invariant.same c.give_table-made.ensures in
    (got_sound c.args.self.now.directories c.loop-listed.self-inside.memory c.loop-listed.self-inside.frames c.args.to (1024 * c.args.slot + c.in-Some.listed.index) c.give_table-made.result c.give_table-made.new.memory c.give_table-made.new.frames (copy_takes found refl up.1 c.requires.slot c.in-Some.ensures.entry (some_value (directory_of c.args.self.now.directories c.args.to) c.requires.live).1) got).size

pub copy_frame-frame-requires-clause-few : goal.copy_frame-frame-requires-clause-few
copy_frame-frame-requires-clause-few c =
    let q = c.requires.copying in
    let here = c.loop-listed.invariant.so_far q.from q.source q.bytes q.roles q.begun in
    let up = c.in-Some.ensures.within in
    let found = copy_passed c.in-Some.listed.index here refl up.0 (omega (arith, up.1)) c.requires.slot c.in-Some.ensures.least in
    let got = subst (λ (l : List (Option ℕ)). TableGot l c.loop-listed.self-inside.memory c.loop-listed.self-inside.frames c.args.to (1024 * c.args.slot + c.in-Some.listed.index) c.give_table-made.result c.give_table-made.new.memory c.give_table-made.new.frames) c.loop-listed.invariant.same c.give_table-made.ensures in
    (got_sound c.args.self.now.directories c.loop-listed.self-inside.memory c.loop-listed.self-inside.frames c.args.to (1024 * c.args.slot + c.in-Some.listed.index) c.give_table-made.result c.give_table-made.new.memory c.give_table-made.new.frames (copy_takes found refl up.1 c.requires.slot c.in-Some.ensures.entry (some_value (directory_of c.args.self.now.directories c.args.to) c.requires.live).1) got).few
