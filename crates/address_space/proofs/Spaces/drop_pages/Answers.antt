use Rattle.address_space.proofs.Prelude.{◌≡◌, ◌+◌, ◌*◌, ◌∙◌, ℕ, List, Option, Some, ap, sym, subst, arith, frame_bytes, table_of, View, directory_of, cost, DroppedBelow}
use Rattle.address_space.proofs.Lemmas.{page_map_of, dropped_at_first, dropped_at_last}
use Rattle.address_space.proofs.steps.RegionDrops.{all_passed, regions_passed}
use Rattle.address_space.proofs.Spaces.drop_pages.Goals as goal

pub loop-region-init : goal.loop-region-init
loop-region-init c = record { so_far = subst (λ (v : View). DroppedBelow v c.args.pid 0x40000 v) c.self.view_is (dropped_at_first c.self.inside c.args.pid c.self.invariant); used = c.requires.used }

pub region_left-requires : goal.region_left-requires
region_left-requires c =
    let live : directory_of c.self-in-loop-region.inside.directories c.args.pid ≡ Some c.args.directory = ap (λ (v : View). directory_of v.directories c.args.pid) c.self-in-loop-region.view_is ∙ ap (λ (l : List (Option ℕ)). directory_of l c.args.pid) c.loop-region.invariant.so_far.directories ∙ c.requires.home in
    page_map_of c.self-in-loop-region.inside.directories c.self-in-loop-region.inside.memory c.self-in-loop-region.inside.frames c.args.pid c.args.directory c.self-in-loop-region.invariant.spaces.sound live

pub drop_region-used-requires-clause-home : goal.drop_region-used-requires-clause-home
drop_region-used-requires-clause-home c = ap (λ (l : List (Option ℕ)). directory_of l c.args.pid) c.loop-region.invariant.so_far.directories ∙ c.requires.home

pub drop_region-used-requires-clause-table : goal.drop_region-used-requires-clause-table
drop_region-used-requires-clause-table c =
    subst (λ (v : View). table_of (frame_bytes v.bytes) c.args.directory c.in-Some.region.slot ≡ Some c.in-Some.region.table) c.self-in-loop-region.view_is c.in-Some.ensures.table

pub drop_region-used-requires-clause-low : goal.drop_region-used-requires-clause-low
drop_region-used-requires-clause-low c = let low = c.loop-region.invariant.so_far.low in let up = c.in-Some.ensures.within in omega (arith, low, up.0)

pub drop_region-used-requires-clause-used : goal.drop_region-used-requires-clause-used
drop_region-used-requires-clause-used c = c.loop-region.invariant.used

pub loop-region-preserved : goal.loop-region-preserved
loop-region-preserved c =
    let live : directory_of c.self-in-loop-region.inside.directories c.args.pid ≡ Some c.args.directory = ap (λ (v : View). directory_of v.directories c.args.pid) c.self-in-loop-region.view_is ∙ ap (λ (l : List (Option ℕ)). directory_of l c.args.pid) c.loop-region.invariant.so_far.directories ∙ c.requires.home in
    let here = subst (λ (v : View). DroppedBelow c.args.self.now c.args.pid (1024 * c.loop-region.first) v) (sym c.self-in-loop-region.view_is) c.loop-region.invariant.so_far in
    let up = c.in-Some.ensures.within in
    let passed = regions_passed c.self-in-loop-region.inside c.in-Some.region.slot here live up.0 (omega (arith, up.1)) c.in-Some.ensures.least in
    let next : 1024 * c.in-Some.region.slot + 1024 ≡ 1024 * (c.in-Some.region.slot + 1) = omega arith in
    record {
      so_far = subst (λ n. DroppedBelow c.args.self.now c.args.pid n c.drop_region-used.new.self) next
          (c.drop_region-used.ensures.dropped c.args.self.now (subst (λ (v : View). DroppedBelow c.args.self.now c.args.pid (1024 * c.in-Some.region.slot) v) c.self-in-loop-region.view_is passed));
      used = c.drop_region-used.ensures.used;
    }

pub returns-clause-spaces : goal.returns-clause-spaces
returns-clause-spaces c =
    let live : directory_of c.self-in-loop-region.inside.directories c.args.pid ≡ Some c.args.directory = ap (λ (v : View). directory_of v.directories c.args.pid) c.self-in-loop-region.view_is ∙ ap (λ (l : List (Option ℕ)). directory_of l c.args.pid) c.loop-region.invariant.so_far.directories ∙ c.requires.home in
    let here = subst (λ (v : View). DroppedBelow c.args.self.now c.args.pid (1024 * c.loop-region.first) v) (sym c.self-in-loop-region.view_is) c.loop-region.invariant.so_far in
    let used = c.loop-region.invariant.used ∙ ap (λ (v : View). cost v.spaces c.args.pid) (sym c.self-in-loop-region.view_is) in
    rw (← c.self-in-loop-region.view_is)
    (dropped_at_last c.args.self.now c.self-in-loop-region.inside c.args.pid c.self-in-loop-region.invariant (all_passed c.self-in-loop-region.inside here live used c.saturating_sub.ensures c.in_default.ensures.none)).spaces

pub returns-clause-empty : goal.returns-clause-empty
returns-clause-empty c =
    let live : directory_of c.self-in-loop-region.inside.directories c.args.pid ≡ Some c.args.directory = ap (λ (v : View). directory_of v.directories c.args.pid) c.self-in-loop-region.view_is ∙ ap (λ (l : List (Option ℕ)). directory_of l c.args.pid) c.loop-region.invariant.so_far.directories ∙ c.requires.home in
    let here = subst (λ (v : View). DroppedBelow c.args.self.now c.args.pid (1024 * c.loop-region.first) v) (sym c.self-in-loop-region.view_is) c.loop-region.invariant.so_far in
    let used = c.loop-region.invariant.used ∙ ap (λ (v : View). cost v.spaces c.args.pid) (sym c.self-in-loop-region.view_is) in
    rw (← c.self-in-loop-region.view_is)
    (dropped_at_last c.args.self.now c.self-in-loop-region.inside c.args.pid c.self-in-loop-region.invariant (all_passed c.self-in-loop-region.inside here live used c.saturating_sub.ensures c.in_default.ensures.none)).empty

pub returns-clause-stay : goal.returns-clause-stay
returns-clause-stay c = c.loop-region.invariant.so_far.stay

pub returns-clause-loose : goal.returns-clause-loose
returns-clause-loose c = c.loop-region.invariant.so_far.loose
