use Rattle.address_space.proofs.Prelude.{◌≡◌, ℕ, ◌+◌, ◌≤◌, subst, arith, refl, true, length, is_some, View, total_cost, directory_of, entries_in, spaces_in, lazy_count, holders_of, frame_bytes, cost, WalksAgree, in-use-and-reserved, LeavesRoom, image_of}
use Rattle.address_space.proofs.Lemmas.{cost_within, image_stands, lazy_slots, places_tell}
use Rattle.address_space.proofs.standing.WaysStand.{walks_agree, ways_agree}
use Rattle.address_space.proofs.Spaces.stands.Goals as goal

pub returns : goal.returns
returns c = record {
  image = grind (arith, image_stands, c.self.invariant.spaces);
  costs = subst (λ (v : View). 1 + total_cost v.directories v.spaces ≤ length v.roles) c.self.view_is c.self.invariant.spaces.within;
  each =
      subst (λ (v : View). (p : ℕ) → is_some (directory_of v.directories p) ≡ true → 1 + cost v.spaces p ≤ length v.roles) c.self.view_is
      (λ p live. let a = cost_within c.self.inside.directories (spaces_in c.self.inside.directories c.self.inside.memory) p c.self.invariant.spaces.sound.pids live in let b = c.self.invariant.spaces.within in omega (arith, a, b));
  few = subst (λ (v : View). length v.roles ≤ 1048576) c.self.view_is c.self.invariant.spaces.sound.few;
  pids = subst (λ (v : View). length v.directories ≡ 64) c.self.view_is c.self.invariant.spaces.sound.pids;
  walks = subst (λ (v : View). WalksAgree (image_of v) v.spaces) c.self.view_is
      (walks_agree c.self.inside.directories c.self.inside.memory c.self.inside.frames c.self.invariant.spaces);
  used =
      let kept = c.self.invariant.spaces in
      let E = entries_in (directory_of c.self.inside.directories) (frame_bytes c.self.inside.memory) in
      let n = in-use-and-reserved c.self.inside.frames kept.sound.tables.zero_role (λ f count is. (kept.sound.pages.counts f count is).0) in
      let w = kept.weighs in
      subst (λ (v : View). LeavesRoom (image_of v) (total_cost v.directories v.spaces)) c.self.view_is
      (record {
        lazy = lazy_count E;
        counted = record { members = holders_of E 0; are = lazy_slots c.self.inside.directories c.self.inside.memory c.self.inside.frames kept.sound; count = refl };
        fit = omega (arith, n, w);
      });
  ways = grind (arith, ways_agree, c.self.invariant.spaces.sound);
  places = grind (arith, places_tell, c.self.invariant);
}
