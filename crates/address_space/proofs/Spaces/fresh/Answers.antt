use Rattle.address_space.proofs.Prelude.{◌<◌, refl, sym, subst, Some, arith, slice_set, Free, Directory, SpaceAdded, spaces_in}
use Rattle.address_space.proofs.Lemmas.{frames_stay_by, same_lazy, counts_kept, alike_taken, space_added, room_for_directory, inside, zeroed}
use Rattle.address_space.proofs.Spaces.fresh.Goals as goal

pub take-directory-requires-clause-free : goal.take-directory-requires-clause-free
take-directory-requires-clause-free c = grind (arith, room_for_directory, c.self.invariant.spaces, c.requires.room)

pub zero_frame-requires : goal.zero_frame-requires
zero_frame-requires c = grind (arith, inside, c.self.invariant.spaces.sound, c.take-directory.ensures.was_free)

-- what is left, with the blank directory
added : (c : goal.After-index-self-number) → SpaceAdded c.self.inside.directories c.args.pid c.self.inside.memory c.self.inside.frames (slice_set c.self.inside.directories c.number.result (Some c.take-directory.result)) c.zero_frame.new.self c.take-directory.new.frames
added c =
    let at = inside c.self.inside.directories c.self.inside.memory c.self.inside.frames c.take-directory.result Free c.self.invariant.spaces.sound c.take-directory.ensures.was_free in
    subst (λ k. SpaceAdded c.self.inside.directories c.args.pid c.self.inside.memory c.self.inside.frames (slice_set c.self.inside.directories k (Some c.take-directory.result)) c.zero_frame.new.self c.take-directory.new.frames) (sym c.number.ensures.value)
    (space_added c.self.inside.directories c.self.inside.memory c.zero_frame.new.self c.self.inside.frames c.take-directory.new.frames c.args.pid c.take-directory.result
    c.self.invariant.spaces (subst (λ k. k < 64) c.number.ensures.value c.number.ensures.bound) (rw (← c.self.view_is) at c.requires.none) (rw (← c.self.view_is) at c.requires.room) c.take-directory.ensures
    (zeroed c.self.inside.memory c.zero_frame.new.self c.take-directory.result at c.zero_frame.ensures.bytes) c.zero_frame.ensures.length)

pub invariant_of-self : goal.invariant_of-self
invariant_of-self c =
    let after = slice_set c.self.inside.directories c.number.result (Some c.take-directory.result) in
    let S = spaces_in c.self.inside.directories c.self.inside.memory in
    record {
      spaces = (added c).after;
      counted = counts_kept S (spaces_in after c.zero_frame.new.self) c.self.inside.frames c.take-directory.new.frames
          (added c).spaces (alike_taken S c.self.inside.frames c.take-directory.new.frames c.take-directory.result (Directory c.args.pid) c.take-directory.ensures refl)
          c.self.inside.counts.items c.self.invariant.counted;
    }

pub returns : goal.returns
returns c = grind (arith, added, same_lazy, frames_stay_by, c.self.invariant.spaces.sound, c.requires.none)
