use Rattle.address_space.proofs.Prelude.{arith, sym, subst, refl, None, slice_set, Directory, DirectoryDropped, spaces_in, eq-eqb}
use Rattle.address_space.proofs.Lemmas.{places_more, frames_stay_by, counts_kept, alike_released, directory_removed, loose_released}
use Rattle.address_space.proofs.Spaces.drop_directory.Goals as goal

pub release-requires : goal.release-requires
release-requires c =
    record { role = Directory c.args.pid; is = c.self.invariant.spaces.sound.tables.directory c.args.pid c.args.directory (rw (← c.self.view_is) at c.requires.live); in_use = refl }

dropped : (c : goal.After-index-self-number) → DirectoryDropped c.self.inside.directories c.args.pid c.self.inside.memory c.self.inside.frames (slice_set c.self.inside.directories c.number.result None) c.release.new.self
dropped c =
    subst (λ k. DirectoryDropped c.self.inside.directories c.args.pid c.self.inside.memory c.self.inside.frames (slice_set c.self.inside.directories k None) c.release.new.self) (sym c.number.ensures.value)
    (directory_removed c.self.inside.directories c.self.inside.memory c.self.inside.frames c.release.new.self c.args.pid c.args.directory c.self.invariant.spaces (rw (← c.self.view_is) at c.requires.live) (rw (← c.self.view_is) at c.requires.empty) c.release.ensures.role)

pub returns : goal.returns
returns c = record {
  spaces = rw (← c.self.view_is) ((dropped c).spaces);
  none = (dropped c).none;
  others = rw (← c.self.view_is) ((dropped c).others);
  frames = rw (← c.self.view_is) ((dropped c).length);
  stay = grind (arith, frames_stay_by, dropped, eq-eqb, places_more, c.self.invariant.spaces.sound);
  loose = rw (← c.self.view_is)
      (loose_released c.self.inside.directories (slice_set c.self.inside.directories c.number.result None) c.self.inside.memory c.self.inside.frames c.release.new.self c.args.directory c.release.ensures.role);
}

pub invariant_of-self : goal.invariant_of-self
invariant_of-self c =
    let S = spaces_in c.self.inside.directories c.self.inside.memory in
    record {
      spaces = (dropped c).after;
      counted = counts_kept S (spaces_in (slice_set c.self.inside.directories c.number.result None) c.self.inside.memory) c.self.inside.frames c.release.new.self (dropped c).spaces
          (alike_released S c.self.inside.frames c.release.new.self c.args.directory (Directory c.args.pid) c.release.ensures.role
          (c.self.invariant.spaces.sound.tables.directory c.args.pid c.args.directory (rw (← c.self.view_is) at c.requires.live)) refl)
          c.self.inside.counts.items c.self.invariant.counted;
    }
