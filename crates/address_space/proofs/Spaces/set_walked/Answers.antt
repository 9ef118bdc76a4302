use Rattle.address_space.proofs.Prelude.{arith, refl, Directory, none_goes}
use Rattle.address_space.proofs.Lemmas.{spaces_at, inside, kept_touched, frames_stay}
use Rattle.address_space.proofs.steps.DirWords.{dir_word_walked}
use Rattle.address_space.proofs.Spaces.set_walked.Goals as goal

pub set_word_walked-requires-clause-inside : goal.set_word_walked-requires-clause-inside
set_word_walked-requires-clause-inside c =
    (inside c.self.inside.directories c.self.inside.memory c.self.inside.frames c.home-directory.result (Directory c.args.pid) c.self.invariant.spaces.sound (c.self.invariant.spaces.sound.tables.directory c.args.pid c.home-directory.result c.home-directory.ensures)).fits

pub returns-clause-spaces : goal.returns-clause-spaces
returns-clause-spaces c =
    rw (← c.self.view_is)
    ((dir_word_walked c.self.inside.directories c.self.inside.memory c.set_word_walked.new.memory c.self.inside.frames c.args.pid c.home-directory.result c.args.page c.args.walked c.self.invariant.spaces.sound c.home-directory.ensures c.requires.user.1 c.set_word_walked.ensures.bytes c.set_word_walked.ensures.length).spaces)

pub returns-clause-bytes : goal.returns-clause-bytes
returns-clause-bytes c = grind (arith, c.home-directory.ensures, c.set_word_walked.ensures.bytes)

pub invariant_of-self : goal.invariant_of-self
invariant_of-self c =
    kept_touched c.self.inside.directories c.self.inside.memory c.set_word_walked.new.memory c.self.inside.frames c.self.inside.counts.items (spaces_at c.self.inside) c.self.invariant
    (dir_word_walked c.self.inside.directories c.self.inside.memory c.set_word_walked.new.memory c.self.inside.frames c.args.pid c.home-directory.result c.args.page c.args.walked c.self.invariant.spaces.sound c.home-directory.ensures c.requires.user.1 c.set_word_walked.ensures.bytes c.set_word_walked.ensures.length) (λ q. refl)

pub returns-clause-stay : goal.returns-clause-stay
returns-clause-stay c =
    rw (← c.self.view_is)
    (let touched = dir_word_walked c.self.inside.directories c.self.inside.memory c.set_word_walked.new.memory c.self.inside.frames c.args.pid c.home-directory.result c.args.page c.args.walked c.self.invariant.spaces.sound c.home-directory.ensures c.requires.user.1 c.set_word_walked.ensures.bytes c.set_word_walked.ensures.length in
    frames_stay none_goes c.self.inside.directories c.self.inside.memory c.set_word_walked.new.memory c.self.inside.frames c.self.inside.frames c.self.invariant.spaces.sound touched.sound touched.stay)
