use Rattle.address_space.proofs.Prelude.{◌≡◌, ℕ, length, List, map, sym, ◌∙◌, subst, range_with_len, counted_at, Role, StandsFor, image_from, AreCountedSpaces, spaces_in}
use Rattle.address_space.proofs.standing.Restored.{kept, stands, words_counted, some_of}
use Rattle.address_space.proofs.Spaces.of_image.Goals as goal

pub of_roles-requires-clause-held : goal.of_roles-requires-clause-held
of_roles-requires-clause-held c = λ frame count is. (c.requires.sound.counts frame count is).0

pub invariant_of-result : goal.invariant_of-result
invariant_of-result c =
    let pids : length c.args.directories ≡ 64 = c.have_places.ensures in
    subst (λ (bytes : List ℕ). AreCountedSpaces c.args.directories bytes c.in_ok-frames.frames c.in-Some.counts.items) (sym c.of_bytes-memory.ensures)
    (subst (λ (roles : List Role). AreCountedSpaces c.args.directories c.args.bytes.items roles c.in-Some.counts.items) (sym c.in_ok-frames.ensures.roles)
    (record {
      spaces = kept c.args.directories c.args.bytes.items c.args.roles.items pids (some_of _ c.requires.fewest) c.requires.most c.requires.sound c.requires.room;
      counted = words_counted c.args.directories c.args.bytes.items c.args.roles.items pids (some_of _ c.requires.fewest) c.requires.most c.requires.sound c.in-Some.counts.items (c.in-Some.ensures ∙ (λ i. map (counted_at (c.of_bytes-memory.ensures i) (c.as_slice.ensures.value i)) (range_with_len 0 (length (c.as_slice.ensures.value i)))));
    }))

pub returns-clause-stands : goal.returns-clause-stands
returns-clause-stands c =
    let pids : length c.args.directories ≡ 64 = c.have_places.ensures in
    subst (λ (bytes : List ℕ). StandsFor (image_from c.args.directories c.args.bytes.items c.args.roles.items) (spaces_in c.args.directories bytes)) (sym c.of_bytes-memory.ensures)
    (stands c.args.directories c.args.bytes.items c.args.roles.items pids (some_of _ c.requires.fewest) c.requires.most c.requires.sound)
