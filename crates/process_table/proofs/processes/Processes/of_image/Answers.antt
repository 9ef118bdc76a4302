use Rattle.process_table.proofs.Prelude.{◌≡◌, sym, subst, StandsFor, image_in, some_of}
use Rattle.process_table.proofs.Restored.{agree, room, parts_whole, state, state_stands}
use Rattle.process_table.proofs.processes.Processes.of_image.Goals as goal

pub of_image-requires-clause-room : goal.of_image-requires-clause-room
of_image-requires-clause-room c = room c.args.directories c.args.accounts.now c.args.bytes.items c.args.roles.items c.have_places.ensures (some_of _ c.requires.fewest) c.requires.most c.requires.small c.requires.root c.requires.sound

pub of_accounts-requires : goal.of_accounts-requires
of_accounts-requires c = agree c.args.directories c.args.accounts.now c.args.bytes.items c.args.roles.items c.have_places.ensures (some_of _ c.requires.fewest) c.requires.most c.requires.small c.requires.root c.requires.sound

pub invariant_of-result : goal.invariant_of-result
invariant_of-result c =
    parts_whole c.args.directories c.args.accounts.now c.args.bytes.items c.args.roles.items c.have_places.ensures (some_of _ c.requires.fewest) c.requires.most c.requires.small c.requires.root c.requires.sound
    c.in_ok-spaces.spaces c.of_accounts.result c.new.result c.in_ok-spaces.ensures.view c.of_accounts.ensures c.new.ensures

pub returns-clause-stands : goal.returns-clause-stands
returns-clause-stands c =
    let same : state c.args.directories c.args.accounts.now c.args.bytes.items c.args.roles.items c.have_places.ensures (some_of _ c.requires.fewest) c.requires.most c.requires.small c.requires.root c.requires.sound
    ≡ record { spaces = c.in_ok-spaces.spaces.spaces; book = c.of_accounts.result.book; offers = c.new.result } =
    sym (λ i. record { spaces = (c.in_ok-spaces.ensures.view i).spaces; book = (c.of_accounts.ensures i).book; offers = c.new.ensures i }) in
    subst (StandsFor (image_in c.args.directories c.args.accounts.now c.args.bytes.items c.args.roles.items)) same
    (state_stands c.args.directories c.args.accounts.now c.args.bytes.items c.args.roles.items c.have_places.ensures (some_of _ c.requires.fewest) c.requires.most c.requires.small c.requires.root c.requires.sound)
