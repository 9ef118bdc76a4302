use Rattle.std.proofs.Common.{false, sym, ap, subst}
use Rattle.std.specs.Prelude.{◌&&◌}
use Rattle.page_words.specs.Addresses.{page_number}
use Rattle.address_space.specs.Spaces.{slot_at}
use Rattle.process_table.specs.Image.{memory_of}
use Rattle.kernel_calls.specs.Cleaned.{is_dirty_at}
use Rattle.kernel_calls.specs.Translations.{IsGiven}
use Rattle.shadow_tables.specs.declared.tables.Translation.{Translation}
use Rattle.shadow_core.specs.Paired.{kept_at}
use Rattle.shadow_core.proofs.Pairing.{given_there, read_walk, reads_too}
use Rattle.shadow_core.proofs.pairs.translation_of.Goals as goal

pub returns-in-Some-clause-given : goal.returns-in-Some-clause-given
returns-in-Some-clause-given c =
    let v = c.args.core.now in
    let p = c.args.pid in
    let address = c.args.address in
    let walk = c.in-Some.ensures.walk in
    let dirty = is_dirty_at v.state (slot_at p address) in
    let t : Translation = record { frame = c.in-Some.frame; write = dirty } in
    subst (λ (t : Translation). IsGiven v (kept_at p (page_number address) t)) (sym c.writable.ensures)
    (given_there v p address walk.0 t c.stands.ensures.walks c.requires.user (reads_too (memory_of v) p address c.args.by c.requires.finds) c.requires.marked.accessed
    (read_walk v p walk.0 address c.in-Some.frame walk.1) (ap (λ b. b && dirty) c.in-Some.ensures.finds))

pub returns-clause-given : goal.returns-clause-given
returns-clause-given c =
    let v = c.args.core.now in
    let p = c.args.pid in
    let address = c.args.address in
    let walk = c.in-Some-found_by.ensures.walk in
    let dirty = is_dirty_at v.state (slot_at p address) in
    let t : Translation = record { frame = c.in-Some-found_by.frame; write = false } in
    given_there v p address walk.0 t c.stands.ensures.walks c.requires.user (reads_too (memory_of v) p address c.args.by c.requires.finds) c.requires.marked.accessed
    walk.1 (ap (λ b. b && dirty) c.in_default.ensures.finds)
