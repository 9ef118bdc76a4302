use Rattle.std.proofs.Common.{◌≡◌, ◌+◌, ◌*◌, ◌≤◌, length, Some, None, refl, sym, ap, ◌∙◌, arith}
use Rattle.std.specs.Prelude.{slice_set}
use Rattle.std.specs.List.{splice}
use Rattle.phys_memory.proofs.Words.{length-splice}
use Rattle.shadow_tables.specs.Tables.{way}
use Rattle.shadow_tables.proofs.LongWordLemmas.{written_over}
use Rattle.shadow_tables.proofs.TableLemmas.{cleared}
use Rattle.shadow_tables.proofs.RootLemmas.{rooting_step}
use Rattle.shadow_tables.proofs.tables.Tables.root_for.Goals as goal

pub returns : goal.returns
returns c =
    let t = c.args.self.now in
    let u = c.fresh.new.self in
    let p = c.args.pid in
    let frame = c.in_ok-frame.frame in
    let are = c.requires.stands.1 in
    let fresh = c.in_ok-frame.ensures.fresh in
    let none : way t p 0 0 ≡ None = sym c.in_default.ensures.root in
    let room : 4096 * frame + 4096 ≤ length u.bytes.items = omega (arith, fresh.taken.inside, are.blocks.bytes, fresh.blocks.length) in
    let half : length u.kernel.items ≡ 2048 = ap (λ v. length v.items) fresh.blocks.kernel ∙ are.blocks.kernel in
    let end : 4096 * frame + 2048 + 2048 ≡ 4096 * frame + 4096 = omega arith in
    let bytes : c.put.new.bytes ≡ splice u.bytes.items (4096 * frame + 2048) (4096 * frame + 4096) u.kernel.items =
    c.put.ensures ∙ ap (λ xs. splice xs (4096 * frame + 2048) (4096 * frame + 2048 + 2048) c.deref.result.now) c.deref_mut.ensures.value
    ∙ ap (λ e. splice u.bytes.items (4096 * frame + 2048) e c.deref.result.now) end
    ∙ ap (splice u.bytes.items (4096 * frame + 2048) (4096 * frame + 4096)) c.deref.ensures.value in
    let size : length c.put.new.bytes ≡ length u.bytes.items = ap length bytes ∙ length-splice u.bytes.items u.kernel.items (4096 * frame + 2048) (4096 * frame + 4096) (omega arith) room (omega (arith, half)) in
    let over = written_over u.bytes.items c.put.new.bytes u.bytes.len u.bytes.ok.0 size in
    record {
      step = λ page user. rooting_step c.requires.stands.0 t u _ p frame (record {
        are = are;
        process = c.fresh.ensures.process;
        missing = none;
        fresh = fresh;
        clear = cleared t u frame are.blocks fresh.blocks fresh.taken.inside fresh.bytes;
        same = record { pool = refl; block = refl; kernel = refl; length = ap length over ∙ size; frames = refl };
        holdings = refl;
        bytes = over ∙ bytes;
        roots = ap (λ p. slice_set u.roots p (Some frame)) c.number.ensures.value;
      }) page user;
    }
