use Rattle.std.proofs.Common.{◌≡◌, ℕ, suc, ◌<◌, true, length, Option, None, refl, sym, ap, subst, ◌∙◌, arith}
use Rattle.std.specs.Option.{option_and_then}
use Rattle.shadow_tables.specs.LongWords.{entry_word}
use Rattle.shadow_tables.specs.Shadow.{frame_address}
use Rattle.shadow_tables.specs.Tables.{frames_of, word_of, named_by, index_at, way, AreBlocks, IsStep}
use Rattle.shadow_tables.proofs.WayLemmas.{process_of_way, missing_past, user_lower, way_inside}
use Rattle.shadow_tables.proofs.TableLemmas.{Wrote, wrote, cleared, blocks_stay}
use Rattle.shadow_tables.proofs.StepLemmas.{linking_step, none_left}
use Rattle.shadow_tables.proofs.tables.Tables.table_below.Goals as goal

pub word-requires-clause-inside : goal.word-requires-clause-inside
word-requires-clause-inside c = way_inside c.args.self.now c.args.pid c.args.page c.args.depth c.args.frame c.requires.stands (user_lower c.args.page c.requires.user) (omega (arith, c.requires.depth)) c.requires.way

pub set_word-requires-clause-inside : goal.set_word-requires-clause-inside
set_word-requires-clause-inside c =
    omega (arith, way_inside c.args.self.now c.args.pid c.args.page c.args.depth c.args.frame c.requires.stands (user_lower c.args.page c.requires.user) (omega (arith, c.requires.depth)) c.requires.way, c.in_ok-below.ensures.fresh.blocks.frames)

pub returns : goal.returns
returns c =
    let t = c.args.self.now in
    let u = c.fresh.new.self in
    let v = c.set_word.new.self in
    let p = c.args.pid in
    let page = c.args.page in
    let d = c.args.depth in
    let table = c.args.frame in
    let frame = c.in_ok-below.below in
    let are = c.requires.stands.1 in
    let fresh = c.in_ok-below.ensures.fresh in
    let blocks : AreBlocks u = blocks_stay t u are.blocks fresh.blocks (ap length fresh.roots ∙ are.blocks.roots) in
    let inside : table < frames_of u = omega (arith, way_inside t p page d table c.requires.stands (user_lower page c.requires.user) (omega (arith, c.requires.depth)) c.requires.way, fresh.blocks.frames) in
    let index : c.index_at-index.result ≡ index_at d page = c.index_at-index.ensures.value in
    let word : c.entry_word-word.result ≡ entry_word (frame_address t.pool frame) true =
    c.entry_word-word.ensures ∙ ap (λ a. entry_word a true) (c.address.ensures.value ∙ ap (λ pool. frame_address pool frame) fresh.blocks.pool) in
    let written : Wrote u v table c.index_at-index.result c.entry_word-word.result =
    wrote u v table c.index_at-index.result c.entry_word-word.result blocks c.set_word.ensures.others.blocks inside c.index_at-index.ensures.bound (omega (arith, c.entry_word-word.type_inv)) c.set_word.ensures.bytes in
    let W : ℕ → Type 0 = λ i. Wrote u v table i c.entry_word-word.result in
    let X : ℕ → Type 0 = λ w. Wrote u v table (index_at d page) w in
    let none : named_by t (word_of t table (index_at d page)) ≡ None =
    ap (λ i. named_by t (word_of t table i)) (sym index) ∙ ap (named_by t) (sym c.word.ensures) ∙ sym c.in_default.ensures.value in
    record {
      step = linking_step c.requires.stands.0 t u v p page d table frame (record {
        are = are;
        process = process_of_way t p page d table are.blocks c.requires.way;
        lower = user_lower page c.requires.user;
        deep = c.requires.depth;
        way_is = c.requires.way;
        missing = none;
        fresh = fresh;
        clear = cleared t u frame are.blocks fresh.blocks fresh.taken.inside fresh.bytes;
        wrote = subst X word (subst W index written);
        same = c.set_word.ensures.others;
      });
    }

pub returns-in_err-below : goal.returns-in_err-below
returns-in_err-below c =
    let t = c.args.self.now in
    let p = c.args.pid in
    let page = c.args.page in
    let d = c.args.depth in
    let table = c.args.frame in
    let kept = c.in_err-below.ensures.kept refl in
    let index : c.index_at-index.result ≡ index_at d page = c.index_at-index.ensures.value in
    let none : named_by t (word_of t table (index_at d page)) ≡ None =
    ap (λ i. named_by t (word_of t table i)) (sym index) ∙ ap (named_by t) (sym c.word.ensures) ∙ sym c.in_default.ensures.value in
    let ends : way t p page (suc d) ≡ None = ap (option_and_then (λ f. named_by t (word_of t f (index_at d page)))) c.requires.way ∙ none in
    let missing = missing_past t p page d table (omega (arith, c.requires.depth)) c.requires.way (λ _. ends) in
    let process = process_of_way t p page d table c.requires.stands.1.blocks c.requires.way in
    let P : Option ℕ → Type 0 = λ found. IsStep t p page (suc d) found c.fresh.new.self in
    record {
      step = subst P (sym c.from_residual.ensures) (subst (λ v. IsStep t p page (suc d) None v) (sym kept) (none_left t p page (suc d) c.requires.stands process (c.in_err-below.ensures.none refl) (omega (arith, missing, c.requires.depth))));
    }
