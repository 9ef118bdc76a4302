use Rattle.std.proofs.Common.{◌≡◌, ℕ, ◌+◌, not, take, ap, subst, refl, ◌∙◌, arith}
use Rattle.std.specs.Prelude.{◌==◌, slice_set}
use Rattle.page_words.specs.FiniteMap as map
use Rattle.shadow_tables.specs.Holdings.{count_of}
use Rattle.shadow_tables.specs.Tables.{translations_in}
use Rattle.shadow_tables.proofs.WayLemmas.{nothing_after, missing_same}
use Rattle.shadow_tables.proofs.SlotLemmas.{translations-forget}
use Rattle.shadow_tables.proofs.ChangeLemmas.{released_tables, forgetting, tables_left, own_gone, others_stay, ways_of_others, taken_front, set_zero}
use Rattle.shadow_tables.proofs.tables.Tables.forget_process.Goals as goal

pub release-requires-clause-held : goal.release-requires-clause-held
release-requires-clause-held c =
    let are = c.requires.stands.1 in
    let root = are.roots c.number-process.result c.in-Some.root c.number-process.ensures.bound c.in-Some.is in
    (c.requires.stands.0, are.held, record { inside = root.inside; owner_is = root.owner; rank_is = root.rank })

pub returns-in-Some-clause-translations : goal.returns-in-Some-clause-translations
returns-in-Some-clause-translations c =
    let t = c.args.self.now in
    let p = c.number-process.result in
    let v = released_tables t c.release.new.self p in
    let left = forgetting c.requires.stands.0 t c.release.new.self p c.in-Some.root c.requires.stands.1 c.number-process.ensures.bound c.in-Some.is c.release.ensures in
    let P : ℕ → Type 0 = λ p. translations_in v ≡ map.retain_keys (translations_in t) (λ slot. not (slot.pid == p)) in
    subst P c.number-process.ensures.value (translations-forget t v p (own_gone c.requires.stands.0 t v p c.in-Some.root left) (others_stay c.requires.stands.0 t v p c.in-Some.root left))

pub returns-in-Some-clause-stands : goal.returns-in-Some-clause-stands
returns-in-Some-clause-stands c =
    let t = c.args.self.now in
    let p = c.number-process.result in
    let gone = forgetting c.requires.stands.0 t c.release.new.self p c.in-Some.root c.requires.stands.1 c.number-process.ensures.bound c.in-Some.is c.release.ensures in
    (_, tables_left c.requires.stands.0 t (released_tables t c.release.new.self p) p c.in-Some.root gone)

pub returns-in-Some-clause-taken : goal.returns-in-Some-clause-taken
returns-in-Some-clause-taken c =
    let h = c.args.self.now.holdings in
    ap (take 64) c.release.ensures.counts
    ∙ taken_front h.counts c.number-process.result (count_of h 64 + count_of h c.number-process.result) c.requires.stands.1.held.counts c.number-process.ensures.bound
    ∙ ap (λ p. slice_set (take 64 h.counts) p 0) c.number-process.ensures.value

pub returns-in_default-clause-translations : goal.returns-in_default-clause-translations
returns-in_default-clause-translations c =
    let t = c.args.self.now in
    let P : ℕ → Type 0 = λ p. translations_in t ≡ map.retain_keys (translations_in t) (λ slot. not (slot.pid == p)) in
    subst P c.number-process.ensures.value
    (translations-forget t t c.number-process.result (λ page. nothing_after t c.number-process.result page 0 (omega arith) c.in_default.is) (λ q page n. refl))

pub returns-in_default-clause-taken : goal.returns-in_default-clause-taken
returns-in_default-clause-taken c =
    let t = c.args.self.now in
    let none = c.requires.stands.1.rooted c.number-process.result c.number-process.ensures.bound c.in_default.is in
    set_zero t.holdings.counts c.number-process.result c.number-process.ensures.bound none
    ∙ ap (λ p. slice_set (take 64 t.holdings.counts) p 0) c.number-process.ensures.value

pub returns-in-Some-clause-ways : goal.returns-in-Some-clause-ways
returns-in-Some-clause-ways c =
    let t = c.args.self.now in
    let p = c.number-process.result in
    let v = released_tables t c.release.new.self p in
    let left = forgetting c.requires.stands.0 t c.release.new.self p c.in-Some.root c.requires.stands.1 c.number-process.ensures.bound c.in-Some.is c.release.ensures in
    λ q at d apart. ways_of_others c.requires.stands.0 t v p c.in-Some.root left q at d (λ e. apart (e ∙ c.number-process.ensures.value))

pub returns-in-Some-clause-missing : goal.returns-in-Some-clause-missing
returns-in-Some-clause-missing c =
    let t = c.args.self.now in
    let p = c.number-process.result in
    let v = released_tables t c.release.new.self p in
    let left = forgetting c.requires.stands.0 t c.release.new.self p c.in-Some.root c.requires.stands.1 c.number-process.ensures.bound c.in-Some.is c.release.ensures in
    λ q at apart. missing_same t v q at (λ d _. ways_of_others c.requires.stands.0 t v p c.in-Some.root left q at d (λ e. apart (e ∙ c.number-process.ensures.value)))
