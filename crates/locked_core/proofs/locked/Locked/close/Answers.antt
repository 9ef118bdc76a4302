use Rattle.std.proofs.Common.{rules, ◌≡◌, ◌∙◌, ◌+◌, List, [], ◌∷◌, ◌++◌, All, length, ap, sym, subst, arith}
use Rattle.locked_core.specs.Held.{UnderLock}
use Rattle.locked_core.proofs.Closed.{history_of}
use Rattle.locked_core.specs.Makers.{IsHistory, IsOfOne, Maker}
use Rattle.locked_core.specs.Moments.{Begins, Follows, core_after, entries_in}
use Rattle.locked_core.specs.declared.moment.Moment.{Moment}
use Rattle.locked_core.proofs.locked.Locked.close.Goals as goal

-- the history is what was added to it, of which each CPU has seen a beginning
pub returns-clause-left : goal.returns-clause-left
returns-clause-left g c =
    let entries : c.new.result.entries ≡ c.args.self.log = search rules in
    let core : c.new.result.core ≡ c.args.self.core = search rules in
    let whole : c.front_of-front.result ≡ c.args.self.moments = c.front_of-front.ensures ∙ ap (λ (k : UnderLock). k.moments) c.self.view_is in
    let seen : All (λ (m : Maker). Begins c.front_of-front.result m.moments) c.args.cpus.items =
    subst (λ (cpus : List Maker). All (λ (m : Maker). Begins c.front_of-front.result m.moments) cpus) c.as_slice.ensures.value (c.are_all-agree.ensures.moments c.if-not-agree.false) in record {
      entries = subst (λ (k : UnderLock). entries_in k.moments ≡ k.log) c.self.view_is c.self.invariant.told ∙ sym entries;
      begins = subst (λ (l : List Moment). All (λ (m : Maker). Begins l m.moments) c.args.cpus.items) whole seen;
      follows = subst (λ (k : UnderLock). Follows g.N.Name.book.opening k.moments) c.self.view_is c.self.invariant.follows;
      left = core ∙ sym (subst (λ (k : UnderLock). core_after g.N.Name.book.opening k.moments ≡ k.core) c.self.view_is c.self.invariant.left);
    }

-- each CPU was compared with the history, and their shares with the count of all calls
pub returns-then-not-agree-clause-history : goal.returns-then-not-agree-clause-history
returns-then-not-agree-clause-history g c =
    let count = c.args.count in
    let cpus : List Maker = c.args.cpus.items in
    let others : List Maker = c.pop.new.self.items in
    let first : Maker = c.in-Some.first in
    let whole : cpus ≡ others ++ first ∷ [] = search rules in
    let long : c.merged.result.parts ≡ length others + 1 = (let parts = c.merged.ensures.parts in let len = c.pop.new.self.ok in omega arith) in
    let one = subst (λ (l : List Moment). IsOfOne l first × All (λ m. IsOfOne l m) others) c.front_of-front.ensures c.merged.ensures.one in
    let all = history_of g.N.Name.frames g.N.Name.book.opening count c.self.inside.log.entries c.self.inside.head c.self.inside.tally
    c.self.invariant.legal c.self.invariant.follows c.self.invariant.told c.self.invariant.tallied cpus others first c.merged.result.parts c.merged.result.amount
    whole one c.merged.ensures.tallied long c.merged.ensures.amount (λ each. c.audit.ensures.whole (each ∙ c.requires.count.1) ∙ c.self.invariant.counted) in
    subst (λ (k : UnderLock). IsHistory g.N.Name.frames g.N.Name.book.opening count cpus k.moments) c.self.view_is all

pub returns-clause-history : goal.returns-clause-history
returns-clause-history g c =
    let count = c.args.count in
    let cpus : List Maker = c.args.cpus.items in
    let others : List Maker = c.pop.new.self.items in
    let first : Maker = c.in-Some.first in
    let whole : cpus ≡ others ++ first ∷ [] = search rules in
    let long : c.merged.result.parts ≡ length others + 1 = (let parts = c.merged.ensures.parts in let len = c.pop.new.self.ok in omega arith) in
    let one = subst (λ (l : List Moment). IsOfOne l first × All (λ m. IsOfOne l m) others) c.front_of-front.ensures c.merged.ensures.one in
    let all = history_of g.N.Name.frames g.N.Name.book.opening count c.self.inside.log.entries c.self.inside.head c.self.inside.tally
    c.self.invariant.legal c.self.invariant.follows c.self.invariant.told c.self.invariant.tallied cpus others first c.merged.result.parts c.merged.result.amount
    whole one c.merged.ensures.tallied long c.merged.ensures.amount (λ each. c.audit.ensures.whole (each ∙ c.requires.count.1) ∙ c.self.invariant.counted) in
    subst (λ (k : UnderLock). IsHistory g.N.Name.frames g.N.Name.book.opening count cpus k.moments) c.self.view_is all
