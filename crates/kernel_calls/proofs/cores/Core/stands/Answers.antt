use Rattle.kernel_calls.proofs.Prelude.{subst, IsCore, WalksAgree, image_of, memory_of, View, WaysAgree}
use Rattle.kernel_calls.proofs.cores.Core.stands.Goals as goal

pub returns-clause-walks : goal.returns-clause-walks
returns-clause-walks c = subst (λ (v : View). WalksAgree (image_of v).memory v.state.spaces) c.self.view_is c.stands.ensures.walks

pub returns-clause-ways : goal.returns-clause-ways
returns-clause-ways c = subst (λ (v : View). WaysAgree (memory_of v)) c.self.view_is c.stands.ensures.ways

pub returns-clause-core : goal.returns-clause-core
returns-clause-core c =
    let s = c.stands.ensures in
    subst IsCore c.self.view_is (record { image = s.image; well_formed = s.well_formed; sized = record { few = s.few; pids = s.pids } })
