use Rattle.std.proofs.Common.{◌≡◌, ℕ, ◌<◌, None}
use Rattle.shadow_tables.specs.Tables.{way, IsShadow, SameBlocks}
use Rattle.shadow_tables.proofs.tables.Tables.forget_all.Given as goal

-- the processes below the counter have no root
abbrev pub invariant-loop-number : goal.invariant-loop-number
invariant-loop-number l = record {
  stands : IsShadow l.self;
  blocks : SameBlocks l.initial.self l.self;
  gone : (p : ℕ) → p < l.number → way l.self p 0 0 ≡ None;
}
