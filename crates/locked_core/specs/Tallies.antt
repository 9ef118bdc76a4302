-- What counts the calls of each CPU.
use Rattle.std.specs.Prelude.{ℕ, List}

-- a CPU's number, and how many calls it made
pub record OwnCalls : Type 0 where
  pub number : ℕ
  pub calls : ℕ

-- the parts and the amounts of shares of eight ledgers
pub record Shares : Type 0 where
  pub parts : List ℕ
  pub amounts : List ℕ
