use Rattle.tower_c.proofs.transfers.read.Goals as goal

-- nothing is done where the number is no process
pub returns-in-None-clause-stay : goal.returns-in-None-clause-stay
returns-in-None-clause-stay c = record {
  directories = λ q d spared live. live;
  tables = λ q d f t stays way is. is;
  ways = λ q d f stays way. way;
}
