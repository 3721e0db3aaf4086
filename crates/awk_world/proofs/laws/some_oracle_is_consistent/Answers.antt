use Rattle.std.proofs.Common.{◌≡◌, true, false}
use Rattle.awk_world.proofs.Exist.{some_oracle}
use Rattle.awk_world.proofs.laws.some_oracle_is_consistent.Goals as goal

pub returns-clause-some : goal.returns-clause-some
returns-clause-some c = some_oracle

pub returns-clause-start : goal.returns-clause-start
returns-clause-start c = λ is_open. record {
  orderly = tt;
  known = λ id some. let bad : false ≡ true = some in cc;
}
