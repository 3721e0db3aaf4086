use Rattle.awk_world.proofs.ConsistencyLemmas.{consistent-older, consistent-before}
use Rattle.awk_world.proofs.laws.is_consistent_with_less.Goals as goal

pub returns-clause-front : goal.returns-clause-front
returns-clause-front c = consistent-older

pub returns-clause-before : goal.returns-clause-before
returns-clause-before c = consistent-before
