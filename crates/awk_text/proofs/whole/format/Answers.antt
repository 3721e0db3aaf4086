use Rattle.std.proofs.Common.{arith}
use Rattle.awk_text.proofs.WrittenLemmas.{joined_nothing}
use Rattle.awk_text.proofs.whole.format.Goals as goal

pub returns-clause-text : goal.returns-clause-text
returns-clause-text c = grind (arith, joined_nothing)
