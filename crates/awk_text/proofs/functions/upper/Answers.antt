use Rattle.std.proofs.Common.{arith}
use Rattle.std.proofs.lemmas.Grind.{elements}
use Rattle.awk_text.proofs.functions.upper.Goals as goal

pub returns-then-not-any-clause-bytes : goal.returns-then-not-any-clause-bytes
returns-then-not-any-clause-bytes c = grind (arith, elements)
