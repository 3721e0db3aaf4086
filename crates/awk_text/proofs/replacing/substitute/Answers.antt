use Rattle.std.proofs.Common.{rules}
use Rattle.awk_text.proofs.replacing.substitute.Goals as goal

pub returns-clause-replaced : goal.returns-clause-replaced
returns-clause-replaced c = search rules
