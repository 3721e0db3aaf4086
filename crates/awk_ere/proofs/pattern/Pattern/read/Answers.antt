use Rattle.std.proofs.Common.{rules}
use Rattle.awk_ere.proofs.pattern.Pattern.read.Goals as goal

pub returns-clause-found : goal.returns-clause-found
returns-clause-found c = c.in_ok-program.ensures.found

pub returns-in_err-program-clause-refused : goal.returns-in_err-program-clause-refused
returns-in_err-program-clause-refused c = search rules
