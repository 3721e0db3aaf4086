use Rattle.awk_syntax.proofs.WhereStopped.{last_line_at}
use Rattle.awk_syntax.proofs.read.last_line.Goals as goal

pub returns-in-Some : goal.returns-in-Some
returns-in-Some c = last_line_at c.args.tokens.now c.in-Some.token.now ((c.in-Some.ensures {u = tt}).value)
