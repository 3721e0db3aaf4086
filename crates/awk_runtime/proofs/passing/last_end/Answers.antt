use Rattle.awk_runtime.proofs.PassedLines.{line_behind}
use Rattle.awk_runtime.proofs.passing.last_end.Goals as goal

pub returns-in-Some-clause-whole : goal.returns-in-Some-clause-whole
returns-in-Some-clause-whole c = line_behind c.args.separator _ c.args.bytes.now c.in-Some.before c.in_ok-last.last c.in_ok-last.ensures c.in-Some.ensures
