use Rattle.std.proofs.Common.{rules}
use Rattle.awk_syntax.proofs.prints.after_print_expr.Goals as goal

pub returns-then-matches : goal.returns-then-matches
returns-then-matches c = search rules
