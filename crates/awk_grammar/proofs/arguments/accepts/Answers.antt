use Rattle.std.proofs.Common.{rules}
use Rattle.awk_grammar.proofs.arguments.accepts.Goals as goal

pub returns-in-Index : goal.returns-in-Index
returns-in-Index c = search rules
