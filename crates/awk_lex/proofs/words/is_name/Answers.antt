use Rattle.std.proofs.Common.{rules}
use Rattle.awk_lex.proofs.words.is_name.Goals as goal

pub returns-in-empty : goal.returns-in-empty
returns-in-empty c = search rules
