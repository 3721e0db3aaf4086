use Rattle.std.proofs.Common.{rules}
use Rattle.awk_lex.proofs.words.is_reserved.Goals as goal

pub returns : goal.returns
returns c = search rules
