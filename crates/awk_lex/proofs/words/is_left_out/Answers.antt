use Rattle.std.proofs.Common.{rules}
use Rattle.awk_lex.proofs.words.is_left_out.Goals as goal

pub returns : goal.returns
returns c = search rules
