use Rattle.awk_lex.proofs.Unique.{one_lexing}
use Rattle.awk_lex.proofs.lexer.one_lexing.Goals as goal

pub returns : goal.returns
returns c = one_lexing
