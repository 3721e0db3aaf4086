use Rattle.awk_lex.proofs.ScannerLexemes.{short_token, short_fault}
use Rattle.awk_lex.proofs.punctuation.short_lexeme.Goals as goal

pub returns-in-Some : goal.returns-in-Some
returns-in-Some c = λ rest. short_token c.args.byte rest c.in-Some.kind c.in-Some.ensures

pub returns-in-None : goal.returns-in-None
returns-in-None c = λ rest. short_fault c.args.byte rest c.in-None.ensures
