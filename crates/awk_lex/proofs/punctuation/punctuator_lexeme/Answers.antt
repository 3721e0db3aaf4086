use Rattle.awk_lex.proofs.ScannerLexemes.{one_byte, long_token, no_long_token}
use Rattle.awk_lex.proofs.punctuation.punctuator_lexeme.Goals as goal

pub returns-in-len1 : goal.returns-in-len1
returns-in-len1 c = one_byte c.args.text.now c.short_lexeme.result c.in-len1.len_at_least c.in-len1.len_below c.short_lexeme.ensures

pub returns-in-Some : goal.returns-in-Some
returns-in-Some c = long_token c.args.text.now c.in-Some.kind c.in-len2-up.len_at_least c.in-Some.ensures

pub returns-in-None : goal.returns-in-None
returns-in-None c =
    no_long_token c.args.text.now c.short_lexeme-in-None.result c.in-len2-up.len_at_least c.in-None.ensures c.short_lexeme-in-None.ensures
