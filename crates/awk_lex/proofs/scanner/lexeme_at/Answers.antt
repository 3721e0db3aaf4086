use Rattle.std.proofs.Common.{sym, ap, ◌∙◌, arith}
use Rattle.awk_lex.specs.support.Lexeme.{lexeme_of}
use Rattle.awk_lex.proofs.ScannerLexemes.{punctuator_first}
use Rattle.awk_lex.proofs.scanner.lexeme_at.Goals as goal

pub returns-else-first-eq47 : goal.returns-else-first-eq47
returns-else-first-eq47 c =
    punctuator_first c.args.divides c.rest-rest.result.now c.punctuator_lexeme.result (omega (arith, c.gap_len-gap.ensures, c.if-gap-gt0.false))
    (sym c.is_name_start.ensures ∙ c.if-is_name_start.false) (sym c.is_ascii_digit.ensures.value ∙ c.if-is_ascii_digit.false) c.if-first-eq34.false
    c.if-first-eq47.false c.punctuator_lexeme.ensures
    ∙ ap (lexeme_of c.args.divides) c.rest-rest.ensures.is
