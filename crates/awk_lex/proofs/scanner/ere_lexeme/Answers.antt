use Rattle.std.proofs.Common.{ap, ◌∙◌, drop, false}
use Rattle.std.proofs.lemmas.List.{take_rest}
use Rattle.awk_lex.specs.support.Lexeme.{body_len}
use Rattle.awk_lex.proofs.ScannerLexemes.{ere_token}
use Rattle.awk_lex.proofs.scanner.ere_lexeme.Goals as goal

pub returns : goal.returns
returns c =
    let closed = c.in-Some.ensures.is ∙ ap (body_len 47 false) (take_rest c.rest.result.now 1 ∙ ap (drop 1) c.rest.ensures.is) in
    ere_token c.args.text.now c.in_ok-body.body c.args.at c.in-Some.len closed c.in_ok-body.ensures
