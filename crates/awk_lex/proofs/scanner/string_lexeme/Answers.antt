use Rattle.std.proofs.Common.{ap, ◌∙◌, drop, false}
use Rattle.std.proofs.lemmas.List.{take_rest}
use Rattle.awk_lex.specs.support.Lexeme.{body_len}
use Rattle.awk_lex.proofs.ScannerLexemes.{string_token, refused_string}
use Rattle.awk_lex.proofs.scanner.string_lexeme.Goals as goal

pub returns-in-Some-2 : goal.returns-in-Some-2
returns-in-Some-2 c =
    let closed = c.in-Some.ensures.is ∙ ap (body_len 34 false) (take_rest c.rest.result.now 1 ∙ ap (drop 1) c.rest.ensures.is) in
    string_token c.args.text.now c.in_ok-cut.field-0 c.in-Some-2.bytes c.args.at c.in-Some.len c.in_ok-bytes.field-0
    closed c.in_ok-cut.ensures c.in_ok-bytes.ensures c.in-Some-2.is

pub returns-in-None : goal.returns-in-None
returns-in-None c =
    let closed = c.in-Some.ensures.is ∙ ap (body_len 34 false) (take_rest c.rest.result.now 1 ∙ ap (drop 1) c.rest.ensures.is) in
    refused_string c.args.text.now c.in_ok-cut.field-0 c.args.at c.in-Some.len c.in_ok-bytes.field-0
    closed c.in_ok-cut.ensures c.in_ok-bytes.ensures c.in-None.is
