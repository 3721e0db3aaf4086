use Rattle.std.proofs.Common.{sym, ap, ◌∙◌, take}
use Rattle.std.proofs.lemmas.List.{take_rest, drop-take}
use Rattle.awk_lex.specs.support.Lexeme.{named}
use Rattle.awk_lex.proofs.ScannerLexemes.{reserved_token, name_token, not_some_is}
use Rattle.awk_lex.proofs.scanner.word_lexeme.Goals as goal

pub returns-in-Some : goal.returns-in-Some
returns-in-Some c =
    reserved_token c.rest-rest.result.now _ c.word_len-len.result c.in-Some.kind c.reserved_kind.result
    c.rest-rest.ensures.is c.word_len-len.ensures.is c.reserved_kind.ensures c.in-Some.is

pub returns : goal.returns
returns c =
    let rest = c.rest-rest.result.now in
    let len = c.word_len-len.result in
    let name = c.in_ok-name.name in
    name_token rest _ name len c.named.result c.reserved_kind.result
    c.rest-rest.ensures.is c.word_len-len.ensures.is c.reserved_kind.ensures (not_some_is _ c.in_default.not-Some)
    (c.in_ok-name.ensures ∙ drop-take c.args.at len c.args.text.now ∙ ap (take len) (sym c.rest-rest.ensures.is))
    (c.named.ensures ∙ ap (named name) (take_rest rest len))
