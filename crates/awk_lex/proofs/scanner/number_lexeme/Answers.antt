use Rattle.std.proofs.Common.{ap, ◌∙◌, take}
use Rattle.std.specs.List.{list_all}
use Rattle.std.specs.Char.{is_ascii_digit}
use Rattle.awk_lex.proofs.Prefixes.{front_passes}
use Rattle.awk_lex.proofs.scanner.number_lexeme.Goals as goal

pub number_value-requires : goal.number_value-requires
number_value-requires c =
    ap (λ n. list_all is_ascii_digit (take n c.args.text.now)) c.digits_len-len.ensures ∙ front_passes is_ascii_digit c.args.text.now
