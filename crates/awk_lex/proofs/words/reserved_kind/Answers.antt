use Rattle.std.proofs.Common.{sym, ap, ◌∙◌}
use Rattle.std.specs.Option.{option_map}
use Rattle.awk_lex.specs.definitions.Tables.{keywords, built_ins}
use Rattle.awk_lex.specs.declared.token.Kind.TheVariants.{Keyword}
use Rattle.awk_lex.proofs.Tables.{in_first}
use Rattle.awk_lex.proofs.words.reserved_kind.Goals as goal

pub returns-in-Some : goal.returns-in-Some
returns-in-Some c =
    let found = sym c.keyword.ensures ∙ ap (option_map (λ keyword. Keyword keyword)) c.in-Some.is in
    sym (in_first keywords built_ins c.args.word.now (Keyword c.in-Some.keyword) found)
