use Rattle.std.proofs.Common.{◌≡◌, eqb, sym, ap, ◌∙◌}
use Rattle.std.specs.List.{list_any}
use Rattle.awk_lex.proofs.EscapesLemmas.{unescaped_plain}
use Rattle.awk_lex.proofs.delimited.string_value.Goals as goal

pub returns-then-not-contains : goal.returns-then-not-contains
returns-then-not-contains c =
    let has : c.contains.result ≡ list_any (λ y. eqb y 92) c.as_slice.result.now = c.contains.ensures.value in
    sym (unescaped_plain c.args.body (ap (list_any (λ y. eqb y 92)) (sym c.as_slice.ensures) ∙ sym has ∙ c.if-not-contains.true))
