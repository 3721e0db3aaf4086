use Rattle.std.proofs.Common.{◌≡◌, ◌==◌, not, List, [], ◌∷◌, length, refl, arith}
use Rattle.std.proofs.lemmas.Bool.Decides.{nat_tests}
use Rattle.awk_lex.specs.declared.token.BuiltIn.TheVariants as builtin
use Rattle.awk_grammar.specs.View.{exprs_of}
use Rattle.awk_grammar.specs.declared.tree.Expr.{Expr}
use Rattle.awk_merging.specs.definitions.Mergeable.{makes_value}
use Rattle.awk_merging.proofs.end_actions.makes_value.Goals as goal

has_one : (es : List Expr) → not (length es == 0) ≡ makes_value builtin.Length (exprs_of es)
has_one [] = refl
has_one (e ∷ es) = grind (arith, nat_tests)

pub returns-in-Length : goal.returns-in-Length
returns-in-Length c = rw (c.in-Length.is, c.is_empty.ensures) (has_one c.args.arguments.now)
