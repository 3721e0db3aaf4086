use Rattle.std.proofs.Common.{◌≡◌, ◌≤◌, List, [], ◌∷◌, length, None, refl, arith}
use Rattle.awk_grammar.specs.View.{exprs_of}
use Rattle.awk_grammar.specs.declared.tree.Expr.{Expr}
use Rattle.awk_pieces.specs.definitions.Pieceable.{array_split}
use Rattle.awk_pieces.proofs.names.array_split.Goals as goal

left_out : (es : List Expr) → length es ≤ 1 → None ≡ array_split (exprs_of es)
left_out [] short = refl
left_out (a ∷ []) short = refl
left_out (a ∷ b ∷ es) short = absurd (omega arith)

pub returns-in-None : goal.returns-in-None
returns-in-None c = left_out c.args.arguments.now c.in-None.ensures.lookup.3
