use Rattle.std.proofs.Common.{ℕ, Bool, ◌≡◌, ◌≤◌, false, List, [], ◌∷◌, length, refl, arith}
use Rattle.awk_grammar.specs.View.{exprs_of}
use Rattle.awk_grammar.specs.declared.tree.Expr.{Expr}
use Rattle.awk_pieces.specs.definitions.Pieceable.{second_is_array}
use Rattle.awk_pieces.proofs.expressions.second_is_array.Goals as goal

left_out : (own arrays : List ℕ → Bool) (es : List Expr) → length es ≤ 1 → false ≡ second_is_array own arrays (exprs_of es)
left_out own arrays [] short = refl
left_out own arrays (a ∷ []) short = refl
left_out own arrays (a ∷ b ∷ es) short = absurd (omega arith)

pub returns-in-None : goal.returns-in-None
returns-in-None g c = left_out (g.R.Readable.own c.args.readable.now) (g.R.Readable.arrays c.args.readable.now) c.args.arguments.now c.in-None.ensures.lookup.3
