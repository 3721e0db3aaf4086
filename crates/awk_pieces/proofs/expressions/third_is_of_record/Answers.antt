use Rattle.std.proofs.Common.{ℕ, Bool, ◌≡◌, ◌≤◌, true, List, [], ◌∷◌, length, refl, arith}
use Rattle.awk_grammar.specs.View.{exprs_of}
use Rattle.awk_grammar.specs.declared.tree.Expr.{Expr}
use Rattle.awk_pieces.specs.definitions.Pieceable.{third_is_of_record}
use Rattle.awk_pieces.proofs.expressions.third_is_of_record.Goals as goal

left_out : (own arrays : List ℕ → Bool) (es : List Expr) → length es ≤ 2 → true ≡ third_is_of_record own arrays (exprs_of es)
left_out own arrays [] short = refl
left_out own arrays (a ∷ []) short = refl
left_out own arrays (a ∷ b ∷ []) short = refl
left_out own arrays (a ∷ b ∷ place ∷ es) short = absurd (omega arith)

pub returns-in-None : goal.returns-in-None
returns-in-None g c = left_out (g.R.Readable.own c.args.readable.now) (g.R.Readable.arrays c.args.readable.now) c.args.arguments.now c.in-None.ensures.lookup.3
