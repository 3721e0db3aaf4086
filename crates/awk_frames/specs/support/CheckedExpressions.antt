-- The trees that the code keeps, or none where they are too high.
use Rattle.std.specs.Prelude.{Option, Some, None}
use Rattle.std.specs.Global.{Box}
use Rattle.awk_grammar.specs.definitions.Tree as t
use Rattle.awk_grammar.specs.definitions.View.{expr_of, exprs_of}
use Rattle.awk_grammar.specs.declared.tree.Expr.{Expr}
use Rattle.awk_frames.specs.declared.checked_expressions.CheckedExpr.{CheckedExpr}
use Rattle.awk_frames.specs.declared.checked_expressions.CheckedExprs.{CheckedExprs}
use Rattle.awk_frames.specs.declared.child.OptionalChild.{OptionalChild}
use Rattle.awk_frames.specs.declared.child.OptionalChild.TheVariants.{Absent, Present}

abbrev pub checked_expr : Option CheckedExpr → Option t.Expr
checked_expr None = None
checked_expr (Some x) = Some (expr_of x.expr.value)

abbrev pub checked_exprs : Option CheckedExprs → Option t.Exprs
checked_exprs None = None
checked_exprs (Some x) = Some (exprs_of x.exprs.items)

-- a child that may be left out
abbrev pub checked_child : OptionalChild → Option t.OptionalExpr
checked_child Absent = Some t.NoExpr
checked_child (Present None) = None
checked_child (Present (Some x)) = Some (t.AnExpr (expr_of x.expr.value))

-- a child in a box, which may be left out
abbrev pub optional_of : Option (Box Expr) → t.OptionalExpr
optional_of None = t.NoExpr
optional_of (Some a) = t.AnExpr (expr_of a.value)
