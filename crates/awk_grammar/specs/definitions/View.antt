-- The tree that the code keeps, as a tree of the definitions.
use Rattle.std.specs.Prelude.{List, [], ◌∷◌, Option, Some, None}
use Rattle.std.specs.Global.{Box}
use Rattle.awk_grammar.specs.definitions.Tree as t
use Rattle.awk_grammar.specs.declared.tree.Expr.{Expr, Row_of-Expr, end_of-Expr, more_of-Expr, Held-Expr-Getline-0}
use Rattle.awk_grammar.specs.declared.tree.Expr.TheVariants as e
use Rattle.awk_grammar.specs.declared.tree.Expr.{None', Some'}
use Rattle.awk_grammar.specs.declared.tree.PrintList.{PrintList}
use Rattle.awk_grammar.specs.declared.tree.PrintList.TheVariants as list
use Rattle.awk_grammar.specs.declared.tree.Output.{Output}
use Rattle.awk_grammar.specs.declared.tree.Output.TheVariants as output
use Rattle.awk_grammar.specs.declared.tree.SimpleStatement.{SimpleStatement}
use Rattle.awk_grammar.specs.declared.tree.SimpleStatement.TheVariants as simple
use Rattle.awk_grammar.specs.declared.tree.Statement.{Statement, Row_of-Statement, end_of-Statement, more_of-Statement}
use Rattle.awk_grammar.specs.declared.tree.Statement.TheVariants as s
use Rattle.awk_grammar.specs.declared.tree.Pattern.{Pattern}
use Rattle.awk_grammar.specs.declared.tree.Pattern.TheVariants as pattern
use Rattle.awk_grammar.specs.declared.tree.Item.{Item}
use Rattle.awk_grammar.specs.declared.tree.Item.TheVariants as item
use Rattle.awk_grammar.specs.declared.tree.Tree.{Tree}

abbrev mutual
  pub expr_of : Expr → t.Expr
  expr_of (e.Number n) = t.Number n
  expr_of (e.String bytes) = t.String bytes
  expr_of (e.Ere x) = t.Ere x.text
  expr_of (e.Name x) = t.Name x
  expr_of (e.Element' x n xs) = t.Element x (exprs_of_row xs)
  expr_of (e.Field' p a) = t.Field (expr_of a)
  expr_of (e.Group' p a) = t.Group (expr_of a)
  expr_of (e.Call' x n xs) = t.Call x (exprs_of_row xs)
  expr_of (e.BuiltIn' f n xs) = t.BuiltIn f (exprs_of_row xs)
  expr_of e.Length = t.Length
  expr_of (e.PreIncrement' o p a) = t.PreIncrement o (expr_of a)
  expr_of (e.PostIncrement' o p a) = t.PostIncrement o (expr_of a)
  expr_of (e.Getline' place file) = t.Getline (child_of place) (child_of file)
  expr_of (e.PipedGetline' p a place) = t.PipedGetline (expr_of a) (child_of place)
  expr_of (e.Unary' o p a) = t.Unary o (expr_of a)
  expr_of (e.Binary' o p a q b) = t.Binary o (expr_of a) (expr_of b)
  expr_of (e.Membership' p a x) = t.Membership (expr_of a) x
  expr_of (e.ListMembership' n xs x) = t.ListMembership (exprs_of_row xs) x
  expr_of (e.Conditional' p c q a r b) = t.Conditional (expr_of c) (expr_of a) (expr_of b)
  expr_of (e.Assign' o p a q b) = t.Assign o (expr_of a) (expr_of b)

  pub exprs_of_row : {m : _} → Row_of-Expr m → t.Exprs
  exprs_of_row end_of-Expr = t.Nil
  exprs_of_row (more_of-Expr a rest) = t.Cons (expr_of a) (exprs_of_row rest)

  pub child_of : Held-Expr-Getline-0 → t.OptionalExpr
  child_of None' = t.NoExpr
  child_of (Some' p a) = t.AnExpr (expr_of a)

abbrev pub exprs_of : List Expr → t.Exprs
exprs_of [] = t.Nil
exprs_of (a ∷ all) = t.Cons (expr_of a) (exprs_of all)

abbrev pub optional_expr_of : Option (Box Expr) → t.OptionalExpr
optional_expr_of None = t.NoExpr
optional_expr_of (Some a) = t.AnExpr (expr_of a.value)

abbrev pub print_list_of : PrintList → t.PrintList
print_list_of (list.Bare xs) = t.Bare (exprs_of xs.items)
print_list_of (list.Parenthesized xs) = t.Parenthesized (exprs_of xs.items)

abbrev pub output_of : Output → t.Output
output_of output.Standard = t.Standard
output_of (output.Redirected way a) = t.Redirected way (expr_of a.value)

abbrev pub simple_of : SimpleStatement → t.SimpleStatement
simple_of (simple.Expression a) = t.Expression (expr_of a.value)
simple_of (simple.Print form xs o) = t.Print form (print_list_of xs) (output_of o)
simple_of (simple.Delete x xs) = t.Delete x (exprs_of xs.items)
simple_of (simple.DeleteAll x) = t.DeleteAll x
simple_of simple.Next = t.Next
simple_of simple.NextFile = t.NextFile
simple_of simple.Break = t.Break
simple_of simple.Continue = t.Continue
simple_of (simple.Exit a) = t.Exit (optional_expr_of a)
simple_of (simple.Return a) = t.Return (optional_expr_of a)

abbrev pub optional_simple_of : Option SimpleStatement → t.OptionalSimple
optional_simple_of None = t.NoSimple
optional_simple_of (Some m) = t.ASimple (simple_of m)

abbrev mutual
  pub statement_of : Statement → t.Statement
  statement_of s.Empty = t.Empty
  statement_of (s.Simple m) = t.Simple (simple_of m)
  statement_of (s.Block' n all) = t.Block (statements_of_row all)
  statement_of (s.If' c p x) = t.If (expr_of c.value) (statement_of x)
  statement_of (s.IfElse' c p x q y) = t.IfElse (expr_of c.value) (statement_of x) (statement_of y)
  statement_of (s.While' c p x) = t.While (expr_of c.value) (statement_of x)
  statement_of (s.Do' p x c) = t.Do (statement_of x) (expr_of c.value)
  statement_of (s.ForIn' x a p y) = t.ForIn x a (statement_of y)
  statement_of (s.For' parts p x) = t.For (optional_simple_of parts.value.first) (optional_expr_of parts.value.condition) (optional_simple_of parts.value.last) (statement_of x)

  pub statements_of_row : {m : _} → Row_of-Statement m → t.Statements
  statements_of_row end_of-Statement = t.NoMore
  statements_of_row (more_of-Statement x rest) = t.Then (statement_of x) (statements_of_row rest)

abbrev pub statements_of : List Statement → t.Statements
statements_of [] = t.NoMore
statements_of (x ∷ all) = t.Then (statement_of x) (statements_of all)

abbrev pub pattern_of : Pattern → t.Pattern
pattern_of (pattern.Single a) = t.Single (expr_of a.value)
pattern_of (pattern.Range a b) = t.Range (expr_of a.value) (expr_of b.value)

abbrev pub item_of : Item → t.Item
item_of (item.Begin block) = t.Begin (statements_of block.items)
item_of (item.End block) = t.End (statements_of block.items)
item_of (item.Action block) = t.Action (statements_of block.items)
item_of (item.PatternAction p block) = t.PatternAction (pattern_of p) (statements_of block.items)
item_of (item.PatternOnly p) = t.PatternOnly (pattern_of p)
item_of (item.Function f xs block) = t.Function f xs.items (statements_of block.items)

abbrev pub items_of : List Item → List t.Item
items_of [] = []
items_of (x ∷ xs) = item_of x ∷ items_of xs

-- a program is its items
abbrev pub tree_of : Tree → List t.Item
tree_of tree = items_of tree.items.items
