-- The height of a tree: how many nodes lie on the longest way down. Items, blocks, statements and expressions are
-- nodes; a list is none, and neither are the two ends of a range. An item's block is a node under the item, a block that
-- is a statement is one node; an expression that is a statement has two.
use Rattle.std.specs.Prelude.{ℕ, ◌+◌, max, List, [], ◌∷◌}
use Rattle.awk_grammar.specs.definitions.Tree.{Expr, Number, String, Ere, Name, Element, Field, Group, Call, BuiltIn, Length, PreIncrement, PostIncrement, Getline, PipedGetline, Unary, Binary, Membership, ListMembership, Conditional, Assign, Exprs, Nil, Cons, OptionalExpr, NoExpr, AnExpr, PrintList, Bare, Parenthesized, Output, Standard, Redirected, SimpleStatement, OptionalSimple, NoSimple, ASimple, Statement, Empty, Simple, Block, If, IfElse, While, Do, ForIn, For, Statements, NoMore, Then, Pattern, Single, Range, Item, Action, PatternAction, PatternOnly}
use Rattle.awk_grammar.specs.definitions.Tree as tree
use Rattle.awk_grammar.specs.declared.height.TheConstants.{MAX_HEIGHT}

-- no program is higher
abbrev pub max_height : ℕ
max_height = MAX_HEIGHT

abbrev mutual
  pub height_of : Expr → ℕ
  height_of (Number n) = 1
  height_of (String bytes) = 1
  height_of (Ere text) = 1
  height_of (Name x) = 1
  height_of (Element x xs) = 1 + tallest xs
  height_of (Field e) = 1 + height_of e
  height_of (Group e) = 1 + height_of e
  height_of (Call f xs) = 1 + tallest xs
  height_of (BuiltIn f xs) = 1 + tallest xs
  height_of Length = 1
  height_of (PreIncrement o p) = 1 + height_of p
  height_of (PostIncrement o p) = 1 + height_of p
  height_of (Getline p file) = 1 + max (optional_height p) (optional_height file)
  height_of (PipedGetline c p) = 1 + max (height_of c) (optional_height p)
  height_of (Unary o e) = 1 + height_of e
  height_of (Binary o a b) = 1 + max (height_of a) (height_of b)
  height_of (Membership e x) = 1 + height_of e
  height_of (ListMembership xs x) = 1 + tallest xs
  height_of (Conditional c a b) = 1 + max (height_of c) (max (height_of a) (height_of b))
  height_of (Assign o p e) = 1 + max (height_of p) (height_of e)

  pub tallest : Exprs → ℕ
  tallest Nil = 0
  tallest (Cons e xs) = max (height_of e) (tallest xs)

  pub optional_height : OptionalExpr → ℕ
  optional_height NoExpr = 0
  optional_height (AnExpr e) = height_of e

abbrev pub height_of_print_list : PrintList → ℕ
height_of_print_list (Bare xs) = tallest xs
height_of_print_list (Parenthesized xs) = tallest xs

abbrev pub height_of_output : Output → ℕ
height_of_output Standard = 0
height_of_output (Redirected way e) = height_of e

abbrev pub height_of_simple : SimpleStatement → ℕ
height_of_simple (tree.Expression e) = 1 + height_of e
height_of_simple (tree.Print form xs output) = 1 + max (height_of_print_list xs) (height_of_output output)
height_of_simple (tree.Delete x xs) = 1 + tallest xs
height_of_simple (tree.DeleteAll x) = 1
height_of_simple tree.Next = 1
height_of_simple tree.NextFile = 1
height_of_simple tree.Break = 1
height_of_simple tree.Continue = 1
height_of_simple (tree.Exit e) = 1 + optional_height e
height_of_simple (tree.Return e) = 1 + optional_height e

abbrev pub height_of_optional_simple : OptionalSimple → ℕ
height_of_optional_simple NoSimple = 0
height_of_optional_simple (ASimple m) = height_of_simple m

abbrev mutual
  pub height_of_statement : Statement → ℕ
  height_of_statement Empty = 1
  height_of_statement (Simple m) = height_of_simple m
  height_of_statement (Block all) = 1 + tallest_of all
  height_of_statement (If c x) = 1 + max (height_of c) (height_of_statement x)
  height_of_statement (IfElse c x y) = 1 + max (height_of c) (max (height_of_statement x) (height_of_statement y))
  height_of_statement (While c x) = 1 + max (height_of c) (height_of_statement x)
  height_of_statement (Do x c) = 1 + max (height_of_statement x) (height_of c)
  height_of_statement (ForIn x a y) = 1 + height_of_statement y
  height_of_statement (For first c last x) = 1 + max (height_of_optional_simple first) (max (optional_height c) (max (height_of_optional_simple last) (height_of_statement x)))

  pub tallest_of : Statements → ℕ
  tallest_of NoMore = 0
  tallest_of (Then x all) = max (height_of_statement x) (tallest_of all)

abbrev pub height_of_block : Statements → ℕ
height_of_block all = 1 + tallest_of all

abbrev pub height_of_pattern : Pattern → ℕ
height_of_pattern (Single e) = height_of e
height_of_pattern (Range d e) = max (height_of d) (height_of e)

abbrev pub height_of_item : Item → ℕ
height_of_item (tree.Begin all) = 1 + height_of_block all
height_of_item (tree.End all) = 1 + height_of_block all
height_of_item (Action all) = 1 + height_of_block all
height_of_item (PatternAction p all) = 1 + max (height_of_pattern p) (height_of_block all)
height_of_item (PatternOnly p) = 1 + height_of_pattern p
height_of_item (tree.Function f xs all) = 1 + height_of_block all

abbrev pub height_of_program : List Item → ℕ
height_of_program [] = 0
height_of_program (x ∷ xs) = max (height_of_item x) (height_of_program xs)
