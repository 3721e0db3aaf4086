-- Which operands, subscripts and arguments an expression may have.
use Rattle.std.specs.Prelude.{◌≤◌, ◌≡◌, Bool, true, false, ◌&&◌}
use Rattle.awk_grammar.specs.definitions.Tree.{Expr, Number, String, Ere, Name, Element, Field, Group, Call, BuiltIn, Length, PreIncrement, PostIncrement, Getline, PipedGetline, Unary, Binary, Membership, ListMembership, Conditional, Assign, Exprs, Nil, Cons, OptionalExpr, NoExpr, AnExpr}
use Rattle.awk_grammar.specs.definitions.Precedence.{field_reference, pre_increment, unary, pipe, membership, or, greatest_left, greatest_right, is_greater, right_precedence, expr_precedence}
use Rattle.awk_grammar.specs.definitions.Arguments.{is_place, count, accepts_list}

-- Each operand is of a level that is allowed, each place is one, and each list is long enough. In the list of a print `>`
-- is no comparison, outside parentheses, brackets and arguments.
abbrev mutual
  pub KeepsPrecedence : (in_print_list : Bool) → Expr → Type 0
  KeepsPrecedence g (Number n) = Unit {0}
  KeepsPrecedence g (String bytes) = Unit {0}
  KeepsPrecedence g (Ere text) = Unit {0}
  KeepsPrecedence g (Name x) = Unit {0}
  KeepsPrecedence g (Element x xs) = (1 ≤ count xs) × AllKeepPrecedence false xs
  -- behind `$` stands alone what does, another field, or `++` or `--` before a place
  KeepsPrecedence g (Field e) = (expr_precedence e ≤ pre_increment) × KeepsPrecedence g e
  KeepsPrecedence g (Group e) = KeepsPrecedence false e
  KeepsPrecedence g (Call f xs) = AllKeepPrecedence false xs
  KeepsPrecedence g (BuiltIn f xs) = (accepts_list f xs ≡ true) × AllKeepPrecedence false xs
  KeepsPrecedence g Length = Unit {0}
  KeepsPrecedence g (PreIncrement o p) = (is_place p ≡ true) × KeepsPrecedence g p
  KeepsPrecedence g (PostIncrement o p) = (is_place p ≡ true) × KeepsPrecedence g p
  KeepsPrecedence g (Getline p file) = PlaceKeepsPrecedence g p × FileKeepsPrecedence g file
  KeepsPrecedence g (PipedGetline c p) = (expr_precedence c ≤ pipe) × KeepsPrecedence g c × PlaceKeepsPrecedence g p
  -- `!`, `+` and `-` may stand before one another, and before a power
  KeepsPrecedence g (Unary o e) = (expr_precedence e ≤ unary) × KeepsPrecedence g e
  KeepsPrecedence g (Binary o a b) = (expr_precedence a ≤ greatest_left o) × (right_precedence b ≤ greatest_right o) × KeepsPrecedence g a × KeepsPrecedence g b × ((g && is_greater o) ≡ false)
  -- left-associative
  KeepsPrecedence g (Membership e x) = (expr_precedence e ≤ membership) × KeepsPrecedence g e
  KeepsPrecedence g (ListMembership xs x) = (2 ≤ count xs) × AllKeepPrecedence false xs
  -- right-associative; anything may stand between `?` and `:` and right of them
  KeepsPrecedence g (Conditional c a b) = (expr_precedence c ≤ or) × KeepsPrecedence g c × KeepsPrecedence g a × KeepsPrecedence g b
  -- right-associative; anything may stand right of it
  KeepsPrecedence g (Assign o p e) = (is_place p ≡ true) × KeepsPrecedence g p × KeepsPrecedence g e

  pub AllKeepPrecedence : (in_print_list : Bool) → Exprs → Type 0
  AllKeepPrecedence g Nil = Unit {0}
  AllKeepPrecedence g (Cons e xs) = KeepsPrecedence g e × AllKeepPrecedence g xs

  -- the place of a getline
  pub PlaceKeepsPrecedence : (in_print_list : Bool) → OptionalExpr → Type 0
  PlaceKeepsPrecedence g NoExpr = Unit {0}
  PlaceKeepsPrecedence g (AnExpr p) = (is_place p ≡ true) × KeepsPrecedence g p

  -- its file: what stands alone, or a field
  pub FileKeepsPrecedence : (in_print_list : Bool) → OptionalExpr → Type 0
  FileKeepsPrecedence g NoExpr = Unit {0}
  FileKeepsPrecedence g (AnExpr e) = (expr_precedence e ≤ field_reference) × KeepsPrecedence g e

abbrev pub OptionalKeepsPrecedence : OptionalExpr → Type 0
OptionalKeepsPrecedence NoExpr = Unit {0}
OptionalKeepsPrecedence (AnExpr e) = KeepsPrecedence false e
