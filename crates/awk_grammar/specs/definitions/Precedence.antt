-- The table of operators (POSIX awk, Expressions in awk, Table: Expressions in Decreasing Precedence in awk).
use Rattle.std.specs.Prelude.{ℕ, Bool, true, false, if◌then◌else◌}
use Rattle.awk_lex.specs.declared.token.Operator.TheVariants.{Power, Times, Divide, Remainder, Plus, Minus, Less, LessEqual, NotEqual, Equal, Greater, GreaterEqual, Matches, NotMatches, And, Or}
use Rattle.awk_grammar.specs.declared.tree.BinaryOperator.{BinaryOperator}
use Rattle.awk_grammar.specs.declared.tree.BinaryOperator.TheVariants.{Concatenate, Infix}
use Rattle.awk_grammar.specs.definitions.Tree.{Expr, Number, String, Ere, Name, Element, Field, Group, Call, BuiltIn, Length, PreIncrement, PostIncrement, Getline, PipedGetline, Unary, Binary, Membership, ListMembership, Conditional, Assign}

-- The seventeen levels, the tightest first. An expression of a level may stand wherever one of a greater level may.

-- what stands alone, and Grouping: `( expr )`
abbrev pub primary : ℕ
primary = 0

-- Field reference: `$ expr`
abbrev pub field_reference : ℕ
field_reference = 1

-- `++ place` and `-- place`, which may stand behind `$` too
abbrev pub pre_increment : ℕ
pre_increment = 2

-- `place ++`, `place --` and a getline without a pipe
abbrev pub post_increment : ℕ
post_increment = 3

abbrev pub power : ℕ
power = 4

abbrev pub unary : ℕ
unary = 5

abbrev pub product : ℕ
product = 6

abbrev pub sum : ℕ
sum = 7

abbrev pub concatenation : ℕ
concatenation = 8

-- `expr | getline`, which the table doesn't name
abbrev pub pipe : ℕ
pipe = 9

abbrev pub comparison : ℕ
comparison = 10

abbrev pub match : ℕ
match = 11

abbrev pub membership : ℕ
membership = 12

abbrev pub and : ℕ
and = 13

abbrev pub or : ℕ
or = 14

abbrev pub conditional : ℕ
conditional = 15

-- any expression, an assignment and what ends in one too
abbrev pub expr : ℕ
expr = 16

-- an operator's level, and the greatest levels that may stand left and right of it
pub record Row : Type 0 where
  pub precedence : ℕ
  pub left : ℕ
  pub right : ℕ

-- what it joins may stand left of another of its level; `tighter` is the level before its own
abbrev pub left_associative : (level tighter : ℕ) → Row
left_associative level tighter = record { precedence = level; left = level; right = tighter }

-- it joins no others of its level
abbrev pub not_associative : (level tighter : ℕ) → Row
not_associative level tighter = record { precedence = level; left = tighter; right = tighter }

-- right-associative: a power may stand right of it, with a sign before it too, and none left of it
abbrev pub exponentiation : Row
exponentiation = record { precedence = power; left = post_increment; right = unary }

-- the table, in its order, as far as it speaks of two operands; the operands of its other rows are told in OperandsAllowed
abbrev pub row : BinaryOperator → Row
row (Infix Power) = exponentiation
row (Infix Times) = left_associative product unary
row (Infix Divide) = left_associative product unary
row (Infix Remainder) = left_associative product unary
row (Infix Plus) = left_associative sum product
row (Infix Minus) = left_associative sum product
row Concatenate = left_associative concatenation sum
row (Infix Less) = not_associative comparison pipe
row (Infix LessEqual) = not_associative comparison pipe
row (Infix NotEqual) = not_associative comparison pipe
row (Infix Equal) = not_associative comparison pipe
row (Infix Greater) = not_associative comparison pipe
row (Infix GreaterEqual) = not_associative comparison pipe
row (Infix Matches) = not_associative match comparison
row (Infix NotMatches) = not_associative match comparison
row (Infix And) = left_associative and membership
row (Infix Or) = left_associative or and

abbrev pub operator_precedence : BinaryOperator → ℕ
operator_precedence o = (row o).precedence

abbrev pub greatest_left : BinaryOperator → ℕ
greatest_left o = (row o).left

abbrev pub greatest_right : BinaryOperator → ℕ
greatest_right o = (row o).right

-- in the list of a print it is no comparison
abbrev pub is_greater : BinaryOperator → Bool
is_greater (Infix Greater) = true
is_greater o = false

-- an assignment without parentheses is the last thing in it
abbrev pub ends_in_assignment : Expr → Bool
ends_in_assignment (Binary o a b) = ends_in_assignment b
ends_in_assignment (Conditional c a b) = ends_in_assignment b
ends_in_assignment (Assign o p e) = true
ends_in_assignment e = false

-- the level of an expression right of an operator, told by what joins it outermost: an assignment may stand where a
-- membership may, right of `&&` and `||`
abbrev pub right_precedence : Expr → ℕ
right_precedence (Number n) = primary
right_precedence (String bytes) = primary
right_precedence (Ere text) = primary
right_precedence (Name x) = primary
right_precedence (Element x xs) = primary
right_precedence (Group e) = primary
right_precedence (Call f xs) = primary
right_precedence (BuiltIn f xs) = primary
right_precedence Length = primary
right_precedence (Field e) = field_reference
right_precedence (PreIncrement o p) = pre_increment
right_precedence (PostIncrement o p) = post_increment
right_precedence (Getline p file) = post_increment
right_precedence (Unary o e) = unary
right_precedence (Binary o a b) = operator_precedence o
right_precedence (PipedGetline c p) = pipe
right_precedence (Membership e x) = membership
right_precedence (ListMembership xs x) = membership
right_precedence (Conditional c a b) = conditional
right_precedence (Assign o p e) = membership

-- its level anywhere else
abbrev pub expr_precedence : Expr → ℕ
expr_precedence e = if ends_in_assignment e then expr else right_precedence e
