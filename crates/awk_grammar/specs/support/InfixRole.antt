-- What a token does after an operand.
use Rattle.std.specs.Prelude.{ℕ, Bool, true, false, ◌+◌}
use Rattle.awk_lex.specs.declared.token.Kind.{Kind}
use Rattle.awk_lex.specs.declared.token.Operator.{Operator}
use Rattle.awk_lex.specs.declared.token.AssignmentOperator.{AssignmentOperator}
use Rattle.awk_lex.specs.declared.token.IncrementOperator.{IncrementOperator}
use Rattle.awk_grammar.specs.declared.tree.BinaryOperator.TheVariants.{Infix}
use Rattle.awk_lex.specs.declared.token.Kind.TheVariants as t
use Rattle.awk_lex.specs.declared.token.Keyword.TheVariants as word
use Rattle.awk_lex.specs.declared.token.Operator.TheVariants as operator
use Rattle.awk_grammar.specs.definitions.Precedence.{primary, concatenation, pipe, membership, or, conditional, expr, operator_precedence, greatest_left}

-- An operator between two operands, `++` or `--`, an assignment, the first token of another operand, `in`, `|`, `?`, `[`, or
-- the end.
pub data InfixRole : Type 0 where
  Operates : (o : Operator) → InfixRole
  Increments : (x : IncrementOperator) → InfixRole
  Assigns : (o : AssignmentOperator) → InfixRole
  Starts : InfixRole
  TestsMembership : InfixRole
  Pipes : InfixRole
  Asks : InfixRole
  Subscripts : InfixRole
  Ends : InfixRole

abbrev pub operate : Operator → Bool → InfixRole
operate operator.Greater true = Ends
operate o g = Operates o

-- g: in the list of a print
abbrev pub role : Bool → Kind → InfixRole
role g (t.Number n) = Starts
role g (t.String b) = Starts
role g (t.Ere b) = Starts
role g (t.Name a) = Starts
role g (t.Called a) = Starts
role g (t.BuiltIn f) = Starts
role g (t.Operator o) = operate o g
role g (t.Increment x) = Increments x
role g (t.Assign o) = Assigns o
role g t.Not = Starts
role g t.Dollar = Starts
role g t.OpenParenthesis = Starts
role g (t.Keyword word.Getline) = Starts
role g (t.Keyword word.In) = TestsMembership
role g t.Bar = Pipes
role g t.Question = Asks
role g t.OpenBracket = Subscripts
role g x = Ends

-- a getline that has its place gets its file at `<`
abbrev pub is_less : InfixRole → Bool
is_less (Operates operator.Less) = true
is_less r = false

-- a statement is done, and the next token isn't a newline
abbrev pub is_else : Kind → Bool
is_else (t.Keyword word.Else) = true
is_else x = false

-- the greatest precedence of an operand that goes on with it
abbrev pub greatest_operand : InfixRole → ℕ
greatest_operand (Operates o) = greatest_left (Infix o)
greatest_operand (Increments x) = concatenation
greatest_operand Starts = concatenation
greatest_operand TestsMembership = membership
greatest_operand Pipes = pipe
greatest_operand Asks = or
greatest_operand r = primary

-- the precedence of the node that it makes
abbrev pub least_allowed : InfixRole → ℕ
least_allowed (Operates o) = operator_precedence (Infix o)
least_allowed (Increments x) = concatenation
least_allowed Starts = concatenation
least_allowed TestsMembership = membership
least_allowed Pipes = pipe
least_allowed Asks = conditional
least_allowed r = 1 + expr
