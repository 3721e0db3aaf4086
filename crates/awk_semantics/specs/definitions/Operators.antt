-- What operators make of values (POSIX awk, Expressions in awk; Regular Expressions).
use Rattle.std.specs.Prelude.{ℕ, ◌-◌, ◌%◌, ℤ, pos, negsuc, Bool, true, false, not, List, [], ◌∷◌, ◌++◌, map, Option, Some, None, Result, Ok, Err, if◌then◌else◌}
use Rattle.std.specs.declared.cmp.Ordering.{Ordering}
use Rattle.std.specs.declared.cmp.Ordering.TheVariants as ordering
use Rattle.awk_value.specs.declared.value.Value.{Value}
use Rattle.awk_value.specs.declared.value.Value.TheVariants.{Number}
use Rattle.awk_value.specs.Arithmetic.{product_of, sum_of, difference_of, quotient_of, remainder_of, negative_of, power_of}
use Rattle.awk_value.specs.Values.{num_of, str_of, truth_of, order_of, number_value, from_numbers, from_number}
use Rattle.awk_ere.specs.Tree.{Tree}
use Rattle.awk_ere.specs.Means.{pattern_of, occurs}
use Rattle.awk_lex.specs.declared.token.IncrementOperator.{IncrementOperator}
use Rattle.awk_lex.specs.declared.token.IncrementOperator.TheVariants.{Increment, Decrement}
use Rattle.awk_lex.specs.declared.token.AssignmentOperator.{AssignmentOperator}
use Rattle.awk_lex.specs.declared.token.AssignmentOperator.TheVariants as assignment
use Rattle.awk_lex.specs.declared.token.Operator.{Operator}
use Rattle.awk_lex.specs.declared.token.Operator.TheVariants.{Power, Times, Divide, Remainder, Plus, Minus, Less, LessEqual, NotEqual, Equal, Greater, GreaterEqual, Matches, NotMatches}
use Rattle.awk_grammar.specs.declared.tree.UnaryOperator.{UnaryOperator}
use Rattle.awk_grammar.specs.declared.tree.UnaryOperator.TheVariants as unary
use Rattle.awk_grammar.specs.declared.tree.BinaryOperator.{BinaryOperator}
use Rattle.awk_grammar.specs.declared.tree.BinaryOperator.TheVariants.{Infix}
use Rattle.awk_semantics.specs.declared.fault.Fault.TheVariants.{PatternRefused}
use Rattle.awk_semantics.specs.declared.halt.Halt.{Halt}
use Rattle.awk_semantics.specs.declared.halt.Halt.TheVariants as halt
use Rattle.awk_semantics.specs.definitions.Faults.{of_values}

-- whether two values in this order are so related
abbrev pub relates : Operator → Ordering → Bool
relates Less ordering.Less = true
relates LessEqual ordering.Less = true
relates LessEqual ordering.Equal = true
relates Equal ordering.Equal = true
relates NotEqual ordering.Less = true
relates NotEqual ordering.Greater = true
relates Greater ordering.Greater = true
relates GreaterEqual ordering.Greater = true
relates GreaterEqual ordering.Equal = true
relates operator o = false

abbrev pub truth_value : Bool → Value
truth_value b = Number (if b then pos 1 else pos 0)

-- an operator before a value
abbrev pub changed : UnaryOperator → Value → Result Value Halt
changed unary.Not v = Ok (truth_value (not (truth_of v)))
changed unary.Plus v = of_values (number_value (num_of v))
changed unary.Minus v = of_values (from_number negative_of (num_of v))

-- the pattern that a text spells; one that spells none is a fault
abbrev pub pattern_or_fault : Option Tree → Result Tree Halt
pattern_or_fault None = Err (halt.Fault PatternRefused)
pattern_or_fault (Some t) = Ok t

abbrev pub pattern_in : (text : List ℕ) → Result Tree Halt
pattern_in text = pattern_or_fault (pattern_of text)

abbrev pub of_match : (Bool → Bool) → (text : List ℕ) → Result Tree Halt → Result Value Halt
of_match f text (Ok t) = Ok (truth_value (f (occurs t text)))
of_match f text (Err reason) = Err reason

-- an operator between two values: a number, or 1 or 0. The text right of a `~` is read as a pattern
abbrev pub applied : Operator → Value → Value → Result Value Halt
applied Power x y = of_values (from_numbers power_of (num_of x) (num_of y))
applied Times x y = of_values (from_numbers product_of (num_of x) (num_of y))
applied Divide x y = of_values (from_numbers quotient_of (num_of x) (num_of y))
applied Remainder x y = of_values (from_numbers remainder_of (num_of x) (num_of y))
applied Plus x y = of_values (from_numbers sum_of (num_of x) (num_of y))
applied Minus x y = of_values (from_numbers difference_of (num_of x) (num_of y))
applied Matches x y = of_match (λ b. b) (str_of x) (pattern_in (str_of y))
applied NotMatches x y = of_match not (str_of x) (pattern_in (str_of y))
applied o x y = Ok (truth_value (relates o (order_of x y)))

-- `++` adds 1, and `--` takes 1 away
abbrev pub by_one : IncrementOperator → Operator
by_one Increment = Plus
by_one Decrement = Minus

abbrev pub one : Value
one = Number (pos 1)

-- what an assignment makes of the old value and the one that stands right of it; `=` takes no old value
abbrev pub operator_of : AssignmentOperator → Option Operator
operator_of assignment.Plain = None
operator_of assignment.Add = Some Plus
operator_of assignment.Subtract = Some Minus
operator_of assignment.Multiply = Some Times
operator_of assignment.Divide = Some Divide
operator_of assignment.Remainder = Some Remainder
operator_of assignment.Power = Some Power

-- the exit status that a number stands for: what is left of it by 256
abbrev pub exit_status : ℤ → ℕ
exit_status (pos n) = n % 256
exit_status (negsuc n) = 255 - n % 256

-- a count, raised by 1
abbrev pub raised : Value → Result Value Halt
raised v = of_values (from_numbers sum_of (num_of v) (Ok (pos 1)))

-- the texts, each but the first behind a separator
abbrev pub join_rest : List ℕ → List (List ℕ) → List ℕ
join_rest separator [] = []
join_rest separator (x ∷ xs) = (separator ++ x) ++ join_rest separator xs

abbrev pub join : List ℕ → List (List ℕ) → List ℕ
join separator [] = []
join separator (x ∷ xs) = x ++ join_rest separator xs

-- the line of a print: the values' texts between their separators, and the line's own end (POSIX awk, Output Statements)
abbrev pub line_of : (between behind : List ℕ) → List Value → List ℕ
line_of between behind vs = join between (map str_of vs) ++ behind

-- the text right of this operator is read as a pattern
abbrev pub takes_pattern : BinaryOperator → Bool
takes_pattern (Infix Matches) = true
takes_pattern (Infix NotMatches) = true
takes_pattern o = false
