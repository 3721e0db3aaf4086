-- Sums of numbers in the arrays and variables of a program: what is printed of them, so that it can be read again, and the
-- rules that read it.
use Rattle.std.specs.Prelude.{◌≡◌, ◌<◌, ℕ, ℤ, pos, Bool, true, List, [], ◌∷◌, ◌++◌, length, codes, Option, Some, None}
use Rattle.std.specs.Fmt.{signed_decimal}
use Rattle.awk_value.specs.declared.value.Value.{Value}
use Rattle.awk_value.specs.declared.value.Value.TheVariants as value
use Rattle.awk_value.specs.Arrays.{Array}
use Rattle.awk_lex.specs.declared.token.AssignmentOperator.TheVariants as assignment
use Rattle.awk_lex.specs.declared.token.BuiltIn.TheVariants as builtin
use Rattle.awk_lex.specs.declared.token.Operator.TheVariants as operator
use Rattle.awk_grammar.specs.declared.tree.BinaryOperator.TheVariants.{Infix}
use Rattle.awk_grammar.specs.declared.tree.PrintForm.TheVariants as form
use Rattle.awk_grammar.specs.Tree.{Expr, Number, String, Name, Element, Field, BuiltIn, Binary, Assign, Nil, Cons, AnExpr, Bare, Standard, Expression, Print, Next, Exit, Statement, Simple, Block, If, ForIn, Statements, NoMore, Then, Pattern, Single, Item, PatternAction}
use Rattle.awk_kinds.specs.Names.{has_name}
use Rattle.awk_kinds.specs.SpecialNames.{special_arrays, special_scalars}
use Rattle.awk_semantics.specs.definitions.State.{State}
use Rattle.awk_semantics.specs.definitions.Primitives.{number_in, array_in}
use Rattle.awk_merging.specs.definitions.Gathering.{Table}

-- where a program sums up: in an array, by its keys, or in a variable
pub data Sum : Type 0 where
  ByKey : (array : List ℕ) → Sum
  Alone : (variable : List ℕ) → Sum

abbrev pub name_of_sum : Sum → List ℕ
name_of_sum (ByKey a) = a
name_of_sum (Alone x) = x

-- variables of the programs that are derived
abbrev pub merge_what : List ℕ
merge_what = codes "merge_what"

abbrev pub merge_key : List ℕ
merge_key = codes "merge_key"

-- A cell of a sum is three lines: the sum's name, the key, which is empty for a variable, and the number.

-- printf "%s\n%s\n%s\n", "NAME", KEY, NUMBER
abbrev pub cell_format : List ℕ
cell_format = codes "%s\n%s\n%s\n"

abbrev pub print_cell : (name : List ℕ) (key number : Expr) → Statement
print_cell name key number = Simple (Print form.Printf (Bare (Cons (String cell_format) (Cons (String name) (Cons key (Cons number Nil))))) Standard)

-- if (index(merge_key, "\n")) exit 1
abbrev pub refuse_newline : Statement
refuse_newline = If (BuiltIn builtin.Index (Cons (Name merge_key) (Cons (String (10 ∷ [])) Nil))) (Simple (Exit (AnExpr (Number (pos 1)))))

-- NAME[merge_key]
abbrev pub at_merge_key : (array : List ℕ) → Expr
at_merge_key a = Element a (Cons (Name merge_key) Nil)

-- for (merge_key in NAME) { .. }, which prints a cell for each key; if (NAME != "") .., which prints that of a variable
abbrev pub print_sum : Sum → Statement
print_sum (ByKey a) = ForIn merge_key a (Block (Then refuse_newline (Then (print_cell a (Name merge_key) (at_merge_key a)) NoMore)))
print_sum (Alone x) = If (Binary (Infix operator.NotEqual) (Name x) (String [])) (print_cell x (String []) (Name x))

abbrev pub print_sums : List Sum → Statements
print_sums [] = NoMore
print_sums (x ∷ xs) = Then (print_sum x) (print_sums xs)

-- $0
abbrev pub whole_record : Expr
whole_record = Field (Number (pos 0))

-- NR % 3 == LINE { NAME = $0; next }
abbrev pub line_is : (line : ℕ) → Pattern
line_is line = Single (Binary (Infix operator.Equal) (Binary (Infix operator.Remainder) (Name (codes "NR")) (Number (pos 3))) (Number (pos line)))

abbrev pub keep_as : (name : List ℕ) → Statement
keep_as x = Simple (Expression (Assign assignment.Plain (Name x) whole_record))

abbrev pub keep_line : (line : ℕ) (name : List ℕ) → Item
keep_line line x = PatternAction (line_is line) (Then (keep_as x) (Then (Simple Next) NoMore))

-- merge_what == "NAME" { PLACE += $0 }
abbrev pub is_what : (name : List ℕ) → Pattern
is_what name = Single (Binary (Infix operator.Equal) (Name merge_what) (String name))

abbrev pub add_record : (place : Expr) → Statement
add_record place = Simple (Expression (Assign assignment.Add place whole_record))

abbrev pub place_of_sum : Sum → Expr
place_of_sum (ByKey a) = at_merge_key a
place_of_sum (Alone x) = Name x

abbrev pub read_sum : Sum → Item
read_sum x = PatternAction (is_what (name_of_sum x)) (Then (add_record (place_of_sum x)) NoMore)

abbrev pub read_sums : List Sum → List Item
read_sums [] = []
read_sums (x ∷ xs) = read_sum x ∷ read_sums xs

-- the rules that read the cells of these sums: the first two lines of a cell are kept, and the third is added
abbrev pub reading_rules : List Sum → List Item
reading_rules sums = keep_line 1 merge_what ∷ keep_line 2 merge_key ∷ read_sums sums

-- What a state has of sums.

-- an array that holds the numbers of a table
abbrev pub numbers : Table ℤ → Array
numbers [] = []
numbers (x ∷ xs) = (x.0, value.Number x.1) ∷ numbers xs

-- a variable that something was added to, or nothing
abbrev pub number_or_none : Option ℤ → Value
number_or_none None = value.Nothing
number_or_none (Some n) = value.Number n

-- the sum of a variable as a table
abbrev pub alone : Option ℤ → Table ℤ
alone None = []
alone (Some n) = ([], n) ∷ []

-- the names that no sum has: those of awk's own variables, and of the derived programs'
abbrev pub taken_names : List (List ℕ)
taken_names = merge_what ∷ merge_key ∷ (special_arrays ++ special_scalars)

abbrev pub is_taken : List ℕ → Bool
is_taken x = has_name taken_names x

-- a sum has the numbers of this table
abbrev pub Holds : State → Sum → Table ℤ → Type 0
Holds s (ByKey a) table =
    (has_name s.array_names a ≡ true) × (number_in s.array_names a < length s.arrays) × (array_in s (number_in s.array_names a) ≡ numbers table)
Holds s (Alone x) table = (n : Option ℤ) × (s.variables x ≡ number_or_none n) × (table ≡ alone n)

-- the text of a cell
abbrev pub cell_text : (name key : List ℕ) → ℤ → List ℕ
cell_text name key n = name ++ (10 ∷ (key ++ (10 ∷ (signed_decimal n ++ (10 ∷ [])))))
