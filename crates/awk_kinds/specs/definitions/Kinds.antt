-- Which names of a program are arrays (POSIX awk, Variables and Special Variables; User-Defined Functions): the least set
-- that holds ARGV, ENVIRON and every name that is subscripted, walked, deleted from, split into, right of `in`, or passed
-- where one of the set stands; wider: emptied by `delete`. A parameter is a name of its own function. That `length` counts
-- the elements of a name makes no array of it.
use Rattle.std.specs.Prelude.{◌≡◌, ℕ, zero, suc, Bool, true, false, ◌&&◌, List, [], ◌∷◌, ◌++◌, length, map, filter, slice_get, bytes_eq, Option, Some, None, if◌then◌else◌}
use Rattle.std.specs.List.{list_any}
use Rattle.awk_kinds.specs.definitions.Names.{has_name, with_name}
use Rattle.awk_lex.specs.declared.token.BuiltIn.{BuiltIn as BuiltInName}
use Rattle.awk_lex.specs.declared.token.BuiltIn.TheVariants as built_in
use Rattle.awk_grammar.specs.Tree.{Expr, Number, String, Ere, Name, Element, Field, Group, Call, BuiltIn, Length, PreIncrement, PostIncrement, Getline, PipedGetline, Unary, Binary, Membership, ListMembership, Conditional, Assign, Exprs, Nil, Cons, OptionalExpr, NoExpr, AnExpr, PrintList, Bare, Parenthesized, Output, Standard, Redirected, SimpleStatement, Expression, Print, Delete, DeleteAll, Next, NextFile, Break, Continue, Exit, Return, OptionalSimple, NoSimple, ASimple, Statement, Empty, Simple, Block, If, IfElse, While, Do, ForIn, For, Statements, NoMore, Then, Pattern, Single, Range, Item, Begin, End, Action, PatternAction, PatternOnly, Function}
use Rattle.awk_kinds.specs.declared.variable.Variable.{Variable}
use Rattle.awk_kinds.specs.declared.variable.Variable.TheVariants.{Global, Parameter}
use Rattle.awk_kinds.specs.declared.uses.ArrayUse.{ArrayUse}
use Rattle.awk_kinds.specs.declared.uses.ArrayUse.TheVariants.{Used, Passed}
use Rattle.awk_kinds.specs.definitions.SpecialNames.{special_arrays}

abbrev pub same_variable : Variable → Variable → Bool
same_variable (Global x) (Global y) = bytes_eq x y
same_variable (Parameter f x) (Parameter g y) = bytes_eq f g && bytes_eq x y
same_variable v w = false

-- where a form stands: in a function with these parameters, or in no function, with none
pub record Scope : Type 0 where
  pub function : List ℕ
  pub parameters : List (List ℕ)

abbrev pub variable_in : Scope → List ℕ → Variable
variable_in scope x = if has_name scope.parameters x then Parameter scope.function x else Global x

abbrev pub used : Scope → List ℕ → List ArrayUse
used scope x = Used (variable_in scope x) ∷ []

-- a bare name as an argument of a call
abbrev pub passed : Scope → (function : List ℕ) → (place : ℕ) → Expr → List ArrayUse
passed scope f n (Name x) = Passed (variable_in scope x) f n ∷ []
passed scope f n e = []

-- the array that `split` makes
abbrev pub split_into : Scope → BuiltInName → Exprs → List ArrayUse
split_into scope built_in.Split (Cons s (Cons (Name x) es)) = used scope x
split_into scope f es = []

-- the uses of names as arrays, and the passings, in a form
abbrev mutual
  pub uses_in_expr : Scope → Expr → List ArrayUse
  uses_in_expr scope (Number n) = []
  uses_in_expr scope (String bytes) = []
  uses_in_expr scope (Ere text) = []
  uses_in_expr scope (Name x) = []
  uses_in_expr scope (Element x es) = used scope x ++ uses_in_list scope es
  uses_in_expr scope (Field e) = uses_in_expr scope e
  uses_in_expr scope (Group e) = uses_in_expr scope e
  uses_in_expr scope (Call f es) = uses_in_arguments scope f 0 es
  uses_in_expr scope (BuiltIn f es) = split_into scope f es ++ uses_in_list scope es
  uses_in_expr scope Length = []
  uses_in_expr scope (PreIncrement o p) = uses_in_expr scope p
  uses_in_expr scope (PostIncrement o p) = uses_in_expr scope p
  uses_in_expr scope (Getline p file) = uses_in_optional_expr scope p ++ uses_in_optional_expr scope file
  uses_in_expr scope (PipedGetline c p) = uses_in_expr scope c ++ uses_in_optional_expr scope p
  uses_in_expr scope (Unary o e) = uses_in_expr scope e
  uses_in_expr scope (Binary o a b) = uses_in_expr scope a ++ uses_in_expr scope b
  uses_in_expr scope (Membership e x) = uses_in_expr scope e ++ used scope x
  uses_in_expr scope (ListMembership es x) = uses_in_list scope es ++ used scope x
  uses_in_expr scope (Conditional c a b) = uses_in_expr scope c ++ (uses_in_expr scope a ++ uses_in_expr scope b)
  uses_in_expr scope (Assign o p e) = uses_in_expr scope p ++ uses_in_expr scope e

  pub uses_in_list : Scope → Exprs → List ArrayUse
  uses_in_list scope Nil = []
  uses_in_list scope (Cons e es) = uses_in_expr scope e ++ uses_in_list scope es

  -- the arguments of a call, the first of which has this place
  pub uses_in_arguments : Scope → (function : List ℕ) → (place : ℕ) → Exprs → List ArrayUse
  uses_in_arguments scope f n Nil = []
  uses_in_arguments scope f n (Cons e es) = passed scope f n e ++ (uses_in_expr scope e ++ uses_in_arguments scope f (suc n) es)

  pub uses_in_optional_expr : Scope → OptionalExpr → List ArrayUse
  uses_in_optional_expr scope NoExpr = []
  uses_in_optional_expr scope (AnExpr e) = uses_in_expr scope e

abbrev pub uses_in_print_list : Scope → PrintList → List ArrayUse
uses_in_print_list scope (Bare es) = uses_in_list scope es
uses_in_print_list scope (Parenthesized es) = uses_in_list scope es

abbrev pub uses_in_output : Scope → Output → List ArrayUse
uses_in_output scope Standard = []
uses_in_output scope (Redirected way e) = uses_in_expr scope e

abbrev pub uses_in_simple : Scope → SimpleStatement → List ArrayUse
uses_in_simple scope (Expression e) = uses_in_expr scope e
uses_in_simple scope (Print form list output) = uses_in_print_list scope list ++ uses_in_output scope output
uses_in_simple scope (Delete x es) = used scope x ++ uses_in_list scope es
uses_in_simple scope (DeleteAll x) = used scope x
uses_in_simple scope Next = []
uses_in_simple scope NextFile = []
uses_in_simple scope Break = []
uses_in_simple scope Continue = []
uses_in_simple scope (Exit e) = uses_in_optional_expr scope e
uses_in_simple scope (Return e) = uses_in_optional_expr scope e

abbrev pub uses_in_optional_simple : Scope → OptionalSimple → List ArrayUse
uses_in_optional_simple scope NoSimple = []
uses_in_optional_simple scope (ASimple simple) = uses_in_simple scope simple

abbrev mutual
  pub uses_in_statement : Scope → Statement → List ArrayUse
  uses_in_statement scope Empty = []
  uses_in_statement scope (Simple simple) = uses_in_simple scope simple
  uses_in_statement scope (Block all) = uses_in_block scope all
  uses_in_statement scope (If c s) = uses_in_expr scope c ++ uses_in_statement scope s
  uses_in_statement scope (IfElse c s other) = uses_in_expr scope c ++ (uses_in_statement scope s ++ uses_in_statement scope other)
  uses_in_statement scope (While c s) = uses_in_expr scope c ++ uses_in_statement scope s
  uses_in_statement scope (Do s c) = uses_in_statement scope s ++ uses_in_expr scope c
  uses_in_statement scope (ForIn x array s) = used scope array ++ uses_in_statement scope s
  uses_in_statement scope (For first c last s) = uses_in_optional_simple scope first ++ (uses_in_optional_expr scope c ++ (uses_in_optional_simple scope last ++ uses_in_statement scope s))

  pub uses_in_block : Scope → Statements → List ArrayUse
  uses_in_block scope NoMore = []
  uses_in_block scope (Then s all) = uses_in_statement scope s ++ uses_in_block scope all

abbrev pub uses_in_pattern : Scope → Pattern → List ArrayUse
uses_in_pattern scope (Single e) = uses_in_expr scope e
uses_in_pattern scope (Range from to) = uses_in_expr scope from ++ uses_in_expr scope to

abbrev pub outside_functions : Scope
outside_functions = record { function = []; parameters = [] }

abbrev pub uses_in_item : Item → List ArrayUse
uses_in_item (Begin block) = uses_in_block outside_functions block
uses_in_item (End block) = uses_in_block outside_functions block
uses_in_item (Action block) = uses_in_block outside_functions block
uses_in_item (PatternAction p block) = uses_in_pattern outside_functions p ++ uses_in_block outside_functions block
uses_in_item (PatternOnly p) = uses_in_pattern outside_functions p
uses_in_item (Function f parameters block) = uses_in_block (record { function = f; parameters = parameters }) block

abbrev pub uses_in : List Item → List ArrayUse
uses_in [] = []
uses_in (x ∷ xs) = uses_in_item x ++ uses_in xs

-- the parameters of a function
abbrev pub parameters_of : List Item → (function : List ℕ) → List (List ℕ)
parameters_of [] f = []
parameters_of (Function g parameters block ∷ xs) f = if bytes_eq f g then parameters else parameters_of xs f
parameters_of (x ∷ xs) f = parameters_of xs f

abbrev pub is_member : List Variable → Variable → Bool
is_member vs v = list_any (same_variable v) vs

-- the parameter at a place, if there is one, is among the variables
abbrev pub is_parameter_among : List Variable → (function : List ℕ) → Option (List ℕ) → Bool
is_parameter_among vs f None = false
is_parameter_among vs f (Some x) = is_member vs (Parameter f x)

-- the variable that a use tells to be an array, where these are known to be
abbrev pub told_by : List Item → List Variable → ArrayUse → List Variable
told_by items known (Used v) = v ∷ []
told_by items known (Passed v f n) = if is_parameter_among known f (slice_get (parameters_of items f) n) then v ∷ [] else []

abbrev pub all_told_by : List Item → List Variable → List ArrayUse → List Variable
all_told_by items known [] = []
all_told_by items known (use' ∷ uses) = told_by items known use' ++ all_told_by items known uses

-- after so many rounds over the program
abbrev pub arrays_within : List Item → (rounds : ℕ) → List Variable
arrays_within items zero = map (λ x. Global x) special_arrays
arrays_within items (suc n) = map (λ x. Global x) special_arrays ++ all_told_by items (arrays_within items n) (uses_in items)

-- the arrays of a program: each round but the last finds one more, so there are no more rounds than uses
abbrev pub arrays_of : List Item → List Variable
arrays_of items = arrays_within items (suc (length (uses_in items)))

-- the variable that a use tells of
abbrev pub in_array_use : ArrayUse → Variable
in_array_use (Used v) = v
in_array_use (Passed v f n) = v

abbrev pub with_global : List (List ℕ) → Variable → List (List ℕ)
with_global names (Global x) = with_name names x
with_global names (Parameter f x) = names

abbrev pub globals_among : List (List ℕ) → List Variable → List (List ℕ)
globals_among names [] = names
globals_among names (v ∷ vs) = globals_among (with_global names v) vs

-- the names of arrays of the whole program, each once: those of the special variables, and then each where the text first uses
-- it as an array or passes it
abbrev pub array_names_of : List Item → List (List ℕ)
array_names_of items = globals_among special_arrays (filter (is_member (arrays_of items)) (map in_array_use (uses_in items)))

-- a function: its name, its parameters, and whether each is an array, and its body
pub record FormalParameter : Type 0 where
  pub name : List ℕ
  pub is_array : Bool

pub record Definition : Type 0 where
  pub name : List ℕ
  pub parameters : List FormalParameter
  pub body : Statements

abbrev pub parameter_by : List Variable → (function name : List ℕ) → FormalParameter
parameter_by arrays f x = record { name = x; is_array = is_member arrays (Parameter f x) }

abbrev pub definitions_by : List Variable → List Item → List Definition
definitions_by arrays [] = []
definitions_by arrays (Function f parameters block ∷ xs) = record { name = f; parameters = map (parameter_by arrays f) parameters; body = block } ∷ definitions_by arrays xs
definitions_by arrays (x ∷ xs) = definitions_by arrays xs

-- the functions of a program
abbrev pub definitions_of : List Item → List Definition
definitions_of items = definitions_by (arrays_of items) items

abbrev pub function_names_of : List Item → List (List ℕ)
function_names_of items = map (λ (d : Definition). d.name) (definitions_of items)

-- What a resolver shows of this: the arrays are the least set that the uses tell. A set of variables is closed if it holds
-- what the uses tell where some of its members are known.
pub record IsClosed (items : List Item) (Is : Variable → Type 0) : Type 0 where
  pub special : (x : List ℕ) → has_name special_arrays x ≡ true → Is (Global x)
  pub told : (known : List Variable) → ((w : Variable) → is_member known w ≡ true → Is w) → (v : Variable) → is_member (all_told_by items known (uses_in items)) v ≡ true → Is v

pub record IsLeast (items : List Item) : Type 0 where
  pub closed : IsClosed items (λ v. is_member (arrays_of items) v ≡ true)
  pub least : (test : Variable → Bool) → IsClosed items (λ v. test v ≡ true) → (v : Variable) → is_member (arrays_of items) v ≡ true → test v ≡ true

abbrev pub LawOfKinds : Type 0
LawOfKinds = (items : List Item) → IsLeast items
