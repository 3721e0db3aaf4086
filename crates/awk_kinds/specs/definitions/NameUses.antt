-- What a program does with its names besides using them as arrays (Kinds tells that): scalars, calls, the arguments that
-- are no bare name, and the names that `length` measures (POSIX awk, Variables and Special Variables; User-Defined
-- Functions; String Functions).
use Rattle.std.specs.Prelude.{ℕ, zero, suc, Bool, false, List, [], ◌∷◌, ◌++◌, ◌==◌, if◌then◌else◌}
use Rattle.awk_lex.specs.declared.token.BuiltIn.{BuiltIn as BuiltInName}
use Rattle.awk_lex.specs.declared.token.BuiltIn.TheVariants as built_in
use Rattle.awk_grammar.specs.Tree.{Expr, Number, String, Ere, Name, Element, Field, Group, Call, BuiltIn, Length, PreIncrement, PostIncrement, Getline, PipedGetline, Unary, Binary, Membership, ListMembership, Conditional, Assign, Exprs, Nil, Cons, OptionalExpr, NoExpr, AnExpr, PrintList, Bare, Parenthesized, Output, Standard, Redirected, SimpleStatement, Expression, Print, Delete, DeleteAll, Next, NextFile, Break, Continue, Exit, Return, OptionalSimple, NoSimple, ASimple, Statement, Empty, Simple, Block, If, IfElse, While, Do, ForIn, For, Statements, NoMore, Then, Pattern, Single, Range, Item, Begin, End, Action, PatternAction, PatternOnly, Function}
use Rattle.awk_kinds.specs.declared.uses.NameUse.{NameUse}
use Rattle.awk_kinds.specs.declared.uses.NameUse.TheVariants.{AsScalar, Measured, Called, Computed, NoArray}
use Rattle.awk_kinds.specs.definitions.Kinds.{Scope, variable_in, outside_functions}

abbrev pub count_of : Exprs → ℕ
count_of Nil = zero
count_of (Cons e es) = suc (count_of es)

-- the built-in makes an array of this argument
abbrev pub makes_array : BuiltInName → (place : ℕ) → Bool
makes_array built_in.Split n = n == 1
makes_array f n = false

-- wider: the built-in takes an array at this argument too, as `length` does, which counts its elements
abbrev pub measures : BuiltInName → (place : ℕ) → Bool
measures built_in.Length n = n == 0
measures f n = false

-- an argument of a call, where these are the names in it; Kinds tells which bare names are passed
abbrev pub names_in_passed : (function : List ℕ) → (place : ℕ) → Expr → List NameUse → List NameUse
names_in_passed f n (Name x) names = []
names_in_passed f n e names = Computed f n ∷ names

-- what is made an array, where these are the names in it
abbrev pub names_in_array : Expr → List NameUse → List NameUse
names_in_array (Name x) names = []
names_in_array e names = NoArray ∷ names

-- what is measured, where these are the names in it: a bare name is used, as neither a scalar nor an array
abbrev pub names_in_measured : Scope → Expr → List NameUse → List NameUse
names_in_measured scope (Name x) names = Measured (variable_in scope x) ∷ []
names_in_measured scope e names = names

-- an argument of a built-in, where these are the names in it
abbrev pub names_in_argument : Scope → BuiltInName → (place : ℕ) → Expr → List NameUse → List NameUse
names_in_argument scope f n e names =
    if makes_array f n then names_in_array e names else (if measures f n then names_in_measured scope e names else names)

abbrev mutual
  pub names_in_expr : Scope → Expr → List NameUse
  names_in_expr scope (Number n) = []
  names_in_expr scope (String bytes) = []
  names_in_expr scope (Ere text) = []
  names_in_expr scope (Name x) = AsScalar (variable_in scope x) ∷ []
  names_in_expr scope (Element x es) = names_in_list scope es
  names_in_expr scope (Field e) = names_in_expr scope e
  names_in_expr scope (Group e) = names_in_expr scope e
  names_in_expr scope (Call f es) = Called f (count_of es) ∷ names_in_call scope f 0 es
  names_in_expr scope (BuiltIn f es) = names_in_built_in scope f 0 es
  names_in_expr scope Length = []
  names_in_expr scope (PreIncrement o p) = names_in_expr scope p
  names_in_expr scope (PostIncrement o p) = names_in_expr scope p
  names_in_expr scope (Getline p file) = names_in_optional_expr scope p ++ names_in_optional_expr scope file
  names_in_expr scope (PipedGetline c p) = names_in_expr scope c ++ names_in_optional_expr scope p
  names_in_expr scope (Unary o e) = names_in_expr scope e
  names_in_expr scope (Binary o a b) = names_in_expr scope a ++ names_in_expr scope b
  names_in_expr scope (Membership e x) = names_in_expr scope e
  names_in_expr scope (ListMembership es x) = names_in_list scope es
  names_in_expr scope (Conditional c a b) = names_in_expr scope c ++ (names_in_expr scope a ++ names_in_expr scope b)
  names_in_expr scope (Assign o p e) = names_in_expr scope p ++ names_in_expr scope e

  pub names_in_list : Scope → Exprs → List NameUse
  names_in_list scope Nil = []
  names_in_list scope (Cons e es) = names_in_expr scope e ++ names_in_list scope es

  -- the arguments of a call, the first of which has this place
  pub names_in_call : Scope → (function : List ℕ) → (place : ℕ) → Exprs → List NameUse
  names_in_call scope f n Nil = []
  names_in_call scope f n (Cons e es) = names_in_passed f n e (names_in_expr scope e) ++ names_in_call scope f (suc n) es

  -- the arguments of a built-in, the first of which has this place
  pub names_in_built_in : Scope → BuiltInName → (place : ℕ) → Exprs → List NameUse
  names_in_built_in scope f n Nil = []
  names_in_built_in scope f n (Cons e es) = names_in_argument scope f n e (names_in_expr scope e) ++ names_in_built_in scope f (suc n) es

  pub names_in_optional_expr : Scope → OptionalExpr → List NameUse
  names_in_optional_expr scope NoExpr = []
  names_in_optional_expr scope (AnExpr e) = names_in_expr scope e

abbrev pub names_in_print_list : Scope → PrintList → List NameUse
names_in_print_list scope (Bare es) = names_in_list scope es
names_in_print_list scope (Parenthesized es) = names_in_list scope es

abbrev pub names_in_output : Scope → Output → List NameUse
names_in_output scope Standard = []
names_in_output scope (Redirected way e) = names_in_expr scope e

abbrev pub names_in_simple : Scope → SimpleStatement → List NameUse
names_in_simple scope (Expression e) = names_in_expr scope e
names_in_simple scope (Print form list output) = names_in_print_list scope list ++ names_in_output scope output
names_in_simple scope (Delete x es) = names_in_list scope es
names_in_simple scope (DeleteAll x) = []
names_in_simple scope Next = []
names_in_simple scope NextFile = []
names_in_simple scope Break = []
names_in_simple scope Continue = []
names_in_simple scope (Exit e) = names_in_optional_expr scope e
names_in_simple scope (Return e) = names_in_optional_expr scope e

abbrev pub names_in_optional_simple : Scope → OptionalSimple → List NameUse
names_in_optional_simple scope NoSimple = []
names_in_optional_simple scope (ASimple simple) = names_in_simple scope simple

abbrev mutual
  pub names_in_statement : Scope → Statement → List NameUse
  names_in_statement scope Empty = []
  names_in_statement scope (Simple simple) = names_in_simple scope simple
  names_in_statement scope (Block all) = names_in_block scope all
  names_in_statement scope (If c s) = names_in_expr scope c ++ names_in_statement scope s
  names_in_statement scope (IfElse c s other) = names_in_expr scope c ++ (names_in_statement scope s ++ names_in_statement scope other)
  names_in_statement scope (While c s) = names_in_expr scope c ++ names_in_statement scope s
  names_in_statement scope (Do s c) = names_in_statement scope s ++ names_in_expr scope c
  names_in_statement scope (ForIn x array s) = AsScalar (variable_in scope x) ∷ names_in_statement scope s
  names_in_statement scope (For first c last s) = names_in_optional_simple scope first ++ (names_in_optional_expr scope c ++ (names_in_optional_simple scope last ++ names_in_statement scope s))

  pub names_in_block : Scope → Statements → List NameUse
  names_in_block scope NoMore = []
  names_in_block scope (Then s all) = names_in_statement scope s ++ names_in_block scope all

abbrev pub names_in_pattern : Scope → Pattern → List NameUse
names_in_pattern scope (Single e) = names_in_expr scope e
names_in_pattern scope (Range from to) = names_in_expr scope from ++ names_in_expr scope to

abbrev pub names_in_item : Item → List NameUse
names_in_item (Begin block) = names_in_block outside_functions block
names_in_item (End block) = names_in_block outside_functions block
names_in_item (Action block) = names_in_block outside_functions block
names_in_item (PatternAction p block) = names_in_pattern outside_functions p ++ names_in_block outside_functions block
names_in_item (PatternOnly p) = names_in_pattern outside_functions p
names_in_item (Function f parameters block) = names_in_block (record { function = f; parameters = parameters }) block

abbrev pub names_in : List Item → List NameUse
names_in [] = []
names_in (x ∷ xs) = names_in_item x ++ names_in xs
