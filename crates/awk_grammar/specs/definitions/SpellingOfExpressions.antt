-- How an expression is written (POSIX awk, Grammar: expr, unary_expr, non_unary_expr, lvalue, simple_get).
-- This grammar is narrower than the standard's in what may stand behind `$`, in the file of a getline, and in where an
-- assignment may stand without parentheses.
use Rattle.std.specs.Prelude.{ℕ, zero, suc, ◌≡◌, Bool, true, false, ◌&&◌, List, ◌∷◌}
use Rattle.awk_lex.specs.declared.token.Kind.{Kind}
use Rattle.awk_lex.specs.declared.token.Kind.TheVariants as t
use Rattle.awk_lex.specs.declared.token.Keyword.TheVariants as word
use Rattle.awk_lex.specs.declared.token.BuiltIn.TheVariants as built_in
use Rattle.awk_lex.specs.declared.token.Operator.{Operator}
use Rattle.awk_lex.specs.declared.token.Operator.TheVariants as operator
use Rattle.awk_grammar.specs.declared.tree.UnaryOperator.{UnaryOperator}
use Rattle.awk_grammar.specs.declared.tree.UnaryOperator.TheVariants as unary
use Rattle.awk_grammar.specs.declared.tree.BinaryOperator.{BinaryOperator}
use Rattle.awk_grammar.specs.declared.tree.BinaryOperator.TheVariants.{Concatenate, Infix}
use Rattle.awk_grammar.specs.definitions.Tree.{Expr, Number, String, Ere, Name, Element, Field, Group, Call, BuiltIn, Length, PreIncrement, PostIncrement, Getline, PipedGetline, Unary, Binary, Membership, ListMembership, Conditional, Assign, Exprs, Nil, Cons, OptionalExpr, NoExpr, AnExpr}
use Rattle.awk_grammar.specs.definitions.Arguments.{is_place}

-- newline_opt
abbrev pub newlines : ℕ → List Kind → List Kind
newlines zero ts = ts
newlines (suc n) ts = t.Newline ∷ newlines n ts

-- the operators that newline_opt may follow
abbrev pub allows_newlines : Operator → Bool
allows_newlines operator.And = true
allows_newlines operator.Or = true
allows_newlines o = false

abbrev pub newlines_if : Bool → ℕ → List Kind → List Kind
newlines_if true n ts = newlines n ts
newlines_if false n ts = ts

-- the token that stands before an operand
abbrev pub prefix_of : UnaryOperator → Kind
prefix_of unary.Not = t.Not
prefix_of unary.Plus = t.Operator operator.Plus
prefix_of unary.Minus = t.Operator operator.Minus

-- the first token is `+` or `-`
abbrev pub begins_sign : List Kind → Bool
begins_sign (t.Operator operator.Plus ∷ ts) = true
begins_sign (t.Operator operator.Minus ∷ ts) = true
begins_sign ts = false

-- `++` or `--`
abbrev pub begins_increment : List Kind → Bool
begins_increment (t.Increment o ∷ ts) = true
begins_increment ts = false

-- a name or `$`
abbrev pub begins_place : List Kind → Bool
begins_place (t.Name x ∷ ts) = true
begins_place (t.Dollar ∷ ts) = true
begins_place ts = false

-- `<`
abbrev pub begins_less : List Kind → Bool
begins_less (t.Operator operator.Less ∷ ts) = true
begins_less ts = false

-- `(`
abbrev pub begins_parenthesis : List Kind → Bool
begins_parenthesis (t.OpenParenthesis ∷ ts) = true
begins_parenthesis ts = false

-- From u to v the operator is written. Where it is nothing, the right operand begins with no sign: that would be a sum.
abbrev pub Joined : BinaryOperator → List Kind → List Kind → Type 0
Joined Concatenate u v = (u ≡ v) × (begins_sign v ≡ false)
Joined (Infix o) u v = (n : ℕ) × (u ≡ t.Operator o ∷ newlines_if (allows_newlines o) n v)

-- A place that stands as an operand isn't followed by `++` or `--`: these would belong to it.
abbrev pub StandsAsOperand : Expr → List Kind → Type 0
StandsAsOperand e rest = (is_place e && begins_increment rest) ≡ false

-- The tokens begin with the tree, written from left to right, and then comes the rest.
abbrev mutual
  -- expr
  pub Spells : Expr → List Kind → List Kind → Type 0
  -- NUMBER, STRING, ERE, NAME
  Spells (Number n) ts rest = ts ≡ t.Number n ∷ rest
  Spells (String bytes) ts rest = ts ≡ t.String bytes ∷ rest
  Spells (Ere text) ts rest = ts ≡ t.Ere text ∷ rest
  Spells (Name x) ts rest = ts ≡ t.Name x ∷ rest
  -- NAME '[' expr_list ']'
  Spells (Element x xs) ts rest = (u : List Kind) × (ts ≡ t.Name x ∷ t.OpenBracket ∷ u) × SpellsList xs u (t.CloseBracket ∷ rest)
  -- '$' expr; narrower: what stands alone, another field, or `++` or `--` before a place
  Spells (Field e) ts rest = (u : List Kind) × (ts ≡ t.Dollar ∷ u) × Spells e u rest
  -- '(' expr ')'
  Spells (Group e) ts rest = (u : List Kind) × (ts ≡ t.OpenParenthesis ∷ u) × Spells e u (t.CloseParenthesis ∷ rest)
  -- FUNC_NAME '(' expr_list_opt ')'
  Spells (Call f xs) ts rest = (u : List Kind) × (ts ≡ t.Called f ∷ t.OpenParenthesis ∷ u) × SpellsList xs u (t.CloseParenthesis ∷ rest)
  -- BUILTIN_FUNC_NAME '(' expr_list_opt ')'; narrower: so many arguments as it takes
  Spells (BuiltIn f xs) ts rest = (u : List Kind) × (ts ≡ t.BuiltIn f ∷ t.OpenParenthesis ∷ u) × SpellsList xs u (t.CloseParenthesis ∷ rest)
  -- BUILTIN_FUNC_NAME; narrower: of `length` alone
  Spells Length ts rest = (ts ≡ t.BuiltIn built_in.Length ∷ rest) × (begins_parenthesis rest ≡ false)
  -- INCR lvalue, DECR lvalue
  Spells (PreIncrement o p) ts rest = (u : List Kind) × (ts ≡ t.Increment o ∷ u) × Spells p u rest
  -- lvalue INCR, lvalue DECR
  Spells (PostIncrement o p) ts rest = Spells p ts (t.Increment o ∷ rest)
  -- simple_get, simple_get '<' expr
  Spells (Getline p file) ts rest = (u v : List Kind) × (ts ≡ t.Keyword word.Getline ∷ u) × SpellsPlace p u v × SpellsFile file v rest
  -- unary_expr '|' simple_get, non_unary_expr '|' simple_get; narrower: its command is of the level
  -- `pipe` at most
  Spells (PipedGetline c p) ts rest = (u : List Kind) × Spells c ts (t.Bar ∷ t.Keyword word.Getline ∷ u) × SpellsPlace p u rest
  -- '!' expr, '+' expr, '-' expr
  Spells (Unary o e) ts rest = (u : List Kind) × (ts ≡ prefix_of o ∷ u) × Spells e u rest × StandsAsOperand e rest
  -- expr '^' expr .. expr Or newline_opt expr, and non_unary_expr non_unary_expr
  Spells (Binary o a b) ts rest = (u v : List Kind) × Spells a ts u × StandsAsOperand a u × Joined o u v × Spells b v rest × StandsAsOperand b rest
  -- expr In NAME
  Spells (Membership e x) ts rest = Spells e ts (t.Keyword word.In ∷ t.Name x ∷ rest)
  -- '(' multiple_expr_list ')' In NAME
  Spells (ListMembership xs x) ts rest = (u : List Kind) × (ts ≡ t.OpenParenthesis ∷ u) × SpellsList xs u (t.CloseParenthesis ∷ t.Keyword word.In ∷ t.Name x ∷ rest)
  -- expr '?' expr ':' expr
  Spells (Conditional c a b) ts rest = (u v : List Kind) × Spells c ts (t.Question ∷ u) × Spells a u (t.Colon ∷ v) × Spells b v rest × StandsAsOperand b rest
  -- lvalue POW_ASSIGN expr .. lvalue '=' expr; narrower: without parentheses it is an operand of `&&`, `||`, `?:` and
  -- other assignments alone, and behind them
  Spells (Assign o p e) ts rest = (u : List Kind) × Spells p ts (t.Assign o ∷ u) × Spells e u rest × StandsAsOperand e rest

  -- expr_list_opt
  pub SpellsList : Exprs → List Kind → List Kind → Type 0
  SpellsList Nil ts rest = ts ≡ rest
  SpellsList (Cons e xs) ts rest = (u : List Kind) × Spells e ts u × SpellsMore xs u rest

  -- more of a multiple_expr_list: newline_opt may follow each comma
  pub SpellsMore : Exprs → List Kind → List Kind → Type 0
  SpellsMore Nil ts rest = ts ≡ rest
  SpellsMore (Cons e xs) ts rest = (n : ℕ) × (u v : List Kind) × (ts ≡ t.Comma ∷ newlines n u) × Spells e u v × SpellsMore xs v rest

  -- the lvalue of a simple_get; without one, what follows the word begins none
  pub SpellsPlace : OptionalExpr → List Kind → List Kind → Type 0
  SpellsPlace NoExpr ts rest = (ts ≡ rest) × (begins_place rest ≡ false)
  SpellsPlace (AnExpr p) ts rest = Spells p ts rest

  -- '<' expr, the file of a getline that stands behind no pipe; narrower: what stands alone, or a
  -- field. Without one, no `<` follows.
  pub SpellsFile : OptionalExpr → List Kind → List Kind → Type 0
  SpellsFile NoExpr ts rest = (ts ≡ rest) × (begins_less rest ≡ false)
  SpellsFile (AnExpr e) ts rest = (u : List Kind) × (ts ≡ t.Operator operator.Less ∷ u) × Spells e u rest

-- expr_opt
abbrev pub SpellsOptional : OptionalExpr → List Kind → List Kind → Type 0
SpellsOptional NoExpr ts rest = ts ≡ rest
SpellsOptional (AnExpr e) ts rest = Spells e ts rest
