-- Words for rows: tokens, trees, and what the parser answers.
use Rattle.std.specs.Prelude.{ℕ, pos, ◌≡◌, List, [], ◌∷◌, ◌++◌, Some, None}
use Rattle.awk_lex.specs.declared.token.Kind.{Kind}
use Rattle.awk_lex.specs.declared.token.Operator.{Operator}
use Rattle.awk_grammar.specs.declared.tree.BinaryOperator.TheVariants.{Concatenate, Infix}
use Rattle.awk_lex.specs.declared.token.Kind.TheVariants as t
use Rattle.awk_lex.specs.declared.token.Keyword.TheVariants as word
use Rattle.awk_lex.specs.declared.token.IncrementOperator.TheVariants as increment
use Rattle.awk_lex.specs.declared.token.AssignmentOperator.TheVariants as assign
use Rattle.awk_grammar.specs.definitions.Tree as tree
use Rattle.awk_grammar.specs.definitions.Height.{max_height}
use Rattle.awk_grammar.specs.support.Parser.{read}

abbrev pub a : List ℕ
a = 97 ∷ []

abbrev pub b : List ℕ
b = 98 ∷ []

abbrev pub c : List ℕ
c = 99 ∷ []

abbrev pub x : List ℕ
x = 120 ∷ []

abbrev pub y : List ℕ
y = 121 ∷ []

abbrev pub z : List ℕ
z = 122 ∷ []

abbrev pub na : Kind
na = t.Name a

abbrev pub nb : Kind
nb = t.Name b

abbrev pub nx : Kind
nx = t.Name x

abbrev pub ny : Kind
ny = t.Name y

abbrev pub nz : Kind
nz = t.Name z

abbrev pub n1 : Kind
n1 = t.Number (pos 1)

abbrev pub n2 : Kind
n2 = t.Number (pos 2)

abbrev pub n3 : Kind
n3 = t.Number (pos 3)

abbrev pub op : Operator → Kind
op o = t.Operator o

abbrev pub up : Kind
up = t.Increment increment.Increment

abbrev pub set : Kind
set = t.Assign assign.Plain

abbrev pub va : tree.Expr
va = tree.Name a

abbrev pub vb : tree.Expr
vb = tree.Name b

abbrev pub vx : tree.Expr
vx = tree.Name x

abbrev pub vy : tree.Expr
vy = tree.Name y

abbrev pub vz : tree.Expr
vz = tree.Name z

abbrev pub e1 : tree.Expr
e1 = tree.Number (pos 1)

abbrev pub e2 : tree.Expr
e2 = tree.Number (pos 2)

abbrev pub e3 : tree.Expr
e3 = tree.Number (pos 3)

abbrev pub by : Operator → tree.Expr → tree.Expr → tree.Expr
by o d e = tree.Binary (Infix o) d e

abbrev pub beside : tree.Expr → tree.Expr → tree.Expr
beside d e = tree.Binary Concatenate d e

abbrev pub sets_to : tree.Expr → tree.Expr → tree.Expr
sets_to d e = tree.Assign assign.Plain d e

abbrev pub two : tree.Expr → tree.Expr → tree.Exprs
two d e = tree.Cons d (tree.Cons e tree.Nil)

abbrev pub only : tree.Expr → tree.Exprs
only d = tree.Cons d tree.Nil

abbrev pub just : tree.SimpleStatement → tree.Statements
just m = tree.Then (tree.Simple m) tree.NoMore

-- the tokens of an expression, and its tree
abbrev pub Reads : List Kind → tree.Expr → Type 0
Reads ts e = read max_height ts ≡ Some (Some (tree.PatternOnly (tree.Single e) ∷ []))

-- the tokens of the statements of an action, and their tree
abbrev pub Does : List Kind → tree.Statements → Type 0
Does ts all = read max_height (t.OpenBrace ∷ ts ++ (t.CloseBrace ∷ [])) ≡ Some (Some (tree.Action all ∷ []))

abbrev pub Prints : List Kind → tree.SimpleStatement → Type 0
Prints ts m = Does (t.Keyword word.Print ∷ ts) (just m)

-- they are no program
abbrev pub RefusedExpr : List Kind → Type 0
RefusedExpr ts = read max_height ts ≡ None

abbrev pub RefusedStatement : List Kind → Type 0
RefusedStatement ts = read max_height (t.OpenBrace ∷ ts ++ (t.CloseBrace ∷ [])) ≡ None
