-- Rows: which programs are read, as which trees, which are refused, and which are too high.
use Rattle.std.specs.Prelude.{ℕ, zero, suc, ◌≡◌, refl, List, [], ◌∷◌, Some, None}
use Rattle.awk_lex.specs.declared.token.Kind.{Kind}
use Rattle.awk_lex.specs.declared.token.Kind.TheVariants as t
use Rattle.awk_lex.specs.declared.token.Keyword.TheVariants as word
use Rattle.awk_lex.specs.declared.token.Operator.TheVariants as operator
use Rattle.awk_grammar.specs.declared.tree.PrintForm.TheVariants as form
use Rattle.awk_grammar.specs.definitions.Tree as tree
use Rattle.awk_grammar.specs.definitions.Height.{max_height, height_of_block, height_of_program}
use Rattle.awk_grammar.proofs.RowWords.{a, b, c, y, na, nb, nx, ny, n1, vx, vy, e1, by, only, just}
use Rattle.awk_grammar.specs.support.Parser.{read}

-- the empty program; ; BEGIN { } x, newline y { } function c(a, b) newline { return } /a/ ;
empty : read max_height [] ≡ Some (Some ([]))
empty = refl

program : read max_height (t.Semicolon ∷ t.Keyword word.Begin ∷ t.OpenBrace ∷ t.Newline ∷ t.CloseBrace ∷ nx ∷ t.Comma ∷ t.Newline ∷ ny ∷ t.OpenBrace ∷ t.CloseBrace ∷ t.Keyword word.Function ∷ t.Called c ∷ t.OpenParenthesis ∷ na ∷ t.Comma ∷ nb ∷ t.CloseParenthesis ∷ t.Newline ∷ t.OpenBrace ∷ t.Keyword word.Return ∷ t.CloseBrace ∷ t.Ere a ∷ t.Semicolon ∷ []) ≡ Some (Some ((tree.Begin tree.NoMore ∷ tree.PatternAction (tree.Range vx vy) tree.NoMore ∷ tree.Function c (a ∷ b ∷ []) (just (tree.Return tree.NoExpr)) ∷ tree.PatternOnly (tree.Single (tree.Ere a)) ∷ [])))
program = refl

begin_newline : read max_height (t.Keyword word.Begin ∷ t.Newline ∷ t.OpenBrace ∷ t.CloseBrace ∷ []) ≡ None
begin_newline = refl

no_parameters : read max_height (t.Keyword word.Function ∷ t.Name c ∷ t.OpenParenthesis ∷ t.CloseParenthesis ∷ t.OpenBrace ∷ t.CloseBrace ∷ []) ≡ Some (Some ((tree.Function c [] tree.NoMore ∷ [])))
no_parameters = refl

-- 196 and 197 pairs of parentheses in `BEGIN{print ..}`; the body of `function f(n){return f(n+1)}`
abbrev groups : ℕ → tree.Expr → tree.Expr
groups zero e = e
groups (suc n) e = tree.Group (groups n e)

high : height_of_program (tree.Begin (just (tree.Print form.Print (tree.Bare (only (groups 196 e1))) tree.Standard)) ∷ []) ≡ 200
high = refl

higher : height_of_program (tree.Begin (just (tree.Print form.Print (tree.Bare (only (groups 197 e1))) tree.Standard)) ∷ []) ≡ 201
higher = refl

body : height_of_block (just (tree.Return (tree.AnExpr (tree.Call c (only (by operator.Plus vx e1)))))) ≡ 5
body = refl

-- function c(a,) { } and a newline behind the parenthesis
comma_parameters : read max_height (t.Keyword word.Function ∷ t.Called c ∷ t.OpenParenthesis ∷ na ∷ t.Comma ∷ t.CloseParenthesis ∷ t.OpenBrace ∷ t.CloseBrace ∷ []) ≡ None
comma_parameters = refl

newline_parameters : read max_height (t.Keyword word.Function ∷ t.Called c ∷ t.OpenParenthesis ∷ t.Newline ∷ na ∷ t.CloseParenthesis ∷ t.OpenBrace ∷ t.CloseBrace ∷ []) ≡ None
newline_parameters = refl

-- BEGIN { print ((..1..)) }
abbrev many : ℕ → Kind → List Kind → List Kind
many zero y ts = ts
many (suc n) y ts = y ∷ many n y ts

abbrev parenthesized : ℕ → List Kind
parenthesized n = t.Keyword word.Begin ∷ t.OpenBrace ∷ t.Keyword word.Print ∷ many n t.OpenParenthesis (n1 ∷ many n t.CloseParenthesis (t.CloseBrace ∷ []))

height_allowed : read max_height (parenthesized 196) ≡ Some (Some (tree.Begin (just (tree.Print form.Print (tree.Bare (only (groups 196 e1))) tree.Standard)) ∷ []))
height_allowed = refl

height_refused : read max_height (parenthesized 197) ≡ Some None
height_refused = refl
