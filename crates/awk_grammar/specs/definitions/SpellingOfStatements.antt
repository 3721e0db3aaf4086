-- How a statement is written (POSIX awk, Grammar: terminated_statement, unterminated_statement, simple_statement).
-- A statement without a terminator stands before `}` alone.
use Rattle.std.specs.Prelude.{ℕ, ◌≡◌, List, ◌∷◌}
use Rattle.awk_lex.specs.declared.token.Kind.{Kind}
use Rattle.awk_lex.specs.declared.token.Kind.TheVariants as t
use Rattle.awk_lex.specs.declared.token.Keyword.TheVariants as word
use Rattle.awk_lex.specs.declared.token.Operator.TheVariants as operator
use Rattle.awk_grammar.specs.declared.tree.PrintForm.{PrintForm}
use Rattle.awk_grammar.specs.declared.tree.PrintForm.TheVariants as form
use Rattle.awk_grammar.specs.declared.tree.Redirection.{Redirection}
use Rattle.awk_grammar.specs.declared.tree.Redirection.TheVariants as redirection
use Rattle.awk_grammar.specs.definitions.Tree.{PrintList, Bare, Parenthesized, Output, Standard, Redirected, SimpleStatement, OptionalSimple, NoSimple, ASimple, Statement, Empty, Simple, Block, If, IfElse, While, Do, ForIn, For, Statements, NoMore, Then}
use Rattle.awk_grammar.specs.definitions.Tree as tree
use Rattle.awk_grammar.specs.definitions.SpellingOfExpressions.{newlines, Spells, SpellsList, SpellsOptional}

-- Print, Printf
abbrev pub print_token : PrintForm → Kind
print_token form.Print = t.Keyword word.Print
print_token form.Printf = t.Keyword word.Printf

-- print_expr_list_opt, or '(' multiple_expr_list ')'; wider than the standard's print_expr_list, which has no comparison and
-- no getline
abbrev pub SpellsPrintList : PrintList → List Kind → List Kind → Type 0
SpellsPrintList (Bare xs) ts rest = SpellsList xs ts rest
SpellsPrintList (Parenthesized xs) ts rest = (u : List Kind) × (ts ≡ t.OpenParenthesis ∷ u) × SpellsList xs u (t.CloseParenthesis ∷ rest)

-- '>', APPEND, '|'
abbrev pub redirection_token : Redirection → Kind
redirection_token redirection.Truncate = t.Operator operator.Greater
redirection_token redirection.Append = t.Append
redirection_token redirection.Pipe = t.Bar

-- output_redirection, or none; narrower: its expr is what stands alone, or a field
abbrev pub SpellsOutput : Output → List Kind → List Kind → Type 0
SpellsOutput Standard ts rest = ts ≡ rest
SpellsOutput (Redirected way e) ts rest = (u : List Kind) × (ts ≡ redirection_token way ∷ u) × Spells e u rest

-- terminatable_statement, without its `do`: a simple_statement is one
abbrev pub SpellsSimple : SimpleStatement → List Kind → List Kind → Type 0
-- expr
SpellsSimple (tree.Expression e) ts rest = Spells e ts rest
-- print_statement: a simple_print_statement, and an output_redirection or none
SpellsSimple (tree.Print form xs output) ts rest = (u v : List Kind) × (ts ≡ print_token form ∷ u) × SpellsPrintList xs u v × SpellsOutput output v rest
-- Delete NAME '[' expr_list ']'
SpellsSimple (tree.Delete x xs) ts rest = (u : List Kind) × (ts ≡ t.Keyword word.Delete ∷ t.Name x ∷ t.OpenBracket ∷ u) × SpellsList xs u (t.CloseBracket ∷ rest)
-- wider: Delete NAME
SpellsSimple (tree.DeleteAll x) ts rest = ts ≡ t.Keyword word.Delete ∷ t.Name x ∷ rest
-- Next, Break, Continue; wider: `nextfile`
SpellsSimple tree.Next ts rest = ts ≡ t.Keyword word.Next ∷ rest
SpellsSimple tree.NextFile ts rest = ts ≡ t.Keyword word.NextFile ∷ rest
SpellsSimple tree.Break ts rest = ts ≡ t.Keyword word.Break ∷ rest
SpellsSimple tree.Continue ts rest = ts ≡ t.Keyword word.Continue ∷ rest
-- Exit expr_opt, Return expr_opt
SpellsSimple (tree.Exit e) ts rest = (u : List Kind) × (ts ≡ t.Keyword word.Exit ∷ u) × SpellsOptional e u rest
SpellsSimple (tree.Return e) ts rest = (u : List Kind) × (ts ≡ t.Keyword word.Return ∷ u) × SpellsOptional e u rest

-- simple_statement_opt
abbrev pub SpellsOptionalSimple : OptionalSimple → List Kind → List Kind → Type 0
SpellsOptionalSimple NoSimple ts rest = ts ≡ rest
SpellsOptionalSimple (ASimple m) ts rest = SpellsSimple m ts rest

-- the end of a simple statement: a terminator and newline_opt, or the `}` behind it
pub data Ended : List Kind → List Kind → Type 0 where
  BySemicolon : (n : ℕ) (rest : List Kind) → Ended (t.Semicolon ∷ newlines n rest) rest
  ByNewline : (n : ℕ) (rest : List Kind) → Ended (t.Newline ∷ newlines n rest) rest
  -- unterminated
  ByBrace : (rest : List Kind) → Ended (t.CloseBrace ∷ rest) (t.CloseBrace ∷ rest)

-- the first token, newlines passed over, isn't `else`: it would belong to the `if` before it
abbrev pub NoElse : List Kind → Type 0
NoElse (t.Newline ∷ ts) = NoElse ts
NoElse (t.Keyword word.Else ∷ ts) = ⊥
NoElse ts = Unit {0}

-- newline_opt may follow a statement, each `{`, and the `)` of `if`, `while` and `for`
abbrev mutual
  -- terminated_statement, and unterminated_statement before `}`
  pub SpellsStatement : Statement → List Kind → List Kind → Type 0
  -- ';'
  SpellsStatement Empty ts rest = (n : ℕ) × (ts ≡ t.Semicolon ∷ newlines n rest)
  -- terminatable_statement
  SpellsStatement (Simple m) ts rest = (u : List Kind) × SpellsSimple m ts u × Ended u rest
  -- action newline_opt
  SpellsStatement (Block all) ts rest = (n m : ℕ) × (u : List Kind) × (ts ≡ t.OpenBrace ∷ newlines n u) × SpellsAll all u (t.CloseBrace ∷ newlines m rest)
  -- If '(' expr ')' newline_opt terminated_statement
  SpellsStatement (If c x) ts rest = (n : ℕ) × (u v : List Kind) × (ts ≡ t.Keyword word.If ∷ t.OpenParenthesis ∷ u) × Spells c u (t.CloseParenthesis ∷ newlines n v) × SpellsStatement x v rest × NoElse rest
  -- If '(' expr ')' newline_opt terminated_statement Else newline_opt terminated_statement
  SpellsStatement (IfElse c x y) ts rest = (n m : ℕ) × (u v w : List Kind) × (ts ≡ t.Keyword word.If ∷ t.OpenParenthesis ∷ u) × Spells c u (t.CloseParenthesis ∷ newlines n v) × SpellsStatement x v (t.Keyword word.Else ∷ newlines m w) × SpellsStatement y w rest
  -- While '(' expr ')' newline_opt terminated_statement
  SpellsStatement (While c x) ts rest = (n : ℕ) × (u v : List Kind) × (ts ≡ t.Keyword word.While ∷ t.OpenParenthesis ∷ u) × Spells c u (t.CloseParenthesis ∷ newlines n v) × SpellsStatement x v rest
  -- Do newline_opt terminated_statement While '(' expr ')', and its end
  SpellsStatement (Do x c) ts rest = (n : ℕ) × (u v w : List Kind) × (ts ≡ t.Keyword word.Do ∷ newlines n u) × SpellsStatement x u (t.Keyword word.While ∷ t.OpenParenthesis ∷ v) × Spells c v (t.CloseParenthesis ∷ w) × Ended w rest
  -- For '(' NAME In NAME ')' newline_opt terminated_statement
  SpellsStatement (ForIn x a y) ts rest = (n : ℕ) × (u : List Kind) × (ts ≡ t.Keyword word.For ∷ t.OpenParenthesis ∷ t.Name x ∷ t.Keyword word.In ∷ t.Name a ∷ t.CloseParenthesis ∷ newlines n u) × SpellsStatement y u rest
  -- For '(' simple_statement_opt ';' expr_opt ';' simple_statement_opt ')' newline_opt terminated_statement
  SpellsStatement (For first c last x) ts rest = (n : ℕ) × (u v w y : List Kind) × (ts ≡ t.Keyword word.For ∷ t.OpenParenthesis ∷ u) × SpellsOptionalSimple first u (t.Semicolon ∷ v) × SpellsOptional c v (t.Semicolon ∷ w) × SpellsOptionalSimple last w (t.CloseParenthesis ∷ newlines n y) × SpellsStatement x y rest

  -- terminated_statement_list, unterminated_statement_list
  pub SpellsAll : Statements → List Kind → List Kind → Type 0
  SpellsAll NoMore ts rest = ts ≡ rest
  SpellsAll (Then x all) ts rest = (u : List Kind) × SpellsStatement x ts u × SpellsAll all u rest
