-- What the parser over lists does at the tokens that no clause of a function names.
use Rattle.std.proofs.Common.{◌≡◌, false, List, ◌∷◌, refl}
use Rattle.awk_lex.specs.declared.token.Kind.{Kind}
use Rattle.awk_lex.specs.declared.token.Keyword.{Keyword}
use Rattle.awk_lex.specs.declared.token.Kind.TheVariants as t
use Rattle.awk_lex.specs.declared.token.Keyword.TheVariants as word
use Rattle.awk_grammar.specs.definitions.Height.{max_height}
use Rattle.awk_grammar.specs.support.Parser as parser

-- an expression
pub part_is_expression : (stack : List parser.Frame) (k : Kind) → ((w : Keyword) → k ≡ t.Keyword w → ⊥) → parser.start_part max_height k stack ≡ parser.start_operand max_height k false false (parser.InExpression ∷ stack)
part_is_expression stack (t.Number n) h0 = refl
part_is_expression stack (t.String b) h0 = refl
part_is_expression stack (t.Ere b) h0 = refl
part_is_expression stack (t.Name a) h0 = refl
part_is_expression stack (t.Called a) h0 = refl
part_is_expression stack (t.Keyword w) h0 = absurd (h0 w refl)
part_is_expression stack (t.BuiltIn f) h0 = refl
part_is_expression stack (t.Operator o) h0 = refl
part_is_expression stack (t.Assign o) h0 = refl
part_is_expression stack (t.Increment x) h0 = refl
part_is_expression stack t.Not h0 = refl
part_is_expression stack t.Dollar h0 = refl
part_is_expression stack t.Comma h0 = refl
part_is_expression stack t.Semicolon h0 = refl
part_is_expression stack t.Newline h0 = refl
part_is_expression stack t.Question h0 = refl
part_is_expression stack t.Colon h0 = refl
part_is_expression stack t.Bar h0 = refl
part_is_expression stack t.Append h0 = refl
part_is_expression stack t.OpenBrace h0 = refl
part_is_expression stack t.CloseBrace h0 = refl
part_is_expression stack t.OpenBracket h0 = refl
part_is_expression stack t.CloseBracket h0 = refl
part_is_expression stack t.OpenParenthesis h0 = refl
part_is_expression stack t.CloseParenthesis h0 = refl

-- a keyword that begins no print and no deletion
pub part_word : (stack : List parser.Frame) (w : Keyword) → (w ≡ word.Print → ⊥) → (w ≡ word.Printf → ⊥) → (w ≡ word.Delete → ⊥) → parser.start_part max_height (t.Keyword w) stack ≡ parser.start_operand max_height (t.Keyword w) false false (parser.InExpression ∷ stack)
part_word stack word.Begin h0 h1 h2 = refl
part_word stack word.End h0 h1 h2 = refl
part_word stack word.Function h0 h1 h2 = refl
part_word stack word.If h0 h1 h2 = refl
part_word stack word.Else h0 h1 h2 = refl
part_word stack word.While h0 h1 h2 = refl
part_word stack word.For h0 h1 h2 = refl
part_word stack word.Do h0 h1 h2 = refl
part_word stack word.Break h0 h1 h2 = refl
part_word stack word.Continue h0 h1 h2 = refl
part_word stack word.Next h0 h1 h2 = refl
part_word stack word.NextFile h0 h1 h2 = refl
part_word stack word.Exit h0 h1 h2 = refl
part_word stack word.Return h0 h1 h2 = refl
part_word stack word.Delete h0 h1 h2 = absurd (h2 refl)
part_word stack word.In h0 h1 h2 = refl
part_word stack word.Getline h0 h1 h2 = refl
part_word stack word.Print h0 h1 h2 = absurd (h0 refl)
part_word stack word.Printf h0 h1 h2 = absurd (h1 refl)

-- a keyword that begins no statement of its own
pub statement_word : (stack : List parser.Frame) (w : Keyword) → (w ≡ word.If → ⊥) → (w ≡ word.While → ⊥) → (w ≡ word.For → ⊥) → (w ≡ word.Do → ⊥) → (w ≡ word.Break → ⊥) → (w ≡ word.Continue → ⊥) → (w ≡ word.Next → ⊥) → (w ≡ word.NextFile → ⊥) → (w ≡ word.Exit → ⊥) → (w ≡ word.Return → ⊥) → parser.start_statement max_height (t.Keyword w) stack ≡ parser.start_part max_height (t.Keyword w) stack
statement_word stack word.Begin h0 h1 h2 h3 h4 h5 h6 h7 h8 h9 = refl
statement_word stack word.End h0 h1 h2 h3 h4 h5 h6 h7 h8 h9 = refl
statement_word stack word.Function h0 h1 h2 h3 h4 h5 h6 h7 h8 h9 = refl
statement_word stack word.If h0 h1 h2 h3 h4 h5 h6 h7 h8 h9 = absurd (h0 refl)
statement_word stack word.Else h0 h1 h2 h3 h4 h5 h6 h7 h8 h9 = refl
statement_word stack word.While h0 h1 h2 h3 h4 h5 h6 h7 h8 h9 = absurd (h1 refl)
statement_word stack word.For h0 h1 h2 h3 h4 h5 h6 h7 h8 h9 = absurd (h2 refl)
statement_word stack word.Do h0 h1 h2 h3 h4 h5 h6 h7 h8 h9 = absurd (h3 refl)
statement_word stack word.Break h0 h1 h2 h3 h4 h5 h6 h7 h8 h9 = absurd (h4 refl)
statement_word stack word.Continue h0 h1 h2 h3 h4 h5 h6 h7 h8 h9 = absurd (h5 refl)
statement_word stack word.Next h0 h1 h2 h3 h4 h5 h6 h7 h8 h9 = absurd (h6 refl)
statement_word stack word.NextFile h0 h1 h2 h3 h4 h5 h6 h7 h8 h9 = absurd (h7 refl)
statement_word stack word.Exit h0 h1 h2 h3 h4 h5 h6 h7 h8 h9 = absurd (h8 refl)
statement_word stack word.Return h0 h1 h2 h3 h4 h5 h6 h7 h8 h9 = absurd (h9 refl)
statement_word stack word.Delete h0 h1 h2 h3 h4 h5 h6 h7 h8 h9 = refl
statement_word stack word.In h0 h1 h2 h3 h4 h5 h6 h7 h8 h9 = refl
statement_word stack word.Getline h0 h1 h2 h3 h4 h5 h6 h7 h8 h9 = refl
statement_word stack word.Print h0 h1 h2 h3 h4 h5 h6 h7 h8 h9 = refl
statement_word stack word.Printf h0 h1 h2 h3 h4 h5 h6 h7 h8 h9 = refl
