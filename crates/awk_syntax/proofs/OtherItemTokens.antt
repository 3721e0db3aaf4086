-- What the parser over lists does at the tokens that no clause of a function names.
use Rattle.std.proofs.Common.{◌≡◌, false, List, ◌∷◌, refl}
use Rattle.awk_lex.specs.declared.token.Kind.{Kind}
use Rattle.awk_lex.specs.declared.token.Keyword.{Keyword}
use Rattle.awk_lex.specs.declared.token.Kind.TheVariants as t
use Rattle.awk_lex.specs.declared.token.Keyword.TheVariants as word
use Rattle.awk_grammar.specs.definitions.Height.{max_height}
use Rattle.awk_grammar.specs.support.Parser as parser

-- a pattern
pub item_is_pattern : (stack : List parser.Frame) (k : Kind) → (k ≡ t.Semicolon → ⊥) → (k ≡ t.Newline → ⊥) → (k ≡ t.OpenBrace → ⊥) → ((w : Keyword) → k ≡ t.Keyword w → ⊥) → parser.start_item max_height stack k ≡ parser.start_operand max_height k false false (parser.InPattern ∷ stack)
item_is_pattern stack (t.Number n) h0 h1 h2 h3 = refl
item_is_pattern stack (t.String b) h0 h1 h2 h3 = refl
item_is_pattern stack (t.Ere b) h0 h1 h2 h3 = refl
item_is_pattern stack (t.Name a) h0 h1 h2 h3 = refl
item_is_pattern stack (t.Called a) h0 h1 h2 h3 = refl
item_is_pattern stack (t.Keyword w) h0 h1 h2 h3 = absurd (h3 w refl)
item_is_pattern stack (t.BuiltIn f) h0 h1 h2 h3 = refl
item_is_pattern stack (t.Operator o) h0 h1 h2 h3 = refl
item_is_pattern stack (t.Assign o) h0 h1 h2 h3 = refl
item_is_pattern stack (t.Increment x) h0 h1 h2 h3 = refl
item_is_pattern stack t.Not h0 h1 h2 h3 = refl
item_is_pattern stack t.Dollar h0 h1 h2 h3 = refl
item_is_pattern stack t.Comma h0 h1 h2 h3 = refl
item_is_pattern stack t.Semicolon h0 h1 h2 h3 = absurd (h0 refl)
item_is_pattern stack t.Newline h0 h1 h2 h3 = absurd (h1 refl)
item_is_pattern stack t.Question h0 h1 h2 h3 = refl
item_is_pattern stack t.Colon h0 h1 h2 h3 = refl
item_is_pattern stack t.Bar h0 h1 h2 h3 = refl
item_is_pattern stack t.Append h0 h1 h2 h3 = refl
item_is_pattern stack t.OpenBrace h0 h1 h2 h3 = absurd (h2 refl)
item_is_pattern stack t.CloseBrace h0 h1 h2 h3 = refl
item_is_pattern stack t.OpenBracket h0 h1 h2 h3 = refl
item_is_pattern stack t.CloseBracket h0 h1 h2 h3 = refl
item_is_pattern stack t.OpenParenthesis h0 h1 h2 h3 = refl
item_is_pattern stack t.CloseParenthesis h0 h1 h2 h3 = refl

-- a keyword that begins no item
pub item_word : (stack : List parser.Frame) (w : Keyword) → (w ≡ word.Begin → ⊥) → (w ≡ word.End → ⊥) → (w ≡ word.Function → ⊥) → parser.start_item max_height stack (t.Keyword w) ≡ parser.start_operand max_height (t.Keyword w) false false (parser.InPattern ∷ stack)
item_word stack word.Begin h0 h1 h2 = absurd (h0 refl)
item_word stack word.End h0 h1 h2 = absurd (h1 refl)
item_word stack word.Function h0 h1 h2 = absurd (h2 refl)
item_word stack word.If h0 h1 h2 = refl
item_word stack word.Else h0 h1 h2 = refl
item_word stack word.While h0 h1 h2 = refl
item_word stack word.For h0 h1 h2 = refl
item_word stack word.Do h0 h1 h2 = refl
item_word stack word.Break h0 h1 h2 = refl
item_word stack word.Continue h0 h1 h2 = refl
item_word stack word.Next h0 h1 h2 = refl
item_word stack word.NextFile h0 h1 h2 = refl
item_word stack word.Exit h0 h1 h2 = refl
item_word stack word.Return h0 h1 h2 = refl
item_word stack word.Delete h0 h1 h2 = refl
item_word stack word.In h0 h1 h2 = refl
item_word stack word.Getline h0 h1 h2 = refl
item_word stack word.Print h0 h1 h2 = refl
item_word stack word.Printf h0 h1 h2 = refl
