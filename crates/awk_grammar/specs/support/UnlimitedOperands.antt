-- What it does at the tokens of an operand.
use Rattle.std.specs.Prelude.{ℕ, Bool, true, false, nat_le, not, List, ◌∷◌}
use Rattle.awk_lex.specs.declared.token.Kind.{Kind}
use Rattle.awk_grammar.specs.declared.tree.UnaryOperator.{UnaryOperator}
use Rattle.awk_lex.specs.declared.token.BuiltIn.{BuiltIn as BuiltInName}
use Rattle.awk_lex.specs.declared.token.Kind.TheVariants as t
use Rattle.awk_lex.specs.declared.token.Keyword.TheVariants as word
use Rattle.awk_lex.specs.declared.token.BuiltIn.TheVariants as built_in
use Rattle.awk_lex.specs.declared.token.Operator.TheVariants as operator
use Rattle.awk_grammar.specs.declared.tree.UnaryOperator.TheVariants as prefix
use Rattle.awk_grammar.specs.definitions.Tree.{Expr, Number, String, Ere, Element, Group, Call, BuiltIn, Exprs, Nil, Cons, OptionalExpr, NoExpr, AnExpr}
use Rattle.awk_grammar.specs.definitions.Precedence.{pre_increment, post_increment, unary}
use Rattle.awk_grammar.specs.definitions.Arguments.{is_place, accepts_list}
use Rattle.awk_grammar.specs.support.Nodes.{append}
use Rattle.awk_grammar.specs.support.UnlimitedState.{Frame, InGroup, InCall, InBuiltIn, InElement, InField, InPreIncrement, InUnary, InSecondChoice, InGetlineFile, greatest_allowed_on, ParserState, BeforeOperand, AfterOperand, AfterName, AfterLength, AfterGetline, BeforeParenthesis, AfterList, Failed, when}

-- a sign or `!`
abbrev pub start_unary : UnaryOperator → Bool → List Frame → ParserState
start_unary o g k = when (nat_le unary (greatest_allowed_on k)) (BeforeOperand false g (InUnary o ∷ k))

-- `)` where an argument could begin
abbrev pub close_empty_list : List Frame → ParserState
close_empty_list (InCall f g Nil ∷ k) = AfterOperand g (Call f Nil) k
close_empty_list (InBuiltIn f g Nil ∷ k) = when (accepts_list f Nil) (AfterOperand g (BuiltIn f Nil) k)
close_empty_list k = Failed

-- where an operand begins; l: newlines may stand before it
abbrev pub start_operand : Kind → Bool → Bool → List Frame → ParserState
start_operand (t.Number n) s g k = AfterOperand g (Number n) k
start_operand (t.String b) s g k = AfterOperand g (String b) k
start_operand (t.Ere b) s g k = AfterOperand g (Ere b) k
start_operand (t.Name a) s g k = AfterName a g k
start_operand (t.Called f) s g k = BeforeParenthesis (InCall f g Nil) g k
start_operand (t.BuiltIn built_in.Length) s g k = AfterLength g k
start_operand (t.BuiltIn f) s g k = BeforeParenthesis (InBuiltIn f g Nil) g k
start_operand t.OpenParenthesis s g k = BeforeOperand false false (InGroup g Nil ∷ k)
start_operand t.Dollar s g k = BeforeOperand false g (InField ∷ k)
start_operand t.Not s g k = start_unary prefix.Not g k
start_operand (t.Operator operator.Plus) s g k = start_unary prefix.Plus g k
start_operand (t.Operator operator.Minus) s g k = start_unary prefix.Minus g k
start_operand (t.Increment x) s g k = when (nat_le pre_increment (greatest_allowed_on k)) (BeforeOperand false g (InPreIncrement x ∷ k))
start_operand (t.Keyword word.Getline) s g k = when (nat_le post_increment (greatest_allowed_on k)) (AfterGetline NoExpr g k)
start_operand t.Newline s g k = when s (BeforeOperand s g k)
start_operand t.CloseParenthesis s g k = when (not s) (close_empty_list k)
start_operand x s g k = Failed

-- behind an operand in parentheses: they are a group, or a list that `in` or a print takes
abbrev pub close_group : Kind → Bool → Exprs → Expr → List Frame → ParserState
close_group t.Comma g made e k = BeforeOperand true false (InGroup g (append made e) ∷ k)
close_group t.CloseParenthesis g Nil e k = AfterOperand g (Group e) k
close_group t.CloseParenthesis g (Cons d made) e k = AfterList g (append (Cons d made) e) k
close_group y g made e k = Failed

-- behind an argument
abbrev pub close_call : Kind → List ℕ → Bool → Exprs → List Frame → ParserState
close_call t.Comma f g xs k = BeforeOperand true false (InCall f g xs ∷ k)
close_call t.CloseParenthesis f g xs k = AfterOperand g (Call f xs) k
close_call y f g xs k = Failed

abbrev pub close_built_in : Kind → BuiltInName → Bool → Exprs → List Frame → ParserState
close_built_in t.Comma f g xs k = BeforeOperand true false (InBuiltIn f g xs ∷ k)
close_built_in t.CloseParenthesis f g xs k = when (accepts_list f xs) (AfterOperand g (BuiltIn f xs) k)
close_built_in y f g xs k = Failed

-- behind a subscript
abbrev pub close_element : Kind → List ℕ → Bool → Exprs → List Frame → ParserState
close_element t.Comma a g xs k = BeforeOperand true false (InElement a g xs ∷ k)
close_element t.CloseBracket a g xs k = AfterOperand g (Element a xs) k
close_element y a g xs k = Failed

-- before the `:` of a conditional
abbrev pub close_first_choice : Kind → Bool → Expr → Expr → List Frame → ParserState
close_first_choice t.Colon g c e k = BeforeOperand false g (InSecondChoice c e ∷ k)
close_first_choice y g c e k = Failed

-- behind the place of a getline: its file may follow
abbrev pub after_getline_place : Kind → Bool → OptionalExpr → Expr → List Frame → ParserState
after_getline_place (t.Operator operator.Less) g NoExpr e k = when (is_place e) (BeforeOperand false g (InGetlineFile (AnExpr e) ∷ k))
after_getline_place y g c e k = Failed

-- a name must stand here
abbrev pub name_then : Kind → (List ℕ → ParserState) → ParserState
name_then (t.Name a) f = f a
name_then y f = Failed

-- and here a `(`
abbrev pub at_parenthesis : Kind → ParserState → ParserState
at_parenthesis t.OpenParenthesis x = x
at_parenthesis y x = Failed
