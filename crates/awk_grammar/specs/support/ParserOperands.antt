-- What the parser does at the tokens of an operand.
use Rattle.std.specs.Prelude.{ℕ, zero, suc, Bool, true, false, nat_le, not, List, ◌&&◌, ◌∷◌, if◌then◌else◌}
use Rattle.awk_lex.specs.declared.token.Kind.{Kind}
use Rattle.awk_grammar.specs.declared.tree.UnaryOperator.{UnaryOperator}
use Rattle.awk_lex.specs.declared.token.BuiltIn.{BuiltIn as BuiltInName}
use Rattle.awk_lex.specs.declared.token.Kind.TheVariants as t
use Rattle.awk_lex.specs.declared.token.Keyword.TheVariants as word
use Rattle.awk_lex.specs.declared.token.BuiltIn.TheVariants as built_in
use Rattle.awk_lex.specs.declared.token.Operator.TheVariants as operator
use Rattle.awk_grammar.specs.declared.tree.UnaryOperator.TheVariants as prefix
use Rattle.awk_grammar.specs.definitions.Tree as tree
use Rattle.awk_grammar.specs.definitions.Tree.{Membership}
use Rattle.awk_grammar.specs.definitions.Height.{height_of}
use Rattle.awk_grammar.specs.definitions.Precedence.{primary, pre_increment, post_increment, unary, membership}
use Rattle.awk_grammar.specs.definitions.Arguments.{accepts}
use Rattle.awk_grammar.specs.support.Nodes.{over_one}
use Rattle.awk_grammar.specs.support.ParserState.{Operand, OperandList, OptionalOperand, NoOperand, AnOperand, operand_of, place_operand, leaf, no_operands, one_more, Frame, InGroup, InCall, InBuiltIn, InElement, InField, InPreIncrement, InUnary, InSecondChoice, InGetlineFile, greatest_allowed_on, ParserState, BeforeOperand, AfterOperand, AfterName, AfterLength, AfterGetline, BeforeParenthesis, AfterList, Failed, when}

-- a sign or `!`
abbrev pub start_unary : UnaryOperator → Bool → List Frame → ParserState
start_unary o g k = when (nat_le unary (greatest_allowed_on k)) (BeforeOperand false g (InUnary o ∷ k))

abbrev pub is_none : ℕ → Bool
is_none zero = true
is_none (suc n) = false

-- `)` where an argument could begin
abbrev pub close_empty_list : ℕ → List Frame → ParserState
close_empty_list m (InCall f g xs ∷ k) = when (is_none xs.count) (AfterOperand g (operand_of primary (over_one m height_of (tree.Call f) xs.exprs)) k)
close_empty_list m (InBuiltIn f g xs ∷ k) = when (is_none xs.count && accepts f 0 true) (AfterOperand g (operand_of primary (over_one m height_of (tree.BuiltIn f) xs.exprs)) k)
close_empty_list m k = Failed

-- where an operand begins; l: newlines may stand before it
abbrev pub start_operand : ℕ → Kind → Bool → Bool → List Frame → ParserState
start_operand m (t.Number n) l g k = AfterOperand g (leaf m (tree.Number n)) k
start_operand m (t.String b) l g k = AfterOperand g (leaf m (tree.String b)) k
start_operand m (t.Ere b) l g k = AfterOperand g (leaf m (tree.Ere b)) k
start_operand m (t.Name a) l g k = AfterName a g k
start_operand m (t.Called f) l g k = BeforeParenthesis (InCall f g (no_operands m)) g k
start_operand m (t.BuiltIn built_in.Length) l g k = AfterLength g k
start_operand m (t.BuiltIn f) l g k = BeforeParenthesis (InBuiltIn f g (no_operands m)) g k
start_operand m t.OpenParenthesis l g k = BeforeOperand false false (InGroup g (no_operands m) ∷ k)
start_operand m t.Dollar l g k = BeforeOperand false g (InField ∷ k)
start_operand m t.Not l g k = start_unary prefix.Not g k
start_operand m (t.Operator operator.Plus) l g k = start_unary prefix.Plus g k
start_operand m (t.Operator operator.Minus) l g k = start_unary prefix.Minus g k
start_operand m (t.Increment x) l g k = when (nat_le pre_increment (greatest_allowed_on k)) (BeforeOperand false g (InPreIncrement x ∷ k))
start_operand m (t.Keyword word.Getline) l g k = when (nat_le post_increment (greatest_allowed_on k)) (AfterGetline NoOperand g k)
start_operand m t.Newline l g k = when l (BeforeOperand l g k)
start_operand m t.CloseParenthesis l g k = when (not l) (close_empty_list m k)
start_operand m x l g k = Failed

-- behind an operand in parentheses: they are a group, or a list that `in` or a print takes
abbrev pub close_group : ℕ → Kind → Bool → OperandList → Operand → List Frame → ParserState
close_group m t.Comma g made e k = BeforeOperand true false (InGroup g (one_more m made e) ∷ k)
close_group m t.CloseParenthesis g made e k = if is_none made.count then AfterOperand g (operand_of primary (over_one m height_of tree.Group e.tree)) k else AfterList g (one_more m made e) k
close_group m y g made e k = Failed

-- behind an argument
abbrev pub close_call : ℕ → Kind → List ℕ → Bool → OperandList → List Frame → ParserState
close_call m t.Comma f g xs k = BeforeOperand true false (InCall f g xs ∷ k)
close_call m t.CloseParenthesis f g xs k = AfterOperand g (operand_of primary (over_one m height_of (tree.Call f) xs.exprs)) k
close_call m y f g xs k = Failed

abbrev pub close_built_in : ℕ → Kind → BuiltInName → Bool → OperandList → List Frame → ParserState
close_built_in m t.Comma f g xs k = BeforeOperand true false (InBuiltIn f g xs ∷ k)
close_built_in m t.CloseParenthesis f g xs k = when (accepts f xs.count xs.third_is_place) (AfterOperand g (operand_of primary (over_one m height_of (tree.BuiltIn f) xs.exprs)) k)
close_built_in m y f g xs k = Failed

-- behind a subscript
abbrev pub close_element : ℕ → Kind → List ℕ → Bool → OperandList → List Frame → ParserState
close_element m t.Comma a g xs k = BeforeOperand true false (InElement a g xs ∷ k)
close_element m t.CloseBracket a g xs k = AfterOperand g (place_operand primary (over_one m height_of (tree.Element a) xs.exprs)) k
close_element m y a g xs k = Failed

-- before the `:` of a conditional
abbrev pub close_first_choice : Kind → Bool → Operand → Operand → List Frame → ParserState
close_first_choice t.Colon g c e k = BeforeOperand false g (InSecondChoice c e ∷ k)
close_first_choice y g c e k = Failed

-- behind the place of a getline: its file may follow
abbrev pub after_getline_place : Kind → Bool → OptionalOperand → Operand → List Frame → ParserState
after_getline_place (t.Operator operator.Less) g NoOperand e k = when e.is_place (BeforeOperand false g (InGetlineFile (AnOperand e) ∷ k))
after_getline_place y g c e k = Failed

abbrev pub membership_operand : ℕ → Operand → List ℕ → Operand
membership_operand m e a = operand_of membership (over_one m height_of (λ x. Membership x a) e.tree)

abbrev pub list_membership_operand : ℕ → OperandList → List ℕ → Operand
list_membership_operand m xs a = operand_of membership (over_one m height_of (λ x. tree.ListMembership x a) xs.exprs)

-- a name must stand here
abbrev pub name_then : Kind → (List ℕ → ParserState) → ParserState
name_then (t.Name a) f = f a
name_then y f = Failed

-- and here a `(`
abbrev pub at_parenthesis : Kind → ParserState → ParserState
at_parenthesis t.OpenParenthesis x = x
at_parenthesis y x = Failed
