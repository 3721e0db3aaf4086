-- A shift/reduce parser that keeps what it has begun on a stack of frames. It reads one token at a time and never looks
-- ahead.
use Rattle.std.specs.Prelude.{ℕ, Bool, false, nat_le, List, Option, Some, None, ◌∷◌, [], if◌then◌else◌}
use Rattle.awk_lex.specs.declared.token.Kind.{Kind}
use Rattle.awk_grammar.specs.declared.tree.BinaryOperator.TheVariants.{Concatenate, Infix}
use Rattle.awk_lex.specs.declared.token.Kind.TheVariants as t
use Rattle.awk_lex.specs.declared.token.Keyword.TheVariants as word
use Rattle.awk_lex.specs.declared.token.BuiltIn.TheVariants as built_in
use Rattle.awk_lex.specs.declared.token.Operator.TheVariants as operator
use Rattle.awk_grammar.specs.definitions.Tree as tree
use Rattle.awk_grammar.specs.definitions.Tree.{Name, NoExpr, Item}
use Rattle.awk_grammar.specs.definitions.Height.{height_of, height_of_simple, height_of_statement, height_of_pattern}
use Rattle.awk_grammar.specs.definitions.Precedence.{primary, post_increment, membership}
use Rattle.awk_grammar.specs.definitions.SpellingOfExpressions.{allows_newlines}
use Rattle.awk_grammar.specs.support.Nodes.{limited, over_one, over_two}
use Rattle.awk_grammar.specs.support.InfixRole.{InfixRole, Operates, Increments, Assigns, Starts, TestsMembership, Pipes, Asks, Subscripts, Ends, role}
pub use Rattle.awk_grammar.specs.support.ParserState.{Operand, OperandList, OptionalOperand, NoOperand, AnOperand, optional_expr, operand_of, place_operand, leaf, third_after, no_operands, one_more, Head, OfBegin, OfEnd, OfNoPattern, OfPattern, OfFunction, Frame, InGroup, InCall, InBuiltIn, InElement, InField, InPreIncrement, InUnary, InBinary, InAssign, InFirstChoice, InSecondChoice, InGetlinePlace, InGetlineFile, InExpression, InPrint, InOutput, InDelete, InExit, InReturn, InIfCondition, InWhileCondition, InDoCondition, InForFirst, InForCondition, InForLast, InBlock, InIfBody, InElseBody, InWhileBody, InDoBody, InForInBody, InForBody, InPattern, InRangeEnd, InAction, InProgram, greatest_allowed, greatest_allowed_on, stays_open, getline_operand, ending, finish_node, takes_file, fits, continues, Reduced, reduce, ParserState, BeforeOperand, AfterOperand, AfterName, AfterLength, AfterGetline, AfterBar, BeforeParenthesis, AfterList, AfterIn, AfterListIn, AfterPrint, AfterDelete, AfterDeleteName, AfterExit, AfterReturn, AfterSimpleStatement, AfterDo, AfterFor, BeforeForFirst, BeforeForCondition, BeforeForLast, BeforeStatement, AfterStatement, BetweenItems, BeforeAction, AfterFunction, AfterFunctionName, BeforeParameter, AfterParameter, Failed, when}
pub use Rattle.awk_grammar.specs.support.ParserOperands.{start_unary, is_none, close_empty_list, start_operand, close_group, close_call, close_built_in, close_element, close_first_choice, after_getline_place, membership_operand, list_membership_operand, name_then, at_parenthesis}
pub use Rattle.awk_grammar.specs.support.ParserItems.{make_item, end_item, after_pattern, after_pattern_expr, start_item, before_action, after_function, before_parameter, after_parameter}
pub use Rattle.awk_grammar.specs.support.ParserStatements.{for_part, simple_statement, for_node, close_block, start_part, start_statement, after_do_body, end_statement, end_simple_statement, start_for_in, end_for_first, end_for_last, end_simple, printed_here, printed_to, end_print_list, after_delete_subscript, bare_list, after_print_expr, close_condition, close_for_condition, optional_tree, redirect_to_pipe, end_list, empty_list, print_alone, after_print, after_exit, before_for_first, before_for_condition, before_for_last, after_statement, after_delete_name}

-- at a token that ends an operand
abbrev pub end_operand : ℕ → Kind → Bool → Operand → List Frame → ParserState
end_operand m y g e (InGroup o made ∷ k) = close_group m y o made e k
end_operand m y g e (InCall f o made ∷ k) = close_call m y f o (one_more m made e) k
end_operand m y g e (InBuiltIn f o made ∷ k) = close_built_in m y f o (one_more m made e) k
end_operand m y g e (InElement a o made ∷ k) = close_element m y a o (one_more m made e) k
end_operand m y g e (InFirstChoice c ∷ k) = close_first_choice y g c e k
end_operand m y g e (InGetlinePlace c ∷ k) = after_getline_place y g c e k
end_operand m y g e (InExpression ∷ k) = end_simple m y (over_one m height_of_simple tree.Expression e.tree) k
end_operand m y g e (InPrint how made ∷ k) = after_print_expr m y how (one_more m made e) k
end_operand m y g e (InOutput how what way ∷ k) = end_simple m y (over_two m height_of_simple (printed_to how way) what e.tree) k
end_operand m y g e (InDelete a made ∷ k) = after_delete_subscript m y a (one_more m made e) k
end_operand m y g e (InExit ∷ k) = end_simple m y (over_one m height_of_simple tree.Exit (optional_tree m e)) k
end_operand m y g e (InReturn ∷ k) = end_simple m y (over_one m height_of_simple tree.Return (optional_tree m e)) k
end_operand m y g e (InIfCondition ∷ k) = close_condition y (BeforeStatement (InIfBody e.tree ∷ k))
end_operand m y g e (InWhileCondition ∷ k) = close_condition y (BeforeStatement (InWhileBody e.tree ∷ k))
end_operand m y g e (InDoCondition x ∷ k) = close_condition y (AfterDo (over_two m height_of_statement tree.Do x e.tree) k)
end_operand m y g e (InForCondition p ∷ k) = close_for_condition y (BeforeForLast p (optional_tree m e) k)
end_operand m y g e (InPattern ∷ k) = after_pattern_expr m y e k
end_operand m y g e (InRangeEnd d ∷ k) = after_pattern m y (over_two m height_of_pattern tree.Range d e.tree) k
end_operand m y g e k = Failed

-- at a token that goes on with a reduced operand
abbrev pub shift : ℕ → InfixRole → Kind → Bool → Operand → List Frame → ParserState
shift m (Operates o) y g e k = BeforeOperand (allows_newlines o) g (InBinary (Infix o) e ∷ k)
shift m (Increments x) y g e k = if e.is_place then AfterOperand g (operand_of post_increment (over_one m height_of (tree.PostIncrement x) e.tree)) k else start_operand m y false g (InBinary Concatenate e ∷ k)
shift m (Assigns o) y g e k = BeforeOperand false g (InAssign o e ∷ k)
shift m Starts y g e k = start_operand m y false g (InBinary Concatenate e ∷ k)
shift m TestsMembership y g e k = AfterIn e g k
shift m Pipes y g e k = Failed
shift m Asks y g e k = BeforeOperand false g (InFirstChoice e ∷ k)
shift m Subscripts y g e k = Failed
shift m Ends y g e k = Failed

abbrev pub after_reduced : ℕ → InfixRole → Kind → Bool → Reduced → ParserState
after_reduced m Pipes y g h = AfterBar g h.operand h.stack
after_reduced m r y g h = if continues r h.operand (greatest_allowed_on h.stack) then shift m r y g h.operand h.stack else end_operand m y g h.operand h.stack

abbrev pub after_operand : ℕ → Bool → Operand → List Frame → Kind → ParserState
after_operand m g e k y = after_reduced m (role g y) y g (reduce m (role g y) e k)

abbrev pub name_operand : ℕ → List ℕ → Operand
name_operand m a = place_operand primary (limited m 1 (Name a))

abbrev pub after_name : ℕ → List ℕ → Bool → List Frame → Kind → ParserState
after_name m a g k t.OpenBracket = BeforeOperand false false (InElement a g (no_operands m) ∷ k)
after_name m a g k y = after_operand m g (name_operand m a) k y

abbrev pub after_length : ℕ → Bool → List Frame → Kind → ParserState
after_length m g k t.OpenParenthesis = BeforeOperand false false (InBuiltIn built_in.Length g (no_operands m) ∷ k)
after_length m g k y = after_operand m g (leaf m tree.Length) k y

-- `<` behind the word `getline`: its file, or behind a pipe a comparison
abbrev pub after_getline_less : ℕ → OptionalOperand → Bool → List Frame → ParserState
after_getline_less m NoOperand g k = BeforeOperand false g (InGetlineFile NoOperand ∷ k)
after_getline_less m (AnOperand c) g k = after_operand m g (getline_operand m (AnOperand c) NoOperand NoOperand) k (t.Operator operator.Less)

abbrev pub after_getline : ℕ → OptionalOperand → Bool → List Frame → Kind → ParserState
after_getline m c g k (t.Name a) = AfterName a g (InGetlinePlace c ∷ k)
after_getline m c g k t.Dollar = BeforeOperand false g (InField ∷ InGetlinePlace c ∷ k)
after_getline m c g k (t.Operator operator.Less) = after_getline_less m c g k
after_getline m c g k y = after_operand m g (getline_operand m c NoOperand NoOperand) k y

-- behind a `|`: a getline, or the pipe that a print writes to
abbrev pub after_bar : ℕ → Bool → Operand → List Frame → Kind → ParserState
after_bar m g e k (t.Keyword word.Getline) = when (continues Pipes e (greatest_allowed_on k)) (AfterGetline (AnOperand e) g k)
after_bar m g e k y = let h = reduce m Ends e k in redirect_to_pipe m y h.operand h.stack

abbrev pub after_list : ℕ → Bool → OperandList → List Frame → Kind → ParserState
after_list m g xs k (t.Keyword word.In) = when (nat_le membership (greatest_allowed_on k)) (AfterListIn xs g k)
after_list m g xs k y = end_list m y xs k

abbrev pub step : ℕ → ParserState → Kind → ParserState
step m (BeforeOperand l g k) y = start_operand m y l g k
step m (AfterOperand g e k) y = after_operand m g e k y
step m (AfterName a g k) y = after_name m a g k y
step m (AfterLength g k) y = after_length m g k y
step m (AfterGetline c g k) y = after_getline m c g k y
step m (AfterBar g e k) y = after_bar m g e k y
step m (BeforeParenthesis f g k) y = at_parenthesis y (BeforeOperand false false (f ∷ k))
step m (AfterList g xs k) y = after_list m g xs k y
step m (AfterIn e g k) y = name_then y (λ a. AfterOperand g (membership_operand m e a) k)
step m (AfterListIn xs g k) y = name_then y (λ a. AfterOperand g (list_membership_operand m xs a) k)
step m (AfterPrint how k) y = after_print m how k y
step m (AfterDelete k) y = name_then y (λ a. AfterDeleteName a k)
step m (AfterDeleteName a k) y = after_delete_name m a k y
step m (AfterExit k) y = after_exit m (over_one m height_of_simple tree.Exit (limited m 0 NoExpr)) InExit k y
step m (AfterReturn k) y = after_exit m (over_one m height_of_simple tree.Return (limited m 0 NoExpr)) InReturn k y
step m (AfterSimpleStatement x k) y = end_simple m y x k
step m (AfterDo x k) y = end_simple_statement m y x k
step m (AfterFor k) y = at_parenthesis y (BeforeForFirst k)
step m (BeforeForFirst k) y = before_for_first m k y
step m (BeforeForCondition p k) y = before_for_condition m p k y
step m (BeforeForLast p c k) y = before_for_last m p c k y
step m (BeforeStatement k) y = start_statement m y k
step m (AfterStatement x k) y = after_statement m x k y
step m (BetweenItems k) y = start_item m k y
step m (BeforeAction h l k) y = before_action m h l k y
step m (AfterFunction k) y = after_function k y
step m (AfterFunctionName f k) y = at_parenthesis y (BeforeParameter f false [] k)
step m (BeforeParameter f l xs k) y = before_parameter f l xs k y
step m (AfterParameter f xs k) y = after_parameter f xs k y
step m Failed y = Failed

-- the text ends: a program, and its items unless it is too high
abbrev pub items : List Frame → Option (Option (List Item))
items (InProgram made ∷ []) = Some made
items k = None

abbrev pub whole : ParserState → Option (Option (List Item))
whole (BetweenItems k) = items k
whole x = None

-- the end of the text ends a pattern as a newline does
abbrev pub finish : ℕ → ParserState → Option (Option (List Item))
finish m x = whole (step m x t.Newline)

abbrev pub answer : ℕ → ParserState → List Kind → Option (Option (List Item))
answer m x [] = finish m x
answer m x (y ∷ ts) = answer m (step m x y) ts

abbrev pub start : ℕ → ParserState
start m = BetweenItems (InProgram (limited m 0 []) ∷ [])

abbrev pub read : ℕ → List Kind → Option (Option (List Item))
read m ts = answer m (start m) ts
