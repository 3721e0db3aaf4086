-- The parser that keeps each tree, however high: a means of the proofs.
use Rattle.std.specs.Prelude.{ℕ, Bool, false, nat_le, List, Option, Some, None, ◌∷◌, [], if◌then◌else◌}
use Rattle.awk_lex.specs.declared.token.Kind.{Kind}
use Rattle.awk_grammar.specs.declared.tree.BinaryOperator.TheVariants.{Concatenate, Infix}
use Rattle.awk_lex.specs.declared.token.Kind.TheVariants as t
use Rattle.awk_lex.specs.declared.token.Keyword.TheVariants as word
use Rattle.awk_lex.specs.declared.token.BuiltIn.TheVariants as built_in
use Rattle.awk_lex.specs.declared.token.Operator.TheVariants as operator
use Rattle.awk_grammar.specs.definitions.Tree as tree
use Rattle.awk_grammar.specs.definitions.Tree.{Expr, Name, Length, PostIncrement, PipedGetline, Membership, ListMembership, Exprs, Nil, OptionalExpr, NoExpr, AnExpr, Redirected, Do, Range, Item}
use Rattle.awk_grammar.specs.definitions.Precedence.{membership}
use Rattle.awk_grammar.specs.definitions.Arguments.{is_place}
use Rattle.awk_grammar.specs.definitions.SpellingOfExpressions.{allows_newlines}
use Rattle.awk_grammar.specs.support.Nodes.{append}
use Rattle.awk_grammar.specs.support.InfixRole.{InfixRole, Operates, Increments, Assigns, Starts, TestsMembership, Pipes, Asks, Subscripts, Ends, role}
pub use Rattle.awk_grammar.specs.support.UnlimitedState.{getline_of, Head, OfBegin, OfEnd, OfNoPattern, OfPattern, OfFunction, Frame, InGroup, InCall, InBuiltIn, InElement, InField, InPreIncrement, InUnary, InBinary, InAssign, InFirstChoice, InSecondChoice, InGetlinePlace, InGetlineFile, InExpression, InPrint, InOutput, InDelete, InExit, InReturn, InIfCondition, InWhileCondition, InDoCondition, InForFirst, InForCondition, InForLast, InBlock, InIfBody, InElseBody, InWhileBody, InDoBody, InForInBody, InForBody, InPattern, InRangeEnd, InAction, InProgram, greatest_allowed, greatest_allowed_on, stays_open, finish_node, takes_file, fits, continues, Reduced, reduce, ParserState, BeforeOperand, AfterOperand, AfterName, AfterLength, AfterGetline, AfterBar, BeforeParenthesis, AfterList, AfterIn, AfterListIn, AfterPrint, AfterDelete, AfterDeleteName, AfterExit, AfterReturn, AfterSimpleStatement, AfterDo, AfterFor, BeforeForFirst, BeforeForCondition, BeforeForLast, BeforeStatement, AfterStatement, BetweenItems, BeforeAction, AfterFunction, AfterFunctionName, BeforeParameter, AfterParameter, Failed, when}
pub use Rattle.awk_grammar.specs.support.UnlimitedOperands.{start_unary, close_empty_list, start_operand, close_group, close_call, close_built_in, close_element, close_first_choice, after_getline_place, name_then, at_parenthesis}
pub use Rattle.awk_grammar.specs.support.UnlimitedItems.{make_item, end_item, after_pattern, after_pattern_expr, start_item, before_action, after_function, before_parameter, after_parameter}
pub use Rattle.awk_grammar.specs.support.UnlimitedStatements.{close_block, start_part, start_statement, after_do_body, end_statement, end_simple_statement, end_for_first, end_for_last, end_simple, end_print_list, after_delete_subscript, after_print_expr, close_condition, close_for_condition, redirect_to_pipe, end_list, after_print, after_exit, before_for_first, before_for_condition, before_for_last, after_statement, after_delete_name}

-- at a token that ends an operand
abbrev pub end_operand : Kind → Bool → Expr → List Frame → ParserState
end_operand y g e (InGroup o made ∷ k) = close_group y o made e k
end_operand y g e (InCall f o made ∷ k) = close_call y f o (append made e) k
end_operand y g e (InBuiltIn f o made ∷ k) = close_built_in y f o (append made e) k
end_operand y g e (InElement a o made ∷ k) = close_element y a o (append made e) k
end_operand y g e (InFirstChoice c ∷ k) = close_first_choice y g c e k
end_operand y g e (InGetlinePlace c ∷ k) = after_getline_place y g c e k
end_operand y g e (InExpression ∷ k) = end_simple y (tree.Expression e) k
end_operand y g e (InPrint how made ∷ k) = after_print_expr y how (append made e) k
end_operand y g e (InOutput how what way ∷ k) = end_simple y (tree.Print how what (Redirected way e)) k
end_operand y g e (InDelete a made ∷ k) = after_delete_subscript y a (append made e) k
end_operand y g e (InExit ∷ k) = end_simple y (tree.Exit (AnExpr e)) k
end_operand y g e (InReturn ∷ k) = end_simple y (tree.Return (AnExpr e)) k
end_operand y g e (InIfCondition ∷ k) = close_condition y (BeforeStatement (InIfBody e ∷ k))
end_operand y g e (InWhileCondition ∷ k) = close_condition y (BeforeStatement (InWhileBody e ∷ k))
end_operand y g e (InDoCondition x ∷ k) = close_condition y (AfterDo (Do x e) k)
end_operand y g e (InForCondition p ∷ k) = close_for_condition y (BeforeForLast p (AnExpr e) k)
end_operand y g e (InPattern ∷ k) = after_pattern_expr y e k
end_operand y g e (InRangeEnd d ∷ k) = after_pattern y (Range d e) k
end_operand y g e k = Failed

-- at a token that goes on with a reduced operand
abbrev pub shift : InfixRole → Kind → Bool → Expr → List Frame → ParserState
shift (Operates o) y g e k = BeforeOperand (allows_newlines o) g (InBinary (Infix o) e ∷ k)
shift (Increments x) y g e k = if is_place e then AfterOperand g (PostIncrement x e) k else start_operand y false g (InBinary Concatenate e ∷ k)
shift (Assigns o) y g e k = BeforeOperand false g (InAssign o e ∷ k)
shift Starts y g e k = start_operand y false g (InBinary Concatenate e ∷ k)
shift TestsMembership y g e k = AfterIn e g k
shift Pipes y g e k = Failed
shift Asks y g e k = BeforeOperand false g (InFirstChoice e ∷ k)
shift Subscripts y g e k = Failed
shift Ends y g e k = Failed

abbrev pub after_reduced : InfixRole → Kind → Bool → Reduced → ParserState
after_reduced Pipes y g h = AfterBar g h.operand h.stack
after_reduced r y g h = if continues r h.operand (greatest_allowed_on h.stack) then shift r y g h.operand h.stack else end_operand y g h.operand h.stack

abbrev pub after_operand : Bool → Expr → List Frame → Kind → ParserState
after_operand g e k y = after_reduced (role g y) y g (reduce (role g y) e k)

abbrev pub after_name : List ℕ → Bool → List Frame → Kind → ParserState
after_name a g k t.OpenBracket = BeforeOperand false false (InElement a g Nil ∷ k)
after_name a g k y = after_operand g (Name a) k y

abbrev pub after_length : Bool → List Frame → Kind → ParserState
after_length g k t.OpenParenthesis = BeforeOperand false false (InBuiltIn built_in.Length g Nil ∷ k)
after_length g k y = after_operand g Length k y

-- `<` behind the word `getline`: its file, or behind a pipe a comparison
abbrev pub after_getline_less : OptionalExpr → Bool → List Frame → ParserState
after_getline_less NoExpr g k = BeforeOperand false g (InGetlineFile NoExpr ∷ k)
after_getline_less (AnExpr c) g k = after_operand g (PipedGetline c NoExpr) k (t.Operator operator.Less)

abbrev pub after_getline : OptionalExpr → Bool → List Frame → Kind → ParserState
after_getline c g k (t.Name a) = AfterName a g (InGetlinePlace c ∷ k)
after_getline c g k t.Dollar = BeforeOperand false g (InField ∷ InGetlinePlace c ∷ k)
after_getline c g k (t.Operator operator.Less) = after_getline_less c g k
after_getline c g k y = after_operand g (getline_of c NoExpr) k y

-- behind a `|`: a getline, or the pipe that a print writes to
abbrev pub after_bar : Bool → Expr → List Frame → Kind → ParserState
after_bar g e k (t.Keyword word.Getline) = when (continues Pipes e (greatest_allowed_on k)) (AfterGetline (AnExpr e) g k)
after_bar g e k y = let h = reduce Ends e k in redirect_to_pipe y h.operand h.stack

abbrev pub after_list : Bool → Exprs → List Frame → Kind → ParserState
after_list g xs k (t.Keyword word.In) = when (nat_le membership (greatest_allowed_on k)) (AfterListIn xs g k)
after_list g xs k y = end_list y xs k

abbrev pub step : ParserState → Kind → ParserState
step (BeforeOperand s g k) y = start_operand y s g k
step (AfterOperand g e k) y = after_operand g e k y
step (AfterName a g k) y = after_name a g k y
step (AfterLength g k) y = after_length g k y
step (AfterGetline c g k) y = after_getline c g k y
step (AfterBar g e k) y = after_bar g e k y
step (BeforeParenthesis f g k) y = at_parenthesis y (BeforeOperand false false (f ∷ k))
step (AfterList g xs k) y = after_list g xs k y
step (AfterIn e g k) y = name_then y (λ a. AfterOperand g (Membership e a) k)
step (AfterListIn xs g k) y = name_then y (λ a. AfterOperand g (ListMembership xs a) k)
step (AfterPrint how k) y = after_print how k y
step (AfterDelete k) y = name_then y (λ a. AfterDeleteName a k)
step (AfterDeleteName a k) y = after_delete_name a k y
step (AfterExit k) y = after_exit (tree.Exit NoExpr) InExit k y
step (AfterReturn k) y = after_exit (tree.Return NoExpr) InReturn k y
step (AfterSimpleStatement m k) y = end_simple y m k
step (AfterDo x k) y = end_simple_statement y x k
step (AfterFor k) y = at_parenthesis y (BeforeForFirst k)
step (BeforeForFirst k) y = before_for_first k y
step (BeforeForCondition p k) y = before_for_condition p k y
step (BeforeForLast p c k) y = before_for_last p c k y
step (BeforeStatement k) y = start_statement y k
step (AfterStatement x k) y = after_statement x k y
step (BetweenItems k) y = start_item k y
step (BeforeAction h s k) y = before_action h s k y
step (AfterFunction k) y = after_function k y
step (AfterFunctionName f k) y = at_parenthesis y (BeforeParameter f false [] k)
step (BeforeParameter f s xs k) y = before_parameter f s xs k y
step (AfterParameter f xs k) y = after_parameter f xs k y
step Failed y = Failed

-- the text ends
abbrev pub items : List Frame → Option (List Item)
items (InProgram made ∷ []) = Some made
items k = None

abbrev pub whole : ParserState → Option (List Item)
whole (BetweenItems k) = items k
whole x = None

-- the end of the text ends a pattern as a newline does
abbrev pub finish : ParserState → Option (List Item)
finish x = whole (step x t.Newline)

abbrev pub answer : ParserState → List Kind → Option (List Item)
answer x [] = finish x
answer x (y ∷ ts) = answer (step x y) ts

abbrev pub start : ParserState
start = BetweenItems (InProgram [] ∷ [])

abbrev pub read : List Kind → Option (List Item)
read ts = answer start ts
