-- What it does at the tokens of a statement.
use Rattle.std.specs.Prelude.{ℕ, true, false, List, Option, Some, ◌∷◌, if◌then◌else◌}
use Rattle.awk_lex.specs.declared.token.Kind.{Kind}
use Rattle.awk_grammar.specs.declared.tree.PrintForm.{PrintForm}
use Rattle.awk_grammar.specs.declared.tree.Redirection.{Redirection}
use Rattle.awk_lex.specs.declared.token.Kind.TheVariants as t
use Rattle.awk_lex.specs.declared.token.Keyword.TheVariants as word
use Rattle.awk_lex.specs.declared.token.Operator.TheVariants as operator
use Rattle.awk_grammar.specs.declared.tree.PrintForm.TheVariants as form
use Rattle.awk_grammar.specs.declared.tree.Redirection.TheVariants as redirection
use Rattle.awk_grammar.specs.definitions.Tree as tree
use Rattle.awk_grammar.specs.definitions.Tree.{Expr, Name, Membership, Nil, OptionalExpr, NoExpr, AnExpr, PrintList, SimpleStatement, OptionalSimple, Statement}
use Rattle.awk_grammar.specs.definitions.Height.{optional_height, height_of_print_list, height_of_simple, height_of_optional_simple, height_of_statement, tallest_of}
use Rattle.awk_grammar.specs.support.Nodes.{limited, over_one, over_two, over_three, over_four, push}
use Rattle.awk_grammar.specs.support.InfixRole.{is_else}
use Rattle.awk_grammar.specs.support.ParserState.{Operand, OperandList, no_operands, one_more, Frame, InExpression, InPrint, InOutput, InDelete, InIfCondition, InWhileCondition, InDoCondition, InForFirst, InForCondition, InForLast, InBlock, InIfBody, InElseBody, InWhileBody, InDoBody, InForInBody, InForBody, InAction, ParserState, BeforeOperand, BeforeParenthesis, AfterPrint, AfterDelete, AfterExit, AfterReturn, AfterSimpleStatement, AfterFor, BeforeForCondition, BeforeForLast, BeforeStatement, AfterStatement, Failed}
use Rattle.awk_grammar.specs.support.ParserOperands.{is_none, start_operand}
use Rattle.awk_grammar.specs.support.ParserItems.{make_item, end_item}

abbrev pub for_part : ℕ → Option SimpleStatement → Option OptionalSimple
for_part m x = over_one m height_of_optional_simple tree.ASimple x

abbrev pub simple_statement : ℕ → Option SimpleStatement → Option Statement
simple_statement m x = over_one m height_of_statement tree.Simple x

abbrev pub for_node : ℕ → Option OptionalSimple → Option OptionalExpr → Option OptionalSimple → Option Statement → Option Statement
for_node m p c q x = over_four m height_of_statement tree.For p c q x

-- `}`
abbrev pub close_block : ℕ → List Frame → ParserState
close_block m (InBlock made ∷ k) = AfterStatement (over_one m height_of_statement tree.Block made) k
close_block m (InAction head made ∷ k) = end_item m (make_item m head made) k
close_block m k = Failed

-- an expression, a print or a deletion begins
abbrev pub start_part : ℕ → Kind → List Frame → ParserState
start_part m (t.Keyword word.Print) k = AfterPrint form.Print k
start_part m (t.Keyword word.Printf) k = AfterPrint form.Printf k
start_part m (t.Keyword word.Delete) k = AfterDelete k
start_part m x k = start_operand m x false false (InExpression ∷ k)

-- where a statement or the end of its block begins
abbrev pub start_statement : ℕ → Kind → List Frame → ParserState
start_statement m t.Newline k = BeforeStatement k
start_statement m t.Semicolon k = AfterStatement (limited m 1 tree.Empty) k
start_statement m t.OpenBrace k = BeforeStatement (InBlock (limited m 0 tree.NoMore) ∷ k)
start_statement m t.CloseBrace k = close_block m k
start_statement m (t.Keyword word.Next) k = AfterSimpleStatement (limited m 1 tree.Next) k
start_statement m (t.Keyword word.NextFile) k = AfterSimpleStatement (limited m 1 tree.NextFile) k
start_statement m (t.Keyword word.Break) k = AfterSimpleStatement (limited m 1 tree.Break) k
start_statement m (t.Keyword word.Continue) k = AfterSimpleStatement (limited m 1 tree.Continue) k
start_statement m (t.Keyword word.Exit) k = AfterExit k
start_statement m (t.Keyword word.Return) k = AfterReturn k
start_statement m (t.Keyword word.If) k = BeforeParenthesis InIfCondition false k
start_statement m (t.Keyword word.While) k = BeforeParenthesis InWhileCondition false k
start_statement m (t.Keyword word.For) k = AfterFor k
start_statement m (t.Keyword word.Do) k = BeforeStatement (InDoBody ∷ k)
start_statement m x k = start_part m x k

-- behind the body of a `do`
abbrev pub after_do_body : Kind → Option Statement → List Frame → ParserState
after_do_body (t.Keyword word.While) x k = BeforeParenthesis (InDoCondition x) false k
after_do_body y x k = Failed

-- a statement is done, and the next token isn't a newline
abbrev pub end_statement : ℕ → Kind → Option Statement → List Frame → ParserState
end_statement m y x (InBlock made ∷ k) = start_statement m y (InBlock (over_two m tallest_of push made x) ∷ k)
end_statement m y x (InAction head made ∷ k) = start_statement m y (InAction head (over_two m tallest_of push made x) ∷ k)
end_statement m y x (InIfBody c ∷ k) = if is_else y then BeforeStatement (InElseBody c x ∷ k) else end_statement m y (over_two m height_of_statement tree.If c x) k
end_statement m y x (InElseBody c z ∷ k) = end_statement m y (over_three m height_of_statement tree.IfElse c z x) k
end_statement m y x (InWhileBody c ∷ k) = end_statement m y (over_two m height_of_statement tree.While c x) k
end_statement m y x (InForInBody b a ∷ k) = end_statement m y (over_one m height_of_statement (tree.ForIn b a) x) k
end_statement m y x (InForBody p c q ∷ k) = end_statement m y (for_node m p c q x) k
end_statement m y x (InDoBody ∷ k) = after_do_body y x k
end_statement m y x k = Failed

-- at the end of a statement that needs one
abbrev pub end_simple_statement : ℕ → Kind → Option Statement → List Frame → ParserState
end_simple_statement m t.Semicolon x k = AfterStatement x k
end_simple_statement m t.Newline x k = AfterStatement x k
end_simple_statement m t.CloseBrace x k = end_statement m t.CloseBrace x k
end_simple_statement m y x k = Failed

-- `for (name in array)`: nothing higher than these three nodes is one
abbrev pub start_for_in : Option SimpleStatement → List Frame → ParserState
start_for_in (Some (tree.Expression (Membership (Name b) a))) k = BeforeStatement (InForInBody b a ∷ k)
start_for_in x k = Failed

-- behind the first part of a `for`
abbrev pub end_for_first : ℕ → Kind → Option SimpleStatement → List Frame → ParserState
end_for_first m t.Semicolon x k = BeforeForCondition (for_part m x) k
end_for_first m t.CloseParenthesis x k = start_for_in x k
end_for_first m y x k = Failed

-- behind the last
abbrev pub end_for_last : ℕ → Kind → Option OptionalSimple → Option OptionalExpr → Option SimpleStatement → List Frame → ParserState
end_for_last m t.CloseParenthesis p c x k = BeforeStatement (InForBody p c (for_part m x) ∷ k)
end_for_last m y p c x k = Failed

-- behind a simple statement, which may be a part of a `for`
abbrev pub end_simple : ℕ → Kind → Option SimpleStatement → List Frame → ParserState
end_simple m y x (InForFirst ∷ k) = end_for_first m y x k
end_simple m y x (InForLast p c ∷ k) = end_for_last m y p c x k
end_simple m y x k = end_simple_statement m y (simple_statement m x) k

abbrev pub printed_here : PrintForm → PrintList → SimpleStatement
printed_here how what = tree.Print how what tree.Standard

abbrev pub printed_to : PrintForm → Redirection → PrintList → Expr → SimpleStatement
printed_to how way what e = tree.Print how what (tree.Redirected way e)

-- behind what is printed: a redirection may follow
abbrev pub end_print_list : ℕ → Kind → PrintForm → Option PrintList → List Frame → ParserState
end_print_list m (t.Operator operator.Greater) how what k = BeforeOperand false false (InOutput how what redirection.Truncate ∷ k)
end_print_list m t.Append how what k = BeforeOperand false false (InOutput how what redirection.Append ∷ k)
end_print_list m t.Bar how what k = BeforeOperand false false (InOutput how what redirection.Pipe ∷ k)
end_print_list m y how what k = end_simple m y (over_one m height_of_simple (printed_here how) what) k

-- behind a subscript of a deletion
abbrev pub after_delete_subscript : ℕ → Kind → List ℕ → OperandList → List Frame → ParserState
after_delete_subscript m t.Comma a xs k = BeforeOperand true false (InDelete a xs ∷ k)
after_delete_subscript m t.CloseBracket a xs k = AfterSimpleStatement (over_one m height_of_simple (tree.Delete a) xs.exprs) k
after_delete_subscript m y a xs k = Failed

abbrev pub bare_list : ℕ → OperandList → Option PrintList
bare_list m xs = over_one m height_of_print_list tree.Bare xs.exprs

-- behind an expression of a print without parentheses
abbrev pub after_print_expr : ℕ → Kind → PrintForm → OperandList → List Frame → ParserState
after_print_expr m t.Comma how xs k = BeforeOperand true true (InPrint how xs ∷ k)
after_print_expr m y how xs k = end_print_list m y how (bare_list m xs) k

-- before the `)` of a condition
abbrev pub close_condition : Kind → ParserState → ParserState
close_condition t.CloseParenthesis x = x
close_condition y x = Failed

-- before the `;` of a `for`
abbrev pub close_for_condition : Kind → ParserState → ParserState
close_for_condition t.Semicolon x = x
close_for_condition y x = Failed

abbrev pub optional_tree : ℕ → Operand → Option OptionalExpr
optional_tree m e = over_one m optional_height AnExpr e.tree

-- behind a `|` that no `getline` follows
abbrev pub redirect_to_pipe : ℕ → Kind → Operand → List Frame → ParserState
redirect_to_pipe m y e (InPrint how made ∷ k) = start_operand m y false false (InOutput how (bare_list m (one_more m made e)) redirection.Pipe ∷ k)
redirect_to_pipe m y e k = Failed

-- behind a list in parentheses that `in` doesn't take
abbrev pub end_list : ℕ → Kind → OperandList → List Frame → ParserState
end_list m y xs (InPrint how made ∷ k) = if is_none made.count then end_print_list m y how (over_one m height_of_print_list tree.Parenthesized xs.exprs) k else Failed
end_list m y xs k = Failed

abbrev pub empty_list : ℕ → Option PrintList
empty_list m = limited m 0 (tree.Bare Nil)

abbrev pub print_alone : ℕ → Option SimpleStatement
print_alone m = limited m 1 (tree.Print form.Print (tree.Bare Nil) tree.Standard)

abbrev pub after_print : ℕ → PrintForm → List Frame → Kind → ParserState
after_print m form.Print k (t.Operator operator.Greater) = end_print_list m (t.Operator operator.Greater) form.Print (empty_list m) k
after_print m form.Print k t.Append = end_print_list m t.Append form.Print (empty_list m) k
after_print m form.Print k t.Bar = end_print_list m t.Bar form.Print (empty_list m) k
after_print m form.Print k t.Semicolon = end_simple m t.Semicolon (print_alone m) k
after_print m form.Print k t.Newline = end_simple m t.Newline (print_alone m) k
after_print m form.Print k t.CloseBrace = end_simple m t.CloseBrace (print_alone m) k
after_print m form.Print k t.CloseParenthesis = end_simple m t.CloseParenthesis (print_alone m) k
after_print m how k y = start_operand m y false true (InPrint how (no_operands m) ∷ k)

-- behind the word `exit` or `return`: x, unless an expression follows
abbrev pub after_exit : ℕ → Option SimpleStatement → Frame → List Frame → Kind → ParserState
after_exit m x f k t.Semicolon = end_simple m t.Semicolon x k
after_exit m x f k t.Newline = end_simple m t.Newline x k
after_exit m x f k t.CloseBrace = end_simple m t.CloseBrace x k
after_exit m x f k y = start_operand m y false false (f ∷ k)

abbrev pub before_for_first : ℕ → List Frame → Kind → ParserState
before_for_first m k t.Semicolon = BeforeForCondition (limited m 0 tree.NoSimple) k
before_for_first m k y = start_part m y (InForFirst ∷ k)

abbrev pub before_for_condition : ℕ → Option OptionalSimple → List Frame → Kind → ParserState
before_for_condition m p k t.Semicolon = BeforeForLast p (limited m 0 NoExpr) k
before_for_condition m p k y = start_operand m y false false (InForCondition p ∷ k)

abbrev pub before_for_last : ℕ → Option OptionalSimple → Option OptionalExpr → List Frame → Kind → ParserState
before_for_last m p c k t.CloseParenthesis = BeforeStatement (InForBody p c (limited m 0 tree.NoSimple) ∷ k)
before_for_last m p c k y = start_part m y (InForLast p c ∷ k)

abbrev pub after_statement : ℕ → Option Statement → List Frame → Kind → ParserState
after_statement m x k t.Newline = AfterStatement x k
after_statement m x k y = end_statement m y x k

abbrev pub after_delete_name : ℕ → List ℕ → List Frame → Kind → ParserState
after_delete_name m a k t.OpenBracket = BeforeOperand false false (InDelete a (no_operands m) ∷ k)
after_delete_name m a k y = end_simple m y (limited m 1 (tree.DeleteAll a)) k
