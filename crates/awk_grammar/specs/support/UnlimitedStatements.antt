-- What it does at the tokens of a statement.
use Rattle.std.specs.Prelude.{ℕ, true, false, List, ◌∷◌, if◌then◌else◌}
use Rattle.awk_lex.specs.declared.token.Kind.{Kind}
use Rattle.awk_grammar.specs.declared.tree.PrintForm.{PrintForm}
use Rattle.awk_lex.specs.declared.token.Kind.TheVariants as t
use Rattle.awk_lex.specs.declared.token.Keyword.TheVariants as word
use Rattle.awk_lex.specs.declared.token.Operator.TheVariants as operator
use Rattle.awk_grammar.specs.declared.tree.PrintForm.TheVariants as form
use Rattle.awk_grammar.specs.declared.tree.Redirection.TheVariants as redirection
use Rattle.awk_grammar.specs.definitions.Tree as tree
use Rattle.awk_grammar.specs.definitions.Tree.{Expr, Name, Membership, Exprs, Nil, OptionalExpr, NoExpr, PrintList, Bare, Parenthesized, Standard, SimpleStatement, OptionalSimple, NoSimple, ASimple, Statement, Empty, Simple, Block, If, IfElse, While, ForIn, For, NoMore}
use Rattle.awk_grammar.specs.support.Nodes.{append, push}
use Rattle.awk_grammar.specs.support.InfixRole.{is_else}
use Rattle.awk_grammar.specs.support.UnlimitedState.{Frame, InExpression, InPrint, InOutput, InDelete, InIfCondition, InWhileCondition, InDoCondition, InForFirst, InForCondition, InForLast, InBlock, InIfBody, InElseBody, InWhileBody, InDoBody, InForInBody, InForBody, InAction, ParserState, BeforeOperand, BeforeParenthesis, AfterPrint, AfterDelete, AfterExit, AfterReturn, AfterSimpleStatement, AfterFor, BeforeForCondition, BeforeForLast, BeforeStatement, AfterStatement, Failed}
use Rattle.awk_grammar.specs.support.UnlimitedOperands.{start_operand}
use Rattle.awk_grammar.specs.support.UnlimitedItems.{make_item, end_item}

-- `}`
abbrev pub close_block : List Frame → ParserState
close_block (InBlock made ∷ k) = AfterStatement (Block made) k
close_block (InAction head made ∷ k) = end_item (make_item head made) k
close_block k = Failed

-- an expression, a print or a deletion begins
abbrev pub start_part : Kind → List Frame → ParserState
start_part (t.Keyword word.Print) k = AfterPrint form.Print k
start_part (t.Keyword word.Printf) k = AfterPrint form.Printf k
start_part (t.Keyword word.Delete) k = AfterDelete k
start_part x k = start_operand x false false (InExpression ∷ k)

-- where a statement or the end of its block begins
abbrev pub start_statement : Kind → List Frame → ParserState
start_statement t.Newline k = BeforeStatement k
start_statement t.Semicolon k = AfterStatement Empty k
start_statement t.OpenBrace k = BeforeStatement (InBlock NoMore ∷ k)
start_statement t.CloseBrace k = close_block k
start_statement (t.Keyword word.Next) k = AfterSimpleStatement tree.Next k
start_statement (t.Keyword word.NextFile) k = AfterSimpleStatement tree.NextFile k
start_statement (t.Keyword word.Break) k = AfterSimpleStatement tree.Break k
start_statement (t.Keyword word.Continue) k = AfterSimpleStatement tree.Continue k
start_statement (t.Keyword word.Exit) k = AfterExit k
start_statement (t.Keyword word.Return) k = AfterReturn k
start_statement (t.Keyword word.If) k = BeforeParenthesis InIfCondition false k
start_statement (t.Keyword word.While) k = BeforeParenthesis InWhileCondition false k
start_statement (t.Keyword word.For) k = AfterFor k
start_statement (t.Keyword word.Do) k = BeforeStatement (InDoBody ∷ k)
start_statement x k = start_part x k

-- behind the body of a `do`
abbrev pub after_do_body : Kind → Statement → List Frame → ParserState
after_do_body (t.Keyword word.While) x k = BeforeParenthesis (InDoCondition x) false k
after_do_body y x k = Failed

-- a statement is done, and the next token isn't a newline
abbrev pub end_statement : Kind → Statement → List Frame → ParserState
end_statement y x (InBlock made ∷ k) = start_statement y (InBlock (push made x) ∷ k)
end_statement y x (InAction head made ∷ k) = start_statement y (InAction head (push made x) ∷ k)
end_statement y x (InIfBody c ∷ k) = if is_else y then BeforeStatement (InElseBody c x ∷ k) else end_statement y (If c x) k
end_statement y x (InElseBody c z ∷ k) = end_statement y (IfElse c z x) k
end_statement y x (InWhileBody c ∷ k) = end_statement y (While c x) k
end_statement y x (InForInBody b a ∷ k) = end_statement y (ForIn b a x) k
end_statement y x (InForBody p c q ∷ k) = end_statement y (For p c q x) k
end_statement y x (InDoBody ∷ k) = after_do_body y x k
end_statement y x k = Failed

-- at the end of a statement that needs one
abbrev pub end_simple_statement : Kind → Statement → List Frame → ParserState
end_simple_statement t.Semicolon x k = AfterStatement x k
end_simple_statement t.Newline x k = AfterStatement x k
end_simple_statement t.CloseBrace x k = end_statement t.CloseBrace x k
end_simple_statement y x k = Failed

-- behind the first part of a `for`
abbrev pub end_for_first : Kind → SimpleStatement → List Frame → ParserState
end_for_first t.Semicolon m k = BeforeForCondition (ASimple m) k
end_for_first t.CloseParenthesis (tree.Expression (Membership (Name b) a)) k = BeforeStatement (InForInBody b a ∷ k)
end_for_first y m k = Failed

-- behind the last
abbrev pub end_for_last : Kind → OptionalSimple → OptionalExpr → SimpleStatement → List Frame → ParserState
end_for_last t.CloseParenthesis p c m k = BeforeStatement (InForBody p c (ASimple m) ∷ k)
end_for_last y p c m k = Failed

-- behind a simple statement, which may be a part of a `for`
abbrev pub end_simple : Kind → SimpleStatement → List Frame → ParserState
end_simple y m (InForFirst ∷ k) = end_for_first y m k
end_simple y m (InForLast p c ∷ k) = end_for_last y p c m k
end_simple y m k = end_simple_statement y (Simple m) k

-- behind what is printed: a redirection may follow
abbrev pub end_print_list : Kind → PrintForm → PrintList → List Frame → ParserState
end_print_list (t.Operator operator.Greater) how what k = BeforeOperand false false (InOutput how what redirection.Truncate ∷ k)
end_print_list t.Append how what k = BeforeOperand false false (InOutput how what redirection.Append ∷ k)
end_print_list t.Bar how what k = BeforeOperand false false (InOutput how what redirection.Pipe ∷ k)
end_print_list y how what k = end_simple y (tree.Print how what Standard) k

-- behind a subscript of a deletion
abbrev pub after_delete_subscript : Kind → List ℕ → Exprs → List Frame → ParserState
after_delete_subscript t.Comma a xs k = BeforeOperand true false (InDelete a xs ∷ k)
after_delete_subscript t.CloseBracket a xs k = AfterSimpleStatement (tree.Delete a xs) k
after_delete_subscript y a xs k = Failed

-- behind an expression of a print without parentheses
abbrev pub after_print_expr : Kind → PrintForm → Exprs → List Frame → ParserState
after_print_expr t.Comma how xs k = BeforeOperand true true (InPrint how xs ∷ k)
after_print_expr y how xs k = end_print_list y how (Bare xs) k

-- before the `)` of a condition
abbrev pub close_condition : Kind → ParserState → ParserState
close_condition t.CloseParenthesis x = x
close_condition y x = Failed

-- before the `;` of a `for`
abbrev pub close_for_condition : Kind → ParserState → ParserState
close_for_condition t.Semicolon x = x
close_for_condition y x = Failed

-- behind a `|` that no `getline` follows
abbrev pub redirect_to_pipe : Kind → Expr → List Frame → ParserState
redirect_to_pipe y e (InPrint how made ∷ k) = start_operand y false false (InOutput how (Bare (append made e)) redirection.Pipe ∷ k)
redirect_to_pipe y e k = Failed

-- behind a list in parentheses that `in` doesn't take
abbrev pub end_list : Kind → Exprs → List Frame → ParserState
end_list y xs (InPrint how Nil ∷ k) = end_print_list y how (Parenthesized xs) k
end_list y xs k = Failed

abbrev pub after_print : PrintForm → List Frame → Kind → ParserState
after_print form.Print k (t.Operator operator.Greater) = end_print_list (t.Operator operator.Greater) form.Print (Bare Nil) k
after_print form.Print k t.Append = end_print_list t.Append form.Print (Bare Nil) k
after_print form.Print k t.Bar = end_print_list t.Bar form.Print (Bare Nil) k
after_print form.Print k t.Semicolon = end_simple t.Semicolon (tree.Print form.Print (Bare Nil) Standard) k
after_print form.Print k t.Newline = end_simple t.Newline (tree.Print form.Print (Bare Nil) Standard) k
after_print form.Print k t.CloseBrace = end_simple t.CloseBrace (tree.Print form.Print (Bare Nil) Standard) k
after_print form.Print k t.CloseParenthesis = end_simple t.CloseParenthesis (tree.Print form.Print (Bare Nil) Standard) k
after_print how k y = start_operand y false true (InPrint how Nil ∷ k)

-- behind the word `exit` or `return`: x, unless an expression follows
abbrev pub after_exit : SimpleStatement → Frame → List Frame → Kind → ParserState
after_exit m f k t.Semicolon = end_simple t.Semicolon m k
after_exit m f k t.Newline = end_simple t.Newline m k
after_exit m f k t.CloseBrace = end_simple t.CloseBrace m k
after_exit m f k y = start_operand y false false (f ∷ k)

abbrev pub before_for_first : List Frame → Kind → ParserState
before_for_first k t.Semicolon = BeforeForCondition NoSimple k
before_for_first k y = start_part y (InForFirst ∷ k)

abbrev pub before_for_condition : OptionalSimple → List Frame → Kind → ParserState
before_for_condition p k t.Semicolon = BeforeForLast p NoExpr k
before_for_condition p k y = start_operand y false false (InForCondition p ∷ k)

abbrev pub before_for_last : OptionalSimple → OptionalExpr → List Frame → Kind → ParserState
before_for_last p c k t.CloseParenthesis = BeforeStatement (InForBody p c NoSimple ∷ k)
before_for_last p c k y = start_part y (InForLast p c ∷ k)

abbrev pub after_statement : Statement → List Frame → Kind → ParserState
after_statement x k t.Newline = AfterStatement x k
after_statement x k y = end_statement y x k

abbrev pub after_delete_name : List ℕ → List Frame → Kind → ParserState
after_delete_name a k t.OpenBracket = BeforeOperand false false (InDelete a Nil ∷ k)
after_delete_name a k y = end_simple y (tree.DeleteAll a) k
