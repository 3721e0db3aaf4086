-- The parser over kept trees does what the parser over whole trees does.
use Rattle.std.proofs.Common.{◌≡◌, ℕ, ◌+◌, ◌≤◌, max, Bool, true, false, cond, leb, List, [], ◌∷◌, Option, Some, None, refl, ap, ◌∙◌, arith}
use Rattle.awk_lex.specs.declared.token.Kind.{Kind}
use Rattle.awk_grammar.specs.declared.tree.PrintForm.{PrintForm}
use Rattle.awk_lex.specs.declared.token.BuiltIn.{BuiltIn as BuiltInName}
use Rattle.awk_grammar.specs.declared.tree.BinaryOperator.TheVariants.{Concatenate}
use Rattle.awk_lex.specs.declared.token.Kind.TheVariants as t
use Rattle.awk_lex.specs.declared.token.Keyword.TheVariants as word
use Rattle.awk_lex.specs.declared.token.Operator.TheVariants as operator
use Rattle.awk_grammar.specs.declared.tree.PrintForm.TheVariants as form
use Rattle.awk_grammar.specs.declared.tree.Redirection.TheVariants as redirection
use Rattle.awk_grammar.specs.definitions.Tree as tree
use Rattle.awk_grammar.specs.support.UnlimitedParser as unlimited
use Rattle.awk_grammar.specs.support.Parser as parser
use Rattle.awk_grammar.specs.definitions.Tree.{Expr, Name, Element, Group, BuiltIn, Length, PostIncrement, Membership, ListMembership, Exprs, Nil, Cons, OptionalExpr, NoExpr, AnExpr, PrintList, Bare, Parenthesized, Standard, Redirected, SimpleStatement, OptionalSimple, ASimple, Statement, Simple, Block, If, IfElse, While, Do, ForIn, For, Statements, NoMore, Then, Pattern, Single, Range, Item, Action, PatternAction, PatternOnly}
use Rattle.awk_grammar.specs.definitions.Height.{height_of, tallest, optional_height, height_of_print_list, height_of_simple, height_of_optional_simple, height_of_statement, tallest_of, height_of_pattern, height_of_item, height_of_program}
use Rattle.awk_grammar.specs.definitions.Arguments.{is_place, count, third_is_place, accepts, accepts_list}
use Rattle.awk_grammar.specs.support.Nodes.{over_one, over_two, append, push, add}
use Rattle.awk_grammar.specs.support.InfixRole.{InfixRole, Increments, Starts, Pipes, Ends, role, is_else}
use Rattle.awk_grammar.specs.support.ParserState.{NoOperand, operand_of}
use Rattle.awk_grammar.specs.support.ParserOperands.{is_none}
use Rattle.awk_grammar.specs.support.ParserStatements.{printed_here, printed_to}
use Rattle.awk_grammar.proofs.PrunedNodes.{test_false, low, one_limited, two_limited, three_limited, four_limited, keep, keep_list, keep_maybe, keep_if, keep_printed, keep_simple, keep_part, keep_statement, keep_all, keep_pattern, keep_item, keep_items, head, frame, frames, allowed_on_kept, continues_kept, getline_kept, piped_kept, held, reduce_kept, state, when_kept, cond_kept, empty_not, one_more_kept, accepts_kept, call_kept, built_in_kept, start_operand_kept}

-- statements
tallest_of_push : (all : Statements) (x : Statement) → tallest_of (push all x) ≡ max (tallest_of all) (height_of_statement x)
tallest_of_push NoMore x = omega arith
tallest_of_push (Then y all) x = omega (arith, tallest_of_push all x)

height_of_program_snoc : (xs : List Item) (x : Item) → height_of_program (add xs x) ≡ max (height_of_program xs) (height_of_item x)
height_of_program_snoc [] x = omega arith
height_of_program_snoc (y ∷ xs) x = omega (arith, height_of_program_snoc xs x)

push_kept : (m : ℕ) (all : Statements) (x : Statement) → over_two m tallest_of push (keep_all m all) (keep_statement m x) ≡ keep_all m (push all x)
push_kept m all x = let h = tallest_of_push all x in two_limited m (tallest_of all) (height_of_statement x) tallest_of push all x (omega arith) (omega arith)

snoc_kept : (m : ℕ) (xs : List Item) (x : Item) → over_two m height_of_program add (keep_items m xs) (keep_item m x) ≡ keep_items m (add xs x)
snoc_kept m xs x = let h = height_of_program_snoc xs x in two_limited m (height_of_program xs) (height_of_item x) height_of_program add xs x (omega arith) (omega arith)

item_kept : (m : ℕ) (h : unlimited.Head) (all : Statements) → parser.make_item m (head m h) (keep_all m all) ≡ keep_item m (unlimited.make_item h all)
item_kept m unlimited.OfBegin all = one_limited m (tallest_of all) height_of_item tree.Begin all (omega arith)
item_kept m unlimited.OfEnd all = one_limited m (tallest_of all) height_of_item tree.End all (omega arith)
item_kept m unlimited.OfNoPattern all = one_limited m (tallest_of all) height_of_item Action all (omega arith)
item_kept m (unlimited.OfPattern p) all = two_limited m (height_of_pattern p) (tallest_of all) height_of_item PatternAction p all (omega arith) (omega arith)
item_kept m (unlimited.OfFunction f xs) all = one_limited m (tallest_of all) height_of_item (tree.Function f xs) all (omega arith)

between_kept : (m : ℕ) (x : Item) (k : List unlimited.Frame) → parser.end_item m (keep_item m x) (frames m k) ≡ state m (unlimited.end_item x k)
between_kept m x (unlimited.InProgram made ∷ k) = ap (λ z. parser.BetweenItems (parser.InProgram z ∷ frames m k)) (snoc_kept m made x)
between_kept m x [] = refl
between_kept m x (f ∷ k) = refl

close_block_kept : (m : ℕ) (k : List unlimited.Frame) → parser.close_block m (frames m k) ≡ state m (unlimited.close_block k)
close_block_kept m (unlimited.InBlock made ∷ k) = ap (λ z. parser.AfterStatement z (frames m k)) (one_limited m (tallest_of made) height_of_statement Block made (omega arith))
close_block_kept m (unlimited.InAction h made ∷ k) = ap (λ z. parser.end_item m z (frames m k)) (item_kept m h made) ∙ between_kept m (unlimited.make_item h made) k
close_block_kept m [] = refl
close_block_kept m (f ∷ k) = refl

start_part_kept : (m : ℕ) (y : Kind) (k : List unlimited.Frame) → parser.start_part m y (frames m k) ≡ state m (unlimited.start_part y k)
start_part_kept m (t.Keyword word.Print) k = refl
start_part_kept m (t.Keyword word.Printf) k = refl
start_part_kept m (t.Keyword word.Delete) k = refl
start_part_kept m y k = start_operand_kept m y false false (unlimited.InExpression ∷ k)

start_statement_kept : (m : ℕ) (y : Kind) (k : List unlimited.Frame) → parser.start_statement m y (frames m k) ≡ state m (unlimited.start_statement y k)
start_statement_kept m t.Newline k = refl
start_statement_kept m t.Semicolon k = refl
start_statement_kept m t.OpenBrace k = refl
start_statement_kept m t.CloseBrace k = close_block_kept m k
start_statement_kept m (t.Keyword word.Next) k = refl
start_statement_kept m (t.Keyword word.NextFile) k = refl
start_statement_kept m (t.Keyword word.Break) k = refl
start_statement_kept m (t.Keyword word.Continue) k = refl
start_statement_kept m (t.Keyword word.Exit) k = refl
start_statement_kept m (t.Keyword word.Return) k = refl
start_statement_kept m (t.Keyword word.If) k = refl
start_statement_kept m (t.Keyword word.While) k = refl
start_statement_kept m (t.Keyword word.For) k = refl
start_statement_kept m (t.Keyword word.Do) k = refl
start_statement_kept m y k = start_part_kept m y k

after_do_body_kept : (m : ℕ) (y : Kind) (x : Statement) (k : List unlimited.Frame) → parser.after_do_body y (keep_statement m x) (frames m k) ≡ state m (unlimited.after_do_body y x k)
after_do_body_kept m (t.Keyword word.While) x k = refl
after_do_body_kept m y x k = refl

end_statement_kept : (m : ℕ) (y : Kind) (x : Statement) (k : List unlimited.Frame) → parser.end_statement m y (keep_statement m x) (frames m k) ≡ state m (unlimited.end_statement y x k)
end_statement_kept m y x (unlimited.InBlock made ∷ k) = ap (λ z. parser.start_statement m y (parser.InBlock z ∷ frames m k)) (push_kept m made x) ∙ start_statement_kept m y (unlimited.InBlock (push made x) ∷ k)
end_statement_kept m y x (unlimited.InAction h made ∷ k) = ap (λ z. parser.start_statement m y (parser.InAction (head m h) z ∷ frames m k)) (push_kept m made x) ∙ start_statement_kept m y (unlimited.InAction h (push made x) ∷ k)
end_statement_kept m y x (unlimited.InIfBody c ∷ k) =
    cond_kept m (is_else y) _ _ (unlimited.BeforeStatement (unlimited.InElseBody c x ∷ k)) (unlimited.end_statement y (If c x) k) refl
    (ap (λ z. parser.end_statement m y z (frames m k)) (two_limited m (height_of c) (height_of_statement x) height_of_statement If c x (omega arith) (omega arith)) ∙ end_statement_kept m y (If c x) k)
end_statement_kept m y x (unlimited.InElseBody c z ∷ k) =
    ap (λ z. parser.end_statement m y z (frames m k)) (three_limited m (height_of c) (height_of_statement z) (height_of_statement x) height_of_statement IfElse c z x (omega arith) (omega arith) (omega arith)) ∙ end_statement_kept m y (IfElse c z x) k
end_statement_kept m y x (unlimited.InWhileBody c ∷ k) =
    ap (λ z. parser.end_statement m y z (frames m k)) (two_limited m (height_of c) (height_of_statement x) height_of_statement While c x (omega arith) (omega arith)) ∙ end_statement_kept m y (While c x) k
end_statement_kept m y x (unlimited.InForInBody c d ∷ k) =
    ap (λ z. parser.end_statement m y z (frames m k)) (one_limited m (height_of_statement x) height_of_statement (ForIn c d) x (omega arith)) ∙ end_statement_kept m y (ForIn c d x) k
end_statement_kept m y x (unlimited.InForBody p c q ∷ k) =
    ap (λ z. parser.end_statement m y z (frames m k)) (four_limited m (height_of_optional_simple p) (optional_height c) (height_of_optional_simple q) (height_of_statement x) height_of_statement For p c q x (omega arith) (omega arith) (omega arith) (omega arith)) ∙ end_statement_kept m y (For p c q x) k
end_statement_kept m y x (unlimited.InDoBody ∷ k) = after_do_body_kept m y x k
end_statement_kept m y x [] = refl
end_statement_kept m y x (f ∷ k) = refl

end_simple_statement_kept : (m : ℕ) (y : Kind) (x : Statement) (k : List unlimited.Frame) → parser.end_simple_statement m y (keep_statement m x) (frames m k) ≡ state m (unlimited.end_simple_statement y x k)
end_simple_statement_kept m t.CloseBrace x k = end_statement_kept m t.CloseBrace x k
end_simple_statement_kept m y x k = refl

start_for_in_other : (c : Bool) (x : SimpleStatement) (k : List parser.Frame) → parser.start_for_in (Some x) k ≡ parser.Failed → parser.start_for_in (cond c (Some x) None) k ≡ parser.Failed
start_for_in_other true x k h = h
start_for_in_other false x k h = refl

start_for_in_kept : (m : ℕ) (x : SimpleStatement) (k : List unlimited.Frame) → 3 ≤ m → parser.start_for_in (keep_simple m x) (frames m k) ≡ state m (unlimited.end_for_first t.CloseParenthesis x k)
start_for_in_kept m (tree.Expression (Membership (Name c) d)) k h = ap (λ z. parser.start_for_in z (frames m k)) (low m 3 (tree.Expression (Membership (Name c) d)) h)
start_for_in_kept m x k h = start_for_in_other (leb (height_of_simple x) m) x (frames m k) refl

part_kept : (m : ℕ) (x : SimpleStatement) → parser.for_part m (keep_simple m x) ≡ keep_part m (ASimple x)
part_kept m x = one_limited m (height_of_simple x) height_of_optional_simple ASimple x (omega arith)

end_for_first_kept : (m : ℕ) (y : Kind) (x : SimpleStatement) (k : List unlimited.Frame) → 3 ≤ m → parser.end_for_first m y (keep_simple m x) (frames m k) ≡ state m (unlimited.end_for_first y x k)
end_for_first_kept m t.Semicolon x k h = ap (λ z. parser.BeforeForCondition z (frames m k)) (part_kept m x)
end_for_first_kept m t.CloseParenthesis x k h = start_for_in_kept m x k h
end_for_first_kept m y x k h = refl

end_for_last_kept : (m : ℕ) (y : Kind) (p : OptionalSimple) (c : OptionalExpr) (x : SimpleStatement) (k : List unlimited.Frame) → parser.end_for_last m y (keep_part m p) (keep_if m c) (keep_simple m x) (frames m k) ≡ state m (unlimited.end_for_last y p c x k)
end_for_last_kept m t.CloseParenthesis p c x k = ap (λ z. parser.BeforeStatement (parser.InForBody (keep_part m p) (keep_if m c) z ∷ frames m k)) (part_kept m x)
end_for_last_kept m y p c x k = refl

just_kept : (m : ℕ) (y : Kind) (x : SimpleStatement) (k : List unlimited.Frame) → parser.end_simple_statement m y (parser.simple_statement m (keep_simple m x)) (frames m k) ≡ state m (unlimited.end_simple_statement y (Simple x) k)
just_kept m y x k = ap (λ z. parser.end_simple_statement m y z (frames m k)) (one_limited m (height_of_simple x) height_of_statement Simple x (omega arith)) ∙ end_simple_statement_kept m y (Simple x) k

end_simple_kept : (m : ℕ) (y : Kind) (x : SimpleStatement) (k : List unlimited.Frame) → 3 ≤ m → parser.end_simple m y (keep_simple m x) (frames m k) ≡ state m (unlimited.end_simple y x k)
end_simple_kept m y x (unlimited.InForFirst ∷ k) h = end_for_first_kept m y x k h
end_simple_kept m y x (unlimited.InForLast p c ∷ k) h = end_for_last_kept m y p c x k
end_simple_kept m y x [] h = just_kept m y x []
end_simple_kept m y x (f ∷ k) h = just_kept m y x (f ∷ k)

end_so : (m : ℕ) (y : Kind) (z : Option SimpleStatement) (x : SimpleStatement) (k : List unlimited.Frame) → 3 ≤ m → z ≡ keep_simple m x → parser.end_simple m y z (frames m k) ≡ state m (unlimited.end_simple y x k)
end_so m y z x k h e = ap (λ z. parser.end_simple m y z (frames m k)) e ∙ end_simple_kept m y x k h

here_kept : (m : ℕ) (how : PrintForm) (what : PrintList) → over_one m height_of_simple (printed_here how) (keep_printed m what) ≡ keep_simple m (tree.Print how what Standard)
here_kept m how what = one_limited m (height_of_print_list what) height_of_simple (printed_here how) what (omega arith)

end_print_list_kept : (m : ℕ) (y : Kind) (how : PrintForm) (what : PrintList) (k : List unlimited.Frame) → 3 ≤ m → parser.end_print_list m y how (keep_printed m what) (frames m k) ≡ state m (unlimited.end_print_list y how what k)
end_print_list_kept m (t.Operator operator.Greater) how what k h = refl
end_print_list_kept m t.Append how what k h = refl
end_print_list_kept m t.Bar how what k h = refl
end_print_list_kept m y how what k h = end_so m y _ (tree.Print how what Standard) k h (here_kept m how what)

close_pattern_kept : (m : ℕ) (y : Kind) (p : Pattern) (k : List unlimited.Frame) → parser.after_pattern m y (keep_pattern m p) (frames m k) ≡ state m (unlimited.after_pattern y p k)
close_pattern_kept m t.Semicolon p k = ap (λ z. parser.end_item m z (frames m k)) (one_limited m (height_of_pattern p) height_of_item PatternOnly p (omega arith)) ∙ between_kept m (PatternOnly p) k
close_pattern_kept m t.Newline p k = ap (λ z. parser.end_item m z (frames m k)) (one_limited m (height_of_pattern p) height_of_item PatternOnly p (omega arith)) ∙ between_kept m (PatternOnly p) k
close_pattern_kept m y p k = refl

close_group_kept : (m : ℕ) (y : Kind) (g : Bool) (made : Exprs) (e : Expr) (k : List unlimited.Frame) → parser.close_group m y g (keep_list m made) (keep m e) (frames m k) ≡ state m (unlimited.close_group y g made e k)
close_group_kept m t.Comma g made e k = ap (λ z. parser.BeforeOperand true false (parser.InGroup g z ∷ frames m k)) (one_more_kept m made e)
close_group_kept m t.CloseParenthesis g Nil e k = ap (λ z. parser.AfterOperand g (operand_of 0 z) (frames m k)) (one_limited m (height_of e) height_of Group e (omega arith))
close_group_kept m t.CloseParenthesis g (Cons d made) e k =
    test_false (is_none (1 + count made)) _ _ (empty_not (1 + count made) (omega arith)) ∙ ap (λ z. parser.AfterList g z (frames m k)) (one_more_kept m (Cons d made) e)
close_group_kept m y g made e k = refl

close_call_kept : (m : ℕ) (y : Kind) (f : List ℕ) (g : Bool) (xs : Exprs) (k : List unlimited.Frame) → parser.close_call m y f g (keep_list m xs) (frames m k) ≡ state m (unlimited.close_call y f g xs k)
close_call_kept m t.CloseParenthesis f g xs k = ap (λ z. parser.AfterOperand g z (frames m k)) (call_kept m f xs)
close_call_kept m y f g xs k = refl

close_built_in_kept : (m : ℕ) (y : Kind) (f : BuiltInName) (g : Bool) (xs : Exprs) (k : List unlimited.Frame) → parser.close_built_in m y f g (keep_list m xs) (frames m k) ≡ state m (unlimited.close_built_in y f g xs k)
close_built_in_kept m t.CloseParenthesis f g xs k =
    ap (λ z. parser.when (accepts f (count xs) (third_is_place xs)) (parser.AfterOperand g z (frames m k))) (built_in_kept m f xs)
    ∙ when_kept m (accepts f (count xs) (third_is_place xs)) (accepts_list f xs) (unlimited.AfterOperand g (BuiltIn f xs) k) (accepts_kept f xs)
close_built_in_kept m y f g xs k = refl

close_element_kept : (m : ℕ) (y : Kind) (x : List ℕ) (g : Bool) (xs : Exprs) (k : List unlimited.Frame) → parser.close_element m y x g (keep_list m xs) (frames m k) ≡ state m (unlimited.close_element y x g xs k)
close_element_kept m t.CloseBracket x g xs k = ap (λ z. parser.AfterOperand g (parser.place_operand 0 z) (frames m k)) (one_limited m (tallest xs) height_of (Element x) xs (omega arith))
close_element_kept m y x g xs k = refl

close_delete_kept : (m : ℕ) (y : Kind) (x : List ℕ) (xs : Exprs) (k : List unlimited.Frame) → parser.after_delete_subscript m y x (keep_list m xs) (frames m k) ≡ state m (unlimited.after_delete_subscript y x xs k)
close_delete_kept m t.CloseBracket x xs k = ap (λ z. parser.AfterSimpleStatement z (frames m k)) (one_limited m (tallest xs) height_of_simple (tree.Delete x) xs (omega arith))
close_delete_kept m y x xs k = refl

bare_kept : (m : ℕ) (xs : Exprs) → parser.bare_list m (keep_list m xs) ≡ keep_printed m (Bare xs)
bare_kept m xs = one_limited m (tallest xs) height_of_print_list Bare xs (omega arith)

close_print_kept : (m : ℕ) (y : Kind) (how : PrintForm) (xs : Exprs) (k : List unlimited.Frame) → 3 ≤ m → parser.after_print_expr m y how (keep_list m xs) (frames m k) ≡ state m (unlimited.after_print_expr y how xs k)
close_print_kept m t.Comma how xs k h = refl
close_print_kept m y how xs k h = ap (λ z. parser.end_print_list m y how z (frames m k)) (bare_kept m xs) ∙ end_print_list_kept m y how (Bare xs) k h

close_then_kept : (m : ℕ) (y : Kind) (g : Bool) (c e : Expr) (k : List unlimited.Frame) → parser.close_first_choice y g (keep m c) (keep m e) (frames m k) ≡ state m (unlimited.close_first_choice y g c e k)
close_then_kept m t.Colon g c e k = refl
close_then_kept m y g c e k = refl

close_test_kept : (m : ℕ) (y : Kind) (z : unlimited.ParserState) → parser.close_condition y (state m z) ≡ state m (unlimited.close_condition y z)
close_test_kept m t.CloseParenthesis z = refl
close_test_kept m y z = refl

close_for_kept : (m : ℕ) (y : Kind) (z : unlimited.ParserState) → parser.close_for_condition y (state m z) ≡ state m (unlimited.close_for_condition y z)
close_for_kept m t.Semicolon z = refl
close_for_kept m y z = refl

close_range_kept : (m : ℕ) (y : Kind) (e : Expr) (k : List unlimited.Frame) → parser.after_pattern_expr m y (keep m e) (frames m k) ≡ state m (unlimited.after_pattern_expr y e k)
close_range_kept m t.Comma e k = refl
close_range_kept m y e k = ap (λ z. parser.after_pattern m y z (frames m k)) (one_limited m (height_of e) height_of_pattern Single e (omega arith)) ∙ close_pattern_kept m y (Single e) k

close_to_kept : (m : ℕ) (y : Kind) (g : Bool) (c : OptionalExpr) (e : Expr) (k : List unlimited.Frame) → parser.after_getline_place y g (keep_maybe m c) (keep m e) (frames m k) ≡ state m (unlimited.after_getline_place y g c e k)
close_to_kept m (t.Operator operator.Less) g NoExpr e k = when_kept m (is_place e) (is_place e) (unlimited.BeforeOperand false g (unlimited.InGetlineFile (AnExpr e) ∷ k)) refl
close_to_kept m (t.Operator operator.Less) g (AnExpr c) e k = refl
close_to_kept m y g c e k = refl

if_tree_kept : (m : ℕ) (e : Expr) → parser.optional_tree m (keep m e) ≡ keep_if m (AnExpr e)
if_tree_kept m e = one_limited m (height_of e) optional_height AnExpr e (omega arith)

pub end_operand_kept : (m : ℕ) (y : Kind) (g : Bool) (e : Expr) (k : List unlimited.Frame) → 3 ≤ m → parser.end_operand m y g (keep m e) (frames m k) ≡ state m (unlimited.end_operand y g e k)
end_operand_kept m y g e (unlimited.InGroup o made ∷ k) h = close_group_kept m y o made e k
end_operand_kept m y g e (unlimited.InCall f o made ∷ k) h = ap (λ z. parser.close_call m y f o z (frames m k)) (one_more_kept m made e) ∙ close_call_kept m y f o (append made e) k
end_operand_kept m y g e (unlimited.InBuiltIn f o made ∷ k) h = ap (λ z. parser.close_built_in m y f o z (frames m k)) (one_more_kept m made e) ∙ close_built_in_kept m y f o (append made e) k
end_operand_kept m y g e (unlimited.InElement x o made ∷ k) h = ap (λ z. parser.close_element m y x o z (frames m k)) (one_more_kept m made e) ∙ close_element_kept m y x o (append made e) k
end_operand_kept m y g e (unlimited.InFirstChoice c ∷ k) h = close_then_kept m y g c e k
end_operand_kept m y g e (unlimited.InGetlinePlace c ∷ k) h = close_to_kept m y g c e k
end_operand_kept m y g e (unlimited.InExpression ∷ k) h = end_so m y _ (tree.Expression e) k h (one_limited m (height_of e) height_of_simple tree.Expression e (omega arith))
end_operand_kept m y g e (unlimited.InPrint how made ∷ k) h = ap (λ z. parser.after_print_expr m y how z (frames m k)) (one_more_kept m made e) ∙ close_print_kept m y how (append made e) k h
end_operand_kept m y g e (unlimited.InOutput how what way ∷ k) h = end_so m y _ (tree.Print how what (Redirected way e)) k h (two_limited m (height_of_print_list what) (height_of e) height_of_simple (printed_to how way) what e (omega arith) (omega arith))
end_operand_kept m y g e (unlimited.InDelete x made ∷ k) h = ap (λ z. parser.after_delete_subscript m y x z (frames m k)) (one_more_kept m made e) ∙ close_delete_kept m y x (append made e) k
end_operand_kept m y g e (unlimited.InExit ∷ k) h = end_so m y _ (tree.Exit (AnExpr e)) k h (ap (over_one m height_of_simple tree.Exit) (if_tree_kept m e) ∙ one_limited m (height_of e) height_of_simple tree.Exit (AnExpr e) (omega arith))
end_operand_kept m y g e (unlimited.InReturn ∷ k) h = end_so m y _ (tree.Return (AnExpr e)) k h (ap (over_one m height_of_simple tree.Return) (if_tree_kept m e) ∙ one_limited m (height_of e) height_of_simple tree.Return (AnExpr e) (omega arith))
end_operand_kept m y g e (unlimited.InIfCondition ∷ k) h = close_test_kept m y (unlimited.BeforeStatement (unlimited.InIfBody e ∷ k))
end_operand_kept m y g e (unlimited.InWhileCondition ∷ k) h = close_test_kept m y (unlimited.BeforeStatement (unlimited.InWhileBody e ∷ k))
end_operand_kept m y g e (unlimited.InDoCondition x ∷ k) h = ap (λ z. parser.close_condition y (parser.AfterDo z (frames m k))) (two_limited m (height_of_statement x) (height_of e) height_of_statement Do x e (omega arith) (omega arith)) ∙ close_test_kept m y (unlimited.AfterDo (Do x e) k)
end_operand_kept m y g e (unlimited.InForCondition p ∷ k) h = ap (λ z. parser.close_for_condition y (parser.BeforeForLast (keep_part m p) z (frames m k))) (if_tree_kept m e) ∙ close_for_kept m y (unlimited.BeforeForLast p (AnExpr e) k)
end_operand_kept m y g e (unlimited.InPattern ∷ k) h = close_range_kept m y e k
end_operand_kept m y g e (unlimited.InRangeEnd d ∷ k) h = ap (λ z. parser.after_pattern m y z (frames m k)) (two_limited m (height_of d) (height_of e) height_of_pattern Range d e (omega arith) (omega arith)) ∙ close_pattern_kept m y (Range d e) k
end_operand_kept m y g e [] h = refl
end_operand_kept m y g e (f ∷ k) h = refl

shift_kept : (m : ℕ) (r : InfixRole) (y : Kind) (g : Bool) (e : Expr) (k : List unlimited.Frame) → parser.shift m r y g (keep m e) (frames m k) ≡ state m (unlimited.shift r y g e k)
shift_kept m (Increments x) y g e k =
    cond_kept m (is_place e) _ _ (unlimited.AfterOperand g (PostIncrement x e) k) (unlimited.start_operand y false g (unlimited.InBinary Concatenate e ∷ k))
    (ap (λ z. parser.AfterOperand g (operand_of 3 z) (frames m k)) (one_limited m (height_of e) height_of (PostIncrement x) e (omega arith)))
    (start_operand_kept m y false g (unlimited.InBinary Concatenate e ∷ k))
shift_kept m Starts y g e k = start_operand_kept m y false g (unlimited.InBinary Concatenate e ∷ k)
shift_kept m r y g e k = refl

after_reduced_by : (m : ℕ) (r : InfixRole) (y : Kind) (g : Bool) (h : unlimited.Reduced) → 3 ≤ m → cond (parser.continues r (keep m h.operand) (parser.greatest_allowed_on (frames m h.stack))) (parser.shift m r y g (keep m h.operand) (frames m h.stack)) (parser.end_operand m y g (keep m h.operand) (frames m h.stack)) ≡ state m (cond (unlimited.continues r h.operand (unlimited.greatest_allowed_on h.stack)) (unlimited.shift r y g h.operand h.stack) (unlimited.end_operand y g h.operand h.stack))
after_reduced_by m r y g h l =
    ap (λ z. cond (parser.continues r (keep m h.operand) z) (parser.shift m r y g (keep m h.operand) (frames m h.stack)) (parser.end_operand m y g (keep m h.operand) (frames m h.stack))) (allowed_on_kept m h.stack)
    ∙ ap (λ z. cond z (parser.shift m r y g (keep m h.operand) (frames m h.stack)) (parser.end_operand m y g (keep m h.operand) (frames m h.stack))) (continues_kept m r h.operand (unlimited.greatest_allowed_on h.stack))
    ∙ cond_kept m (unlimited.continues r h.operand (unlimited.greatest_allowed_on h.stack)) _ _ (unlimited.shift r y g h.operand h.stack) (unlimited.end_operand y g h.operand h.stack) (shift_kept m r y g h.operand h.stack) (end_operand_kept m y g h.operand h.stack l)

after_reduced_kept : (m : ℕ) (r : InfixRole) (y : Kind) (g : Bool) (h : unlimited.Reduced) → 3 ≤ m → parser.after_reduced m r y g (held m h) ≡ state m (unlimited.after_reduced r y g h)
after_reduced_kept m Pipes y g h l = refl
after_reduced_kept m r y g h l = after_reduced_by m r y g h l

pub after_operand_kept : (m : ℕ) (g : Bool) (e : Expr) (k : List unlimited.Frame) (y : Kind) → 3 ≤ m → parser.after_operand m g (keep m e) (frames m k) y ≡ state m (unlimited.after_operand g e k y)
after_operand_kept m g e k y l = ap (parser.after_reduced m (role g y) y g) (reduce_kept m (role g y) e k) ∙ after_reduced_kept m (role g y) y g (unlimited.reduce (role g y) e k) l

name_kept_on : (m : ℕ) (x : List ℕ) (g : Bool) (k : List unlimited.Frame) (y : Kind) → 3 ≤ m → parser.after_name m x g (frames m k) y ≡ state m (unlimited.after_name x g k y)
name_kept_on m x g k t.OpenBracket l = refl
name_kept_on m x g k y l = after_operand_kept m g (Name x) k y l

length_kept : (m : ℕ) (g : Bool) (k : List unlimited.Frame) (y : Kind) → 3 ≤ m → parser.after_length m g (frames m k) y ≡ state m (unlimited.after_length g k y)
length_kept m g k t.OpenParenthesis l = refl
length_kept m g k y l = after_operand_kept m g Length k y l

alone_kept : (m : ℕ) (c : OptionalExpr) → parser.getline_operand m (keep_maybe m c) NoOperand NoOperand ≡ keep m (unlimited.getline_of c NoExpr)
alone_kept m NoExpr = getline_kept m NoExpr NoExpr
alone_kept m (AnExpr c) = piped_kept m c NoExpr

getline_on : (m : ℕ) (c : OptionalExpr) (g : Bool) (k : List unlimited.Frame) (y : Kind) → 3 ≤ m → parser.after_operand m g (parser.getline_operand m (keep_maybe m c) NoOperand NoOperand) (frames m k) y ≡ state m (unlimited.after_operand g (unlimited.getline_of c NoExpr) k y)
getline_on m c g k y l = ap (λ z. parser.after_operand m g z (frames m k) y) (alone_kept m c) ∙ after_operand_kept m g (unlimited.getline_of c NoExpr) k y l

after_getline_kept : (m : ℕ) (c : OptionalExpr) (g : Bool) (k : List unlimited.Frame) (y : Kind) → 3 ≤ m → parser.after_getline m (keep_maybe m c) g (frames m k) y ≡ state m (unlimited.after_getline c g k y)
after_getline_kept m c g k (t.Name x) l = refl
after_getline_kept m c g k t.Dollar l = refl
after_getline_kept m NoExpr g k (t.Operator operator.Less) l = refl
after_getline_kept m (AnExpr c) g k (t.Operator operator.Less) l = getline_on m (AnExpr c) g k (t.Operator operator.Less) l
after_getline_kept m c g k y l = getline_on m c g k y l

redirect_kept : (m : ℕ) (y : Kind) (e : Expr) (k : List unlimited.Frame) → parser.redirect_to_pipe m y (keep m e) (frames m k) ≡ state m (unlimited.redirect_to_pipe y e k)
redirect_kept m y e (unlimited.InPrint how made ∷ k) =
    ap (λ z. parser.start_operand m y false false (parser.InOutput how z redirection.Pipe ∷ frames m k)) (ap (parser.bare_list m) (one_more_kept m made e) ∙ bare_kept m (append made e))
    ∙ start_operand_kept m y false false (unlimited.InOutput how (Bare (append made e)) redirection.Pipe ∷ k)
redirect_kept m y e [] = refl
redirect_kept m y e (f ∷ k) = refl

after_bar_kept : (m : ℕ) (g : Bool) (e : Expr) (k : List unlimited.Frame) (y : Kind) → parser.after_bar m g (keep m e) (frames m k) y ≡ state m (unlimited.after_bar g e k y)
after_bar_kept m g e k (t.Keyword word.Getline) =
    when_kept m (parser.continues Pipes (keep m e) (parser.greatest_allowed_on (frames m k))) (unlimited.continues Pipes e (unlimited.greatest_allowed_on k)) (unlimited.AfterGetline (AnExpr e) g k) (ap (parser.continues Pipes (keep m e)) (allowed_on_kept m k))
after_bar_kept m g e k y =
    ap (λ z. parser.redirect_to_pipe m y z.operand z.stack) (reduce_kept m Ends e k)
    ∙ (let h = unlimited.reduce Ends e k in redirect_kept m y h.operand h.stack)

end_list_kept : (m : ℕ) (y : Kind) (xs : Exprs) (k : List unlimited.Frame) → 3 ≤ m → parser.end_list m y (keep_list m xs) (frames m k) ≡ state m (unlimited.end_list y xs k)
end_list_kept m y xs (unlimited.InPrint how Nil ∷ k) l =
    ap (λ z. parser.end_print_list m y how z (frames m k)) (one_limited m (tallest xs) height_of_print_list Parenthesized xs (omega arith)) ∙ end_print_list_kept m y how (Parenthesized xs) k l
end_list_kept m y xs (unlimited.InPrint how (Cons d made) ∷ k) l =
    test_false (is_none (1 + count made)) _ _ (empty_not (1 + count made) (omega arith))
end_list_kept m y xs [] l = refl
end_list_kept m y xs (f ∷ k) l = refl

after_list_kept : (m : ℕ) (g : Bool) (xs : Exprs) (k : List unlimited.Frame) (y : Kind) → 3 ≤ m → parser.after_list m g (keep_list m xs) (frames m k) y ≡ state m (unlimited.after_list g xs k y)
after_list_kept m g xs k (t.Keyword word.In) l = when_kept m (leb 12 (parser.greatest_allowed_on (frames m k))) (leb 12 (unlimited.greatest_allowed_on k)) (unlimited.AfterListIn xs g k) (ap (leb 12) (allowed_on_kept m k))
after_list_kept m g xs k y l = end_list_kept m y xs k l

none_kept : (m : ℕ) (y : Kind) (k : List unlimited.Frame) → 3 ≤ m → parser.end_simple m y (parser.print_alone m) (frames m k) ≡ state m (unlimited.end_simple y (tree.Print form.Print (Bare Nil) Standard) k)
none_kept m y k l = end_so m y _ (tree.Print form.Print (Bare Nil) Standard) k l refl

after_print_kept : (m : ℕ) (y : Kind) (how : PrintForm) (k : List unlimited.Frame) → 3 ≤ m → parser.after_print m how (frames m k) y ≡ state m (unlimited.after_print how k y)
after_print_kept m (t.Operator operator.Greater) form.Print k l = refl
after_print_kept m t.Append form.Print k l = refl
after_print_kept m t.Bar form.Print k l = refl
after_print_kept m t.Semicolon form.Print k l = none_kept m t.Semicolon k l
after_print_kept m t.Newline form.Print k l = none_kept m t.Newline k l
after_print_kept m t.CloseBrace form.Print k l = none_kept m t.CloseBrace k l
after_print_kept m t.CloseParenthesis form.Print k l = none_kept m t.CloseParenthesis k l
after_print_kept m y form.Print k l = start_operand_kept m y false true (unlimited.InPrint form.Print Nil ∷ k)
after_print_kept m y form.Printf k l = start_operand_kept m y false true (unlimited.InPrint form.Printf Nil ∷ k)

after_exit_kept : (m : ℕ) (z : Option SimpleStatement) (x : SimpleStatement) (f : unlimited.Frame) (k : List unlimited.Frame) (y : Kind) → 3 ≤ m → z ≡ keep_simple m x → parser.after_exit m z (frame m f) (frames m k) y ≡ state m (unlimited.after_exit x f k y)
after_exit_kept m z x f k t.Semicolon l e = end_so m t.Semicolon z x k l e
after_exit_kept m z x f k t.Newline l e = end_so m t.Newline z x k l e
after_exit_kept m z x f k t.CloseBrace l e = end_so m t.CloseBrace z x k l e
after_exit_kept m z x f k y l e = start_operand_kept m y false false (f ∷ k)

for_first_kept : (m : ℕ) (k : List unlimited.Frame) (y : Kind) → parser.before_for_first m (frames m k) y ≡ state m (unlimited.before_for_first k y)
for_first_kept m k t.Semicolon = refl
for_first_kept m k y = start_part_kept m y (unlimited.InForFirst ∷ k)

for_test_kept : (m : ℕ) (p : OptionalSimple) (k : List unlimited.Frame) (y : Kind) → parser.before_for_condition m (keep_part m p) (frames m k) y ≡ state m (unlimited.before_for_condition p k y)
for_test_kept m p k t.Semicolon = refl
for_test_kept m p k y = start_operand_kept m y false false (unlimited.InForCondition p ∷ k)

for_last_kept : (m : ℕ) (p : OptionalSimple) (c : OptionalExpr) (k : List unlimited.Frame) (y : Kind) → parser.before_for_last m (keep_part m p) (keep_if m c) (frames m k) y ≡ state m (unlimited.before_for_last p c k y)
for_last_kept m p c k t.CloseParenthesis = refl
for_last_kept m p c k y = start_part_kept m y (unlimited.InForLast p c ∷ k)

after_statement_kept : (m : ℕ) (x : Statement) (k : List unlimited.Frame) (y : Kind) → parser.after_statement m (keep_statement m x) (frames m k) y ≡ state m (unlimited.after_statement x k y)
after_statement_kept m x k t.Newline = refl
after_statement_kept m x k y = end_statement_kept m y x k

items_kept : (m : ℕ) (k : List unlimited.Frame) (y : Kind) → parser.start_item m (frames m k) y ≡ state m (unlimited.start_item k y)
items_kept m k t.Semicolon = refl
items_kept m k t.Newline = refl
items_kept m k (t.Keyword word.Begin) = refl
items_kept m k (t.Keyword word.End) = refl
items_kept m k (t.Keyword word.Function) = refl
items_kept m k t.OpenBrace = refl
items_kept m k y = start_operand_kept m y false false (unlimited.InPattern ∷ k)

before_action_kept : (m : ℕ) (h : unlimited.Head) (l : Bool) (k : List unlimited.Frame) (y : Kind) → parser.before_action m (head m h) l (frames m k) y ≡ state m (unlimited.before_action h l k y)
before_action_kept m h true k t.Newline = refl
before_action_kept m h false k t.Newline = refl
before_action_kept m h l k y = refl

after_function_kept : (m : ℕ) (k : List unlimited.Frame) (y : Kind) → parser.after_function (frames m k) y ≡ state m (unlimited.after_function k y)
after_function_kept m k (t.Name f) = refl
after_function_kept m k y = refl

before_parameter_kept : (m : ℕ) (f : List ℕ) (l : Bool) (xs : List (List ℕ)) (k : List unlimited.Frame) (y : Kind) → parser.before_parameter f l xs (frames m k) y ≡ state m (unlimited.before_parameter f l xs k y)
before_parameter_kept m f true xs k t.Newline = refl
before_parameter_kept m f false xs k t.Newline = refl
before_parameter_kept m f true xs k t.CloseParenthesis = refl
before_parameter_kept m f false xs k t.CloseParenthesis = refl
before_parameter_kept m f l xs k y = refl

after_parameter_kept : (m : ℕ) (f : List ℕ) (xs : List (List ℕ)) (k : List unlimited.Frame) (y : Kind) → parser.after_parameter f xs (frames m k) y ≡ state m (unlimited.after_parameter f xs k y)
after_parameter_kept m f xs k t.Comma = refl
after_parameter_kept m f xs k y = refl

name_kept : (m : ℕ) (y : Kind) (f : List ℕ → parser.ParserState) (g : List ℕ → unlimited.ParserState) → ((x : List ℕ) → f x ≡ state m (g x)) → parser.name_then y f ≡ state m (unlimited.name_then y g)
name_kept m (t.Name x) f g h = h x
name_kept m y f g h = refl

open_kept : (m : ℕ) (y : Kind) (z : unlimited.ParserState) → parser.at_parenthesis y (state m z) ≡ state m (unlimited.at_parenthesis y z)
open_kept m t.OpenParenthesis z = refl
open_kept m y z = refl

delete_kept : (m : ℕ) (x : List ℕ) (k : List unlimited.Frame) (y : Kind) → 3 ≤ m → parser.after_delete_name m x (frames m k) y ≡ state m (unlimited.after_delete_name x k y)
delete_kept m x k t.OpenBracket h = refl
delete_kept m x k y h = end_simple_kept m y (tree.DeleteAll x) k h

step_kept : (m : ℕ) (x : unlimited.ParserState) (y : Kind) → 3 ≤ m → parser.step m (state m x) y ≡ state m (unlimited.step x y)
step_kept m (unlimited.BeforeOperand l g k) y h = start_operand_kept m y l g k
step_kept m (unlimited.AfterOperand g e k) y h = after_operand_kept m g e k y h
step_kept m (unlimited.AfterName x g k) y h = name_kept_on m x g k y h
step_kept m (unlimited.AfterLength g k) y h = length_kept m g k y h
step_kept m (unlimited.AfterGetline c g k) y h = after_getline_kept m c g k y h
step_kept m (unlimited.AfterBar g e k) y h = after_bar_kept m g e k y
step_kept m (unlimited.BeforeParenthesis f g k) y h = open_kept m y (unlimited.BeforeOperand false false (f ∷ k))
step_kept m (unlimited.AfterList g xs k) y h = after_list_kept m g xs k y h
step_kept m (unlimited.AfterIn e g k) y h = name_kept m y _ (λ x. unlimited.AfterOperand g (Membership e x) k) (λ x. ap (λ z. parser.AfterOperand g (operand_of 12 z) (frames m k)) (one_limited m (height_of e) height_of (λ z. Membership z x) e (omega arith)))
step_kept m (unlimited.AfterListIn xs g k) y h = name_kept m y _ (λ x. unlimited.AfterOperand g (ListMembership xs x) k) (λ x. ap (λ z. parser.AfterOperand g (operand_of 12 z) (frames m k)) (one_limited m (tallest xs) height_of (λ z. ListMembership z x) xs (omega arith)))
step_kept m (unlimited.AfterPrint how k) y h = after_print_kept m y how k h
step_kept m (unlimited.AfterDelete k) y h = name_kept m y _ (λ x. unlimited.AfterDeleteName x k) (λ x. refl)
step_kept m (unlimited.AfterDeleteName x k) y h = delete_kept m x k y h
step_kept m (unlimited.AfterExit k) y h = after_exit_kept m _ (tree.Exit NoExpr) unlimited.InExit k y h (one_limited m 0 height_of_simple tree.Exit NoExpr (omega arith))
step_kept m (unlimited.AfterReturn k) y h = after_exit_kept m _ (tree.Return NoExpr) unlimited.InReturn k y h (one_limited m 0 height_of_simple tree.Return NoExpr (omega arith))
step_kept m (unlimited.AfterSimpleStatement x k) y h = end_simple_kept m y x k h
step_kept m (unlimited.AfterDo x k) y h = end_simple_statement_kept m y x k
step_kept m (unlimited.AfterFor k) y h = open_kept m y (unlimited.BeforeForFirst k)
step_kept m (unlimited.BeforeForFirst k) y h = for_first_kept m k y
step_kept m (unlimited.BeforeForCondition p k) y h = for_test_kept m p k y
step_kept m (unlimited.BeforeForLast p c k) y h = for_last_kept m p c k y
step_kept m (unlimited.BeforeStatement k) y h = start_statement_kept m y k
step_kept m (unlimited.AfterStatement x k) y h = after_statement_kept m x k y
step_kept m (unlimited.BetweenItems k) y h = items_kept m k y
step_kept m (unlimited.BeforeAction d l k) y h = before_action_kept m d l k y
step_kept m (unlimited.AfterFunction k) y h = after_function_kept m k y
step_kept m (unlimited.AfterFunctionName f k) y h = open_kept m y (unlimited.BeforeParameter f false [] k)
step_kept m (unlimited.BeforeParameter f l xs k) y h = before_parameter_kept m f l xs k y
step_kept m (unlimited.AfterParameter f xs k) y h = after_parameter_kept m f xs k y
step_kept m unlimited.Failed y h = refl

-- what is kept of an answer
abbrev pub kept : ℕ → Option (List Item) → Option (Option (List Item))
kept m None = None
kept m (Some xs) = Some (keep_items m xs)

all_kept : (m : ℕ) (k : List unlimited.Frame) → parser.items (frames m k) ≡ kept m (unlimited.items k)
all_kept m (unlimited.InProgram made ∷ []) = refl
all_kept m (unlimited.InProgram made ∷ f ∷ k) = refl
all_kept m [] = refl
all_kept m (f ∷ k) = refl

whole_kept : (m : ℕ) (x : unlimited.ParserState) → parser.whole (state m x) ≡ kept m (unlimited.whole x)
whole_kept m (unlimited.BetweenItems k) = all_kept m k
whole_kept m x = refl

answer_kept : (m : ℕ) (x : unlimited.ParserState) (ts : List Kind) → 3 ≤ m → parser.answer m (state m x) ts ≡ kept m (unlimited.answer x ts)
answer_kept m x [] h = ap parser.whole (step_kept m x t.Newline h) ∙ whole_kept m (unlimited.step x t.Newline)
answer_kept m x (y ∷ ts) h = ap (λ z. parser.answer m z ts) (step_kept m x y h) ∙ answer_kept m (unlimited.step x y) ts h

-- the parser of kept trees answers what is kept of the answer
pub read_kept : (m : ℕ) (ts : List Kind) → 3 ≤ m → parser.read m ts ≡ kept m (unlimited.read ts)
read_kept m ts h = answer_kept m unlimited.start ts h
