-- What it does at the tokens of an item.
use Rattle.std.specs.Prelude.{ℕ, Bool, true, false, not, List, ◌++◌, ◌∷◌, []}
use Rattle.awk_lex.specs.declared.token.Kind.{Kind}
use Rattle.awk_lex.specs.declared.token.Kind.TheVariants as t
use Rattle.awk_lex.specs.declared.token.Keyword.TheVariants as word
use Rattle.awk_grammar.specs.definitions.Tree as tree
use Rattle.awk_grammar.specs.definitions.Tree.{Expr, Statements, NoMore, Pattern, Single, Item, Action, PatternAction, PatternOnly}
use Rattle.awk_grammar.specs.support.UnlimitedState.{Head, OfBegin, OfEnd, OfNoPattern, OfPattern, OfFunction, Frame, InPattern, InRangeEnd, InAction, InProgram, ParserState, BeforeOperand, BeforeStatement, BetweenItems, BeforeAction, AfterFunction, AfterFunctionName, BeforeParameter, AfterParameter, Failed, when}
use Rattle.awk_grammar.specs.support.UnlimitedOperands.{start_operand}

-- the item of an action and what stands before it
abbrev pub make_item : Head → Statements → Item
make_item OfBegin all = tree.Begin all
make_item OfEnd all = tree.End all
make_item OfNoPattern all = Action all
make_item (OfPattern p) all = PatternAction p all
make_item (OfFunction f xs) all = tree.Function f xs all

-- an item is done
abbrev pub end_item : Item → List Frame → ParserState
end_item x (InProgram made ∷ k) = BetweenItems (InProgram (made ++ (x ∷ [])) ∷ k)
end_item x k = Failed

-- behind a pattern: its action, or none
abbrev pub after_pattern : Kind → Pattern → List Frame → ParserState
after_pattern t.OpenBrace p k = BeforeStatement (InAction (OfPattern p) NoMore ∷ k)
after_pattern t.Semicolon p k = end_item (PatternOnly p) k
after_pattern t.Newline p k = end_item (PatternOnly p) k
after_pattern y p k = Failed

-- behind the expression of a pattern: a range may follow
abbrev pub after_pattern_expr : Kind → Expr → List Frame → ParserState
after_pattern_expr t.Comma e k = BeforeOperand true false (InRangeEnd e ∷ k)
after_pattern_expr y e k = after_pattern y (Single e) k

abbrev pub start_item : List Frame → Kind → ParserState
start_item k t.Semicolon = BetweenItems k
start_item k t.Newline = BetweenItems k
start_item k (t.Keyword word.Begin) = BeforeAction OfBegin false k
start_item k (t.Keyword word.End) = BeforeAction OfEnd false k
start_item k (t.Keyword word.Function) = AfterFunction k
start_item k t.OpenBrace = BeforeStatement (InAction OfNoPattern NoMore ∷ k)
start_item k y = start_operand y false false (InPattern ∷ k)

-- where an action must begin; l: newlines may stand before it
abbrev pub before_action : Head → Bool → List Frame → Kind → ParserState
before_action h s k t.Newline = when s (BeforeAction h s k)
before_action h s k t.OpenBrace = BeforeStatement (InAction h NoMore ∷ k)
before_action h s k y = Failed

-- behind the word `function`
abbrev pub after_function : List Frame → Kind → ParserState
after_function k (t.Name f) = AfterFunctionName f k
after_function k (t.Called f) = AfterFunctionName f k
after_function k y = Failed

abbrev pub before_parameter : List ℕ → Bool → List (List ℕ) → List Frame → Kind → ParserState
before_parameter f s xs k (t.Name x) = AfterParameter f (xs ++ (x ∷ [])) k
before_parameter f s xs k t.Newline = when s (BeforeParameter f s xs k)
before_parameter f s xs k t.CloseParenthesis = when (not s) (BeforeAction (OfFunction f xs) true k)
before_parameter f s xs k y = Failed

abbrev pub after_parameter : List ℕ → List (List ℕ) → List Frame → Kind → ParserState
after_parameter f xs k t.Comma = BeforeParameter f true xs k
after_parameter f xs k t.CloseParenthesis = BeforeAction (OfFunction f xs) true k
after_parameter f xs k y = Failed
