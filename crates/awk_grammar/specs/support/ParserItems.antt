-- What it does at the tokens of an item.
use Rattle.std.specs.Prelude.{ℕ, Bool, true, false, not, List, Option, ◌++◌, ◌∷◌, []}
use Rattle.awk_lex.specs.declared.token.Kind.{Kind}
use Rattle.awk_lex.specs.declared.token.Kind.TheVariants as t
use Rattle.awk_lex.specs.declared.token.Keyword.TheVariants as word
use Rattle.awk_grammar.specs.definitions.Tree as tree
use Rattle.awk_grammar.specs.definitions.Tree.{Statements, Pattern, Item}
use Rattle.awk_grammar.specs.definitions.Height.{height_of_pattern, height_of_item, height_of_program}
use Rattle.awk_grammar.specs.support.Nodes.{limited, over_one, over_two, add}
use Rattle.awk_grammar.specs.support.ParserState.{Operand, Head, OfBegin, OfEnd, OfNoPattern, OfPattern, OfFunction, Frame, InPattern, InRangeEnd, InAction, InProgram, ParserState, BeforeOperand, BeforeStatement, BetweenItems, BeforeAction, AfterFunction, AfterFunctionName, BeforeParameter, AfterParameter, Failed, when}
use Rattle.awk_grammar.specs.support.ParserOperands.{start_operand}

-- the item of an action and what stands before it
abbrev pub make_item : ℕ → Head → Option Statements → Option Item
make_item m OfBegin all = over_one m height_of_item tree.Begin all
make_item m OfEnd all = over_one m height_of_item tree.End all
make_item m OfNoPattern all = over_one m height_of_item tree.Action all
make_item m (OfPattern p) all = over_two m height_of_item tree.PatternAction p all
make_item m (OfFunction f xs) all = over_one m height_of_item (tree.Function f xs) all

-- an item is done
abbrev pub end_item : ℕ → Option Item → List Frame → ParserState
end_item m x (InProgram made ∷ k) = BetweenItems (InProgram (over_two m height_of_program add made x) ∷ k)
end_item m x k = Failed

-- behind a pattern: its action, or none
abbrev pub after_pattern : ℕ → Kind → Option Pattern → List Frame → ParserState
after_pattern m t.OpenBrace p k = BeforeStatement (InAction (OfPattern p) (limited m 0 tree.NoMore) ∷ k)
after_pattern m t.Semicolon p k = end_item m (over_one m height_of_item tree.PatternOnly p) k
after_pattern m t.Newline p k = end_item m (over_one m height_of_item tree.PatternOnly p) k
after_pattern m y p k = Failed

-- behind the expression of a pattern: a range may follow
abbrev pub after_pattern_expr : ℕ → Kind → Operand → List Frame → ParserState
after_pattern_expr m t.Comma e k = BeforeOperand true false (InRangeEnd e.tree ∷ k)
after_pattern_expr m y e k = after_pattern m y (over_one m height_of_pattern tree.Single e.tree) k

abbrev pub start_item : ℕ → List Frame → Kind → ParserState
start_item m k t.Semicolon = BetweenItems k
start_item m k t.Newline = BetweenItems k
start_item m k (t.Keyword word.Begin) = BeforeAction OfBegin false k
start_item m k (t.Keyword word.End) = BeforeAction OfEnd false k
start_item m k (t.Keyword word.Function) = AfterFunction k
start_item m k t.OpenBrace = BeforeStatement (InAction OfNoPattern (limited m 0 tree.NoMore) ∷ k)
start_item m k y = start_operand m y false false (InPattern ∷ k)

-- where an action must begin; l: newlines may stand before it
abbrev pub before_action : ℕ → Head → Bool → List Frame → Kind → ParserState
before_action m h l k t.Newline = when l (BeforeAction h l k)
before_action m h l k t.OpenBrace = BeforeStatement (InAction h (limited m 0 tree.NoMore) ∷ k)
before_action m h l k y = Failed

-- behind the word `function`
abbrev pub after_function : List Frame → Kind → ParserState
after_function k (t.Name f) = AfterFunctionName f k
after_function k (t.Called f) = AfterFunctionName f k
after_function k y = Failed

abbrev pub before_parameter : List ℕ → Bool → List (List ℕ) → List Frame → Kind → ParserState
before_parameter f l xs k (t.Name x) = AfterParameter f (xs ++ (x ∷ [])) k
before_parameter f l xs k t.Newline = when l (BeforeParameter f l xs k)
before_parameter f l xs k t.CloseParenthesis = when (not l) (BeforeAction (OfFunction f xs) true k)
before_parameter f l xs k y = Failed

abbrev pub after_parameter : List ℕ → List (List ℕ) → List Frame → Kind → ParserState
after_parameter f xs k t.Comma = BeforeParameter f true xs k
after_parameter f xs k t.CloseParenthesis = BeforeAction (OfFunction f xs) true k
after_parameter f xs k y = Failed
