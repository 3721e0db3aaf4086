-- The end of a text, by cases: it ends a pattern, and what an operand at the end of a pattern has begun.
use Rattle.std.proofs.Common.{◌≡◌, Bool, true, false, List, [], ◌∷◌, ◌++◌, Option, Some, None, refl}
use Rattle.awk_lex.specs.declared.token.Kind.TheVariants as t
use Rattle.awk_grammar.specs.declared.tree.PrintForm.TheVariants as form
use Rattle.awk_grammar.specs.definitions.Tree.{Expr, Name, Length, Exprs, Nil, Cons, NoExpr, SimpleStatement, Single, Range, Item, PatternOnly}
use Rattle.awk_grammar.specs.support.InfixRole.{Ends}
use Rattle.awk_grammar.specs.support.UnlimitedState.{Frame, InPrint, InExpression, InOutput, InExit, InReturn, InForFirst, InForLast, InPattern, InRangeEnd, InProgram, getline_of, reduce, ParserState, BeforeOperand, AfterOperand, AfterName, AfterLength, AfterGetline, AfterBar, AfterList, AfterPrint, AfterDeleteName, AfterExit, AfterReturn, AfterSimpleStatement, BetweenItems, BeforeAction, BeforeParameter}
use Rattle.awk_grammar.specs.support.UnlimitedStatements.{end_simple, redirect_to_pipe, end_list}
use Rattle.awk_grammar.specs.support.UnlimitedParser.{end_operand, items, whole, finish}

abbrev pub last_pattern : List Frame → Expr → Option (List Item)
last_pattern (InPattern ∷ InProgram made ∷ []) e = Some (made ++ (PatternOnly (Single e) ∷ []))
last_pattern (InRangeEnd d ∷ InProgram made ∷ []) e = Some (made ++ (PatternOnly (Range d e) ∷ []))
last_pattern k e = None

abbrev pub end_after : Expr → List Frame → Option (List Item)
end_after e k = let h = reduce Ends e k in last_pattern h.stack h.operand

abbrev pub finish_by_cases : ParserState → Option (List Item)
finish_by_cases (AfterOperand g e k) = end_after e k
finish_by_cases (AfterName x g k) = end_after (Name x) k
finish_by_cases (AfterLength g k) = end_after Length k
finish_by_cases (AfterGetline c g k) = end_after (getline_of c NoExpr) k
finish_by_cases (BetweenItems k) = items k
finish_by_cases x = None

simple_ends : (m : SimpleStatement) (k : List Frame) → whole (end_simple t.Newline m k) ≡ None
simple_ends m [] = refl
simple_ends m (InForFirst ∷ k) = refl
simple_ends m (InForLast p c ∷ k) = refl
simple_ends m (f ∷ k) = refl

operand_ends : (g : Bool) (e : Expr) (k : List Frame) → whole (end_operand t.Newline g e k) ≡ last_pattern k e
operand_ends g e [] = refl
operand_ends g e (InExpression ∷ k) = simple_ends _ k
operand_ends g e (InPrint how made ∷ k) = simple_ends _ k
operand_ends g e (InOutput how what way ∷ k) = simple_ends _ k
operand_ends g e (InExit ∷ k) = simple_ends _ k
operand_ends g e (InReturn ∷ k) = simple_ends _ k
operand_ends g e (InPattern ∷ []) = refl
operand_ends g e (InPattern ∷ InProgram made ∷ []) = refl
operand_ends g e (InPattern ∷ InProgram made ∷ f ∷ k) = refl
operand_ends g e (InPattern ∷ f ∷ k) = refl
operand_ends g e (InRangeEnd d ∷ []) = refl
operand_ends g e (InRangeEnd d ∷ InProgram made ∷ []) = refl
operand_ends g e (InRangeEnd d ∷ InProgram made ∷ f ∷ k) = refl
operand_ends g e (InRangeEnd d ∷ f ∷ k) = refl
operand_ends g e (f ∷ k) = refl

reduced_ends : (g : Bool) (e : Expr) (k : List Frame) → finish (AfterOperand g e k) ≡ end_after e k
reduced_ends g e k = let h = reduce Ends e k in operand_ends g h.operand h.stack

bar_ends : (e : Expr) (k : List Frame) → whole (redirect_to_pipe t.Newline e k) ≡ None
bar_ends e [] = refl
bar_ends e (InPrint how made ∷ k) = refl
bar_ends e (f ∷ k) = refl

list_ends : (xs : Exprs) (k : List Frame) → whole (end_list t.Newline xs k) ≡ None
list_ends xs [] = refl
list_ends xs (InPrint how Nil ∷ k) = simple_ends _ k
list_ends xs (InPrint how (Cons e made) ∷ k) = refl
list_ends xs (f ∷ k) = refl

-- a newline behind the text ends it as the cases say
pub ends : (x : ParserState) → finish x ≡ finish_by_cases x
ends (BeforeOperand true g k) = refl
ends (BeforeOperand false g k) = refl
ends (AfterOperand g e k) = reduced_ends g e k
ends (AfterName x g k) = reduced_ends g (Name x) k
ends (AfterLength g k) = reduced_ends g Length k
ends (AfterGetline c g k) = reduced_ends g (getline_of c NoExpr) k
ends (AfterBar g e k) = let h = reduce Ends e k in bar_ends h.operand h.stack
ends (AfterList g xs k) = list_ends xs k
ends (AfterPrint form.Print k) = simple_ends _ k
ends (AfterPrint form.Printf k) = refl
ends (AfterDeleteName a k) = simple_ends _ k
ends (AfterExit k) = simple_ends _ k
ends (AfterReturn k) = simple_ends _ k
ends (AfterSimpleStatement m k) = simple_ends m k
ends (BeforeAction h true k) = refl
ends (BeforeAction h false k) = refl
ends (BeforeParameter f true xs k) = refl
ends (BeforeParameter f false xs k) = refl
ends x = refl
