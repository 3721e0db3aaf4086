-- What a state of the parser says of the tokens that it has read.
use Rattle.std.proofs.Common.{◌≡◌, ℕ, ◌≤◌, Bool, true, false, ◌&&◌, List, [], ◌∷◌, refl}
use Rattle.awk_lex.specs.declared.token.Kind.{Kind}
use Rattle.awk_lex.specs.declared.token.Kind.TheVariants as t
use Rattle.awk_lex.specs.declared.token.Keyword.TheVariants as word
use Rattle.awk_lex.specs.declared.token.BuiltIn.TheVariants as built_in
use Rattle.awk_lex.specs.declared.token.Operator.TheVariants as operator
use Rattle.awk_grammar.specs.definitions.Tree.{Expr, Exprs, Nil, Cons, NoExpr, AnExpr, SimpleStatement, Statement, Item}
use Rattle.awk_grammar.specs.definitions.Precedence.{operator_precedence, greatest_left, is_greater, right_precedence, expr_precedence}
use Rattle.awk_grammar.specs.definitions.Arguments.{is_place, count}
use Rattle.awk_grammar.specs.definitions.OperandsAllowed.{KeepsPrecedence, AllKeepPrecedence, PlaceKeepsPrecedence, OptionalKeepsPrecedence}
use Rattle.awk_grammar.specs.definitions.StatementsAllowed.{PrintListKeepsPrecedence, SimpleKeepsPrecedence, is_for_part, ForPartKeepsPrecedence, StatementKeepsPrecedence, StatementsKeepPrecedence, PatternKeepsPrecedence, ProgramKeepsPrecedence}
use Rattle.awk_grammar.specs.definitions.SpellingOfExpressions.{newlines, prefix_of, Joined, StandsAsOperand, Spells, SpellsList, SpellsPlace, SpellsOptional}
use Rattle.awk_grammar.specs.definitions.SpellingOfStatements.{print_token, SpellsPrintList, redirection_token, SpellsSimple, SpellsOptionalSimple, Ended, SpellsStatement, SpellsAll}
use Rattle.awk_grammar.specs.definitions.Spelling.{SpellsPattern, SpellsParameters, function_name, SpellsItem, separators}
use Rattle.awk_grammar.specs.support.UnlimitedState.{Head, OfBegin, OfEnd, OfNoPattern, OfPattern, OfFunction, Frame, InGroup, InCall, InBuiltIn, InElement, InField, InPreIncrement, InUnary, InBinary, InAssign, InFirstChoice, InSecondChoice, InGetlinePlace, InGetlineFile, InExpression, InPrint, InOutput, InDelete, InExit, InReturn, InIfCondition, InWhileCondition, InDoCondition, InForFirst, InForCondition, InForLast, InBlock, InIfBody, InElseBody, InWhileBody, InDoBody, InForInBody, InForBody, InPattern, InRangeEnd, InAction, InProgram, greatest_allowed_on, ParserState, BeforeOperand, AfterOperand, AfterName, AfterLength, AfterGetline, AfterBar, BeforeParenthesis, AfterList, AfterIn, AfterListIn, AfterPrint, AfterDelete, AfterDeleteName, AfterExit, AfterReturn, AfterSimpleStatement, AfterDo, AfterFor, BeforeForFirst, BeforeForCondition, BeforeForLast, BeforeStatement, AfterStatement, BetweenItems, BeforeAction, AfterFunction, AfterFunctionName, BeforeParameter, AfterParameter, Failed}
use Rattle.awk_grammar.proofs.StatementsComplete.{ground}

-- a list, and a comma with newlines behind it unless the list is empty
abbrev pub SpellsBefore : Exprs → List Kind → List Kind → Type 0
SpellsBefore Nil ts here = ts ≡ here
SpellsBefore (Cons e xs) ts here = (n : ℕ) × SpellsList (Cons e xs) ts (t.Comma ∷ newlines n here)

-- the names of parameters, and a comma with newlines behind them unless there is none
abbrev pub NamesBefore : List (List ℕ) → List Kind → List Kind → Type 0
NamesBefore [] ts here = ts ≡ here
NamesBefore (x ∷ xs) ts here = (n : ℕ) × SpellsParameters (x ∷ xs) ts (t.Comma ∷ newlines n here)

abbrev pub filled : List (List ℕ) → Bool
filled [] = false
filled (x ∷ xs) = true

-- what stands before an item's block
abbrev pub SpellsHead : Head → List Kind → List Kind → Type 0
SpellsHead OfBegin ts rest = ts ≡ t.Keyword word.Begin ∷ rest
SpellsHead OfEnd ts rest = ts ≡ t.Keyword word.End ∷ rest
SpellsHead OfNoPattern ts rest = ts ≡ rest
SpellsHead (OfPattern p) ts rest = SpellsPattern p ts rest
SpellsHead (OfFunction f xs) ts rest = (b : Bool) × (n : ℕ) × (u : List Kind) × (ts ≡ t.Keyword word.Function ∷ function_name b f ∷ t.OpenParenthesis ∷ u) × SpellsParameters xs u (t.CloseParenthesis ∷ newlines n rest)

abbrev pub HeadKeepsPrecedence : Head → Type 0
HeadKeepsPrecedence (OfPattern p) = PatternKeepsPrecedence p
HeadKeepsPrecedence h = Unit {0}

-- items, with separators before and between them and behind the last one
abbrev pub SpellsItems : List Item → List Kind → List Kind → Type 0
SpellsItems [] ts rest = (bs : List Bool) × (ts ≡ separators bs rest)
SpellsItems (x ∷ xs) ts rest = (bs : List Bool) × (u v : List Kind) × (ts ≡ separators bs u) × SpellsItem x u v × SpellsItems xs v rest

-- the tokens from all to here are those of the stack
abbrev pub Stacked : Bool → List Frame → List Kind → List Kind → Type 0
Stacked g [] all here = all ≡ here
Stacked g (InGroup o made ∷ k) all here = (v : List Kind) × (g ≡ false) × Stacked o k all (t.OpenParenthesis ∷ v) × SpellsBefore made v here × AllKeepPrecedence false made
Stacked g (InCall f o made ∷ k) all here = (v : List Kind) × (g ≡ false) × Stacked o k all (t.Called f ∷ t.OpenParenthesis ∷ v) × SpellsBefore made v here × AllKeepPrecedence false made
Stacked g (InBuiltIn f o made ∷ k) all here = (v : List Kind) × (g ≡ false) × Stacked o k all (t.BuiltIn f ∷ t.OpenParenthesis ∷ v) × SpellsBefore made v here × AllKeepPrecedence false made
Stacked g (InElement a o made ∷ k) all here = (v : List Kind) × (g ≡ false) × Stacked o k all (t.Name a ∷ t.OpenBracket ∷ v) × SpellsBefore made v here × AllKeepPrecedence false made
Stacked g (InField ∷ k) all here = Stacked g k all (t.Dollar ∷ here)
Stacked g (InPreIncrement x ∷ k) all here = Stacked g k all (t.Increment x ∷ here) × (2 ≤ greatest_allowed_on k)
Stacked g (InUnary o ∷ k) all here = Stacked g k all (prefix_of o ∷ here) × (5 ≤ greatest_allowed_on k)
Stacked g (InBinary o a ∷ k) all here = (u v : List Kind) × Stacked g k all u × Spells a u v × StandsAsOperand a v × Joined o v here × KeepsPrecedence g a × (expr_precedence a ≤ greatest_left o) × (operator_precedence o ≤ greatest_allowed_on k) × ((g && is_greater o) ≡ false)
Stacked g (InAssign o p ∷ k) all here = (u : List Kind) × Stacked g k all u × Spells p u (t.Assign o ∷ here) × KeepsPrecedence g p × (is_place p ≡ true) × (12 ≤ greatest_allowed_on k)
Stacked g (InFirstChoice c ∷ k) all here = (u : List Kind) × Stacked g k all u × Spells c u (t.Question ∷ here) × KeepsPrecedence g c × (expr_precedence c ≤ 14) × (15 ≤ greatest_allowed_on k)
Stacked g (InSecondChoice c a ∷ k) all here = (u v : List Kind) × Stacked g k all u × Spells c u (t.Question ∷ v) × Spells a v (t.Colon ∷ here) × KeepsPrecedence g c × KeepsPrecedence g a × (expr_precedence c ≤ 14) × (15 ≤ greatest_allowed_on k)
Stacked g (InGetlinePlace NoExpr ∷ k) all here = Stacked g k all (t.Keyword word.Getline ∷ here) × (3 ≤ greatest_allowed_on k)
Stacked g (InGetlinePlace (AnExpr c) ∷ k) all here = (u : List Kind) × Stacked g k all u × Spells c u (t.Bar ∷ t.Keyword word.Getline ∷ here) × KeepsPrecedence g c × (expr_precedence c ≤ 9) × (9 ≤ greatest_allowed_on k)
Stacked g (InGetlineFile to ∷ k) all here = (v : List Kind) × Stacked g k all (t.Keyword word.Getline ∷ v) × SpellsPlace to v (t.Operator operator.Less ∷ here) × PlaceKeepsPrecedence g to × (3 ≤ greatest_allowed_on k)
Stacked g (InExpression ∷ k) all here = (g ≡ false) × Stacked false k all here
Stacked g (InPrint how made ∷ k) all here = (v : List Kind) × (g ≡ true) × Stacked false k all (print_token how ∷ v) × SpellsBefore made v here × AllKeepPrecedence true made
Stacked g (InOutput how what way ∷ k) all here = (v : List Kind) × (g ≡ false) × Stacked false k all (print_token how ∷ v) × SpellsPrintList what v (redirection_token way ∷ here) × PrintListKeepsPrecedence how what
Stacked g (InDelete a made ∷ k) all here = (v : List Kind) × (g ≡ false) × Stacked false k all (t.Keyword word.Delete ∷ t.Name a ∷ t.OpenBracket ∷ v) × SpellsBefore made v here × AllKeepPrecedence false made
Stacked g (InExit ∷ k) all here = (g ≡ false) × Stacked false k all (t.Keyword word.Exit ∷ here) × (ground k ≡ true)
Stacked g (InReturn ∷ k) all here = (g ≡ false) × Stacked false k all (t.Keyword word.Return ∷ here) × (ground k ≡ true)
Stacked g (InIfCondition ∷ k) all here = (g ≡ false) × Stacked false k all (t.Keyword word.If ∷ t.OpenParenthesis ∷ here)
Stacked g (InWhileCondition ∷ k) all here = (g ≡ false) × Stacked false k all (t.Keyword word.While ∷ t.OpenParenthesis ∷ here)
Stacked g (InDoCondition x ∷ k) all here = (n : ℕ) × (u : List Kind) × (g ≡ false) × Stacked false k all (t.Keyword word.Do ∷ newlines n u) × SpellsStatement x u (t.Keyword word.While ∷ t.OpenParenthesis ∷ here) × StatementKeepsPrecedence x
Stacked g (InForFirst ∷ k) all here = Stacked false k all (t.Keyword word.For ∷ t.OpenParenthesis ∷ here)
Stacked g (InForCondition p ∷ k) all here = (u : List Kind) × (g ≡ false) × Stacked false k all (t.Keyword word.For ∷ t.OpenParenthesis ∷ u) × SpellsOptionalSimple p u (t.Semicolon ∷ here) × ForPartKeepsPrecedence p
Stacked g (InForLast p c ∷ k) all here = (u v : List Kind) × Stacked false k all (t.Keyword word.For ∷ t.OpenParenthesis ∷ u) × SpellsOptionalSimple p u (t.Semicolon ∷ v) × SpellsOptional c v (t.Semicolon ∷ here) × ForPartKeepsPrecedence p × OptionalKeepsPrecedence c
Stacked g (InBlock made ∷ k) all here = (n : ℕ) × (v : List Kind) × Stacked false k all (t.OpenBrace ∷ newlines n v) × SpellsAll made v here × StatementsKeepPrecedence made
Stacked g (InIfBody c ∷ k) all here = (n : ℕ) × (v : List Kind) × Stacked false k all (t.Keyword word.If ∷ t.OpenParenthesis ∷ v) × Spells c v (t.CloseParenthesis ∷ newlines n here) × KeepsPrecedence false c
Stacked g (InElseBody c x ∷ k) all here = (n m : ℕ) × (v r : List Kind) × Stacked false k all (t.Keyword word.If ∷ t.OpenParenthesis ∷ v) × Spells c v (t.CloseParenthesis ∷ newlines n r) × KeepsPrecedence false c × SpellsStatement x r (t.Keyword word.Else ∷ newlines m here) × StatementKeepsPrecedence x
Stacked g (InWhileBody c ∷ k) all here = (n : ℕ) × (v : List Kind) × Stacked false k all (t.Keyword word.While ∷ t.OpenParenthesis ∷ v) × Spells c v (t.CloseParenthesis ∷ newlines n here) × KeepsPrecedence false c
Stacked g (InDoBody ∷ k) all here = (n : ℕ) × Stacked false k all (t.Keyword word.Do ∷ newlines n here)
Stacked g (InForInBody b a ∷ k) all here = (n : ℕ) × Stacked false k all (t.Keyword word.For ∷ t.OpenParenthesis ∷ t.Name b ∷ t.Keyword word.In ∷ t.Name a ∷ t.CloseParenthesis ∷ newlines n here)
Stacked g (InForBody p c q ∷ k) all here = (n : ℕ) × (u v r : List Kind) × Stacked false k all (t.Keyword word.For ∷ t.OpenParenthesis ∷ u) × SpellsOptionalSimple p u (t.Semicolon ∷ v) × SpellsOptional c v (t.Semicolon ∷ r) × SpellsOptionalSimple q r (t.CloseParenthesis ∷ newlines n here) × ForPartKeepsPrecedence p × OptionalKeepsPrecedence c × ForPartKeepsPrecedence q
Stacked g (InPattern ∷ k) all here = (g ≡ false) × Stacked false k all here
Stacked g (InRangeEnd d ∷ k) all here = (n : ℕ) × (u : List Kind) × (g ≡ false) × Stacked false k all u × Spells d u (t.Comma ∷ newlines n here) × KeepsPrecedence false d
Stacked g (InAction head made ∷ k) all here = (n : ℕ) × (u v : List Kind) × Stacked false k all u × SpellsHead head u (t.OpenBrace ∷ newlines n v) × HeadKeepsPrecedence head × SpellsAll made v here × StatementsKeepPrecedence made
Stacked g (InProgram made ∷ k) all here = (u : List Kind) × Stacked false k all u × SpellsItems made u here × ProgramKeepsPrecedence made

pub record OperandRead (g : Bool) (e : Expr) (k : List Frame) (all here : List Kind) : Type 0 where
  pub from : List Kind
  pub below : Stacked g k all from
  pub spelled : Spells e from here
  pub keeps : KeepsPrecedence g e
  pub fits : right_precedence e ≤ greatest_allowed_on k

-- a simple statement; in a part of a `for` it may be one
pub record Said (m : SimpleStatement) (k : List Frame) (all here : List Kind) : Type 0 where
  pub from : List Kind
  pub below : Stacked false k all from
  pub spelled : SpellsSimple m from here
  pub keeps : SimpleKeepsPrecedence m
  pub allowed : ground k ≡ false → is_for_part m ≡ true

-- a statement, with the newlines that follow it
pub record Made (x : Statement) (k : List Frame) (all here : List Kind) : Type 0 where
  pub from : List Kind
  pub below : Stacked false k all from
  pub spelled : (n : ℕ) (rest : List Kind) → here ≡ newlines n rest → SpellsStatement x from rest
  pub keeps : StatementKeepsPrecedence x

-- a statement whose end is still to come
pub record Waits (x : Statement) (k : List Frame) (all here : List Kind) : Type 0 where
  pub from : List Kind
  pub below : Stacked false k all from
  pub spelled : (rest : List Kind) → Ended here rest → SpellsStatement x from rest
  pub keeps : StatementKeepsPrecedence x

-- where newlines or separators may follow, the stack stands behind any number of them
abbrev pub Holds : ParserState → List Kind → List Kind → Type 0
Holds (BeforeOperand true g k) all here = (n : ℕ) (rest : List Kind) → here ≡ newlines n rest → Stacked g k all rest
Holds (BeforeOperand false g k) all here = Stacked g k all here
Holds (AfterOperand g e k) all here = OperandRead g e k all here
Holds (AfterName a g k) all here = Stacked g k all (t.Name a ∷ here)
Holds (AfterLength g k) all here = Stacked g k all (t.BuiltIn built_in.Length ∷ here)
Holds (AfterGetline c g k) all here = Stacked g (InGetlinePlace c ∷ k) all here
Holds (AfterBar g e k) all here = OperandRead g e k all (t.Bar ∷ here)
Holds (BeforeParenthesis f g k) all here = (rest : List Kind) → here ≡ t.OpenParenthesis ∷ rest → Stacked false (f ∷ k) all rest
Holds (AfterList g xs k) all here = (v : List Kind) × Stacked g k all (t.OpenParenthesis ∷ v) × SpellsList xs v (t.CloseParenthesis ∷ here) × AllKeepPrecedence false xs × (2 ≤ count xs)
Holds (AfterIn e g k) all here = OperandRead g e k all (t.Keyword word.In ∷ here) × (expr_precedence e ≤ 12) × (12 ≤ greatest_allowed_on k)
Holds (AfterListIn xs g k) all here = (v : List Kind) × Stacked g k all (t.OpenParenthesis ∷ v) × SpellsList xs v (t.CloseParenthesis ∷ t.Keyword word.In ∷ here) × AllKeepPrecedence false xs × (2 ≤ count xs) × (12 ≤ greatest_allowed_on k)
Holds (AfterPrint how k) all here = Stacked false k all (print_token how ∷ here)
Holds (AfterDelete k) all here = Stacked false k all (t.Keyword word.Delete ∷ here)
Holds (AfterDeleteName a k) all here = Stacked false k all (t.Keyword word.Delete ∷ t.Name a ∷ here)
Holds (AfterExit k) all here = Stacked false k all (t.Keyword word.Exit ∷ here) × (ground k ≡ true)
Holds (AfterReturn k) all here = Stacked false k all (t.Keyword word.Return ∷ here) × (ground k ≡ true)
Holds (AfterSimpleStatement m k) all here = Said m k all here
Holds (AfterDo x k) all here = Waits x k all here
Holds (AfterFor k) all here = Stacked false k all (t.Keyword word.For ∷ here)
Holds (BeforeForFirst k) all here = Stacked false k all (t.Keyword word.For ∷ t.OpenParenthesis ∷ here)
Holds (BeforeForCondition p k) all here = (u : List Kind) × Stacked false k all (t.Keyword word.For ∷ t.OpenParenthesis ∷ u) × SpellsOptionalSimple p u (t.Semicolon ∷ here) × ForPartKeepsPrecedence p
Holds (BeforeForLast p c k) all here = (u v : List Kind) × Stacked false k all (t.Keyword word.For ∷ t.OpenParenthesis ∷ u) × SpellsOptionalSimple p u (t.Semicolon ∷ v) × SpellsOptional c v (t.Semicolon ∷ here) × ForPartKeepsPrecedence p × OptionalKeepsPrecedence c
Holds (BeforeStatement k) all here = (ground k ≡ true) × ((n : ℕ) (rest : List Kind) → here ≡ newlines n rest → Stacked false k all rest)
Holds (AfterStatement x k) all here = Made x k all here
Holds (BetweenItems k) all here = (bs : List Bool) (rest : List Kind) → here ≡ separators bs rest → Stacked false k all rest
Holds (BeforeAction h true k) all here = (n : ℕ) (rest : List Kind) → here ≡ newlines n rest → ((u : List Kind) × Stacked false k all u × SpellsHead h u rest × HeadKeepsPrecedence h)
Holds (BeforeAction h false k) all here = (u : List Kind) × Stacked false k all u × SpellsHead h u here × HeadKeepsPrecedence h
Holds (AfterFunction k) all here = Stacked false k all (t.Keyword word.Function ∷ here)
Holds (AfterFunctionName f k) all here = (b : Bool) × Stacked false k all (t.Keyword word.Function ∷ function_name b f ∷ here)
Holds (BeforeParameter f true xs k) all here = (b : Bool) × (u : List Kind) × Stacked false k all (t.Keyword word.Function ∷ function_name b f ∷ t.OpenParenthesis ∷ u) × ((n : ℕ) (rest : List Kind) → here ≡ newlines n rest → NamesBefore xs u rest)
Holds (BeforeParameter f false xs k) all here = (b : Bool) × (u : List Kind) × Stacked false k all (t.Keyword word.Function ∷ function_name b f ∷ t.OpenParenthesis ∷ u) × (xs ≡ []) × (u ≡ here)
Holds (AfterParameter f xs k) all here = (b : Bool) × (u : List Kind) × Stacked false k all (t.Keyword word.Function ∷ function_name b f ∷ t.OpenParenthesis ∷ u) × SpellsParameters xs u here × (filled xs ≡ true)
Holds Failed all here = Unit {0}

pub stacked : (s g : Bool) (k : List Frame) (all here : List Kind) → Holds (BeforeOperand s g k) all here → Stacked g k all here
stacked true g k all here h = h 0 here refl
stacked false g k all here h = h
