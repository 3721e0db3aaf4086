-- The states of the parser that keeps each tree, however high: a means of the proofs.
use Rattle.std.specs.Prelude.{ℕ, Bool, true, false, nat_le, not, List, ◌&&◌, ◌||◌, ◌∷◌, [], if◌then◌else◌}
use Rattle.awk_lex.specs.declared.token.AssignmentOperator.{AssignmentOperator}
use Rattle.awk_lex.specs.declared.token.IncrementOperator.{IncrementOperator}
use Rattle.awk_grammar.specs.declared.tree.BinaryOperator.{BinaryOperator}
use Rattle.awk_grammar.specs.declared.tree.UnaryOperator.{UnaryOperator}
use Rattle.awk_grammar.specs.declared.tree.PrintForm.{PrintForm}
use Rattle.awk_grammar.specs.declared.tree.Redirection.{Redirection}
use Rattle.awk_lex.specs.declared.token.BuiltIn.{BuiltIn as BuiltInName}
use Rattle.awk_grammar.specs.definitions.Tree.{Expr, Field, PreIncrement, Getline, PipedGetline, Unary, Binary, Conditional, Assign, Exprs, OptionalExpr, NoExpr, AnExpr, PrintList, SimpleStatement, OptionalSimple, Statement, Statements, Pattern, Item}
use Rattle.awk_grammar.specs.definitions.Precedence.{field_reference, pre_increment, post_increment, unary, membership, expr, greatest_right, expr_precedence}
use Rattle.awk_grammar.specs.definitions.Arguments.{is_place}
use Rattle.awk_grammar.specs.support.InfixRole.{InfixRole, Operates, Increments, Assigns, Starts, TestsMembership, Pipes, Asks, Subscripts, Ends, is_less, greatest_operand, least_allowed}

-- a getline of a place, and one behind a pipe
abbrev pub getline_of : OptionalExpr → OptionalExpr → Expr
getline_of NoExpr to = Getline to NoExpr
getline_of (AnExpr c) to = PipedGetline c to

-- what stands before an action
pub data Head : Type 0 where
  OfBegin : Head
  OfEnd : Head
  OfNoPattern : Head
  OfPattern : (p : Pattern) → Head
  OfFunction : (name : List ℕ) (after_parameter : List (List ℕ)) → Head

-- A node that has begun. `outer`: whether its parentheses or brackets stand in the list of a print.
pub data Frame : Type 0 where
  InGroup : (outer : Bool) (made : Exprs) → Frame
  InCall : (name : List ℕ) (outer : Bool) (made : Exprs) → Frame
  InBuiltIn : (f : BuiltInName) (outer : Bool) (made : Exprs) → Frame
  InElement : (name : List ℕ) (outer : Bool) (made : Exprs) → Frame
  InField : Frame
  InPreIncrement : (x : IncrementOperator) → Frame
  InUnary : (o : UnaryOperator) → Frame
  InBinary : (o : BinaryOperator) (a : Expr) → Frame
  InAssign : (o : AssignmentOperator) (p : Expr) → Frame
  InFirstChoice : (c : Expr) → Frame
  InSecondChoice : (c a : Expr) → Frame
  InGetlinePlace : (command : OptionalExpr) → Frame
  InGetlineFile : (to : OptionalExpr) → Frame
  InExpression : Frame
  InPrint : (how : PrintForm) (made : Exprs) → Frame
  InOutput : (how : PrintForm) (what : PrintList) (way : Redirection) → Frame
  InDelete : (name : List ℕ) (made : Exprs) → Frame
  InExit : Frame
  InReturn : Frame
  InIfCondition : Frame
  InWhileCondition : Frame
  InDoCondition : (x : Statement) → Frame
  InForFirst : Frame
  InForCondition : (p : OptionalSimple) → Frame
  InForLast : (p : OptionalSimple) (c : OptionalExpr) → Frame
  InBlock : (made : Statements) → Frame
  InIfBody : (c : Expr) → Frame
  InElseBody : (c : Expr) (x : Statement) → Frame
  InWhileBody : (c : Expr) → Frame
  InDoBody : Frame
  InForInBody : (key name : List ℕ) → Frame
  InForBody : (p : OptionalSimple) (c : OptionalExpr) (q : OptionalSimple) → Frame
  InPattern : Frame
  InRangeEnd : (d : Expr) → Frame
  InAction : (head : Head) (made : Statements) → Frame
  InProgram : (made : List Item) → Frame

-- the greatest precedence allowed of the next child
abbrev pub greatest_allowed : Frame → ℕ
greatest_allowed InField = pre_increment
greatest_allowed (InPreIncrement x) = field_reference
greatest_allowed (InUnary o) = unary
greatest_allowed (InBinary o a) = greatest_right o
greatest_allowed (InGetlinePlace c) = field_reference
greatest_allowed (InGetlineFile to) = field_reference
greatest_allowed (InOutput how what way) = field_reference
greatest_allowed f = expr

abbrev pub greatest_allowed_on : List Frame → ℕ
greatest_allowed_on [] = expr
greatest_allowed_on (f ∷ k) = greatest_allowed f

-- ended by a token of its own, or never to be made of this operand
abbrev pub stays_open : Frame → Expr → Bool
stays_open InField e = false
stays_open (InPreIncrement x) e = not (is_place e)
stays_open (InUnary o) e = false
stays_open (InBinary o a) e = false
stays_open (InAssign o p) e = false
stays_open (InSecondChoice c a) e = false
stays_open (InGetlinePlace c) e = not (is_place e)
stays_open (InGetlineFile to) e = false
stays_open f e = true

-- the node that an operand ends
abbrev pub finish_node : Frame → Expr → Expr
finish_node InField e = Field e
finish_node (InPreIncrement x) e = PreIncrement x e
finish_node (InUnary o) e = Unary o e
finish_node (InBinary o a) e = Binary o a e
finish_node (InAssign o p) e = Assign o p e
finish_node (InSecondChoice c a) e = Conditional c a e
finish_node (InGetlinePlace c) e = getline_of c (AnExpr e)
finish_node (InGetlineFile to) e = Getline to (AnExpr e)
finish_node f e = e

-- a getline that has its place takes a file at `<`
abbrev pub takes_file : Frame → InfixRole → Bool
takes_file (InGetlinePlace NoExpr) r = is_less r
takes_file f r = false

-- an operand goes on with a token of this role where h is the greatest precedence allowed
abbrev pub fits : InfixRole → Expr → ℕ → Bool
fits r e h = nat_le (expr_precedence e) (greatest_operand r) && nat_le (least_allowed r) h

-- the same, where `++` may also end a place, and an assignment begins with one, where a membership is allowed
abbrev pub continues : InfixRole → Expr → ℕ → Bool
continues (Operates o) e h = fits (Operates o) e h
continues (Increments x) e h = (is_place e && nat_le post_increment h) || fits (Increments x) e h
continues (Assigns o) e h = is_place e && nat_le membership h
continues Starts e h = fits Starts e h
continues TestsMembership e h = fits TestsMembership e h
continues Pipes e h = fits Pipes e h
continues Asks e h = fits Asks e h
continues Subscripts e h = false
continues Ends e h = false

pub record Reduced : Type 0 where
  pub operand : Expr
  pub stack : List Frame

-- the nodes that the next token ends are made
abbrev pub reduce : InfixRole → Expr → List Frame → Reduced
reduce r e [] = record { operand = e; stack = [] }
reduce r e (f ∷ k) = if continues r e (greatest_allowed f) || (stays_open f e || takes_file f r) then record { operand = e; stack = f ∷ k } else reduce r (finish_node f e) k

-- g: in the list of a print; k: the stack
pub data ParserState : Type 0 where
  -- an operand begins; newlines may stand before it
  BeforeOperand : (skips g : Bool) (k : List Frame) → ParserState
  AfterOperand : (g : Bool) (e : Expr) (k : List Frame) → ParserState
  AfterName : (name : List ℕ) (g : Bool) (k : List Frame) → ParserState
  AfterLength : (g : Bool) (k : List Frame) → ParserState
  AfterGetline : (command : OptionalExpr) (g : Bool) (k : List Frame) → ParserState
  -- after `|`
  AfterBar : (g : Bool) (e : Expr) (k : List Frame) → ParserState
  -- `(` opens this frame
  BeforeParenthesis : (f : Frame) (g : Bool) (k : List Frame) → ParserState
  -- after a list in parentheses
  AfterList : (g : Bool) (list : Exprs) (k : List Frame) → ParserState
  -- after `in`
  AfterIn : (e : Expr) (g : Bool) (k : List Frame) → ParserState
  AfterListIn : (list : Exprs) (g : Bool) (k : List Frame) → ParserState
  AfterPrint : (how : PrintForm) (k : List Frame) → ParserState
  AfterDelete : (k : List Frame) → ParserState
  AfterDeleteName : (name : List ℕ) (k : List Frame) → ParserState
  AfterExit : (k : List Frame) → ParserState
  AfterReturn : (k : List Frame) → ParserState
  -- a simple statement is whole, and must end
  AfterSimpleStatement : (m : SimpleStatement) (k : List Frame) → ParserState
  -- a `do` is whole, and must end
  AfterDo : (x : Statement) (k : List Frame) → ParserState
  AfterFor : (k : List Frame) → ParserState
  BeforeForFirst : (k : List Frame) → ParserState
  BeforeForCondition : (p : OptionalSimple) (k : List Frame) → ParserState
  BeforeForLast : (p : OptionalSimple) (c : OptionalExpr) (k : List Frame) → ParserState
  -- a statement, or the end of the block
  BeforeStatement : (k : List Frame) → ParserState
  AfterStatement : (x : Statement) (k : List Frame) → ParserState
  BetweenItems : (k : List Frame) → ParserState
  BeforeAction : (head : Head) (skips : Bool) (k : List Frame) → ParserState
  AfterFunction : (k : List Frame) → ParserState
  AfterFunctionName : (name : List ℕ) (k : List Frame) → ParserState
  BeforeParameter : (name : List ℕ) (skips : Bool) (made : List (List ℕ)) (k : List Frame) → ParserState
  AfterParameter : (name : List ℕ) (made : List (List ℕ)) (k : List Frame) → ParserState
  Failed : ParserState

abbrev pub when : Bool → ParserState → ParserState
when true x = x
when false x = Failed
