-- The parser's states, and the nodes that have begun, on a stack of frames, the newest first. What is kept of a tree is
-- none above the height m; besides it, its precedence, whether it is a place, and of a list its count and whether the
-- third is a place: so the parser goes on without a tree, and still tells whether the tokens spell a program at all.
use Rattle.std.specs.Prelude.{ℕ, zero, suc, Bool, true, false, nat_le, not, List, Option, ◌&&◌, ◌||◌, ◌∷◌, [], if◌then◌else◌, ◌+◌}
use Rattle.awk_lex.specs.declared.token.AssignmentOperator.{AssignmentOperator}
use Rattle.awk_lex.specs.declared.token.IncrementOperator.{IncrementOperator}
use Rattle.awk_grammar.specs.declared.tree.BinaryOperator.{BinaryOperator}
use Rattle.awk_grammar.specs.declared.tree.UnaryOperator.{UnaryOperator}
use Rattle.awk_grammar.specs.declared.tree.PrintForm.{PrintForm}
use Rattle.awk_grammar.specs.declared.tree.Redirection.{Redirection}
use Rattle.awk_lex.specs.declared.token.BuiltIn.{BuiltIn as BuiltInName}
use Rattle.awk_grammar.specs.definitions.Tree as tree
use Rattle.awk_grammar.specs.definitions.Tree.{Expr, Exprs, Nil, OptionalExpr, NoExpr, AnExpr, PrintList, SimpleStatement, OptionalSimple, Statement, Statements, Pattern, Item}
use Rattle.awk_grammar.specs.definitions.Height.{height_of, tallest, optional_height}
use Rattle.awk_grammar.specs.definitions.Precedence.{primary, field_reference, pre_increment, post_increment, unary, pipe, membership, conditional, expr, operator_precedence, greatest_right}
use Rattle.awk_grammar.specs.support.Nodes.{limited, over_one, over_two, over_three, append}
use Rattle.awk_grammar.specs.support.InfixRole.{InfixRole, Operates, Increments, Assigns, Starts, TestsMembership, Pipes, Asks, Subscripts, Ends, is_less, greatest_operand, least_allowed}

-- an operand that is read: its precedence, whether it is a place, and its tree
pub record Operand : Type 0 where
  pub precedence : ℕ
  pub is_place : Bool
  pub tree : Option Expr

-- a list of operands: how many there are, whether there is no third or it is a place, and their trees
pub record OperandList : Type 0 where
  pub count : ℕ
  pub third_is_place : Bool
  pub exprs : Option Exprs

pub data OptionalOperand : Type 0 where
  NoOperand : OptionalOperand
  AnOperand : (e : Operand) → OptionalOperand

abbrev pub optional_expr : ℕ → OptionalOperand → Option OptionalExpr
optional_expr m NoOperand = limited m 0 NoExpr
optional_expr m (AnOperand e) = over_one m optional_height AnExpr e.tree

-- an operand of a precedence that is no place, and a place
abbrev pub operand_of : ℕ → Option Expr → Operand
operand_of n e = record { precedence = n; is_place = false; tree = e }

abbrev pub place_operand : ℕ → Option Expr → Operand
place_operand n e = record { precedence = n; is_place = true; tree = e }

-- what stands alone
abbrev pub leaf : ℕ → Expr → Operand
leaf m e = operand_of primary (limited m 1 e)

-- whether the third is a place, with one more behind n
abbrev pub third_after : ℕ → Bool → Bool → Bool
third_after (suc (suc zero)) old new = new
third_after n old new = old

abbrev pub no_operands : ℕ → OperandList
no_operands m = record { count = 0; third_is_place = true; exprs = limited m 0 Nil }

abbrev pub one_more : ℕ → OperandList → Operand → OperandList
one_more m xs e = record { count = 1 + xs.count; third_is_place = third_after xs.count xs.third_is_place e.is_place; exprs = over_two m tallest append xs.exprs e.tree }

-- what stands before an action
pub data Head : Type 0 where
  OfBegin : Head
  OfEnd : Head
  OfNoPattern : Head
  OfPattern : (p : Option Pattern) → Head
  OfFunction : (name : List ℕ) (after_parameter : List (List ℕ)) → Head

-- A node that has begun. `outer`: whether its parentheses or brackets stand in the list of a print.
pub data Frame : Type 0 where
  InGroup : (outer : Bool) (made : OperandList) → Frame
  InCall : (name : List ℕ) (outer : Bool) (made : OperandList) → Frame
  InBuiltIn : (f : BuiltInName) (outer : Bool) (made : OperandList) → Frame
  InElement : (name : List ℕ) (outer : Bool) (made : OperandList) → Frame
  InField : Frame
  InPreIncrement : (x : IncrementOperator) → Frame
  InUnary : (o : UnaryOperator) → Frame
  InBinary : (o : BinaryOperator) (a : Operand) → Frame
  InAssign : (o : AssignmentOperator) (p : Operand) → Frame
  InFirstChoice : (c : Operand) → Frame
  InSecondChoice : (c a : Operand) → Frame
  InGetlinePlace : (command : OptionalOperand) → Frame
  InGetlineFile : (to : OptionalOperand) → Frame
  InExpression : Frame
  InPrint : (how : PrintForm) (made : OperandList) → Frame
  InOutput : (how : PrintForm) (what : Option PrintList) (way : Redirection) → Frame
  InDelete : (name : List ℕ) (made : OperandList) → Frame
  InExit : Frame
  InReturn : Frame
  InIfCondition : Frame
  InWhileCondition : Frame
  InDoCondition : (x : Option Statement) → Frame
  InForFirst : Frame
  InForCondition : (p : Option OptionalSimple) → Frame
  InForLast : (p : Option OptionalSimple) (c : Option OptionalExpr) → Frame
  InBlock : (made : Option Statements) → Frame
  InIfBody : (c : Option Expr) → Frame
  InElseBody : (c : Option Expr) (x : Option Statement) → Frame
  InWhileBody : (c : Option Expr) → Frame
  InDoBody : Frame
  InForInBody : (key name : List ℕ) → Frame
  InForBody : (p : Option OptionalSimple) (c : Option OptionalExpr) (q : Option OptionalSimple) → Frame
  InPattern : Frame
  InRangeEnd : (d : Option Expr) → Frame
  InAction : (head : Head) (made : Option Statements) → Frame
  InProgram : (made : Option (List Item)) → Frame

-- the greatest precedence allowed of the next child
abbrev pub greatest_allowed : Frame → ℕ
greatest_allowed InField = pre_increment
greatest_allowed (InPreIncrement x) = field_reference
greatest_allowed (InUnary o) = unary
greatest_allowed (InBinary o a) = greatest_right o
greatest_allowed (InGetlinePlace c) = field_reference
greatest_allowed (InGetlineFile to) = field_reference
greatest_allowed (InOutput how what way) = field_reference
greatest_allowed f = expr

abbrev pub greatest_allowed_on : List Frame → ℕ
greatest_allowed_on [] = expr
greatest_allowed_on (f ∷ k) = greatest_allowed f

-- ended by a token of its own, or never to be made of this operand
abbrev pub stays_open : Frame → Operand → Bool
stays_open InField e = false
stays_open (InPreIncrement x) e = not e.is_place
stays_open (InUnary o) e = false
stays_open (InBinary o a) e = false
stays_open (InAssign o p) e = false
stays_open (InSecondChoice c a) e = false
stays_open (InGetlinePlace c) e = not e.is_place
stays_open (InGetlineFile to) e = false
stays_open f e = true

-- a getline of a place and a file, and one behind a pipe
abbrev pub getline_operand : ℕ → OptionalOperand → OptionalOperand → OptionalOperand → Operand
getline_operand m NoOperand to file = operand_of post_increment (over_two m height_of tree.Getline (optional_expr m to) (optional_expr m file))
getline_operand m (AnOperand c) to file = operand_of pipe (over_two m height_of tree.PipedGetline c.tree (optional_expr m to))

-- the precedence of a node of a level, by that of its last child: what ends in an assignment is any expression
abbrev pub ending : (last level : ℕ) → ℕ
ending last level = if nat_le expr last then expr else level

-- the node that an operand ends
abbrev pub finish_node : ℕ → Frame → Operand → Operand
finish_node m InField e = place_operand field_reference (over_one m height_of tree.Field e.tree)
finish_node m (InPreIncrement x) e = operand_of pre_increment (over_one m height_of (tree.PreIncrement x) e.tree)
finish_node m (InUnary o) e = operand_of unary (over_one m height_of (tree.Unary o) e.tree)
finish_node m (InBinary o a) e = operand_of (ending e.precedence (operator_precedence o)) (over_two m height_of (tree.Binary o) a.tree e.tree)
finish_node m (InAssign o p) e = operand_of expr (over_two m height_of (tree.Assign o) p.tree e.tree)
finish_node m (InSecondChoice c a) e = operand_of (ending e.precedence conditional) (over_three m height_of tree.Conditional c.tree a.tree e.tree)
finish_node m (InGetlinePlace c) e = getline_operand m c (AnOperand e) NoOperand
finish_node m (InGetlineFile to) e = getline_operand m NoOperand to (AnOperand e)
finish_node m f e = e

-- a getline that has its place takes a file at `<`
abbrev pub takes_file : Frame → InfixRole → Bool
takes_file (InGetlinePlace NoOperand) r = is_less r
takes_file f r = false

-- an operand goes on with a token of this role where h is the greatest precedence allowed
abbrev pub fits : InfixRole → Operand → ℕ → Bool
fits r e h = nat_le e.precedence (greatest_operand r) && nat_le (least_allowed r) h

-- the same, where `++` may also end a place, and an assignment begins with one, where a membership is allowed
abbrev pub continues : InfixRole → Operand → ℕ → Bool
continues (Operates o) e h = fits (Operates o) e h
continues (Increments x) e h = (e.is_place && nat_le post_increment h) || fits (Increments x) e h
continues (Assigns o) e h = e.is_place && nat_le membership h
continues Starts e h = fits Starts e h
continues TestsMembership e h = fits TestsMembership e h
continues Pipes e h = fits Pipes e h
continues Asks e h = fits Asks e h
continues Subscripts e h = false
continues Ends e h = false

pub record Reduced : Type 0 where
  pub operand : Operand
  pub stack : List Frame

-- the nodes that the next token ends are made
abbrev pub reduce : ℕ → InfixRole → Operand → List Frame → Reduced
reduce m r e [] = record { operand = e; stack = [] }
reduce m r e (f ∷ k) = if continues r e (greatest_allowed f) || (stays_open f e || takes_file f r) then record { operand = e; stack = f ∷ k } else reduce m r (finish_node m f e) k

-- g: in the list of a print; k: the stack
pub data ParserState : Type 0 where
  -- an operand begins; newlines may stand before it
  BeforeOperand : (skips g : Bool) (k : List Frame) → ParserState
  AfterOperand : (g : Bool) (e : Operand) (k : List Frame) → ParserState
  AfterName : (name : List ℕ) (g : Bool) (k : List Frame) → ParserState
  AfterLength : (g : Bool) (k : List Frame) → ParserState
  AfterGetline : (command : OptionalOperand) (g : Bool) (k : List Frame) → ParserState
  -- after `|`
  AfterBar : (g : Bool) (e : Operand) (k : List Frame) → ParserState
  -- `(` opens this frame
  BeforeParenthesis : (f : Frame) (g : Bool) (k : List Frame) → ParserState
  -- after a list in parentheses
  AfterList : (g : Bool) (list : OperandList) (k : List Frame) → ParserState
  -- after `in`
  AfterIn : (e : Operand) (g : Bool) (k : List Frame) → ParserState
  AfterListIn : (list : OperandList) (g : Bool) (k : List Frame) → ParserState
  AfterPrint : (how : PrintForm) (k : List Frame) → ParserState
  AfterDelete : (k : List Frame) → ParserState
  AfterDeleteName : (name : List ℕ) (k : List Frame) → ParserState
  AfterExit : (k : List Frame) → ParserState
  AfterReturn : (k : List Frame) → ParserState
  -- a simple statement is whole, and must end
  AfterSimpleStatement : (x : Option SimpleStatement) (k : List Frame) → ParserState
  -- a `do` is whole, and must end
  AfterDo : (x : Option Statement) (k : List Frame) → ParserState
  AfterFor : (k : List Frame) → ParserState
  BeforeForFirst : (k : List Frame) → ParserState
  BeforeForCondition : (p : Option OptionalSimple) (k : List Frame) → ParserState
  BeforeForLast : (p : Option OptionalSimple) (c : Option OptionalExpr) (k : List Frame) → ParserState
  -- a statement, or the end of the block
  BeforeStatement : (k : List Frame) → ParserState
  AfterStatement : (x : Option Statement) (k : List Frame) → ParserState
  BetweenItems : (k : List Frame) → ParserState
  BeforeAction : (head : Head) (skips : Bool) (k : List Frame) → ParserState
  AfterFunction : (k : List Frame) → ParserState
  AfterFunctionName : (name : List ℕ) (k : List Frame) → ParserState
  BeforeParameter : (name : List ℕ) (skips : Bool) (made : List (List ℕ)) (k : List Frame) → ParserState
  AfterParameter : (name : List ℕ) (made : List (List ℕ)) (k : List Frame) → ParserState
  Failed : ParserState

abbrev pub when : Bool → ParserState → ParserState
when true x = x
when false x = Failed
