-- Operands, frames and states of the code, seen as those of the parser over lists.
use Rattle.std.specs.Prelude.{Bool, List, [], ◌∷◌, map, reverse, Option, Some, None}
use Rattle.awk_grammar.specs.support.InfixRole as role
use Rattle.awk_grammar.specs.definitions.Height.{max_height}
use Rattle.awk_grammar.specs.support.Parser as parser
use Rattle.awk_frames.specs.support.CheckedExpressions.{checked_expr, checked_exprs}
use Rattle.awk_frames.specs.support.CheckedStatementNodes.{checked_print_list, checked_simple, checked_part, checked_optional_expr, checked_statement, checked_statements, checked_pattern, checked_items}
use Rattle.awk_frames.specs.declared.infix_role.InfixRole.{InfixRole}
use Rattle.awk_frames.specs.declared.infix_role.InfixRole.TheVariants.{Operates, Increments, Assigns, Starts, TestsMembership, Pipes, Asks, Subscripts, Ends}
use Rattle.awk_frames.specs.declared.operand.Operand.{Operand}
use Rattle.awk_frames.specs.declared.operand.OperandList.{OperandList}
use Rattle.awk_frames.specs.declared.frame.Frame.{Frame}
use Rattle.awk_frames.specs.declared.frame.Frame.TheVariants as frame
use Rattle.awk_frames.specs.declared.frame.NodeFrame.{NodeFrame}
use Rattle.awk_frames.specs.declared.frame.NodeFrame.TheVariants as node
use Rattle.awk_frames.specs.declared.frame.ListHead.{ListHead}
use Rattle.awk_frames.specs.declared.frame.ListHead.TheVariants as list
use Rattle.awk_frames.specs.declared.frame.ExpressionFrame.{ExpressionFrame}
use Rattle.awk_frames.specs.declared.frame.ExpressionFrame.TheVariants as expression
use Rattle.awk_frames.specs.declared.frame.BodyFrame.{BodyFrame}
use Rattle.awk_frames.specs.declared.frame.BodyFrame.TheVariants as body
use Rattle.awk_frames.specs.declared.frame.Head.{Head}
use Rattle.awk_frames.specs.declared.frame.Head.TheVariants as head
use Rattle.awk_frames.specs.declared.state.ParserState.{ParserState}
use Rattle.awk_frames.specs.declared.state.ParserState.TheVariants.{Expression, Statement, Item}
use Rattle.awk_frames.specs.declared.state.ExpressionState.{ExpressionState}
use Rattle.awk_frames.specs.declared.state.ExpressionState.TheVariants as in_expression
use Rattle.awk_frames.specs.declared.state.Behind.TheVariants as behind
use Rattle.awk_frames.specs.declared.state.StatementState.{StatementState}
use Rattle.awk_frames.specs.declared.state.StatementState.TheVariants as in_statement
use Rattle.awk_frames.specs.declared.state.ItemState.{ItemState}
use Rattle.awk_frames.specs.declared.state.ItemState.TheVariants as in_item

abbrev pub role_of : InfixRole → role.InfixRole
role_of (Operates o) = role.Operates o
role_of (Increments o) = role.Increments o
role_of (Assigns o) = role.Assigns o
role_of Starts = role.Starts
role_of TestsMembership = role.TestsMembership
role_of Pipes = role.Pipes
role_of Asks = role.Asks
role_of Subscripts = role.Subscripts
role_of Ends = role.Ends

abbrev pub operand_of : Operand → parser.Operand
operand_of p = record { precedence = p.precedence; is_place = p.is_place; tree = checked_expr p.tree }

abbrev pub optional_operand_of : Option Operand → parser.OptionalOperand
optional_operand_of None = parser.NoOperand
optional_operand_of (Some p) = parser.AnOperand (operand_of p)

abbrev pub list_of : OperandList → parser.OperandList
list_of xs = record { count = xs.count; third_is_place = xs.third_is_place; exprs = checked_exprs xs.exprs }

abbrev pub node_frame_of : NodeFrame → parser.Frame
node_frame_of node.Field = parser.InField
node_frame_of (node.PreIncrement o) = parser.InPreIncrement o
node_frame_of (node.Unary o) = parser.InUnary o
node_frame_of (node.Binary o a) = parser.InBinary o (operand_of a)
node_frame_of (node.Assign o p) = parser.InAssign o (operand_of p)
node_frame_of (node.SecondChoice b) = parser.InSecondChoice (operand_of b.value.condition.value) (operand_of b.value.first)
node_frame_of (node.GetlinePlace c) = parser.InGetlinePlace (optional_operand_of c.value)
node_frame_of (node.GetlineFile p) = parser.InGetlineFile (optional_operand_of p.value)

abbrev pub list_frame_of : ListHead → parser.OperandList → parser.Frame
list_frame_of (list.Group g) xs = parser.InGroup g xs
list_frame_of (list.Call f g) xs = parser.InCall f g xs
list_frame_of (list.BuiltIn f g) xs = parser.InBuiltIn f g xs
list_frame_of (list.Element a g) xs = parser.InElement a g xs
list_frame_of (list.Print how) xs = parser.InPrint how xs
list_frame_of (list.Delete a) xs = parser.InDelete a xs

abbrev pub expression_frame_of : ExpressionFrame → parser.Frame
expression_frame_of (expression.FirstChoice c) = parser.InFirstChoice (operand_of c.value)
expression_frame_of expression.Statement = parser.InExpression
expression_frame_of (expression.Group g) = parser.InGroup g (parser.no_operands max_height)
expression_frame_of (expression.Output b) = parser.InOutput b.value.form (checked_print_list b.value.list) b.value.redirection
expression_frame_of expression.Exit = parser.InExit
expression_frame_of expression.Return = parser.InReturn
expression_frame_of expression.IfCondition = parser.InIfCondition
expression_frame_of expression.WhileCondition = parser.InWhileCondition
expression_frame_of (expression.DoCondition x) = parser.InDoCondition (checked_statement x.value)
expression_frame_of (expression.ForCondition p) = parser.InForCondition (checked_part p.value)
expression_frame_of expression.Pattern = parser.InPattern
expression_frame_of (expression.RangeEnd d) = parser.InRangeEnd (checked_expr d)

abbrev pub body_frame_of : BodyFrame → parser.Frame
body_frame_of (body.If c) = parser.InIfBody (checked_expr c)
body_frame_of (body.Else c x) = parser.InElseBody (checked_expr c) (checked_statement x)
body_frame_of (body.While c) = parser.InWhileBody (checked_expr c)
body_frame_of body.Do = parser.InDoBody
body_frame_of (body.ForIn b a) = parser.InForInBody b a
body_frame_of (body.For b q) = parser.InForBody (checked_part b.value.first.value) (checked_optional_expr b.value.condition) (checked_part q.value)

abbrev pub head_of : Head → parser.Head
head_of head.Begin = parser.OfBegin
head_of head.End = parser.OfEnd
head_of head.NoPattern = parser.OfNoPattern
head_of (head.Pattern p) = parser.OfPattern (checked_pattern p)
head_of (head.Function f xs) = parser.OfFunction f xs.items

abbrev pub frame_of : Frame → parser.Frame
frame_of (frame.Node f) = node_frame_of f
frame_of (frame.List b) = list_frame_of b.value.head (list_of b.value.list)
frame_of (frame.Expression f) = expression_frame_of f
frame_of frame.ForFirst = parser.InForFirst
frame_of (frame.ForLast b) = parser.InForLast (checked_part b.value.first.value) (checked_optional_expr b.value.condition)
frame_of (frame.Body b) = body_frame_of b.value
frame_of (frame.Block None all) = parser.InBlock (checked_statements all)
frame_of (frame.Block (Some b) all) = parser.InAction (head_of b.value) (checked_statements all)
frame_of (frame.Program items) = parser.InProgram (checked_items items)

-- the newest first
abbrev pub stack_of : List Frame → List parser.Frame
stack_of fs = map frame_of (reverse fs)

-- the stack before its top was taken off
abbrev pub popped : Option Frame → List Frame → List parser.Frame
popped None fs = []
popped (Some f) fs = frame_of f ∷ stack_of fs

abbrev pub reduced : Operand → List Frame → parser.Reduced
reduced p fs = record { operand = operand_of p; stack = stack_of fs }

-- g: in the list of a print
abbrev pub expression_state_of : ExpressionState → (g : Bool) → List parser.Frame → parser.ParserState
expression_state_of (in_expression.BeforeOperand skips) g k = parser.BeforeOperand skips g k
expression_state_of (in_expression.AfterOperand e behind.Nothing) g k = parser.AfterOperand g (operand_of e) k
expression_state_of (in_expression.AfterOperand e behind.Bar) g k = parser.AfterBar g (operand_of e) k
expression_state_of (in_expression.AfterOperand e behind.PipedGetline) g k = parser.AfterGetline (parser.AnOperand (operand_of e)) g k
expression_state_of (in_expression.AfterOperand e behind.In) g k = parser.AfterIn (operand_of e) g k
expression_state_of (in_expression.AfterName a) g k = parser.AfterName a g k
expression_state_of in_expression.AfterLength g k = parser.AfterLength g k
expression_state_of in_expression.AfterGetline g k = parser.AfterGetline parser.NoOperand g k
expression_state_of (in_expression.BeforeParenthesis b) g k = parser.BeforeParenthesis (frame_of b.value) g k
expression_state_of (in_expression.AfterList b) g k = parser.AfterList g (list_of b.value) k
expression_state_of (in_expression.AfterListIn b) g k = parser.AfterListIn (list_of b.value) g k

abbrev pub statement_state_of : StatementState → List parser.Frame → parser.ParserState
statement_state_of (in_statement.AfterPrint how) k = parser.AfterPrint how k
statement_state_of in_statement.AfterDelete k = parser.AfterDelete k
statement_state_of (in_statement.AfterDeleteName a) k = parser.AfterDeleteName a k
statement_state_of in_statement.AfterExit k = parser.AfterExit k
statement_state_of in_statement.AfterReturn k = parser.AfterReturn k
statement_state_of (in_statement.AfterSimple b) k = parser.AfterSimpleStatement (checked_simple b.value) k
statement_state_of (in_statement.AfterDo b) k = parser.AfterDo (checked_statement b.value) k
statement_state_of in_statement.AfterFor k = parser.AfterFor k
statement_state_of in_statement.BeforeForFirst k = parser.BeforeForFirst k
statement_state_of (in_statement.BeforeForCondition b) k = parser.BeforeForCondition (checked_part b.value) k
statement_state_of (in_statement.BeforeForLast b) k = parser.BeforeForLast (checked_part b.value.first.value) (checked_optional_expr b.value.condition) k
statement_state_of in_statement.BeforeStatement k = parser.BeforeStatement k
statement_state_of (in_statement.AfterStatement x) k = parser.AfterStatement (checked_statement x) k

abbrev pub item_state_of : ItemState → List parser.Frame → parser.ParserState
item_state_of in_item.BetweenItems k = parser.BetweenItems k
item_state_of (in_item.BeforeAction b skips) k = parser.BeforeAction (head_of b.value) skips k
item_state_of in_item.AfterFunction k = parser.AfterFunction k
item_state_of (in_item.AfterFunctionName f) k = parser.AfterFunctionName f k
item_state_of (in_item.BeforeParameter b is_behind_comma) k = parser.BeforeParameter b.value.name is_behind_comma b.value.parameters.items k
item_state_of (in_item.AfterParameter b) k = parser.AfterParameter b.value.name b.value.parameters.items k

abbrev pub state_of : ParserState → List Frame → parser.ParserState
state_of (Expression g x) fs = expression_state_of x g (stack_of fs)
state_of (Statement x) fs = statement_state_of x (stack_of fs)
state_of (Item x) fs = item_state_of x (stack_of fs)

-- the next state, or none where the token can't be taken: the stack is of no use then
abbrev pub next_of : Option ParserState → List Frame → parser.ParserState
next_of None fs = parser.Failed
next_of (Some state) fs = state_of state fs
