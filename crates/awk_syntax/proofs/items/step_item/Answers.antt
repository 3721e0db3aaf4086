use Rattle.std.proofs.Common.{rules}
use Rattle.awk_syntax.proofs.items.step_item.Goals as goal

pub returns-in-AfterFunction : goal.returns-in-AfterFunction
returns-in-AfterFunction c = rw c.in-AfterFunction.is (c.after_function.ensures c.args.stack.now.items)

pub returns-in-BeforeParameter : goal.returns-in-BeforeParameter
returns-in-BeforeParameter c = rw c.in-BeforeParameter.is (c.before_parameter.ensures c.args.stack.now.items)

pub returns-in-AfterFunctionName : goal.returns-in-AfterFunctionName
returns-in-AfterFunctionName c = rw c.in-AfterFunctionName.is (c.after_function_name.ensures c.args.stack.now.items)

pub returns-in-AfterParameter : goal.returns-in-AfterParameter
returns-in-AfterParameter c = rw c.in-AfterParameter.is (c.after_parameter.ensures c.args.stack.now.items)

pub returns-in-BeforeAction : goal.returns-in-BeforeAction
returns-in-BeforeAction c = search rules
