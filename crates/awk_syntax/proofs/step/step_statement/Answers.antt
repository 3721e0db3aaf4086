use Rattle.std.proofs.Common.{rules}
use Rattle.awk_syntax.proofs.step.step_statement.Goals as goal

pub returns-in-AfterDelete : goal.returns-in-AfterDelete
returns-in-AfterDelete c = rw c.in-AfterDelete.is (c.after_delete.ensures c.args.stack.now.items)

pub returns-in-AfterExit : goal.returns-in-AfterExit
returns-in-AfterExit c = search rules
