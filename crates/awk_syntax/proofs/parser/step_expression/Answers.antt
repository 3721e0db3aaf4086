use Rattle.awk_syntax.proofs.parser.step_expression.Goals as goal

pub returns-in-AfterListIn : goal.returns-in-AfterListIn
returns-in-AfterListIn c = rw c.in-AfterListIn.is (rw c.into_inner-in-AfterListIn.ensures at c.after_list_in.ensures c.args.stack.now.items)
