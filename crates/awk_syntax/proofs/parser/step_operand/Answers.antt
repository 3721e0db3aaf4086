use Rattle.awk_syntax.proofs.parser.step_operand.Goals as goal

pub returns-in-Nothing : goal.returns-in-Nothing
returns-in-Nothing c = rw c.in-Nothing.is c.after_operand.ensures

pub returns-in-Bar : goal.returns-in-Bar
returns-in-Bar c = rw c.in-Bar.is c.after_bar.ensures

pub returns-in-PipedGetline : goal.returns-in-PipedGetline
returns-in-PipedGetline c = rw c.in-PipedGetline.is c.after_getline.ensures

pub returns-in-In : goal.returns-in-In
returns-in-In c = rw c.in-In.is (c.after_in.ensures c.args.stack.now.items)
