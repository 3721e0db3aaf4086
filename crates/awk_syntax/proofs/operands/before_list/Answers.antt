use Rattle.awk_syntax.proofs.operands.before_list.Goals as goal

pub returns : goal.returns
returns c = λ frames. rw (c.in_ok-frame.ensures, c.new.ensures) at c.before_parenthesis.ensures frames
