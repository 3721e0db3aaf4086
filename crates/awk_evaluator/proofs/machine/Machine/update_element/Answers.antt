use Rattle.awk_evaluator.proofs.machine.Machine.update_element.Goals as goal

pub returns-then-change_at_hand : goal.returns-then-change_at_hand
returns-then-change_at_hand c = c.change_at_hand.ensures.changed c.if-change_at_hand.true

pub returns : goal.returns
returns c = rw (c.change_at_hand.ensures.kept c.if-change_at_hand.false) at c.update_behind.ensures
