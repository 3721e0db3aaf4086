use Rattle.std.proofs.Common.{Some, ap, ◌∙◌, rules}
use Rattle.awk_frames.specs.support.CheckedStatementNodes.{checked_statement}
use Rattle.awk_frames.specs.support.FrameView.{stack_of}
use Rattle.awk_syntax.proofs.DoBodies.{do_body}
use Rattle.awk_syntax.proofs.statements.end_statement.Goals as goal

pub returns-in-Do : goal.returns-in-Do
returns-in-Do c = rw (do_body c.args.next.kind.now (checked_statement c.loop-body.statement) (stack_of c.loop-body.stack.items) c.pop.result c.in-Some-Body.body c.into_inner-body.result c.pop.new.stack.items c.pop.ensures (c.in-Some-Body.is ∙ ap (λ z. Some z) c.in-Some-Body.field-0-is) c.into_inner-body.ensures c.in-Do.is ∙ c.loop-body.invariant.same) at (c.after_do_body.ensures c.pop.new.stack.items)

pub loop-body-preserved-in_ok-statement-in-If-2 : goal.loop-body-preserved-in_ok-statement-in-If-2
loop-body-preserved-in_ok-statement-in-If-2 c = search rules
