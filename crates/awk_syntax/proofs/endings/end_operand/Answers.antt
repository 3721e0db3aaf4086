use Rattle.std.proofs.Common.{Some, ap, ◌∙◌}
use Rattle.awk_frames.specs.support.FrameView.{popped}
use Rattle.awk_syntax.proofs.endings.end_operand.Goals as goal

pub returns-in-Some-List : goal.returns-in-Some-List
returns-in-Some-List c = rw (c.pop.ensures ∙ ap (λ z. popped z c.pop.new.stack.items) (c.in-Some-List.is ∙ ap (λ z. Some z) c.in-Some-List.field-0-is)) (rw c.into_inner.ensures at c.end_element.ensures c.args.in_print_list)

pub returns-in-Some-Expression : goal.returns-in-Some-Expression
returns-in-Some-Expression c = rw (c.pop.ensures ∙ ap (λ z. popped z c.pop.new.stack.items) (c.in-Some-Expression.is ∙ ap (λ z. Some z) c.in-Some-Expression.field-0-is)) c.end_expression.ensures
