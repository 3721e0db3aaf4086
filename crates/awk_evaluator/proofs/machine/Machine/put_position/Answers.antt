use Rattle.std.proofs.Common.{sym, ◌∙◌, arith}
use Rattle.awk_evaluator.proofs.AppliedValues.{one_of, two_of, applied_puts}
use Rattle.awk_evaluator.proofs.machine.Machine.put_position.Goals as goal

pub returns-then-count-eq0-clause-puts : goal.returns-then-count-eq0-clause-puts
returns-then-count-eq0-clause-puts c = λ ok.
    let list = sym c.as_slice.ensures.value ∙ two_of c.as_slice.result.now c.text-item-then-this-lt3.result c.part-item.result c.in-len2.len_at_least c.in-len2.len_below c.text-item-then-this-lt3.is c.part-item.is in
    applied_puts (rw (list, c.if-count-eq0.true) (c.put_position_of.ensures.puts ok))

pub returns-then-count-eq1-clause-puts : goal.returns-then-count-eq1-clause-puts
returns-then-count-eq1-clause-puts c = λ ok.
    let list = sym c.as_slice.ensures.value ∙ one_of c.as_slice.result.now c.text-item.result (omega arith) (sym c.text-item.is) in
    applied_puts (rw (list, c.if-count-eq1.true) (c.replace_by_position.ensures.puts ok))
