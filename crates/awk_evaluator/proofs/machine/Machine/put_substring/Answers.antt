use Rattle.std.proofs.Common.{◌∷◌, List, sym, ap, ◌∙◌}
use Rattle.awk_resolve.specs.declared.node.Operand.{Operand}
use Rattle.awk_evaluator.proofs.AppliedValues.{none_of, applied_puts}
use Rattle.awk_evaluator.proofs.machine.Machine.put_substring.Goals as goal

pub returns-then-count-eq0-clause-puts : goal.returns-then-count-eq0-clause-puts
returns-then-count-eq0-clause-puts c = λ ok.
    let list = sym c.as_slice.ensures.value ∙ c.in-Some.ensures.cases.0 in
    applied_puts (rw (list, c.if-count-eq0.true) (c.put_part.ensures.puts ok))

pub returns-then-is_empty-clause-puts : goal.returns-then-is_empty-clause-puts
returns-then-is_empty-clause-puts c = λ ok.
    let alone = none_of c.in-Some.others.now (sym c.is_empty.ensures ∙ c.if-is_empty.true) in
    let list = sym c.as_slice.ensures.value ∙ c.in-Some.ensures.cases.0 ∙ ap (λ (l : List Operand). c.in-Some.text.now ∷ l) alone in
    applied_puts (rw list (c.replace_by_part.ensures.puts ok))
