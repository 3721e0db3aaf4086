use Rattle.std.proofs.Common.{rules, ◌≡◌, sym, ◌∙◌, arith, to_z, of_z}
use mir.Syntax.{w128}
use Rattle.awk_evaluator.proofs.AppliedValues.{one_of, length_applied, applied_puts, pushed_behind}
use Rattle.awk_evaluator.proofs.machine.Machine.put_text_length.Goals as goal

pub returns-in-Some-clause-puts : goal.returns-in-Some-clause-puts
returns-in-Some-clause-puts c = λ ok.
    let made : to_z w128 (of_z w128 c.in-Some.length) ≡ c.in-Some.length = search rules in
    let none : c.args.count ≡ 0 = c.if-count-ne0.false in
    let list = sym c.as_slice.ensures.value ∙ one_of c.as_slice.result.now c.operand-item.result (omega arith) (sym c.operand-item.is) in
    let pushed = c.put.ensures.pushed ok in
    applied_puts (rw (list, none) (length_applied c.in-Some.ensures.some (pushed_behind c.length_of.ensures.same (rw made at pushed))))
