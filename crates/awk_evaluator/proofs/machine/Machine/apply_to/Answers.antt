use Rattle.std.proofs.Common.{◌++◌, List, refl, ap, ◌∙◌}
use Rattle.std.proofs.lemmas.Result.{err_from_is_err_and}
use Rattle.awk_value.specs.declared.value.Value.{Value}
use Rattle.awk_evaluator.proofs.AppliedValues.{applied, not_applied, not_gathered, not_all_read}
use Rattle.awk_evaluator.proofs.machine.Machine.apply_to.Goals as goal

pub returns-in_err-arguments : goal.returns-in_err-arguments
returns-in_err-arguments c =
    let p = err_from_is_err_and c.from_residual.result c.from_residual.ensures.1 in
    rw (p.1, p.2) (not_all_read (rw c.as_slice.ensures.value at c.in_err-arguments.ensures))

pub returns-in_err-push_copies : goal.returns-in_err-push_copies
returns-in_err-push_copies c =
    let p = err_from_is_err_and c.from_residual-in_err-push_copies.result c.from_residual-in_err-push_copies.ensures.1 in
    rw (p.1, p.2) (not_gathered (rw c.as_slice.ensures.value at c.in_ok-arguments.ensures))

pub returns-in_err-value : goal.returns-in_err-value
returns-in_err-value c =
    let p = err_from_is_err_and c.from_residual-in_err-value.result c.from_residual-in_err-value.ensures.1 in
    let are = c.as_slice-2.ensures.value ∙ c.in_ok-push_copies.ensures ∙ ap (λ (l : List Value). c.in_ok-arguments.arguments.items ++ l) c.newest.ensures in
    rw (p.1, p.2) (not_applied (rw c.as_slice.ensures.value at c.in_ok-arguments.ensures) are c.in_err-value.ensures)

pub returns : goal.returns
returns c =
    let are = c.as_slice-2.ensures.value ∙ c.in_ok-push_copies.ensures ∙ ap (λ (l : List Value). c.in_ok-arguments.arguments.items ++ l) c.newest.ensures in
    applied (record c.read_operands.new.self { runtime = c.apply_function.new.self }) (rw c.as_slice.ensures.value at c.in_ok-arguments.ensures) are c.in_ok-value.ensures refl c.in_ok-value.ensures.callers c.drop.ensures refl refl
