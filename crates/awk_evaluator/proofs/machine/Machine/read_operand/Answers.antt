use mir.Syntax.{w128}
use Rattle.std.proofs.Common.{◌≡◌, rules, pos, to_z, of_z, sym, ap, refl, arith, Ok}
use Rattle.std.proofs.lemmas.Result.{err_from_is_err_and}
use Rattle.awk_runtime.proofs.Composition.{memory_changes, lift_changes}
use Rattle.awk_evaluator.proofs.machine.Machine.read_operand.Goals as goal

pub returns-in_err-clone-in-Constant : goal.returns-in_err-clone-in-Constant
returns-in_err-clone-in-Constant c =
    let p = err_from_is_err_and c.from_residual.result c.from_residual.ensures.1 in
    rw (p.1, p.2) (record { operands = refl; calls = refl; changes = memory_changes _ refl refl refl (omega arith) })

pub returns-in_ok-clone-in-Constant : goal.returns-in_ok-clone-in-Constant
returns-in_ok-clone-in-Constant c = rw c.in-Constant.is (record { operands = refl; calls = refl; changes = lift_changes (Ok _) _ (ap Ok (sym (c.in_ok-clone-in-Constant.ensures {u = tt}).cases)) })

pub returns-in-Variable : goal.returns-in-Variable
returns-in-Variable c = rw c.in-Variable.is (record { operands = refl; calls = c.read_variable.ensures.callers; changes = c.read_variable.ensures })

pub returns-in-Field : goal.returns-in-Field
returns-in-Field c =
    let number : to_z w128 (of_z w128 c.from.result) ≡ pos c.in-Field.number = search rules in
    let read = c.read_field.ensures in
    rw c.in-Field.is (rw number at read)

pub returns-in-FieldAt : goal.returns-in-FieldAt
returns-in-FieldAt c = rw c.in-FieldAt.is c.read_field_at.ensures
