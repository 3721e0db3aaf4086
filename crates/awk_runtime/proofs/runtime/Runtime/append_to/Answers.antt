use Rattle.std.proofs.Common.{arith}
use Rattle.std.proofs.lemmas.Result.{err_from_is_err_and}
use Rattle.awk_runtime.proofs.Composition.{memory_changes}
use Rattle.awk_runtime.proofs.AppendWords.{not_appended, is_appended}
use Rattle.awk_runtime.proofs.runtime.Runtime.append_to.Goals as goal

pub returns-in_err-text : goal.returns-in_err-text
returns-in_err-text c =
    let p = err_from_is_err_and c.from_residual.result c.from_residual.ensures.1 in
    let free = c.let_go.ensures in
    rw (p.1, p.2, c.in_err-text.ensures.fault) (memory_changes _ free.streams free.names free.callers (omega (arith, free.steps)))

pub returns-in_err-put_variable : goal.returns-in_err-put_variable
returns-in_err-put_variable c =
    let p = err_from_is_err_and c.from_residual-in_err-put_variable.result c.from_residual-in_err-put_variable.ensures.1 in
    rw (p.1, p.2) (not_appended c.args.variable c.args.left c.args.right.now c.let_go.ensures (rw c.in_ok-text.ensures.text at c.in_err-put_variable.ensures))

pub returns : goal.returns
returns c = is_appended c.args.variable c.args.left c.args.right.now c.let_go.ensures (rw c.in_ok-text.ensures.text at c.in_ok-put_variable.ensures) c.read_variable.ensures
