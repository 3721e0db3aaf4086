use Rattle.std.proofs.Common.{refl}
use Rattle.std.proofs.lemmas.Result.{err_from_is_err_and}
use Rattle.awk_runtime.proofs.Composition.{ends_changes}
use Rattle.awk_evaluator.proofs.Joining.{texts_appended, texts_not_joined}
use Rattle.awk_evaluator.proofs.machine.Machine.append_all.Goals as goal

pub returns-in_err-text : goal.returns-in_err-text
returns-in_err-text c =
    let p = err_from_is_err_and c.from_residual.result c.from_residual.ensures.1 in
    rw (p.1, p.2) (record { operands = tt; calls = tt; changes = ends_changes _ c.in_err-text.ensures })

pub returns-in_err-behind : goal.returns-in_err-behind
returns-in_err-behind c =
    let p = err_from_is_err_and c.from_residual-in_err-behind.result c.from_residual-in_err-behind.ensures.1 in
    rw (p.1, p.2) (record { operands = tt; calls = tt; changes = rw (← c.newest-parts.ensures) (texts_not_joined c.args.variable c.newest-parts.result.now c.in_ok-text.ensures c.in_err-behind.ensures) })

pub returns-in_err-appended : goal.returns-in_err-appended
returns-in_err-appended c =
    let p = err_from_is_err_and c.from_residual-in_err-appended.result c.from_residual-in_err-appended.ensures.1 in
    rw (p.1, p.2) (record { operands = tt; calls = tt; changes = rw (← c.newest-parts.ensures) (texts_appended c.args.variable c.newest-parts.result.now c.in_ok-text.ensures c.in_ok-behind.ensures c.in_err-appended.ensures) })

pub returns : goal.returns
returns c = record {
  operands = c.drop-2.ensures;
  calls = (texts_appended c.args.variable c.newest-parts.result.now c.in_ok-text.ensures c.in_ok-behind.ensures c.in_ok-appended.ensures).callers;
  changes = rw (← c.newest-parts.ensures) (texts_appended c.args.variable c.newest-parts.result.now c.in_ok-text.ensures c.in_ok-behind.ensures c.in_ok-appended.ensures);
}
