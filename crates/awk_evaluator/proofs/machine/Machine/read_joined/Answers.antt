use Rattle.std.proofs.Common.{refl}
use Rattle.std.proofs.lemmas.Result.{err_from_is_err_and}
use Rattle.awk_evaluator.proofs.Keys.{not_joined, texts_unjoined, texts_joined}
use Rattle.awk_evaluator.proofs.machine.Machine.read_joined.Goals as goal

pub returns-in_err-put_operands : goal.returns-in_err-put_operands
returns-in_err-put_operands c =
    let p = err_from_is_err_and c.from_residual.result c.from_residual.ensures.1 in
    rw (p.1, p.2) (not_joined c.args.parts.now (c.in_err-put_operands.ensures {u = tt}))

pub returns-in_err-text : goal.returns-in_err-text
returns-in_err-text c =
    let p = err_from_is_err_and c.from_residual-in_err-text.result c.from_residual-in_err-text.ensures.1 in
    rw (p.1, p.2) (texts_unjoined c.args.parts.now (c.in_ok-put_operands.ensures {u = tt}) c.newest-values.ensures c.in_err-text.ensures)

pub returns : goal.returns
returns c = texts_joined c.args.parts.now (c.in_ok-put_operands.ensures {u = tt}) c.newest-values.ensures c.in_ok-text.ensures c.drop.ensures refl refl
