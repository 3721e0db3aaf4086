use Rattle.std.proofs.Common.{refl}
use Rattle.std.proofs.lemmas.Result.{err_from_is_err_and}
use Rattle.awk_evaluator.proofs.Keys.{changed_leaves, key_raised, key_not_raised}
use Rattle.awk_evaluator.proofs.machine.Machine.post_increment_at.Goals as goal

pub returns-in-Variable : goal.returns-in-Variable
returns-in-Variable c = rw c.in-Variable.is (changed_leaves _ c.post_increment_at.ensures refl c.post_increment_at.ensures.callers)

pub returns-in_err-key-in-Element : goal.returns-in_err-key-in-Element
returns-in_err-key-in-Element c =
    let p = err_from_is_err_and c.from_residual.result c.from_residual.ensures.1 in
    rw (p.1, p.2, c.in-Element.is) (key_not_raised c.args.operator c.in-Element.array c.in-Element.key c.in_err-key-in-Element.ensures)

pub returns-in_ok-key-in-Element : goal.returns-in_ok-key-in-Element
returns-in_ok-key-in-Element c = rw c.in-Element.is (key_raised c.args.operator c.in-Element.array c.in-Element.key _ c.in_ok-key-in-Element.ensures c.post_increment_at-in-Element.ensures refl c.post_increment_at-in-Element.ensures.callers)
