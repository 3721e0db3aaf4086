use Rattle.std.proofs.Common.{sym, ◌∙◌}
use Rattle.awk_evaluator.proofs.Keys.{raised_at, some_raised}
use Rattle.awk_evaluator.proofs.machine.Machine.raise_at_hand.Goals as goal

pub returns-clause-raised : goal.returns-clause-raised
returns-clause-raised c = λ done.
    let h = some_raised c.raise_at_key.result (sym c.is_some.ensures ∙ done) c.raise_at_key.ensures.some in
    raised_at h.1.at_hand c.args.operator c.args.array h.1.raises h.1.operands h.1.calls
