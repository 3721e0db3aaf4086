use Rattle.awk_evaluator.proofs.Asking.{raises_ask}
use Rattle.awk_evaluator.proofs.Parts.{leaves_kept}
use Rattle.awk_evaluator.proofs.machine.Machine.test_any_raised.Goals as goal

pub returns : goal.returns
returns c = raises_ask c.args.operator c.args.target.now _ c.truth_of.ensures.told (leaves_kept c.truth_of.ensures.kept _ c.post_increment_at-number.ensures)
