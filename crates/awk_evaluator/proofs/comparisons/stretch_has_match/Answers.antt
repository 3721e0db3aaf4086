use Rattle.std.proofs.Common.{◌∙◌}
use Rattle.awk_runtime.proofs.Steps.{still}
use Rattle.awk_runtime.proofs.TextChanges.{room}
use Rattle.awk_evaluator.proofs.comparisons.stretch_has_match.Goals as goal

pub returns-clause-alike : goal.returns-clause-alike
returns-clause-alike c =
    let m = c.args.runtime.now in
    room m c.matches_read.new.self m.formats m.spans
