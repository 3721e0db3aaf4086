use Rattle.std.proofs.Common.{rules}
use Rattle.awk_check.proofs.verdict.check.Goals.{in-Ok+in_ok-accepted_findings-in-Ok, in-Err+in_ok-refused_finding-in-Err+in_ok-push-in-Err}
use Rattle.awk_check.proofs.verdict.check.Goals as goal

pub returns-clause-accepted : goal.returns-clause-accepted
returns-clause-accepted c =
    elim c.match-read_program.branch [
      | in-Ok+in_ok-accepted_findings-in-Ok w ↦ search rules
      | in-Err+in_ok-refused_finding-in-Err+in_ok-push-in-Err w ↦ search rules
    ]
