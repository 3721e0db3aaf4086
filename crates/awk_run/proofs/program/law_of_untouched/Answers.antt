use Rattle.awk_run.proofs.RunsFrom.{untouched_sound}
use Rattle.awk_run.proofs.program.law_of_untouched.Goals as goal

pub returns : goal.returns
returns c = λ world fresh. untouched_sound world c.some_oracle_is_consistent.ensures.start fresh
