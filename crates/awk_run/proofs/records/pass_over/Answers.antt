use Rattle.std.proofs.Common.{◌∙◌}
use Rattle.awk_run.proofs.Passing.{passes_some}
use Rattle.awk_run.proofs.records.pass_over.Goals as goal

pub returns-then-pass_over-clause-passes : goal.returns-then-pass_over-clause-passes
returns-then-pass_over-clause-passes g c = rw c.in_ok-unwanted.was (passes_some (c.pass_over.ensures.ready _) (c.pass_over.ensures.passes _))

pub returns-clause-passes : goal.returns-clause-passes
returns-clause-passes g c = rw c.in_ok-unwanted.was (passes_some (c.pass_over.ensures.ready _) (c.pass_over.ensures.passes _))

pub returns-then-pass_over-clause-idle : goal.returns-then-pass_over-clause-idle
returns-then-pass_over-clause-idle g c = λ idle. record { operands = idle.operands; calls = c.pass_over.ensures.callers ∙ idle.calls }

pub returns-clause-idle : goal.returns-clause-idle
returns-clause-idle g c = λ idle. record { operands = idle.operands; calls = c.pass_over.ensures.callers ∙ idle.calls }
