use Rattle.std.proofs.Common.{◌-◌, arith}
use Rattle.awk_runtime.proofs.Steps.{step_taken, no_step}
use Rattle.awk_runtime.proofs.runtime.Runtime.spend.Goals as goal

pub returns-then-self-eq0 : goal.returns-then-self-eq0
returns-then-self-eq0 c = no_step c.args.self.now c.if-self-eq0.true

pub returns : goal.returns
returns c = step_taken c.args.self.now (c.args.self.now.steps - 1) (omega arith)
