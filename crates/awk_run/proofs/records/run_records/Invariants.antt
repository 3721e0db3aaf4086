use Rattle.std.proofs.Common.{Result, IfSome}
use Rattle.awk_streams.specs.WorldState.{WorldState}
use Rattle.awk_semantics.specs.declared.halt.Halt.{Halt}
use Rattle.awk_runtime.specs.declared.runtime.Runtime.{Runtime}
use Rattle.awk_run.specs.support.Follows.{ReadsOn, IsSet}
use Rattle.awk_run.specs.support.Passing.{RulesIgnore}
use Rattle.awk_evaluator.specs.Moves.{IsIdle}
use Rattle.awk_run.proofs.records.run_records.Given as goal

-- the records that are left
abbrev pub invariant-loop-machine : goal.invariant-loop-machine
invariant-loop-machine g l = record {
  on : (new : Runtime) (after : WorldState) (r : Result (Unit {0}) Halt) →
      ReadsOn g.W.World.is_logged l.plan l.machine.runtime (g.W.World.state l.world) new after r →
      ReadsOn g.W.World.is_logged l.plan l.fn.machine.runtime (g.W.World.state l.fn.world) new after r;
  set : IsSet g.W.World.is_logged l.plan l.machine.runtime (g.W.World.state l.world);
  idle : IsIdle l.machine;
  ignored : IfSome l.unwanted (RulesIgnore l.plan);
}

abbrev pub decreases-loop-machine : goal.decreases-loop-machine
decreases-loop-machine g l = l.machine.runtime.steps
