use Rattle.std.proofs.Common.{drop, map, Result}
use Rattle.awk_semantics.specs.declared.halt.Halt.{Halt}
use Rattle.awk_runtime.specs.declared.runtime.Runtime.{Runtime}
use Rattle.awk_runtime.specs.Beginning.{pair_of}
use Rattle.awk_run.specs.support.Assigned.{Assigns}
use Rattle.awk_run.proofs.plan_run.assign_all.Given as goal

-- the assignments that are left
abbrev pub invariant-loop-assignment : goal.invariant-loop-assignment
invariant-loop-assignment l =
    (new : Runtime) (r : Result (Unit {0}) Halt) →
    Assigns (map pair_of (drop l.assignment-index l.assignments)) l.runtime new r →
    Assigns (map pair_of l.assignments) l.fn.runtime new r
