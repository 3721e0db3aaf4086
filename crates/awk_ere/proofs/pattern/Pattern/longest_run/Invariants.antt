use Rattle.std.proofs.Common.{◌≡◌, ◌≤◌, [], drop}
use Rattle.awk_ere.specs.support.RequiredRun.{longest_run}
use Rattle.awk_ere.proofs.pattern.Pattern.longest_run.Given as goal

-- the depth is counted, and the rest of the instructions leads to the same run
abbrev pub invariant-loop-instruction : goal.invariant-loop-instruction
invariant-loop-instruction l = record {
  depth : l.depth ≤ l.instruction-index;
  same : longest_run (drop l.instruction-index l.instruction-items) l.depth l.run.items l.longest.items ≡ longest_run l.self.program.instructions.items 0 [] [];
}
