use Rattle.std.proofs.Common.{◌≡◌, ◌≤◌, ◌-◌, length, drop}
use Rattle.awk_resolve.specs.Nodes.{taken}
use Rattle.awk_evaluator.specs.Calling.{kept_all, with_all}
use Rattle.awk_evaluator.proofs.machine.Machine.give_each.Given as goal

abbrev pub invariant-arguments : goal.invariant-arguments
invariant-arguments l =
    let args = taken l.count l.initial.self.operands.values in
    record {
      operands : l.self.operands ≡ l.initial.self.operands;
      frames : l.self.runtime.frames.frames ≡ l.initial.self.runtime.frames.frames;
      low : l.given ≤ l.index;
      within : l.index ≤ length l.forms;
      rest : with_all (kept_all (drop l.index l.forms) (drop l.given args) l.initial.self.runtime.frames) l.self.runtime ≡ with_all (kept_all l.forms args l.initial.self.runtime.frames) l.initial.self.runtime;
    }

abbrev pub decreases-arguments : goal.decreases-arguments
decreases-arguments l = length l.forms - l.index
