use Rattle.std.proofs.Common.{◌≡◌, ◌+◌, ◌≤◌, ◌++◌, [], map, take, drop, length, false}
use Rattle.awk_ere.specs.definitions.Program.{resolve}
use Rattle.awk_ere.specs.support.Simulation.{registers, exec, read_off}
use Rattle.awk_ere.specs.support.SimulationStep.{program}
use Rattle.awk_ere.proofs.pattern.Pattern.step.Given as goal

-- what is done, and then what is left, is all
abbrev pub invariant-loop-i : goal.invariant-loop-i
invariant-loop-i l =
    let left = exec l.input.start l.input.end l.input.byte (map (resolve l.classes) (drop l.i l.self.program.instructions.items)) (drop l.i l.positions) (read_off l.at l.kept) in
    let all = exec l.input.start l.input.end l.input.byte (program l.self) l.fn.position_set.positions.items (registers l.before false []) in
    record {
      registers : left.0 ≡ all.0;
      position_set : take l.i l.positions ++ left.1 ≡ all.1;
      same : length l.positions ≡ length l.self.program.instructions.items;
      room : length l.self.program.instructions.items ≤ l.at.kept + l.i;
      stacked : l.at.kept ≤ length l.kept;
      full : length l.kept ≡ length l.self.program.instructions.items;
    }
