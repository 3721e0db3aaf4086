use Rattle.std.proofs.Common.{◌≡◌, map, take}
use Rattle.awk_kinds.specs.support.Marked.{is_marked_in}
use Rattle.awk_kinds.proofs.parameters.Parameters.of.Given as goal

abbrev pub invariant-loop-x : goal.invariant-loop-x
invariant-loop-x l = record {
  names : l.names ≡ take l.x-index l.parameters;
  kinds : l.kinds.items ≡ map (is_marked_in l.arrays l.function) (take l.x-index l.parameters);
}
