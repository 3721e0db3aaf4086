use Rattle.std.proofs.Common.{◌≡◌, ◌++◌, map, drop}
use Rattle.std.specs.List.{concat}
use Rattle.awk_value.specs.Values.{str_of}
use Rattle.awk_functions.proofs.line.append_values.Given as goal

abbrev pub invariant-loop-value : goal.invariant-loop-value
invariant-loop-value l = l.text ++ concat (map str_of (drop l.value-index l.values)) ≡ l.fn.text ++ concat (map str_of l.values)
