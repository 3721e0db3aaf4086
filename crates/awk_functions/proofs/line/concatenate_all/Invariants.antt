use Rattle.std.proofs.Common.{◌≡◌, ◌++◌, map, drop}
use Rattle.std.specs.List.{concat}
use Rattle.awk_value.specs.Values.{str_of}
use Rattle.awk_functions.proofs.line.concatenate_all.Given as goal

abbrev pub invariant-loop-value : goal.invariant-loop-value
invariant-loop-value l = l.text.items ++ concat (map str_of (drop l.value-index l.values)) ≡ concat (map str_of l.values)
