use Rattle.std.proofs.Common.{◌≡◌, ◌++◌, map, drop}
use Rattle.awk_value.specs.Values.{str_of}
use Rattle.awk_semantics.specs.Operators.{join_rest}
use Rattle.awk_functions.proofs.line.append_rest.Given as goal

abbrev pub invariant-loop-value : goal.invariant-loop-value
invariant-loop-value l =
    l.line.items ++ join_rest (str_of l.separator) (map str_of (drop l.value-index l.values)) ≡ l.fn.line.items ++ join_rest (str_of l.separator) (map str_of l.values)
