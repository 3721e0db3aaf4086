use Rattle.std.proofs.Common.{◌≡◌, ◌++◌, map, drop, take, length}
use Rattle.awk_value.specs.Values.{str_of}
use Rattle.awk_semantics.specs.Operators.{join_rest}
use Rattle.awk_functions.proofs.line.put_rest.Given as goal

abbrev pub invariant-loop-value : goal.invariant-loop-value
invariant-loop-value l = record {
  text : l.line.items ++ join_rest l.between (map str_of (drop l.value-index l.values)) ≡ l.fn.line.items ++ join_rest l.between (map str_of l.values);
  front : take (length l.fn.line.items) l.line.items ≡ l.fn.line.items;
}
