use Rattle.std.proofs.Common.{◌≡◌, ℕ, List, take, bytes_eq}
use Rattle.std.specs.List.{list_any}
use Rattle.awk_kinds.specs.definitions.Names.{has_name}
use Rattle.awk_kinds.proofs.scope.Scope.new.Given as goal

abbrev pub invariant-loop-parameter : goal.invariant-loop-parameter
invariant-loop-parameter l = record {
  names : l.names.items ≡ take l.parameter-index l.parameters;
  known : (x : List ℕ) → list_any (λ k. bytes_eq x k.items) l.known.keys ≡ has_name (take l.parameter-index l.parameters) x;
}
