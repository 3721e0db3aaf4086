-- The key of a sum's cell, as it is printed.
use Rattle.std.specs.Prelude.{[]}
use Rattle.awk_grammar.specs.Tree.{Expr, String, Name}
use Rattle.awk_merging.specs.definitions.Sums.{Sum, ByKey, Alone, merge_key}

abbrev pub key_of_sum : Sum → Expr
key_of_sum (ByKey a) = Name merge_key
key_of_sum (Alone x) = String []
