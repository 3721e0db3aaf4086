use Rattle.std.proofs.Common.{◌≡◌, drop}
use Rattle.awk_ere.specs.support.Lexer.{first_name, all_names, name_at}
use Rattle.awk_ere.proofs.class_name.name_at.Given as goal

abbrev pub invariant-loop-name : goal.invariant-loop-name
invariant-loop-name l = first_name (drop l.name-index all_names) l.bytes ≡ name_at l.bytes
