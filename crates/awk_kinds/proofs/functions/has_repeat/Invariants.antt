use Rattle.std.proofs.Common.{◌≡◌, false, take}
use Rattle.awk_kinds.specs.definitions.Fits.{has_repeat}
use Rattle.awk_kinds.proofs.Known.{Knows}
use Rattle.awk_kinds.proofs.functions.has_repeat.Given as goal

abbrev pub invariant-loop-name : goal.invariant-loop-name
invariant-loop-name l = record {
  known : Knows l.known.keys (take l.name-index l.names);
  once : has_repeat (take l.name-index l.names) ≡ false;
}
