use Rattle.std.proofs.Common.{◌≡◌, map, take, set}
use Rattle.awk_semantics.specs.Meaning.{environ_from}
use Rattle.awk_storage.specs.support.Tables.{array_of}
use Rattle.awk_runtime.specs.support.Beginning.{pair_of}
use Rattle.awk_runtime.proofs.start.put_environ.Given as goal

abbrev pub invariant-loop-entry : goal.invariant-loop-entry
invariant-loop-entry l = l.arrays ≡ set l.initial.arrays l.number (environ_from (array_of l.initial.arrays l.number) (map pair_of (take l.entry-index l.environ)))
