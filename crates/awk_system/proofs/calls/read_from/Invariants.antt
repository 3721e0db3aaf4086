-- A read that is interrupted takes nothing from the reader.
use Rattle.std.specs.Io.KnownBytes.{Keeps}
use Rattle.awk_system.proofs.calls.read_from.Given as goal

abbrev pub invariant-loop : goal.invariant-loop
invariant-loop g l = Keeps (g.R.Read.remaining l.initial.reader) (g.R.Read.remaining l.reader)
