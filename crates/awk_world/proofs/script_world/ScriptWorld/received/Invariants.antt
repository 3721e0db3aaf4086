use Rattle.std.proofs.Common.{◌≡◌, take}
use Rattle.awk_world.specs.definitions.Script.{events}
use Rattle.awk_world.specs.definitions.Writes.{received}
use Rattle.awk_world.proofs.script_world.ScriptWorld.received.Given as goal

abbrev pub invariant-loop-entry : goal.invariant-loop-entry
invariant-loop-entry l = l.bytes.items ≡ received l.output (events (take l.entry-index l.self.log.items))
