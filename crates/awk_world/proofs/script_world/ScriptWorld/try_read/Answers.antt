use Rattle.std.proofs.Common.{rules}
use Rattle.awk_world.proofs.script_world.ScriptWorld.try_read.Goals as goal

pub returns-in_ok-note_entry-in-End-clause-log : goal.returns-in_ok-note_entry-in-End-clause-log
returns-in_ok-note_entry-in-End-clause-log c = search rules
