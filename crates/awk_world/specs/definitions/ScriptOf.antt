-- The script of a world in memory.
use Rattle.awk_world.specs.declared.script_world.ScriptWorld.{ScriptWorld}
use Rattle.awk_world.specs.definitions.Script.{Script, streams_of}

abbrev pub script_of : ScriptWorld → Script
script_of w = record { answers = w.answers.items; streams = streams_of w.streams.items; buffer_size = w.buffer_size; faults = w.faults }
