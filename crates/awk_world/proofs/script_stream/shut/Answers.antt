use Rattle.std.proofs.Common.{ap, refl}
use Rattle.std.proofs.Math.Seq.{map-set_same}
use Rattle.awk_world.specs.definitions.Script.{stream_of}
use Rattle.awk_world.proofs.ScriptLemmas.{open_count-shut}
use Rattle.awk_world.proofs.script_stream.shut.Goals as goal

pub returns-clause-count : goal.returns-clause-count
returns-clause-count c = open_count-shut c.args.streams.now.items c.args.place _ c.requires refl

pub returns-clause-streams : goal.returns-clause-streams
returns-clause-streams c = map-set_same stream_of c.args.streams.now.items c.args.place _ c.index_mut-stream.result.now (ap stream_of c.index_mut-stream.ensures.value)
