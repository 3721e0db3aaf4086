use Rattle.std.proofs.Common.{refl}
use Rattle.awk_world.proofs.script_world.ScriptWorldWorld.output_buffer_size.Goals as goal

pub returns : goal.returns
returns c = refl
