use Rattle.std.proofs.Common.{ap, sym, pos}
use Rattle.awk_streams.specs.definitions.MainInput.{closed_main}
use Rattle.awk_streams.proofs.input.close.Goals as goal

-- where there is no input nothing is closed
pub returns-in_default-clause-log : goal.returns-in_default-clause-log
returns-in_default-clause-log g c = λ t. (pos 0, ap (λ input. closed_main input (pos 0) (g.W.World.state c.args.world.now).log) (sym c.in_default.is))
