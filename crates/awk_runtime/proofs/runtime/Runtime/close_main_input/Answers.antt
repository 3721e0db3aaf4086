use Rattle.awk_runtime.proofs.Turns.{written}
use Rattle.awk_runtime.proofs.MainInput.{closes_follows}
use Rattle.awk_runtime.proofs.runtime.Runtime.close_main_input.Goals as goal

pub returns-clause-follows : goal.returns-clause-follows
returns-clause-follows g c = closes_follows (written _ _ _ _) c.close_main.ensures.told
