use Rattle.awk_run.proofs.LostOutputs.{brought_but_none}
use Rattle.awk_run.proofs.program.law_of_brought_outputs.Goals as goal

pub returns : goal.returns
returns c = λ outputs log brought. brought_but_none outputs log brought
