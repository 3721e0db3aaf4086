use Rattle.awk_grammar.proofs.ProgramsComplete.{one_tree}
use Rattle.awk_grammar.proofs.laws.one_tree.Goals as goal

pub returns : goal.returns
returns c = one_tree
