use Rattle.awk_kinds.proofs.ArrayNames.{array_names_are}
use Rattle.awk_kinds.proofs.laws.law_of_array_names.Goals as goal

pub returns : goal.returns
returns c = array_names_are
