use Rattle.awk_kinds.specs.definitions.Variables.{value_of}
use Rattle.awk_storage.specs.support.SpecialValues.{special_pairs}
use Rattle.awk_storage.proofs.variables.Variables.new.Goals as goal

pub returns-clause-start : goal.returns-clause-start
returns-clause-start c = λ x j. value_of (special_pairs (c.in_ok-specials.ensures.specials j)) x
