use Rattle.awk_semantics.proofs.ChosenMatches.{exchange_decides}
use Rattle.awk_semantics.proofs.text_laws.law_of_exchanges.Goals as goal

pub returns-clause-replaced : goal.returns-clause-replaced
returns-clause-replaced c t replacement text all count other ordered = exchange_decides t text ordered all replacement count other
