use Rattle.awk_grammar.proofs.AnswerTold.{accepted, too_high, says}
use Rattle.awk_grammar.proofs.laws.parser_law.Goals as goal

pub returns-clause-says : goal.returns-clause-says
returns-clause-says c = says

pub returns-clause-reads : goal.returns-clause-reads
returns-clause-reads c = accepted

pub returns-clause-too_high : goal.returns-clause-too_high
returns-clause-too_high c = too_high
