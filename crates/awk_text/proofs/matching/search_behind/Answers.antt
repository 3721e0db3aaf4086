use Rattle.awk_text.proofs.NextMatch.{nothing_behind}
use Rattle.awk_text.proofs.matching.search_behind.Goals as goal

pub returns-else-place-text-clause-found : goal.returns-else-place-text-clause-found
returns-else-place-text-clause-found c = λ t means. nothing_behind t c.args.text.now c.args.place c.if-place-text.false
