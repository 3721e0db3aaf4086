use Rattle.std.proofs.Common.{ap, pos, ◌∙◌}
use Rattle.awk_value.specs.declared.value.Value.TheVariants.{Number}
use Rattle.awk_runtime.proofs.ArrayWords.{elements_counted}
use Rattle.awk_runtime.proofs.runtime.Runtime.count_elements_at.Goals as goal

pub returns : goal.returns
returns c = elements_counted c.args.self.now c.args.array c.number_at-number.result c.number_at-number.ensures (c.count_value.ensures ∙ ap (λ n. Number (pos n)) c.count.ensures)
