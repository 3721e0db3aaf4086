use Rattle.std.proofs.Common.{◌++◌, sym, ap, ◌∙◌}
use Rattle.awk_value.specs.Values.{str_of}
use Rattle.awk_runtime.proofs.runtime.Runtime.join_separator.Goals as goal

pub returns-in-Some : goal.returns-in-Some
returns-in-Some c = λ appends. c.append_bytes.ensures appends ∙ ap (λ l. c.args.line.now.items ++ l) (c.as_slice.ensures ∙ sym (c.in-Some.ensures {u = tt}) ∙ ap str_of c.special.ensures)
