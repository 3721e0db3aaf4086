use Rattle.std.proofs.Common.{ap, ◌∙◌, drop}
use Rattle.std.proofs.lemmas.List.{take_rest}
use Rattle.awk_lex.proofs.scanner.rest.Goals as goal

pub returns-clause-is : goal.returns-clause-is
returns-clause-is c = take_rest c.as_slice.result.now c.args.at ∙ ap (drop c.args.at) c.as_slice.ensures
