use Rattle.std.proofs.Common.{sym, ◌∙◌}
use Rattle.awk_runtime.proofs.Prints.{no_values}
use Rattle.awk_runtime.proofs.runtime.Runtime.print_by.Goals as goal

pub returns-then-is_empty-clause-prints : goal.returns-then-is_empty-clause-prints
returns-then-is_empty-clause-prints g c =
    let none = no_values c.args.values.now (sym c.is_empty.ensures ∙ c.if-is_empty.true) in
    rw (c.in-Print.is, none) c.print_record.ensures.prints

pub returns-in-Printf-clause-prints : goal.returns-in-Printf-clause-prints
returns-in-Printf-clause-prints g c = rw c.in-Printf.is c.print_format.ensures.prints
