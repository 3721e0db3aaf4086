use Rattle.std.proofs.Common.{sym, ◌∙◌}
use Rattle.awk_resolve.proofs.Variables.{is_local_array, is_global_array, is_no_array}
use Rattle.awk_resolve.proofs.scope.Scope.array_of.Goals as goal

pub returns-in-Some : goal.returns-in-Some
returns-in-Some c = is_local_array c.args.name.now c.in-Some.place (sym c.in-Some.ensures)

pub returns-in-Some-array : goal.returns-in-Some-array
returns-in-Some-array c = is_global_array c.args.name.now c.in-Some-array.number (sym c.in_default.ensures) (sym c.in-Some-array.ensures)

pub returns-in_ok-next_number-in-None : goal.returns-in_ok-next_number-in-None
returns-in_ok-next_number-in-None c = is_no_array c.args.name.now c.in_ok-next_number-in-None.field-0 (sym c.in_default.ensures) (sym c.in-None.ensures) (c.in_ok-next_number-in-None.ensures ∙ c.array_count.ensures)
