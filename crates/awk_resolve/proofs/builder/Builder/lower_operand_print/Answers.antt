use Rattle.std.proofs.Common.{◌≡◌, ◌<◌, length, sym, ap, ◌∙◌, arith}
use Rattle.std.proofs.lemmas.Bool.{eqb-false}
use Rattle.awk_grammar.specs.View.{print_list_of}
use Rattle.awk_kinds.specs.definitions.NameUses.{count_of}
use Rattle.awk_resolve.specs.support.Printed.{listed}
use Rattle.awk_resolve.proofs.ListForms.{count_exprs}
use Rattle.awk_resolve.proofs.PrintStatements.{operands_print_built}
use Rattle.awk_resolve.proofs.builder.Builder.lower_operand_print.Goals as goal

pub returns : goal.returns
returns c =
    let list = c.listed-list.result.now in
    let long : 0 < length list = omega (arith, eqb-false (length list) 0 (sym c.if-is_empty.ensures)) in
    let count : count_of (listed (print_list_of c.args.list.now)) ≡ length list = ap count_of (sym c.listed-list.ensures) ∙ count_exprs list in
    let some : 0 < count_of (listed (print_list_of c.args.list.now)) = omega (arith, long, count) in
    rw c.in-Print.is (operands_print_built c.requires.next some (rw c.listed-list.ensures at (rw c.in-Some.is at c.in_ok-operands.ensures)) c.in_ok-print.ensures)
