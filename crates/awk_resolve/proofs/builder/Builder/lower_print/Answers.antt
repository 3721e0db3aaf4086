use Rattle.std.proofs.Common.{◌≡◌, sym, ap, ◌∙◌}
use Rattle.awk_grammar.specs.View.{output_of, print_list_of}
use Rattle.awk_kinds.specs.definitions.NameUses.{count_of}
use Rattle.awk_kinds.proofs.Adding.{count_is}
use Rattle.awk_resolve.specs.support.Printed.{listed}
use Rattle.awk_resolve.proofs.Building.{ok_map}
use Rattle.awk_resolve.proofs.PrintStatements.{redirected_built}
use Rattle.awk_resolve.proofs.builder.Builder.lower_print.Goals as goal

pub returns-in-Standard : goal.returns-in-Standard
returns-in-Standard c = rw (ap output_of c.in-Standard.is) c.lower_standard_print.ensures

pub returns-in_ok-values-in-Redirected : goal.returns-in_ok-values-in-Redirected
returns-in_ok-values-in-Redirected c =
    let list = c.listed-list.result.now in
    let count : c.in_ok-count-in-Redirected.count ≡ count_of (listed (print_list_of c.args.list.now)) = c.in_ok-count-in-Redirected.ensures ∙ sym (count_is list) ∙ ap count_of c.listed-list.ensures in
    rw (ap output_of c.in-Redirected.is)
    (ok_map _ (λ i r. redirected_built c.requires.next count c.in_ok-print-in-Redirected.ensures (rw c.deref.ensures at c.in_ok-target-in-Redirected.ensures) (rw c.listed-list.ensures at c.in_ok-values-in-Redirected.ensures) r) c.step.ensures)
