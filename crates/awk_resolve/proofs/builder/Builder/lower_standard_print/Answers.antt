use Rattle.std.proofs.Common.{◌≡◌, sym, ap, ◌∙◌}
use Rattle.awk_grammar.specs.View.{print_list_of}
use Rattle.awk_kinds.specs.definitions.NameUses.{count_of}
use Rattle.awk_kinds.proofs.Adding.{count_is}
use Rattle.awk_resolve.specs.support.Printed.{listed}
use Rattle.awk_resolve.proofs.Building.{ok_map, behind, still}
use Rattle.awk_resolve.proofs.PrintStatements.{print_built}
use Rattle.awk_resolve.proofs.builder.Builder.lower_standard_print.Goals as goal

pub returns-in-Some : goal.returns-in-Some
returns-in-Some c = rw c.in-Some.is at c.in_ok-place.ensures

pub returns : goal.returns
returns c =
    let before = rw c.in_default.is at c.in_ok-place.ensures in
    let list = c.listed-list.result.now in
    let count : c.in_ok-count.count ≡ count_of (listed (print_list_of c.args.list.now)) = c.in_ok-count.ensures ∙ sym (count_is list) ∙ ap count_of c.listed-list.ensures in
    ok_map _ (λ i r. behind before (print_built (still before c.requires.next) count c.in_ok-print.ensures (rw c.listed-list.ensures at c.in_ok-values.ensures) r)) c.step.ensures
