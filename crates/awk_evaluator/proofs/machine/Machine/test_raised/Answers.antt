use Rattle.std.proofs.Common.{◌≡◌, rules, nat_eq}
use Rattle.std.specs.Prelude.{not}
use mir.Syntax.{w128}
use mir.Val.{of_z}
use Rattle.awk_value.specs.declared.value.Value.TheVariants as value
use Rattle.awk_value.specs.Values.{truth_of}
use Rattle.awk_evaluator.proofs.Asking.{raised_asks}
use Rattle.awk_evaluator.proofs.machine.Machine.test_raised.Goals as goal

pub returns-in-Some : goal.returns-in-Some
returns-in-Some c =
    let truth : truth_of (value.Number c.in-Some.n) ≡ not (nat_eq (of_z w128 c.in-Some.n) 0) = search rules in
    rw c.in-Element.is (raised_asks truth c.in-Some.ensures.some)
