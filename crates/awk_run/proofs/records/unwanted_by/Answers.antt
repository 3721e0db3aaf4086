use Rattle.std.proofs.Common.{◌≡◌, ◌<◌, rules, refl, ap, ◌∙◌, length, Some, slice_get, arith}
use Rattle.std.proofs.lemmas.Bool.Decides.{nat_tests}
use Rattle.std.proofs.lemmas.Option.{slice_get_read}
use Rattle.awk_resolve.specs.declared.node.Operand.TheVariants as operand
use Rattle.awk_resolve.specs.declared.node.Node.TheVariants as node
use Rattle.awk_run.proofs.Passing.{none_wanted, unmatched_unwanted}
use Rattle.awk_run.proofs.records.unwanted_by.Goals as goal

pub returns-in-End : goal.returns-in-End
returns-in-End c =
    let within : c.args.plan.now.rules < length c.deref.result.now = grind (arith, nat_tests, c.in_ok-ere.ensures.lookup.0) in
    let e : slice_get c.deref.result.now c.args.plan.now.rules ≡ Some c.in_ok-ere.field-0.now = slice_get_read _ (length c.deref.result.now) _ _ refl within c.in_ok-ere.ensures.lookup.1 in
    none_wanted (rw c.deref.ensures.value at e ∙ ap Some c.in-End.is)

pub returns-in-Match-Field-eq0-default-default-default : goal.returns-in-Match-Field-eq0-default-default-default
returns-in-Match-Field-eq0-default-default-default c =
    let x = c.in-Match-Field-eq0-default-default-default in
    let within : c.args.plan.now.rules < length c.deref.result.now = grind (arith, nat_tests, c.in_ok-ere.ensures.lookup.0) in
    let e : slice_get c.deref.result.now c.args.plan.now.rules ≡ Some c.in_ok-ere.field-0.now = slice_get_read _ (length c.deref.result.now) _ _ refl within c.in_ok-ere.ensures.lookup.1 in
    let is : c.in_ok-ere.field-0.now ≡ node.Match (operand.Field 0) x.ere x.field-2 x.other = search rules in
    unmatched_unwanted (rw c.deref.ensures.value at e ∙ ap Some is) (c.is_end.ensures c.if-is_end.true)
