use Rattle.std.proofs.Common.{sym}
use Rattle.awk_grammar.specs.Tree.{Assign}
use Rattle.awk_grammar.specs.View.{expr_of}
use Rattle.awk_resolve.proofs.Building.{ok_map, extends}
use Rattle.awk_resolve.proofs.ChangeForms.{update_built, change_behind, exits_stand}
use Rattle.awk_resolve.proofs.builder.Builder.lower_update.Goals as goal

pub lower_assignment-requires : goal.lower_assignment-requires
lower_assignment-requires c = let e = rw c.in_default.is at c.in_ok-operand.ensures in rw e c.requires

pub returns-in_default : goal.returns-in_default
returns-in_default c = let e = rw c.in_default.is at c.in_ok-operand.ensures in rw (sym e) c.lower_assignment.ensures

pub lower_assignment-requires-in_default-2 : goal.lower_assignment-requires-in_default-2
lower_assignment-requires-in_default-2 c =
    let place = rw c.in_default-2.is at c.in_ok-target.ensures in
    let right = rw c.in-Some.is at c.in_ok-operand.ensures in
    exits_stand (extends right.extends place) c.requires

pub returns-in_default-2 : goal.returns-in_default-2
returns-in_default-2 c =
    let place = rw c.in_default-2.is at c.in_ok-target.ensures in
    let right = rw c.in-Some.is at c.in_ok-operand.ensures in
    ok_map _ (λ built q. change_behind _ c.args.exits c.args.scope.now built (Assign c.args.o (expr_of c.args.place.now) (expr_of c.args.right.now)) (extends right.extends place) q) c.lower_assignment-in_default-2.ensures

pub returns : goal.returns
returns c = update_built c.requires.next c.args.o (rw c.in-Some.is at c.in_ok-operand.ensures) (rw c.in-Some-2.is at c.in_ok-target.ensures) c.in_ok-update.ensures
