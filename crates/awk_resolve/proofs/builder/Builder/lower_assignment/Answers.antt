use Rattle.awk_grammar.specs.Tree.{Assign}
use Rattle.awk_grammar.specs.View.{expr_of}
use Rattle.awk_resolve.proofs.Building.{ok_map}
use Rattle.awk_resolve.proofs.ChangeForms.{change_behind, exits_stand}
use Rattle.awk_resolve.proofs.builder.Builder.lower_assignment.Goals as goal

pub lower_any_assignment-requires : goal.lower_any_assignment-requires
lower_any_assignment-requires c = exits_stand (rw c.in_default.is at c.in_ok-append.ensures) c.requires

pub returns-in_default : goal.returns-in_default
returns-in_default c =
    let before = rw c.in_default.is at c.in_ok-append.ensures in
    ok_map _ (λ place q. change_behind _ c.args.exits c.args.scope.now place (Assign c.args.o (expr_of c.args.place.now) (expr_of c.args.right.now)) before q) c.lower_any_assignment.ensures

pub returns : goal.returns
returns c = rw c.in-Some.is at c.in_ok-append.ensures
