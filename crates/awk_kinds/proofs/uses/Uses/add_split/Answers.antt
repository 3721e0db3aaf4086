use Rattle.std.proofs.Common.{sym}
use Rattle.awk_kinds.proofs.Adding.{adds_nothing, split_of_few, split_of_other}
use Rattle.awk_kinds.proofs.uses.Uses.add_split.Goals as goal

pub returns-in_default : goal.returns-in_default
returns-in_default c = adds_nothing (split_of_few c.args.scope.now c.args.function c.args.arguments.now c.in_default.ensures.lookup.3)

pub returns-in_default-array : goal.returns-in_default-array
returns-in_default-array c =
    adds_nothing (split_of_other c.args.scope.now c.args.function c.args.arguments.now c.in-Some.array.now c.in-Some.ensures.lookup.3.0 (sym c.in-Some.ensures.lookup.1) (λ x e. c.in_default-array.not-Name x e))
