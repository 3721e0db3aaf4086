use Rattle.awk_resolve.specs.declared.node.Operand.TheVariants as operand
use Rattle.awk_resolve.specs.declared.node.ValueNode.TheVariants as v
use Rattle.awk_resolve.specs.support.Operands.{PushesEre}
use Rattle.awk_resolve.proofs.Building.{ok_map}
use Rattle.awk_resolve.proofs.builder.Builder.push_ere.Goals as goal

pub returns : goal.returns
returns c = ok_map c.push_value.result {Q = λ place. PushesEre c.args.self.now c.push_value.new.self (λ i. v.Matches (operand.Field 0) i) c.args.text.now place c.args.next}
    (λ i p. record { between = c.ere_of.new.self; number = c.in_ok-number.number; adds = c.in_ok-number.ensures; pushes = p }) c.push_value.ensures
