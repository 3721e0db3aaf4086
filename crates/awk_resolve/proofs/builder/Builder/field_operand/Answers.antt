use Rattle.std.proofs.Common.{◌≡◌, pos, rules, subst, ap}
use Rattle.awk_grammar.specs.Tree.{Number, Field}
use Rattle.awk_grammar.specs.View.{expr_of}
use Rattle.awk_resolve.specs.declared.node.Operand.TheVariants as operand
use Rattle.awk_resolve.specs.support.Builds.{FindsAnOperand}
use Rattle.awk_resolve.specs.support.Scopes.{parameters_of}
use Rattle.awk_resolve.proofs.InPlaceForms.{numbered_field_operand, named_field_operand}
use Rattle.awk_resolve.proofs.builder.Builder.field_operand.Goals as goal

pub returns-in-Ok : goal.returns-in-Ok
returns-in-Ok c =
    let k = c.in-Ok.number in
    let number : pos k ≡ c.in-Number.n = search rules in
    rw (ap expr_of c.in-Number.is) (subst (λ z. FindsAnOperand c.args.scope.now.kinds.now (parameters_of c.args.scope.now) c.args.self.now c.args.self.now (operand.Field k) (Field (Number z))) number (numbered_field_operand k))

pub returns-in_ok-variable-in-Name : goal.returns-in_ok-variable-in-Name
returns-in_ok-variable-in-Name c = rw (ap expr_of c.in-Name.is) (named_field_operand (rw c.as_slice.ensures at c.in_ok-variable-in-Name.ensures))
