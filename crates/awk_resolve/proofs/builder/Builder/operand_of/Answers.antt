use Rattle.std.proofs.Common.{◌≡◌, rules, ap, to_z, of_z}
use mir.Syntax.{w128}
use Rattle.awk_grammar.specs.View.{expr_of}
use Rattle.awk_resolve.proofs.InPlaceForms.{number_operand, string_operand}
use Rattle.awk_resolve.proofs.builder.Builder.operand_of.Goals as goal

pub returns-in-Number : goal.returns-in-Number
returns-in-Number c =
    let number : to_z w128 (of_z w128 c.in-Number.n) ≡ c.in-Number.n = search rules in
    rw (ap expr_of c.in-Number.is, number) (number_operand c.in-Number.n)

pub returns-in_ok-clone-in-String : goal.returns-in_ok-clone-in-String
returns-in_ok-clone-in-String c = rw (ap expr_of c.in-String.is, c.in_ok-clone-in-String.ensures.cases) (string_operand _)

pub returns-in_ok-variable_operand-in-Name : goal.returns-in_ok-variable_operand-in-Name
returns-in_ok-variable_operand-in-Name c = rw (ap expr_of c.in-Name.is) c.in_ok-variable_operand-in-Name.ensures

pub returns-in-Field : goal.returns-in-Field
returns-in-Field c = rw (ap expr_of c.in-Field.is) (rw c.deref.ensures at c.field_operand.ensures)
