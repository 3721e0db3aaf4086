use Rattle.std.proofs.Common.{true, false, sym, subst, ◌∙◌}
use Rattle.awk_resolve.specs.support.Builds.{NamesArray}
use Rattle.awk_resolve.specs.support.Scopes.{parameters_of}
use Rattle.awk_resolve.proofs.Variables.{is_local_array, is_global_array, is_parameter_of_kind, is_outside_of_kind, named_there, none_there}
use Rattle.awk_resolve.proofs.scope.Scope.array_named.Goals as goal

pub returns-then-is_array_parameter : goal.returns-then-is_array_parameter
returns-then-is_array_parameter c =
    (is_local_array c.args.name.now c.in-Some.place (sym c.in-Some.ensures), is_parameter_of_kind c.args.name.now c.in-Some.place _ (sym c.in-Some.ensures) (sym c.if-is_array_parameter.true ∙ c.is_array_parameter.ensures))

pub returns-in-Some : goal.returns-in-Some
returns-in-Some c = is_parameter_of_kind c.args.name.now c.in-Some.place _ (sym c.in-Some.ensures) (sym c.if-is_array_parameter.false ∙ c.is_array_parameter.ensures)

pub returns-in_err-number : goal.returns-in_err-number
returns-in_err-number c =
    subst (λ o. NamesArray c.args.self.now.kinds.now (parameters_of c.args.self.now) o c.args.name.now) (sym c.from_residual.ensures)
    (is_outside_of_kind c.args.name.now false (sym c.in_default.ensures) (none_there c.args.self.now.kinds.now.arrays c.args.name.now (sym c.in_err-number.ensures)))

pub returns : goal.returns
returns c = (
  is_global_array c.args.name.now c.in_ok-number.number (sym c.in_default.ensures) (sym c.in_ok-number.ensures),
  is_outside_of_kind c.args.name.now true (sym c.in_default.ensures) (named_there c.args.self.now.kinds.now.arrays c.args.name.now c.in_ok-number.number (sym c.in_ok-number.ensures)),
)
