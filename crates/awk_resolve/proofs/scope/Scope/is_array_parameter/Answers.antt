use Rattle.std.proofs.Common.{false, unwrap_or, sym, ap, ◌∙◌}
use Rattle.std.proofs.lemmas.Option.{slice_get-map, unwrap_or-slice_get}
use Rattle.awk_kinds.specs.definitions.Kinds.{FormalParameter}
use Rattle.awk_resolve.specs.support.Builds.{arrays_among}
use Rattle.awk_resolve.specs.support.Calls.{is_array_at}
use Rattle.awk_resolve.specs.support.Scopes.{given_parameters}
use Rattle.awk_resolve.proofs.scope.Scope.is_array_parameter.Goals as goal

pub returns : goal.returns
returns c =
    let ps = c.in-Some.parameters.now in
    c.unwrap_or.ensures
    ∙ ap (λ o. unwrap_or o false) (c.is_array.ensures ∙ sym (slice_get-map (λ (p : FormalParameter). p.is_array) ps c.args.place))
    ∙ unwrap_or-slice_get (arrays_among ps) c.args.place false
    ∙ ap (λ qs. is_array_at (arrays_among qs) c.args.place) (sym (ap given_parameters c.in-Some.is))
