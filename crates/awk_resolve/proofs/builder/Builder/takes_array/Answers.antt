use Rattle.std.proofs.Common.{◌≡◌, [], unwrap_or, sym, ap, ◌∙◌}
use Rattle.std.proofs.lemmas.Option.{unwrap_or-slice_get}
use Rattle.awk_resolve.specs.support.Builds.{array_parameters_in}
use Rattle.awk_resolve.specs.support.Calls.{arrays_of, is_array_at}
use Rattle.awk_resolve.proofs.builder.Builder.takes_array.Goals as goal

pub returns-in-None : goal.returns-in-None
returns-in-None c =
    let all = array_parameters_in c.args.self.now in
    let none : arrays_of c.args.self.now c.args.function ≡ [] = sym (unwrap_or-slice_get all c.args.function []) ∙ ap (λ o. unwrap_or o []) (sym c.in-None.ensures) in
    sym (ap (λ arrays. is_array_at arrays c.args.place) none)
