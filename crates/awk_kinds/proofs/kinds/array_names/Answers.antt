use Rattle.std.proofs.Common.{◌≡◌, cond, ◌∷◌, [], map, filter, take, sym, ap, ◌∙◌}
use Rattle.awk_kinds.specs.definitions.SpecialNames.{special_arrays}
use Rattle.awk_kinds.specs.definitions.Kinds.{in_array_use, globals_among, with_global}
use Rattle.awk_kinds.specs.support.Arrays.{is_marked}
use Rattle.awk_kinds.proofs.KindsMade.{use_step}
use Rattle.awk_kinds.proofs.kinds.array_names.Goals as goal
use Rattle.awk_kinds.proofs.kinds.array_names.Goals.{then-has+in_ok-add_global, else-has}

pub loop-array-preserved : goal.loop-array-preserved
loop-array-preserved c =
    let i = c.loop-array.array-index in
    let us = c.args.uses.now in
    let u = c.array-item.result in
    let M = is_marked c.args.arrays.now in
    let names = globals_among special_arrays (filter M (map in_array_use (take i us))) in
    let v = c.variable-v.result.now in
    let here : c.has.result ≡ M (in_array_use u) = c.has.ensures ∙ ap M c.variable-v.ensures in
    let step : c.if-has.names ≡ globals_among names (cond (M (in_array_use u)) (in_array_use u ∷ []) []) =
    elim c.if-has.branch [
      | then-has+in_ok-add_global w ↦
          w.names-is ∙ w.in_ok-add_global.ensures ∙ ap (λ ns. with_global ns v) c.loop-array.invariant ∙ ap (with_global names) c.variable-v.ensures
          ∙ sym (ap (λ b. globals_among names (cond b (in_array_use u ∷ []) [])) (sym here ∙ w.if-has.true))
      | else-has w ↦ w.names-is ∙ c.loop-array.invariant ∙ sym (ap (λ b. globals_among names (cond b (in_array_use u ∷ []) [])) (sym here ∙ w.if-has.false))
    ] in
    step ∙ sym (use_step special_arrays M us i u c.loop-array-test.true c.array-item.is)
