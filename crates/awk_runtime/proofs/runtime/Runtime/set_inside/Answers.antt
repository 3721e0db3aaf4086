use Rattle.std.proofs.Common.{ap, ◌∙◌, ◌==◌, refl, arith}
use Rattle.std.specs.Prelude.{if◌then◌else◌}
use Rattle.std.proofs.lemmas.Result.{err_from_is_err_and}
use Rattle.awk_runtime.proofs.Composition.{memory_changes}
use Rattle.awk_runtime.proofs.EndWords.{range_set, one_set}
use Rattle.awk_runtime.proofs.runtime.Runtime.set_inside.Goals as goal

pub returns-in_err-reserve_range : goal.returns-in_err-reserve_range
returns-in_err-reserve_range c =
    let p = err_from_is_err_and c.from_residual.result c.from_residual.ensures.1 in
    rw (p.1, p.2) (memory_changes _ refl refl refl (omega arith))

pub returns : goal.returns
returns c = range_set _ _ (record { names = refl; current = refl; specials = refl; globals = refl; arrays = refl; frames = refl; streams = refl; next = refl; steps = refl }) refl refl (λ m. one_set c.reserve_range.new.inside.items c.args.number m c.args.is_inside (omega (arith, c.in_ok-reserve_range.ensures.room, c.reserve_range.new.inside.ok.0)) ∙ ap (λ x. if m == c.args.number then c.args.is_inside else x) (c.in_ok-reserve_range.ensures.same m))
