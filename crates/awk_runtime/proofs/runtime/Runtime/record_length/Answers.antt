use Rattle.std.proofs.Common.{refl, ap, ◌∙◌, pos, length, arith}
use Rattle.std.proofs.lemmas.Result.{err_from_is_err_and}
use Rattle.awk_value.specs.declared.value.Value.TheVariants.{Number}
use Rattle.awk_runtime.proofs.Composition.{memory_changes}
use Rattle.awk_runtime.proofs.Words.{length_changes}
use Rattle.awk_runtime.proofs.runtime.Runtime.record_length.Goals as goal

pub returns-in_err-text : goal.returns-in_err-text
returns-in_err-text c =
    let p = err_from_is_err_and c.from_residual.result c.from_residual.ensures.1 in
    rw (p.1, p.2, c.in_err-text.ensures.memory) (memory_changes _ refl refl refl (omega arith))

pub returns : goal.returns
returns c = length_changes (record { beside = record { names = refl; current = c.in_ok-text.ensures.same; specials = refl; globals = refl; arrays = refl; frames = refl; next = refl; input_seen = refl; inside = refl; status = refl; steps = refl }; streams = refl }) (c.count_value.ensures ∙ ap (λ n. Number (pos n)) (c.len.ensures ∙ ap length c.in_ok-text.ensures.text))
