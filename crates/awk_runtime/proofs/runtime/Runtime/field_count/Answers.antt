use Rattle.std.proofs.Common.{refl, ap, ◌∙◌, pos, arith}
use Rattle.std.proofs.lemmas.Result.{err_from_is_err_and}
use Rattle.awk_value.specs.declared.value.Value.TheVariants.{Number}
use Rattle.awk_runtime.proofs.Composition.{memory_changes}
use Rattle.awk_runtime.proofs.Words.{nf_read}
use Rattle.awk_runtime.proofs.runtime.Runtime.field_count.Goals as goal

pub returns-in_err-count : goal.returns-in_err-count
returns-in_err-count c =
    let p = err_from_is_err_and c.from_residual.result c.from_residual.ensures.1 in
    rw (p.1, p.2, c.in_err-count.ensures.memory) (memory_changes _ refl refl refl (omega arith))

pub returns : goal.returns
returns c = nf_read (record { beside = record { names = refl; current = c.in_ok-count.ensures.same; specials = refl; globals = refl; arrays = refl; frames = refl; next = refl; input_seen = refl; inside = refl; status = refl; steps = refl }; streams = refl }) (c.count_value.ensures ∙ ap (λ n. Number (pos n)) c.in_ok-count.ensures.count)
