use Rattle.std.proofs.Common.{refl, arith}
use Rattle.std.proofs.lemmas.Result.{err_from_is_err_and}
use Rattle.awk_runtime.proofs.Composition.{memory_changes}
use Rattle.awk_runtime.proofs.Words.{record_changes, accepted_rule}
use Rattle.awk_runtime.proofs.runtime.Runtime.set_record.Goals as goal

pub returns : goal.returns
returns c = record_changes _ _ (λ i. record { text = c.field_separator-separator.ensures.text i; newline_too = c.newlines_separate-newline_too.ensures i }) c.in_ok-set_text.ensures.ok (record { names = refl; specials = refl; globals = refl; arrays = refl; frames = refl; streams = refl; next = refl; input_seen = refl; inside = refl; status = refl; steps = refl })

pub returns-in_err-set_text : goal.returns-in_err-set_text
returns-in_err-set_text c =
    let p = err_from_is_err_and c.from_residual.result c.from_residual.ensures.1 in
    rw (p.1, p.2, accepted_rule c.in_err-set_text.field-0.0 _ c.in_err-set_text.ensures.refused c.field_separator-separator.ensures.accepted) (memory_changes _ refl refl refl (omega arith))
