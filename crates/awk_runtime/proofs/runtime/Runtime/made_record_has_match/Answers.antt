use Rattle.std.proofs.Common.{◌∙◌}
use Rattle.std.proofs.lemmas.Result.{err_from_is_err_and}
use Rattle.awk_runtime.proofs.Steps.{still}
use Rattle.awk_runtime.proofs.TextChanges.{room, memory_beside, record_tests}
use Rattle.awk_runtime.proofs.runtime.Runtime.made_record_has_match.Goals as goal

pub returns-in_err-text : goal.returns-in_err-text
returns-in_err-text c =
    let p = err_from_is_err_and c.from_residual.result c.from_residual.ensures.1 in
    rw (p.1, p.2, c.in_err-text.ensures.memory, c.text.ensures.same) (memory_beside _ (still c.args.self.now))

pub returns : goal.returns
returns c =
    let m = c.args.self.now in
    rw c.text.ensures.same (record_tests c.matches_text.result c.operand-pattern.ensures.spelling (room m c.matches_text.new.self m.formats m.spans) (c.as_slice.ensures ∙ c.in_ok-text.ensures.text) c.matches_text.ensures)
