use Rattle.std.proofs.Common.{◌⊎◌, ◌≡◌, subst}
use Rattle.std.proofs.lemmas.Result.{err_from_is_err_and}
use Rattle.awk_lex.specs.Refused.{IsOutOfMemory}
use Rattle.awk_syntax.specs.definitions.Patterns.{PatternFails}
use Rattle.awk_syntax.proofs.LeftmostRefused.{first_refused, readable_next, ere_readable, other_readable}
use Rattle.awk_syntax.proofs.patterns.check_patterns.Goals.{in-Ere+in_ok-check_pattern, in_default}
use Rattle.awk_syntax.proofs.patterns.check_patterns.Goals as goal

pub returns-in_err-check_pattern-clause-refused : goal.returns-in_err-check_pattern-clause-refused
returns-in_err-check_pattern-clause-refused c =
    let p = err_from_is_err_and c.from_residual.result c.from_residual.ensures.1 in
    let r = c.in_err-check_pattern.field-0.0 in
    let f = subst (λ text. IsOutOfMemory r ⊎ (PatternFails r.code text × (r.line ≡ c.token-item.result.line))) c.as_slice.ensures c.in_err-check_pattern.ensures.refused in
    rw (p.1, p.2) (first_refused r c.args.tokens.now c.loop-token.token-index c.token-item.result c.in-Ere.text c.loop-token-test.true c.token-item.is c.in-Ere.is c.loop-token.invariant f)

pub loop-token-preserved : goal.loop-token-preserved
loop-token-preserved c =
    let more = readable_next c.args.tokens.now c.loop-token.token-index c.token-item.result c.loop-token-test.true c.token-item.is c.loop-token.invariant in
    elim c.match-token.branch [
      | in-Ere+in_ok-check_pattern w ↦ more (ere_readable c.token-item.result.kind w.in-Ere.text w.as_slice.result.now w.in-Ere.is w.as_slice.ensures w.in_ok-check_pattern.ensures.readable)
      | in_default w ↦ more (other_readable c.token-item.result.kind w.in_default.not-Ere)
    ]
