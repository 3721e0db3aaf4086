use Rattle.std.proofs.Common.{Ok, Err, ◌∙◌}
use Rattle.std.proofs.lemmas.Result.{err_from_is_err_and}
use Rattle.awk_value.specs.declared.value.Value.TheVariants.{Text}
use Rattle.awk_semantics.specs.Operators.{applied}
use Rattle.awk_runtime.proofs.Steps.{still}
use Rattle.awk_runtime.proofs.TextChanges.{room, memory_beside, lift_spelled, match_test, mismatch_test}
use Rattle.awk_runtime.proofs.runtime.Runtime.matches_ere.Goals as goal

pub returns-in_err-matches-in-Matches : goal.returns-in_err-matches-in-Matches
returns-in_err-matches-in-Matches c =
    let p = err_from_is_err_and c.from_residual.result c.from_residual.ensures.1 in
    let m = c.args.self.now in
    rw (p.1, p.2, c.in-Matches.is) (match_test c.args.value.now (Err _) c.operand-pattern.ensures.spelling (room m c.matches.new.self m.formats m.spans) (c.in_err-matches-in-Matches.ensures {u = tt}))

pub returns-in_err-matches-in-NotMatches : goal.returns-in_err-matches-in-NotMatches
returns-in_err-matches-in-NotMatches c =
    let p = err_from_is_err_and c.from_residual-in_err-matches-in-NotMatches.result c.from_residual-in_err-matches-in-NotMatches.ensures.1 in
    let m = c.args.self.now in
    rw (p.1, p.2, c.in-NotMatches.is) (mismatch_test c.args.value.now (Err _) c.operand-pattern.ensures.spelling (room m c.matches-in-NotMatches.new.self m.formats m.spans) (c.in_err-matches-in-NotMatches.ensures {u = tt}))

pub returns-in_err-from_slice-in_default : goal.returns-in_err-from_slice-in_default
returns-in_err-from_slice-in_default c =
    let p = err_from_is_err_and c.from_residual-in_err-from_slice-in_default.result c.from_residual-in_err-from_slice-in_default.ensures.1 in
    rw (p.1, p.2) (memory_beside _ (still c.args.self.now))

pub returns-in_ok-matches-in-Matches : goal.returns-in_ok-matches-in-Matches
returns-in_ok-matches-in-Matches c =
    let m = c.args.self.now in
    rw (c.truth_value.ensures, c.in-Matches.is) (match_test c.args.value.now (Ok c.in_ok-matches-in-Matches.field-0) c.operand-pattern.ensures.spelling (room m c.matches.new.self m.formats m.spans) (c.in_ok-matches-in-Matches.ensures {u = tt}))

pub returns-in_ok-matches-in-NotMatches : goal.returns-in_ok-matches-in-NotMatches
returns-in_ok-matches-in-NotMatches c =
    let m = c.args.self.now in
    rw (c.truth_value-in-NotMatches.ensures, c.in-NotMatches.is) (mismatch_test c.args.value.now (Ok c.in_ok-matches-in-NotMatches.field-0) c.operand-pattern.ensures.spelling (room m c.matches-in-NotMatches.new.self m.formats m.spans) (c.in_ok-matches-in-NotMatches.ensures {u = tt}))

pub returns-in_ok-from_slice-in_default : goal.returns-in_ok-from_slice-in_default
returns-in_ok-from_slice-in_default c =
    let m = c.args.self.now in
    lift_spelled (λ p. applied c.args.operator c.args.value.now (Text p)) (c.in_ok-from_slice-in_default.ensures ∙ c.ere.ensures) (room m c.apply.new.patterns m.formats m.spans) c.apply.ensures
