use Rattle.std.proofs.Common.{Ok, Err}
use Rattle.std.proofs.lemmas.Result.{err_from_is_err_and}
use Rattle.awk_ere.specs.Means.{pattern_of}
use Rattle.awk_functions.specs.declared.compiled.Compiled.{Compiled}
use Rattle.awk_functions.proofs.ReadsFor.{means_of, refused_for}
use Rattle.awk_functions.proofs.compiled.Compiled.read.Goals as goal

pub returns-in_err-pattern : goal.returns-in_err-pattern
returns-in_err-pattern c =
    let p = err_from_is_err_and c.from_residual.result c.from_residual.ensures.1 in
    rw p.1 (refused_for c.args.text (λ (x : Compiled). x.text) c.in_err-pattern.field-0.0 p.0 (c.read_law.ensures c.args.text (Err c.in_err-pattern.field-0.0) tt (rw c.as_slice.ensures at c.in_err-pattern.ensures.refused)) p.2)

pub invariant_of-result : goal.invariant_of-result
invariant_of-result c =
    let m = means_of c.in_ok-pattern.pattern (pattern_of c.args.text) (c.read_law.ensures c.args.text (Ok c.in_ok-pattern.pattern) (rw c.as_slice.ensures at c.in_ok-pattern.ensures.found) tt) in
    record {
      means = ∣ m ∣₁;
      fits = rw c.in_ok-scratch.ensures.ok c.in_ok-searches.ensures;
    }
