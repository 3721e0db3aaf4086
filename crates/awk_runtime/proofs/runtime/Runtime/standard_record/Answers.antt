use Rattle.std.proofs.lemmas.Result.{err_from_is_err_and}
use Rattle.awk_runtime.proofs.Composition.{memory_simulates}
use Rattle.awk_runtime.proofs.Seeks.{want_seen, want_unnamed, want_seeks}
use Rattle.awk_runtime.proofs.runtime.Runtime.standard_record.Goals as goal

pub returns-then-self-clause-seeks : goal.returns-then-self-clause-seeks
returns-then-self-clause-seeks g c = want_seen c.if-self.true c.requires.none

pub returns-in_err-name-clause-seeks : goal.returns-in_err-name-clause-seeks
returns-in_err-name-clause-seeks g c =
    let p = err_from_is_err_and c.from_residual.result c.from_residual.ensures.1 in
    rw (p.1, p.2) (want_unnamed (memory_simulates _ _ _))

pub returns-clause-seeks : goal.returns-clause-seeks
returns-clause-seeks g c = want_seeks c.if-self.false (rw (c.in_ok-name.ensures {u = tt}) at c.first_record.ensures.seeks)
