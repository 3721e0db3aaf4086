use Rattle.std.proofs.Common.{refl}
use Rattle.std.proofs.lemmas.Result.{err_from_is_err_and}
use Rattle.awk_semantics.specs.Streams.{NoRecord, NotReadable}
use Rattle.awk_runtime.proofs.Composition.{lift_changes}
use Rattle.awk_runtime.proofs.Received.{named_fails, named_gets}
use Rattle.awk_runtime.proofs.runtime.Runtime.named_getline_at.Goals as goal

pub returns-in_err-text-clause-follows : goal.returns-in_err-text-clause-follows
returns-in_err-text-clause-follows g c =
    let p = err_from_is_err_and c.from_residual.result c.from_residual.ensures.1 in
    rw (p.1, p.2) (named_fails _ _ _ _ c.in_err-text.ensures.follows)

pub returns-in-Record-clause-follows : goal.returns-in-Record-clause-follows
returns-in-Record-clause-follows g c = named_gets _ _ _ _ _ (rw c.in-Record.is at c.in_ok-text.ensures.follows) c.receive_named.ensures

pub returns-in-End-clause-follows : goal.returns-in-End-clause-follows
returns-in-End-clause-follows g c = named_gets _ _ _ _ NoRecord (rw c.in-End.is at c.in_ok-text.ensures.follows) (lift_changes _ _ refl)

pub returns-in-NotReadable-clause-follows : goal.returns-in-NotReadable-clause-follows
returns-in-NotReadable-clause-follows g c = named_gets _ _ _ _ NotReadable (rw c.in-NotReadable.is at c.in_ok-text.ensures.follows) (lift_changes _ _ refl)
