use Rattle.std.proofs.Common.{Ok, Err, refl}
use Rattle.awk_semantics.specs.Operators.{truth_value}
use Rattle.awk_evaluator.proofs.Joining.{record_matched}
use Rattle.awk_evaluator.proofs.Quickly.{truth_is}
use Rattle.awk_evaluator.proofs.machine.Machine.match_record.Goals as goal

pub returns-in-Ok : goal.returns-in-Ok
returns-in-Ok c = record { compares = (truth_value c.in-Ok.holds, truth_is c.in-Ok.holds, record_matched c.args.ere (Ok _) refl c.in-Ok.ensures.callers c.in-Ok.ensures) }

pub returns-in-Err : goal.returns-in-Err
returns-in-Err c = record { compares = record_matched c.args.ere (Err _) refl c.in-Err.ensures.callers c.in-Err.ensures }
