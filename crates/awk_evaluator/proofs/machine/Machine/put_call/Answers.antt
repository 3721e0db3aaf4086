use Rattle.std.proofs.Common.{refl, ◌≡◌, rules}
use Rattle.awk_evaluator.proofs.Moving.{halts}
use Rattle.awk_evaluator.proofs.CallMoves.{call_on, call_ends}
use Rattle.awk_evaluator.proofs.machine.Machine.put_call.Goals as goal

pub returns-in-Ok-clause-moves : goal.returns-in-Ok-clause-moves
returns-in-Ok-clause-moves g c = let same : c.as_slice.result.now ≡ c.args.forms.now.items = search rules in call_on c.function_of.ensures c.requires.calls (rw same at c.in-Ok.ensures)

pub returns-in-Err-clause-moves : goal.returns-in-Err-clause-moves
returns-in-Err-clause-moves g c = rw (c.halt_by.ensures.halted, c.halt_by.ensures.kept) (let same : c.as_slice.result.now ≡ c.args.forms.now.items = search rules in halts (call_ends c.function_of.ensures c.requires.calls (rw same at c.in-Err.ensures)) refl refl)
