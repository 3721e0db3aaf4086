use Rattle.std.proofs.Common.{◌≡◌, drop}
use Rattle.awk_evaluator.proofs.Appending.{JoinsBehind}
use Rattle.awk_evaluator.proofs.machine.Machine.join_at_hand.Given as goal

abbrev pub invariant-loop-part : goal.invariant-loop-part
invariant-loop-part l = (l.self ≡ l.fn.self) × JoinsBehind l.parts (drop l.part-index l.parts) l.fn.self l.fn.text.items l.text.items
