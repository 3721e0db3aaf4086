use Rattle.awk_runtime.specs.declared.runtime.Runtime.{Runtime}
use Rattle.std.proofs.Common.{refl, sym, ap, ◌∙◌}
use Rattle.awk_runtime.proofs.Composition.{ready_behind}
use Rattle.awk_evaluator.proofs.Moving.{key_exit, walk_left, ending_stops, zero_test, no_zero_test}
use Rattle.awk_evaluator.proofs.NodeMoves.{append_moves, raise_moves, walk_moves, key_moves, turn_moves, ready_appended, ready_done, ready_put}
use Rattle.awk_evaluator.proofs.machine.Machine.make_rare_move.Goals as goal

pub returns-in-AppendTo : goal.returns-in-AppendTo
returns-in-AppendTo g c = rw (c.onward.ensures, c.in-AppendTo.is) (record { ready = ready_appended c.append_texts.result c.append_texts.ensures c.requires.ready; moves = append_moves c.append_texts.result c.append_texts.ensures })

pub returns-in-Raise : goal.returns-in-Raise
returns-in-Raise g c = rw (c.onward-in-Raise.ensures, c.in-Raise.is) (record { ready = ready_done c.raise.result c.raise.ensures c.requires.ready; moves = raise_moves c.raise.result c.raise.ensures })

pub returns-in-Walk : goal.returns-in-Walk
returns-in-Walk g c = rw (c.onward-in-Walk.ensures, c.in-Walk.is) (record { ready = ready_put c.begin_walk.result c.begin_walk.ensures c.requires.ready; moves = walk_moves c.begin_walk.result c.begin_walk.ensures })

pub returns-then-has_no_key-clause-moves : goal.returns-then-has_no_key-clause-moves
returns-then-has_no_key-clause-moves g c = rw c.in-NextKey.is (key_exit (zero_test _ (sym c.has_no_key.ensures ∙ c.if-has_no_key.true)) c.drop.ensures refl refl)

pub returns-in-TakeKey : goal.returns-in-TakeKey
returns-in-TakeKey g c = rw (c.onward-in-TakeKey.ensures, c.in-TakeKey.is) (record { ready = ready_behind c.take_key.ensures.changes c.requires.ready; moves = key_moves c.take_key.result c.take_key.ensures })

pub returns-in-LeaveWalk-clause-moves : goal.returns-in-LeaveWalk-clause-moves
returns-in-LeaveWalk-clause-moves g c = rw c.in-LeaveWalk.is (walk_left c.leave_walk.ensures.operands (ap (λ (r : Runtime). r.frames.callers) c.leave_walk.ensures.runtime) c.leave_walk.ensures.runtime)

pub returns-in-Stop-clause-moves : goal.returns-in-Stop-clause-moves
returns-in-Stop-clause-moves g c = rw (c.halt_by.ensures.halted, c.halt_by.ensures.kept, c.in-Stop.is) (ending_stops _ refl c.halt_of.ensures)

pub returns-else-has_no_key-clause-moves : goal.returns-else-has_no_key-clause-moves
returns-else-has_no_key-clause-moves g c = rw (c.upward.ensures, c.in-NextKey.is) (turn_moves c.spend.result (no_zero_test _ (sym c.has_no_key.ensures ∙ c.if-has_no_key.false)) c.head_of-head.ensures c.spend.ensures.operands c.spend.ensures.spends.changes.callers c.spend.ensures.spends)
