use Rattle.awk_runtime.proofs.Composition.{ready_behind}
use Rattle.awk_evaluator.proofs.Changing.{ready_compared, ready_asked}
use Rattle.awk_evaluator.proofs.Moving.{returns_value, returns_nothing}
use Rattle.awk_evaluator.proofs.NodeMoves.{effect_moves, spend_moves, print_moves, ask_moves, update_moves, increment_moves, assign_moves, append_operands_moves, match_moves, compare_moves, compare_with_moves, again_moves, ready_done, ready_left, ready_given}
use Rattle.awk_evaluator.proofs.machine.Machine.make_move.Goals as goal

pub put_value-requires-clause-calls : goal.put_value-requires-clause-calls
put_value-requires-clause-calls g c = rw c.in-Value.is at c.requires.calls

pub returns-in-Value : goal.returns-in-Value
returns-in-Value g c = rw c.in-Value.is (record { ready = c.put_value.ensures.ready; moves = c.put_value.ensures.moves })

pub returns-in-Effect : goal.returns-in-Effect
returns-in-Effect g c = rw (c.onward.ensures, c.in-Effect.is) (record { ready = c.perform.ensures.ready; moves = effect_moves c.perform.result c.perform.ensures.performs })

pub returns-in-Spend : goal.returns-in-Spend
returns-in-Spend g c = rw (c.onward-in-Spend.ensures, c.in-Spend.is) (record { ready = ready_behind c.spend.ensures.spends.changes c.requires.ready; moves = spend_moves c.spend.result c.spend.ensures.operands c.spend.ensures.spends })

pub returns-in-Test : goal.returns-in-Test
returns-in-Test g c = rw (c.toward.ensures, c.in-Test.is) (record { ready = ready_asked c.ask.ensures c.requires.ready; moves = ask_moves c.ask.result c.ask.ensures })

pub returns-in-CompareWith : goal.returns-in-CompareWith
returns-in-CompareWith g c = rw (c.compare_with.ensures.leads, c.in-CompareWith.is) (record { ready = ready_compared c.compare_with.ensures.compares c.requires.ready; moves = compare_with_moves c.compare_with.ensures.holds c.compare_with.ensures.compares })

pub returns-in-Compare : goal.returns-in-Compare
returns-in-Compare g c = rw (c.compare.ensures.leads, c.in-Compare.is) (record { ready = ready_compared c.compare.ensures.compares c.requires.ready; moves = compare_moves c.compare.ensures.holds c.compare.ensures.compares })

pub returns-in-Match : goal.returns-in-Match
returns-in-Match g c = rw (c.toward-in-Match.ensures, c.in-Match.is) (record { ready = ready_compared c.match_operand.ensures c.requires.ready; moves = match_moves c.match_operand.result c.match_operand.ensures })

pub returns-in-Assign : goal.returns-in-Assign
returns-in-Assign g c = rw (c.onward-in-Assign.ensures, c.in-Assign.is) (record { ready = ready_done c.assign_to.result c.assign_to.ensures c.requires.ready; moves = assign_moves c.assign_to.result c.assign_to.ensures })

pub returns-in-Update : goal.returns-in-Update
returns-in-Update g c = rw (c.onward-in-Update.ensures, c.in-Update.is) (record { ready = ready_left c.update.result c.update.ensures c.requires.ready; moves = update_moves c.update.result c.update.ensures })

pub returns-in-Increment : goal.returns-in-Increment
returns-in-Increment g c = rw (c.onward-in-Increment.ensures, c.in-Increment.is) (record { ready = ready_left c.increment.result c.increment.ensures c.requires.ready; moves = increment_moves c.increment.result c.increment.ensures })

pub returns-in-AppendOperands : goal.returns-in-AppendOperands
returns-in-AppendOperands g c = rw (c.onward-in-AppendOperands.ensures, c.in-AppendOperands.is) (record { ready = ready_left c.append_operands.result c.append_operands.ensures c.requires.ready; moves = append_operands_moves c.append_operands.result (rw c.deref.ensures.value at c.append_operands.ensures) })

pub returns-in-Print : goal.returns-in-Print
returns-in-Print g c = rw (c.onward-in-Print.ensures, c.in-Print.is) (record { ready = c.print_by_step.ensures.ready; moves = print_moves c.print_by_step.result (rw c.deref-in-Print.ensures.value at c.print_by_step.ensures.prints) })

pub returns-in-Again : goal.returns-in-Again
returns-in-Again g c = rw (c.upward.ensures, c.in-Again.is) (record { ready = ready_behind c.spend-in-Again.ensures.spends.changes c.requires.ready; moves = again_moves c.spend-in-Again.result c.head_of-head.ensures c.spend-in-Again.ensures.operands c.spend-in-Again.ensures.spends.changes.callers c.spend-in-Again.ensures.spends })

pub returns-in-Return : goal.returns-in-Return
returns-in-Return g c = rw c.in-Return.is (record { ready = ready_given c.give_back.result c.give_back.ensures c.requires.ready; moves = returns_value c.give_back.ensures })

pub returns-in-End : goal.returns-in-End
returns-in-End g c = rw c.in-End.is (record { ready = ready_given c.give_nothing.result c.give_nothing.ensures c.requires.ready; moves = returns_nothing c.give_nothing.ensures })
