use Rattle.awk_evaluator.proofs.Computing.{computed_ready, computed_evaluates}
use Rattle.awk_evaluator.proofs.Keys.{raises_computes}
use Rattle.awk_evaluator.proofs.machine.Machine.evaluate.Goals as goal

pub returns-in-Put-clause-ready : goal.returns-in-Put-clause-ready
returns-in-Put-clause-ready g c = computed_ready c.operand.ensures c.requires.ready

pub returns-in-Put-clause-evaluates : goal.returns-in-Put-clause-evaluates
returns-in-Put-clause-evaluates g c = rw c.in-Put.is (computed_evaluates c.operand.ensures)

pub returns-in-Operate-clause-ready : goal.returns-in-Operate-clause-ready
returns-in-Operate-clause-ready g c = computed_ready c.operate.ensures c.requires.ready

pub returns-in-Operate-clause-evaluates : goal.returns-in-Operate-clause-evaluates
returns-in-Operate-clause-evaluates g c = rw c.in-Operate.is (computed_evaluates c.operate.ensures)

pub returns-in-OperateWith-clause-ready : goal.returns-in-OperateWith-clause-ready
returns-in-OperateWith-clause-ready g c = computed_ready c.operate_with.ensures c.requires.ready

pub returns-in-OperateWith-clause-evaluates : goal.returns-in-OperateWith-clause-evaluates
returns-in-OperateWith-clause-evaluates g c = rw c.in-OperateWith.is (computed_evaluates c.operate_with.ensures)

pub returns-in-OperateOn-clause-ready : goal.returns-in-OperateOn-clause-ready
returns-in-OperateOn-clause-ready g c = computed_ready c.operate_on.ensures c.requires.ready

pub returns-in-OperateOn-clause-evaluates : goal.returns-in-OperateOn-clause-evaluates
returns-in-OperateOn-clause-evaluates g c = rw c.in-OperateOn.is (computed_evaluates c.operate_on.ensures)

pub returns-in-Change-clause-ready : goal.returns-in-Change-clause-ready
returns-in-Change-clause-ready g c = computed_ready c.change.ensures c.requires.ready

pub returns-in-Change-clause-evaluates : goal.returns-in-Change-clause-evaluates
returns-in-Change-clause-evaluates g c = rw c.in-Change.is (computed_evaluates c.change.ensures)

pub returns-in-ReadField-clause-ready : goal.returns-in-ReadField-clause-ready
returns-in-ReadField-clause-ready g c = computed_ready c.field.ensures c.requires.ready

pub returns-in-ReadField-clause-evaluates : goal.returns-in-ReadField-clause-evaluates
returns-in-ReadField-clause-evaluates g c = rw c.in-ReadField.is (computed_evaluates c.field.ensures)

pub returns-in-ConcatenateAll-clause-ready : goal.returns-in-ConcatenateAll-clause-ready
returns-in-ConcatenateAll-clause-ready g c = computed_ready c.concatenate_all.ensures c.requires.ready

pub returns-in-ConcatenateAll-clause-evaluates : goal.returns-in-ConcatenateAll-clause-evaluates
returns-in-ConcatenateAll-clause-evaluates g c = rw c.in-ConcatenateAll.is (computed_evaluates c.concatenate_all.ensures)

pub returns-in-ReadElement-clause-ready : goal.returns-in-ReadElement-clause-ready
returns-in-ReadElement-clause-ready g c = computed_ready c.element.ensures c.requires.ready

pub returns-in-ReadElement-clause-evaluates : goal.returns-in-ReadElement-clause-evaluates
returns-in-ReadElement-clause-evaluates g c = rw c.in-ReadElement.is (computed_evaluates c.element.ensures)

pub returns-in-Append-clause-ready : goal.returns-in-Append-clause-ready
returns-in-Append-clause-ready g c = computed_ready c.append.ensures c.requires.ready

pub returns-in-Append-clause-evaluates : goal.returns-in-Append-clause-evaluates
returns-in-Append-clause-evaluates g c = rw c.in-Append.is (computed_evaluates c.append.ensures)

pub returns-in-Assign-clause-ready : goal.returns-in-Assign-clause-ready
returns-in-Assign-clause-ready g c = computed_ready c.assign.ensures c.requires.ready

pub returns-in-Assign-clause-evaluates : goal.returns-in-Assign-clause-evaluates
returns-in-Assign-clause-evaluates g c = rw c.in-Assign.is (computed_evaluates c.assign.ensures)

pub returns-in-PreIncrement-clause-ready : goal.returns-in-PreIncrement-clause-ready
returns-in-PreIncrement-clause-ready g c = computed_ready c.pre_increment.ensures c.requires.ready

pub returns-in-PreIncrement-clause-evaluates : goal.returns-in-PreIncrement-clause-evaluates
returns-in-PreIncrement-clause-evaluates g c = rw c.in-PreIncrement.is (computed_evaluates c.pre_increment.ensures)

pub returns-in-PostIncrement-clause-ready : goal.returns-in-PostIncrement-clause-ready
returns-in-PostIncrement-clause-ready g c = computed_ready c.post_increment.ensures c.requires.ready

pub returns-in-PostIncrement-clause-evaluates : goal.returns-in-PostIncrement-clause-evaluates
returns-in-PostIncrement-clause-evaluates g c = rw c.in-PostIncrement.is (computed_evaluates c.post_increment.ensures)

pub returns-in-PostIncrementAt-clause-evaluates : goal.returns-in-PostIncrementAt-clause-evaluates
returns-in-PostIncrementAt-clause-evaluates g c = rw c.in-PostIncrementAt.is (computed_evaluates (raises_computes c.in-PostIncrementAt.operator c.in-PostIncrementAt.target _ c.post_increment_at.ensures))

pub returns-in-Matches-clause-ready : goal.returns-in-Matches-clause-ready
returns-in-Matches-clause-ready g c = computed_ready c.matches.ensures c.requires.ready

pub returns-in-Matches-clause-evaluates : goal.returns-in-Matches-clause-evaluates
returns-in-Matches-clause-evaluates g c = rw c.in-Matches.is (computed_evaluates c.matches.ensures)

pub returns-in-MatchesEre-clause-ready : goal.returns-in-MatchesEre-clause-ready
returns-in-MatchesEre-clause-ready g c = computed_ready c.matches_ere.ensures c.requires.ready

pub returns-in-MatchesEre-clause-evaluates : goal.returns-in-MatchesEre-clause-evaluates
returns-in-MatchesEre-clause-evaluates g c = rw c.in-MatchesEre.is (computed_evaluates c.matches_ere.ensures)

pub returns-in-Contains-clause-ready : goal.returns-in-Contains-clause-ready
returns-in-Contains-clause-ready g c = computed_ready c.contains.ensures c.requires.ready

pub returns-in-Contains-clause-evaluates : goal.returns-in-Contains-clause-evaluates
returns-in-Contains-clause-evaluates g c = rw c.in-Contains.is (computed_evaluates c.contains.ensures)

pub returns-in-Key-clause-ready : goal.returns-in-Key-clause-ready
returns-in-Key-clause-ready g c = computed_ready c.key.ensures c.requires.ready

pub returns-in-Key-clause-evaluates : goal.returns-in-Key-clause-evaluates
returns-in-Key-clause-evaluates g c = rw c.in-Key.is (computed_evaluates c.key.ensures)

pub returns-in-FieldNumber-clause-ready : goal.returns-in-FieldNumber-clause-ready
returns-in-FieldNumber-clause-ready g c = computed_ready c.field_number.ensures c.requires.ready

pub returns-in-FieldNumber-clause-evaluates : goal.returns-in-FieldNumber-clause-evaluates
returns-in-FieldNumber-clause-evaluates g c = rw c.in-FieldNumber.is (computed_evaluates c.field_number.ensures)

pub returns-in-Load-clause-ready : goal.returns-in-Load-clause-ready
returns-in-Load-clause-ready g c = computed_ready c.load.ensures c.requires.ready

pub returns-in-Load-clause-evaluates : goal.returns-in-Load-clause-evaluates
returns-in-Load-clause-evaluates g c = rw c.in-Load.is (computed_evaluates c.load.ensures)

pub returns-in-RecordLength-clause-ready : goal.returns-in-RecordLength-clause-ready
returns-in-RecordLength-clause-ready g c = computed_ready c.record_length.ensures c.requires.ready

pub returns-in-RecordLength-clause-evaluates : goal.returns-in-RecordLength-clause-evaluates
returns-in-RecordLength-clause-evaluates g c = rw c.in-RecordLength.is (computed_evaluates c.record_length.ensures)

pub returns-in-CountElements-clause-ready : goal.returns-in-CountElements-clause-ready
returns-in-CountElements-clause-ready g c = computed_ready c.count_elements.ensures c.requires.ready

pub returns-in-CountElements-clause-evaluates : goal.returns-in-CountElements-clause-evaluates
returns-in-CountElements-clause-evaluates g c = rw c.in-CountElements.is (computed_evaluates c.count_elements.ensures)

pub returns-in-Apply-clause-ready : goal.returns-in-Apply-clause-ready
returns-in-Apply-clause-ready g c = computed_ready c.apply_function.ensures c.requires.ready

pub returns-in-Apply-clause-evaluates : goal.returns-in-Apply-clause-evaluates
returns-in-Apply-clause-evaluates g c = rw c.in-Apply.is (computed_evaluates c.apply_function.ensures)

pub returns-in-ApplyTo-clause-ready : goal.returns-in-ApplyTo-clause-ready
returns-in-ApplyTo-clause-ready g c = computed_ready c.apply_to.ensures c.requires.ready

pub returns-in-ApplyTo-clause-evaluates : goal.returns-in-ApplyTo-clause-evaluates
returns-in-ApplyTo-clause-evaluates g c = rw c.in-ApplyTo.is (computed_evaluates c.apply_to.ensures)

pub returns-in-Match-clause-ready : goal.returns-in-Match-clause-ready
returns-in-Match-clause-ready g c = computed_ready c.match_in.ensures c.requires.ready

pub returns-in-Match-clause-evaluates : goal.returns-in-Match-clause-evaluates
returns-in-Match-clause-evaluates g c = rw c.in-Match.is (computed_evaluates c.match_in.ensures)

pub returns-in-Split-clause-ready : goal.returns-in-Split-clause-ready
returns-in-Split-clause-ready g c = computed_ready c.split.ensures c.requires.ready

pub returns-in-Split-clause-evaluates : goal.returns-in-Split-clause-evaluates
returns-in-Split-clause-evaluates g c = rw c.in-Split.is (computed_evaluates c.split.ensures)

pub returns-in-Substitute-clause-ready : goal.returns-in-Substitute-clause-ready
returns-in-Substitute-clause-ready g c = computed_ready c.substitute.ensures c.requires.ready

pub returns-in-Substitute-clause-evaluates : goal.returns-in-Substitute-clause-evaluates
returns-in-Substitute-clause-evaluates g c = rw c.in-Substitute.is (computed_evaluates c.substitute.ensures)

pub returns-in-Getline-clause-evaluates : goal.returns-in-Getline-clause-evaluates
returns-in-Getline-clause-evaluates g c = rw c.in-Getline.is c.getline.ensures.evaluates

pub returns-in-Outside-clause-evaluates : goal.returns-in-Outside-clause-evaluates
returns-in-Outside-clause-evaluates g c = rw c.in-Outside.is c.call_outside.ensures.evaluates
