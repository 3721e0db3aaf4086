use Rattle.std.proofs.Common.{◌+◌, List, drop, ◌∙◌, subst, append-nil}
use Rattle.std.proofs.lemmas.List.{drop_all}
use Rattle.awk_resolve.specs.declared.node.Operand.{Operand}
use Rattle.awk_resolve.specs.Nodes.{operand_value}
use Rattle.awk_runtime.specs.Lines.{AppendsText}
use Rattle.awk_evaluator.specs.declared.machine.Machine.{Machine}
use Rattle.awk_evaluator.proofs.Appending.{JoinsBehind, next_left, one_joined, all_joined}
use Rattle.awk_evaluator.proofs.machine.Machine.join_at_hand.Goals as goal

pub loop-part-preserved : goal.loop-part-preserved
loop-part-preserved c =
    let all = c.args.parts.now in
    let m = c.args.self.now in
    let first = c.args.text.now.items in
    let behind = subst (λ (l : List Operand). JoinsBehind all l m first c.loop-part.text.items) (next_left all c.loop-part.part-index c.part-item.result c.loop-part-test.true c.part-item.is) c.loop-part.invariant.1 in
    let added = subst (λ (x : Machine). AppendsText (operand_value x.runtime.names.scalars c.part-item.result) x.runtime c.loop-part.text.items c.join_operand.new.line.items) c.loop-part.invariant.0 (c.join_operand.ensures.appends c.if-not-join_operand.false) in
    (c.join_operand.ensures.same ∙ c.loop-part.invariant.0, one_joined all c.part-item.result (drop (c.loop-part.part-index + 1) all) m first c.loop-part.text.items behind added)

pub returns-clause-joined : goal.returns-clause-joined
returns-clause-joined c = λ _.
    let all = c.args.parts.now in
    let m = c.args.self.now in
    let first = c.args.text.now.items in
    let behind = subst (λ (l : List Operand). JoinsBehind all l m first c.loop-part.text.items) (drop_all c.loop-part.part-index all c.loop-part-test.false) c.loop-part.invariant.1 in
    rw append-nil at (all_joined all m first c.loop-part.text.items behind)
