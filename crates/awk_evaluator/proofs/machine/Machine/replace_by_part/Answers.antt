use Rattle.std.proofs.Common.{◌∷◌, List, drop, ap, ◌∙◌}
use Rattle.awk_value.specs.declared.value.Value.{Value}
use Rattle.awk_evaluator.specs.declared.machine.Machine.{Machine}
use Rattle.awk_evaluator.specs.Operands.{OperandsView}
use Rattle.awk_evaluator.proofs.AppliedValues.{part_replaces, two_dropped}
use Rattle.awk_evaluator.proofs.machine.Machine.replace_by_part.Goals as goal

pub returns-then-count-eq1-clause-puts : goal.returns-then-count-eq1-clause-puts
returns-then-count-eq1-clause-puts c = λ _.
    let same = c.part_at.ensures.same in
    let replaced = c.replace.ensures ∙ ap (λ (m : Machine). record m.operands { values = c.in-Some-part_at.part ∷ drop 1 m.operands.values }) same in
    part_replaces c.in-Some.positions c.args.count c.in-Some-part_at.ensures.some c.in-Some.ensures.are (rw c.if-count-eq1.true replaced) (ap (λ (m : Machine). m.runtime.frames.callers) same) (ap (λ (m : Machine). m.runtime) same)

pub returns-clause-puts : goal.returns-clause-puts
returns-clause-puts c = λ _.
    let same = c.part_at.ensures.same in
    let part = c.in-Some-part_at.part in
    let replaced =
    c.replace-2.ensures
    ∙ ap (λ (o : OperandsView). record o { values = part ∷ drop 1 o.values }) c.pop.ensures.rest
    ∙ ap (λ (m : Machine). record m.operands { values = part ∷ drop 1 (drop 1 m.operands.values) }) same
    ∙ ap (λ (vs : List Value). record c.args.self.now.operands { values = part ∷ vs }) (two_dropped c.in-Some.positions c.args.count c.in-Some.ensures.count c.if-count-eq1.false c.args.self.now.operands.values) in
    part_replaces c.in-Some.positions c.args.count c.in-Some-part_at.ensures.some c.in-Some.ensures.are replaced (ap (λ (m : Machine). m.runtime.frames.callers) same) (ap (λ (m : Machine). m.runtime) same)
