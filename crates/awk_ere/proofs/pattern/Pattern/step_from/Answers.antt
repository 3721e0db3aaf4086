use Rattle.std.proofs.Common.{ap, ◌∙◌}
use Rattle.std.specs.Prelude.{nat_eq}
use Rattle.awk_ere.specs.support.SimulationStep.{leaves, behind}
use Rattle.awk_ere.specs.support.Table.{state_number}
use Rattle.awk_ere.proofs.TableKept.{start_of, positions_of}
use Rattle.awk_ere.proofs.pattern.Pattern.step_from.Goals as goal

pub returns-clause-leaves : goal.returns-clause-leaves
returns-clause-leaves c = λ st cs h.
    let p = c.args.self.now in
    let tb = c.args.scratch.now.table in
    let start = start_of p tb c.args.state st cs h in
    let positions = c.load.ensures.positions ∙ positions_of p tb c.args.state st cs h _ c.requires.same.position_set.positions in
    c.step.ensures.leaves
    ∙ ap (λ l. leaves p l (nat_eq (state_number c.args.state) 0) c.args.entering c.args.end c.args.byte) positions
    ∙ ap (λ b. leaves p cs b c.args.entering c.args.end c.args.byte) start

pub returns-clause-positions : goal.returns-clause-positions
returns-clause-positions c = λ st cs h.
    let p = c.args.self.now in
    let tb = c.args.scratch.now.table in
    let start = start_of p tb c.args.state st cs h in
    let positions = c.load.ensures.positions ∙ positions_of p tb c.args.state st cs h _ c.requires.same.position_set.positions in
    c.step.ensures.positions
    ∙ ap (λ l. behind p l (nat_eq (state_number c.args.state) 0) c.args.entering c.args.end c.args.byte) positions
    ∙ ap (λ b. behind p cs b c.args.entering c.args.end c.args.byte) start
