use Rattle.std.proofs.Common.{◌<◌, ◌∙◌, List, length, drop, get_or, set, ap, arith}
use Rattle.awk_ere.specs.definitions.Program.{resolve}
use Rattle.awk_ere.specs.declared.program.Instruction.{Instruction}
use Rattle.awk_ere.specs.declared.program.Instruction.TheVariants as instructions
use Rattle.awk_ere.specs.support.Simulation.{act, read_off}
use Rattle.awk_ere.proofs.InstructionRuns.{registers_next, positions_next}
use Rattle.awk_ere.proofs.pattern.Pattern.step.Goals as goal

pub loop-i-preserved : goal.loop-i-preserved
loop-i-preserved c =
    let f = resolve c.as_slice-classes.result.now in
    let l = c.args.self.now.program.instructions.items in
    let all = c.as_slice-instruction-items.ensures.value in
    let st = c.args.input.start in
    let en = c.args.input.end in
    let x = c.args.input.byte in
    let i = c.loop-i.i in
    let d = instructions.Byte 0 in
    let ps = c.loop-i.positions in
    let r = read_off c.loop-i.at c.loop-i.kept in
    let at = c.step_instruction-at in
    let h = c.loop-i.invariant in
    let lt : i < length l = omega (arith, c.loop-i-test.true, ap length all) in
    let registers = at.ensures.flow ∙ ap (λ (k : List Instruction). (act st en x (f (get_or k i d)) (drop i ps) r).0) all in
    let positions = at.ensures.positions ∙ ap (λ (k : List Instruction). set ps i (act st en x (f (get_or k i d)) (drop i ps) r).1) all in
    record {
      registers = registers_next st en x f l i d ps r lt at.new.positions (read_off at.result at.new.kept) h.same registers positions h.registers;
      position_set = positions_next st en x f l i d ps r lt at.new.positions (read_off at.result at.new.kept) h.same registers positions h.position_set;
      same = omega (arith, h.same, at.auto.positions);
      room = omega (arith, h.room, at.ensures.room);
      stacked = omega (arith, at.ensures.stacked, at.auto.kept);
      full = omega (arith, h.full, at.auto.kept);
    }
