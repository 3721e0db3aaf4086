use Rattle.std.proofs.Common.{◌+◌, ◌-◌, ◌≤◌, drop, arith}
use Rattle.std.proofs.lemmas.List.{take-take}
use Rattle.awk_value.proofs.CutOfCut.{drop_of_take}
use Rattle.awk_value.proofs.short.ShortBytes.cut.Goals as goal

pub returns : goal.returns
returns c =
    let few : c.args.to - c.args.from ≤ c.args.from + 16 - c.args.from = omega arith in
    let part = take-take (c.args.to - c.args.from) (c.args.from + 16 - c.args.from) (drop c.args.from c.args.memory.now) few in
    let cut = drop_of_take c.args.memory.now c.args.from c.args.to c.requires.ordered in
    rw c.copy_from_slice.ensures.after (rw part cut)
