use Rattle.std.proofs.Common.{◌<◌, ◌+◌, w64, arith}
use Rattle.std.specs.Int.{trailing_zeros}
use Rattle.awk_text.proofs.MarksLeft.{lowest_within, next_of_left, left_behind}
use Rattle.awk_text.proofs.marks.Marks.take.Goals as goal

pub overflow_add-place : goal.overflow_add-place
overflow_add-place c =
    let left = c.args.self.now in
    let within : left.base + trailing_zeros w64 left.bits < left.end = lowest_within c.requires.left.0 c.requires.left.1 left c.requires.left.2 c.requires.some (omega arith) in
    record { fits = omega arith }

pub returns-clause-next : goal.returns-clause-next
returns-clause-next c = λ test from are. next_of_left test from c.args.self.now are c.requires.some (omega arith)

pub returns-clause-within : goal.returns-clause-within
returns-clause-within c = lowest_within c.requires.left.0 c.requires.left.1 c.args.self.now c.requires.left.2 c.requires.some (omega arith)

pub returns-clause-left : goal.returns-clause-left
returns-clause-left c = λ test from are. left_behind test from c.args.self.now are c.requires.some (omega arith)
