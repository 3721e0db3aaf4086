use Rattle.std.proofs.Common.{arith}
use Rattle.awk_value.proofs.CutOfCut.{place_in_whole}
use Rattle.awk_value.proofs.bytes.Bytes.advance.Goals as goal

pub overflow_cast-start : goal.overflow_cast-start
overflow_cast-start c =
    let view = rw c.in-Shared.is at c.self.view_is in
    let within = rw c.in-Shared.is at c.self.invariant in
    let fits = place_in_whole _ _ _ c.args.count within.0 within.1 (rw view c.requires) in
    omega arith

pub overflow_add-start : goal.overflow_add-start
overflow_add-start c =
    let view = rw c.in-Shared.is at c.self.view_is in
    let within = rw c.in-Shared.is at c.self.invariant in
    let fits = place_in_whole _ _ _ c.args.count within.0 within.1 (rw view c.requires) in
    omega arith
