use Rattle.std.proofs.Common.{◌≡◌, ◌+◌, ◌-◌, arith}
use Rattle.awk_value.proofs.CutOfCut.{cut_of_cut, place_in_whole}
use Rattle.awk_value.proofs.bytes.Bytes.cut_to.Goals as goal

pub returns-clause-cut : goal.returns-clause-cut
returns-clause-cut c _ =
    let view = rw c.in-Shared.is at c.self.view_is in
    let within = rw c.in-Shared.is at c.self.invariant in
    let fits = place_in_whole _ _ _ c.args.to within.0 within.1 (rw view c.requires.within) in
    let cut = cut_of_cut c.in-Shared.memory.value.items c.in-Shared.start c.args.from c.args.to c.in-Shared.end c.requires.ordered fits in
    let end : c.in-Shared.start + c.args.from + (c.args.to - c.args.from) ≡ c.in-Shared.start + c.args.to = omega arith in
    let taken = c.take_part.ensures in
    let items = c.as_slice.ensures.value in
    let memory = c.deref.ensures in
    cc
