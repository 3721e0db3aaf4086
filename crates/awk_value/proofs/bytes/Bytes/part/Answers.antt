use Rattle.awk_value.proofs.CutOfCut.{cut_of_cut, place_in_whole}
use Rattle.awk_value.proofs.bytes.Bytes.part.Goals as goal

pub returns-in-Shared : goal.returns-in-Shared
returns-in-Shared c =
    let view = rw c.in-Shared.is at c.self.view_is in
    let within = rw c.in-Shared.is at c.self.invariant in
    let fits = place_in_whole _ _ _ c.args.to within.0 within.1 (rw view c.requires.within) in
    let cut = cut_of_cut c.in-Shared.memory.value.items c.in-Shared.start c.args.from c.args.to c.in-Shared.end c.requires.ordered fits in
    let copied = c.in_ok-clone.ensures in
    cc
