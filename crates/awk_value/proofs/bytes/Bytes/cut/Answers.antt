use Rattle.awk_value.proofs.CutOfCut.{cut_of_cut, place_in_whole}
use Rattle.awk_value.proofs.bytes.Bytes.cut.Goals as goal

pub returns-in-Shared : goal.returns-in-Shared
returns-in-Shared c =
    let view = rw c.in-Shared.is at c.self.view_is in
    let within = rw c.in-Shared.is at c.self.invariant in
    let fits = place_in_whole _ _ _ c.args.to within.0 within.1 (rw view c.requires.within) in
    let cut = rw (cut_of_cut _ _ c.args.from c.args.to _ c.requires.ordered fits) at c.cut_shared.ensures in
    rw view at cut
