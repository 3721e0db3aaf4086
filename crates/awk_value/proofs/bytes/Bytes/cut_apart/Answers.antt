use Rattle.awk_value.proofs.CutOfCut.{drop_of_take, cut_of_cut, place_in_whole}
use Rattle.awk_value.proofs.bytes.Bytes.cut_apart.Goals as goal

pub returns-in-Shared : goal.returns-in-Shared
returns-in-Shared c =
    let view = rw c.in-Shared.is at c.self.view_is in
    let within = rw c.in-Shared.is at c.self.invariant in
    let fits = place_in_whole _ _ _ c.args.to within.0 within.1 (rw view c.requires.within) in
    let cut = rw (cut_of_cut _ _ c.args.from c.args.to _ c.requires.ordered fits) at c.cut_shared.ensures in
    rw view at cut

pub returns-in-Short : goal.returns-in-Short
returns-in-Short c =
    let view = rw c.in-Short.is at c.self.view_is in
    let bytes = c.as_slice.ensures.bytes in
    let cut = drop_of_take c.as_slice.result.now c.args.from c.args.to c.requires.ordered in
    cc

pub returns-in-Large : goal.returns-in-Large
returns-in-Large c =
    let cut = rw c.as_slice-in-Large.ensures at (drop_of_take c.as_slice-in-Large.result.now c.args.from c.args.to c.requires.ordered) in
    let made = rw c.as_slice-in-Large.ensures at c.from_slice.ensures in
    rw cut at made
