use Rattle.std.proofs.Common.{◌≤◌, length, arith}
use Rattle.awk_value.proofs.CutOfCut.{cut_of_cut, place_in_whole}
use Rattle.awk_value.proofs.packed.PackedBytes.part.Goals as goal

pub returns : goal.returns
returns c =
    let view = c.self.view_is in
    let within : c.self.inside.end ≤ length c.self.inside.memory.value = omega arith in
    let fits = place_in_whole c.self.inside.memory.value c.self.inside.start c.self.inside.end c.args.to c.self.invariant.0 within (rw view c.requires.within) in
    let cut = cut_of_cut c.self.inside.memory.value c.self.inside.start c.args.from c.args.to c.self.inside.end c.requires.ordered fits in
    let copied = c.in_ok-clone.ensures in
    cc
