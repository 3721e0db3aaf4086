use Rattle.std.proofs.Common.{◌∙◌, ◌-◌, ap, List, length}
use Rattle.std.specs.Prelude.{slice_get}
use Rattle.awk_value.specs.declared.entry.Entry.{Entry}
use Rattle.awk_value.proofs.Places.{stamp_gone, trimmed}
use Rattle.awk_value.proofs.dense.trim.Goals as goal

pub loop-last-preserved : goal.loop-last-preserved
loop-last-preserved c =
    let last = c.in-Some.last.now in
    let there = c.in-Some.ensures.value ∙ ap (λ (l : List Entry). slice_get l (length l - 1)) c.deref.ensures.value in
    trimmed c.loop-last.entries.items c.pop.new.self.items c.pop.result last c.pop.ensures.items there (stamp_gone last c.if-last.false)
    ∙ c.loop-last.invariant
