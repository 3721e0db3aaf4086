use Rattle.std.proofs.Common.{refl}
use Rattle.awk_runtime.proofs.PassedRecords.{passes_over, passes_none}
use Rattle.awk_runtime.proofs.runtime.Runtime.pass_over.Goals as goal
use Rattle.awk_runtime.proofs.runtime.Runtime.pass_over.Goals.{then-passed-eq0-via-then-passed-eq0, then-passed-eq0-via-else-passed-eq0+then-not-count_records}

pub returns-then-passed-eq0-clause-passes : goal.returns-then-passed-eq0-clause-passes
returns-then-passed-eq0-clause-passes g c = λ k ready. elim c.then-passed-eq0.branch [
  | then-passed-eq0-via-then-passed-eq0 w ↦ rw w.self-is (passes_none c.args.self.now k)
  | then-passed-eq0-via-else-passed-eq0+then-not-count_records w ↦ rw (w.self-is, w.count_records.ensures.kept w.if-not-count_records.true) (passes_none c.args.self.now k)
]

pub returns-clause-passes : goal.returns-clause-passes
returns-clause-passes g c = λ k ready.
    passes_over c.args.unwanted c.in-Some.passed c.args.self.now c.count_records.new.self _ c.skip_main.new.self k c.law_of_slots.ensures.own c.in-Some.ensures (c.count_records.ensures.counted c.if-not-count_records.false) refl c.skip_main.ensures.skipped c.skip_main.ensures.told ready
    (record { are_open = c.skip_main.ensures.open k ready.are_open; are_sound = λ t. c.skip_main.ensures.sound k (ready.are_sound t) })
