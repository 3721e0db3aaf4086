use Rattle.std.proofs.Common.{arith}
use Rattle.awk_text.proofs.between.next_full.Goals as goal

pub returns-then-start-end-clause-lies : goal.returns-then-start-end-clause-lies
returns-then-start-end-clause-lies c =
    let lies = c.in-Some.ensures.within in
    (omega (arith, lies.0, c.loop-start.invariant.behind), c.if-start-end.true, lies.1.1)
