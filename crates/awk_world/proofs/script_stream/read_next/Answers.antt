use Rattle.std.proofs.Common.{ℕ, subst}
use Rattle.awk_world.specs.support.ScriptStreams.{CanAdvance}
use Rattle.awk_world.proofs.ScriptLemmas.{same_bytes, can_advance}
use Rattle.awk_world.proofs.script_stream.read_next.Goals as goal

pub returns-then-count-gt0-clause-fits : goal.returns-then-count-gt0-clause-fits
returns-then-count-gt0-clause-fits c = λ n same.
    let here = can_advance c.args.streams.now c.args.id c.in-Some.place c.give-count.result c.index-streams-place.result c.in-Some.ensures.place.1 c.in-Some.ensures.place.0 c.index-streams-place.is c.give-count.ensures.fits in
    subst (λ (k : ℕ). CanAdvance c.args.streams.now c.args.id k) (same_bytes c.give-count.result n same) here
