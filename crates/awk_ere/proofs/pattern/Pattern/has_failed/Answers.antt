use Rattle.std.proofs.Common.{◌≡◌, ℕ, ◌*◌, List, Bool, true, false, sym, ap, ◌∙◌, subst, arith, get_or}
use Rattle.awk_ere.specs.support.Failures.{GoesOn}
use Rattle.awk_ere.specs.support.SimulationStep.{count_of}
use Rattle.awk_ere.specs.support.Table.{state_number, positions_at}
use Rattle.awk_ere.proofs.CursorKept.{stood_idle_none}
use Rattle.awk_ere.proofs.FailuresKept.{failed}
use Rattle.awk_ere.proofs.pattern.Pattern.has_failed.Goals as goal

pub returns-then-cursor-eq-DEAD : goal.returns-then-cursor-eq-DEAD
returns-then-cursor-eq-DEAD c = λ _ s are t from means stood.
    stood_idle_none c.args.self.now c.args.table.now c.requires.table s t means from c.args.cursor stood c.if-cursor-eq-DEAD.true

pub returns-in-Some : goal.returns-in-Some
returns-in-Some c = λ covers s are t from means stood.
    let number = c.in-Some.number in
    failed s t from c.args.cursor.place stood.positions stood.runs
    (λ n j set goes.
    are t means number n j
    (c.cover.ensures covers n (subst (λ l. get_or l n false ≡ true) (sym (c.positions_in.ensures stood.start stood.positions stood.state)) set))
    (subst (λ k. GoesOn s t k n j) c.in-Some.ensures goes))
