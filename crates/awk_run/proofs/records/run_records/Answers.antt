use Rattle.std.proofs.Common.{arith}
use Rattle.std.proofs.lemmas.Result.{err_from_is_err_and}
use Rattle.awk_run.proofs.Passing.{still_ignored}
use Rattle.awk_run.proofs.Reading.{reading_over, reading_halts, reading_goes, reads_all, begun_in, over_in}
use Rattle.awk_run.proofs.records.run_records.Goals as goal

pub loop-machine-init : goal.loop-machine-init
loop-machine-init g c = record {
  on = λ new after r h. h;
  set = c.requires.set;
  idle = record { operands = c.requires.idle.operands; calls = c.requires.idle.calls };
  ignored = c.unwanted_by-unwanted.ensures;
}

pub begin_next-requires : goal.begin_next-requires
begin_next-requires g c =
    let passed = c.pass_over-unwanted.ensures.passes.passes _ c.loop-machine.invariant.ignored c.loop-machine.invariant.set in
    record { ready = passed.set.ready }

pub returns-in_err-begin_next-clause-follows : goal.returns-in_err-begin_next-clause-follows
returns-in_err-begin_next-clause-follows g c =
    let passed = c.pass_over-unwanted.ensures.passes.passes _ c.loop-machine.invariant.ignored c.loop-machine.invariant.set in
    let p = err_from_is_err_and c.from_residual.result c.from_residual.ensures.1 in
    rw (p.1, p.2) (reads_all (c.loop-machine.invariant.on _ _ _ (passed.on _ _ _ (c.in_err-begin_next.ensures.next.finds _))))

pub returns-in_err-begin_next-clause-set : goal.returns-in_err-begin_next-clause-set
returns-in_err-begin_next-clause-set g c =
    let passed = c.pass_over-unwanted.ensures.passes.passes _ c.loop-machine.invariant.ignored c.loop-machine.invariant.set in
    c.in_err-begin_next.ensures.next.set _ passed.set

pub returns-then-not-branch-clause-follows : goal.returns-then-not-branch-clause-follows
returns-then-not-branch-clause-follows g c =
    let passed = c.pass_over-unwanted.ensures.passes.passes _ c.loop-machine.invariant.ignored c.loop-machine.invariant.set in
    reads_all (c.loop-machine.invariant.on _ _ _ (passed.on _ _ _ (reading_over (over_in c.in_ok-begin_next.ensures.next.finds c.if-not-branch.true))))

pub returns-then-not-branch-clause-set : goal.returns-then-not-branch-clause-set
returns-then-not-branch-clause-set g c =
    let passed = c.pass_over-unwanted.ensures.passes.passes _ c.loop-machine.invariant.ignored c.loop-machine.invariant.set in
    c.in_ok-begin_next.ensures.next.set _ passed.set

pub returns-in_err-try_until_next-clause-follows : goal.returns-in_err-try_until_next-clause-follows
returns-in_err-try_until_next-clause-follows g c =
    let passed = c.pass_over-unwanted.ensures.passes.passes _ c.loop-machine.invariant.ignored c.loop-machine.invariant.set in
    let begun = begun_in c.in_ok-begin_next.ensures.next.finds c.if-not-branch.false in
    let p = err_from_is_err_and c.from_residual-in_err-try_until_next.result c.from_residual-in_err-try_until_next.ensures.1 in
    rw (p.1, p.2) (reads_all (c.loop-machine.invariant.on _ _ _ (passed.on _ _ _ (reading_halts begun.reads begun.spends begun.begins c.in_err-try_until_next.ensures.follows))))

pub try_until_next-requires : goal.try_until_next-requires
try_until_next-requires g c =
    let passed = c.pass_over-unwanted.ensures.passes.passes _ c.loop-machine.invariant.ignored c.loop-machine.invariant.set in
    let idle = c.in_ok-begin_next.ensures.idle (c.pass_over-unwanted.ensures.idle c.loop-machine.invariant.idle) in
    record { set = c.in_ok-begin_next.ensures.next.set _ passed.set; idle = record { operands = idle.operands; calls = idle.calls } }

pub loop-machine-smaller : goal.loop-machine-smaller
loop-machine-smaller g c =
    let passed = c.pass_over-unwanted.ensures.passes.passes _ c.loop-machine.invariant.ignored c.loop-machine.invariant.set in
    let begun = begun_in c.in_ok-begin_next.ensures.next.finds c.if-not-branch.false in
    omega (arith, passed.steps, begun.reads.simulates.steps, begun.spends.falls, begun.begins.steps, c.in_ok-try_until_next.ensures.follows.steps)

pub loop-machine-preserved : goal.loop-machine-preserved
loop-machine-preserved g c =
    let passed = c.pass_over-unwanted.ensures.passes.passes _ c.loop-machine.invariant.ignored c.loop-machine.invariant.set in
    let begun = begun_in c.in_ok-begin_next.ensures.next.finds c.if-not-branch.false in
    record {
      on = λ new after r h. c.loop-machine.invariant.on new after r (passed.on new after r (reading_goes begun.reads begun.spends begun.begins c.in_ok-try_until_next.ensures.follows h));
      set = c.in_ok-try_until_next.ensures.set;
      idle = c.in_ok-try_until_next.ensures.idle;
      ignored = still_ignored _ c.loop-machine.unwanted c.pass_over-unwanted.result c.pass_over-unwanted.ensures.goes_on c.loop-machine.invariant.ignored;
    }
