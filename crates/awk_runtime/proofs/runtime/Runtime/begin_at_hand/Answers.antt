use Rattle.std.proofs.Common.{◌-◌, arith}
use Rattle.std.proofs.lemmas.Result.{err_from_is_err_and}
use Rattle.awk_runtime.proofs.Steps.{step_taken}
use Rattle.awk_runtime.proofs.runtime.Runtime.begin_at_hand.Goals as goal

pub returns-in_err-begin_record : goal.returns-in_err-begin_record
returns-in_err-begin_record g c =
    let p = err_from_is_err_and c.from_residual.result c.from_residual.ensures.1 in
    rw (p.1, p.2) (record {
      begins = λ k ready. record {
        text = c.in-Some.text;
        read = c.record_at_hand.new.self;
        spent = _;
        reads = c.in-Some.ensures.follows k ready;
        ready = c.in-Some.ensures.ready k ready;
        spends = step_taken c.record_at_hand.new.self (c.record_at_hand.new.self.steps - 1) (omega (arith, c.if-self-eq0.false, c.in-Some.ensures.steps));
        begins = c.in_err-begin_record.ensures;
      };
    })

pub returns : goal.returns
returns g c = record {
  begins = λ k ready. record {
    text = c.in-Some.text;
    read = c.record_at_hand.new.self;
    spent = _;
    reads = c.in-Some.ensures.follows k ready;
    ready = c.in-Some.ensures.ready k ready;
    spends = step_taken c.record_at_hand.new.self (c.record_at_hand.new.self.steps - 1) (omega (arith, c.if-self-eq0.false, c.in-Some.ensures.steps));
    begins = c.in_ok-begin_record.ensures;
  };
}
