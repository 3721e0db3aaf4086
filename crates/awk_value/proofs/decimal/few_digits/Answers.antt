use Rattle.std.proofs.Common.{◌+◌, ◌-◌, ◌*◌, ◌∙◌, ap, sym, get_or, arith}
use Rattle.std.proofs.lemmas.List.{get_or_default}
use Rattle.awk_value.proofs.Decimals.{all-next, after-next, not-next, small-before}
use Rattle.awk_value.proofs.decimal.few_digits.Goals as goal

pub returns-then-not-is_ascii_digit-clause-none : goal.returns-then-not-is_ascii_digit-clause-none
returns-then-not-is_ascii_digit-clause-none c =
    let ds = c.args.digits.now in
    let n = c.loop-at.at in
    let byte = get_or ds n 0 in
    not-next ds n byte c.loop-at-test.true (get_or_default ds n 0 byte c.loop-at-test.true) (sym c.is_ascii_digit.ensures.value ∙ c.if-not-is_ascii_digit.true)

pub overflow_mul-number : goal.overflow_mul-number
overflow_mul-number c =
    let ds = c.args.digits.now in
    let n = c.loop-at.at in
    let byte = get_or ds n 0 in
    let small = small-before ds n byte c.loop-at-test.true (get_or_default ds n 0 byte c.loop-at-test.true) c.requires c.loop-at.invariant.all in
    omega (arith, small, c.loop-at.invariant.read)

pub overflow_add-number : goal.overflow_add-number
overflow_add-number c =
    let ds = c.args.digits.now in
    let n = c.loop-at.at in
    let byte = get_or ds n 0 in
    let small = small-before ds n byte c.loop-at-test.true (get_or_default ds n 0 byte c.loop-at-test.true) c.requires c.loop-at.invariant.all in
    let bits = c.type_inv.digits n in
    omega (arith, small, c.loop-at.invariant.read, bits)

pub loop-at-preserved : goal.loop-at-preserved
loop-at-preserved c =
    let ds = c.args.digits.now in
    let n = c.loop-at.at in
    let byte = get_or ds n 0 in
    let read = get_or_default ds n 0 byte c.loop-at-test.true in
    record {
      within = omega (arith, c.loop-at-test.true);
      all = all-next ds n byte c.loop-at-test.true read c.loop-at.invariant.all (sym c.is_ascii_digit.ensures.value ∙ c.if-not-is_ascii_digit.false);
      read = ap (λ k. k * 10 + (byte - 48)) c.loop-at.invariant.read ∙ sym (after-next ds n byte c.loop-at-test.true read);
    }
