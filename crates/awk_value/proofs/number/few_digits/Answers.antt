use Rattle.std.proofs.Common.{arith}
use Rattle.awk_value.proofs.FewDigits.{have_room}
use Rattle.awk_value.proofs.number.few_digits.Goals as goal

pub overflow_mul-value : goal.overflow_mul-value
overflow_mul-value c =
    let room = have_room c.loop-byte.byte-index c.loop-byte.value c.loop-byte.invariant.few (omega arith) in
    omega arith

pub overflow_add-value : goal.overflow_add-value
overflow_add-value c =
    let room = have_room c.loop-byte.byte-index c.loop-byte.value c.loop-byte.invariant.few (omega arith) in
    omega arith

pub returns-clause-few : goal.returns-clause-few
returns-clause-few c = have_room c.loop-byte.byte-index c.loop-byte.value c.loop-byte.invariant.few (omega arith)
