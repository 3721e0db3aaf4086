use Rattle.std.proofs.Common.{true, nat_eq, arith, rules}
use Rattle.std.proofs.lemmas.Grind.{common_steps}
use Rattle.awk_ere.proofs.ClassMembership.{has-class_of}
use Rattle.awk_ere.proofs.simulation.step_instruction.Goals as goal

pub returns-in-Byte-clause-flow : goal.returns-in-Byte-clause-flow
returns-in-Byte-clause-flow c =
    let e = has-class_of (λ x. nat_eq x c.in-Byte.byte) c.args.input.byte (omega arith) in
    rw c.in-Byte.is (rw e (grind (arith, common_steps)))

pub returns-in-Byte-clause-positions : goal.returns-in-Byte-clause-positions
returns-in-Byte-clause-positions c =
    let e = has-class_of (λ x. nat_eq x c.in-Byte.byte) c.args.input.byte (omega arith) in
    rw c.in-Byte.is (rw e (search rules))

pub returns-in-Any-clause-flow : goal.returns-in-Any-clause-flow
returns-in-Any-clause-flow c =
    let e = has-class_of (λ _. true) c.args.input.byte (omega arith) in
    rw c.in-Any.is (rw e (grind (arith, common_steps)))

pub returns-in-Any-clause-positions : goal.returns-in-Any-clause-positions
returns-in-Any-clause-positions c =
    let e = has-class_of (λ _. true) c.args.input.byte (omega arith) in
    rw c.in-Any.is (rw e (search rules))
