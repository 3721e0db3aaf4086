use Rattle.std.proofs.Common.{◌+◌, arith}
use Rattle.std.proofs.lemmas.Str.Parse.{digits_value-take-le}
use Rattle.awk_command.proofs.CommandLineLemmas.{digit_read}
use Rattle.awk_command.proofs.options.number_of.Goals as goal

pub returns-then-number-from : goal.returns-then-number-from
returns-then-number-from c =
    let digits = c.args.digits.now in
    let i = c.loop-digit.digit-index in
    omega (arith, digit_read digits i c.loop-digit.number c.requires c.loop-digit-test.true c.loop-digit.invariant.number, digits_value-take-le 10 digits (i + 1) (omega arith))

pub loop-digit-preserved : goal.loop-digit-preserved
loop-digit-preserved c = record {
  number = omega (arith, digit_read c.args.digits.now c.loop-digit.digit-index c.loop-digit.number c.requires c.loop-digit-test.true c.loop-digit.invariant.number);
  fits = omega arith;
}
