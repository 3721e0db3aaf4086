use Rattle.std.proofs.Common.{rules}
use Rattle.awk_lex.proofs.Digits.{read_more, too_large}
use Rattle.awk_lex.proofs.scanner.number_value.Goals as goal

pub returns-then-value-gt-TENTH : goal.returns-then-value-gt-TENTH
returns-then-value-gt-TENTH c =
    too_large c.args.digits.now c.loop-digit.digit-index c.loop-digit.value c.loop-digit-test.true c.loop-digit.invariant c.if-value-gt-TENTH.true

pub loop-digit-preserved : goal.loop-digit-preserved
loop-digit-preserved c =
    let more = read_more c.args.digits.now c.loop-digit.digit-index c.loop-digit.value c.requires c.loop-digit-test.true c.loop-digit.invariant in
    search rules
