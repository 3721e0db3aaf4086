use Rattle.std.proofs.Common.{◌-◌, ◌*◌, ◌/◌, ◌%◌, ◌^◌, ◌∙◌, length, arith}
use Rattle.std.specs.Prelude.{bit_or}
use Rattle.awk_value.proofs.Worth.{two-halves, no-word, one-word, two-word, three-word}
use Rattle.awk_value.proofs.short_text.few.Goals as goal

pub returns-then-len-ge4 : goal.returns-then-len-ge4
returns-then-len-ge4 c =
    (λ j. bit_or (c.half-front.ensures j) (c.half.ensures j / 2 ^ (8 * (8 - length c.args.bytes.now)) * 2 ^ 32 % 2 ^ 64))
    ∙ two-halves c.args.bytes.now (λ i. (c.type_inv.bytes i).fits) (omega arith) (omega arith)

pub returns-in-0 : goal.returns-in-0
returns-in-0 c = no-word c.args.bytes.now (omega arith)

pub returns-in-1 : goal.returns-in-1
returns-in-1 c = one-word c.args.bytes.now (omega arith)

pub returns-in-2 : goal.returns-in-2
returns-in-2 c = two-word c.args.bytes.now (omega arith) (λ i. (c.type_inv.bytes i).fits)

pub returns-in_default : goal.returns-in_default
returns-in_default c = three-word c.args.bytes.now (omega arith) (λ i. (c.type_inv.bytes i).fits)
