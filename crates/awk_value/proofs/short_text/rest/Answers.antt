use Rattle.std.proofs.Common.{◌-◌, ◌*◌, ◌/◌, ◌^◌, ◌∙◌, ap, length, arith}
use Rattle.awk_value.proofs.Worth.{rest-word}
use Rattle.awk_value.proofs.short_text.rest.Goals as goal

pub returns : goal.returns
returns c =
    let missing = 7 - (length c.args.bytes.now - c.args.at) in
    ap (λ n. n / 2 ^ (8 * missing) / 2 ^ 8) c.word.ensures
    ∙ rest-word c.args.bytes.now c.args.at missing (λ i. (c.type_inv.bytes i).fits) c.requires.long c.requires.within (omega arith)
