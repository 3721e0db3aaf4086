use Rattle.std.proofs.Common.{◌≡◌, length, get_or, sym, ap, ◌∙◌, subst, arith}
use Rattle.awk_ere.specs.support.Found.{IsOneByte}
use Rattle.awk_ere.proofs.LiteralOccurs.{one_byte}
use Rattle.awk_ere.proofs.pattern.Pattern.literal_byte.Goals as goal

pub returns-in-len1 : goal.returns-in-len1
returns-in-len1 c t means =
    let needle = c.in-Some.finder in
    let one : length c.needle.result.now ≡ 1 = omega (arith, c.in-len1.len_at_least, c.in-len1.len_below) in
    subst (λ l. IsOneByte t (get_or l 0 0)) (sym c.needle.ensures)
    (one_byte t c.args.self.now needle (ap length (sym c.needle.ensures) ∙ one) means (c.requires.same.literal needle c.in-Some.is))
