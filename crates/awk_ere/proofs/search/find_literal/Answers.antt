use Rattle.std.proofs.Common.{◌≡◌, length, subst, arith}
use Rattle.memchr.specs.Find.{FindsNeedle}
use Rattle.awk_ere.proofs.OneByteOccurs.{byte_is_text}
use Rattle.awk_ere.proofs.search.find_literal.Goals as goal

pub returns-in-len1 : goal.returns-in-len1
returns-in-len1 c =
    let one : length c.needle.result.now ≡ 1 = omega (arith, c.in-len1.len_at_least, c.in-len1.len_below) in
    subst (λ n. FindsNeedle c.args.text.now n 0 c.memchr.result) c.needle.ensures
    (byte_is_text c.args.text.now c.needle.result.now c.memchr.result one c.memchr.ensures)
