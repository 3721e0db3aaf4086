use Rattle.awk_text.proofs.PlainReplacement.{plain_where_missing}
use Rattle.awk_text.proofs.replacement.is_plain.Goals as goal

pub returns : goal.returns
returns c = plain_where_missing c.args.replacement.now c.memchr2.result c.is_none.result c.memchr2.ensures c.is_none.ensures
