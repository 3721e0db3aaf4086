use Rattle.awk_text.proofs.PlainReplacement.{plain_where_none, around_where_first}
use Rattle.awk_text.proofs.replacement.shape_of.Goals as goal

pub returns-in_default : goal.returns-in_default
returns-in_default c = plain_where_none c.args.replacement.now c.in_default.ensures

pub returns-then-is_plain : goal.returns-then-is_plain
returns-then-is_plain c = around_where_first c.args.replacement.now c.in-Some.place c.in-Some.ensures c.if-replacement-place-eq38.true (c.is_plain.ensures c.if-is_plain.true)
