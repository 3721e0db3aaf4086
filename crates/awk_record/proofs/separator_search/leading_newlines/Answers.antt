use Rattle.awk_record.proofs.BlankLines.{newlines_more}
use Rattle.awk_record.proofs.separator_search.leading_newlines.Goals as goal

pub loop-i-init : goal.loop-i-init
loop-i-init c = newlines_more c.args.known c.args.bytes.now c.requires.within c.requires.known
