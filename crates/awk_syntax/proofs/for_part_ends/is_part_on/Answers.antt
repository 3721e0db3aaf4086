use Rattle.std.proofs.Common.{sym, ◌∙◌}
use Rattle.awk_syntax.proofs.ForParts.{last_tells}
use Rattle.awk_syntax.proofs.for_part_ends.is_part_on.Goals as goal

pub returns-in-Some : goal.returns-in-Some
returns-in-Some c = c.is_part.ensures ∙ sym (last_tells c.args.stack.now.items c.in-Some.frame.now (rw (c.deref.ensures.value) at c.in-Some.ensures.value))
