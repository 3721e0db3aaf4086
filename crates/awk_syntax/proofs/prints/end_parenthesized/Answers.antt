use Rattle.awk_frames.specs.support.FrameView.{list_of, stack_of}
use Rattle.awk_syntax.proofs.OtherSimpleTokens.{whole_list}
use Rattle.awk_syntax.proofs.prints.end_parenthesized.Goals as goal

pub returns-in-Print : goal.returns-in-Print
returns-in-Print c =
    rw (c.in-Print.is, whole_list c.args.next.kind.now (list_of c.args.list) (list_of c.args.frame.list) c.in-Print.form (stack_of c.args.stack.now.items) c.if-before-eq0.true)
    (rw c.parenthesized.ensures at c.end_print_list.ensures)
