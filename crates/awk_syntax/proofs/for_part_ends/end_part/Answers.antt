use Rattle.std.proofs.Common.{◌≡◌, ◌∷◌, ap, sym, ◌∙◌}
use Rattle.awk_frames.specs.support.FrameView.{frame_of, stack_of, popped}
use Rattle.awk_grammar.specs.support.Parser as parser
use Rattle.awk_syntax.specs.support.PartFrames.{is_part_on}
use Rattle.awk_syntax.proofs.ForParts.{is_first}
use Rattle.awk_syntax.proofs.for_part_ends.end_part.Goals as goal

pub returns-in_default-frame : goal.returns-in_default-frame
returns-in_default-frame c =
    let top : stack_of c.args.stack.now.items ≡ frame_of c.in-Some.frame ∷ stack_of c.pop.new.stack.items = c.pop.ensures ∙ ap (λ z. popped z c.pop.new.stack.items) c.in-Some.is in
    let first : frame_of c.in-Some.frame ≡ parser.InForFirst = is_first c.in-Some.frame (ap is_part_on (sym top) ∙ c.requires) c.in_default-frame.not-ForLast in
    rw (top, first) c.end_for_first.ensures
