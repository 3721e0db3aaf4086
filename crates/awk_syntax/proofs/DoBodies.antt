-- The body of a `do` is read.
use Rattle.std.proofs.Common.{◌≡◌, List, ◌∷◌, Option, Some, sym, ap, ◌∙◌}
use Rattle.std.specs.Global.{Box}
use Rattle.awk_lex.specs.declared.token.Kind.{Kind}
use Rattle.awk_grammar.specs.definitions.Height.{max_height}
use Rattle.awk_grammar.specs.definitions.Tree.{Statement}
use Rattle.awk_grammar.specs.support.Parser as parser
use Rattle.awk_frames.specs.declared.frame.Frame.{Frame}
use Rattle.awk_frames.specs.declared.frame.Frame.TheVariants as frame
use Rattle.awk_frames.specs.declared.frame.BodyFrame.{BodyFrame}
use Rattle.awk_frames.specs.declared.frame.BodyFrame.TheVariants as body
use Rattle.awk_frames.specs.support.FrameView.{body_frame_of, stack_of, popped}

pub do_body : (y : Kind) (x : Option Statement) (old : List parser.Frame) (taken : Option Frame) (b : Box BodyFrame) (inner : BodyFrame) (new : List Frame) → old ≡ popped taken new → taken ≡ Some (frame.Body b) → inner ≡ b.value → inner ≡ body.Do → parser.after_do_body y x (stack_of new) ≡ parser.end_statement max_height y x old
do_body y x old taken b inner new p q r s =
    sym (ap (parser.end_statement max_height y x) (p ∙ ap (λ z. popped z new) q ∙ ap (λ z. body_frame_of z ∷ stack_of new) (sym r ∙ s)))
