-- Whether the node on top of the stack ends before the next token.
use Rattle.std.specs.Prelude.{◌≡◌, Bool, true, false, not, ◌||◌, List, [], ◌∷◌, Option, Some, None}
use Rattle.awk_grammar.specs.support.InfixRole as role
use Rattle.awk_grammar.specs.support.Parser as parser
use Rattle.awk_frames.specs.declared.frame.Frame.{Frame}
use Rattle.awk_frames.specs.support.FrameView.{frame_of}

abbrev pub is_ended : role.InfixRole → parser.Operand → parser.Frame → Bool
is_ended r e f = not (parser.continues r e (parser.greatest_allowed f) || (parser.stays_open f e || parser.takes_file f r))

abbrev pub is_top_ended : role.InfixRole → parser.Operand → List parser.Frame → Bool
is_top_ended r e [] = false
is_top_ended r e (f ∷ k) = is_ended r e f

-- nothing is ended, or the node that is taken off
abbrev pub Ends : role.InfixRole → parser.Operand → (old : List parser.Frame) → Option Frame → (new : List parser.Frame) → Type 0
Ends r e old None new = (is_top_ended r e old ≡ false) × (new ≡ old)
Ends r e old (Some f) new = (is_top_ended r e old ≡ true) × (old ≡ frame_of f ∷ new)
