use Rattle.std.proofs.Common.{◌≡◌, take, drop}
use Rattle.awk_lex.specs.Told.{kinds_of}
use Rattle.awk_grammar.specs.definitions.Height.{max_height}
use Rattle.awk_grammar.specs.support.Parser as parser
use Rattle.awk_frames.specs.support.FrameView.{state_of}
use Rattle.awk_syntax.specs.support.Stopped.{reached}
use Rattle.awk_syntax.proofs.read.read.Given as goal

abbrev pub invariant-loop-token : goal.invariant-loop-token
invariant-loop-token l =
    record {
      read : parser.answer max_height (state_of l.state l.stack.items) (kinds_of (drop l.token-index l.tokens)) ≡ parser.read max_height (kinds_of l.tokens);
      stands : reached (kinds_of (take l.token-index l.tokens)) ≡ state_of l.state l.stack.items;
    }
