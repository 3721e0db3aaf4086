use Rattle.std.proofs.Common.{◌≡◌, length}
use Rattle.awk_grammar.specs.definitions.Height.{max_height}
use Rattle.awk_grammar.specs.support.InfixRole.{is_else}
use Rattle.awk_grammar.specs.support.Parser as parser
use Rattle.awk_frames.specs.support.CheckedStatementNodes.{checked_statement}
use Rattle.awk_frames.specs.support.FrameView.{stack_of}
use Rattle.awk_syntax.proofs.statements.end_statement.Given as goal

abbrev pub invariant-loop-body : goal.invariant-loop-body
invariant-loop-body l =
    record {
      same : parser.end_statement max_height l.next.kind.now (checked_statement l.statement) (stack_of l.stack.items) ≡ parser.end_statement max_height l.fn.next.kind.now (checked_statement l.fn.statement) (stack_of l.fn.stack.items);
      before_else : l.is_else ≡ is_else l.next.kind.now;
    }

abbrev pub decreases-loop-body : goal.decreases-loop-body
decreases-loop-body l = length (stack_of l.stack.items)
