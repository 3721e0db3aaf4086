-- A child as a node holds it, none if it is too high.
use Rattle.std.specs.Prelude.{Option, Some, None}
use Rattle.awk_grammar.specs.definitions.Tree as t
use Rattle.awk_frames.specs.support.CheckedExpressions.{optional_of}
use Rattle.awk_frames.specs.declared.held.HeldChild.{HeldChild}

abbrev pub held_of : Option HeldChild → Option t.OptionalExpr
held_of None = None
held_of (Some x) = Some (optional_of x.expr)
