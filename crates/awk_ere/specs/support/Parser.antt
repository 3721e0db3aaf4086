-- Reading a pattern from its tokens, one after another.
use Rattle.std.specs.Prelude.{List, [], ◌∷◌, Option, Some, None}
use Rattle.awk_ere.specs.definitions.Tokens.{Repeat, Token, atom, at_start, at_end, opening, closing, bar, again}
use Rattle.awk_ere.specs.definitions.Written.{Pattern, only, either, Branch, single, then, Piece, the_start, the_end, part, one, group, repeated}

-- what was read since the last open parenthesis: whole branches, and then nothing or pieces
pub data Frame : Type 0 where
  fresh : Option Pattern → Frame
  row : Option Pattern → Option Branch → Piece → Frame

pub record ParserState : Type 0 where
  pub now : Frame
  pub outer : List Frame

abbrev pub branch_of : Option Branch → Piece → Branch
branch_of None x = single x
branch_of (Some b) x = then b x

abbrev pub pattern_of : Option Pattern → Branch → Pattern
pattern_of None b = only b
pattern_of (Some p) b = either p b

abbrev pub add : Frame → Piece → Frame
add (fresh d) x = row d None x
add (row d b y) x = row d (Some (branch_of b y)) x

abbrev pub closed : Frame → Option Pattern
closed (fresh d) = None
closed (row d b x) = Some (pattern_of d (branch_of b x))

abbrev pub close : Option Pattern → List Frame → Option ParserState
close None fs = None
close (Some p) [] = None
close (Some p) (f ∷ fs) = Some (record { now = add f (part (group p)); outer = fs })

abbrev pub next_branch : Option Pattern → List Frame → Option ParserState
next_branch None fs = None
next_branch (Some p) fs = Some (record { now = fresh (Some p); outer = fs })

abbrev pub repeat_last : Repeat → Frame → List Frame → Option ParserState
repeat_last r (fresh d) fs = None
repeat_last r (row d b the_start) fs = None
repeat_last r (row d b the_end) fs = None
repeat_last r (row d b (part c)) fs = Some (record { now = row d b (part (repeated c r)); outer = fs })

abbrev pub take_in : Token → ParserState → Option ParserState
take_in (atom a) s = Some (record { now = add s.now (part (one a)); outer = s.outer })
take_in at_start s = Some (record { now = add s.now the_start; outer = s.outer })
take_in at_end s = Some (record { now = add s.now the_end; outer = s.outer })
take_in opening s = Some (record { now = fresh None; outer = s.now ∷ s.outer })
take_in closing s = close (closed s.now) s.outer
take_in bar s = next_branch (closed s.now) s.outer
take_in (again r) s = repeat_last r s.now s.outer

abbrev pub ended : Frame → List Frame → Option Pattern
ended f [] = closed f
ended f (g ∷ fs) = None

abbrev pub and_then : Option ParserState → (ParserState → Option Pattern) → Option Pattern
and_then None f = None
and_then (Some s) f = f s

abbrev pub run : List Token → ParserState → Option Pattern
run [] s = ended s.now s.outer
run (w ∷ ws) s = and_then (take_in w s) (run ws)

abbrev pub begun : ParserState
begun = record { now = fresh None; outer = [] }

abbrev pub parse : List Token → Option Pattern
parse ws = run ws begun
