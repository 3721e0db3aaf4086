-- The frames in which a part of a `for` ends.
use Rattle.std.specs.Prelude.{Bool, true, false, List, [], ◌∷◌}
use Rattle.awk_grammar.specs.support.Parser.{Frame, InForFirst, InForLast}

abbrev pub is_part : Frame → Bool
is_part InForFirst = true
is_part (InForLast p c) = true
is_part f = false

abbrev pub is_part_on : List Frame → Bool
is_part_on [] = false
is_part_on (f ∷ k) = is_part f
