-- A text has a match where it is said to have one.
use Rattle.awk_ere.proofs.OccursDecided.{occurs_sound, occurs_complete}
use Rattle.awk_ere.proofs.laws.occurs_law.Goals as goal

pub returns : goal.returns
returns c t s ordered = (occurs_sound t s ordered, occurs_complete t s)
