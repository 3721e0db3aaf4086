-- What a rule and END may read at a place, as the code keeps it.
use Rattle.std.specs.Prelude.{ℕ, Bool, List}
use Rattle.awk_pieces.specs.declared.readable.Known.{Known}
use Rattle.awk_pieces.specs.support.Known.{set_known, own_of, set_of}
use Rattle.awk_merging.specs.definitions.Sums.{Sum}
use Rattle.awk_merging.specs.definitions.Mergeable.{knows, shows}

abbrev pub known_in : List Sum → Known → List ℕ → Bool
known_in sums k = set_known (own_of k) (set_of k) (knows (own_of k) sums)

abbrev pub shown_in : Known → List ℕ → Bool
shown_in k = set_known (own_of k) (set_of k) (shows (own_of k))
