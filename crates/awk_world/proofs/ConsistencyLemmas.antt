-- What is consistent with a log is consistent with its beginnings.
use Rattle.std.proofs.Common.{List, [], ◌∷◌, ◌++◌}
use Rattle.awk_world.specs.definitions.Log.{Event}
use Rattle.awk_world.specs.definitions.Oracle.{Oracle, IsConsistent}
use Rattle.awk_world.specs.definitions.Writes.{with_events}

pub consistent-older : (a : Oracle) (newer older : List Event) → IsConsistent a (newer ++ older) → IsConsistent a older
consistent-older a [] older h = h
consistent-older a (e ∷ newer) older h = consistent-older a newer older h.1

pub consistent-before : (a : Oracle) (es log : List Event) → IsConsistent a (with_events es log) → IsConsistent a log
consistent-before a [] log h = h
consistent-before a (e ∷ es) log h = (consistent-before a es (e ∷ log) h).1
