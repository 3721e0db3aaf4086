-- What is kept of the patterns of a run.
use Rattle.std.specs.Prelude.{◌≡◌, ℕ, []}
use Rattle.lru.specs.LruCache.{lru_cache}
use Rattle.awk_functions.specs.declared.patterns.Patterns.{Patterns}

-- nothing is kept, and of those that neither stand in the program nor are among the newest so many may be
pub record KeepsNothing (patterns : Patterns) (room : ℕ) : Type 0 where
  pub fixed : patterns.fixed.items ≡ []
  pub newest : patterns.newest.items ≡ []
  pub cached : patterns.cached ≡ lru_cache [] room
