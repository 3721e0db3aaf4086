-- The calls that are active: as many entries as bodies, each of which has a height.
use Rattle.std.specs.Prelude.{◌≡◌, ◌<◌, ℕ, List, [], ◌∷◌, length}
use Rattle.awk_storage.specs.support.Control.{Controlled}

abbrev pub AreHigh : List ℕ → Type 0
AreHigh [] = Unit {0}
AreHigh (height ∷ heights) = (0 < height) × AreHigh heights

pub record AreEntered (c : Controlled) : Type 0 where
  pub many : length c.entries ≡ length c.heights
  pub high : AreHigh c.heights
