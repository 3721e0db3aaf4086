-- What the log of a world has in order, whatever the outside answers.
use Rattle.std.specs.Prelude.{◌≡◌, ◌≤◌, ◌<◌, ◌⊎◌, ℕ, Bool, true, false, List, [], ◌∷◌, Some, None, is_some}
use Rattle.awk_world.specs.declared.world.OutputKind.{OutputKind}
use Rattle.awk_world.specs.definitions.Log.{Event, OpenedInput, OpenedOutput, Read, Ended, Broke, Wrote, Flushed, Closed}
use Rattle.awk_world.specs.definitions.Oracle.{Reading, reading_of, AnOutput, standing}

-- an input stands open under this number, and its ending was not met
pub record IsReadable (id : ℕ) (log : List Event) : Type 0 where
  pub reading : Reading
  pub stands : reading_of id log ≡ Some reading
  pub unended : reading.is_over ≡ false

-- nothing stands open under this number, and it is no standard output's
pub record IsFree (id : ℕ) (log : List Event) : Type 0 where
  pub none : standing id log ≡ None
  pub named : 2 ≤ id

-- a standard output has this number, or an output stands open under it
abbrev pub IsWritable : ℕ → List Event → Type 0
IsWritable id log = (id < 2) ⊎ ((kind : OutputKind) × (standing id log ≡ Some (AnOutput kind)))

-- a granted number is free before, what is read stands open and isn't over, what is written and flushed is an output, and what is closed stands open
abbrev pub IsOrderlyAt : Event → List Event → Type 0
IsOrderlyAt (OpenedInput kind name (Some id)) older = IsFree id older
IsOrderlyAt (OpenedOutput kind name mode (Some id)) older = IsFree id older
IsOrderlyAt (Read id bs) older = IsReadable id older
IsOrderlyAt (Ended id) older = IsReadable id older
IsOrderlyAt (Broke id) older = IsReadable id older
IsOrderlyAt (Wrote id bs) older = IsWritable id older
IsOrderlyAt (Flushed id) older = IsWritable id older
IsOrderlyAt (Closed id n) older = is_some (standing id older) ≡ true
IsOrderlyAt e older = Unit {0}

abbrev pub IsOrderly : List Event → Type 0
IsOrderly [] = Unit {0}
IsOrderly (e ∷ older) = IsOrderlyAt e older × IsOrderly older

-- the log of a world is in order, and what stands open in it is open in the world
pub record IsInOrder (is_open : ℕ → Bool) (log : List Event) : Type 0 where
  pub orderly : IsOrderly log
  pub known : (id : ℕ) → is_some (standing id log) ≡ true → is_open id ≡ true
