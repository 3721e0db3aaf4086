-- The openings of outputs that a log tells, in their order, and what each has received.
-- (POSIX awk, STDOUT, STDERR, OUTPUT FILES; Output Statements)
use Rattle.std.specs.Prelude.{◌≡◌, ℕ, Bool, true, false, List, [], ◌∷◌, ◌++◌, Some, ◌==◌, if◌then◌else◌}
use Rattle.awk_world.specs.declared.world.OutputKind.{OutputKind}
use Rattle.awk_world.specs.definitions.Log.{Event, OpenedOutput, Wrote, Flushed, Closed}

-- what is printed to
pub data Output : Type 0 where
  StandardOutput : Output
  StandardError : Output
  Named : (kind : OutputKind) (name : List ℕ) → Output

-- one opening of an output, and its bytes; standard output and standard error are opened once, before a run
pub record Opening : Type 0 where
  pub output : Output
  pub bytes : List ℕ

-- the newest opening under a number receives more bytes
abbrev pub receives : ℕ → List ℕ → List (ℕ × Opening) → List (ℕ × Opening)
receives id bytes [] = []
receives id bytes (o ∷ older) = if o.0 == id then (o.0, record { output = o.1.output; bytes = o.1.bytes ++ bytes }) ∷ older else o ∷ receives id bytes older

-- the openings of outputs with their numbers, the newest first
abbrev pub openings : List Event → List (ℕ × Opening)
openings [] = (1, record { output = StandardError; bytes = [] }) ∷ (0, record { output = StandardOutput; bytes = [] }) ∷ []
openings (OpenedOutput kind name mode (Some id) ∷ older) = (id, record { output = Named kind name; bytes = [] }) ∷ openings older
openings (Wrote id bytes ∷ older) = receives id bytes (openings older)
openings (e ∷ older) = openings older

abbrev pub in_order : List (ℕ × Opening) → List Opening
in_order [] = []
in_order (o ∷ older) = in_order older ++ o.1 ∷ []

-- what was received, opening by opening in their order
abbrev pub outputs_of : List Event → List Opening
outputs_of log = in_order (openings log)

-- nothing was written under a number since it was flushed or closed
abbrev pub is_flushed : ℕ → List Event → Bool
is_flushed id [] = true
is_flushed id (Wrote i bytes ∷ older) = if i == id then false else is_flushed id older
is_flushed id (Flushed i ∷ older) = if i == id then true else is_flushed id older
is_flushed id (Closed i answer ∷ older) = if i == id then true else is_flushed id older
is_flushed id (e ∷ older) = is_flushed id older

abbrev pub AreFlushed : List (ℕ × Opening) → List Event → Type 0
AreFlushed [] log = Unit {0}
AreFlushed (o ∷ older) log = (is_flushed o.0 log ≡ true) × AreFlushed older log

-- the openings have received just these bytes, and the last of them were flushed
pub record AreBrought (outputs : List Opening) (log : List Event) : Type 0 where
  pub received : outputs_of log ≡ outputs
  pub flushed : AreFlushed (openings log) log

-- the one begins with the other's openings, in their order up to some point, each with a beginning of the bytes

pub record IsBeginning (x y : List ℕ) : Type 0 where
  pub more : List ℕ
  pub is : y ≡ x ++ more

abbrev pub Begins : List Opening → List Opening → Type 0
Begins [] ys = Unit {0}
Begins (x ∷ xs) [] = ⊥
Begins (x ∷ xs) (y ∷ ys) = (x.output ≡ y.output) × IsBeginning x.bytes y.bytes × Begins xs ys
