-- How variables are passed to parameters, as a graph.
use Rattle.std.specs.Prelude.{◌≡◌, ◌<◌, ℕ, Bool, true, List, [], ◌∷◌, ◌++◌, length, map, get_or, Some}
use Rattle.std.specs.List.{Contains}
use Rattle.awk_kinds.specs.declared.variable.Variable.{Variable}
use Rattle.awk_kinds.specs.declared.variable.Variable.TheVariants.{Global, Parameter}
use Rattle.awk_kinds.specs.declared.uses.ArrayUse.{ArrayUse}
use Rattle.awk_kinds.specs.declared.uses.ArrayUse.TheVariants.{Used, Passed}
use Rattle.awk_kinds.specs.declared.functions.Functions.{Functions}
use Rattle.awk_kinds.specs.declared.graph.Graph.{Graph}
use Rattle.awk_kinds.specs.definitions.SpecialNames.{special_arrays}
use Rattle.awk_kinds.specs.support.Functions.{found, parameter_at}

-- the variable of a number
abbrev pub variable_at : List Variable → ℕ → Variable
variable_at vs n = get_or vs n (Global [])

-- a name of the whole program, used as an array
abbrev pub global_use : List ℕ → ArrayUse
global_use x = Used (Global x)

-- the special variables that are arrays, as used
abbrev pub special_uses : List ArrayUse
special_uses = map global_use special_arrays

-- a set of variables has what the use tells
abbrev pub Closes : Functions → (Variable → Bool) → ArrayUse → Type 0
Closes functions P (Used v) = P v ≡ true
Closes functions P (Passed v f n) = (x : List ℕ) → parameter_at (found functions f) n ≡ Some x → P (Parameter f x) ≡ true → P v ≡ true

abbrev pub IsClosedUnder : Functions → (Variable → Bool) → List ArrayUse → Type 0
IsClosedUnder functions P [] = Unit {0}
IsClosedUnder functions P (u ∷ us) = Closes functions P u × IsClosedUnder functions P us

-- a set of variables has the first ones, and the front of each edge whose end it has
pub record IsClosedAlong (P : Variable → Bool) (vs : List Variable) (ns : List ℕ) (es : List (ℕ × ℕ)) : Type 0 where
  pub first : (v : ℕ) → Contains ns v → P (variable_at vs v) ≡ true
  pub along : (v w : ℕ) → Contains es (v, w) → P (variable_at vs w) ≡ true → P (variable_at vs v) ≡ true

abbrev pub IsGraphClosed : (Variable → Bool) → Graph → Type 0
IsGraphClosed P g = IsClosedAlong P g.variables.keys g.first.items g.edges.items

-- the numbers are of variables
pub record HasNumbers (g : Graph) : Type 0 where
  pub first : (v : ℕ) → Contains g.first.items v → v < length g.variables.keys
  pub edges : (v w : ℕ) → Contains g.edges.items (v, w) → (v < length g.variables.keys) × (w < length g.variables.keys)

pub record Numbers (old new : Graph) (number : ℕ) (v : Variable) : Type 0 where
  pub grows : (more : List Variable) × (new.variables.keys ≡ old.variables.keys ++ more)
  pub first : new.first ≡ old.first
  pub edges : new.edges ≡ old.edges
  pub low : number < length new.variables.keys
  pub is : variable_at new.variables.keys number ≡ v

-- more is asked of a closed set
pub record Asks (old new : Graph) (More : (Variable → Bool) → Type 0) : Type 0 where
  pub numbers : HasNumbers old → HasNumbers new
  pub before : HasNumbers old → (P : Variable → Bool) → IsGraphClosed P new → IsGraphClosed P old
  pub more : HasNumbers old → (P : Variable → Bool) → IsGraphClosed P new → More P
  pub both : HasNumbers old → (P : Variable → Bool) → IsGraphClosed P old → More P → IsGraphClosed P new

abbrev pub AddsFirst : Graph → Graph → Variable → Type 0
AddsFirst old new v = Asks old new (λ P. P v ≡ true)

abbrev pub AddsEdge : Graph → Graph → Variable → Variable → Type 0
AddsEdge old new v w = Asks old new (λ P. P w ≡ true → P v ≡ true)

abbrev pub AddsUse : Functions → Graph → Graph → ArrayUse → Type 0
AddsUse functions old new u = Asks old new (λ P. Closes functions P u)

-- the sets that are closed under the uses are those that are closed along the graph
pub record FollowsUses (functions : Functions) (us : List ArrayUse) (g : Graph) : Type 0 where
  pub numbers : HasNumbers g
  pub from : (P : Variable → Bool) → IsClosedUnder functions P us → IsGraphClosed P g
  pub to : (P : Variable → Bool) → IsGraphClosed P g → IsClosedUnder functions P us
