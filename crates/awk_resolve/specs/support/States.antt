-- What nodes are asked of: the states in which the parts of a program run, the functions that it calls, and its scalars.
use Rattle.std.specs.Prelude.{◌≡◌, ◌≢◌, ℕ, ◌≤◌, Bool, true, false, List, [], ◌∷◌, codes, map, slice_get, Some}
use Rattle.awk_kinds.specs.declared.special.Special.{Special}
use Rattle.awk_kinds.specs.Variables.{name_of}
use Rattle.awk_kinds.specs.Names.{AreDistinct}
use Rattle.awk_kinds.specs.definitions.Kinds.{FormalParameter}
use Rattle.awk_kinds.specs.definitions.Signatures.{Signature}
use Rattle.awk_semantics.specs.declared.local.Local.{Local}
use Rattle.awk_semantics.specs.declared.local.Local.TheVariants as local
use Rattle.awk_semantics.specs.definitions.State.{State}
use Rattle.awk_semantics.specs.definitions.Calls.{role_of}
use Rattle.awk_semantics.specs.definitions.Semantics.{Functions}
use Rattle.awk_semantics.specs.support.Keeps.{CallsKeep}
use Rattle.awk_storage.specs.support.Positions.{newest_locals}
use Rattle.awk_resolve.specs.support.Nodes.{Tables}

-- a name whose value a run keeps by the name itself
pub record IsScalar (x : List ℕ) : Type 0 where
  pub not_special : (special : Special) → x ≢ name_of special
  pub not_count : x ≢ codes "NF"

-- scalars by their slots, each of which has one
pub record AreScalars (names : List (List ℕ)) : Type 0 where
  pub each : (i : ℕ) (x : List ℕ) → slice_get names i ≡ Some x → IsScalar x
  pub distinct : AreDistinct names

-- whether a parameter was given an array
abbrev pub is_array_local : Local → Bool
is_array_local (local.Value v) = false
is_array_local (local.Array n) = true

-- parameters are given arrays where they are arrays; what is given behind the last one is of no use
abbrev pub LocalsFit : (are_arrays : List Bool) → List Local → Type 0
LocalsFit [] ls = Unit {0}
LocalsFit (b ∷ bs) [] = Unit {0}
LocalsFit (b ∷ bs) (l ∷ ls) = (is_array_local l ≡ b) × LocalsFit bs ls

-- a state in which a body with these parameters runs, with at most so many steps; BEGIN, END and rules have none
pub record IsIn (tables : Tables) (parameters : List FormalParameter) (most : ℕ) (s : State) : Type 0 where
  pub low : s.steps ≤ most
  pub names : map (λ (l : List ℕ × Local). l.0) (newest_locals s.frames) ≡ map (λ (p : FormalParameter). p.name) parameters
  pub kinds : map (λ (l : List ℕ × Local). is_array_local l.1) (newest_locals s.frames) ≡ map (λ (p : FormalParameter). p.is_array) parameters
  pub arrays : s.array_names ≡ tables.arrays

-- functions that are called by these tables, and keep what a call keeps
pub record AreFor (tables : Tables) (functions : Functions) : Type 0 where
  pub keep : CallsKeep functions
  pub roles : (i : ℕ) (f : Signature) → slice_get tables.functions i ≡ Some f → functions.roles f.name ≡ map role_of f.parameters
