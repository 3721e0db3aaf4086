-- What a run needs of a program's names: the arrays of the whole program and the functions, each at its number.
use Rattle.std.specs.Prelude.{◌≡◌, ◌⊎◌, ℕ, suc, false, List, [], ◌∷◌, ◌++◌, map, bytes_eq, Option, Some, None, Result, Ok, Err, if◌then◌else◌}
use Rattle.std.specs.Option.{option_map}
use Rattle.awk_lex.specs.declared.refusal.Refusal.{Refusal}
use Rattle.awk_lex.specs.Refused.{IsOutOfMemory}
use Rattle.awk_kinds.specs.definitions.Names.{has_name}
use Rattle.awk_grammar.specs.Tree.{Item}
use Rattle.awk_kinds.specs.declared.variable.Variable.TheVariants.{Global}
use Rattle.awk_kinds.specs.definitions.SpecialNames.{special_arrays}
use Rattle.awk_kinds.specs.definitions.Kinds.{FormalParameter, Definition, is_member, arrays_of, array_names_of, definitions_of}
use Rattle.awk_kinds.specs.definitions.Fits.{has_repeat, first_refusal}

-- a function without its body
pub record Signature : Type 0 where
  pub name : List ℕ
  pub parameters : List FormalParameter

pub record ProgramKinds : Type 0 where
  pub arrays : List (List ℕ)
  pub functions : List Signature

abbrev pub signature_by : Definition → Signature
signature_by d = record { name = d.name; parameters = d.parameters }

abbrev pub kinds_of : List Item → ProgramKinds
kinds_of items = record { arrays = array_names_of items; functions = map signature_by (definitions_of items) }

-- the first place of a name
abbrev pub place_of : List (List ℕ) → List ℕ → Option ℕ
place_of [] x = None
place_of (y ∷ ys) x = if bytes_eq x y then Some 0 else option_map suc (place_of ys x)

abbrev pub parameter_names : List FormalParameter → List (List ℕ)
parameter_names parameters = map (λ (p : FormalParameter). p.name) parameters

abbrev pub signature_names : List Signature → List (List ℕ)
signature_names functions = map (λ (f : Signature). f.name) functions

-- the kinds of a program that nothing is told against, and else the first cause, unless memory is refused
abbrev pub Resolves : List Item → Result ProgramKinds Refusal → Type 0
Resolves items (Ok kinds) = (first_refusal items ≡ None) × (kinds ≡ kinds_of items)
Resolves items (Err refusal) = IsOutOfMemory refusal ⊎ ((first_refusal items ≡ Some refusal.code) × (refusal.line ≡ 1))

-- The names of arrays are those of the special variables first, each once, and those of the arrays of the whole program.
pub record AreArrayNames (items : List Item) (names : List (List ℕ)) : Type 0 where
  pub first : (rest : List (List ℕ)) × (names ≡ special_arrays ++ rest)
  pub once : has_repeat names ≡ false
  pub exactly : (x : List ℕ) → has_name names x ≡ is_member (arrays_of items) (Global x)

abbrev pub LawOfArrayNames : Type 0
LawOfArrayNames = (items : List Item) → AreArrayNames items (array_names_of items)
