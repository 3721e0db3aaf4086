-- The special variables by their numbers: each at its index, in their names' order.
use Rattle.std.specs.Prelude.{ℕ, if◌then◌else◌, List, [], ◌∷◌, map, bytes_eq, Option, Some, None}
use Rattle.std.specs.Borrow.{Bor}
use Rattle.std.specs.Map.{lookup}
use Rattle.awk_kinds.specs.declared.special.Special.{Special}
use Rattle.awk_kinds.specs.declared.special.Special.TheVariants.{Argc, Convfmt, Filename, Fnr, Fs, Nr, Ofmt, Ofs, Ors, Rlength, Rs, Rstart, Subsep}
use Rattle.awk_kinds.specs.declared.special.OwnVariable.{OwnVariable}
use Rattle.awk_kinds.specs.declared.special.OwnVariable.TheVariants.{Array, FieldCount, Kept}
use Rattle.awk_kinds.specs.definitions.Variables.{name_of}

abbrev pub all_specials : List Special
all_specials = Argc ∷ Convfmt ∷ Filename ∷ Fnr ∷ Fs ∷ Nr ∷ Ofmt ∷ Ofs ∷ Ors ∷ Rlength ∷ Rs ∷ Rstart ∷ Subsep ∷ []

abbrev pub index_of : Special → ℕ
index_of Argc = 0
index_of Convfmt = 1
index_of Filename = 2
index_of Fnr = 3
index_of Fs = 4
index_of Nr = 5
index_of Ofmt = 6
index_of Ofs = 7
index_of Ors = 8
index_of Rlength = 9
index_of Rs = 10
index_of Rstart = 11
index_of Subsep = 12

-- the special variable of a name, if there is one
abbrev pub special_named : List ℕ → Option Special
special_named name = lookup (bytes_eq name) (map (λ s. (name_of s, s)) all_specials)

-- the special variable that a run keeps by itself, if this is one
abbrev pub kept : Option OwnVariable → Option Special
kept None = None
kept (Some Array) = None
kept (Some FieldCount) = None
kept (Some (Kept special first)) = Some special

-- names, each with the special variable that it is of
abbrev pub Named : Type 0
Named = List (List ℕ × Option Special)

abbrev pub named_by : Named → List ℕ → Option Special
named_by [] name = None
named_by (x ∷ xs) name = if bytes_eq name x.0 then x.1 else named_by xs name

abbrev pub names_in : List (Bor (List ℕ) × OwnVariable) → Named
names_in rows = map (λ row. (row.0.now, kept (Some row.1))) rows
