-- The variables of a run. POSIX awk, "Variables and Special Variables".
use Rattle.std.specs.Prelude.{◌≡◌, ◌≤◌, ◌+ℤ◌, ℕ, ℤ, Ok, Bool, ◌&&◌, if◌then◌else◌, pos, List, [], ◌∷◌, codes, bytes_eq, unwrap_or}
use Rattle.std.specs.Map.{lookup}
use Rattle.std.specs.Result.{is_err}
use Rattle.awk_value.specs.declared.value.Value.{Value}
use Rattle.awk_value.specs.declared.value.Value.TheVariants.{Nothing, Number, Text}
use Rattle.awk_value.specs.Values.{str_of}
use Rattle.awk_value.specs.Arithmetic.{sum_of}
use Rattle.awk_text.specs.Separators.{separator_of}
use Rattle.awk_kinds.specs.declared.special.Special.{Special}
use Rattle.awk_kinds.specs.declared.special.Special.TheVariants.{Argc, Convfmt, Filename, Fnr, Fs, Nr, Ofmt, Ofs, Ors, Rlength, Rs, Rstart, Subsep}

-- names with their values
abbrev pub Pairs : Type 0
Pairs = List (List ℕ × Value)

-- the value of a name; one that isn't there was never assigned
abbrev pub value_of : Pairs → List ℕ → Value
value_of pairs name = unwrap_or (lookup (bytes_eq name) pairs) Nothing

abbrev pub name_of : Special → List ℕ
name_of Argc = codes "ARGC"
name_of Convfmt = codes "CONVFMT"
name_of Filename = codes "FILENAME"
name_of Fnr = codes "FNR"
name_of Fs = codes "FS"
name_of Nr = codes "NR"
name_of Ofmt = codes "OFMT"
name_of Ofs = codes "OFS"
name_of Ors = codes "ORS"
name_of Rlength = codes "RLENGTH"
name_of Rs = codes "RS"
name_of Rstart = codes "RSTART"
name_of Subsep = codes "SUBSEP"

-- the values before the run, where ARGV has so many elements
abbrev pub initial_values : (arguments : ℕ) → Pairs
initial_values arguments =
    (codes "ARGC", Number (pos arguments))
    ∷ (codes "CONVFMT", Text (codes "%.6g"))
    ∷ (codes "FILENAME", Nothing)
    ∷ (codes "FNR", Number (pos 0))
    ∷ (codes "FS", Text (codes " "))
    ∷ (codes "NR", Number (pos 0))
    ∷ (codes "OFMT", Text (codes "%.6g"))
    ∷ (codes "OFS", Text (codes " "))
    ∷ (codes "ORS", Text (codes "\n"))
    ∷ (codes "RLENGTH", Nothing)
    ∷ (codes "RS", Text (codes "\n"))
    ∷ (codes "RSTART", Nothing)
    ∷ (codes "SUBSEP", Text (28 ∷ []))
    ∷ []

abbrev pub initial_value : (arguments : ℕ) → List ℕ → Value
initial_value arguments name = value_of (initial_values arguments) name

-- the values, with one name's changed
abbrev pub with_value : (List ℕ → Value) → List ℕ → Value → List ℕ → Value
with_value values name value other = if bytes_eq name other then value else values other

-- the name is FS, and the value's text is no separator: it is longer than a byte, and spells no ERE
abbrev pub is_refused : List ℕ → Value → Bool
is_refused name value = bytes_eq name (codes "FS") && is_err (separator_of (str_of value))

-- so many records are counted in NR and FNR, which are numbers; so are their counts on the way
pub record CountsRecords (count : ℕ) (old new : List ℕ → Value) : Type 0 where
  pub all : ℤ
  pub in_file : ℤ
  pub nr : old (name_of Nr) ≡ Number all
  pub fnr : old (name_of Fnr) ≡ Number in_file
  pub nr_counts : (k : ℕ) → k ≤ count → sum_of all (pos k) ≡ Ok (all +ℤ pos k)
  pub fnr_counts : (k : ℕ) → k ≤ count → sum_of in_file (pos k) ≡ Ok (in_file +ℤ pos k)
  pub counted : (x : List ℕ) → new x ≡ with_value (with_value old (name_of Nr) (Number (all +ℤ pos count))) (name_of Fnr) (Number (in_file +ℤ pos count)) x
