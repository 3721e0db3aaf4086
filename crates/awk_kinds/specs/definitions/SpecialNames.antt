-- The names of awk's own variables (POSIX awk, Variables and Special Variables).
use Rattle.std.specs.Prelude.{ℕ, List, [], ◌∷◌, codes}

-- those that are arrays, and those that are scalars
abbrev pub special_arrays : List (List ℕ)
special_arrays = codes "ARGV" ∷ codes "ENVIRON" ∷ []

abbrev pub special_scalars : List (List ℕ)
special_scalars =
    codes "ARGC" ∷ codes "CONVFMT" ∷ codes "FILENAME" ∷ codes "FNR" ∷ codes "FS" ∷ codes "NF" ∷ codes "NR"
    ∷ codes "OFMT" ∷ codes "OFS" ∷ codes "ORS" ∷ codes "RLENGTH" ∷ codes "RS" ∷ codes "RSTART" ∷ codes "SUBSEP" ∷ []
