-- Lists side by side, as one.
use Rattle.std.specs.Prelude.{ℕ, Bool, List, [], ◌∷◌, map}
use Rattle.awk_kinds.specs.declared.variable.Variable.{Variable}
use Rattle.awk_kinds.specs.declared.variable.Variable.TheVariants.{Global}
use Rattle.awk_kinds.specs.definitions.Kinds.{FormalParameter}
use Rattle.awk_kinds.specs.definitions.Signatures.{Signature}

abbrev pub formals : List (List ℕ) → List Bool → List FormalParameter
formals [] bs = []
formals (x ∷ xs) [] = []
formals (x ∷ xs) (b ∷ bs) = record { name = x; is_array = b } ∷ formals xs bs

abbrev pub signatures : List (List ℕ) → List (List FormalParameter) → List Signature
signatures [] ps = []
signatures (x ∷ xs) [] = []
signatures (x ∷ xs) (p ∷ ps) = record { name = x; parameters = p } ∷ signatures xs ps

abbrev pub globals : List (List ℕ) → List Variable
globals xs = map (λ x. Global x) xs
