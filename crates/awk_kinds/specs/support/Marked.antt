-- Functions and their parameters, where the arrays are known.
use Rattle.std.specs.Prelude.{ℕ, Bool, List, [], ◌∷◌, map}
use Rattle.awk_grammar.specs.Tree.{Item, Function}
use Rattle.awk_kinds.specs.declared.variable.Variable.TheVariants.{Parameter}
use Rattle.awk_kinds.specs.declared.arrays.Arrays.{Arrays}
use Rattle.awk_kinds.specs.definitions.Kinds.{FormalParameter}
use Rattle.awk_kinds.specs.support.Arrays.{is_marked}

abbrev pub is_marked_in : Arrays → List ℕ → List ℕ → Bool
is_marked_in arrays f x = is_marked arrays (Parameter f x)

abbrev pub marked_formal : Arrays → List ℕ → List ℕ → FormalParameter
marked_formal arrays f x = record { name = x; is_array = is_marked_in arrays f x }

-- the parameters of each function
abbrev pub marked_parameters : Arrays → List Item → List (List FormalParameter)
marked_parameters arrays [] = []
marked_parameters arrays (Function f parameters block ∷ xs) = map (marked_formal arrays f) parameters ∷ marked_parameters arrays xs
marked_parameters arrays (x ∷ xs) = marked_parameters arrays xs
