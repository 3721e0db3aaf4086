-- The functions of a program, as the code keeps them.
use Rattle.std.specs.Prelude.{◌≡◌, ℕ, List, [], ◌∷◌, ◌++◌, Option, Some, None, slice_get, bytes_eq, if◌then◌else◌}
use Rattle.std.specs.Option.{option_map}
use Rattle.std.specs.Map.{lookup}
use Rattle.awk_grammar.specs.Tree.{Item, Function}
use Rattle.awk_kinds.specs.declared.functions.Functions.{Functions}

-- the parameters of the first function of that name
abbrev pub signature_of : List Item → List ℕ → Option (List (List ℕ))
signature_of [] f = None
signature_of (Function g parameters block ∷ xs) f = if bytes_eq f g then Some parameters else signature_of xs f
signature_of (x ∷ xs) f = signature_of xs f

-- the names of the definitions
abbrev pub names_defined : List Item → List (List ℕ)
names_defined [] = []
names_defined (Function g parameters block ∷ xs) = g ∷ names_defined xs
names_defined (x ∷ xs) = names_defined xs

abbrev pub found : Functions → List ℕ → Option (List (List ℕ))
found functions f = option_map (λ all. all.items) (lookup (λ k. bytes_eq f k.items) functions.first.entries)

-- the first that is there
abbrev pub or_else : {A : Type 0} → Option A → Option A → Option A
or_else None b = b
or_else (Some x) b = Some x

-- the parameter at a place
abbrev pub parameter_at : Option (List (List ℕ)) → ℕ → Option (List ℕ)
parameter_at None n = None
parameter_at (Some parameters) n = slice_get parameters n

pub record AddsFunction (old new : Functions) (name : List ℕ) (parameters : List (List ℕ)) : Type 0 where
  pub names : new.names.items ≡ old.names.items ++ name ∷ []
  pub first : (f : List ℕ) → found new f ≡ or_else (found old f) (if bytes_eq f name then Some parameters else None)

pub record HoldsFunctions (items : List Item) (functions : Functions) : Type 0 where
  pub names : functions.names.items ≡ names_defined items
  pub first : (f : List ℕ) → found functions f ≡ signature_of items f
