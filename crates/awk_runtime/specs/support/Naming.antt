-- The names of a program and the texts of its EREs, by their places.
use Rattle.std.specs.Prelude.{◌≡◌, ℕ, Bool, false, ◌||◌, List, [], slice_get, get_or, Some, codes, bytes_eq}
use Rattle.awk_lex.specs.Words.{is_reserved, is_left_out}
use Rattle.awk_kinds.specs.declared.special.Special.{Special}
use Rattle.awk_kinds.specs.Variables.{name_of}
use Rattle.awk_semantics.specs.Inputs.{is_among}

pub record Naming : Type 0 where
  -- the variables of the whole program, by their slots
  pub scalars : List (List ℕ)
  -- the arrays of the whole program, by their numbers
  pub arrays : List (List ℕ)
  pub functions : List (List ℕ)
  -- the texts between the slashes of its EREs, by their numbers
  pub eres : List (List ℕ)

-- the text of an ERE, by its number
abbrev pub ere_at : Naming → ℕ → List ℕ
ere_at names number = get_or names.eres number []

-- none is a special variable's, or NF
abbrev pub AreOwn : List (List ℕ) → Type 0
AreOwn names = (i : ℕ) (x : List ℕ) → slice_get names i ≡ Some x → (bytes_eq x (codes "NF") ≡ false) × ((y : Special) → bytes_eq (name_of y) x ≡ false)

-- a name that no command line assigns: a keyword, a built-in, one that is left out, an array or a function
abbrev pub is_unassignable_among : Naming → List ℕ → Bool
is_unassignable_among names x = is_reserved x || (is_left_out x || (is_among x names.arrays || is_among x names.functions))
