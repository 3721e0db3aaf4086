-- The law of pieces: where a program treats each record for itself, what it prints on an input is what it prints on the
-- pieces of the input, one behind the other.
use Rattle.std.specs.Prelude.{◌≡◌, ◌≤◌, ◌<◌, ◌+◌, ◌^◌, ◌⊎◌, ℕ, Bool, true, ◌&&◌, List, [], ◌∷◌, ◌++◌, length, Some}
use Rattle.awk_record.specs.definitions.Cut.{AtEnd}
use Rattle.awk_world.specs.declared.world.InputKind.TheVariants as input
use Rattle.awk_streams.specs.Oracle.{Oracle}
use Rattle.awk_streams.specs.Openings.{StandardOutput, StandardError}
use Rattle.awk_grammar.specs.Tree.{Item}
use Rattle.awk_semantics.specs.declared.outcome.Outcome.TheVariants.{Ended}
use Rattle.awk_semantics.specs.definitions.Meaning.{StartValues, Meaning, meaning_of}
use Rattle.awk_pieces.specs.definitions.Pieceable.{leaves_records, IsPieceable}

-- a text that is empty, or ends in a newline
abbrev pub EndsLine : List ℕ → Type 0
EndsLine text = (text ≡ []) ⊎ ((front : List ℕ) × (text ≡ front ++ 10 ∷ []))

-- standard input gives this text
abbrev pub Gives : Oracle → List ℕ → Type 0
Gives outside text = outside.input input.Standard [] 0 ≡ Some (record { bytes = text; ending = AtEnd })

-- the assignments before the run leave the records as they are
abbrev pub all_leave_records : List (List ℕ × List ℕ) → Bool
all_leave_records [] = true
all_leave_records (x ∷ xs) = leaves_records x.0 && all_leave_records xs

-- no operands, and assignments that leave the records as they are
pub record StartsPlainly (start : StartValues) : Type 0 where
  pub operands : start.operands ≡ []
  pub assignments : all_leave_records start.pre ≡ true

-- the run ends with status 0, and these bytes are all that it printed, to standard output
pub record Prints (meaning : Meaning) (bytes : List ℕ) : Type 0 where
  pub ends : meaning.outcome ≡ Ended 0
  pub prints : meaning.outputs ≡ record { output = StandardOutput; bytes = bytes } ∷ record { output = StandardError; bytes = [] } ∷ []

-- where the run over a first text that ends in a newline ends well, and the run over a second one, so does the run over
-- both with the steps of both, and prints what the first printed and then what the second printed
abbrev pub LawOfPieces : Type 0
LawOfPieces = (items : List Item) → IsPieceable items → (start : StartValues) → StartsPlainly start →
    (a b : List ℕ) → EndsLine a → length a + length b < 2 ^ 127 →
    (of_a of_b of_both : Oracle) → Gives of_a a → Gives of_b b → Gives of_both (a ++ b) → (m n limit : ℕ) → m + n ≤ limit →
    (meaning_of items start of_a m).outcome ≡ Ended 0 → (meaning_of items start of_b n).outcome ≡ Ended 0 →
    (x y : List ℕ) × Prints (meaning_of items start of_a m) x × Prints (meaning_of items start of_b n) y × Prints (meaning_of items start of_both limit) (x ++ y)
