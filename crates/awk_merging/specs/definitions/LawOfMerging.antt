-- The law of merging: what a program prints of a whole input is what the second of the two programs that are derived of it prints of
-- what the first one printed on the pieces.
use Rattle.std.specs.Prelude.{◌≡◌, ◌≢◌, ◌⊎◌, ◌<◌, ◌^◌, ℕ, Bool, true, not, ◌&&◌, List, [], ◌∷◌, ◌++◌, length}
use Rattle.awk_record.specs.definitions.Cut.{longest}
use Rattle.awk_streams.specs.Oracle.{Oracle}
use Rattle.awk_grammar.specs.Tree.{Item}
use Rattle.awk_semantics.specs.declared.fault.Fault.TheVariants as fault
use Rattle.awk_semantics.specs.declared.outcome.Outcome.TheVariants.{Fault, Stopped}
use Rattle.awk_semantics.specs.definitions.Items.{has_rule}
use Rattle.awk_semantics.specs.definitions.Meaning.{StartValues, Meaning, meaning_of}
use Rattle.awk_pieces.specs.definitions.LawOfPieces.{EndsLine, Gives, StartsPlainly, Prints}
use Rattle.awk_merging.specs.definitions.Sums.{Sum, name_of_sum}
use Rattle.awk_merging.specs.definitions.LawOfCells.{IsLine}
use Rattle.awk_merging.specs.definitions.LawOfDerived.{IsOneOf}
use Rattle.awk_merging.specs.definitions.Mergeable.{sums_of_program, is_sum, IsMergeable}
use Rattle.awk_merging.specs.definitions.Derived.{each_of, all_of}

-- no line of the text is longer than a record may be
abbrev pub HasShortLines : List ℕ → Type 0
HasShortLines text = (front line back : List ℕ) → text ≡ front ++ (line ++ back) → IsLine line → length line < longest

-- the names of a program's sums are lines, as all names of a program's text are
abbrev pub HasLineNames : List Item → Type 0
HasLineNames items = (x : Sum) → IsOneOf x (sums_of_program items) → IsLine (name_of_sum x)

-- no operands, and assignments that leave the records and the sums as they are
abbrev pub all_leave_sums : List Sum → List (List ℕ × List ℕ) → Bool
all_leave_sums sums [] = true
all_leave_sums sums (x ∷ xs) = not (is_sum sums x.0) && all_leave_sums sums xs

pub record StartsApart (items : List Item) (start : StartValues) : Type 0 where
  pub plainly : StartsPlainly start
  pub sums : all_leave_sums (sums_of_program items) start.pre ≡ true

-- a piece of an input, what the first program printed of it, the outside of that run, and its limit of steps
pub record Piece : Type 0 where
  pub text : List ℕ
  pub state : List ℕ
  pub outside : Oracle
  pub limit : ℕ

abbrev pub texts_of : List Piece → List ℕ
texts_of [] = []
texts_of (piece ∷ pieces) = piece.text ++ texts_of pieces

abbrev pub states_of : List Piece → List ℕ
states_of [] = []
states_of (piece ∷ pieces) = piece.state ++ states_of pieces

-- each but the last is empty, or ends in a newline
abbrev pub AllButLastEndLine : Piece → List Piece → Type 0
AllButLastEndLine piece [] = Unit {0}
AllButLastEndLine piece (next ∷ pieces) = EndsLine piece.text × AllButLastEndLine next pieces

-- the run on the piece ended with status 0, and printed this
pub record IsPrinted (items : List Item) (start : StartValues) (piece : Piece) : Type 0 where
  pub given : Gives piece.outside piece.text
  pub prints : Prints (meaning_of (each_of items) start piece.outside piece.limit) piece.state
  pub short : HasShortLines piece.state

abbrev pub ArePrinted : List Item → StartValues → List Piece → Type 0
ArePrinted items start [] = Unit {0}
ArePrinted items start (piece ∷ pieces) = IsPrinted items start piece × ArePrinted items start pieces

-- both come to the same outcome, and print the same to each output
pub record SameEnd (x y : Meaning) : Type 0 where
  pub outcome : x.outcome ≡ y.outcome
  pub outputs : x.outputs ≡ y.outputs

-- where the first program ended with status 0 on each piece, one run over the whole comes to what the second program comes to on what
-- the first one printed, whatever steps are enough for both; or to fault 3, where a sum leaves the range
abbrev pub LawOfMerging : Type 0
LawOfMerging = (items : List Item) → IsMergeable items → HasLineNames items → has_rule items ≡ true → (start : StartValues) → StartsApart items start →
    (piece : Piece) (pieces : List Piece) → AllButLastEndLine piece pieces → ArePrinted items start (piece ∷ pieces) → length (texts_of (piece ∷ pieces)) < 2 ^ 127 → length (states_of (piece ∷ pieces)) < 2 ^ 127 →
    (of_states of_whole : Oracle) → Gives of_states (states_of (piece ∷ pieces)) → Gives of_whole (texts_of (piece ∷ pieces)) →
    (m n : ℕ) → (meaning_of (all_of items) start of_states m).outcome ≢ Stopped → (meaning_of items start of_whole n).outcome ≢ Stopped →
    ((meaning_of items start of_whole n).outcome ≡ Fault fault.NumberOutOfRange) ⊎ SameEnd (meaning_of (all_of items) start of_states m) (meaning_of items start of_whole n)
