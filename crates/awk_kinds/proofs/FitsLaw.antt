-- A program fits exactly where nothing is told against it.
use Rattle.std.specs.Prelude.{◌≡◌, refl, Bool, true, false, List, [], ◌∷◌, drop, Option, Some, None, if◌then◌else◌}
use Rattle.std.proofs.Common.{arith}
use Rattle.awk_grammar.specs.Tree.{Item}
use Rattle.awk_lex.specs.declared.refusal.RefusalCode.{RefusalCode}
use Rattle.awk_lex.specs.declared.refusal.RefusalCode.TheVariants.{UnexpectedByte, OpenString, EscapeRefused, OpenPattern, NumberRefused, ProgramTooLong, NotAProgram, NestedTooDeep, PatternIllFormed, PatternCountRefused, PatternTooLarge, UnknownFunction, DefinedTwice, TooManyArguments, ParameterRefused, StatementOutOfPlace, NameLeftOut, FunctionAsVariable, ArrayAndScalar, OutOfMemory}
use Rattle.awk_kinds.specs.definitions.Fits.{holds, first_of, in_order, first_refusal, Fits, LawOfRefusals}

-- a cause that isn't told doesn't hold, nor is one of the later ones told
not_told : (b : Bool) (code : RefusalCode) (rest : Option RefusalCode) → (if b then Some code else rest) ≡ None → (b ≡ false) × (rest ≡ None)
not_told true code rest e = absurd (grind arith)
not_told false code rest e = (refl, e)

later : (code : RefusalCode) (codes' : List RefusalCode) (items : List Item) → first_of (code ∷ codes') items ≡ None → (holds code items ≡ false) × (first_of codes' items ≡ None)
later code codes' items e = not_told (holds code items) code (first_of codes' items) e

each : (items : List Item) → holds UnknownFunction items ≡ false → holds DefinedTwice items ≡ false → holds TooManyArguments items ≡ false → holds ParameterRefused items ≡ false → holds StatementOutOfPlace items ≡ false → holds NameLeftOut items ≡ false → holds FunctionAsVariable items ≡ false → holds ArrayAndScalar items ≡ false → Fits items
each items two three four five six seven eight one UnknownFunction = two
each items two three four five six seven eight one DefinedTwice = three
each items two three four five six seven eight one TooManyArguments = four
each items two three four five six seven eight one ParameterRefused = five
each items two three four five six seven eight one StatementOutOfPlace = six
each items two three four five six seven eight one NameLeftOut = seven
each items two three four five six seven eight one FunctionAsVariable = eight
each items two three four five six seven eight one ArrayAndScalar = one
each items two three four five six seven eight one UnexpectedByte = refl
each items two three four five six seven eight one OpenString = refl
each items two three four five six seven eight one EscapeRefused = refl
each items two three four five six seven eight one OpenPattern = refl
each items two three four five six seven eight one NumberRefused = refl
each items two three four five six seven eight one ProgramTooLong = refl
each items two three four five six seven eight one NotAProgram = refl
each items two three four five six seven eight one NestedTooDeep = refl
each items two three four five six seven eight one PatternIllFormed = refl
each items two three four five six seven eight one PatternCountRefused = refl
each items two three four five six seven eight one PatternTooLarge = refl
each items two three four five six seven eight one OutOfMemory = refl

fits_by : (items : List Item) → first_refusal items ≡ None → Fits items
fits_by items e =
    let two = later UnknownFunction (drop 1 in_order) items e in
    let three = later DefinedTwice (drop 2 in_order) items two.1 in
    let four = later TooManyArguments (drop 3 in_order) items three.1 in
    let five = later ParameterRefused (drop 4 in_order) items four.1 in
    let six = later StatementOutOfPlace (drop 5 in_order) items five.1 in
    let seven = later NameLeftOut (drop 6 in_order) items six.1 in
    let eight = later FunctionAsVariable (drop 7 in_order) items seven.1 in
    let one = later ArrayAndScalar (drop 8 in_order) items eight.1 in
    each items two.0 three.0 four.0 five.0 six.0 seven.0 eight.0 one.0

none_told : (codes' : List RefusalCode) (items : List Item) → Fits items → first_of codes' items ≡ None
none_told [] items fits = refl
none_told (code ∷ codes') items fits = rw (fits code) (none_told codes' items fits)

pub law_of_refusals : (items : List Item) → LawOfRefusals items
law_of_refusals items = record { fits = fits_by items; none = none_told in_order items }
