-- Streams of which those of a text hold nothing back any longer.
use Rattle.std.proofs.Common.{◌≡◌, ◌≤◌, ℕ, zero, suc, Bool, true, false, List, [], ◌∷◌, take, length, set, Some, None, refl, sym, ◌∙◌, ap, arith}
use Rattle.std.specs.Prelude.{slice_get, ◌==◌, ◌&&◌, ◌||◌}
use Rattle.std.proofs.lemmas.Option.{same_Some}
use Rattle.awk_world.specs.declared.world.InputKind.{InputKind}
use Rattle.awk_world.specs.declared.world.OutputKind.{OutputKind}
use Rattle.awk_streams.specs.declared.input.Input.{Input}
use Rattle.awk_streams.specs.declared.output.Output.{Output}
use Rattle.awk_streams.specs.declared.named.NamedStream.{NamedStream}
use Rattle.awk_streams.specs.declared.named.NamedStream.TheVariants as named
use Rattle.awk_streams.specs.definitions.Streams.{number_of, unheld, all_unheld}
use Rattle.awk_streams.specs.definitions.Flushes.{is_output_called, is_number_among, held_unless, emptied, all_emptied}
use Rattle.awk_streams.specs.support.Held.{held_by, AreEmpty}
use Rattle.awk_streams.specs.support.Flushing.{is_number_at, emptied_to, emptied_at}

no_element : {T : Type 0} {P : Type 0} (x : T) → None ≡ Some x → P
no_element x e = cc

false_true : {P : Type 0} → false ≡ true → P
false_true e = cc

input_output : {P : Type 0} (k : InputKind) (n : List ℕ) (input : Input) (k' : OutputKind) (n' : List ℕ) (output : Output) → named.Input k n input ≡ named.Output k' n' output → P
input_output k n input k' n' output e = cc

-- they differ from what they were by what is held back

unheld_emptied : (text : List ℕ) (x : NamedStream) → unheld (emptied text x) ≡ unheld x
unheld_emptied text (named.Input k n input) = refl
unheld_emptied text (named.Output k n output) = refl

pub all_unheld_emptied : (text : List ℕ) (xs : List NamedStream) → all_unheld (all_emptied text xs) ≡ all_unheld xs
all_unheld_emptied text [] = refl
all_unheld_emptied text (x ∷ xs) = ap (λ y. y ∷ all_unheld (all_emptied text xs)) (unheld_emptied text x) ∙ ap (λ ys. unheld x ∷ ys) (all_unheld_emptied text xs)

pub unheld_emptied_to : (i : ℕ) (text : List ℕ) (xs : List NamedStream) → all_unheld (emptied_to i text xs) ≡ all_unheld xs
unheld_emptied_to zero text xs = refl
unheld_emptied_to (suc i) text [] = refl
unheld_emptied_to (suc i) text (x ∷ xs) = ap (λ y. y ∷ all_unheld (emptied_to i text xs)) (unheld_emptied text x) ∙ ap (λ ys. unheld x ∷ ys) (unheld_emptied_to i text xs)

-- one place after the other

pub emptied_next : (i : ℕ) (text : List ℕ) (xs : List NamedStream) → emptied_at i text (emptied_to i text xs) ≡ emptied_to (suc i) text xs
emptied_next zero text [] = refl
emptied_next zero text (x ∷ xs) = refl
emptied_next (suc i) text [] = refl
emptied_next (suc i) text (x ∷ xs) = ap (λ ys. emptied text x ∷ ys) (emptied_next i text xs)

pub emptied_to_get : (i : ℕ) (text : List ℕ) (xs : List NamedStream) → slice_get (emptied_to i text xs) i ≡ slice_get xs i
emptied_to_get zero text xs = refl
emptied_to_get (suc i) text [] = refl
emptied_to_get (suc i) text (x ∷ xs) = emptied_to_get i text xs

pub emptied_to_length : (i : ℕ) (text : List ℕ) (xs : List NamedStream) → length (emptied_to i text xs) ≡ length xs
emptied_to_length zero text xs = refl
emptied_to_length (suc i) text [] = refl
emptied_to_length (suc i) text (x ∷ xs) = ap suc (emptied_to_length i text xs)

pub emptied_to_all : (i : ℕ) (text : List ℕ) (xs : List NamedStream) → length xs ≤ i → emptied_to i text xs ≡ all_emptied text xs
emptied_to_all zero text [] le = refl
emptied_to_all zero text (x ∷ xs) le = absurd (omega arith)
emptied_to_all (suc i) text [] le = refl
emptied_to_all (suc i) text (x ∷ xs) le = ap (λ ys. emptied text x ∷ ys) (emptied_to_all i text xs (omega arith))

-- the stream in a place

at_called : (text : List ℕ) (x y : NamedStream) → is_output_called text x ≡ true → unheld y ≡ unheld x → held_by y ≡ [] → y ≡ emptied text x
at_called text (named.Input k n input) y called same none = false_true called
at_called text (named.Output k n o) (named.Input k' n' input) called same none = input_output k' n' input k n record { id = o.id; held = [] } same
at_called text (named.Output k n o) (named.Output k' n' o') called same none =
    ap (λ (h : List ℕ). named.Output k' n' record { id = o'.id; held = h }) none
    ∙ (same ∙ ap (λ (b : Bool). named.Output k n record { id = o.id; held = held_unless b o.held }) (sym called))

at_other : (text : List ℕ) (x : NamedStream) → is_output_called text x ≡ false → emptied text x ≡ x
at_other text (named.Input k n input) other = refl
at_other text (named.Output k n o) other = ap (λ (b : Bool). named.Output k n record { id = o.id; held = held_unless b o.held }) other

set_emptied : (i : ℕ) (text : List ℕ) (xs : List NamedStream) (x y : NamedStream) → slice_get xs i ≡ Some x → y ≡ emptied text x → set xs i y ≡ emptied_at i text xs
set_emptied i text [] x y at is = no_element x at
set_emptied zero text (z ∷ zs) x y at is = ap (λ (w : NamedStream). w ∷ zs) (is ∙ ap (emptied text) (sym (same_Some z x at)))
set_emptied (suc i) text (z ∷ zs) x y at is = ap (λ ws. z ∷ ws) (set_emptied i text zs x y at is)

pub called_at : (i : ℕ) (text : List ℕ) (xs : List NamedStream) (x y : NamedStream) → slice_get xs i ≡ Some x → is_output_called text x ≡ true → unheld y ≡ unheld x → held_by y ≡ [] → set xs i y ≡ emptied_at i text xs
called_at i text xs x y at called same none = set_emptied i text xs x y at (at_called text x y called same none)

pub other_at : (i : ℕ) (text : List ℕ) (xs : List NamedStream) (x : NamedStream) → slice_get xs i ≡ Some x → is_output_called text x ≡ false → xs ≡ emptied_at i text xs
other_at i text [] x at other = no_element x at
other_at zero text (z ∷ zs) x at other =
    let same : z ≡ x = same_Some z x at in
    ap (λ (w : NamedStream). w ∷ zs) (same ∙ (sym (at_other text x other) ∙ ap (emptied text) (sym same)))
other_at (suc i) text (z ∷ zs) x at other = ap (λ ws. z ∷ ws) (other_at i text zs x at other)

-- the numbers of those of the text

or_false : (b : Bool) → (b || false) ≡ b
or_false true = refl
or_false false = refl

or_assoc : (a b c : Bool) → (a || (b || c)) ≡ ((a || b) || c)
or_assoc true b c = refl
or_assoc false b c = refl

pub among_next : (i : ℕ) (text : List ℕ) (xs : List NamedStream) (id : ℕ) → is_number_among text (take (suc i) xs) id ≡ (is_number_among text (take i xs) id || is_number_at text (slice_get xs i) id)
among_next zero text [] id = refl
among_next (suc i) text [] id = refl
among_next zero text (x ∷ xs) id = or_false (is_output_called text x && number_of x == id)
among_next (suc i) text (x ∷ xs) id =
    let here : Bool = is_output_called text x && number_of x == id in
    ap (λ b. here || b) (among_next i text xs id) ∙ or_assoc here (is_number_among text (take i xs) id) (is_number_at text (slice_get xs i) id)

-- where all hold nothing back, what is left is what they are without it

pub unheld_empty : (xs : List NamedStream) → AreEmpty xs → all_unheld xs ≡ xs
unheld_empty [] h = refl
unheld_empty (named.Input k n input ∷ xs) h = ap (λ ys. named.Input k n input ∷ ys) (unheld_empty xs h)
unheld_empty (named.Output k n o ∷ xs) h =
    ap (λ (b : List ℕ). named.Output k n record { id = o.id; held = b } ∷ all_unheld xs) (sym h.0) ∙ ap (λ ys. named.Output k n o ∷ ys) (unheld_empty xs h.1)
