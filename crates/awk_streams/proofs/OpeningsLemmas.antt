-- What stretches of a log bring to the openings of outputs.
use Rattle.std.proofs.Common.{◌≡◌, ℕ, List, [], ◌∷◌, ◌++◌, take, drop, refl, sym, ◌∙◌, ap, subst, append_assoc, append-nil}
use Rattle.std.proofs.lemmas.List.{take-append-drop}
use Rattle.std.proofs.lemmas.Bool.{cond-true, cond-false, ne_eqb, eq-eqb, cases_eq}
use Rattle.std.proofs.Common.{inl, inr}
use Rattle.awk_record.specs.Cut.{Ending}
use Rattle.std.specs.Prelude.{Option}
use Rattle.awk_world.specs.definitions.Log.{Event, Read, Ended, Broke, Wrote}
use Rattle.awk_world.specs.definitions.Writes.{with_events, GoesOn, Writes, flushed_if}
use Rattle.awk_world.specs.definitions.Openings.{Opening, receives, openings, in_order, IsBeginning, Begins}
use Rattle.awk_streams.specs.definitions.Inputs.{NeededReads}
use Rattle.std.specs.Prelude.{Bool, true, false, ℤ, Some, None}
use Rattle.awk_streams.specs.declared.input.Input.{Input}
use Rattle.awk_streams.specs.definitions.MainInput.{closed_main}

-- no bytes more change nothing
pub receives-none : (id : ℕ) (os : List (ℕ × Opening)) → receives id [] os ≡ os
receives-none id [] = refl
receives-none id ((i, o) ∷ older) = elim (cases_eq i id) [
  | inl same ↦ cond-true _ _ _ (eq-eqb i id same) ∙ ap (λ bytes. (i, record { output = o.output; bytes = bytes }) ∷ older) (append-nil o.bytes)
  | inr differs ↦ cond-false _ _ _ (ne_eqb i id differs) ∙ ap (λ more. (i, o) ∷ more) (receives-none id older)
]

-- bytes after bytes
pub receives-more : (id : ℕ) (xs ys : List ℕ) (os : List (ℕ × Opening)) → receives id ys (receives id xs os) ≡ receives id (xs ++ ys) os
receives-more id xs ys [] = refl
receives-more id xs ys ((i, o) ∷ older) = elim (cases_eq i id) [
  | inl same ↦
      let here = eq-eqb i id same in
      ap (receives id ys) (cond-true _ _ _ here) ∙ (cond-true _ _ _ here ∙ (ap (λ bytes. (i, record { output = o.output; bytes = bytes }) ∷ older) (append_assoc o.bytes xs ys) ∙ sym (cond-true _ _ _ here)))
  | inr differs ↦
      let here = ne_eqb i id differs in
      ap (receives id ys) (cond-false _ _ _ here) ∙ (cond-false _ _ _ here ∙ (ap (λ more. (i, o) ∷ more) (receives-more id xs ys older) ∙ sym (cond-false _ _ _ here)))
]

openings-with : (id : ℕ) (bytes : List ℕ) (es log : List Event) → Writes id bytes es → openings (with_events es log) ≡ receives id bytes (openings log)
openings-with id bytes [] log none = sym (receives-none id (openings log)) ∙ ap (λ b. receives id b (openings log)) (sym none)
openings-with id bytes (Wrote i bs ∷ es) log (same, (rest, is, later)) =
    openings-with id rest es (Wrote i bs ∷ log) later ∙ (ap (λ j. receives id rest (receives j bs (openings log))) same ∙ (receives-more id bs rest (openings log) ∙ ap (λ b. receives id b (openings log)) (sym is)))
openings-with id bytes (e ∷ es) log h = absurd h

pub openings-writes : (id : ℕ) (bytes : List ℕ) (old new : List Event) → GoesOn (Writes id bytes) old new → openings new ≡ receives id bytes (openings old)
openings-writes id bytes old new h = ap openings h.log ∙ openings-with id bytes h.events old h.each

pub openings-reads : (id : ℕ) (separator b b' : List ℕ) (ending : Option Ending) (es log : List Event) → NeededReads id separator b b' ending es → openings (with_events es log) ≡ openings log
openings-reads id separator b b' ending [] log h = refl
openings-reads id separator b b' ending (Read i bs ∷ es) log (same, undecided, later) = openings-reads id separator (b ++ bs) b' ending es (Read i bs ∷ log) later
openings-reads id separator b b' ending (Ended i ∷ es) log (same, undecided, last, bytes, met) = ap (λ (x : List Event). openings (with_events x (Ended i ∷ log))) last
openings-reads id separator b b' ending (Broke i ∷ es) log (same, undecided, last, bytes, met) = ap (λ (x : List Event). openings (with_events x (Broke i ∷ log))) last
openings-reads id separator b b' ending (e ∷ es) log h = absurd h

pub openings-flush : (done : Bool) (id : ℕ) (log : List Event) → openings (flushed_if done id log) ≡ openings log
openings-flush true id log = refl
openings-flush false id log = refl

pub openings-close : (main : Option Input) (n : ℤ) (log : List Event) → openings (closed_main main n log) ≡ openings log
openings-close None n log = refl
openings-close (Some v) n log = refl

-- what has received more begins, opening by opening, with what it was

abbrev BeginEach : List Opening → List Opening → Type 0
BeginEach [] [] = Unit {0}
BeginEach (x ∷ xs) (y ∷ ys) = (x.output ≡ y.output) × IsBeginning x.bytes y.bytes × BeginEach xs ys
BeginEach xs ys = ⊥

each_begins : (xs ys : List Opening) → BeginEach xs ys → Begins xs ys
each_begins [] ys h = tt
each_begins (x ∷ xs) [] h = absurd h
each_begins (x ∷ xs) (y ∷ ys) h = (h.0, h.1, each_begins xs ys h.2)

each_last : (xs ys : List Opening) (x y : Opening) → BeginEach xs ys → x.output ≡ y.output → IsBeginning x.bytes y.bytes → BeginEach (xs ++ x ∷ []) (ys ++ y ∷ [])
each_last [] [] x y h same begins = (same, begins, tt)
each_last [] (b ∷ ys) x y h same begins = absurd h
each_last (a ∷ xs) [] x y h same begins = absurd h
each_last (a ∷ xs) (b ∷ ys) x y h same begins = (h.0, h.1, each_last xs ys x y h.2 same begins)

beginning_self : (bytes : List ℕ) → IsBeginning bytes bytes
beginning_self bytes = record { more = []; is = sym (append-nil bytes) }

each_self : (os : List (ℕ × Opening)) → BeginEach (in_order os) (in_order os)
each_self [] = tt
each_self ((i, o) ∷ older) = each_last (in_order older) (in_order older) o o (each_self older) refl (beginning_self o.bytes)

each_received : (id : ℕ) (bytes : List ℕ) (os : List (ℕ × Opening)) → BeginEach (in_order os) (in_order (receives id bytes os))
each_received id bytes [] = tt
each_received id bytes ((i, o) ∷ older) = elim (cases_eq i id) [
  | inl same ↦
      subst (λ (l : List (ℕ × Opening)). BeginEach (in_order older ++ o ∷ []) (in_order l)) (sym (cond-true _ _ _ (eq-eqb i id same)))
      (each_last (in_order older) (in_order older) o (record { output = o.output; bytes = o.bytes ++ bytes }) (each_self older) refl (record { more = bytes; is = refl }))
  | inr differs ↦
      subst (λ (l : List (ℕ × Opening)). BeginEach (in_order older ++ o ∷ []) (in_order l)) (sym (cond-false _ _ _ (ne_eqb i id differs)))
      (each_last (in_order older) (in_order (receives id bytes older)) o o (each_received id bytes older) refl (beginning_self o.bytes))
]

pub begins_received : (id : ℕ) (bytes : List ℕ) (os : List (ℕ × Opening)) → Begins (in_order os) (in_order (receives id bytes os))
begins_received id bytes os = each_begins (in_order os) (in_order (receives id bytes os)) (each_received id bytes os)

-- a part of some bytes, and all of them
pub begins_part : (id n : ℕ) (bytes : List ℕ) (os : List (ℕ × Opening)) → Begins (in_order (receives id (take n bytes) os)) (in_order (receives id bytes os))
begins_part id n bytes os =
    let all : receives id (drop n bytes) (receives id (take n bytes) os) ≡ receives id bytes os = receives-more id (take n bytes) (drop n bytes) os ∙ ap (λ b. receives id b os) (take-append-drop n bytes) in
    subst (λ (l : List (ℕ × Opening)). Begins (in_order (receives id (take n bytes) os)) (in_order l)) all (begins_received id (drop n bytes) (receives id (take n bytes) os))
