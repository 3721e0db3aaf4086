-- Names of a program; assignments on the command line.
use Rattle.std.proofs.Common.{◌≡◌, ℕ, zero, suc, Bool, true, false, ◌||◌, List, [], ◌∷◌, Option, Some, None, Result, Ok, Err, slice_get, refl, sym, ap, ◌∙◌, true≢false, ◌↔◌}
use Rattle.std.specs.Prelude.{IfNone, IfSome, bytes_eq}
use Rattle.std.proofs.lemmas.Slice.Eq.{bytes_eq-Decides}
use Rattle.awk_value.specs.declared.value.Value.TheVariants.{Input}
use Rattle.awk_kinds.specs.declared.special.Special.{Special}
use Rattle.awk_kinds.specs.Variables.{name_of}
use Rattle.awk_kinds.specs.Names.{has_name}
use Rattle.awk_kinds.specs.Signatures.{place_of}
use Rattle.awk_kinds.proofs.Slots.{stands_at, has_no_place}
use Rattle.awk_semantics.specs.declared.halt.Halt.{Halt}
use Rattle.awk_semantics.specs.State.{State, go_on, ◌>>=◌, lift}
use Rattle.awk_semantics.specs.Results.{Yields}
use Rattle.awk_semantics.specs.Primitives.{put_outside}
use Rattle.awk_semantics.specs.Inputs.{is_among, assigned_text, check_assignment, assign_text}
use Rattle.awk_lex.specs.Words.{is_reserved, is_left_out}
use Rattle.awk_runtime.specs.declared.runtime.Runtime.{Runtime}
use Rattle.awk_runtime.specs.support.Simulation.{OwnRelation, Changes}
use Rattle.awk_runtime.specs.support.Naming.{is_unassignable_among}
use Rattle.awk_runtime.proofs.Composition.{then_changes, ends_changes, lift_changes}
use Rattle.awk_runtime.proofs.Steps.{same_changes}

-- a name is among others

pub is_among-names : (name : List ℕ) (names : List (List ℕ)) → is_among name names ≡ has_name names name
is_among-names name [] = refl
is_among-names name (x ∷ names) = ap (λ b. bytes_eq name x || b) (is_among-names name names)

-- where a name is found

pub if_found : (name : List ℕ) (names : List (List ℕ)) (r : Option ℕ) → r ≡ place_of names name → IfSome r (λ i. slice_get names i ≡ Some name)
if_found name names (Some i) found = stands_at names name i (sym found)
if_found name names None found = tt

pub if_absent : (name : List ℕ) (names : List (List ℕ)) (r : Option ℕ) → r ≡ place_of names name → IfNone r (has_name names name ≡ false)
if_absent name names (Some i) found = tt
if_absent name names None found = has_no_place names name (sym found)

-- names that aren't there

differs : (x y : List ℕ) → (x ≡ y → ⊥) → bytes_eq x y ≡ false
differs x y apart = by (bytes_eq x y) refl
  where
    by : (b : Bool) → bytes_eq x y ≡ b → b ≡ false
    by true is = absurd (apart ((bytes_eq-Decides x y).0 is))
    by false is = refl

either : (a b : Bool) → (a || b) ≡ false → (a ≡ false) × (b ≡ false)
either true b e = absurd (true≢false e)
either false b e = (refl, e)

pub absent_name : (names : List (List ℕ)) (x : List ℕ) → has_name names x ≡ false → (i : ℕ) (y : List ℕ) → slice_get names i ≡ Some y → bytes_eq x y ≡ false
absent_name [] x none i y at = cc
absent_name (z ∷ names) x none zero y at =
    let same : z ≡ y = cc in
    ap (bytes_eq x) (sym same) ∙ (either (bytes_eq x z) (has_name names x) none).0
absent_name (z ∷ names) x none (suc i) y at = absent_name names x (either (bytes_eq x z) (has_name names x) none).1 i y at

pub no_special : (x : List ℕ) (r : Option Special) → ((s : Special) → (r ≡ Some s) ↔ (x ≡ name_of s)) → ((s : Special) → r ≡ Some s → ⊥) → (y : Special) → bytes_eq x (name_of y) ≡ false
no_special x r names none y = differs x (name_of y) (λ e. none y ((names y).1 e))

-- assignments on the command line

assigned : (x text : List ℕ) (refused : Bool) {m : Runtime} → is_unassignable_among m.names x ≡ refused → (s : State) → OwnRelation m s → assign_text x text s ≡ (lift (assigned_text refused text) >>= λ t. put_outside x (Input t)) s
unfolding assign_text check_assignment ◌>>=◌ lift
assigned x text refused {m = m} is s h =
    ap (λ r. go_on r s [] (λ t. put_outside x (Input t)))
    (ap (λ b. assigned_text b text) (ap (λ l. is_reserved x || (is_left_out x || (is_among x l || is_among x s.function_names))) h.array_names ∙ ap (λ l. is_reserved x || (is_left_out x || (is_among x m.names.arrays || is_among x l))) h.function_names ∙ is))

pub text_refused : (x text : List ℕ) (refused : Bool) {m : Runtime} {h : Halt} → is_unassignable_among m.names x ≡ refused → Yields {A = List ℕ} (Err h) (assigned_text refused text) → Changes (assign_text x text) m m (Err h)
text_refused x text refused {m = m} is e = same_changes _ (lift (assigned_text refused text) >>= λ t. put_outside x (Input t)) (assigned x text refused is) (ends_changes _ (lift_changes _ m e))

pub text_put : (x text : List ℕ) (refused : Bool) {t : List ℕ} {m new : Runtime} {r : Result (Unit {0}) Halt} → is_unassignable_among m.names x ≡ refused → Yields (Ok t) (assigned_text refused text) → Changes (put_outside x (Input t)) m new r → Changes (assign_text x text) m new r
text_put x text refused {m = m} is e p = same_changes _ (lift (assigned_text refused text) >>= λ t. put_outside x (Input t)) (assigned x text refused is) (then_changes _ (lift_changes _ m e) p)
