-- Ranges, the exit status, and the beginning of an input.
use Rattle.std.proofs.Common.{◌≡◌, ℕ, zero, suc, ◌<◌, ℤ, pos, Bool, true, false, List, [], ◌∷◌, length, slice_get, unwrap_or, Some, Result, Ok, Err, refl, sym, ap, ◌∙◌, subst, arith}
use Rattle.std.proofs.lemmas.Bool.Decides.{nat_tests}
use Rattle.std.specs.Prelude.{◌==◌, get_or, slice_set, if◌then◌else◌}
use Rattle.std.specs.Global.{Vec}
use Rattle.awk_value.specs.declared.value.Value.{Value}
use Rattle.awk_value.specs.declared.value.Value.TheVariants as value
use Rattle.awk_value.specs.declared.fault.ValueFault.{ValueFault}
use Rattle.awk_value.specs.Values.{num_of}
use Rattle.awk_kinds.specs.Variables.{value_of, name_of}
use Rattle.awk_kinds.specs.declared.special.Special.TheVariants.{Filename, Fnr}
use Rattle.awk_semantics.specs.declared.halt.Halt.{Halt}
use Rattle.awk_semantics.specs.declared.halt.Halt.TheVariants as halt
use Rattle.awk_semantics.specs.State.{State}
use Rattle.awk_semantics.specs.Faults.{value_fault}
use Rattle.awk_semantics.specs.Operators.{exit_status}
use Rattle.awk_semantics.specs.Primitives.{put_special, is_inside, with_range, set_inside, with_status, set_status}
use Rattle.awk_semantics.specs.Streams.{note_input, begin_input}
use Rattle.awk_runtime.specs.declared.runtime.Runtime.{Runtime}
use Rattle.awk_runtime.specs.support.Simulation.{inside_of, OwnRelation, Changes, SameState}
use Rattle.awk_runtime.specs.support.Naming.{Naming}
use Rattle.awk_runtime.proofs.Composition.{own_changes, then_changes, ends_changes, frames_stay, staged_stay, callers_stay}
use Rattle.awk_runtime.proofs.Steps.{reads_changes}
use Rattle.awk_runtime.proofs.Words.{number_had, number_lacked}

pub range_read : (n : ℕ) {old new : Runtime} {b : Bool} → SameState old new → b ≡ inside_of old n → Changes (is_inside n) old new (Ok b)
unfolding is_inside
range_read n same e = reads_changes _ (λ s. Ok (s.inside n)) (λ s. refl) same (λ s h. ap (λ x. Ok x) (h.inside n ∙ sym e))

-- all but the ranges, the status, and whether an input was seen, is the same
pub record SameButEnd (old new : Runtime) : Type 0 where
  pub names : new.names ≡ old.names
  pub current : new.current ≡ old.current
  pub specials : new.specials ≡ old.specials
  pub globals : new.globals ≡ old.globals
  pub arrays : new.arrays ≡ old.arrays
  pub frames : new.frames ≡ old.frames
  pub streams : new.streams ≡ old.streams
  pub next : new.next ≡ old.next
  pub steps : new.steps ≡ old.steps

end_holds : {old new : Runtime} (s : State) (inside : ℕ → Bool) (status : ℕ) (input_seen : Bool) → SameButEnd old new → ((m : ℕ) → inside m ≡ inside_of new m) → status ≡ new.status → input_seen ≡ new.input_seen → OwnRelation old s → OwnRelation new (record s { inside = inside; status = status; input_seen = input_seen })
end_holds {old = old} {new = new} s inside status input_seen same e f g h = record {
  current = h.current ∙ sym same.current;
  specials = λ x. h.specials x ∙ ap (λ v. value_of v (name_of x)) (sym same.specials);
  globals = λ i x at. h.globals i x (subst (λ (n : Naming). slice_get n.scalars i ≡ Some x) same.names at) ∙ ap (λ (v : Vec Value). get_or v.items i value.Nothing) (sym same.globals);
  slots = ap (λ (v : Vec Value). length v.items) same.globals ∙ (h.slots ∙ ap (λ (n : Naming). length n.scalars) (sym same.names));
  array_names = h.array_names ∙ ap (λ (n : Naming). n.arrays) (sym same.names);
  function_names = h.function_names ∙ ap (λ (n : Naming). n.functions) (sym same.names);
  arrays = h.arrays ∙ sym same.arrays;
  frames = frames_stay same.frames ∙ h.frames;
  staged = staged_stay same.frames ∙ h.staged;
  next = h.next ∙ sym same.next;
  input_seen = g;
  inside = e;
  status = f;
  steps = h.steps ∙ sym same.steps;
}

same_inside : (old new : Runtime) → new.inside ≡ old.inside → (n : ℕ) → inside_of old n ≡ inside_of new n
same_inside old new inside n = ap (λ (v : Vec Bool). unwrap_or (slice_get v.items n) false) (sym inside)

pub range_set : (n : ℕ) (b : Bool) {old new : Runtime} → SameButEnd old new → new.status ≡ old.status → new.input_seen ≡ old.input_seen → ((m : ℕ) → inside_of new m ≡ (if m == n then b else inside_of old m)) → Changes (set_inside n b) old new (Ok tt)
unfolding set_inside
range_set n b {old = old} {new = new} same status input_seen e =
    own_changes _ same.streams same.names (callers_stay same.frames) (omega (arith, same.steps)) (λ s h. record {
      result = Ok tt;
      state = record s { inside = with_range n b s.inside };
      is = refl;
      part = record { outside = refl; openings = refl; output_openings = refl; closings = refl; runs = refl; outputs = refl; main = refl; streams = refl };
      matches = refl;
      holds = end_holds s (with_range n b s.inside) s.status s.input_seen same (λ m. ap (λ x. if m == n then b else x) (h.inside m) ∙ sym (e m)) (h.status ∙ sym status) (h.input_seen ∙ sym input_seen) h;
    })

status_becomes : (n : ℤ) {old new : Runtime} → SameButEnd old new → new.inside ≡ old.inside → new.input_seen ≡ old.input_seen → new.status ≡ exit_status n → Changes (with_status n) old new (Ok tt)
status_becomes n {old = old} {new = new} same inside input_seen e =
    own_changes _ same.streams same.names (callers_stay same.frames) (omega (arith, same.steps)) (λ s h. record {
      result = Ok tt;
      state = record s { status = exit_status n };
      is = refl;
      part = record { outside = refl; openings = refl; output_openings = refl; closings = refl; runs = refl; outputs = refl; main = refl; streams = refl };
      matches = refl;
      holds = end_holds s s.inside (exit_status n) s.input_seen same (λ m. h.inside m ∙ same_inside old new inside m) (sym e) (h.input_seen ∙ sym input_seen) h;
    })

pub status_set : (v : Value) (n : ℤ) {old new : Runtime} → Ok n ≡ num_of v → SameButEnd old new → new.inside ≡ old.inside → new.input_seen ≡ old.input_seen → new.status ≡ exit_status n → Changes (set_status v) old new (Ok tt)
unfolding set_status
status_set v n {old = old} is same inside input_seen e = then_changes _ (number_had v old is) (status_becomes n same inside input_seen e)

pub status_fails : (v : Value) (fault : ValueFault) (m : Runtime) → Err fault ≡ num_of v → Changes (set_status v) m m (Err (halt.Fault (value_fault fault)))
unfolding set_status
status_fails v fault m is = ends_changes _ (number_lacked v fault m is)

pub input_noted : {old new : Runtime} → SameButEnd old new → new.inside ≡ old.inside → new.status ≡ old.status → new.input_seen ≡ true → Changes note_input old new (Ok tt)
unfolding note_input
input_noted {old = old} {new = new} same inside status e =
    own_changes _ same.streams same.names (callers_stay same.frames) (omega (arith, same.steps)) (λ s h. record {
      result = Ok tt;
      state = record s { input_seen = true };
      is = refl;
      part = record { outside = refl; openings = refl; output_openings = refl; closings = refl; runs = refl; outputs = refl; main = refl; streams = refl };
      matches = refl;
      holds = end_holds s s.inside s.status true same (λ m. h.inside m ∙ same_inside old new inside m) (h.status ∙ sym status) (sym e) h;
    })

-- beginning an input

pub input_ends : (name : List ℕ) {old new : Runtime} {h : Halt} → Changes (put_special Filename (value.Input name)) old new (Err h) → Changes (begin_input name) old new (Err h)
unfolding begin_input
input_ends name p = ends_changes _ p

pub input_ends_later : (name : List ℕ) {old mid new : Runtime} {h : Halt} → Changes (put_special Filename (value.Input name)) old mid (Ok tt) → Changes (put_special Fnr (value.Number (pos 0))) mid new (Err h) → Changes (begin_input name) old new (Err h)
unfolding begin_input
input_ends_later name p q = then_changes _ p (ends_changes _ q)

pub input_begins : (name : List ℕ) {old mid later new : Runtime} {r : Result (Unit {0}) Halt} → Changes (put_special Filename (value.Input name)) old mid (Ok tt) → Changes (put_special Fnr (value.Number (pos 0))) mid later (Ok tt) → Changes note_input later new r → Changes (begin_input name) old new r
unfolding begin_input
input_begins name p q r = then_changes _ p (then_changes _ q r)

-- one range that is set; those past the end aren't inside

not_first : (m : ℕ) → (suc m == 0) ≡ false
not_first m = grind (arith, nat_tests)

not_behind : (n : ℕ) → (0 == suc n) ≡ false
not_behind n = grind (arith, nat_tests)

same_behind : (m n : ℕ) → (suc m == suc n) ≡ (m == n)
same_behind m n = grind (arith, nat_tests)

pub one_set : (xs : List Bool) (n m : ℕ) (b : Bool) → n < length xs → unwrap_or (slice_get (slice_set xs n b) m) false ≡ (if m == n then b else unwrap_or (slice_get xs m) false)
one_set [] n m b low = absurd (omega arith)
one_set (x ∷ xs) zero zero b low = refl
one_set (x ∷ xs) zero (suc m) b low = rw (not_first m) refl
one_set (x ∷ xs) (suc n) zero b low = rw (not_behind n) refl
one_set (x ∷ xs) (suc n) (suc m) b low = rw (same_behind m n) (one_set xs n m b (omega arith))
