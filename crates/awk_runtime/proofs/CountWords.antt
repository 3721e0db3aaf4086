-- A record that is counted in NR and FNR where they stand.
use Rattle.std.proofs.Common.{◌≡◌, ℤ, pos, false, Ok, refl, ◌∙◌, arith}
use Rattle.std.specs.Prelude.{◌+ℤ◌}
use Rattle.awk_value.specs.declared.value.Value.TheVariants as value
use Rattle.awk_value.specs.Arithmetic.{sum_of}
use Rattle.awk_kinds.specs.declared.special.Special.{Special}
use Rattle.awk_kinds.specs.declared.special.Special.TheVariants.{Fnr, Nr}
use Rattle.awk_kinds.specs.Variables.{value_of, name_of, is_refused, CountsRecords}
use Rattle.awk_semantics.specs.State.{State, ◌>>=◌, go_on, lift, gives}
use Rattle.awk_semantics.specs.Primitives.{put_special, count_in, with_variable}
use Rattle.awk_runtime.specs.declared.runtime.Runtime.{Runtime}
use Rattle.awk_runtime.specs.support.Simulation.{Changes}
use Rattle.awk_runtime.specs.support.Naming.{AreOwn}
use Rattle.awk_runtime.proofs.Composition.{own_changes, callers_stay}
use Rattle.awk_runtime.proofs.VariableWords.{SameButVariables, special_values_twice, variables_hold}

-- a count is raised in a state
raised_in : (x : Special) (s : State) (n : ℤ) → is_refused (name_of x) (value.Number (n +ℤ pos 1)) ≡ false → s.variables (name_of x) ≡ value.Number n → sum_of n (pos 1) ≡ Ok (n +ℤ pos 1) → count_in x s ≡ gives tt (with_variable (name_of x) (value.Number (n +ℤ pos 1)) s)
unfolding count_in put_special ◌>>=◌ go_on lift
raised_in x s n taken is fits = rw (is, fits, taken) refl

-- both are, one after the other
raised_both : (s : State) (n m : ℤ) → s.variables (name_of Nr) ≡ value.Number n → s.variables (name_of Fnr) ≡ value.Number m → sum_of n (pos 1) ≡ Ok (n +ℤ pos 1) → sum_of m (pos 1) ≡ Ok (m +ℤ pos 1)
    → (count_in Nr >>= λ _. count_in Fnr) s ≡ gives tt (with_variable (name_of Fnr) (value.Number (m +ℤ pos 1)) (with_variable (name_of Nr) (value.Number (n +ℤ pos 1)) s))
unfolding ◌>>=◌ go_on
raised_both s n m nr fnr fits fits' =
    rw (raised_in Nr s n refl nr fits) (rw (raised_in Fnr (with_variable (name_of Nr) (value.Number (n +ℤ pos 1)) s) m refl fnr fits') refl)

pub counted_both : {old new : Runtime} → AreOwn old.names.scalars → CountsRecords 1 (value_of old.specials) (value_of new.specials) → new.globals ≡ old.globals → SameButVariables old new → Changes (count_in Nr >>= λ _. count_in Fnr) old new (Ok tt)
counted_both {old = old} {new = new} own c globals same =
    own_changes _ same.streams same.names (callers_stay same.frames) (omega (arith, same.steps)) (λ s h. record {
      result = Ok tt;
      state = with_variable (name_of Fnr) (value.Number (c.in_file +ℤ pos 1)) (with_variable (name_of Nr) (value.Number (c.all +ℤ pos 1)) s);
      is = raised_both s c.all c.in_file (h.specials Nr ∙ c.nr) (h.specials Fnr ∙ c.fnr) (c.nr_counts 1 (omega arith)) (c.fnr_counts 1 (omega arith));
      part = record { outside = refl; openings = refl; output_openings = refl; closings = refl; runs = refl; outputs = refl; main = refl; streams = refl };
      matches = refl;
      holds = variables_hold s _ same (special_values_twice Nr (value.Number (c.all +ℤ pos 1)) Fnr (value.Number (c.in_file +ℤ pos 1)) own c.counted same.names globals s h) h;
    })
