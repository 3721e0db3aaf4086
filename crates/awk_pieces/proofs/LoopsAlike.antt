-- Loops do alike in each sense in which what is done one behind the other does.
use Rattle.std.proofs.Common.{◌≡◌, ℕ, zero, suc, ◌+◌, Bool, true, false, Option, Some, None, Err, arith}
use Rattle.awk_semantics.specs.declared.flow.Flow.{Flow}
use Rattle.awk_semantics.specs.declared.flow.Flow.TheVariants as flow
use Rattle.awk_semantics.specs.declared.halt.Halt.TheVariants as halt
use Rattle.awk_semantics.specs.definitions.State.{Run, ◌>>=◌, lift, ret}
use Rattle.awk_semantics.specs.definitions.Primitives.{spend}
use Rattle.awk_semantics.specs.definitions.Semantics.{choose, pass_on, ending, turn, unless_ended, repeat_within}

module _ (Does : (A : Type 0) → Run A → Run A → Type 0) (returns : (A : Type 0) (a : A) → Does A (ret a) (ret a)) where
  pub pass_alike : (c : Flow) {m n : Run Flow} → Does Flow m n → Does Flow (pass_on c m) (pass_on c n)
  pass_alike flow.Normal h = h
  pass_alike flow.Break h = returns Flow flow.Break
  pass_alike flow.Continue h = returns Flow flow.Continue
  pass_alike (flow.Return v) h = returns Flow (flow.Return v)

  pub unless_alike : (ended : Option Flow) {m n : Run Flow} → Does Flow m n → Does Flow (unless_ended ended m) (unless_ended ended n)
  unless_alike None h = h
  unless_alike (Some c) h = returns Flow c

  chosen : (b : Bool) {here here' other other' : Run Flow} → Does Flow here here' → Does Flow other other' → Does Flow (choose b here other) (choose b here' other')
  chosen true h k = h
  chosen false h k = k

  module _ (next : (A B : Type 0) (m n : Run A) (f g : A → Run B) → Does A m n → ((a : A) → Does B (f a) (g a)) → Does B (m >>= f) (n >>= g)) (spends : Does (Unit {0}) spend spend) where
    pub turn_alike : {m n : Run Flow} → Does Flow m n → Does (Option Flow) (turn m) (turn n)
    unfolding turn
    turn_alike h = next _ _ _ _ _ _ spends (λ _. next _ _ _ _ _ _ h (λ c. returns (Option Flow) (ending c)))

    -- as many turns as there are steps, or more
    module _ (starved : (n : Run Flow) → Does Flow (lift (Err halt.OutOfSteps)) n) where
      pub repeat_within_alike : (i e : ℕ) {c c' : Run Bool} {s s' : Run Flow} {last last' : Run (Unit {0})} → Does Bool c c' → Does Flow s s' → Does (Unit {0}) last last' → Does Flow (repeat_within i c s last) (repeat_within (i + e) c' s' last')
      unfolding repeat_within
      repeat_within_alike zero e c s last = starved _
      repeat_within_alike (suc i) e c s last =
          let rest = repeat_within_alike i e c s last in
          let more : suc i + e ≡ suc (i + e) = omega arith in
          rw more (next _ _ _ _ _ _ c (λ x. chosen x (next _ _ _ _ _ _ (turn_alike s) (λ ended. unless_alike ended (next _ _ _ _ _ _ last (λ _. rest)))) (returns Flow flow.Normal)))
