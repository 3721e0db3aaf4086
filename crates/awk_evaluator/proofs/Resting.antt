-- What is done first, and then what is left.
use Rattle.std.proofs.Common.{◌≡◌, ℕ, zero, suc, ◌<◌, ◌≤◌, List, [], ◌∷◌, Result, Ok, Err, refl, sym, ap, ◌∙◌, subst, arith, append-nil, get_or}
use Rattle.awk_value.specs.declared.value.Value.{Value}
use Rattle.awk_streams.specs.WorldState.{WorldState}
use Rattle.awk_kinds.specs.Kinds.{Definition}
use Rattle.awk_semantics.specs.declared.halt.Halt.{Halt}
use Rattle.awk_semantics.specs.State.{Effect, State, Out, Run, go_on, ◌>>=◌, lift, ret}
use Rattle.awk_semantics.specs.declared.halt.Halt.TheVariants as halt
use Rattle.awk_semantics.specs.Primitives.{spend, leave}
use Rattle.awk_resolve.specs.declared.plan.Plan.{Plan}
use Rattle.awk_resolve.specs.Nodes.{Tables, Cont}
use Rattle.awk_resolve.proofs.Calculus.{assoc_at, given}
use Rattle.awk_runtime.specs.declared.runtime.Runtime.{Runtime}
use Rattle.awk_runtime.specs.support.Simulation.{OwnRelation, ResultRelation, Simulates}
use Rattle.awk_runtime.proofs.Composition.{then_simulates, ends_simulates}
use Rattle.awk_evaluator.specs.support.Rest.{Entry, Bound, Bounds, behind, IsAbove, Start, AtPlace, cont, turn, begun, resume, Rest}

-- runs that are equal where the state stands for the code's
pub same_simulates : {A : Type 0} {is_logged : Type 0} {old new : Runtime} {before after : WorldState} {r : Result A Halt} (x y : Run A) → ((s : State) → OwnRelation old s → x s ≡ y s) → Simulates is_logged old before new after r y → Simulates is_logged old before new after r x
same_simulates {new = new} {after = after} {r = r} x y e d = record {
  steps = d.steps;
  names = d.names;
  told = λ t. record {
    grows = (d.told t).grows;
    means = λ oracle s past consistent stands. subst (λ (o : Out _). ResultRelation oracle new after r o past) (sym (e s stands.holds)) ((d.told t).means oracle s past consistent stands);
  };
}

-- what follows gives nothing else
go_nothing : {A : Type 0} (r : Result A Halt) (t : State) (es : List Effect) → go_on r t es (λ a. ret a) ≡ record { result = r; state = t; effects = es }
unfolding go_on lift
go_nothing (Ok a) t es = ap (λ (l : List Effect). record { result = Ok a; state = t; effects = l }) (append-nil es)
go_nothing (Err h) t es = refl

pub returned_at : {A : Type 0} (m : Run A) (s : State) → (m >>= λ a. ret a) s ≡ m s
unfolding ◌>>=◌
returned_at m s = go_nothing (m s).result (m s).state (m s).effects

pub above_less : {m n : ℕ} {b : Bound} → m ≤ n → IsAbove n b → IsAbove m b
above_less h p = let x = p.0 in let y = p.1 in (omega (arith, h, x), omega (arith, h, y))

module _ (tables : Tables) (ds : List Definition) (plan : Plan) (is_logged : Type 0) where
  abbrev at_bound : Start → Bound → Cont
  at_bound start b = begun tables ds plan start b

  abbrev at_next : Bound → ℕ → Cont
  at_next b = cont tables ds plan b

  abbrev resumed : Bounds → List Entry → Value → Run Value
  resumed bs stack = resume tables ds plan bs stack

  -- at each bound that is not below the steps left
  abbrev Later : List Entry → Runtime → WorldState → Runtime → WorldState → Result Value Halt → (Bound → Run Value) → Type 0
  Later stack old before new after r run = (b : Bound) (bs : Bounds) → IsAbove old.steps b → ((i : ℕ) → IsAbove old.steps (bs i)) → Simulates is_logged old before new after r (run b >>= λ w. resumed bs stack w)

  -- a part of a place's rest was done, and what follows is left
  pub then_rest : {A : Type 0} {start : Start} {vs : List Value} {stack : List Entry} {old mid new : Runtime} {before between after : WorldState} {a : A} {r : Result Value Halt} (run : Bound → Run A) (f : Bound → A → Run Value)
      → ((b : Bound) → at_bound start b vs ≡ (run b >>= f b))
      → ((b : Bound) → Simulates is_logged old before mid between (Ok a) (run b))
      → mid.steps ≤ old.steps
      → Later stack mid between new after r (λ b. f b a)
      → Rest tables ds plan is_logged start vs stack old before new after r
  then_rest {stack = stack} {a = a} run f is first low later = record {
    does = λ b bs p q.
        same_simulates _ _ (λ s h. ap (λ (m : Run Value). (m >>= λ w. resumed bs stack w) s) (is b) ∙ assoc_at (run b) (f b) (λ w. resumed bs stack w) s)
        (then_simulates (λ x. f b x >>= λ w. resumed bs stack w) (first b) (later b bs (above_less low p) (λ i. above_less low (q i))));
  }

  -- a part of it was done, and ended
  pub ends_rest : {A : Type 0} {start : Start} {vs : List Value} {stack : List Entry} {old new : Runtime} {before after : WorldState} {h : Halt} (run : Bound → Run A) (f : Bound → A → Run Value)
      → ((b : Bound) → at_bound start b vs ≡ (run b >>= f b))
      → ((b : Bound) → Simulates is_logged old before new after (Err h) (run b))
      → Rest tables ds plan is_logged start vs stack old before new after (Err h)
  ends_rest {stack = stack} run f is first = record {
    does = λ b bs p q.
        same_simulates _ _ (λ s h. ap (λ (m : Run Value). (m >>= λ w. resumed bs stack w) s) (is b) ∙ assoc_at (run b) (f b) (λ w. resumed bs stack w) s)
        (ends_simulates (λ x. f b x >>= λ w. resumed bs stack w) (first b));
  }

  -- the rest of a place is another's
  pub same_rest : {start : Start} {next : ℕ} {vs ws : List Value} {stack : List Entry} {old new : Runtime} {before after : WorldState} {r : Result Value Halt}
      → ((b : Bound) → at_bound start b vs ≡ at_next b next ws)
      → Rest tables ds plan is_logged (AtPlace next) ws stack old before new after r
      → Rest tables ds plan is_logged start vs stack old before new after r
  same_rest {stack = stack} {old = old} {new = new} {before = before} {after = after} {r = r} is d = record {
    does = λ b bs p q.
        subst (λ (m : Run Value). Simulates is_logged old before new after r (m >>= λ w. resumed bs stack w)) (sym (is b)) (d.does b bs p q);
  }

  -- a value is returned to a caller
  pub return_rest : {start : Start} {vs : List Value} {e : Entry} {stack : List Entry} {old mid new : Runtime} {before after : WorldState} {r : Result Value Halt} (w : Value)
      → ((b : Bound) → at_bound start b vs ≡ ret w)
      → Simulates is_logged old before mid before (Ok tt) leave
      → mid.steps ≤ old.steps
      → Rest tables ds plan is_logged (AtPlace e.next) (w ∷ e.values) stack mid before new after r
      → Rest tables ds plan is_logged start vs (e ∷ stack) old before new after r
  unfolding resume
  return_rest {e = e} {stack = stack} w is left low d = record {
    does = λ b bs p q.
        same_simulates _ _ (λ s h. ap (λ (m : Run Value). (m >>= λ u. resumed bs (e ∷ stack) u) s) (is b) ∙ given w (λ u. resumed bs (e ∷ stack) u) s)
        (then_simulates (λ _. at_next (bs 0) e.next (w ∷ e.values) >>= λ u. resumed (behind bs) stack u) left (d.does (bs 0) (behind bs) (above_less low (q 0)) (λ i. above_less low (q (suc i)))));
  }

  -- the caller has no room for it
  pub return_stuck : {start : Start} {vs : List Value} {e : Entry} {stack : List Entry} {old new : Runtime} {before after : WorldState} {h : Halt} (w : Value)
      → ((b : Bound) → at_bound start b vs ≡ ret w)
      → Simulates is_logged old before new after (Err h) leave
      → Rest tables ds plan is_logged start vs (e ∷ stack) old before new after (Err h)
  unfolding resume
  return_stuck {e = e} {stack = stack} w is left = record {
    does = λ b bs p q.
        same_simulates _ _ (λ s h. ap (λ (m : Run Value). (m >>= λ u. resumed bs (e ∷ stack) u) s) (is b) ∙ given w (λ u. resumed bs (e ∷ stack) u) s)
        (ends_simulates (λ _. at_next (bs 0) e.next (w ∷ e.values) >>= λ u. resumed (behind bs) stack u) left);
  }

  -- a value is returned, and no call is active
  pub over_rest : {start : Start} {vs : List Value} {old new : Runtime} {before after : WorldState} {r : Result Value Halt} (w : Value)
      → ((b : Bound) → at_bound start b vs ≡ ret w)
      → Simulates is_logged old before new after r (ret w)
      → Rest tables ds plan is_logged start vs [] old before new after r
  unfolding resume
  over_rest w is d = record {
    does = λ b bs p q.
        same_simulates _ _ (λ s h. ap (λ (m : Run Value). (m >>= λ u. resumed bs [] u) s) (is b) ∙ given w (λ u. resumed bs [] u) s) d;
  }

  -- what a run from a place does where no call is active
  pub whole : {start : Start} {vs : List Value} {old new : Runtime} {before after : WorldState} {r : Result Value Halt} → Rest tables ds plan is_logged start vs [] old before new after r
      → (n : ℕ) → old.steps ≤ n → Simulates is_logged old before new after r (at_bound start (record { calls = n; turns = n }) vs)
  unfolding resume
  whole {start = start} {vs = vs} d n low =
      let b : Bound = record { calls = n; turns = n } in
      same_simulates _ _ (λ s h. sym (returned_at (at_bound start b vs) s)) (d.does b (λ i. b) (low, low) (λ i. (low, low)))

  -- a turn of a loop, with a step to spend
  pub turn_rest : {start : Start} {vs : List Value} {stack : List Entry} {old mid new : Runtime} {before after : WorldState} {r : Result Value Halt} (i : ℕ)
      → ((b : Bound) → at_bound start b vs ≡ turn tables ds plan b i vs)
      → Simulates is_logged old before mid before (Ok tt) spend
      → mid.steps < old.steps
      → Rest tables ds plan is_logged (AtPlace (get_or plan.heads.items i 0)) vs stack mid before new after r
      → Rest tables ds plan is_logged start vs stack old before new after r
  turn_rest {start = start} {vs = vs} {stack = stack} {old = old} {mid = mid} {new = new} {before = before} {after = after} {r = r} i is spends falls d = record { does = λ b bs p q. by b.calls b.turns bs p.0 p.1 q }
    where
      by : (c t : ℕ) (bs : Bounds) → old.steps ≤ c → old.steps ≤ t → ((j : ℕ) → IsAbove old.steps (bs j)) → Simulates is_logged old before new after r (at_bound start (record { calls = c; turns = t }) vs >>= λ w. resumed bs stack w)
      by c zero bs p p' q = absurd (omega (arith, p', falls))
      by c (suc t) bs p p' q =
          let b : Bound = record { calls = c; turns = suc t } in
          let b' : Bound = record { calls = c; turns = t } in
          let low : mid.steps ≤ old.steps = omega (arith, falls) in
          let f : Unit {0} → Run Value = λ _. at_next b' (get_or plan.heads.items i 0) vs in
          same_simulates _ _ (λ s h. ap (λ (m : Run Value). (m >>= λ w. resumed bs stack w) s) (is b) ∙ assoc_at spend f (λ w. resumed bs stack w) s)
          (then_simulates (λ x. f x >>= λ w. resumed bs stack w) spends
          (d.does b' bs (omega (arith, p, falls), omega (arith, p', falls)) (λ j. above_less low (q j))))

  -- without one
  pub turn_stuck : {start : Start} {vs : List Value} {stack : List Entry} {old new : Runtime} {before : WorldState} {h : Halt} (i : ℕ)
      → ((b : Bound) → at_bound start b vs ≡ turn tables ds plan b i vs)
      → Simulates is_logged old before new before (Err h) spend
      → Rest tables ds plan is_logged start vs stack old before new before (Err h)
  turn_stuck {start = start} {vs = vs} {stack = stack} {old = old} {new = new} {before = before} {h = h} i is spends = record { does = λ b bs p q. by b.calls b.turns bs }
    where
      by : (c t : ℕ) (bs : Bounds) → Simulates is_logged old before new before (Err h) (at_bound start (record { calls = c; turns = t }) vs >>= λ w. resumed bs stack w)
      by c zero bs =
          let b : Bound = record { calls = c; turns = zero } in
          let f : Unit {0} → Run Value = λ _. lift (Err halt.OutOfSteps) in
          same_simulates _ _ (λ s h. ap (λ (m : Run Value). (m >>= λ w. resumed bs stack w) s) (is b) ∙ assoc_at spend f (λ w. resumed bs stack w) s)
          (ends_simulates (λ x. f x >>= λ w. resumed bs stack w) spends)
      by c (suc t) bs =
          let b : Bound = record { calls = c; turns = suc t } in
          let b' : Bound = record { calls = c; turns = t } in
          let f : Unit {0} → Run Value = λ _. at_next b' (get_or plan.heads.items i 0) vs in
          same_simulates _ _ (λ s h. ap (λ (m : Run Value). (m >>= λ w. resumed bs stack w) s) (is b) ∙ assoc_at spend f (λ w. resumed bs stack w) s)
          (ends_simulates (λ x. f x >>= λ w. resumed bs stack w) spends)
