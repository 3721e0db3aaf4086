-- A loop as nodes is the loop of the semantics; a level bounds the turns.
use Rattle.std.proofs.Math.Nat.{le_refl}
use Rattle.std.proofs.Common.{◌≡◌, ℕ, zero, suc, ◌<◌, ◌≤◌, Bool, true, false, List, Option, Err, sym, ap, ◌∙◌, arith}
use Rattle.awk_value.specs.declared.value.Value.{Value}
use Rattle.awk_kinds.specs.definitions.Kinds.{FormalParameter}
use Rattle.awk_semantics.specs.declared.flow.Flow.{Flow}
use Rattle.awk_semantics.specs.declared.flow.Flow.TheVariants as flow
use Rattle.awk_semantics.specs.declared.halt.Halt.TheVariants as halt
use Rattle.awk_semantics.specs.definitions.State.{State, Run, ◌>>=◌, lift, ret}
use Rattle.awk_semantics.specs.definitions.Primitives.{spend}
use Rattle.awk_semantics.specs.definitions.Semantics.{choose, ending, turn, unless_ended, repeat_within, repeat}
use Rattle.awk_semantics.specs.support.Keeps.{Keeps, scope_of}
use Rattle.awk_semantics.proofs.KeepsForms.{keeps_repeat_within}
use Rattle.awk_resolve.specs.support.Nodes.{Tables}
use Rattle.awk_resolve.specs.support.Builds.{IsIn}
use Rattle.awk_resolve.proofs.Calculus.{assoc_at, given, later_same, later_in, still_in, bounded_by}
use Rattle.awk_resolve.proofs.Levels.{spent_same}

-- how a run does at a state
pub at_state : {A : Type 0} {f g : Run A} → f ≡ g → (s : State) → f s ≡ g s
at_state {A = A} e s = ap (λ (r : Run A). r s) e

-- a turn, what follows it, and what goes on from that
pub turn_then : (x : Run Flow) (rest : Option Flow → Run Flow) (out : Flow → Run Value) (s : State)
    → ((turn x >>= rest) >>= out) s ≡ (spend >>= λ _. x >>= λ f. rest (ending f) >>= out) s
unfolding turn
turn_then x rest out s =
    assoc_at (spend >>= λ _. x >>= λ f. ret (ending f)) rest out s
    ∙ assoc_at spend (λ _. x >>= λ f. ret (ending f)) (λ ended. rest ended >>= out) s
    ∙ later_same spend _ _ s (λ _ t.
    assoc_at x (λ f. ret (ending f)) (λ ended. rest ended >>= out) t
    ∙ later_same x _ _ t (λ f u. given (ending f) (λ ended. rest ended >>= out) u))

-- behind a step that was spent, the state stands where it stood
pub spent_in : {tables : Tables} {parameters : List FormalParameter} {s t : State} (n : ℕ) → IsIn tables parameters n s → suc t.steps ≡ s.steps → scope_of t ≡ scope_of s → IsIn tables parameters n t
spent_in n i h e = still_in i (omega (arith, h)) e

-- no step is left at level 0
pub none_left : {A : Type 0} (f g : Unit {0} → Run A) (s : State) → s.steps ≤ 0 → (spend >>= f) s ≡ (spend >>= g) s
none_left f g s low = spent_same f g s (λ t h _. absurd (omega (arith, h, low)))

-- what a loop is made of: what it tests, its body and the last part behind a turn, and their places at each level
pub record IsLoop (tables : Tables) (parameters : List FormalParameter) (c : Run Bool) (x : Run Flow) (l : Run (Unit {0})) (cond again exit body last : ℕ → Run Value) (out inner : ℕ → Flow → Run Value) : Type 0 where
  pub keeps_condition : Keeps c
  pub keeps_body : Keeps x
  pub keeps_last : Keeps l
  pub none : (s : State) → again zero s ≡ (spend >>= λ _. lift (Err halt.OutOfSteps)) s
  pub more : (n : ℕ) (s : State) → again (suc n) s ≡ (spend >>= λ _. body n) s
  pub tests : (n : ℕ) (s : State) → IsIn tables parameters n s → cond n s ≡ (c >>= λ b. choose b (again n) (exit n)) s
  pub runs : (n : ℕ) (s : State) → IsIn tables parameters n s → body n s ≡ (x >>= λ f. inner n f) s
  pub goes_on : (n : ℕ) (s : State) → IsIn tables parameters n s → last n s ≡ (l >>= λ _. cond n) s
  pub out_normal : (n : ℕ) → out n flow.Normal ≡ exit n
  pub out_return : (n : ℕ) (v : Value) → out n (flow.Return v) ≡ ret v
  pub normal : (n : ℕ) → inner n flow.Normal ≡ last n
  pub continue : (n : ℕ) → inner n flow.Continue ≡ last n
  pub break : (n : ℕ) → inner n flow.Break ≡ exit n
  pub return : (n : ℕ) (v : Value) → inner n (flow.Return v) ≡ ret v
  pub alike : (n n' : ℕ) (s : State) (f : Flow) → s.steps ≤ n → s.steps ≤ n' → out n f s ≡ out n' f s

module _ {tables : Tables} {parameters : List FormalParameter} {c : Run Bool} {x : Run Flow} {l : Run (Unit {0})} {cond again exit body last : ℕ → Run Value} {out inner : ℕ → Flow → Run Value}
    (loop : IsLoop tables parameters c x l cond again exit body last out inner) where
  -- where a turn of this rest follows, a turn of the nodes' loop goes on with it
  abbrev GoesOnWith : (few : ℕ) (rest : Run Flow) → Type 0
  GoesOnWith few rest = (k n : ℕ) (u : State) → IsIn tables parameters k u → u.steps ≤ n → u.steps < few → last k u ≡ (rest >>= out n) u

  module _ (few : ℕ) (rest : Run Flow) (onward : GoesOnWith few rest) where
    behind : (k n : ℕ) (u : State) (f : Flow) → IsIn tables parameters k u → u.steps ≤ n → u.steps < few → inner k f u ≡ (unless_ended (ending f) rest >>= out n) u
    behind k n u flow.Normal i high less = at_state (loop.normal k) u ∙ onward k n u i high less
    behind k n u flow.Continue i high less = at_state (loop.continue k) u ∙ onward k n u i high less
    behind k n u flow.Break i high less = at_state (loop.break k) u ∙ sym (at_state (loop.out_normal k) u) ∙ loop.alike k n u flow.Normal i.low high ∙ sym (given flow.Normal (out n) u)
    behind k n u (flow.Return v) i high less = at_state (loop.return k v) u ∙ sym (at_state (loop.out_return n v) u) ∙ sym (given (flow.Return v) (out n) u)

    -- a turn and the rest
    turned : (n : ℕ) (t : State) → IsIn tables parameters n t → t.steps < suc few → again n t ≡ ((turn x >>= λ ended. unless_ended ended rest) >>= out n) t
    turned zero t i less = loop.none t ∙ none_left _ _ t i.low ∙ sym (turn_then x (λ ended. unless_ended ended rest) (out zero) t)
    turned (suc k) t i less =
        loop.more k t
        ∙ spent_same _ _ t (λ u h e.
        let low = i.low in
        let j : IsIn tables parameters k u = bounded_by k (spent_in (suc k) i h e) (omega (arith, low, h)) in
        loop.runs k u j
        ∙ later_in _ _ u u.steps loop.keeps_body (bounded_by u.steps j (le_refl u.steps)) (λ f v m.
        let v_low = m.low in let u_low = j.low in
        behind k (suc k) v f (bounded_by k m (omega (arith, v_low, u_low))) (omega (arith, v_low, u_low)) (omega (arith, v_low, h, less))))
        ∙ sym (turn_then x (λ ended. unless_ended ended rest) (out (suc k)) t)

  -- what stands behind a turn
  abbrev within : ℕ → Run Flow
  within m = repeat_within m c x l

  module _ (m : ℕ) (before : (k : ℕ) (u : State) → IsIn tables parameters k u → u.steps < m → cond k u ≡ (within m >>= out k) u) where
    once_more : (k n : ℕ) (u : State) → IsIn tables parameters k u → u.steps ≤ n → u.steps < m → cond k u ≡ (within m >>= out n) u
    once_more k n u i high less =
        before k u i less
        ∙ later_in _ _ u u.steps (keeps_repeat_within m loop.keeps_condition loop.keeps_body loop.keeps_last) (bounded_by u.steps i (le_refl u.steps))
        (λ f v j. let v_low = j.low in let u_low = i.low in loop.alike k n v f (omega (arith, v_low, u_low)) (omega (arith, v_low, high)))

    onward : GoesOnWith m (l >>= λ _. within m)
    onward k n u i high less =
        loop.goes_on k u i
        ∙ later_in _ _ u u.steps loop.keeps_last (bounded_by u.steps i (le_refl u.steps))
        (λ _ v j. let v_low = j.low in let u_low = i.low in once_more k n v (bounded_by k j (omega (arith, v_low, u_low))) (omega (arith, v_low, high)) (omega (arith, v_low, less)))
        ∙ sym (assoc_at l (λ _. within m) (out n) u)

    chosen : (n : ℕ) (t : State) (b : Bool) → IsIn tables parameters n t → t.steps < suc m
        → choose b (again n) (exit n) t ≡ (choose b (turn x >>= λ ended. unless_ended ended (l >>= λ _. within m)) (ret flow.Normal) >>= out n) t
    chosen n t false i less = sym (at_state (loop.out_normal n) t) ∙ sym (given flow.Normal (out n) t)
    chosen n t true i less = turned m (l >>= λ _. within m) onward n t i less

  repeats_within : (m n : ℕ) (s : State) → IsIn tables parameters n s → s.steps < m → cond n s ≡ (within m >>= out n) s
  unfolding repeat_within
  repeats_within zero n s i less = absurd (omega (arith, less))
  repeats_within (suc m) n s i less =
      loop.tests n s i
      ∙ later_in _ _ s s.steps loop.keeps_condition (bounded_by s.steps i (le_refl s.steps))
      (λ b t j. let t_low = j.low in let s_low = i.low in chosen m (repeats_within m) n t b (bounded_by n j (omega (arith, t_low, s_low))) (omega (arith, t_low, less)))
      ∙ sym (assoc_at c (λ b. choose b (turn x >>= λ ended. unless_ended ended (l >>= λ _. within m)) (ret flow.Normal)) (out n) s)

  -- the loop from its condition on
  pub repeats : (n : ℕ) (s : State) → IsIn tables parameters n s → cond n s ≡ (repeat c x l >>= out n) s
  unfolding repeat ◌>>=◌
  repeats n s i = repeats_within (suc s.steps) n s i (omega arith)

  -- the loop from a turn on, as a `do` has it
  pub enters : (direct : (n : ℕ) (s : State) → IsIn tables parameters n s → last n s ≡ cond n s) (keeps : Keeps (repeat c x l)) (n : ℕ) (s : State) → IsIn tables parameters n s
      → again n s ≡ ((turn x >>= λ ended. unless_ended ended (repeat c x l)) >>= out n) s
  enters direct keeps n s i =
      turned (suc s.steps) (repeat c x l)
      (λ k m u j high less. direct k u j ∙ repeats k u j
      ∙ later_in _ _ u u.steps keeps (bounded_by u.steps j (le_refl u.steps)) (λ f v h. let v_low = h.low in let u_low = j.low in loop.alike k m v f (omega (arith, v_low, u_low)) (omega (arith, v_low, high))))
      n s i (omega arith)
