-- A walk over the keys of an array as nodes is the walk of the semantics.
use Rattle.std.proofs.Math.Nat.{le_refl}
use Rattle.std.proofs.Common.{◌≡◌, ℕ, zero, suc, ◌-◌, ◌≤◌, List, [], ◌∷◌, ◌++◌, length, map, drop, pos, Err, refl, sym, ◌∙◌, arith}
use Rattle.awk_value.specs.declared.value.Value.{Value}
use Rattle.awk_value.specs.declared.value.Value.TheVariants as value
use Rattle.awk_kinds.specs.definitions.Kinds.{FormalParameter}
use Rattle.awk_semantics.specs.declared.flow.Flow.{Flow}
use Rattle.awk_semantics.specs.declared.flow.Flow.TheVariants as flow
use Rattle.awk_semantics.specs.declared.halt.Halt.TheVariants as halt
use Rattle.awk_semantics.specs.definitions.State.{State, Run, ◌>>=◌, lift, ret}
use Rattle.awk_semantics.specs.definitions.Primitives.{spend, put}
use Rattle.awk_semantics.specs.definitions.Semantics.{ending, turn, unless_ended, walk}
use Rattle.awk_semantics.specs.support.Keeps.{Keeps}
use Rattle.awk_semantics.proofs.KeepsForms.{keeps_put}
use Rattle.awk_resolve.specs.support.Nodes.{Tables, Cont, walk_values, keys_left}
use Rattle.awk_resolve.specs.support.Builds.{IsIn}
use Rattle.awk_resolve.proofs.Calculus.{assoc_at, given, later_in, bounded_by}
use Rattle.awk_resolve.proofs.Levels.{spent_same}
use Rattle.awk_resolve.proofs.Loops.{at_state, turn_then, spent_in, none_left}

-- the keys that are left are taken off together
pub keys_dropped : (keys : List (List ℕ)) (vs : List Value) → drop (length keys) (map (λ key. value.Text key) keys ++ vs) ≡ vs
keys_dropped [] vs = refl
keys_dropped (key ∷ keys) vs = keys_dropped keys vs

pub one_less : (keys : List (List ℕ)) (key : List ℕ) → keys_left (value.Number (pos (length (key ∷ keys)))) - 1 ≡ length keys
one_less keys key = omega arith

-- what a walk is made of: its body, and its places at each level, with the keys that are left on the stack
pub record IsWalk (tables : Tables) (parameters : List FormalParameter) (name : List ℕ) (x : Run Flow) (vs : List Value) (turns : ℕ → Cont) (take body next leave : ℕ → Cont) (exit : ℕ → Run Value) (out : ℕ → Flow → Run Value) (inner : ℕ → List Value → Flow → Run Value) : Type 0 where
  pub keeps_body : Keeps x
  pub none : (ws : List Value) (s : State) → turns zero ws s ≡ (spend >>= λ _. lift (Err halt.OutOfSteps)) s
  pub more : (n : ℕ) (ws : List Value) (s : State) → turns (suc n) ws s ≡ (spend >>= λ _. take n ws) s
  -- the exit where no key is left, or else the next turn
  pub ends : (n : ℕ) (s : State) → next n (walk_values [] ++ vs) s ≡ exit n s
  pub nexts : (n : ℕ) (key : List ℕ) (keys : List (List ℕ)) (s : State) → next n (walk_values (key ∷ keys) ++ vs) s ≡ turns n (walk_values (key ∷ keys) ++ vs) s
  pub takes : (n : ℕ) (key : List ℕ) (keys : List (List ℕ)) (s : State) → IsIn tables parameters n s → take n (walk_values (key ∷ keys) ++ vs) s ≡ (put name (value.Text key) >>= λ _. body n (walk_values keys ++ vs)) s
  pub runs : (n : ℕ) (ws : List Value) (s : State) → IsIn tables parameters n s → body n ws s ≡ (x >>= λ f. inner n ws f) s
  pub leaves : (n : ℕ) (keys : List (List ℕ)) (s : State) → leave n (walk_values keys ++ vs) s ≡ exit n s
  pub out_normal : (n : ℕ) → out n flow.Normal ≡ exit n
  pub out_return : (n : ℕ) (v : Value) → out n (flow.Return v) ≡ ret v
  pub normal : (n : ℕ) (ws : List Value) → inner n ws flow.Normal ≡ next n ws
  pub continue : (n : ℕ) (ws : List Value) → inner n ws flow.Continue ≡ next n ws
  pub break : (n : ℕ) (ws : List Value) → inner n ws flow.Break ≡ leave n ws
  pub return : (n : ℕ) (ws : List Value) (v : Value) → inner n ws (flow.Return v) ≡ ret v
  pub alike : (n n' : ℕ) (s : State) (f : Flow) → s.steps ≤ n → s.steps ≤ n' → out n f s ≡ out n' f s

module _ {tables : Tables} {parameters : List FormalParameter} {name : List ℕ} {x : Run Flow} {vs : List Value} {turns take body next leave : ℕ → Cont} {exit : ℕ → Run Value} {out : ℕ → Flow → Run Value} {inner : ℕ → List Value → Flow → Run Value}
    (w : IsWalk tables parameters name x vs turns take body next leave exit out inner) where
  abbrev left : List (List ℕ) → List Value
  left keys = walk_values keys ++ vs

  module _ (keys : List (List ℕ)) (onward : (n : ℕ) (s : State) → IsIn tables parameters n s → next n (left keys) s ≡ (walk name keys x >>= out n) s)
      (keeps_rest : Keeps (walk name keys x)) where
    behind : (k n : ℕ) (u : State) (f : Flow) → IsIn tables parameters k u → u.steps ≤ n → inner k (left keys) f u ≡ (unless_ended (ending f) (walk name keys x) >>= out n) u
    behind k n u flow.Normal i high = at_state (w.normal k (left keys)) u ∙ onward k u i
        ∙ later_in _ _ u u.steps keeps_rest (bounded_by u.steps i (le_refl u.steps)) (λ f v j. let v_low = j.low in let u_low = i.low in w.alike k n v f (omega (arith, v_low, u_low)) (omega (arith, v_low, high)))
    behind k n u flow.Continue i high = at_state (w.continue k (left keys)) u ∙ onward k u i
        ∙ later_in _ _ u u.steps keeps_rest (bounded_by u.steps i (le_refl u.steps)) (λ f v j. let v_low = j.low in let u_low = i.low in w.alike k n v f (omega (arith, v_low, u_low)) (omega (arith, v_low, high)))
    behind k n u flow.Break i high = at_state (w.break k (left keys)) u ∙ w.leaves k keys u ∙ sym (at_state (w.out_normal k) u) ∙ w.alike k n u flow.Normal i.low high ∙ sym (given flow.Normal (out n) u)
    behind k n u (flow.Return v) i high = at_state (w.return k (left keys) v) u ∙ sym (at_state (w.out_return n v) u) ∙ sym (given (flow.Return v) (out n) u)

    -- a turn with a key, and the rest
    turned : (n : ℕ) (t : State) (key : List ℕ) → IsIn tables parameters n t → turns n (left (key ∷ keys)) t ≡ ((turn (put name (value.Text key) >>= λ _. x) >>= λ ended. unless_ended ended (walk name keys x)) >>= out n) t
    turned zero t key i = w.none (left (key ∷ keys)) t ∙ none_left _ _ t i.low ∙ sym (turn_then (put name (value.Text key) >>= λ _. x) (λ ended. unless_ended ended (walk name keys x)) (out zero) t)
    turned (suc k) t key i =
        w.more k (left (key ∷ keys)) t
        ∙ spent_same _ _ t (λ u h e.
        let low = i.low in
        let j : IsIn tables parameters k u = bounded_by k (spent_in (suc k) i h e) (omega (arith, low, h)) in
        w.takes k key keys u j
        ∙ later_in _ _ u k (keeps_put name (value.Text key)) j (λ _ u' j'.
        w.runs k (left keys) u' j'
        ∙ later_in _ _ u' k w.keeps_body j' (λ f v m. let v_low = m.low in behind k (suc k) v f m (omega (arith, v_low))))
        ∙ sym (assoc_at (put name (value.Text key)) (λ _. x) (λ f. unless_ended (ending f) (walk name keys x) >>= out (suc k)) u))
        ∙ sym (turn_then (put name (value.Text key) >>= λ _. x) (λ ended. unless_ended ended (walk name keys x)) (out (suc k)) t)

  pub walks : (keeps_walk : (keys : List (List ℕ)) → Keeps (walk name keys x)) (keys : List (List ℕ)) (n : ℕ) (s : State) → IsIn tables parameters n s → next n (left keys) s ≡ (walk name keys x >>= out n) s
  unfolding walk
  walks keeps_walk [] n s i = w.ends n s ∙ sym (at_state (w.out_normal n) s) ∙ sym (given flow.Normal (out n) s)
  walks keeps_walk (key ∷ keys) n s i = w.nexts n key keys s ∙ turned keys (walks keeps_walk keys) (keeps_walk keys) n s key i
