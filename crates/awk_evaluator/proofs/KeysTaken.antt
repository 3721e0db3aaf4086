-- The next key of a walk.
use Rattle.std.proofs.Common.{◌≡◌, ◌-◌, ◌+◌, ℕ, suc, List, [], ◌∷◌, ◌++◌, map, drop, arith, pos, Result, Ok, Err, refl, sym, subst, ap, ◌∙◌}
use Rattle.awk_value.specs.declared.value.Value.{Value}
use Rattle.awk_value.specs.declared.value.Value.TheVariants as value
use Rattle.awk_semantics.specs.declared.halt.Halt.{Halt}
use Rattle.awk_semantics.specs.declared.halt.Halt.TheVariants as halt
use Rattle.awk_semantics.specs.declared.fault.Fault.TheVariants.{OutOfMemory}
use Rattle.awk_storage.specs.declared.position.Array.{Array}
use Rattle.awk_storage.specs.declared.position.Variable.{Variable}
use Rattle.awk_storage.specs.Forms.{keys_of_array}
use Rattle.awk_runtime.specs.declared.runtime.Runtime.{Runtime}
use Rattle.awk_storage.specs.Positions.{put_variable}
use Rattle.awk_resolve.specs.Nodes.{first, second, keys_left}
use Rattle.awk_runtime.specs.Simulation.{Changes}
use Rattle.awk_evaluator.specs.declared.machine.Machine.{Machine}
use Rattle.awk_evaluator.specs.Operands.{OperandsView}
use Rattle.std.proofs.lemmas.List.{drop-drop}
use Rattle.awk_evaluator.specs.Walks.{laid, PutsKeys, TakesKey}
use Rattle.awk_evaluator.proofs.Moving.{memory_behind_changes}

pub second_first : (vs : List Value) → first (drop 1 vs) ≡ second vs
second_first [] = refl
second_first (v ∷ vs) = refl

pub behind_two : (vs : List Value) → drop 1 (drop 1 vs) ≡ drop 2 vs
behind_two [] = refl
behind_two (v ∷ []) = refl
behind_two (v ∷ w ∷ vs) = refl

key_is : (m : Machine) {o : OperandsView} {key : Value} → o ≡ record m.operands { values = drop 1 m.operands.values } → key ≡ first o.values → key ≡ second m.operands.values
key_is m rest top = top ∙ ap (λ (x : OperandsView). first x.values) rest ∙ second_first m.operands.values

changed_by : (x : Variable) (m m' : Machine) {key : Value} {r : Result (Unit {0}) Halt} → key ≡ second m.operands.values → Changes (put_variable m.runtime.names.scalars x key) m.runtime m'.runtime r → Changes (put_variable m.runtime.names.scalars x (second m.operands.values)) m.runtime m'.runtime r
changed_by x m m' {r = r} e c = subst (λ v. Changes (put_variable m.runtime.names.scalars x v) m.runtime m'.runtime r) e c

pub key_refused : {x : Variable} {m m' : Machine} {o : OperandsView} {key : Value} {h : Halt} → o ≡ record m.operands { values = drop 1 m.operands.values } → key ≡ first o.values → Changes (put_variable m.runtime.names.scalars x key) m.runtime m'.runtime (Err h) → TakesKey x m (Err h) m'
key_refused {x = x} {m = m} {m' = m'} rest top c = record { changes = changed_by x m m' (key_is m rest top) c; operands = tt; calls = tt }

pub key_stuck : {x : Variable} {m m' : Machine} {o : OperandsView} {key : Value} → o ≡ record m.operands { values = drop 1 m.operands.values } → key ≡ first o.values → Changes (put_variable m.runtime.names.scalars x key) m.runtime m'.runtime (Ok tt) → TakesKey x m (Err (halt.Fault OutOfMemory)) m'
key_stuck {x = x} {m = m} {m' = m'} rest top c = record { changes = memory_behind_changes (changed_by x m m' (key_is m rest top) c); operands = tt; calls = tt }

pub next_key : {x : Variable} {m m' : Machine} {o o' : OperandsView} {count key : Value} {left : ℕ} → count ≡ first m.operands.values → o ≡ record m.operands { values = drop 1 m.operands.values } → key ≡ first o.values → o' ≡ record o { values = drop 1 o.values }
    → Changes (put_variable m.runtime.names.scalars x key) m.runtime m'.runtime (Ok tt) → left ≡ keys_left count - 1 → m'.operands ≡ record o' { values = value.Number (pos left) ∷ o'.values } → m'.runtime.frames.callers ≡ m.runtime.frames.callers → TakesKey x m (Ok tt) m'
next_key {x = x} {m = m} {m' = m'} {o = o} {o' = o'} {left = left} is rest top rest' c less operands calls =
    let below : OperandsView → OperandsView = λ x. record { values = value.Number (pos left) ∷ x.values; below = x.below } in
    let next : OperandsView → OperandsView = λ x. record { values = value.Number (pos left) ∷ drop 1 x.values; below = x.below } in
    let last : List Value → OperandsView = λ vs. record { values = value.Number (pos left) ∷ vs; below = m.operands.below } in
    let counted : ℕ → OperandsView = λ n. record { values = value.Number (pos n) ∷ drop 2 m.operands.values; below = m.operands.below } in
    record {
      changes = changed_by x m m' (key_is m rest top) c;
      operands = operands ∙ ap below rest' ∙ ap next rest ∙ ap last (behind_two m.operands.values) ∙ ap counted (less ∙ ap (λ v. keys_left v - 1) is);
      calls = calls;
    }

-- the keys that are left, and their count
pub left_off : (m : OperandsView) {o : OperandsView} {n : ℕ} {count : Value} → o ≡ record { values = drop 1 m.values; below = m.below } → count ≡ first m.values → n ≡ keys_left count
    → let left : OperandsView = record { values = drop n o.values; below = o.below } in left ≡ record { values = drop (suc (keys_left (first m.values))) m.values; below = m.below }
left_off m {n = n} rest top is =
    let k = keys_left (first m.values) in
    let same : n ≡ k = is ∙ ap keys_left top in
    let one : 1 + k ≡ suc k = omega arith in
    let first_of_all : OperandsView → OperandsView = λ x. record { values = drop n x.values; below = x.below } in
    let counted : ℕ → OperandsView = λ j. record { values = drop j (drop 1 m.values); below = m.below } in
    let last : List Value → OperandsView = λ vs. record { values = vs; below = m.below } in
    ap first_of_all rest ∙ ap counted same ∙ ap last (drop-drop k 1 m.values ∙ ap (λ j. drop j m.values) one)

-- a key more is laid on top
pub laid_more : (keys : List (List ℕ)) (key : List ℕ) (o : OperandsView) → let left : OperandsView = laid keys (record { values = value.Text key ∷ o.values; below = o.below }) in left ≡ laid (keys ++ key ∷ []) o
laid_more keys key o = let last : List Value → OperandsView = λ vs. record { values = vs; below = o.below } in ap last (more keys)
  where
    more : (ks : List (List ℕ)) → map (λ k. value.Text k) ks ++ value.Text key ∷ o.values ≡ map (λ k. value.Text k) (ks ++ key ∷ []) ++ o.values
    more [] = refl
    more (k ∷ ks) = ap (λ l. value.Text k ∷ l) (more ks)

pub keys_stuck : {a : Array} {m m' : Machine} {mid : Runtime} {keys : List (List ℕ)} → m'.runtime ≡ mid → Changes (keys_of_array a) m.runtime mid (Ok keys) → PutsKeys a m (Err (halt.Fault OutOfMemory)) m'
keys_stuck {a = a} {m = m} same c = record { puts = subst (λ (x : Runtime). Changes (keys_of_array a) m.runtime x (Err (halt.Fault OutOfMemory))) (sym same) (memory_behind_changes c) }
