-- Elements at keys that are read where they stand.
use Rattle.std.specs.Prelude.{OnOk, IfSome, is_some}
use Rattle.std.specs.List.{concat}
use Rattle.std.proofs.Common.{◌≡◌, ℕ, ℤ, Bool, true, List, [], ◌∷◌, map, length, drop, None, Some, Option, Result, Ok, Err, refl, sym, ap, ◌∙◌, subst}
use Rattle.std.specs.Global.{Vec}
use Rattle.awk_value.specs.declared.value.Value.{Value}
use Rattle.awk_value.specs.declared.value.Value.TheVariants as value
use Rattle.awk_value.specs.Values.{str_of}
use Rattle.awk_lex.specs.declared.token.AssignmentOperator.{AssignmentOperator}
use Rattle.awk_lex.specs.declared.token.AssignmentOperator.TheVariants as assignment
use Rattle.awk_lex.specs.declared.token.IncrementOperator.{IncrementOperator}
use Rattle.awk_semantics.specs.declared.halt.Halt.{Halt}
use Rattle.awk_semantics.specs.State.{Run, ◌>>=◌, lift, ret}
use Rattle.awk_semantics.specs.Operators.{operator_of, truth_value}
use Rattle.awk_storage.specs.declared.position.Array.{Array}
use Rattle.awk_storage.specs.declared.position.Place.TheVariants as place
use Rattle.awk_storage.specs.Forms.{contains_at}
use Rattle.awk_storage.specs.Positions.{read_element_of, assign_by_at, post_increment_at}
use Rattle.awk_resolve.specs.declared.node.Key.{Key}
use Rattle.awk_resolve.specs.declared.node.Key.TheVariants as key
use Rattle.awk_resolve.specs.declared.node.Operand.{Operand}
use Rattle.awk_resolve.specs.declared.node.Target.{Target}
use Rattle.awk_resolve.specs.declared.node.Target.TheVariants as target
use Rattle.awk_resolve.specs.declared.node.ValueNode.TheVariants as v
use Rattle.awk_resolve.specs.Nodes.{taken, operand_value, operand_values}
use Rattle.awk_runtime.specs.declared.runtime.Runtime.{Runtime}
use Rattle.awk_runtime.specs.Naming.{Naming}
use Rattle.awk_runtime.specs.Simulation.{Changes}
use Rattle.awk_runtime.specs.support.Updates.{Gives}
use Rattle.awk_runtime.proofs.Composition.{then_changes, ends_changes, lift_changes}
use Rattle.awk_evaluator.specs.declared.machine.Machine.{Machine}
use Rattle.awk_evaluator.specs.Operands.{OperandsView}
use Rattle.awk_evaluator.specs.Moves.{Computes, Done, Keeps, without_value}
use Rattle.awk_evaluator.specs.Reading.{Runs, Leaves, ReadsOperand, ReadsJoined, ReadsKey, AssignsElement, AssignsTarget, PutsAt, Raises, PutsValues, PutsOperands}
use Rattle.awk_evaluator.specs.Appending.{Joins}
use Rattle.awk_evaluator.specs.Quick.{IsAtHand, IsKeyAtHand, IsAsGood, Puts, Pushed}
use Rattle.awk_evaluator.specs.Elements.{IsJoinedAtHand, Acts, GivesElement, RaisesElement, RaisesAtKey}
use Rattle.awk_evaluator.proofs.OperandPrints.{own_taken, own_dropped}
use Rattle.awk_evaluator.proofs.QuickValues.{pushed_puts}
use Rattle.awk_evaluator.proofs.Parts.{leaves_kept}
use Rattle.awk_evaluator.proofs.Computing.{made_of}

-- keys at hand

module _ (m : Machine) where
  module _ {Answer : Type 0} (does : Value → Machine → Answer → Machine → Type 0) (m' : Machine) where
    pub operand_acts : (a : Operand) (found : Option Answer) → IfSome found (λ r. Acts (λ w. IsAtHand a w m) does m r m') → IfSome found (λ r. Acts (λ w. IsKeyAtHand (key.At a) w m) does m r m')
    operand_acts a None h = tt
    operand_acts a (Some r) h = record { key = h.key; at_hand = record { changes = h.at_hand.changes }; acted = h.acted }

    pub joined_acts : (list : Vec Operand) (found : Option Answer) → IfSome found (λ r. Acts (λ w. IsJoinedAtHand list.items w m) does m r m') → IfSome found (λ r. Acts (λ w. IsKeyAtHand (key.Joined list) w m) does m r m')
    joined_acts list None h = tt
    joined_acts list (Some r) h = record { key = h.key; at_hand = record { changes = h.at_hand.changes }; acted = h.acted }

  pub joined_found : (list : List Operand) {text : List ℕ} → Joins list m [] text → IsJoinedAtHand list (value.Text text) m
  joined_found list j = record { changes = then_changes _ j.read (lift_changes _ m.runtime (ap (λ (l : List ℕ). Ok (value.Text l)) (sym j.text))) }

  -- a number that is as good

  pub number_as_good : (o : AssignmentOperator) {a : Operand} (n : ℤ) → IsAtHand a (value.Number n) m → IsAsGood o a n m
  number_as_good o n at = record { found = value.Number n; at_hand = at; alike = λ names p operand. refl }

-- keys and operands that are read

pub runs_leaves : {run : Run Value} {m m' : Machine} (r : Result Value Halt) → Runs run m r m' → Leaves run m r m'
runs_leaves (Ok w) h = record { operands = h.operands; calls = h.calls; changes = h.changes }
runs_leaves (Err e) h = record { operands = tt; calls = tt; changes = h.changes }

-- what is done with a value that was read
module _ {run : Run Value} (f : Naming → Value → Run Value) {m m1 : Machine} where
  pub not_then : {h : Halt} → Leaves run m (Err h) m1 → Leaves (run >>= f m.runtime.names) m (Err h) m1
  not_then q = record { operands = tt; calls = tt; changes = ends_changes _ q.changes }

  pub leaves_then : {w : Value} {m' : Machine} (r : Result Value Halt) → Leaves run m (Ok w) m1 → Leaves (f m1.runtime.names w) m1 r m' → Leaves (run >>= f m.runtime.names) m r m'
  leaves_then {w = w} {m' = m'} r q u = by r u.operands u.calls (then_changes _ q.changes (subst (λ (names : Naming). Changes (f names w) m1.runtime m'.runtime r) q.changes.names u.changes))
    where
      by : (x : Result Value Halt) → OnOk x (m'.operands ≡ m1.operands) → OnOk x (m'.runtime.frames.callers ≡ m1.runtime.frames.callers) → Changes (run >>= f m.runtime.names) m.runtime m'.runtime x → Leaves (run >>= f m.runtime.names) m x m'
      by (Ok y) o k changes = record { operands = o ∙ q.operands; calls = k ∙ q.calls; changes = changes }
      by (Err e) o k changes = record { operands = tt; calls = tt; changes = changes }

  pub done_then : {w : Value} {m' : Machine} (r : Result (Unit {0}) Halt) → Leaves run m (Ok w) m1 → Done (λ q. Leaves (f m1.runtime.names w) m1 q m') r → Done (λ q. Leaves (run >>= f m.runtime.names) m q m') r
  done_then (Ok u) q d = record { done = (d.done.0, leaves_then (Ok d.done.0) q d.done.1) }
  done_then (Err e) q d = record { done = leaves_then (Err e) q d.done }

  pub not_done : {h : Halt} → Leaves run m (Err h) m1 → Done (λ q. Leaves (run >>= f m.runtime.names) m q m1) (Err h)
  not_done q = record { done = not_then q }

-- where the machine keeps why it was halted
pub halted_leaves : {run : Run Value} {m m1 : Machine} {h : Halt} → Leaves run m (Err h) m1 → Leaves run m (Err h) (record m1 { halt = h })
halted_leaves q = record { operands = tt; calls = tt; changes = q.changes }

-- what leaves nothing where it came to a value
pub changed_leaves : {run : Run Value} {m m' : Machine} (r : Result Value Halt) → Changes run m.runtime m'.runtime r → m'.operands ≡ m.operands → m'.runtime.frames.callers ≡ m.runtime.frames.callers → Leaves run m r m'
changed_leaves (Ok w) changes operands calls = record { operands = operands; calls = calls; changes = changes }
changed_leaves (Err e) changes operands calls = record { operands = tt; calls = tt; changes = changes }

-- what is at hand leaves nothing
pub at_hand_leaves : {run : Run Value} {m : Machine} {w : Value} → Changes run m.runtime m.runtime (Ok w) → Leaves run m (Ok w) m
at_hand_leaves changes = record { operands = refl; calls = refl; changes = changes }

-- the texts of operands, which were put on the stack

module _ (list : List Operand) {m m1 : Machine} where
  pub not_joined : {h : Halt} → PutsOperands list m (Err h) m1 → ReadsJoined list m (Err h) m1
  not_joined q = record { operands = tt; calls = tt; changes = ends_changes _ q.puts }

  module _ (q : PutsOperands list m (Ok tt) m1) {vs : List Value} (are : vs ≡ taken (length list) m1.operands.values) where
    abbrev ws : List Value
    ws = q.puts.0

    put : PutsValues list ws m m1
    put = q.puts.1

    are_own : vs ≡ ws
    are_own = are ∙ ap (λ (o : OperandsView). taken (length list) o.values) put.operands ∙ own_taken ws m.operands.values (length list) put.count

    joined_by : (r : Result Value Halt) → Changes (lift (Ok (value.Text (concat (map str_of vs))))) m1.runtime m1.runtime r → Changes (operand_values m.runtime.names.scalars list >>= λ l. ret (value.Text (concat (map str_of l)))) m.runtime m1.runtime r
    joined_by r h = then_changes _ put.changes (subst (λ (l : List Value). Changes (lift (Ok (value.Text (concat (map str_of l))))) m1.runtime m1.runtime r) are_own h)

    pub texts_unjoined : {h : Halt} → Changes (lift (Ok (value.Text (concat (map str_of vs))))) m1.runtime m1.runtime (Err h) → ReadsJoined list m (Err h) m1
    texts_unjoined h = record { operands = tt; calls = tt; changes = joined_by _ h }

    pub texts_joined : {b : Value} {m' : Machine} → Changes (lift (Ok (value.Text (concat (map str_of vs))))) m1.runtime m1.runtime (Ok b) → m'.operands ≡ record m1.operands { values = drop (length list) m1.operands.values } → m'.runtime.frames.callers ≡ m1.runtime.frames.callers → m'.runtime ≡ m1.runtime → ReadsJoined list m (Ok b) m'
    texts_joined {b = b} {m' = m'} h dropped calls runtime =
        let cut : OperandsView → OperandsView = λ o. record o { values = drop (length list) o.values } in
        let all : List Value → OperandsView = λ l. record m.operands { values = l } in
        record {
          operands = dropped ∙ ap cut put.operands ∙ ap all (own_dropped ws m.operands.values (length list) put.count);
          calls = calls ∙ put.calls;
          changes = subst (λ (y : Runtime). Changes (operand_values m.runtime.names.scalars list >>= λ l. ret (value.Text (concat (map str_of l)))) m.runtime y (Ok b)) (sym runtime) (joined_by _ h);
        }

-- elements that are at hand, put on the stack

module _ {m : Machine} {k : Key} {w : Value} (at : IsKeyAtHand k w m) where
  pub element_puts_at : {a : Array} {x : Value} {m' : Machine} → Changes (read_element_of a (str_of w)) m.runtime m.runtime (Ok x) → Pushed x m m' → Puts (v.ReadElement a (Some k)) m m'
  element_puts_at h p = pushed_puts refl (λ tables functions. then_changes _ at.changes h) p

  pub contains_puts_at : {a : Array} {found : Bool} {m' : Machine} → Changes (contains_at a (str_of w)) m.runtime m.runtime (Ok found) → Pushed (truth_value found) m m' → Puts (v.Contains a (Some k)) m m'
  contains_puts_at {found = found} h p = pushed_puts refl (λ tables functions. then_changes _ at.changes (made_of truth_value found h)) p

  pub raised_puts_at : {o : IncrementOperator} {a : Array} {z : ℤ} {m' : Machine} (between : OperandsView) → between ≡ record m.operands { values = value.Nothing ∷ m.operands.values } → Changes (post_increment_at m.runtime.names.scalars o (place.Element a) w) m.runtime m'.runtime (Ok (value.Number z)) → m'.operands ≡ record between { values = value.Number z ∷ drop 1 between.values } → m'.runtime.frames.callers ≡ m.runtime.frames.callers → Puts (v.PostIncrementAt o (target.Element a k)) m m'
  raised_puts_at {z = z} between pushed h replaced calls = record {
    value = value.Number z;
    operands = replaced ∙ ap (λ (s : OperandsView). record s { values = value.Number z ∷ drop 1 s.values }) pushed;
    calls = calls;
    changes = λ tables functions. then_changes _ at.changes h;
  }

  pub raised_at : (o : IncrementOperator) (a : Array) {x : Value} {m' : Machine} → Changes (post_increment_at m.runtime.names.scalars o (place.Element a) w) m.runtime m'.runtime (Ok x) → m'.operands ≡ m.operands → m'.runtime.frames.callers ≡ m.runtime.frames.callers → Done (λ r. Raises o (target.Element a k) m r m') (Ok tt)
  raised_at o a {x = x} h operands calls = record { done = (x, record { operands = operands; calls = calls; changes = then_changes _ at.changes h }) }

-- the number of an element that is raised at a key that is at hand

pub raised_at_key : {o : IncrementOperator} {a : Array} {k : Key} {m m' : Machine} (found : Option ℤ) → Acts (λ w. IsKeyAtHand k w m) (λ key old answer new. RaisesElement o a key old answer new) m found m' → IfSome found (λ n. RaisesAtKey o a k m n m')
raised_at_key None h = tt
raised_at_key (Some n) h = record { key = h.key; at_hand = h.at_hand; raises = h.acted.raises; operands = h.acted.operands; calls = h.acted.calls }

pub some_raised : {P : ℤ → Type 0} (found : Option ℤ) → is_some found ≡ true → IfSome found P → (n : ℤ) × P n
some_raised None is h = cc
some_raised (Some n) is h = (n, h)

-- an operand is assigned to the element at a key

abbrev assigns : AssignmentOperator → Array → Operand → Naming → Value → Run Value
assigns o array a names x = operand_value names.scalars a >>= λ w. assign_by_at names.scalars (operator_of o) (place.Element array) x w

module _ (o : AssignmentOperator) (array : Array) (k : Key) (a : Operand) {m m1 : Machine} where
  pub key_updated : {w : Value} {m' : Machine} (r : Result (Unit {0}) Halt) → ReadsKey k m (Ok w) m1 → Done (λ q. AssignsElement o array w a m1 q m') r → Done (λ q. AssignsTarget o (target.Element array k) a m q m') r
  key_updated r q d = done_then (assigns o array a) r q d

  pub hand_updated : {w : Value} {m' : Machine} (r : Result (Unit {0}) Halt) → IsKeyAtHand k w m → m1 ≡ m → Done (λ q. AssignsElement o array w a m1 q m') r → Done (λ q. AssignsTarget o (target.Element array k) a m q m') r
  hand_updated {w = w} r at same d = key_updated r (subst (λ (x : Machine). ReadsKey k m (Ok w) x) (sym same) (at_hand_leaves at.changes)) d

  pub key_not_updated : {h : Halt} → ReadsKey k m (Err h) m1 → Done (λ q. AssignsTarget o (target.Element array k) a m q (record m1 { halt = h })) (Err h)
  key_not_updated q = record { done = halted_leaves (not_then (assigns o array a) q) }

-- an operand is read, and assigned to the element at a value

module _ (o : AssignmentOperator) (array : Array) (key : Value) (a : Operand) {m m1 : Machine} where
  pub operand_assigned : {w : Value} {m' : Machine} (r : Result (Unit {0}) Halt) → ReadsOperand a m (Ok w) m1 → Done (λ q. PutsAt o array key w m1 q m') r → Done (λ q. AssignsElement o array key a m q m') r
  operand_assigned r q d = done_then (λ names w. assign_by_at names.scalars (operator_of o) (place.Element array) key w) r (runs_leaves _ q) d

  pub operand_not_assigned : {h : Halt} → ReadsOperand a m (Err h) m1 → Done (λ q. AssignsElement o array key a m q (record m1 { halt = h })) (Err h)
  operand_not_assigned q = record { done = halted_leaves (not_then (λ names w. assign_by_at names.scalars (operator_of o) (place.Element array) key w) (runs_leaves _ q)) }

-- the number of an element at a key that was read
module _ (o : IncrementOperator) (array : Array) (k : Key) {m m1 : Machine} where
  pub key_raised : {w : Value} {m' : Machine} (r : Result Value Halt) → ReadsKey k m (Ok w) m1 → Changes (post_increment_at m1.runtime.names.scalars o (place.Element array) w) m1.runtime m'.runtime r → m'.operands ≡ m1.operands → m'.runtime.frames.callers ≡ m1.runtime.frames.callers → Raises o (target.Element array k) m r m'
  key_raised r q h operands calls = leaves_then (λ names x. post_increment_at names.scalars o (place.Element array) x) r q (changed_leaves r h operands calls)

  pub key_not_raised : {h : Halt} → ReadsKey k m (Err h) m1 → Raises o (target.Element array k) m (Err h) m1
  key_not_raised q = not_then (λ names x. post_increment_at names.scalars o (place.Element array) x) q

-- elements that are assigned

pub good_assigned : (o : AssignmentOperator) (array : Array) (key : Value) {a : Operand} {n : ℤ} {m m' : Machine} → IsAsGood o a n m → Gives (assign_by_at m.runtime.names.scalars (operator_of o) (place.Element array) key (value.Number n)) m.runtime (Ok tt) m'.runtime → m'.operands ≡ m.operands → m'.runtime.frames.callers ≡ m.runtime.frames.callers → Done (λ r. AssignsElement o array key a m r m') (Ok tt)
good_assigned o array key {m = m} {m' = m'} good g operands calls = record {
  done = (
    g.gives.0,
    record {
      operands = operands;
      calls = calls;
      changes = then_changes _ good.at_hand.changes (subst (λ (run : Run Value). Changes run m.runtime m'.runtime (Ok g.gives.0)) (sym (good.alike m.runtime.names.scalars (place.Element array) key)) g.gives.1);
    },
  );
}

-- an operand that is at hand, and the element at a key that is
pub value_assigned : (array : Array) (key : Value) {a : Operand} {w : Value} {m m' : Machine} → IsAtHand a w m → GivesElement None array key w m m' → Done (λ r. AssignsElement assignment.Plain array key a m r m') (Ok tt)
value_assigned array key at g = record { done = (g.gives.gives.0, record { operands = g.operands; calls = g.calls; changes = then_changes _ at.changes g.gives.gives.1 }) }

-- by a value, which isn't read again
given_by : (o : AssignmentOperator) (array : Array) (key w : Value) {m mid m' : Machine} (r : Result (Unit {0}) Halt) → Keeps mid m' → Gives (assign_by_at m.runtime.names.scalars (operator_of o) (place.Element array) key w) m.runtime r mid.runtime → mid.operands ≡ m.operands → mid.runtime.frames.callers ≡ m.runtime.frames.callers → Done (λ q. PutsAt o array key w m q m') (without_value r)
given_by o array key w (Ok u) kept g operands calls = record { done = (g.gives.0, leaves_kept kept (Ok g.gives.0) (record { operands = operands; calls = calls; changes = g.gives.1 })) }
given_by o array key w (Err h) kept g operands calls = record { done = leaves_kept kept (Err h) (record { operands = tt; calls = tt; changes = g.gives }) }

pub value_given : (o : AssignmentOperator) (array : Array) (key w : Value) {m mid m' : Machine} (r : Result (Unit {0}) Halt) {s : Result (Unit {0}) Halt} → s ≡ without_value r → Keeps mid m' → Gives (assign_by_at m.runtime.names.scalars (operator_of o) (place.Element array) key w) m.runtime r mid.runtime → mid.operands ≡ m.operands → mid.runtime.frames.callers ≡ m.runtime.frames.callers → Done (λ q. PutsAt o array key w m q m') s
value_given o array key w {m = m} {m' = m'} r is kept g operands calls = subst (λ (s : Result (Unit {0}) Halt). Done (λ q. PutsAt o array key w m q m') s) (sym is) (given_by o array key w r kept g operands calls)

-- elements at a key that was read

module _ (a : Array) (k : Key) {m m1 : Machine} where
  pub element_unread : {h : Halt} → ReadsKey k m (Err h) m1 → Computes (v.ReadElement a (Some k)) m (Err h) m1
  element_unread q = record { operands = tt; calls = tt; changes = λ tables functions. ends_changes _ q.changes }

  module _ {w : Value} (q : ReadsKey k m (Ok w) m1) {m' : Machine} where
    pub element_read : (r : Result Value Halt) → Changes (read_element_of a (str_of w)) m1.runtime m'.runtime r → m'.operands ≡ m1.operands → m'.runtime.frames.callers ≡ m1.runtime.frames.callers → Computes (v.ReadElement a (Some k)) m r m'
    element_read (Ok u) h operands calls = record { operands = operands ∙ q.operands; calls = calls ∙ q.calls; changes = λ tables functions. then_changes _ q.changes h }
    element_read (Err e) h operands calls = record { operands = tt; calls = tt; changes = λ tables functions. then_changes _ q.changes h }

-- a target that is raised for its value

pub raises_computes : (o : IncrementOperator) (t : Target) {m m' : Machine} (r : Result Value Halt) → Raises o t m r m' → Computes (v.PostIncrementAt o t) m r m'
raises_computes o t (Ok w) h = record { operands = h.operands; calls = h.calls; changes = λ tables functions. h.changes }
raises_computes o t (Err e) h = record { operands = tt; calls = tt; changes = λ tables functions. h.changes }
