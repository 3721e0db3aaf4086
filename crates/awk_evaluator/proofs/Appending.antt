-- Operands that are appended to the text of a target.
use Rattle.std.proofs.Common.{◌≡◌, ◌<◌, ◌+◌, ℕ, get_or, add-one, drop-cons, List, [], ◌∷◌, ◌++◌, map, length, drop, None, Result, Ok, Err, refl, sym, ap, ◌∙◌, subst, append_assoc}
use Rattle.std.specs.Prelude.{OnOk, IfErr}
use Rattle.std.specs.List.{concat}
use Rattle.awk_value.specs.declared.value.Value.{Value}
use Rattle.awk_value.specs.declared.value.Value.TheVariants as value
use Rattle.awk_value.specs.Values.{str_of}
use Rattle.awk_semantics.specs.declared.halt.Halt.{Halt}
use Rattle.awk_semantics.specs.State.{State, Run, ◌>>=◌, lift, ret}
use Rattle.awk_storage.specs.declared.position.Array.{Array}
use Rattle.awk_storage.specs.declared.position.Variable.{Variable}
use Rattle.awk_storage.specs.declared.position.Place.{Place}
use Rattle.awk_storage.specs.declared.position.Place.TheVariants as place
use Rattle.awk_storage.specs.Positions.{read_at, assign_by_at}
use Rattle.awk_resolve.specs.declared.node.Key.{Key}
use Rattle.awk_resolve.specs.declared.node.Operand.{Operand}
use Rattle.awk_resolve.specs.declared.node.Target.{Target}
use Rattle.awk_resolve.specs.declared.node.Target.TheVariants as target
use Rattle.awk_resolve.specs.Nodes.{operand_value, operand_values, append_operands_at, append_operands, append_by_step}
use Rattle.awk_runtime.specs.declared.runtime.Runtime.{Runtime}
use Rattle.awk_runtime.specs.Naming.{Naming}
use Rattle.awk_runtime.specs.Simulation.{Changes, Spends}
use Rattle.awk_runtime.specs.Lines.{AppendsText}
use Rattle.awk_runtime.specs.support.Appends.{AppendsAt as AppendsIn, appended}
use Rattle.awk_runtime.proofs.Composition.{then_changes, ends_changes, lift_changes}
use Rattle.awk_evaluator.specs.declared.machine.Machine.{Machine}
use Rattle.awk_evaluator.specs.Operands.{OperandsView}
use Rattle.awk_evaluator.specs.Moves.{Done, Keeps}
use Rattle.awk_evaluator.specs.Reading.{Leaves, ReadsKey, ReadsJoined}
use Rattle.awk_evaluator.specs.Appending.{AppendsOperands, SpendsAndAppends, AppendsAt, AppendsBehind, AppendsBytes, Joins}
use Rattle.awk_runtime.proofs.Steps.{same_changes}
use Rattle.awk_resolve.proofs.Calculus.{assoc_at, later_same, given}
use Rattle.awk_evaluator.proofs.Changing.{variable_alike}

-- several, one behind the other

abbrev pub JoinsBehind : List Operand → (left : List Operand) → Machine → (first text : List ℕ) → Type 0
JoinsBehind all left m first text = (ws : List Value) → Changes (operand_values m.runtime.names.scalars left) m.runtime m.runtime (Ok ws) → Joins all m first (text ++ concat (map str_of ws))

pub one_joined : (all : List Operand) (a : Operand) (left : List Operand) (m : Machine) (first text : List ℕ) {text' : List ℕ} → JoinsBehind all (a ∷ left) m first text → AppendsText (operand_value m.runtime.names.scalars a) m.runtime text text' → JoinsBehind all left m first text'
one_joined all a left m first text behind h = λ ws read.
    subst (λ (l : List ℕ). Joins all m first l) (sym (ap (λ l. l ++ concat (map str_of ws)) h.text ∙ append_assoc text (str_of h.value) (concat (map str_of ws))))
    (behind (h.value ∷ ws) (then_changes _ h.changes (then_changes _ read (lift_changes (Ok (h.value ∷ ws)) m.runtime refl))))

pub all_joined : (all : List Operand) (m : Machine) (first text : List ℕ) → JoinsBehind all [] m first text → Joins all m first (text ++ [])
all_joined all m first text behind = behind [] (lift_changes (Ok []) m.runtime refl)

pub next_left : (list : List Operand) (i : ℕ) (a : Operand) → i < length list → a ≡ get_or list i a → drop i list ≡ a ∷ drop (i + 1) list
next_left list i a below is = rw (drop-cons list i a, ← is, add-one) refl

-- where they are appended at once

module _ (list : List Operand) {text : List ℕ} {m : Machine} (j : Joins list m [] text) where
  appended_at : (p : Place) (key : Value) {m' : Runtime} (h : AppendsIn p key text m.runtime m') → Changes (append_operands_at m.runtime.names.scalars p key list) m.runtime m' (Ok h.after)
  appended_at p key {m' = m'} h = then_changes _ h.read (then_changes _ j.read (subst (λ (l : List ℕ). Changes (assign_by_at m.runtime.names.scalars None p key (value.Text (str_of h.before ++ l))) m.runtime m' (Ok h.after)) j.text h.appends))

  pub variable_appended : (x : Variable) {m' : Machine} → AppendsIn (place.Variable x) value.Nothing text m.runtime m'.runtime → m'.operands ≡ m.operands → m'.runtime.frames.callers ≡ m.runtime.frames.callers → Done (λ r. AppendsOperands (target.Variable x) list m r m') (Ok tt)
  variable_appended x h operands calls = record { done = (h.after, record { operands = operands; calls = calls; changes = appended_at (place.Variable x) value.Nothing h }) }

  pub element_appended : (a : Array) (key : Key) {m' : Machine} → AppendsBytes a key text m m' → Done (λ r. AppendsOperands (target.Element a key) list m r m') (Ok tt)
  element_appended a key h = record { done = (h.appends.after, record { operands = h.operands; calls = h.calls; changes = then_changes _ h.at_hand.changes (appended_at (place.Element a) h.key h.appends) }) }

-- where nothing else changes before and behind it

module _ {m m1 m2 m' : Machine} (before : Keeps m m1) (behind : Keeps m2 m') {run : Run Value} where
  leaves_by : (r : Result Value Halt) → Changes run m1.runtime m2.runtime r → Changes run m.runtime m'.runtime r
  leaves_by r h = subst (λ (x : Runtime). Changes run x m'.runtime r) before.runtime (subst (λ (y : Runtime). Changes run m1.runtime y r) (sym behind.runtime) h)

  pub still_leaves : (r : Result Value Halt) → Leaves run m1 r m2 → Leaves run m r m'
  still_leaves (Ok w) h = record { operands = behind.operands ∙ h.operands ∙ before.operands; calls = behind.calls ∙ h.calls ∙ before.calls; changes = leaves_by (Ok w) h.changes }
  still_leaves (Err e) h = record { operands = tt; calls = tt; changes = leaves_by (Err e) h.changes }

  pub still_done : (r : Result (Unit {0}) Halt) → Done (λ q. Leaves run m1 q m2) r → Done (λ q. Leaves run m q m') r
  still_done (Ok u) d = record { done = (d.done.0, still_leaves (Ok d.done.0) d.done.1) }
  still_done (Err e) d = record { done = still_leaves (Err e) d.done }

-- behind a step

module _ {m m1 : Machine} (operands : m1.operands ≡ m.operands) (calls : m1.runtime.frames.callers ≡ m.runtime.frames.callers) (t : Target) (list : List Operand) where
  pub not_spent : {h : Halt} → Spends m.runtime m1.runtime (Err h) → Done (λ r. SpendsAndAppends t list m r m1) (Err h)
  not_spent s = record { done = record { operands = tt; calls = tt; changes = ends_changes _ s.changes } }

  spent_leaves : {m' : Machine} (r : Result Value Halt) → Spends m.runtime m1.runtime (Ok tt) → AppendsOperands t list m1 r m' → SpendsAndAppends t list m r m'
  spent_leaves {m' = m'} r s h = by r h.operands h.calls (then_changes _ s.changes (subst (λ (names : Naming). Changes (append_operands names.scalars t list) m1.runtime m'.runtime r) s.changes.names h.changes))
    where
      by : (q : Result Value Halt) → OnOk q (m'.operands ≡ m1.operands) → OnOk q (m'.runtime.frames.callers ≡ m1.runtime.frames.callers) → Changes (append_by_step m.runtime.names.scalars t list) m.runtime m'.runtime q → SpendsAndAppends t list m q m'
      by (Ok w) o k changes = record { operands = o ∙ operands; calls = k ∙ calls; changes = changes }
      by (Err e) o k changes = record { operands = tt; calls = tt; changes = changes }

  pub spent_appends : {m' : Machine} (r : Result (Unit {0}) Halt) → Spends m.runtime m1.runtime (Ok tt) → Done (λ q. AppendsOperands t list m1 q m') r → Done (λ q. SpendsAndAppends t list m q m') r
  spent_appends (Ok u) s d = record { done = (d.done.0, spent_leaves (Ok d.done.0) s d.done.1) }
  spent_appends (Err e) s d = record { done = spent_leaves (Err e) s d.done }

-- behind a part that changes nothing
pub kept_appends : (t : Target) (list : List Operand) {m m1 m' : Machine} (kept : Keeps m m1) (r : Result (Unit {0}) Halt) → Done (λ q. AppendsOperands t list m1 q m') r → Done (λ q. AppendsOperands t list m q m') r
kept_appends t list {m1 = m1} {m' = m'} kept r d =
    still_done kept (record { operands = refl; calls = refl; runtime = refl }) r
    (subst (λ (x : Runtime). Done (λ q. Leaves (append_operands x.names.scalars t list) m1 q m') r) kept.runtime d)

-- a part that ends

pub ends_leaves : {run : Run Value} {m m' : Machine} {h : Halt} → Changes run m.runtime m'.runtime (Err h) → Leaves run m (Err h) m'
ends_leaves changes = record { operands = tt; calls = tt; changes = changes }

pub refused_leaves : {B : Type 0} (run : Run Value) {m m1 : Machine} (m' : Machine) (r : Result B Halt) → m1 ≡ m → IfErr r (λ halt. (x : Run Value) → Changes x m1.runtime m'.runtime (Err halt)) → IfErr r (λ halt. Leaves run m (Err halt) m')
refused_leaves run m' (Ok b) same h = tt
refused_leaves run m' (Err e) same h = ends_leaves (subst (λ (x : Machine). Changes run x.runtime m'.runtime (Err e)) same (h run))

pub leaves : {run : Run Value} {m m' : Machine} (r : Result Value Halt) → Changes run m.runtime m'.runtime r → m'.operands ≡ m.operands → m'.runtime.frames.callers ≡ m.runtime.frames.callers → Leaves run m r m'
leaves (Ok w) changes operands calls = record { operands = operands; calls = calls; changes = changes }
leaves (Err e) changes operands calls = record { operands = tt; calls = tt; changes = changes }

-- the text that a place held, with that of a value behind it

abbrev both : (old behind : Value) → Value
both old behind = value.Text (str_of old ++ str_of behind)

pub variable_behind : (x : Variable) (key old behind : Value) {m m' : Runtime} {r : Result Value Halt} → Changes (appended m.names.scalars x old behind) m m' r → Changes (assign_by_at m.names.scalars None (place.Variable x) key (both old behind)) m m' r
variable_behind x key old behind {m = m} h =
    let w = both old behind in
    same_changes _ _ (λ s holds. ap (λ (f : Run Value). f s) (variable_alike m.names.scalars None x key value.Nothing w) ∙ sym (given w (λ y. assign_by_at m.names.scalars None (place.Variable x) value.Nothing y) s)) h

module _ (p : Place) (key old behind : Value) {m : Runtime} where
  pub place_behind : {m' : Runtime} {w : Value} {r : Result Value Halt} → Changes (lift (Ok (both old behind))) m m (Ok w) → Changes (assign_by_at m.names.scalars None p key w) m m' r → Changes (assign_by_at m.names.scalars None p key (both old behind)) m m' r
  place_behind text h = same_changes _ _ (λ s holds. sym (given (both old behind) (λ y. assign_by_at m.names.scalars None p key y) s)) (then_changes (λ y. assign_by_at m.names.scalars None p key y) text h)

  pub place_unjoined : {h : Halt} → Changes (lift (Ok (both old behind))) m m (Err h) → Changes (assign_by_at m.names.scalars None p key (both old behind)) m m (Err h)
  place_unjoined text = same_changes _ _ (λ s holds. sym (given (both old behind) (λ y. assign_by_at m.names.scalars None p key y) s)) (ends_changes (λ y. assign_by_at m.names.scalars None p key y) text)

-- the operands were read, one behind the other

module _ (p : Place) (key old : Value) (list : List Operand) where
  abbrev assign_texts : Naming → List Value → Run Value
  assign_texts names ws = assign_by_at names.scalars None p key (value.Text (str_of old ++ concat (map str_of ws)))

  abbrev put_text : Naming → Value → Run Value
  put_text names t = assign_by_at names.scalars None p key (both old t)

  -- the text of the operands is a value between
  between : (names : Naming) (s : State) → ((operand_values names.scalars list >>= λ ws. ret (value.Text (concat (map str_of ws)))) >>= put_text names) s ≡ (operand_values names.scalars list >>= assign_texts names) s
  between names s =
      assoc_at (operand_values names.scalars list) (λ ws. ret (value.Text (concat (map str_of ws)))) (put_text names) s
      ∙ later_same (operand_values names.scalars list) _ (assign_texts names) s (λ ws u. given (value.Text (concat (map str_of ws))) (put_text names) u)

module _ (p : Place) (key : Value) (list : List Operand) (m : Machine) {m1 m2 : Machine} {old : Value} (read : Changes (read_at m.runtime.names.scalars p key) m.runtime m1.runtime (Ok old)) where
  pub values_unread : {h : Halt} → ReadsJoined list m1 (Err h) m2 → AppendsAt p key list m (Err h) m2
  values_unread {h = h} q =
      let names = m.runtime.names in
      let unread = subst (λ (n : Naming). Changes (operand_values n.scalars list >>= λ ws. ret (value.Text (concat (map str_of ws)))) m1.runtime m2.runtime (Err h)) read.names q.changes in
      ends_leaves (then_changes _ read (same_changes _ _ (λ s holds. sym (between p key old list names s)) (ends_changes (put_text p key old list names) unread)))

  module _ {b : Value} (q : ReadsJoined list m1 (Ok b) m2) (same : m1.operands ≡ m.operands) (calls : m1.runtime.frames.callers ≡ m.runtime.frames.callers) (m' : Machine) where
    assigned : (r : Result Value Halt) → AppendsBehind p key old b m2 r m' → Changes (append_operands_at m.runtime.names.scalars p key list) m.runtime m'.runtime r
    assigned r h =
        let names = m.runtime.names in
        let text = subst (λ (n : Naming). Changes (operand_values n.scalars list >>= λ ws. ret (value.Text (concat (map str_of ws)))) m1.runtime m2.runtime (Ok b)) read.names q.changes in
        let assigns = subst (λ (n : Naming). Changes (put_text p key old list n b) m2.runtime m'.runtime r) (q.changes.names ∙ read.names) h.changes in
        then_changes _ read (same_changes _ _ (λ s holds. sym (between p key old list names s)) (then_changes (put_text p key old list names) text assigns))

    pub values_behind : (r : Result Value Halt) → AppendsBehind p key old b m2 r m' → AppendsAt p key list m r m'
    values_behind (Ok w) h = record { operands = h.operands ∙ q.operands ∙ same; calls = h.calls ∙ q.calls ∙ calls; changes = assigned (Ok w) h }
    values_behind (Err e) h = record { operands = tt; calls = tt; changes = assigned (Err e) h }

-- the element at a key that was read

module _ (a : Array) (key : Key) (list : List Operand) {m m1 : Machine} where
  pub key_unread : {h : Halt} → ReadsKey key m (Err h) m1 → AppendsOperands (target.Element a key) list m (Err h) m1
  key_unread read = ends_leaves (ends_changes _ read.changes)

  pub key_read : {k : Value} {m' : Machine} (r : Result Value Halt) → ReadsKey key m (Ok k) m1 → AppendsAt (place.Element a) k list m1 r m' → AppendsOperands (target.Element a key) list m r m'
  key_read {k = k} {m' = m'} r read h = by r h
    where
      changed : (q : Result Value Halt) → AppendsAt (place.Element a) k list m1 q m' → Changes (append_operands m.runtime.names.scalars (target.Element a key) list) m.runtime m'.runtime q
      changed q h = then_changes _ read.changes (subst (λ (n : Naming). Changes (append_operands_at n.scalars (place.Element a) k list) m1.runtime m'.runtime q) read.changes.names h.changes)

      by : (q : Result Value Halt) → AppendsAt (place.Element a) k list m1 q m' → AppendsOperands (target.Element a key) list m q m'
      by (Ok w) h = record { operands = h.operands ∙ read.operands; calls = h.calls ∙ read.calls; changes = changed (Ok w) h }
      by (Err e) h = record { operands = tt; calls = tt; changes = changed (Err e) h }
