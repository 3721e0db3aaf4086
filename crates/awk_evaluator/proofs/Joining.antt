-- What is done with operands that are read where they stand, in any way.
use Rattle.std.proofs.Common.{◌≡◌, ◌<◌, ◌≤◌, ℕ, pos, get_or, arith, List, [], ◌∷◌, ◌++◌, length, map, drop, None, Result, Ok, Err, refl, sym, ap, ◌∙◌, subst}
use Rattle.std.specs.List.{concat}
use Rattle.awk_lex.specs.declared.token.AssignmentOperator.{AssignmentOperator}
use Rattle.awk_lex.specs.declared.token.Operator.TheVariants.{Matches}
use Rattle.awk_grammar.specs.declared.tree.BinaryOperator.{BinaryOperator}
use Rattle.awk_grammar.specs.declared.tree.BinaryOperator.TheVariants.{Infix}
use Rattle.awk_value.specs.declared.value.Value.{Value}
use Rattle.awk_value.specs.declared.value.Value.TheVariants as value
use Rattle.awk_value.specs.Values.{str_of}
use Rattle.awk_semantics.specs.declared.halt.Halt.{Halt}
use Rattle.awk_semantics.specs.State.{State, Run, ◌>>=◌, go_on, lift}
use Rattle.awk_semantics.specs.Operators.{applied}
use Rattle.awk_semantics.specs.Primitives.{read_field, record_text}
use Rattle.awk_storage.specs.declared.position.Variable.{Variable}
use Rattle.awk_storage.specs.declared.position.Place.TheVariants as place
use Rattle.awk_storage.specs.Positions.{read_variable, assign_by_at}
use Rattle.awk_resolve.specs.declared.node.Operand.{Operand}
use Rattle.awk_resolve.specs.declared.node.Operand.TheVariants as operand
use Rattle.awk_resolve.specs.declared.node.ValueNode.TheVariants as v
use Rattle.awk_resolve.specs.Nodes.{first, second, taken, operated, operand_value, assign_variable, append_to}
use Rattle.awk_resolve.proofs.Calculus.{first_same, later_same}
use Rattle.awk_runtime.specs.declared.runtime.Runtime.{Runtime}
use Rattle.awk_runtime.specs.Naming.{Naming, ere_at}
use Rattle.awk_runtime.specs.support.Spelled.{record_tested}
use Rattle.awk_runtime.specs.support.Updates.{Gives}
use Rattle.awk_runtime.specs.Appends.{AppendsText, appended}
use Rattle.awk_runtime.specs.Simulation.{Changes}
use Rattle.awk_runtime.proofs.Composition.{then_changes, ends_changes, lift_changes}
use Rattle.awk_runtime.proofs.Steps.{same_changes}
use Rattle.awk_evaluator.specs.declared.machine.Machine.{Machine}
use Rattle.awk_evaluator.specs.Operands.{OperandsView}
use Rattle.awk_evaluator.specs.Moves.{Computes, Done}
use Rattle.awk_evaluator.specs.Reading.{ReadsOperand, Runs, AssignsOperand, Appends}
use Rattle.awk_evaluator.proofs.Computing.{computed, ended}

-- the same run, by the names that are the same
read_in : (a : Operand) {names : Naming} {m m' : Machine} {r : Result Value Halt} → m.runtime.names ≡ names → ReadsOperand a m r m' → Changes (operand_value names.scalars a) m.runtime m'.runtime r
read_in a {m = m} {m' = m'} {r = r} same u = subst (λ (n : Naming). Changes (operand_value n.scalars a) m.runtime m'.runtime r) same u.changes

module _ {o : BinaryOperator} {b : Operand} where
  -- the topmost value and an operand

  pub operated_with_operand : {m m1 m3 : Machine} {o2 : OperandsView} {x y : Value} {r : Result Value Halt} → ReadsOperand b m (Ok y) m1 → x ≡ first m1.operands.values → o2 ≡ record m1.operands { values = drop 1 m1.operands.values }
      → m3.operands ≡ o2 → m3.runtime.frames.callers ≡ m1.runtime.frames.callers → Changes (lift (operated o x y)) m1.runtime m3.runtime r → Computes (v.OperateWith o b) m r m3
  operated_with_operand {m = m} {m1 = m1} {m3 = m3} {x = x} {y = y} {r = r} u top popped operands3 calls3 joined = computed r
      (operands3 ∙ popped ∙ ap (λ (s : OperandsView). record s { values = drop 1 s.values }) u.operands)
      (calls3 ∙ u.calls)
      (λ tables functions. then_changes _ u.changes
      (subst (λ (z : Value). Changes (lift (operated o z y)) m1.runtime m3.runtime r) (top ∙ ap (λ (s : OperandsView). first s.values) u.operands) joined))

  pub operated_with_none : {m m' : Machine} {h : Halt} → ReadsOperand b m (Err h) m' → Computes (v.OperateWith o b) m (Err h) m'
  operated_with_none u = ended _ (λ tables functions. ends_changes _ u.changes)

  -- two operands

  module _ {a : Operand} where
    pub operated_on_operands : {m m1 m2 m3 : Machine} {x y : Value} {r : Result Value Halt} → ReadsOperand a m (Ok x) m1 → ReadsOperand b m1 (Ok y) m2
        → m3.operands ≡ m2.operands → m3.runtime.frames.callers ≡ m2.runtime.frames.callers → Changes (lift (operated o x y)) m2.runtime m3.runtime r → Computes (v.OperateOn o a b) m r m3
    operated_on_operands {m = m} {m1 = m1} {m2 = m2} {r = r} left right operands3 calls3 joined = computed r
        (operands3 ∙ right.operands ∙ left.operands)
        (calls3 ∙ right.calls ∙ left.calls)
        (λ tables functions. then_changes _ left.changes (then_changes _ (read_in b left.changes.names right) joined))

    pub operated_on_one : {m m1 m2 : Machine} {x : Value} {h : Halt} → ReadsOperand a m (Ok x) m1 → ReadsOperand b m1 (Err h) m2 → Computes (v.OperateOn o a b) m (Err h) m2
    operated_on_one left right = ended _ (λ tables functions. then_changes _ left.changes (ends_changes _ (read_in b left.changes.names right)))

    pub operated_on_none : {m m' : Machine} {h : Halt} → ReadsOperand a m (Err h) m' → Computes (v.OperateOn o a b) m (Err h) m'
    operated_on_none left = ended _ (λ tables functions. ends_changes _ left.changes)

-- an operand, as the value of a node
pub operand_found : {a : Operand} {m m1 : Machine} {r : Result Value Halt} → ReadsOperand a m r m1 → Computes (v.Put a) m r m1
operand_found {r = r} u = computed r u.operands u.calls (λ tables functions. u.changes)

-- whether an operand has a match

module _ (a : Operand) (ere : ℕ) {m m1 : Machine} where
  pub operand_matched : {m2 : Machine} {x : Value} {r : Result Value Halt} → ReadsOperand a m (Ok x) m1 → m2.operands ≡ m1.operands → m2.runtime.frames.callers ≡ m1.runtime.frames.callers → Changes (lift (applied Matches x (value.Text (ere_at m1.runtime.names ere)))) m1.runtime m2.runtime r → Computes (v.Matches a ere) m r m2
  operand_matched {m2 = m2} {x = x} {r = r} u operands calls matched = computed r (operands ∙ u.operands) (calls ∙ u.calls)
      (λ tables functions. then_changes _ u.changes (subst (λ (n : Naming). Changes (lift (applied Matches x (value.Text (ere_at n ere)))) m1.runtime m2.runtime r) u.changes.names matched))

  pub operand_not_matched : {h : Halt} → ReadsOperand a m (Err h) m1 → Computes (v.Matches a ere) m (Err h) m1
  operand_not_matched u = ended _ (λ tables functions. ends_changes _ u.changes)

-- the record is field 0
record_is : (s : State) → read_field (pos 0) s ≡ record_text s
unfolding read_field record_text
record_is s = refl

pub record_matched : (ere : ℕ) {m m' : Machine} (r : Result Value Halt) → m'.operands ≡ m.operands → m'.runtime.frames.callers ≡ m.runtime.frames.callers → Changes (record_tested (ere_at m.runtime.names ere)) m.runtime m'.runtime r → Computes (v.Matches (operand.Field 0) ere) m r m'
record_matched ere {m = m} r operands calls tested = computed r operands calls
    (λ tables functions. same_changes _ _ (λ s holds. first_same (read_field (pos 0)) record_text (λ x. lift (applied Matches x (value.Text (ere_at m.runtime.names ere)))) s (record_is s)) tested)

-- an operand that is assigned to a variable

module _ (x : Variable) (o : AssignmentOperator) (a : Operand) {m m1 : Machine} where
  pub assigned_read : {m2 : Machine} {w : Value} {r : Result Value Halt} → ReadsOperand a m (Ok w) m1 → m2.operands ≡ m1.operands → m2.runtime.frames.callers ≡ m1.runtime.frames.callers
      → Changes (assign_variable m1.runtime.names.scalars o x w) m1.runtime m2.runtime r → Runs (operand_value m.runtime.names.scalars a >>= λ u. assign_variable m.runtime.names.scalars o x u) m r m2
  assigned_read {m2 = m2} {w = w} {r = r} read operands calls assigned = record {
    operands = operands ∙ read.operands;
    calls = calls ∙ read.calls;
    changes = then_changes _ read.changes (subst (λ (n : Naming). Changes (assign_variable n.scalars o x w) m1.runtime m2.runtime r) read.changes.names assigned);
  }

  -- where it isn't read again
  pub given_read : {m2 : Machine} {w : Value} (r : Result (Unit {0}) Halt) → ReadsOperand a m (Ok w) m1 → m2.operands ≡ m1.operands → m2.runtime.frames.callers ≡ m1.runtime.frames.callers
      → Gives (assign_variable m1.runtime.names.scalars o x w) m1.runtime r m2.runtime → Done (λ q. AssignsOperand o x a m q m2) r
  given_read (Ok u) read operands calls g = record { done = (g.gives.0, assigned_read read operands calls g.gives.1) }
  given_read (Err h) read operands calls g = record { done = assigned_read read operands calls g.gives }

  pub not_read : {h : Halt} → ReadsOperand a m (Err h) m1 → Runs (operand_value m.runtime.names.scalars a >>= λ u. assign_variable m.runtime.names.scalars o x u) m (Err h) m1
  not_read read = record { operands = read.operands; calls = read.calls; changes = ends_changes _ read.changes }

-- texts that are appended to a variable

lifted_at : {A B : Type 0} (a : A) (f : A → Run B) (s : State) → (lift (Ok a) >>= f) s ≡ f a s
unfolding lift ◌>>=◌ go_on
lifted_at a f s = refl

append_as : (names : List (List ℕ)) (x : Variable) (ws : List Value) (s : State) → append_to names x ws s ≡ (read_variable names x >>= λ old. lift (Ok (value.Text (concat (map str_of ws)))) >>= λ b. appended names x old b) s
append_as names x ws s =
    let text : List ℕ = concat (map str_of ws) in
    let put : Value → Run Value = λ w. assign_by_at names None (place.Variable x) value.Nothing w in
    later_same (read_variable names x) (λ old. put (value.Text (str_of old ++ text))) (λ old. lift (Ok (value.Text text)) >>= λ b. appended names x old b) s
    (λ old t. sym (lifted_at (value.Text text) (λ b. appended names x old b) t ∙ lifted_at (value.Text (str_of old ++ text)) put t))

module _ (x : Variable) (ws : List Value) {m m1 : Runtime} {old : Value} (read : Changes (read_variable m.names.scalars x) m m1 (Ok old)) where
  pub texts_appended : {m2 : Runtime} {b : Value} {r : Result Value Halt} → Changes (lift (Ok (value.Text (concat (map str_of ws))))) m1 m1 (Ok b) → Changes (appended m1.names.scalars x old b) m1 m2 r → Changes (append_to m.names.scalars x ws) m m2 r
  texts_appended {m2 = m2} {b = b} {r = r} text put =
      same_changes _ _ (λ s holds. append_as m.names.scalars x ws s)
      (then_changes _ read (then_changes _ text (subst (λ (n : Naming). Changes (appended n.scalars x old b) m1 m2 r) read.names put)))

  pub texts_not_joined : {h : Halt} → Changes (lift (Ok (value.Text (concat (map str_of ws))))) m1 m1 (Err h) → Changes (append_to m.names.scalars x ws) m m1 (Err h)
  texts_not_joined text = same_changes _ _ (λ s holds. append_as m.names.scalars x ws s) (then_changes _ read (ends_changes _ text))

-- where the variable's text stands

each_appended : (x : Variable) (ws : List Value) {m m' : Runtime} → (a : AppendsText x (value.Text (concat (map str_of ws))) m m') → Changes (append_to m.names.scalars x ws) m m' (Ok a.after)
each_appended x ws {m = m} a = texts_appended x ws a.read (lift_changes (Ok (value.Text (concat (map str_of ws)))) m refl) a.appends

pub each_done : (x : Variable) (count : ℕ) {ws : List Value} {m m' : Machine} → ws ≡ taken count m.operands.values → AppendsText x (value.Text (concat (map str_of ws))) m.runtime m'.runtime
    → m'.operands ≡ record m.operands { values = drop count m.operands.values } → m'.runtime.frames.callers ≡ m.runtime.frames.callers → Done (λ r. Appends x count m r m') (Ok tt)
each_done x count {ws = ws} {m = m} {m' = m'} is a operands calls = record {
  done = (
    a.after,
    record {
      operands = operands;
      calls = calls;
      changes = subst (λ (l : List Value). Changes (append_to m.runtime.names.scalars x l) m.runtime m'.runtime (Ok a.after)) is (each_appended x ws a);
    },
  );
}

-- two operands that are read where they stand
pub taken_two : (vs : List Value) (x y : Value) → taken 2 vs ≡ x ∷ (y ∷ []) → (second vs ≡ x) × (first vs ≡ y)
taken_two [] x y e = absurd (cc)
taken_two (a ∷ []) x y e = absurd (cc)
taken_two (a ∷ (b ∷ vs)) x y e = (cc, cc)

pub two_items : (vs : List Value) (x y : Value) → 2 ≤ length vs → length vs < 3 → x ≡ get_or vs 0 x → y ≡ get_or vs 1 y → vs ≡ x ∷ (y ∷ [])
two_items [] x y low high e f = absurd (omega arith)
two_items (a ∷ []) x y low high e f = absurd (omega arith)
two_items (a ∷ (b ∷ [])) x y low high e f = cc
two_items (a ∷ (b ∷ (d ∷ vs))) x y low high e f = absurd (omega arith)

module _ {m m' : Machine} {text pattern : Value} (two : taken 2 m.operands.values ≡ text ∷ (pattern ∷ [])) where
  pub match_ends : {h : Halt} → Changes (lift (applied Matches text pattern)) m.runtime m'.runtime (Err h) → Computes (v.Operate (Infix Matches)) m (Err h) m'
  match_ends e =
      let both = taken_two m.operands.values text pattern two in
      ended _ (λ tables functions. rw (both.0, both.1) e)
