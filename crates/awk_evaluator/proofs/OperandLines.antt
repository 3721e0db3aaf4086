-- Operands that are read where they stand, and whose texts are joined to a line.
use Rattle.std.proofs.Common.{◌≡◌, ◌<◌, ◌≤◌, ◌+◌, ◌-◌, ℕ, zero, suc, ℤ, List, [], ◌∷◌, ◌++◌, append_assoc, append-nil, map, length, take, drop, get_or, slice_range, drop-cons, add-one, Result, Ok, Err, refl, sym, ap, ◌∙◌, subst, arith}
use Rattle.std.proofs.Math.Seq.{drop-nil, take-length}
use Rattle.awk_value.specs.declared.value.Value.{Value}
use Rattle.awk_value.specs.Values.{str_of}
use Rattle.awk_streams.specs.WorldState.{WorldState}
use Rattle.awk_streams.specs.declared.streams.Target.TheVariants.{StandardOutput}
use Rattle.awk_semantics.specs.declared.halt.Halt.{Halt}
use Rattle.awk_semantics.specs.Operators.{join, join_rest}
use Rattle.awk_semantics.specs.Primitives.{read_field, print_line}
use Rattle.awk_resolve.specs.declared.node.Operand.{Operand}
use Rattle.awk_resolve.specs.Nodes.{operand_value, operand_values, print_operands}
use Rattle.awk_runtime.specs.declared.runtime.Runtime.{Runtime}
use Rattle.awk_runtime.specs.Naming.{Naming}
use Rattle.awk_runtime.specs.Simulation.{Changes, Simulates, SameState}
use Rattle.awk_runtime.specs.Lines.{AppendsText}
use Rattle.awk_runtime.specs.support.Printing.{PrintsTo}
use Rattle.awk_runtime.proofs.Composition.{then_simulates, change_simulates, then_changes, lift_changes, callers_stay}
use Rattle.awk_runtime.proofs.Steps.{same_changes}
use Rattle.awk_runtime.proofs.SameStates.{simulates_behind, simulates_before, both_same}
use Rattle.awk_evaluator.specs.declared.machine.Machine.{Machine}
use Rattle.awk_evaluator.specs.Quick.{IsFieldOf}
use Rattle.awk_evaluator.specs.Reading.{PrintsOperands}
use Rattle.awk_evaluator.specs.Lines.{separator, AppendsTexts, AppendsBehind, SameMachine}

-- an operand that is a field
pub field_appended : {a : Operand} {m : Machine} {before after : List ℕ} (n : ℤ) → IsFieldOf a n m → AppendsText (read_field n) m.runtime before after → AppendsText (operand_value m.runtime.names.scalars a) m.runtime before after
field_appended n field read = record {
  value = read.value;
  changes = same_changes _ _ (λ s holds. field.is s) (then_changes (λ k. read_field k) field.changes read.changes);
  text = read.text;
}

-- those that stand behind others

pub none_behind : {m : Runtime} {line : List ℕ} → AppendsBehind [] m line line
none_behind {m = m} {line = line} = record { values = []; changes = lift_changes (Ok []) m refl; text = sym (append-nil line) }

pub none_left : {m : Runtime} {line : List ℕ} (operands : List Operand) (i : ℕ) → length operands ≤ i → AppendsBehind (drop i operands) m line line
none_left [] i all = rw (drop-nil i) none_behind
none_left (a ∷ xs) zero all = absurd (omega (arith, all))
none_left (a ∷ xs) (suc i) all = none_left xs i (omega (arith, all))

both_read : (a : Operand) (xs : List Operand) {m : Runtime} {w : Value} {ws : List Value} → Changes (operand_value m.names.scalars a) m m (Ok w) → Changes (operand_values m.names.scalars xs) m m (Ok ws) → Changes (operand_values m.names.scalars (a ∷ xs)) m m (Ok (w ∷ ws))
both_read a xs {m = m} {w = w} {ws = ws} read rest = then_changes _ read (then_changes _ rest (lift_changes (Ok (w ∷ ws)) m refl))

module _ {a : Operand} {xs : List Operand} {m : Runtime} {before mid after : List ℕ} where
  -- one more operand, whose text stands behind the separator
  pub one_behind : {start : List ℕ} → start ≡ before ++ separator m → AppendsText (operand_value m.names.scalars a) m start mid → AppendsBehind xs m mid after → AppendsBehind (a ∷ xs) m before after
  one_behind {start = start} between read rest =
      let others = join_rest (separator m) (map str_of rest.values) in
      let w = str_of read.value in
      record {
        values = read.value ∷ rest.values;
        changes = both_read a xs {m = m} {w = read.value} {ws = rest.values} read.changes rest.changes;
        text = rest.text ∙ ap (λ l. l ++ others) (read.text ∙ ap (λ l. l ++ w) between ∙ append_assoc before (separator m) w) ∙ append_assoc before (separator m ++ w) others;
      }

  -- the first one, and those behind it
  pub first_of_line : AppendsText (operand_value m.names.scalars a) m before mid → AppendsBehind xs m mid after → AppendsTexts (a ∷ xs) m before after
  first_of_line read rest =
      let others = join_rest (separator m) (map str_of rest.values) in
      let w = str_of read.value in
      record {
        values = read.value ∷ rest.values;
        changes = both_read a xs {m = m} {w = read.value} {ws = rest.values} read.changes rest.changes;
        text = rest.text ∙ ap (λ l. l ++ others) read.text ∙ append_assoc before w others;
      }

pub line_begun : {m : Runtime} {before mid after : List ℕ} (operands : List Operand) (a : Operand) → 1 ≤ length operands → a ≡ get_or operands 0 a → AppendsText (operand_value m.names.scalars a) m before mid → AppendsBehind (slice_range operands 1 (length operands)) m mid after
    → AppendsTexts operands m before after
line_begun [] a there is read rest = absurd (omega (arith, there))
line_begun {m = m} {before = before} {mid = mid} {after = after} (x ∷ xs) a there is read rest =
    let less : length (x ∷ xs) - 1 ≡ length xs = omega arith in
    let others : slice_range (x ∷ xs) 1 (length (x ∷ xs)) ≡ xs = ap (λ n. take n xs) less ∙ take-length xs in
    first_of_line (subst (λ y. AppendsText (operand_value m.names.scalars y) m before mid) is read) (subst (λ l. AppendsBehind l m mid after) others rest)

-- the one that is next among them
pub next_behind : {m : Runtime} {before start mid after : List ℕ} (operands : List Operand) (i : ℕ) (a : Operand) → i < length operands → a ≡ get_or operands i a → start ≡ before ++ separator m → AppendsText (operand_value m.names.scalars a) m start mid
    → AppendsBehind (drop (i + 1) operands) m mid after → AppendsBehind (drop i operands) m before after
next_behind operands i a below is between read rest = rw (drop-cons operands i a, ← is) (one_behind between read (rw add-one at rest))

-- the line was held back
pub line_held : {is_logged : Type 0} {xs : List Operand} {m m' : Machine} {k : WorldState} {line : List ℕ} → m'.operands ≡ m.operands → AppendsTexts xs m.runtime [] line
    → ((ws : List Value) → line ≡ join (separator m.runtime) (map str_of ws) → PrintsTo is_logged StandardOutput (λ n. print_line n ws) m.runtime k m'.runtime k (Ok tt)) → PrintsOperands is_logged xs m k (Ok tt) m' k
line_held operands appended held =
    let printed = held appended.values appended.text in
    record {
      operands = operands;
      calls = printed.callers;
      simulates = then_simulates (λ ws. print_line 0 ws) (change_simulates appended.changes) (record { steps = printed.steps; names = printed.names; told = λ t. printed.told t 0 refl });
    }

-- operands are printed behind a change that the definitions don't know
pub printed_behind : {is_logged : Type 0} {xs : List Operand} {m mid m' : Machine} {k k' : WorldState} (r : Result (Unit {0}) Halt) → SameMachine m mid → PrintsOperands is_logged xs mid k r m' k' → PrintsOperands is_logged xs m k r m' k'
printed_behind {is_logged = is_logged} {xs = xs} {m = m} {mid = mid} {m' = m'} {k = k} {k' = k'} r same p = by r p
  where
    simulated : (q : Result (Unit {0}) Halt) → PrintsOperands is_logged xs mid k q m' k' → Simulates is_logged m.runtime k m'.runtime k' q (print_operands m.runtime.names.scalars xs)
    simulated q p = simulates_behind same.runtime (subst (λ (n : Naming). Simulates is_logged mid.runtime k m'.runtime k' q (print_operands n.scalars xs)) same.runtime.beside.names p.simulates)

    by : (q : Result (Unit {0}) Halt) → PrintsOperands is_logged xs mid k q m' k' → PrintsOperands is_logged xs m k q m' k'
    by (Ok u) p = record { operands = p.operands ∙ same.operands; calls = p.calls ∙ same.calls; simulates = simulated (Ok u) p }
    by (Err h) p = record { operands = tt; calls = tt; simulates = simulated (Err h) p }

-- and before one
pub printed_before : {is_logged : Type 0} {xs : List Operand} {m mid m' : Machine} {k : WorldState} → PrintsOperands is_logged xs m k (Ok tt) mid k → SameMachine mid m' → PrintsOperands is_logged xs m k (Ok tt) m' k
printed_before p same = record { operands = same.operands ∙ p.operands; calls = same.calls ∙ p.calls; simulates = simulates_before p.simulates same.runtime }

-- nothing but the room of a line
pub room_changed : {m m' : Machine} → m'.operands ≡ m.operands → SameState m.runtime m'.runtime → SameMachine m m'
room_changed operands same = record { operands = operands; calls = callers_stay same.beside.frames; runtime = same }

pub same_twice : {m mid m' : Machine} → SameMachine m mid → SameMachine mid m' → SameMachine m m'
same_twice first last = record { operands = last.operands ∙ first.operands; calls = last.calls ∙ first.calls; runtime = both_same first.runtime last.runtime }

-- a list of one
pub only_one : (operands : List Operand) (a : Operand) → length operands ≡ 1 → a ≡ get_or operands 0 a → operands ≡ a ∷ []
only_one [] a one is = absurd (omega (arith, one))
only_one (x ∷ []) a one is = ap (λ y. y ∷ []) (sym is)
only_one (x ∷ y ∷ xs) a one is = absurd (omega (arith, one))
