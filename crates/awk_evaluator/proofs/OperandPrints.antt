-- Operands that are printed as a line.
use Rattle.std.proofs.Common.{◌≡◌, ◌<◌, ◌≤◌, true, false, ℕ, zero, suc, get_or, ℤ, List, [], ◌∷◌, ◌++◌, length, reverse, take, drop, arith, append_assoc, Result, Ok, Err, refl, sym, ap, ◌∙◌, subst}
use Rattle.std.specs.Prelude.{◌==◌}
use Rattle.std.proofs.lemmas.Bool.{eqb-true}
use Rattle.std.proofs.lemmas.List.{reverse-append, reverse-reverse, length-reverse}
use Rattle.std.proofs.Math.Seq.{drop-append_seam, take-append_seam}
use Rattle.std.proofs.Math.ListN.{drop_of_length-le}
use Rattle.awk_value.specs.declared.value.Value.{Value}
use Rattle.awk_value.specs.declared.value.Value.TheVariants.{Nothing}
use Rattle.awk_streams.specs.WorldState.{WorldState}
use Rattle.awk_grammar.specs.declared.tree.PrintForm.TheVariants.{Print}
use Rattle.awk_semantics.specs.declared.halt.Halt.{Halt}
use Rattle.awk_semantics.specs.declared.halt.Halt.TheVariants as halt
use Rattle.awk_semantics.specs.declared.fault.Fault.TheVariants.{OutOfMemory}
use Rattle.awk_semantics.specs.State.{State, Run, ◌>>=◌, ret}
use Rattle.awk_semantics.specs.Primitives.{read_field, print_line}
use Rattle.awk_semantics.specs.Semantics.{Functions, print_by}
use Rattle.awk_resolve.specs.declared.node.Operand.{Operand}
use Rattle.awk_resolve.specs.Nodes.{taken, operand_value, operand_values, print_operands}
use Rattle.awk_resolve.proofs.Calculus.{assoc_at, first_same, later_same, given}
use Rattle.awk_runtime.specs.declared.runtime.Runtime.{Runtime}
use Rattle.awk_runtime.specs.Naming.{Naming}
use Rattle.awk_runtime.specs.Simulation.{Simulates, Changes}
use Rattle.awk_runtime.proofs.Composition.{then_simulates, change_simulates, then_changes, ends_changes, lift_changes}
use Rattle.awk_evaluator.specs.declared.machine.Machine.{Machine}
use Rattle.awk_evaluator.specs.Operands.{OperandsView}
use Rattle.awk_evaluator.specs.Reading.{ReadsOperand, PutsValues, PutsOperandsBy, PutsOperands, PrintsOperands}
use Rattle.awk_evaluator.specs.Quick.{IsFieldOf}
use Rattle.awk_evaluator.proofs.Moving.{no_functions, memory_behind_changes}
use Rattle.awk_evaluator.proofs.Resting.{same_simulates}

-- a list from one place on

pub operands_over : (list : List Operand) (i : ℕ) → length list ≤ i → drop i list ≡ []
operands_over list i h = drop_of_length-le list h

pub operands_at : (list : List Operand) (i : ℕ) (a : Operand) → i < length list → get_or list i a ≡ a → drop i list ≡ a ∷ drop (suc i) list
operands_at [] i a h e = absurd (omega (arith, h))
operands_at (b ∷ rest) zero a h e = ap (λ (x : Operand). x ∷ rest) e
operands_at (b ∷ rest) (suc i) a h e = operands_at rest i a (omega (arith, h)) e

-- whether there is one

pub no_operand : (list : List Operand) → (length list == 0) ≡ true → length list ≡ 0
no_operand list e = eqb-true (length list) 0 e

pub some_operand : (list : List Operand) → (length list == 0) ≡ false → 0 < length list
some_operand [] e = absurd (cc)
some_operand (a ∷ rest) e = omega arith

-- operands are put on the stack, one behind the other

pub none_put : {m : Machine} → PutsOperands [] m (Ok tt) m
none_put {m = m} = record { puts = ([], record { count = refl; operands = refl; calls = refl; changes = lift_changes (Ok []) m.runtime refl }) }

turned : (w : Value) (ws vs : List Value) → reverse ws ++ (w ∷ vs) ≡ reverse (w ∷ ws) ++ vs
turned w ws vs = sym (ap (λ l. l ++ vs) (reverse-append (w ∷ []) ws) ∙ append_assoc (reverse ws) (w ∷ []) vs)

behind : (list : List Operand) (first : Naming) {m1 m2 m' : Runtime} {r : Result (List Value) Halt} → m1.names ≡ first → m2 ≡ m1 → Changes (operand_values m2.names.scalars list) m2 m' r → Changes (operand_values first.scalars list) m1 m' r
behind list first {m1 = m1} {m' = m'} {r = r} names same h = subst (λ (n : Naming). Changes (operand_values n.scalars list) m1 m' r) names (subst (λ (x : Runtime). Changes (operand_values x.names.scalars list) x m' r) same h)

module _ (a : Operand) (list : List Operand) (m m1 m2 : Machine) {w : Value} (read : ReadsOperand a m (Ok w) m1) (pushed : m2.operands ≡ record m1.operands { values = w ∷ m1.operands.values }) (calls : m2.runtime.frames.callers ≡ m1.runtime.frames.callers) (runtime : m2.runtime ≡ m1.runtime) where
  pub one_put : {m' : Machine} {r : Result (Unit {0}) Halt} → PutsOperands list m2 r m' → PutsOperands (a ∷ list) m r m'
  one_put {m' = m'} {r = r} p = record { puts = by r p.puts }
    where
      by : (q : Result (Unit {0}) Halt) → PutsOperandsBy list m2 q m' → PutsOperandsBy (a ∷ list) m q m'
      by (Ok u) p =
          let ws : List Value = p.0 in
          let v : PutsValues list ws m2 m' = p.1 in
          let on : OperandsView → OperandsView = λ o. record o { values = reverse ws ++ o.values } in
          let all : List Value → OperandsView = λ l. record m.operands { values = l } in
          let two : OperandsView → OperandsView = λ o. record o { values = reverse ws ++ (w ∷ o.values) } in (
            w ∷ ws,
            record {
              count = ap (λ n. suc n) v.count;
              operands = v.operands ∙ ap on pushed ∙ ap two read.operands ∙ ap all (turned w ws m.operands.values);
              calls = v.calls ∙ calls ∙ read.calls;
              changes = then_changes _ read.changes (then_changes _ (behind list m.runtime.names read.changes.names runtime v.changes) (lift_changes (Ok (w ∷ ws)) m'.runtime refl));
            },
          )
      by (Err h) p = then_changes _ read.changes (ends_changes _ (behind list m.runtime.names read.changes.names runtime p))

pub not_read : {a : Operand} {list : List Operand} {m m' : Machine} {h : Halt} → ReadsOperand a m (Err h) m' → PutsOperands (a ∷ list) m (Err h) m'
not_read read = record { puts = ends_changes _ read.changes }

pub not_pushed : {a : Operand} {list : List Operand} {m m1 m' : Machine} {w : Value} → ReadsOperand a m (Ok w) m1 → m'.runtime ≡ m1.runtime → PutsOperands (a ∷ list) m (Err (halt.Fault OutOfMemory)) m'
not_pushed {a = a} {m = m} read same = record { puts = ends_changes _ (subst (λ (x : Runtime). Changes (operand_value m.runtime.names.scalars a) m.runtime x (Err (halt.Fault OutOfMemory))) (sym same) (memory_behind_changes read.changes)) }

-- and printed

abbrev Prints : Type 0 → Runtime → WorldState → Runtime → WorldState → Result (Unit {0}) Halt → List Value → Type 0
Prints is_logged m k m' k' r ws = (functions : Functions) → Simulates is_logged m k m' k' r (ret 0 >>= λ n. print_by functions Print n ws)

line_printed : {is_logged : Type 0} {m m' : Runtime} {k k' : WorldState} {r : Result (Unit {0}) Halt} (ws : List Value) → 0 < length ws → Prints is_logged m k m' k' r ws → Simulates is_logged m k m' k' r (print_line 0 ws)
line_printed [] there printing = absurd (omega arith)
line_printed (w ∷ ws) there printing = same_simulates _ _ (λ s h. sym (given 0 (λ n. print_by no_functions Print n (w ∷ ws)) s)) (printing no_functions)

-- no text, and none at all
empty_line : (s : State) → print_line 0 [] s ≡ print_line 0 (Nothing ∷ []) s
unfolding print_line
empty_line s = refl

pub own_taken : (ws vs : List Value) (n : ℕ) → length ws ≡ n → taken n (reverse ws ++ vs) ≡ ws
own_taken ws vs n long =
    let same : n ≡ length (reverse ws) = sym (length-reverse ws ∙ long) in
    ap (λ i. reverse (take i (reverse ws ++ vs))) same ∙ ap reverse (take-append_seam (reverse ws) vs) ∙ reverse-reverse ws

pub own_dropped : (ws vs : List Value) (n : ℕ) → length ws ≡ n → drop n (reverse ws ++ vs) ≡ vs
own_dropped ws vs n long =
    let same : n ≡ length (reverse ws) = sym (length-reverse ws ∙ long) in
    ap (λ i. drop i (reverse ws ++ vs)) same ∙ drop-append_seam (reverse ws) vs

module _ {is_logged : Type 0} {list : List Operand} {m m1 m' : Machine} {k k' : WorldState} where
  -- what was put on the stack is printed, and taken off
  pub operands_printed : {vs : List Value} (r : Result (Unit {0}) Halt) → 0 < length list → PutsOperands list m (Ok tt) m1 → vs ≡ taken (length list) m1.operands.values → m'.operands ≡ record m1.operands { values = drop (length list) m1.operands.values } → m'.runtime.frames.callers ≡ m1.runtime.frames.callers
      → Prints is_logged m1.runtime k m'.runtime k' r vs → PrintsOperands is_logged list m k r m' k'
  operands_printed {vs = vs} r there p are operands calls printing = by r simulates
    where
      ws : List Value
      ws = p.puts.0

      put : PutsValues list ws m m1
      put = p.puts.1

      are_own : vs ≡ ws
      are_own = are ∙ ap (λ (o : OperandsView). taken (length list) o.values) put.operands ∙ own_taken ws m.operands.values (length list) put.count

      simulates : Simulates is_logged m.runtime k m'.runtime k' r (print_operands m.runtime.names.scalars list)
      simulates =
          let count = put.count in
          then_simulates _ (change_simulates put.changes) (line_printed ws (omega (arith, count, there)) (subst (λ (l : List Value). Prints is_logged m1.runtime k m'.runtime k' r l) are_own printing))

      by : (q : Result (Unit {0}) Halt) → Simulates is_logged m.runtime k m'.runtime k' q (print_operands m.runtime.names.scalars list) → PrintsOperands is_logged list m k q m' k'
      by (Ok u) s =
          let left : OperandsView → OperandsView = λ o. record o { values = drop (length list) o.values } in
          let all : List Value → OperandsView = λ l. record m.operands { values = l } in
          record {
            operands = operands ∙ ap left put.operands ∙ ap all (own_dropped ws m.operands.values (length list) put.count);
            calls = calls ∙ put.calls;
            simulates = s;
          }
      by (Err h) s = record { operands = tt; calls = tt; simulates = s }

  -- what was put on the stack before a print that ends
  pub operands_not_printed : {vs : List Value} {h : Halt} → 0 < length list → PutsOperands list m (Ok tt) m1 → vs ≡ taken (length list) m1.operands.values → Prints is_logged m1.runtime k m'.runtime k' (Err h) vs → PrintsOperands is_logged list m k (Err h) m' k'
  operands_not_printed {vs = vs} {h = h} there p are printing =
      let ws = p.puts.0 in
      let put = p.puts.1 in
      let count = put.count in
      let are_own = are ∙ ap (λ (o : OperandsView). taken (length list) o.values) put.operands ∙ own_taken ws m.operands.values (length list) count in
      record {
        operands = tt;
        calls = tt;
        simulates = then_simulates _ (change_simulates put.changes) (line_printed ws (omega (arith, count, there)) (subst (λ (l : List Value). Prints is_logged m1.runtime k m'.runtime k' (Err h) l) are_own printing));
      }

-- there is no operand
pub none_printed : {is_logged : Type 0} (list : List Operand) {m m' : Machine} {k k' : WorldState} (r : Result (Unit {0}) Halt) → length list ≡ 0 → m'.operands ≡ m.operands → m'.runtime.frames.callers ≡ m.runtime.frames.callers → Prints is_logged m.runtime k m'.runtime k' r (Nothing ∷ []) → PrintsOperands is_logged list m k r m' k'
none_printed {is_logged = is_logged} [] {m = m} {m' = m'} {k = k} {k' = k'} r none operands calls printing = by r line
  where
    line : Simulates is_logged m.runtime k m'.runtime k' r (print_operands m.runtime.names.scalars [])
    line = same_simulates _ _ (λ s h. given [] (λ ws. print_line 0 ws) s ∙ empty_line s) (line_printed (Nothing ∷ []) (omega arith) printing)

    by : (q : Result (Unit {0}) Halt) → Simulates is_logged m.runtime k m'.runtime k' q (print_operands m.runtime.names.scalars []) → PrintsOperands is_logged [] m k q m' k'
    by (Ok u) s = record { operands = operands; calls = calls; simulates = s }
    by (Err h) s = record { operands = tt; calls = tt; simulates = s }
none_printed (a ∷ list) r none operands calls printing = absurd (omega (arith, none))

-- a field that was held back as it stands in the record

line_of_one : (names : List (List ℕ)) (a : Operand) (s : State) → print_operands names (a ∷ []) s ≡ (operand_value names a >>= λ w. print_line 0 (w ∷ [])) s
line_of_one names a s =
    let rest : Value → Run (List Value) = λ w. operand_values names [] >>= λ ws. ret (w ∷ ws) in
    let line : List Value → Run (Unit {0}) = λ ws. print_line 0 ws in
    assoc_at (operand_value names a) rest line s
    ∙ later_same (operand_value names a) (λ w. rest w >>= line) (λ w. line (w ∷ [])) s (λ w t. first_same (rest w) (ret (w ∷ [])) line t (given [] (λ ws. ret (w ∷ ws)) t) ∙ given (w ∷ []) line t)

pub field_held : {is_logged : Type 0} {a : Operand} {m m' : Machine} {k k' : WorldState} (n : ℤ) → IsFieldOf a n m → m'.operands ≡ m.operands → m'.runtime.frames.callers ≡ m.runtime.frames.callers
    → ((functions : Functions) → Simulates is_logged m.runtime k m'.runtime k' (Ok tt) (read_field n >>= λ w. ret 0 >>= λ i. print_by functions Print i (w ∷ []))) → PrintsOperands is_logged (a ∷ []) m k (Ok tt) m' k'
field_held {a = a} {m = m} n field operands calls printing =
    let line : Value → Run (Unit {0}) = λ w. print_line 0 (w ∷ []) in
    let value = operand_value m.runtime.names.scalars a in
    record {
      operands = operands;
      calls = calls;
      simulates = same_simulates _ (field.number >>= λ i. read_field i >>= line)
          (λ s h. line_of_one m.runtime.names.scalars a s ∙ first_same value (field.number >>= λ i. read_field i) line s (field.is s) ∙ assoc_at field.number (λ i. read_field i) line s)
          (then_simulates _ (change_simulates field.changes)
          (same_simulates _ _ (λ s h. later_same (read_field n) line _ s (λ w t. sym (given 0 (λ i. print_by no_functions Print i (w ∷ [])) t))) (printing no_functions)));
    }
