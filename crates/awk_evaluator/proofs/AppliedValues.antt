-- What built-in functions of values make of operands that are read where they stand.
use Rattle.std.proofs.Common.{◌≡◌, ◌≢◌, ◌==◌, true, ◌<◌, ◌≤◌, ◌+◌, ◌-◌, ℕ, zero, suc, get_or, ℤ, pos, List, [], ◌∷◌, ◌++◌, length, take, drop, arith, append-nil, append_assoc, Option, Some, None, Result, Ok, Err, refl, sym, ap, ◌∙◌, subst}
use Rattle.std.proofs.Math.ListN.{drop_of_length-le}
use Rattle.std.proofs.lemmas.Bool.{eqb-true}
use Rattle.std.proofs.lemmas.List.{length-drop, length-take-le}
use Rattle.std.specs.Prelude.{IfSome}
use Rattle.std.specs.Global.{Vec}
use Rattle.awk_value.specs.declared.value.Value.{Value}
use Rattle.awk_value.specs.declared.value.Value.TheVariants as value
use Rattle.awk_value.specs.Values.{str_of}
use Rattle.awk_value.proofs.CutOfCut.{drop_of_take, cut_of_cut}
use Rattle.awk_text.specs.declared.span.Span.{Span}
use Rattle.awk_text.specs.Functions.{substr_of}
use Rattle.awk_text.specs.Pieces.{stretch_at, IsSpanOf}
use Rattle.awk_record.specs.Record.{field_of}
use Rattle.awk_lex.specs.declared.token.BuiltIn.{BuiltIn}
use Rattle.awk_lex.specs.declared.token.BuiltIn.TheVariants.{Length, Substr, Index}
use Rattle.awk_semantics.specs.declared.halt.Halt.{Halt}
use Rattle.awk_semantics.specs.declared.halt.Halt.TheVariants as halt
use Rattle.awk_semantics.specs.declared.fault.Fault.TheVariants.{OutOfMemory}
use Rattle.awk_semantics.specs.State.{lift}
use Rattle.awk_semantics.specs.Faults.{of_record}
use Rattle.awk_semantics.specs.Primitives.{read_field}
use Rattle.awk_semantics.specs.BuiltIns.{applied_all}
use Rattle.awk_semantics.specs.Texts.{position_of}
use Rattle.awk_resolve.specs.declared.node.Operand.{Operand}
use Rattle.awk_resolve.specs.declared.node.ValueNode.TheVariants as v
use Rattle.awk_resolve.specs.Nodes.{first, taken, operand_values, value_of}
use Rattle.awk_runtime.specs.declared.runtime.Runtime.{Runtime}
use Rattle.awk_runtime.specs.Naming.{Naming}
use Rattle.awk_runtime.specs.Simulation.{Changes}
use Rattle.awk_runtime.proofs.Composition.{then_changes, ends_changes, lift_changes, memory_changes}
use Rattle.awk_runtime.proofs.Steps.{still, same_changes}
use Rattle.awk_runtime.proofs.Words.{field_changes}
use Rattle.awk_evaluator.specs.declared.function_values.Positions.{Positions}
use Rattle.awk_evaluator.specs.declared.machine.Machine.{Machine}
use Rattle.awk_evaluator.specs.Operands.{OperandsView}
use Rattle.awk_evaluator.specs.Rest.{tables_in}
use Rattle.awk_evaluator.specs.Moves.{Computes}
use Rattle.awk_evaluator.specs.Quick.{IsAtHand, IsFieldOf, Puts, Pushed}
use Rattle.awk_evaluator.specs.Reading.{ReadsOperand}
use Rattle.awk_evaluator.specs.Applied.{AreAtHand, HasText, PutsApplied, count_values, position_values, ReadsAll}
use Rattle.awk_evaluator.proofs.Computing.{drop_two, computed, ended}
use Rattle.awk_evaluator.proofs.Moving.{memory_behind_changes}

-- operands that are at hand

none_at_hand : {m : Machine} → AreAtHand [] [] m
none_at_hand {m = m} = record { changes = lift_changes (Ok []) m.runtime refl }

pub and_at_hand : {a : Operand} {w : Value} {list : List Operand} {ws : List Value} {m : Machine} → IsAtHand a w m → AreAtHand list ws m → AreAtHand (a ∷ list) (w ∷ ws) m
and_at_hand {w = w} {ws = ws} {m = m} at are = record { changes = then_changes _ at.changes (then_changes _ are.changes (lift_changes (Ok (w ∷ ws)) m.runtime refl)) }

pub one_at_hand : {a : Operand} {w : Value} {m : Machine} → IsAtHand a w m → AreAtHand (a ∷ []) (w ∷ []) m
one_at_hand at = and_at_hand at none_at_hand

pub start_at_hand : {a : Operand} {m : Machine} (p : Positions) → IsAtHand a (value.Number p.start) m → p.count ≡ None → AreAtHand (a ∷ []) (position_values p) m
start_at_hand {a = a} {m = m} p at none = subst (λ (count : Option ℤ). AreAtHand (a ∷ []) (value.Number p.start ∷ count_values count) m) (sym none) (one_at_hand at)

pub both_at_hand : {a b : Operand} {m : Machine} (p : Positions) (n : ℤ) → IsAtHand a (value.Number p.start) m → IsAtHand b (value.Number n) m → p.count ≡ Some n → AreAtHand (a ∷ b ∷ []) (position_values p) m
both_at_hand {a = a} {b = b} {m = m} p n at also some = subst (λ (count : Option ℤ). AreAtHand (a ∷ b ∷ []) (value.Number p.start ∷ count_values count) m) (sym some) (and_at_hand at (one_at_hand also))

-- a field that is a stretch of the record
pub span_found : {a : Operand} {m : Machine} (n : ℤ) (found : Option Span) → IsFieldOf a n m → IfSome found (λ span. field_of m.runtime.current n ≡ Ok (value.Input (stretch_at m.runtime.current.text span))) → IfSome found (λ span. HasText a (λ text. text ≡ stretch_at m.runtime.current.text span) m)
span_found {m = m} n (Some span) field is = record {
  value = value.Input (stretch_at m.runtime.current.text span);
  at = record { changes = same_changes _ _ (λ s holds. field.is s) (then_changes (λ k. read_field k) field.changes (field_changes n (still m.runtime) (ap of_record is))) };
  text = refl;
}
span_found n None field is = tt

pub stretch_length : (text : List ℕ) (span : Span) → IsSpanOf text span → length (stretch_at text span) ≡ span.end - span.start
stretch_length text span within = let far = within.1 in let rest = length-drop span.start text in length-take-le (span.end - span.start) (drop span.start text) (omega (arith, far, rest))

-- a stretch of a stretch is cut from the whole
pub part_cut : (text : List ℕ) (span part : Span) → IsSpanOf text span → IsSpanOf (stretch_at text span) part → drop (span.start + part.start) (take (span.start + part.end) text) ≡ stretch_at (stretch_at text span) part
part_cut text span part within inside =
    let long = stretch_length text span within in
    let ordered = within.0 in
    let far = inside.1 in
    cut_of_cut text span.start part.start part.end span.end inside.0 (omega (arith, long, ordered, far))
    ∙ sym (drop_of_take (drop span.start (take span.end text)) part.start part.end inside.0)
    ∙ ap (λ (t : List ℕ). take (part.end - part.start) (drop part.start t)) (sym (drop_of_take text span.start span.end within.0))

-- of another text, of which the same is true
pub text_alike : {a : Operand} {m : Machine} {holds : List ℕ → Type 0} (text : List ℕ) → HasText a (λ t. t ≡ text) m → holds text → HasText a holds m
text_alike {holds = holds} text h is = record { value = h.value; at = h.at; text = subst holds (sym h.text) is }

-- a value that is a text
pub text_at_hand : {a : Operand} {m : Machine} {holds : List ℕ → Type 0} {x : Value} {text : List ℕ} → IsAtHand a x m → str_of x ≡ text → holds text → HasText a holds m
text_at_hand {holds = holds} {x = x} at same is = record { value = x; at = at; text = subst holds (sym same) is }

-- so many positions are taken off the stack

two_behind : (start : Value) (found : Option ℤ) (count : ℕ) → count ≡ length (start ∷ count_values found) → count ≢ 1 → (vs : List Value) → drop 1 (drop 1 vs) ≡ drop count vs
two_behind start None count e other vs = absurd (other e)
two_behind start (Some n) count e other vs = drop_two vs ∙ ap (λ (k : ℕ). drop k vs) (sym e)

pub two_dropped : (p : Positions) (count : ℕ) → count ≡ length (position_values p) → count ≢ 1 → (vs : List Value) → drop 1 (drop 1 vs) ≡ drop count vs
two_dropped p count e other vs = two_behind (value.Number p.start) p.count count e other vs

-- the operands of a list

pub none_of : (list : List Operand) → (length list == 0) ≡ true → list ≡ []
none_of [] e = refl
none_of (a ∷ list) e = let none = eqb-true (length (a ∷ list)) 0 e in absurd (omega (arith, none))

pub one_of : (list : List Operand) (a : Operand) → length list ≡ 1 → get_or list 0 a ≡ a → list ≡ a ∷ []
one_of [] a h e = absurd (omega (arith, h))
one_of (b ∷ []) a h e = ap (λ (x : Operand). x ∷ []) e
one_of (b ∷ (c ∷ list)) a h e = absurd (omega (arith, h))

pub two_of : (list : List Operand) (a b : Operand) → 2 ≤ length list → length list < 3 → a ≡ get_or list 0 a → b ≡ get_or list 1 b → list ≡ a ∷ b ∷ []
two_of [] a b h k e e' = absurd (omega (arith, h))
two_of (x ∷ []) a b h k e e' = absurd (omega (arith, h))
two_of (x ∷ (y ∷ [])) a b h k e e' = ap (λ (z : Operand). z ∷ y ∷ []) (sym e) ∙ ap (λ (z : Operand). a ∷ z ∷ []) (sym e')
two_of (x ∷ (y ∷ (z ∷ list))) a b h k e e' = absurd (omega (arith, k))

-- in a machine that a reading leaves as it was

pub pushed_behind : {w : Value} {m between m' : Machine} → between ≡ m → Pushed w between m' → Pushed w m m'
pushed_behind {w = w} {m' = m'} same p = subst (λ (n : Machine). Pushed w n m') same p

pub applied_behind : {f : BuiltIn} {list : List Operand} {count : ℕ} {m between m' : Machine} → between ≡ m → PutsApplied f list count between m' → PutsApplied f list count m m'
applied_behind {f = f} {list = list} {count = count} {m' = m'} same p = subst (λ (n : Machine). PutsApplied f list count n m') same p

-- what is made of them is put on the stack

pub applied_puts : {f : BuiltIn} {list : Vec Operand} {count : ℕ} {m m' : Machine} → PutsApplied f list.items count m m' → Puts (v.ApplyTo f list count) m m'
applied_puts {f = f} {list = list} {count = count} {m = m} {m' = m'} p = record {
  value = p.value;
  operands = p.operands;
  calls = p.calls;
  changes = λ tables functions. subst (λ (r : Runtime). Changes (value_of (tables_in m.runtime.names tables) functions (v.ApplyTo f list count) m.operands.values) m.runtime r (Ok p.value)) (sym p.runtime) (then_changes _ p.at.changes (lift_changes _ m.runtime p.is));
}

pub length_applied : {a : Operand} {m m' : Machine} {n : ℤ} → HasText a (λ text. n ≡ pos (length text)) m → Pushed (value.Number n) m m' → PutsApplied Length (a ∷ []) 0 m m'
length_applied {n = n} h p = record {
  value = value.Number n;
  operands = p.operands;
  calls = p.calls;
  runtime = p.runtime;
  arguments = h.value ∷ [];
  at = one_at_hand h.at;
  is = ap (λ (k : ℤ). Ok (value.Number k)) (sym h.text);
}

pub position_applied : {a b : Operand} {part : Value} {m m' : Machine} {n : ℤ} → HasText a (λ text. n ≡ pos (position_of (str_of part) text)) m → IsAtHand b part m → Pushed (value.Number n) m m' → PutsApplied Index (a ∷ b ∷ []) 0 m m'
position_applied {part = part} {n = n} h at p = record {
  value = value.Number n;
  operands = p.operands;
  calls = p.calls;
  runtime = p.runtime;
  arguments = h.value ∷ part ∷ [];
  at = and_at_hand h.at (one_at_hand at);
  is = ap (λ (k : ℤ). Ok (value.Number k)) (sym h.text);
}

top_taken : (vs : List Value) → 0 < length vs → taken 1 vs ≡ first vs ∷ []
top_taken [] there = absurd (omega arith)
top_taken (x ∷ vs) there = refl

pub position_replaces : {a : Operand} {part : Value} {m m' : Machine} {n : ℤ} → HasText a (λ text. n ≡ pos (position_of (str_of part) text)) m → part ≡ first m.operands.values → 0 < length m.operands.values
    → m'.operands ≡ record m.operands { values = value.Number n ∷ drop 1 m.operands.values } → m'.runtime.frames.callers ≡ m.runtime.frames.callers → m'.runtime ≡ m.runtime → PutsApplied Index (a ∷ []) 1 m m'
position_replaces {part = part} {m = m} {n = n} h top there operands calls runtime = record {
  value = value.Number n;
  operands = operands;
  calls = calls;
  runtime = runtime;
  arguments = h.value ∷ [];
  at = one_at_hand h.at;
  is = ap (λ (l : List Value). applied_all Index (h.value ∷ l)) (top_taken m.operands.values there ∙ ap (λ (x : Value). x ∷ []) (sym top)) ∙ ap (λ (k : ℤ). Ok (value.Number k)) (sym h.text);
}

part_of : (x : Value) (start : ℤ) (count : Option ℤ) → applied_all Substr (x ∷ value.Number start ∷ count_values count) ≡ Ok (value.Text (substr_of (str_of x) start count))
part_of x start None = refl
part_of x start (Some n) = refl

pub part_applied : {a : Operand} {list : List Operand} (p : Positions) {part : Value} {m m' : Machine} → HasText a (λ text. part ≡ value.Text (substr_of text p.start p.count)) m → AreAtHand list (position_values p) m → Pushed part m m' → PutsApplied Substr (a ∷ list) 0 m m'
part_applied p {part = part} h are q = record {
  value = part;
  operands = q.operands;
  calls = q.calls;
  runtime = q.runtime;
  arguments = h.value ∷ position_values p;
  at = and_at_hand h.at are;
  is = ap (λ (l : List Value). applied_all Substr l) (append-nil (h.value ∷ position_values p)) ∙ part_of h.value p.start p.count ∙ ap (λ (w : Value). Ok w) (sym h.text);
}

pub part_replaces : {a : Operand} (p : Positions) (count : ℕ) {part : Value} {m m' : Machine} → HasText a (λ text. part ≡ value.Text (substr_of text p.start p.count)) m → taken count m.operands.values ≡ position_values p
    → m'.operands ≡ record m.operands { values = part ∷ drop count m.operands.values } → m'.runtime.frames.callers ≡ m.runtime.frames.callers → m'.runtime ≡ m.runtime → PutsApplied Substr (a ∷ []) count m m'
part_replaces p count {part = part} h are operands calls runtime = record {
  value = part;
  operands = operands;
  calls = calls;
  runtime = runtime;
  arguments = h.value ∷ [];
  at = one_at_hand h.at;
  is = ap (λ (l : List Value). applied_all Substr (h.value ∷ l)) are ∙ part_of h.value p.start p.count ∙ ap (λ (w : Value). Ok w) (sym h.text);
}

-- operands are read, one behind the other

abbrev pub values_behind : List Value → Result (List Value) Halt → Result (List Value) Halt
values_behind ws (Ok us) = Ok (ws ++ us)
values_behind ws (Err h) = Err h

pub behind_none : (r : Result (List Value) Halt) → values_behind [] r ≡ r
behind_none (Ok us) = refl
behind_none (Err h) = refl

pub behind_twice : (ws us : List Value) (r : Result (List Value) Halt) → values_behind ws (values_behind us r) ≡ values_behind (ws ++ us) r
behind_twice ws us (Ok vs) = ap (λ (l : List Value). Ok l) (sym (append_assoc ws us vs))
behind_twice ws us (Err h) = refl

pub none_read : {m : Machine} → ReadsAll [] m (Ok []) m
none_read {m = m} = record { operands = refl; calls = refl; changes = lift_changes (Ok []) m.runtime refl }

rest_by : (list : List Operand) {names : Naming} {m m' : Machine} {r : Result (List Value) Halt} → m.runtime.names ≡ names → ReadsAll list m r m' → Changes (operand_values names.scalars list) m.runtime m'.runtime r
rest_by list {m = m} {m' = m'} {r = r} same p = subst (λ (n : Naming). Changes (operand_values n.scalars list) m.runtime m'.runtime r) same p.changes

module _ {a : Operand} (list : List Operand) {m m1 : Machine} where
  pub one_read : {w : Value} {m' : Machine} (r : Result (List Value) Halt) → ReadsOperand a m (Ok w) m1 → ReadsAll list m1 r m' → ReadsAll (a ∷ list) m (values_behind (w ∷ []) r) m'
  one_read {w = w} {m' = m'} (Ok us) read p = record {
    operands = p.operands ∙ read.operands;
    calls = p.calls ∙ read.calls;
    changes = then_changes _ read.changes (then_changes _ (rest_by list read.changes.names p) (lift_changes (Ok (w ∷ us)) m'.runtime refl));
  }
  one_read (Err h) read p = record {
    operands = p.operands ∙ read.operands;
    calls = p.calls ∙ read.calls;
    changes = then_changes _ read.changes (ends_changes _ (rest_by list read.changes.names p));
  }

  pub not_read : {h : Halt} → ReadsOperand a m (Err h) m1 → ReadsAll (a ∷ list) m (Err h) m1
  not_read read = record { operands = read.operands; calls = read.calls; changes = ends_changes _ read.changes }

  pub not_kept : {w : Value} → ReadsOperand a m (Ok w) m1 → ReadsAll (a ∷ list) m (Err (halt.Fault OutOfMemory)) m1
  not_kept read = record { operands = read.operands; calls = read.calls; changes = ends_changes _ (memory_behind_changes read.changes) }

-- a list of values from a place on

pub values_over : (vs : List Value) (i : ℕ) → length vs ≤ i → drop i vs ≡ []
values_over vs i h = drop_of_length-le vs h

pub values_at : (vs : List Value) (i : ℕ) (x : Value) → i < length vs → get_or vs i x ≡ x → drop i vs ≡ x ∷ drop (suc i) vs
values_at [] i x h e = absurd (omega (arith, h))
values_at (v ∷ vs) zero x h e = ap (λ (y : Value). y ∷ vs) e
values_at (v ∷ vs) (suc i) x h e = values_at vs i x (omega (arith, h)) e

-- what a function makes of them

module _ {f : BuiltIn} {list : Vec Operand} {count : ℕ} {m m1 : Machine} where
  pub applied : {ws all : List Value} (m2 : Machine) {m3 : Machine} {w : Value} → ReadsAll list.items m (Ok ws) m1 → all ≡ ws ++ taken count m1.operands.values → Changes (lift (applied_all f all)) m1.runtime m2.runtime (Ok w) → m2.operands ≡ m1.operands → m2.runtime.frames.callers ≡ m1.runtime.frames.callers
      → m3.operands ≡ record m2.operands { values = drop count m2.operands.values } → m3.runtime.frames.callers ≡ m2.runtime.frames.callers → m3.runtime ≡ m2.runtime → Computes (v.ApplyTo f list count) m (Ok w) m3
  applied {ws = ws} {all = all} m2 {m3 = m3} {w = w} p are made operands2 calls2 operands3 calls3 runtime3 =
      let left : OperandsView → OperandsView = λ o. record o { values = drop count o.values } in
      let is : all ≡ ws ++ taken count m.operands.values = are ∙ ap (λ (o : OperandsView). ws ++ taken count o.values) p.operands in
      computed (Ok w) (operands3 ∙ ap left (operands2 ∙ p.operands)) (calls3 ∙ calls2 ∙ p.calls)
      (λ tables functions. then_changes _ p.changes (subst (λ (r : Runtime). Changes (lift (applied_all f (ws ++ taken count m.operands.values))) m1.runtime r (Ok w)) (sym runtime3) (subst (λ (l : List Value). Changes (lift (applied_all f l)) m1.runtime m2.runtime (Ok w)) is made)))

  pub not_applied : {ws all : List Value} {m2 : Machine} {h : Halt} → ReadsAll list.items m (Ok ws) m1 → all ≡ ws ++ taken count m1.operands.values → Changes (lift (applied_all f all)) m1.runtime m2.runtime (Err h) → Computes (v.ApplyTo f list count) m (Err h) m2
  not_applied {ws = ws} {all = all} {m2 = m2} {h = h} p are made =
      let is : all ≡ ws ++ taken count m.operands.values = are ∙ ap (λ (o : OperandsView). ws ++ taken count o.values) p.operands in
      ended h (λ tables functions. then_changes _ p.changes (subst (λ (l : List Value). Changes (lift (applied_all f l)) m1.runtime m2.runtime (Err h)) is made))

  pub not_gathered : {ws : List Value} → ReadsAll list.items m (Ok ws) m1 → Computes (v.ApplyTo f list count) m (Err (halt.Fault OutOfMemory)) m1
  not_gathered p = ended _ (λ tables functions. memory_changes _ p.changes.streams p.changes.names p.changes.callers p.changes.steps)

  pub not_all_read : {h : Halt} → ReadsAll list.items m (Err h) m1 → Computes (v.ApplyTo f list count) m (Err h) m1
  not_all_read {h = h} p = ended h (λ tables functions. ends_changes _ p.changes)
