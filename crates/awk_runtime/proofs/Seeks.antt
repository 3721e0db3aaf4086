-- Where main records come from, by what the parts do.
use Rattle.std.proofs.Math.Seq.{take-length}
use Rattle.std.proofs.lemmas.List.{length-drop}
use Rattle.std.proofs.Common.{take, drop, length, ◌-◌, ◌≡◌, ℕ, ◌≤◌, zero, suc, Bool, true, false, List, [], Option, Some, None, Result, Ok, Err, refl, sym, ap, ◌∙◌, subst, arith}
use Rattle.std.specs.Prelude.{IfSome}
use Rattle.awk_world.specs.declared.world.InputKind.{InputKind}
use Rattle.awk_world.specs.declared.world.InputKind.TheVariants.{Standard, File}
use Rattle.awk_streams.specs.WorldState.{WorldState}
use Rattle.awk_semantics.specs.declared.halt.Halt.{Halt}
use Rattle.awk_semantics.specs.Primitives.{take_argument}
use Rattle.awk_semantics.specs.Streams.{begin_input, take_record, close_main, is_input_seen}
use Rattle.awk_semantics.specs.Inputs.{assign_text, Operand, Nothing, Assignment, StandardInput, AFile, operand_of, main_record, path_of, first_record, record_by, operand_record, standard_record, search_operands_within, search_operands, next_record}
use Rattle.awk_runtime.specs.declared.runtime.Runtime.{Runtime}
use Rattle.awk_runtime.specs.support.Simulation.{Simulates, Changes, Spends, Follows, IsReady}
use Rattle.awk_runtime.specs.support.Inputs.{OpensMainInput, ClosedUnless, Seeks, SearchesOn}
use Rattle.awk_runtime.proofs.Composition.{then_simulates, ends_simulates, lift_simulates, change_simulates}
use Rattle.awk_runtime.proofs.Steps.{reads_changes, still}

-- records of the main input

pub main_ends : {is_logged : Type 0} {m m1 : Runtime} {k k1 : WorldState} {h : Halt} → Follows is_logged take_record m k m1 k1 (Err h) → Seeks is_logged main_record m k m1 k1 (Err h)
unfolding main_record
main_ends p = record { simulates = ends_simulates _ p.simulates; callers = p.callers; closed = tt }

pub main_gives : {is_logged : Type 0} {text : List ℕ} {m m1 : Runtime} {k k1 : WorldState} → Follows is_logged take_record m k m1 k1 (Ok (Some text)) → Seeks is_logged main_record m k m1 k1 (Ok (Some text))
unfolding main_record
main_gives {m1 = m1} {k1 = k1} p = record { simulates = then_simulates _ p.simulates (lift_simulates _ m1 k1 refl); callers = p.callers; closed = tt }

pub main_closes : {is_logged : Type 0} {m m1 m2 : Runtime} {k k1 k2 : WorldState} → Follows is_logged take_record m k m1 k1 (Ok None) → Follows is_logged close_main m1 k1 m2 k2 (Ok tt) → m2.streams.main ≡ None → Seeks is_logged main_record m k m2 k2 (Ok None)
unfolding main_record
main_closes {m2 = m2} {k2 = k2} p q none = record { simulates = then_simulates _ p.simulates (then_simulates _ q.simulates (lift_simulates _ m2 k2 refl)); callers = q.callers ∙ p.callers; closed = none }

pub first_unopened : {is_logged : Type 0} {kind : InputKind} (name : List ℕ) {m m1 : Runtime} {k k1 : WorldState} {h : Halt} → OpensMainInput is_logged kind (path_of kind name) m k m1 k1 (Err h) → Seeks is_logged (first_record kind name) m k m1 k1 (Err h)
unfolding first_record
first_unopened name p = record { simulates = ends_simulates _ p.simulates; callers = p.callers; closed = tt }

pub first_unnamed : {is_logged : Type 0} {kind : InputKind} (name : List ℕ) {m m1 m2 : Runtime} {k k1 : WorldState} {h : Halt} → OpensMainInput is_logged kind (path_of kind name) m k m1 k1 (Ok tt) → Changes (begin_input name) m1 m2 (Err h) → Seeks is_logged (first_record kind name) m k m2 k1 (Err h)
unfolding first_record
first_unnamed name p q = record { simulates = then_simulates _ p.simulates (ends_simulates _ (change_simulates q)); callers = q.callers ∙ p.callers; closed = tt }

pub first_seeks : {is_logged : Type 0} {kind : InputKind} (name : List ℕ) {m m1 m2 m3 : Runtime} {k k1 k3 : WorldState} {r : Result (Option (List ℕ)) Halt} → OpensMainInput is_logged kind (path_of kind name) m k m1 k1 (Ok tt) → Changes (begin_input name) m1 m2 (Ok tt) → Seeks is_logged main_record m2 k1 m3 k3 r → Seeks is_logged (first_record kind name) m k m3 k3 r
unfolding first_record
first_seeks name p q r = record { simulates = then_simulates _ p.simulates (then_simulates _ (change_simulates q) r.simulates); callers = r.callers ∙ (q.callers ∙ p.callers); closed = r.closed }

-- elements of ARGV

by_argument : {is_logged : Type 0} (word : List ℕ) (a : Operand) {m new : Runtime} {k after : WorldState} {r : Result (Option (List ℕ)) Halt} → a ≡ operand_of word → Simulates is_logged m k new after r (record_by a word) → Simulates is_logged m k new after r (operand_record word)
unfolding operand_record
by_argument {is_logged = is_logged} word a {m = m} {new = new} {k = k} {after = after} {r = r} e p = subst (λ (x : Operand). Simulates is_logged m k new after r (record_by x word)) e p

pub nothing_seeks : {is_logged : Type 0} (word : List ℕ) {m : Runtime} {k : WorldState} → Nothing ≡ operand_of word → m.streams.main ≡ None → Seeks is_logged (operand_record word) m k m k (Ok None)
nothing_seeks word {m = m} {k = k} e none = record { simulates = by_argument word _ e (lift_simulates _ m k refl); callers = refl; closed = none }

pub assignment_ends : {is_logged : Type 0} (word : List ℕ) {x text : List ℕ} {m m1 : Runtime} {k : WorldState} {h : Halt} → Assignment x text ≡ operand_of word → Changes (assign_text x text) m m1 (Err h) → Seeks is_logged (operand_record word) m k m1 k (Err h)
assignment_ends word e p = record { simulates = by_argument word _ e (ends_simulates _ (change_simulates p)); callers = p.callers; closed = tt }

pub assignment_seeks : {is_logged : Type 0} (word : List ℕ) {x text : List ℕ} {m m1 : Runtime} {k : WorldState} → Assignment x text ≡ operand_of word → m.streams.main ≡ None → Changes (assign_text x text) m m1 (Ok tt) → Seeks is_logged (operand_record word) m k m1 k (Ok None)
assignment_seeks word {m1 = m1} {k = k} e none p = record { simulates = by_argument word _ e (then_simulates _ (change_simulates p) (lift_simulates _ m1 k refl)); callers = p.callers; closed = ap (λ s. s.main) p.streams ∙ none }

pub standard_seeks : {is_logged : Type 0} (word : List ℕ) {m m1 : Runtime} {k k1 : WorldState} {r : Result (Option (List ℕ)) Halt} → StandardInput ≡ operand_of word → Seeks is_logged (first_record Standard word) m k m1 k1 r → Seeks is_logged (operand_record word) m k m1 k1 r
standard_seeks word e p = record { simulates = by_argument word _ e p.simulates; callers = p.callers; closed = p.closed }

pub file_seeks : {is_logged : Type 0} (word : List ℕ) {m m1 : Runtime} {k k1 : WorldState} {r : Result (Option (List ℕ)) Halt} → AFile ≡ operand_of word → Seeks is_logged (first_record File word) m k m1 k1 r → Seeks is_logged (operand_record word) m k m1 k1 r
file_seeks word e p = record { simulates = by_argument word _ e p.simulates; callers = p.callers; closed = p.closed }

-- standard input for want of a file

served_is : {m : Runtime} {b : Bool} → m.input_seen ≡ b → Changes is_input_seen m m (Ok b)
unfolding is_input_seen
served_is {m = m} e = reads_changes is_input_seen (λ s. Ok s.input_seen) (λ s. refl) (still m) (λ s h. ap (λ (b : Bool). Ok b) (h.input_seen ∙ e))

pub want_seen : {is_logged : Type 0} {m : Runtime} {k : WorldState} → m.input_seen ≡ true → m.streams.main ≡ None → Seeks is_logged standard_record m k m k (Ok None)
unfolding standard_record
want_seen {m = m} {k = k} e none = record { simulates = then_simulates _ (change_simulates (served_is e)) (lift_simulates _ m k refl); callers = refl; closed = none }

pub want_unnamed : {is_logged : Type 0} {m : Runtime} {k : WorldState} {h : Halt} → Simulates is_logged m k m k (Err h) standard_record → Seeks is_logged standard_record m k m k (Err h)
want_unnamed p = record { simulates = p; callers = refl; closed = tt }

pub want_seeks : {is_logged : Type 0} {m m1 : Runtime} {k k1 : WorldState} {r : Result (Option (List ℕ)) Halt} → m.input_seen ≡ false → Seeks is_logged (first_record Standard []) m k m1 k1 r → Seeks is_logged standard_record m k m1 k1 r
unfolding standard_record
want_seeks e p = record { simulates = then_simulates _ (change_simulates (served_is e)) p.simulates; callers = p.callers; closed = p.closed }

-- the search

pub search_ends : {is_logged : Type 0} {m m1 : Runtime} {k : WorldState} {h : Halt} → Changes take_argument m m1 (Err h) → SearchesOn is_logged m k m1 k (Err h)
unfolding search_operands_within
search_ends p = record { simulates = λ n low. ends_simulates _ (change_simulates p); callers = p.callers }

pub search_stops : {is_logged : Type 0} {word : List ℕ} {m m1 m2 : Runtime} {k : WorldState} {h : Halt} → Changes take_argument m m1 (Ok (Some word)) → Spends m1 m2 (Err h) → SearchesOn is_logged m k m2 k (Err h)
unfolding search_operands_within
search_stops p q = record { simulates = λ n low. then_simulates _ (change_simulates p) (ends_simulates _ (change_simulates q.changes)); callers = q.changes.callers ∙ p.callers }

pub search_halts : {is_logged : Type 0} {word : List ℕ} {m m1 m2 m3 : Runtime} {k k3 : WorldState} {h : Halt} → Changes take_argument m m1 (Ok (Some word)) → Spends m1 m2 (Ok tt) → Seeks is_logged (operand_record word) m2 k m3 k3 (Err h) → SearchesOn is_logged m k m3 k3 (Err h)
unfolding search_operands_within
search_halts p q r = record { simulates = λ n low. then_simulates _ (change_simulates p) (then_simulates _ (change_simulates q.changes) (ends_simulates _ r.simulates)); callers = r.callers ∙ (q.changes.callers ∙ p.callers) }

pub search_gives : {is_logged : Type 0} {word text : List ℕ} {m m1 m2 m3 : Runtime} {k k3 : WorldState} → Changes take_argument m m1 (Ok (Some word)) → Spends m1 m2 (Ok tt) → Seeks is_logged (operand_record word) m2 k m3 k3 (Ok (Some text)) → SearchesOn is_logged m k m3 k3 (Ok (Some text))
unfolding search_operands_within
search_gives {m3 = m3} {k3 = k3} p q r = record { simulates = λ n low. then_simulates _ (change_simulates p) (then_simulates _ (change_simulates q.changes) (then_simulates _ r.simulates (lift_simulates _ m3 k3 refl))); callers = r.callers ∙ (q.changes.callers ∙ p.callers) }

goes_at : (n : ℕ) {is_logged : Type 0} {word : List ℕ} {m m1 m2 m3 new : Runtime} {k k3 after : WorldState} {x : Result (Option (List ℕ)) Halt} → Changes take_argument m m1 (Ok (Some word)) → Spends m1 m2 (Ok tt) → Seeks is_logged (operand_record word) m2 k m3 k3 (Ok None) → SearchesOn is_logged m3 k3 new after x → m.steps ≤ n → Simulates is_logged m k new after x (search_operands_within (suc n))
unfolding search_operands_within
goes_at zero p q r t low = absurd (omega (arith, p.steps, q.falls))
goes_at (suc n) p q r t low = then_simulates _ (change_simulates p) (then_simulates _ (change_simulates q.changes) (then_simulates _ r.simulates (t.simulates n (omega (arith, p.steps, q.falls, r.simulates.steps)))))

pub search_goes : {is_logged : Type 0} {word : List ℕ} {m m1 m2 m3 new : Runtime} {k k3 after : WorldState} {x : Result (Option (List ℕ)) Halt} → Changes take_argument m m1 (Ok (Some word)) → Spends m1 m2 (Ok tt) → Seeks is_logged (operand_record word) m2 k m3 k3 (Ok None) → SearchesOn is_logged m3 k3 new after x → SearchesOn is_logged m k new after x
search_goes p q r t = record { simulates = λ n low. goes_at n p q r t low; callers = t.callers ∙ (r.callers ∙ (q.changes.callers ∙ p.callers)) }

pub search_over : {is_logged : Type 0} {m m1 m2 : Runtime} {k k2 : WorldState} {r : Result (Option (List ℕ)) Halt} → Changes take_argument m m1 (Ok None) → Seeks is_logged standard_record m1 k m2 k2 r → SearchesOn is_logged m k m2 k2 r
unfolding search_operands_within
search_over p q = record { simulates = λ n low. then_simulates _ (change_simulates p) q.simulates; callers = q.callers ∙ p.callers }

pub searches_all : {is_logged : Type 0} {m new : Runtime} {k after : WorldState} {r : Result (Option (List ℕ)) Halt} → ClosedUnless r new → SearchesOn is_logged m k new after r → Seeks is_logged search_operands m k new after r
unfolding search_operands
searches_all {m = m} closed p = record {
  simulates = record {
    steps = (p.simulates m.steps (omega arith)).steps;
    names = (p.simulates m.steps (omega arith)).names;
    told = λ t. record {
      grows = ((p.simulates m.steps (omega arith)).told t).grows;
      means = λ oracle s past consistent stands. ((p.simulates s.steps (let same = stands.holds.steps in omega arith)).told t).means oracle s past consistent stands;
    };
  };
  callers = p.callers;
  closed = closed;
}

-- the next record

pub next_ends : {is_logged : Type 0} {m m1 : Runtime} {k k1 : WorldState} {h : Halt} → Seeks is_logged main_record m k m1 k1 (Err h) → Follows is_logged next_record m k m1 k1 (Err h)
unfolding next_record
next_ends p = record { simulates = ends_simulates _ p.simulates; callers = p.callers }

pub next_gives : {is_logged : Type 0} {text : List ℕ} {m m1 : Runtime} {k k1 : WorldState} → Seeks is_logged main_record m k m1 k1 (Ok (Some text)) → Follows is_logged next_record m k m1 k1 (Ok (Some text))
unfolding next_record
next_gives {m1 = m1} {k1 = k1} p = record { simulates = then_simulates _ p.simulates (lift_simulates _ m1 k1 refl); callers = p.callers }

-- a record that is at hand is the next one
pub next_at_hand : (is_logged : Type 0) (found : Option (List ℕ)) (m m1 : Runtime) → IfSome found (λ text. (k : WorldState) → IsReady is_logged k m.streams → Follows is_logged take_record m k m1 k (Ok (Some text)))
    → IfSome found (λ text. (k : WorldState) → IsReady is_logged k m.streams → Follows is_logged next_record m k m1 k (Ok (Some text)))
next_at_hand is_logged None m m1 taken = tt
next_at_hand is_logged (Some text) m m1 taken = λ k ready. next_gives (main_gives (taken k ready))

pub next_seeks : {is_logged : Type 0} {m m1 m2 : Runtime} {k k1 k2 : WorldState} {r : Result (Option (List ℕ)) Halt} → Seeks is_logged main_record m k m1 k1 (Ok None) → Seeks is_logged search_operands m1 k1 m2 k2 r → Follows is_logged next_record m k m2 k2 r
unfolding next_record
next_seeks p q = record { simulates = then_simulates _ p.simulates q.simulates; callers = q.callers ∙ p.callers }

-- the rest of a word, as a slice of it
pub slice_rest : (n : ℕ) (l : List ℕ) → take (length l - n) (drop n l) ≡ drop n l
slice_rest n l = let e : length l - n ≡ length (drop n l) = sym (length-drop n l) in ap (λ m. take m (drop n l)) e ∙ take-length (drop n l)
