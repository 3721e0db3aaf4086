-- A call: its entry is put on the stack, and the place of the body is next.
use Rattle.std.proofs.Common.{◌≡◌, ℕ, zero, suc, ◌<◌, ◌≤◌, List, [], ◌∷◌, drop, slice_get, Some, Result, Ok, Err, refl, sym, ap, ◌∙◌, subst, arith}
use Rattle.std.specs.Global.{Vec}
use Rattle.std.specs.Option.{option_map}
use Rattle.std.proofs.lemmas.Option.{slice_get-map}
use Rattle.awk_value.specs.declared.value.Value.{Value}
use Rattle.awk_value.specs.declared.value.Value.TheVariants as value
use Rattle.awk_streams.specs.WorldState.{WorldState}
use Rattle.awk_kinds.specs.Kinds.{Definition}
use Rattle.awk_semantics.specs.declared.halt.Halt.{Halt}
use Rattle.awk_semantics.specs.declared.local.Local.{Local}
use Rattle.awk_semantics.specs.State.{State, Run, ◌>>=◌, go_on, ret}
use Rattle.awk_semantics.specs.Keeps.{Scope}
use Rattle.awk_semantics.specs.Primitives.{check_height, spend_of, spend, enter, leave}
use Rattle.awk_semantics.specs.Calls.{call_within, functions_within}
use Rattle.awk_semantics.proofs.KeepsForms.{keeps_check_height, keeps_spend}
use Rattle.awk_resolve.specs.declared.node.ArgumentForm.{ArgumentForm}
use Rattle.awk_resolve.specs.declared.node.ArgumentForm.TheVariants as form
use Rattle.awk_storage.specs.declared.position.Array.TheVariants as array
use Rattle.awk_resolve.specs.declared.node.Node.TheVariants as n
use Rattle.awk_resolve.specs.declared.node.ValueNode.TheVariants as v
use Rattle.awk_resolve.specs.declared.plan.Function.{Function as PlannedFunction}
use Rattle.awk_resolve.specs.declared.plan.Plan.{Plan}
use Rattle.awk_resolve.specs.Nodes.{Tables, function_at, given_by, local_by, behind_form, locals_by, call_at, taken, values_among, FormsFit, CallFits}
use Rattle.awk_resolve.specs.Plans.{array_parameters}
use Rattle.awk_resolve.proofs.Calculus.{assoc_at, given, later_same, later_kept, first_same}
use Rattle.awk_resolve.proofs.Calling.{locals_fit}
use Rattle.awk_runtime.specs.declared.runtime.Runtime.{Runtime}
use Rattle.awk_runtime.specs.Simulation.{Simulates, Changes, ChangesCalls}
use Rattle.awk_runtime.proofs.Composition.{then_simulates, ends_simulates, calls_simulate}
use Rattle.awk_runtime.proofs.CallLemmas.{given_later}
use Rattle.awk_evaluator.specs.declared.machine.Machine.{Machine}
use Rattle.awk_evaluator.specs.declared.machine.Move.TheVariants as move
use Rattle.awk_evaluator.specs.Rest.{StandsFor, tables_in, Entry, Bound, Bounds, IsAbove, AtPlace, AtNode, cont, begun, resume, Rest}
use Rattle.awk_evaluator.specs.Moves.{stack_of, Ends, Moves}
use Rattle.awk_evaluator.specs.Calling.{begin_call, BeginsCall}
use Rattle.awk_evaluator.proofs.Resting.{same_simulates, above_less}

abbrev pushed_bound : Bound → Bounds → Bounds
pushed_bound b bs zero = b
pushed_bound b bs (suc i) = bs i

-- a call fits the function that it is of
forms_fit : (functions : List PlannedFunction) (i : ℕ) (fs : List ArgumentForm) {f : PlannedFunction} → slice_get functions i ≡ Some f → CallFits (slice_get (array_parameters functions) i) fs → FormsFit f.arrays.items fs
forms_fit functions i fs at fits = subst (λ o. CallFits o fs) (slice_get-map (λ (f : PlannedFunction). f.arrays.items) functions i ∙ ap (option_map (λ (f : PlannedFunction). f.arrays.items)) at) fits

given_at : {A : Type 0} (fs : List ArgumentForm) (vs : List Value) (f : List Local → Run A) (s : State) → (given_by fs vs >>= f) s ≡ f (locals_by fs vs s) s
unfolding ◌>>=◌ go_on given_by
given_at fs vs f s = refl

-- arguments are read of what steps don't change

still_one : (f : ArgumentForm) (vs : List Value) (s : State) (n : ℕ) → local_by f vs (record s { steps = n }) ≡ local_by f vs s
still_one form.Value vs s n = refl
still_one (form.Array (array.Global k)) vs s n = refl
still_one (form.Array (array.Local i)) vs s n = refl

still_given : (fs : List ArgumentForm) (vs : List Value) (s : State) (n : ℕ) → locals_by fs vs (record s { steps = n }) ≡ locals_by fs vs s
still_given [] vs s n = refl
still_given (f ∷ fs) vs s n = ap (λ l. l ∷ locals_by fs (behind_form f vs) (record s { steps = n })) (still_one f vs s n) ∙ ap (λ ls. local_by f vs s ∷ ls) (still_given fs (behind_form f vs) s n)

given_behind : {A : Type 0} (fs : List ArgumentForm) (vs : List Value) (h : ℕ) (k : List Local → Run A) (s : State) → (given_by fs vs >>= λ g. check_height h >>= λ _. spend >>= λ _. k g) s ≡ (check_height h >>= λ _. spend >>= λ _. given_by fs vs >>= k) s
unfolding given_by
given_behind fs vs h k s = given_later (locals_by fs vs) h k (still_given fs vs) s

module _ (tables : Tables) (ds : List Definition) (plan : Plan) {i : ℕ} {f : PlannedFunction} (stands : StandsFor tables ds plan i f) (fs : List ArgumentForm) (args : List Value) where
  name : List ℕ
  name = function_at tables i

  abbrev call_run : Bound → Run Value
  call_run b = call_at (functions_within ds b.calls) (function_at tables i) fs args

  abbrev begun_run : Run (Unit {0})
  begun_run = check_height f.height >>= λ _. spend >>= λ _. given_by fs args >>= λ g. enter stands.parameters f.height g

  -- what follows the checks of a call is the body, and then the caller
  body_at : FormsFit f.arrays.items fs → (c : ℕ) (b : Bound) (bs : Bounds) (e : Entry) (stack : List Entry) (vs : List Value) (u : State) → u.steps ≤ b.turns → u.array_names ≡ tables.arrays
      → (given_by fs args >>= λ g. call_within ds (suc c) (function_at tables i) g >>= λ w. cont tables ds plan b e.next (w ∷ e.values) >>= λ x. resume tables ds plan bs stack x) u
      ≡ (given_by fs args >>= λ g. enter stands.parameters f.height g >>= λ _. cont tables ds plan (record { calls = c; turns = b.turns }) f.body vs >>= λ w. resume tables ds plan (pushed_bound b bs) (e ∷ stack) w) u
  unfolding resume
  body_at fit c b bs e stack vs u low arrays =
      let g = locals_by fs args u in
      let q : Value → Run Value = λ w. cont tables ds plan b e.next (w ∷ e.values) >>= λ x. resume tables ds plan bs stack x in
      let body : Run Value = cont tables ds plan (record { calls = c; turns = b.turns }) f.body vs in
      let back : Value → Run Value = λ w. leave >>= λ _. ret w in
      given_at fs args (λ g. call_within ds (suc c) (function_at tables i) g >>= q) u
      ∙ first_same (call_within ds (suc c) (function_at tables i) g) (enter stands.parameters f.height g >>= λ _. body >>= back) q u (stands.calls c b.turns g vs u (locals_fit f.arrays.items fs args u fit) low arrays)
      ∙ assoc_at (enter stands.parameters f.height g) (λ _. body >>= back) q u
      ∙ later_same (enter stands.parameters f.height g) (λ _. (body >>= back) >>= q) (λ _. body >>= λ w. leave >>= λ _. q w) u
      (λ _ t. assoc_at body back q t ∙ later_same body (λ w. back w >>= q) (λ w. leave >>= λ _. q w) t
      (λ w t'. assoc_at leave (λ _. ret w) q t' ∙ later_same leave (λ _. ret w >>= q) (λ _. q w) t' (λ _ t''. given w q t'')))
      ∙ sym (given_at fs args (λ g. enter stands.parameters f.height g >>= λ _. body >>= λ w. leave >>= λ _. q w) u)

  abbrev within : ℕ → ℕ → Run Value
  within h n = given_by fs args >>= λ g. check_height h >>= λ _. spend >>= λ _. call_within ds n (function_at tables i) g

  -- what was begun, and what follows it
  begun_then : (z : Run Value) (s : State) → (check_height f.height >>= λ _. spend >>= λ _. given_by fs args >>= λ g. enter stands.parameters f.height g >>= λ _. z) s ≡ (begun_run >>= λ _. z) s
  begun_then z s =
      let e : List Local → Run (Unit {0}) = λ g. enter stands.parameters f.height g in
      sym (assoc_at (check_height f.height) (λ _. spend >>= λ _. given_by fs args >>= e) (λ _. z) s
      ∙ later_same (check_height f.height) (λ _. (spend >>= λ _. given_by fs args >>= e) >>= λ _. z) (λ _. spend >>= λ _. given_by fs args >>= λ g. e g >>= λ _. z) s
      (λ _ u. assoc_at spend (λ _. given_by fs args >>= e) (λ _. z) u
      ∙ later_same spend (λ _. (given_by fs args >>= e) >>= λ _. z) (λ _. given_by fs args >>= λ g. e g >>= λ _. z) u (λ _ t. assoc_at (given_by fs args) e (λ _. z) t)))

  -- the checks come first
  checked_then : (n : ℕ) (q : Value → Run Value) (s : State) → (within f.height n >>= q) s ≡ (check_height f.height >>= λ _. (spend >>= λ _. given_by fs args >>= λ g. call_within ds n (function_at tables i) g) >>= q) s
  checked_then n q s =
      let k : List Local → Run Value = λ g. call_within ds n (function_at tables i) g in
      first_same (within f.height n) (check_height f.height >>= λ _. spend >>= λ _. given_by fs args >>= k) q s (given_behind fs args f.height k s)
      ∙ assoc_at (check_height f.height) (λ _. spend >>= λ _. given_by fs args >>= k) q s

  pub called_at : FormsFit f.arrays.items fs → (c : ℕ) (b : Bound) (bs : Bounds) (e : Entry) (stack : List Entry) (vs : List Value) (s : State) → b.calls ≡ suc c → s.steps ≤ b.turns → s.array_names ≡ tables.arrays
      → ((call_run b >>= λ w. cont tables ds plan b e.next (w ∷ e.values)) >>= λ x. resume tables ds plan bs stack x) s
      ≡ (begun_run >>= λ _. cont tables ds plan (record { calls = c; turns = b.turns }) f.body vs >>= λ w. resume tables ds plan (pushed_bound b bs) (e ∷ stack) w) s
  called_at fit c b bs e stack vs s is low arrays =
      let q : Value → Run Value = λ w. cont tables ds plan b e.next (w ∷ e.values) >>= λ x. resume tables ds plan bs stack x in
      let k : List Local → Run Value = λ g. call_within ds (suc c) (function_at tables i) g in
      let z : Run Value = cont tables ds plan (record { calls = c; turns = b.turns }) f.body vs >>= λ w. resume tables ds plan (pushed_bound b bs) (e ∷ stack) w in
      let m : Run Value = given_by fs args >>= λ g. enter stands.parameters f.height g >>= λ _. z in
      assoc_at (call_run b) (λ w. cont tables ds plan b e.next (w ∷ e.values)) (λ x. resume tables ds plan bs stack x) s
      ∙ ap (λ h. (within h b.calls >>= q) s) stands.height
      ∙ ap (λ n. (within f.height n >>= q) s) is
      ∙ checked_then (suc c) q s
      ∙ later_kept (λ _. (spend >>= λ _. given_by fs args >>= k) >>= q) (λ _. spend >>= λ _. m) s (keeps_check_height f.height)
      (λ _ u low1 scope1. assoc_at spend (λ _. given_by fs args >>= k) q u
      ∙ later_kept (λ _. (given_by fs args >>= k) >>= q) (λ _. m) u keeps_spend
      (λ _ t low2 scope2. assoc_at (given_by fs args) k q t
      ∙ body_at fit c b bs e stack vs t (omega (arith, low, low1, low2)) (ap (λ (x : Scope). x.array_names) (scope2 ∙ scope1) ∙ arrays)))
      ∙ begun_then z s

  -- no step is left

  stuck_by : (n : ℕ) (f g : Unit {0} → Run Value) (s : State) → n ≡ 0 → go_on (spend_of n s).result (spend_of n s).state (spend_of n s).effects f ≡ go_on (spend_of n s).result (spend_of n s).state (spend_of n s).effects g
  unfolding go_on
  stuck_by zero f g s e = refl
  stuck_by (suc n) f g s e = absurd (omega (arith, e))

  stuck : (f g : Unit {0} → Run Value) (s : State) → s.steps ≡ 0 → (spend >>= f) s ≡ (spend >>= g) s
  unfolding ◌>>=◌ spend
  stuck f g s e = stuck_by s.steps f g s e

  pub called_stuck : (b : Bound) (q : Value → Run Value) (z : Run Value) (s : State) → s.steps ≡ 0 → (call_run b >>= q) s ≡ (begun_run >>= λ _. z) s
  called_stuck b q z s none =
      let k : List Local → Run Value = λ g. call_within ds b.calls (function_at tables i) g in
      let m : Run Value = given_by fs args >>= λ g. enter stands.parameters f.height g >>= λ _. z in
      ap (λ h. (within h b.calls >>= q) s) stands.height
      ∙ checked_then b.calls q s
      ∙ later_kept (λ _. (spend >>= λ _. given_by fs args >>= k) >>= q) (λ _. spend >>= λ _. m) s (keeps_check_height f.height)
      (λ _ u low scope. assoc_at spend (λ _. given_by fs args >>= k) q u ∙ stuck (λ _. (given_by fs args >>= k) >>= q) (λ _. m) u (omega (arith, low, none)))
      ∙ begun_then z s

low_in : {x y z : ℕ} → x ≡ y → y ≤ z → x ≤ z
low_in e h = omega (arith, e, h)

none_in : {x y z : ℕ} → x ≡ y → y ≤ z → z ≡ 0 → x ≡ 0
none_in e h z = omega (arith, e, h, z)

-- the bounds behind a call
pushed_above : {steps : ℕ} {b : Bound} {bs : Bounds} → IsAbove steps b → ((j : ℕ) → IsAbove steps (bs j)) → (j : ℕ) → IsAbove steps (pushed_bound b bs j)
pushed_above p q zero = p
pushed_above p q (suc j) = q j

abbrev args_of : List ArgumentForm → Machine → List Value
args_of fs m = taken (values_among fs) m.operands.values

abbrev caller_of : ℕ → List ArgumentForm → Machine → Entry
caller_of next fs m = record { next = next; values = drop (values_among fs) m.operands.values }

module _ {is_logged : Type 0} {plan : Plan} {i next : ℕ} {fs : Vec ArgumentForm} {f : PlannedFunction} (at : slice_get plan.functions.items i ≡ Some f) (fits : CallFits (slice_get (array_parameters plan.functions.items) i) fs.items) where
  module _ (m m' : Machine) (k : WorldState) where
    module _ (t : Tables) (ds : List Definition) (arrays : t.arrays ≡ m.runtime.names.arrays) (st : StandsFor t ds plan i f) where
      entered_rest : {new : Runtime} {after : WorldState} {r : Result Value Halt} → ChangesCalls (begin_call st.parameters f.height fs.items m) m.runtime m'.runtime (Ok tt) → m'.runtime.steps < m.runtime.steps
          → Rest t ds plan is_logged (AtPlace f.body) m'.operands.values ((caller_of next fs.items m) ∷ stack_of m) m'.runtime k new after r
          → Rest t ds plan is_logged (AtNode (n.Value (v.Call i fs) next)) m.operands.values (stack_of m) m.runtime k new after r
      entered_rest {new = new} {after = after} {r = r} changes less d = record { does = λ b bs p q. by b.calls b bs refl p q }
        where
          by : (c : ℕ) (b : Bound) (bs : Bounds) → b.calls ≡ c → IsAbove m.runtime.steps b → ((j : ℕ) → IsAbove m.runtime.steps (bs j))
              → Simulates is_logged m.runtime k new after r (begun t ds plan (AtNode (n.Value (v.Call i fs) next)) b m.operands.values >>= λ w. resume t ds plan bs (stack_of m) w)
          by zero b bs is p q = let low = p.0 in absurd (omega (arith, is, low, less))
          by (suc c) b bs is p q =
              let calls = p.0 in
              let turns = p.1 in
              let low : m'.runtime.steps ≤ m.runtime.steps = omega (arith, less) in
              let z : Run Value = cont t ds plan (record { calls = c; turns = b.turns }) f.body m'.operands.values >>= λ w. resume t ds plan (pushed_bound b bs) ((caller_of next fs.items m) ∷ stack_of m) w in
              same_simulates _ (begun_run t ds plan st fs.items (args_of fs.items m) >>= λ _. z)
              (λ s h. called_at t ds plan st fs.items (args_of fs.items m) (forms_fit plan.functions.items i fs.items at fits) c b bs (caller_of next fs.items m) (stack_of m) m'.operands.values s is (low_in h.steps turns) (h.array_names ∙ sym arrays))
              (then_simulates (λ _. z) (calls_simulate changes)
              (d.does (record { calls = c; turns = b.turns }) (pushed_bound b bs) (omega (arith, is, calls, less), omega (arith, turns, less))
              (pushed_above {b = b} {bs = bs} (above_less low p) (λ j. above_less low (q j)))))

      failed_rest : {h : Halt} → ChangesCalls (begin_call st.parameters f.height fs.items m) m.runtime m'.runtime (Err h) → Rest t ds plan is_logged (AtNode (n.Value (v.Call i fs) next)) m.operands.values (stack_of m) m.runtime k m'.runtime k (Err h)
      failed_rest {h = h} changes = record { does = λ b bs p q. by b.calls b bs refl p }
        where
          by : (c : ℕ) (b : Bound) (bs : Bounds) → b.calls ≡ c → IsAbove m.runtime.steps b
              → Simulates is_logged m.runtime k m'.runtime k (Err h) (begun t ds plan (AtNode (n.Value (v.Call i fs) next)) b m.operands.values >>= λ w. resume t ds plan bs (stack_of m) w)
          by zero b bs is p =
              let calls = p.0 in
              let z : Run Value = ret value.Nothing in
              let q : Value → Run Value = λ w. cont t ds plan b next (w ∷ drop (values_among fs.items) m.operands.values) in
              same_simulates _ (begun_run t ds plan st fs.items (args_of fs.items m) >>= λ _. z)
              (λ s r. assoc_at (call_run t ds plan st fs.items (args_of fs.items m) b) q (λ w. resume t ds plan bs (stack_of m) w) s
              ∙ called_stuck t ds plan st fs.items (args_of fs.items m) b (λ w. q w >>= λ x. resume t ds plan bs (stack_of m) x) z s (none_in r.steps calls is))
              (ends_simulates (λ _. z) (calls_simulate changes))
          by (suc c) b bs is p =
              let turns = p.1 in
              let z : Run Value = cont t ds plan (record { calls = c; turns = b.turns }) f.body m'.operands.values >>= λ w. resume t ds plan (pushed_bound b bs) ((caller_of next fs.items m) ∷ stack_of m) w in
              same_simulates _ (begun_run t ds plan st fs.items (args_of fs.items m) >>= λ _. z)
              (λ s r. called_at t ds plan st fs.items (args_of fs.items m) (forms_fit plan.functions.items i fs.items at fits) c b bs (caller_of next fs.items m) (stack_of m) m'.operands.values s is (low_in r.steps turns) (r.array_names ∙ sym arrays))
              (ends_simulates (λ _. z) (calls_simulate changes))

  pub call_on : {m m' : Machine} {k : WorldState} {body : ℕ} → BeginsCall f fs.items next m (Ok body) m' → Moves is_logged plan (AtNode (n.Value (v.Call i fs) next)) m k (move.Up body) m' k
  call_on {m = m} {m' = m'} {k = k} {body = body} x = record {
    moves = record {
      less = x.begins.1;
      leads = record {
        names = x.names;
        steps = x.steps;
        leads = λ tables ds stands new after r d.
            let t = tables_in m.runtime.names tables in
            let st = stands.functions i f at in
            entered_rest m m' k t ds refl st (x.changes st.parameters st.kinds) x.begins.1
            (subst (λ (es : List Entry). Rest t ds plan is_logged (AtPlace f.body) m'.operands.values es m'.runtime k new after r) x.begins.2
            (subst (λ j. Rest t ds plan is_logged (AtPlace j) m'.operands.values (stack_of m') m'.runtime k new after r) x.begins.0 d));
      };
    };
  }

  pub call_ends : {m m' : Machine} {k : WorldState} {h : Halt} → BeginsCall f fs.items next m (Err h) m' → Ends is_logged plan (AtNode (n.Value (v.Call i fs) next)) m k (Err h) m' k
  call_ends {m = m} {m' = m'} {k = k} x = record {
    idle = tt;
    ends = λ tables ds stands. let st = stands.functions i f at in failed_rest m m' k (tables_in m.runtime.names tables) ds refl st (x.changes st.parameters st.kinds);
  }
