-- The rules of a plan do nothing on records that they don't want, and these are passed over.
use Rattle.std.proofs.Common.{◌≡◌, ℕ, pos, false, List, [], ◌++◌, slice_get, Option, Some, None, Result, Ok, Err, IfSome, refl, sym, subst, ap, ◌∙◌, arith}
use Rattle.awk_value.specs.declared.value.Value.{Value}
use Rattle.awk_value.specs.declared.value.Value.TheVariants as value
use Rattle.awk_value.specs.Values.{truth_of}
use Rattle.awk_lex.specs.declared.token.Operator.TheVariants.{Matches}
use Rattle.awk_ere.specs.Tree.{Tree}
use Rattle.awk_streams.specs.WorldState.{WorldState}
use Rattle.awk_grammar.specs.Tree.{Item}
use Rattle.awk_kinds.specs.definitions.Kinds.{definitions_of}
use Rattle.awk_semantics.specs.declared.halt.Halt.{Halt}
use Rattle.awk_semantics.specs.definitions.State.{Frame, State, Out, Run, gives, go_on, ◌>>=◌, lift, ret}
use Rattle.awk_semantics.specs.definitions.Operators.{pattern_in, of_match, applied, truth_value}
use Rattle.awk_semantics.specs.definitions.Primitives.{read_field, without_calls, outside_calls}
use Rattle.awk_semantics.specs.definitions.Semantics.{choose}
use Rattle.awk_semantics.specs.definitions.Calls.{functions_within}
use Rattle.awk_semantics.specs.definitions.Items.{unless_next, until_next}
use Rattle.awk_functions.specs.Matched.{matched}
use Rattle.awk_resolve.specs.declared.plan.Plan.{Plan}
use Rattle.awk_resolve.specs.declared.node.Operand.TheVariants as operand
use Rattle.awk_resolve.specs.declared.node.Node.TheVariants as node
use Rattle.awk_resolve.specs.declared.node.ValueNode.TheVariants as v
use Rattle.awk_resolve.specs.support.Nodes.{Cont, IsOrdered, value_of, ere_at as ere_in}
use Rattle.awk_resolve.specs.support.Plans.{tables_of}
use Rattle.awk_resolve.proofs.Listed.{node_at}
use Rattle.awk_runtime.specs.declared.passing.Unwanted.{Unwanted}
use Rattle.awk_runtime.specs.declared.passing.Unwanted.TheVariants.{All as Every, Unmatched}
use Rattle.awk_runtime.specs.declared.runtime.Runtime.{Runtime}
use Rattle.awk_runtime.specs.support.Naming.{Naming, ere_at}
use Rattle.awk_runtime.specs.support.Simulation.{IsReady}
use Rattle.awk_runtime.specs.support.Passing.{IsUnwanted, PassesOver}
use Rattle.awk_run.specs.support.Planned.{IsPlanFor, place_in, part_at}
use Rattle.awk_run.specs.support.Follows.{IsSet}
use Rattle.awk_run.specs.support.Passing.{IsEnd, RulesIgnore, PassesOn, PassesFor}

-- runs that give a value and change nothing

gives_then : {A B : Type 0} (m : Run A) (f : A → Run B) (a : A) (b : B) (s : State) → m s ≡ gives a s → f a s ≡ gives b s → (m >>= f) s ≡ gives b s
unfolding ◌>>=◌ go_on
gives_then m f a b s e h = ap (λ o. go_on o.result o.state o.effects f) e ∙ ap (λ o. record { result = o.result; state = o.state; effects = [] ++ o.effects }) h

lift_gives : {A : Type 0} (r : Result A Halt) (a : A) (s : State) → r ≡ Ok a → lift r s ≡ gives a s
unfolding lift
lift_gives r a s e = ap (λ (x : Result _ Halt). record { result = x; state = s; effects = [] }) e

text_gives : (s : State) → read_field (pos 0) s ≡ gives (value.Input s.current.text) s
unfolding read_field
text_gives s = refl

-- a pattern that has no match
not_matched : (pattern : Result Tree Halt) (text : List ℕ) → matched pattern text ≡ Ok false → of_match (λ b. b) text pattern ≡ Ok (truth_value false)
not_matched (Ok t) text e = ap (λ b. Ok (truth_value b)) (let same : _ ≡ false = cc in same)
not_matched (Err reason) text e = absurd (cc)

module _ (items : List Item) (plan : Plan) (n : ℕ) (ordered : IsOrdered plan.nodes.items) where
  -- where nothing is left to be done
  end_gives : (k : ℕ) (s : State) → IsEnd plan k → place_in items plan n k s ≡ gives value.Nothing s
  unfolding lift
  end_gives k s is = ap (λ (c : Cont). c [] s) (node_at (tables_of items plan) (functions_within (definitions_of items) n) plan.heads.items plan.nodes.items n k node.End ordered is)

  -- an ERE that has no match in the record, and then nothing
  match_gives : (k ere here other : ℕ) (s : State) → slice_get plan.nodes.items k ≡ Some (node.Match (operand.Field 0) ere here other) → IsEnd plan other
      → matched (pattern_in (ere_in (tables_of items plan) ere)) s.current.text ≡ Ok false → place_in items plan n k s ≡ gives value.Nothing s
  match_gives k ere here other s is is_end none =
      let pattern : List ℕ = ere_in (tables_of items plan) ere in
      ap (λ (c : Cont). c [] s) (node_at (tables_of items plan) (functions_within (definitions_of items) n) plan.heads.items plan.nodes.items n k (node.Match (operand.Field 0) ere here other) ordered is)
      ∙ gives_then (value_of (tables_of items plan) (functions_within (definitions_of items) n) (v.Matches (operand.Field 0) ere) []) (λ x. choose (truth_of x) (place_in items plan n here) (place_in items plan n other)) (truth_value false) value.Nothing s
      (gives_then (read_field (pos 0)) (λ x. lift (applied Matches x (value.Text pattern))) (value.Input s.current.text) (truth_value false) s (text_gives s)
      (lift_gives (of_match (λ b. b) s.current.text (pattern_in pattern)) (truth_value false) s (not_matched (pattern_in pattern) s.current.text none)))
      (end_gives other s is_end)

-- a part of a run that gives a value and changes nothing, where no call is active
part_gives : (at : ℕ → Run Value) (k : ℕ) (v : Value) (s : State) → at k s ≡ gives v s → s.frames ≡ [] → until_next (part_at at k) s ≡ gives tt s
unfolding until_next part_at lift
part_gives at k v s e outside =
    ap (λ (o : Out (Unit {0})). record { result = unless_next o.result; state = outside_calls o.state; effects = o.effects }) (gives_then (at k) (λ w. ret tt) v tt s e refl)
    ∙ ap (λ (frames : List Frame). gives tt (without_calls frames s)) outside

-- what the rules of a plan ignore

-- no rule is tried
pub none_wanted : {plan : Plan} → IsEnd plan plan.rules → RulesIgnore plan Every
none_wanted {plan = plan} is = record {
  ignores = λ items names for n s outside unwanted. part_gives (place_in items plan n) plan.rules value.Nothing s (end_gives items plan n for.is.ordered plan.rules s is) outside;
}

-- the one rule has an ERE as its pattern
pub unmatched_unwanted : {plan : Plan} {ere here other : ℕ} → slice_get plan.nodes.items plan.rules ≡ Some (node.Match (operand.Field 0) ere here other) → IsEnd plan other → RulesIgnore plan (Unmatched ere)
unmatched_unwanted {plan = plan} {ere = ere} {here = here} {other = other} is is_end = record {
  ignores = λ items names for n s outside unwanted.
      part_gives (place_in items plan n) plan.rules value.Nothing s
      (match_gives items plan n for.is.ordered plan.rules ere here other s is is_end
      (subst (λ (eres : List (List ℕ)). matched (pattern_in (ere_at (record names { eres = eres }) ere)) s.current.text ≡ Ok false) for.eres unwanted)) outside;
}

-- what is passed over

module _ {is_logged : Type 0} where
  pub passes_some : {unwanted : Unwanted} {old new : Runtime} {k : WorldState} → (IsReady is_logged k old.streams → IsReady is_logged k new.streams)
      → (IsReady is_logged k old.streams → PassesOver is_logged (IsUnwanted old.names unwanted) old k new) → PassesFor is_logged (Some unwanted) old k new
  passes_some {old = old} {new = new} {k = k} ready over = record {
    passes = λ plan ignored set. passes_on plan ignored set (ready set.ready) (over set.ready);
  }
    where
      passes_on : {unwanted : Unwanted} {old new : Runtime} {k : WorldState} (plan : Plan) → RulesIgnore plan unwanted → IsSet is_logged plan old k → IsReady is_logged k new.streams
          → PassesOver is_logged (IsUnwanted old.names unwanted) old k new → PassesOn is_logged plan old k new
      passes_on {old = old} {new = new} {k = k} plan ignored set ready p = record {
        steps = p.steps;
        set = record { ready = ready; items = set.items; planned = subst (λ (names : Naming). IsPlanFor set.items plan names) (sym p.names) set.planned };
        on = λ last after r h. record {
          bounded = λ m low. record {
            steps = (let e = (h.bounded m (omega (arith, p.steps, low))).steps in omega (arith, e, p.steps));
            names = (h.bounded m (omega (arith, p.steps, low))).names ∙ p.names;
            told = λ items for n enough.
                p.goes_on (until_next (part_at (place_in items plan n) plan.rules)) (ignored.ignores items old.names for n) last after r
                (λ j least. (h.bounded j least).told items (subst (λ (names : Naming). IsPlanFor items plan names) (sym p.names) for) n (omega (arith, p.steps, enough))) m low;
          };
        };
      }

-- what was ignored still is, where it is passed over on
pub still_ignored : (plan : Plan) (unwanted left : Option Unwanted) → IfSome left (λ u. unwanted ≡ Some u) → IfSome unwanted (RulesIgnore plan) → IfSome left (RulesIgnore plan)
still_ignored plan unwanted None same ignored = tt
still_ignored plan unwanted (Some u) same ignored = subst (λ (x : Option Unwanted). IfSome x (RulesIgnore plan)) same ignored
