-- The functions of a plan do what calls do, where each does what the place of its body does.
use Rattle.std.proofs.Common.{◌≡◌, ℕ, zero, suc, Bool, List, [], ◌∷◌, map, slice_get, unwrap_or, Option, Some, refl, sym, ap, ◌∙◌, subst}
use Rattle.std.specs.Option.{option_map}
use Rattle.awk_grammar.specs.Tree.{Item}
use Rattle.awk_kinds.specs.definitions.Kinds.{FormalParameter, Definition, definitions_of}
use Rattle.awk_kinds.specs.definitions.Signatures.{Signature, signature_by}
use Rattle.awk_semantics.specs.definitions.Calls.{definition_of, body_height, call_within}
use Rattle.awk_resolve.specs.declared.plan.Function.{Function as PlannedFunction}
use Rattle.awk_resolve.specs.declared.plan.Plan.{Plan}
use Rattle.awk_resolve.specs.support.Nodes.{function_at}
use Rattle.awk_resolve.specs.support.States.{LocalsFit}
use Rattle.awk_resolve.specs.support.Plans.{Meaning, IsFunction, AreFunctions, tables_of, DoesIn}
use Rattle.awk_resolve.proofs.Calling.{found, called}
use Rattle.awk_evaluator.specs.Rest.{PlanStands}
use Rattle.awk_runtime.specs.support.Naming.{Naming}
use Rattle.awk_run.specs.support.Planned.{IsPlanFor}

-- a planned function and its definition
record Planned (Does : List FormalParameter → ℕ → Meaning → Type 0) (ds : List Definition) (i : ℕ) (f : PlannedFunction) : Type 0 where
  pub definition : Definition
  pub at : slice_get ds i ≡ Some definition
  pub is : IsFunction Does f definition

planned_at : {Does : List FormalParameter → ℕ → Meaning → Type 0} (fs : List PlannedFunction) (ds : List Definition) (i : ℕ) (f : PlannedFunction) → AreFunctions Does fs ds → slice_get fs i ≡ Some f → Planned Does ds i f
planned_at [] ds i f h e = absurd (cc)
planned_at (g ∷ fs) [] i f h e = absurd h
planned_at {Does = Does} (g ∷ fs) (d ∷ ds) zero f h e = let same : g ≡ f = cc in record { definition = d; at = refl; is = subst (λ (x : PlannedFunction). IsFunction Does x d) same h.0 }
planned_at (g ∷ fs) (d ∷ ds) (suc i) f h e = let rest = planned_at fs ds i f h.1 e in record { definition = rest.definition; at = rest.at; is = rest.is }

signed_at : (ds : List Definition) (i : ℕ) (d : Definition) → slice_get ds i ≡ Some d → slice_get (map signature_by ds) i ≡ Some (signature_by d)
signed_at [] i d e = absurd (cc)
signed_at (c ∷ ds) zero d e = let same : c ≡ d = cc in ap (λ x. Some (signature_by x)) same
signed_at (c ∷ ds) (suc i) d e = signed_at ds i d e

pub plans_stand : {items : List Item} {plan : Plan} {names : Naming} → IsPlanFor items plan names → PlanStands (tables_of items plan) (definitions_of items) plan
plans_stand {items = items} {plan = plan} h = record {
  functions = λ i f e.
      let ds : List Definition = definitions_of items in
      let p : Planned (DoesIn items plan) ds i f = planned_at plan.functions.items ds i f h.is.functions e in
      let d : Definition = p.definition in
      let name : function_at (tables_of items plan) i ≡ d.name = ap (λ (o : Option Signature). unwrap_or (option_map (λ (x : Signature). x.name) o) []) (signed_at ds i d p.at) in
      record {
        parameters = d.parameters;
        kinds = sym p.is.arrays;
        height = ap (λ (x : List ℕ). body_height (definition_of ds x)) name ∙ (ap body_height (found ds i d h.once p.at) ∙ sym p.is.height);
        calls = λ n m given vs s fit low arrays. ap (λ (x : List ℕ). call_within ds (suc n) x given s) name ∙ called items plan h.is h.once i f d e p.at n m given vs s (subst (λ (bs : List Bool). LocalsFit bs given) p.is.arrays fit) low arrays;
      };
}
