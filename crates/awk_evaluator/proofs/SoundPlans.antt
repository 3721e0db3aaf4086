-- The plan of a program is sound.
use Rattle.std.proofs.Common.{◌≡◌, ℕ, zero, suc, ◌<◌, List, [], ◌∷◌, slice_get, Some, subst, arith}
use Rattle.awk_grammar.specs.Tree.{Item}
use Rattle.awk_kinds.specs.Kinds.{FormalParameter, Definition, definitions_of}
use Rattle.awk_resolve.specs.declared.plan.Function.{Function as PlannedFunction}
use Rattle.awk_resolve.specs.declared.plan.Plan.{Plan}
use Rattle.awk_resolve.specs.Plans.{Meaning, AreFunctions, DoesIn, IsPlanOf}
use Rattle.awk_evaluator.specs.Rest.{IsSound}

-- a body is a node above its statements
bodies_are_high : (Does : List FormalParameter → ℕ → Meaning → Type 0) (fs : List PlannedFunction) (ds : List Definition) → AreFunctions Does fs ds → (i : ℕ) (f : PlannedFunction) → slice_get fs i ≡ Some f → 0 < f.height
bodies_are_high Does [] ds are i f e = cc
bodies_are_high Does (g ∷ fs) [] are i f e = absurd are
bodies_are_high Does (g ∷ fs) (d ∷ ds) are zero f e =
    let same : g ≡ f = cc in
    let height = are.0.height in
    subst (λ (h : PlannedFunction). 0 < h.height) same (omega (arith, height))
bodies_are_high Does (g ∷ fs) (d ∷ ds) are (suc i) f e = bodies_are_high Does fs ds are.1 i f e

pub plans_are_sound : (items : List Item) (plan : Plan) → IsPlanOf items plan → IsSound plan
plans_are_sound items plan is = record { ordered = is.ordered; calls = is.calls; high = bodies_are_high (DoesIn items plan) plan.functions.items (definitions_of items) is.functions }
