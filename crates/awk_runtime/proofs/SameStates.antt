-- What is done between states that the definitions see as the same.
use Rattle.std.proofs.Common.{◌≡◌, List, Result, Ok, sym, ◌∙◌, subst, arith}
use Rattle.awk_streams.specs.WorldState.{WorldState}
use Rattle.awk_streams.specs.Oracle.{Oracle}
use Rattle.awk_streams.specs.Streams.{StreamsView}
use Rattle.awk_semantics.specs.declared.halt.Halt.{Halt}
use Rattle.awk_semantics.specs.State.{Effect, State, Run}
use Rattle.awk_runtime.specs.declared.runtime.Runtime.{Runtime}
use Rattle.awk_runtime.specs.support.Simulation.{StreamsRelation, StateRelation, Simulates, SameState}
use Rattle.awk_runtime.proofs.Steps.{beside_holds}

pub stands_beside : {oracle : Oracle} {old new : Runtime} {k : WorldState} {s : State} {past : List Effect} → SameState old new → StateRelation oracle old k s past → StateRelation oracle new k s past
stands_beside {oracle = oracle} {k = k} {s = s} {past = past} same stands = record {
  clear = stands.clear;
  streams = subst (λ (v : StreamsView). StreamsRelation oracle v k s past) (sym same.streams) stands.streams;
  holds = beside_holds same.beside stands.holds;
}

-- a run behind such a change
pub simulates_behind : {A : Type 0} {is_logged : Type 0} {old mid new : Runtime} {before after : WorldState} {r : Result A Halt} {run : Run A} → SameState old mid → Simulates is_logged mid before new after r run → Simulates is_logged old before new after r run
simulates_behind same p = record {
  steps = omega (arith, same.beside.steps, p.steps);
  names = p.names ∙ same.beside.names;
  told = λ t. record {
    grows = (p.told t).grows;
    means = λ oracle s past consistent stands. (p.told t).means oracle s past consistent (stands_beside same stands);
  };
}

-- and before one
pub simulates_before : {A : Type 0} {is_logged : Type 0} {old mid new : Runtime} {before after : WorldState} {a : A} {run : Run A} → Simulates is_logged old before mid after (Ok a) run → SameState mid new → Simulates is_logged old before new after (Ok a) run
simulates_before p same = record {
  steps = omega (arith, same.beside.steps, p.steps);
  names = same.beside.names ∙ p.names;
  told = λ t. record {
    grows = (p.told t).grows;
    means = λ oracle s past consistent stands. let h = (p.told t).means oracle s past consistent stands in (h.0, stands_beside same h.1);
  };
}

-- two such changes
pub both_same : {old mid new : Runtime} → SameState old mid → SameState mid new → SameState old new
both_same first last =
    let a = first.beside in
    let b = last.beside in
    record {
      beside = record {
        names = b.names ∙ a.names;
        current = b.current ∙ a.current;
        specials = b.specials ∙ a.specials;
        globals = b.globals ∙ a.globals;
        arrays = b.arrays ∙ a.arrays;
        frames = b.frames ∙ a.frames;
        next = b.next ∙ a.next;
        input_seen = b.input_seen ∙ a.input_seen;
        inside = b.inside ∙ a.inside;
        status = b.status ∙ a.status;
        steps = b.steps ∙ a.steps;
      };
      streams = last.streams ∙ first.streams;
    }
