-- What the assignments before a run do, and how a run begins.
use Rattle.std.specs.Prelude.{◌≡◌, ℕ, List, [], Result}
use Rattle.awk_streams.specs.WorldState.{WorldState}
use Rattle.awk_streams.specs.Oracle.{Oracle}
use Rattle.awk_grammar.specs.Tree.{Item}
use Rattle.awk_semantics.specs.declared.halt.Halt.{Halt}
use Rattle.awk_semantics.specs.definitions.Meaning.{StartValues, start_state, assign_all}
use Rattle.awk_runtime.specs.declared.runtime.Runtime.{Runtime}
use Rattle.awk_runtime.specs.support.Simulation.{StateRelation, Changes}
use Rattle.std.specs.Global.{Vec}
use Rattle.awk_runtime.specs.declared.start.Assignment.{Assignment}
use Rattle.awk_runtime.specs.support.Beginning.{start_of, IsStart}
use Rattle.awk_runtime.specs.support.Naming.{Naming}
use Rattle.awk_evaluator.specs.declared.machine.Machine.{Machine}
use Rattle.awk_run.specs.definitions.Runs.{IsUntouched}
use Rattle.awk_evaluator.specs.Moves.{IsIdle}
use Rattle.awk_run.specs.support.Verdict.{no_streams}

-- the assignments before a run
pub record Assigns (all : List (List ℕ × List ℕ)) (old new : Runtime) (r : Result (Unit {0}) Halt) : Type 0 where
  pub changes : Changes (assign_all all) old new r

-- the machine before a run
pub record IsFirst (naming : Naming) (operands : List (Vec ℕ)) (environ : List Assignment) (limit : ℕ) (m : Machine) : Type 0 where
  pub idle : IsIdle m
  pub start : IsStart naming (start_of operands environ) limit m.runtime

-- the state before a run of these items
pub record Begins (items : List Item) (start : StartValues) (limit : ℕ) (m : Runtime) : Type 0 where
  pub streams : m.streams ≡ no_streams
  pub steps : m.steps ≡ limit
  pub stands : (oracle : Oracle) (k : WorldState) → IsUntouched k → StateRelation oracle m k (start_state items start oracle limit) []
