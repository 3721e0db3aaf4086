-- A run over a plan, by what its places do.
use Rattle.std.specs.Prelude.{◌≡◌, ℕ, false, List, []}
use Rattle.awk_value.specs.declared.value.Value.{Value}
use Rattle.awk_grammar.specs.Tree.{Item}
use Rattle.awk_kinds.specs.definitions.Fits.{has_repeat, Fits}
use Rattle.awk_kinds.specs.definitions.Kinds.{definitions_of, array_names_of, function_names_of}
use Rattle.awk_kinds.specs.definitions.Signatures.{ProgramKinds, signature_names, kinds_of}
use Rattle.awk_semantics.specs.definitions.State.{Run, ◌>>=◌, ret}
use Rattle.awk_semantics.specs.definitions.Semantics.{choose}
use Rattle.awk_semantics.specs.definitions.Calls.{functions_within}
use Rattle.awk_semantics.specs.definitions.Items.{until_next, until_exit, run_records}
use Rattle.awk_semantics.specs.definitions.Meaning.{assign_all}
use Rattle.awk_resolve.specs.declared.plan.Plan.{Plan}
use Rattle.awk_resolve.specs.support.Nodes.{cont_at}
use Rattle.awk_resolve.specs.support.Plans.{tables_of, IsPlanOf}
use Rattle.awk_runtime.specs.support.Naming.{Naming}

-- the plan of this program, whose names a run has
pub record IsPlanFor (items : List Item) (plan : Plan) (names : Naming) : Type 0 where
  pub is : IsPlanOf items plan
  -- each function is defined once
  pub once : has_repeat (function_names_of items) ≡ false
  pub scalars : names.scalars ≡ plan.names
  pub eres : names.eres ≡ plan.eres.items
  pub arrays : names.arrays ≡ array_names_of items
  pub functions : names.functions ≡ function_names_of items

-- a program that fits, its plan, and the kinds of its names
pub record IsProgramOf (items : List Item) (plan : Plan) (kinds : ProgramKinds) : Type 0 where
  pub is : IsPlanOf items plan
  pub fits : Fits items
  pub named : kinds ≡ kinds_of items

pub record AreOfAProgram (plan : Plan) (kinds : ProgramKinds) : Type 0 where
  pub items : List Item
  pub is : IsProgramOf items plan kinds

-- the names of a plan's program
abbrev pub naming_of : Plan → ProgramKinds → Naming
naming_of plan kinds = record { scalars = plan.names; arrays = kinds.arrays; functions = signature_names kinds.functions; eres = plan.eres.items }

-- what the places of a plan do where no value is awaited, in a run of at most so many steps
abbrev pub place_in : List Item → Plan → (steps : ℕ) → ℕ → Run Value
place_in items plan n k = cont_at (tables_of items plan) (functions_within (definitions_of items) n) plan.heads.items plan.nodes.items n k []

module _ (at : ℕ → Run Value) where
  -- a part of the program, from its place
  unfoldable pub part_at : ℕ → Run (Unit {0})
  part_at k = at k >>= λ v. ret tt

  unfoldable pub run_before_end_at : Plan → Run (Unit {0})
  run_before_end_at plan = part_at plan.begin >>= λ _. choose plan.reads_records (run_records (until_next (part_at plan.rules))) (ret tt)

  unfoldable pub run_items_at : Plan → Run (Unit {0})
  run_items_at plan = until_exit (run_before_end_at plan) >>= λ _. part_at plan.end

  unfoldable pub assign_and_run_at : Plan → List (List ℕ × List ℕ) → Run (Unit {0})
  assign_and_run_at plan pre = assign_all pre >>= λ _. run_items_at plan
