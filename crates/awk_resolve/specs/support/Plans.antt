-- What a plan is: from its places a run does what the items of its program mean.
use Rattle.std.specs.Prelude.{◌≡◌, ◌⊎◌, ℕ, ◌<◌, Bool, List, [], ◌∷◌, length, map, Some, None, Result, Ok, Err}
use Rattle.awk_lex.specs.declared.refusal.Refusal.{Refusal}
use Rattle.awk_lex.specs.Refused.{IsOutOfMemory}
use Rattle.awk_value.specs.declared.value.Value.{Value}
use Rattle.awk_value.specs.declared.value.Value.TheVariants as value
use Rattle.awk_grammar.specs.Tree.{Statements, Item}
use Rattle.awk_grammar.specs.Height.{height_of_block}
use Rattle.awk_kinds.specs.Names.{AreDistinct}
use Rattle.awk_kinds.specs.definitions.Kinds.{FormalParameter, Definition, definitions_of}
use Rattle.awk_kinds.specs.definitions.Fits.{first_refusal}
use Rattle.awk_kinds.specs.definitions.Signatures.{kinds_of}
use Rattle.awk_semantics.specs.definitions.State.{State, Run, ◌>>=◌, ret}
use Rattle.awk_semantics.specs.definitions.Semantics.{Functions, exec_all}
use Rattle.awk_semantics.specs.definitions.Calls.{returned}
use Rattle.awk_semantics.specs.definitions.Items.{has_rule, begin_items, try_items, end_items}
use Rattle.awk_resolve.specs.declared.plan.Function.{Function as PlannedFunction}
use Rattle.awk_resolve.specs.declared.plan.Plan.{Plan}
use Rattle.awk_resolve.specs.support.Nodes.{Tables, cont_at, IsOrdered, AllCallsFit}
use Rattle.awk_resolve.specs.support.States.{AreScalars, IsIn, AreFor}

-- what a place comes to, whatever lies on the stack there

abbrev pub Meaning : Type 0
Meaning = Functions → Run Value

-- a body ends with its statements; without `return`, it gives what was never assigned
abbrev pub body_run : Statements → Meaning
body_run all functions = exec_all functions all >>= λ f. ret (returned f)

-- the actions that come before all records
abbrev pub begin_run : List Item → Meaning
begin_run items functions = begin_items functions items >>= λ _. ret value.Nothing

-- items on a record, the first of which has this number
abbrev pub rules_run : ℕ → List Item → Meaning
rules_run n items functions = try_items functions n items >>= λ _. ret value.Nothing

-- the actions that come behind all records
abbrev pub end_run : List Item → Meaning
end_run items functions = end_items functions items >>= λ _. ret value.Nothing

-- functions by their places, where a place in a body with these parameters does this

abbrev pub Doing : Type 1
Doing = List FormalParameter → (place : ℕ) → Meaning → Type 0

module _ (Does : Doing) where
  pub record IsFunction (f : PlannedFunction) (d : Definition) : Type 0 where
    pub body : Does d.parameters f.body (body_run d.body)
    pub height : f.height ≡ height_of_block d.body
    pub arrays : f.arrays.items ≡ map (λ (p : FormalParameter). p.is_array) d.parameters

  abbrev pub AreFunctions : List PlannedFunction → List Definition → Type 0
  AreFunctions [] [] = Unit {0}
  AreFunctions (f ∷ fs) (d ∷ ds) = IsFunction f d × AreFunctions fs ds
  AreFunctions fs ds = ⊥

-- the plan of a program

-- which parameters of each function are arrays
abbrev pub array_parameters : List PlannedFunction → List (List Bool)
array_parameters functions = map (λ (f : PlannedFunction). f.arrays.items) functions

-- what the numbers in its nodes stand for
abbrev pub tables_of : List Item → Plan → Tables
tables_of items plan = record { names = plan.names; eres = plan.eres.items; arrays = (kinds_of items).arrays; functions = (kinds_of items).functions }

-- a place does this, in each state in which a body with these parameters runs
pub record DoesIn (items : List Item) (plan : Plan) (parameters : List FormalParameter) (place : ℕ) (m : Meaning) : Type 0 where
  pub below : place < length plan.nodes.items
  pub is : (functions : Functions) → AreFor (tables_of items plan) functions → (n : ℕ) (vs : List Value) (s : State) → IsIn (tables_of items plan) parameters n s
      → cont_at (tables_of items plan) functions plan.heads.items plan.nodes.items n place vs s ≡ m functions s

pub record IsPlanOf (items : List Item) (plan : Plan) : Type 0 where
  pub ordered : IsOrdered plan.nodes.items
  pub calls : AllCallsFit (array_parameters plan.functions.items) plan.nodes.items
  -- each scalar has one slot, and none of them is one of awk's own
  pub distinct : AreDistinct plan.names
  pub scalars : AreScalars plan.names
  pub functions : AreFunctions (DoesIn items plan) plan.functions.items (definitions_of items)
  pub begin : DoesIn items plan [] plan.begin (begin_run items)
  pub rules : DoesIn items plan [] plan.rules (rules_run 0 items)
  pub end : DoesIn items plan [] plan.end (end_run items)
  pub reads : plan.reads_records ≡ has_rule items

-- a plan exactly where nothing is told against the names of the program and where its statements stand; else the first
-- cause that holds, or that memory was refused
abbrev pub ResolvesTo : List Item → Result Plan Refusal → Type 0
ResolvesTo items (Ok plan) = (first_refusal items ≡ None) × IsPlanOf items plan × (plan.kinds ≡ kinds_of items)
ResolvesTo items (Err refusal) = IsOutOfMemory refusal ⊎ ((first_refusal items ≡ Some refusal.code) × (refusal.line ≡ 1))
