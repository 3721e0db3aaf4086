-- What places of a program hold while it is lowered, whatever is built later.
use Rattle.std.specs.Prelude.{◌≡◌, ℕ, true, false, List, []}
use Rattle.awk_value.specs.declared.value.Value.{Value}
use Rattle.awk_grammar.specs.Tree as g
use Rattle.awk_kinds.specs.definitions.Kinds.{FormalParameter, Definition}
use Rattle.awk_kinds.specs.definitions.Placed.{Place, block_fits}
use Rattle.awk_kinds.specs.definitions.Signatures.{ProgramKinds}
use Rattle.awk_semantics.specs.definitions.State.{State, Run, ◌>>=◌}
use Rattle.awk_semantics.specs.definitions.Semantics.{Functions, choose}
use Rattle.awk_semantics.specs.definitions.Items.{selects}
use Rattle.awk_resolve.specs.declared.builder.Builder.{Builder}
use Rattle.awk_resolve.specs.declared.plan.Function.{Function}
use Rattle.awk_resolve.specs.support.Nodes.{nothing}
use Rattle.awk_resolve.specs.support.Plans.{Meaning, IsFunction, AreFunctions}
use Rattle.awk_resolve.specs.support.Builds.{Grows, IsIn, Program, place_in, Stands}

-- a place does this, now and later
pub record Holds (kinds : ProgramKinds) (b : Builder) (parameters : List FormalParameter) (place : ℕ) (m : Meaning) : Type 0 where
  pub stands : Stands place b
  pub is : (p : Program kinds) → Grows b p.all → (n : ℕ) (vs : List Value) (s : State) → IsIn p.tables parameters n s → place_in p n place vs s ≡ m p.functions s

-- a place at which nothing is left to be done
pub record IsOver (kinds : ProgramKinds) (place : ℕ) (b : Builder) : Type 0 where
  pub stands : Stands place b
  pub is : (p : Program kinds) → Grows b p.all → (n : ℕ) → place_in p n place ≡ nothing

-- statements that may stand in an action: there is no `return` among them
pub record IsAction (all : g.Statements) : Type 0 where
  pub place : Place
  pub outside : place.a_function ≡ false
  pub fits : block_fits place all ≡ true

-- what is added to what was built

pub record AddsEnd (kinds : ProgramKinds) (old new : Builder) (place : ℕ) : Type 0 where
  pub grows : Grows old new
  pub over : IsOver kinds place new

pub record AddsPlace (kinds : ProgramKinds) (old new : Builder) (parameters : List FormalParameter) (place : ℕ) (m : Meaning) : Type 0 where
  pub grows : Grows old new
  pub holds : Holds kinds new parameters place m

-- from a place a part is done, and what follows it
pub record Passes (kinds : ProgramKinds) (old new : Builder) (place : ℕ) (part : Functions → Run (Unit {0})) (next : ℕ) : Type 0 where
  pub grows : Grows old new
  pub stands : Stands place new
  pub is : (p : Program kinds) → Grows new p.all → (n : ℕ) (vs : List Value) (s : State) → IsIn p.tables [] n s → place_in p n place vs s ≡ (part p.functions >>= λ _. place_in p n next vs) s

-- from a place a pattern is asked, by the number of its item, and it goes on at one place where that selects the record, and else at the other
pub record Selects (kinds : ProgramKinds) (old new : Builder) (place number : ℕ) (pattern : g.Pattern) (here other : ℕ) : Type 0 where
  pub grows : Grows old new
  pub stands : Stands place new
  pub is : (p : Program kinds) → Grows new p.all → (n : ℕ) (vs : List Value) (s : State) → IsIn p.tables [] n s
      → place_in p n place vs s ≡ (selects p.functions number pattern >>= λ x. choose x (place_in p n here vs) (place_in p n other vs)) s

-- a function with these parameters and this body, whatever its name is
pub record AddsBody (kinds : ProgramKinds) (old new : Builder) (made : Function) (parameters : List FormalParameter) (all : g.Statements) : Type 0 where
  pub grows : Grows old new
  pub is : (name : List ℕ) → IsFunction (Holds kinds new) made (record { name = name; parameters = parameters; body = all })

pub record AddsFunctions (kinds : ProgramKinds) (old new : Builder) (made : List Function) (ds : List Definition) : Type 0 where
  pub grows : Grows old new
  pub are : AreFunctions (Holds kinds new) made ds
