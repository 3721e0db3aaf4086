-- What the lowering builds: from a place, what a part of the program means, whatever is built later.
use Rattle.std.specs.Prelude.{◌≡◌, ◌≢◌, ℕ, suc, ◌<◌, ◌≤◌, Bool, true, false, List, [], ◌∷◌, ◌++◌, map, drop, get_or, length, reverse, Option, Some, None}
use Rattle.std.specs.Global.{Vec}
use Rattle.awk_value.specs.declared.value.Value.{Value}
use Rattle.awk_value.specs.declared.value.Value.TheVariants as value
use Rattle.awk_value.specs.Values.{truth_of}
use Rattle.awk_grammar.specs.Tree.{Expr, Ere, Element, Field, Exprs, Nil, Cons, OptionalExpr, NoExpr, AnExpr, Statement, Statements, OptionalSimple}
use Rattle.awk_kinds.specs.Names.{IsFront, with_name, Numbers}
use Rattle.awk_kinds.specs.definitions.Kinds.{FormalParameter}
use Rattle.awk_kinds.specs.definitions.Signatures.{Signature, ProgramKinds}
use Rattle.awk_semantics.specs.declared.flow.Flow.{Flow}
use Rattle.awk_semantics.specs.declared.flow.Flow.TheVariants as flow
use Rattle.awk_semantics.specs.definitions.State.{State, Run, ◌>>=◌, ret, gives}
use Rattle.awk_semantics.specs.definitions.Primitives.{number_of, read_name, put, array_number, is_array}
use Rattle.awk_semantics.specs.definitions.Places as target
use Rattle.awk_semantics.specs.definitions.BuiltIns.{Role, AsArray, next_role}
use Rattle.awk_semantics.specs.definitions.Semantics.{Functions, choose, eval, place_of, eval_all, key_of, exec, exec_all, exec_part, goes_on}
use Rattle.awk_storage.specs.declared.position.Variable.{Variable}
use Rattle.awk_storage.specs.declared.position.Array.{Array}
use Rattle.awk_storage.specs.support.Positions.{number_at, read_variable, put_variable, read_at, store_at}
use Rattle.awk_storage.specs.declared.position.Place.{Place}
use Rattle.awk_resolve.specs.declared.node.Node.{Node}
use Rattle.awk_resolve.specs.declared.node.Operand.{Operand}
use Rattle.awk_resolve.specs.declared.builder.Builder.{Builder}
use Rattle.awk_resolve.specs.declared.builder.Exits.{Exits}
pub use Rattle.awk_resolve.specs.support.States.{IsScalar, AreScalars, IsIn, AreFor}
use Rattle.awk_resolve.specs.support.Nodes.{Tables, Cont, operand_value, first, operands, made, level, cont_at, IsOrdered, CallsFit, AllCallsFit}

-- which parameters of the functions are arrays

abbrev pub arrays_among : List FormalParameter → List Bool
arrays_among parameters = map (λ (p : FormalParameter). p.is_array) parameters

abbrev pub array_parameters_in : Builder → List (List Bool)
array_parameters_in b = map (λ (v : Vec Bool). v.items) b.array_parameters.items

-- building

pub record Grows (old new : Builder) : Type 0 where
  pub more : List Node
  pub is : new.nodes.items ≡ old.nodes.items ++ more
  pub ordered : IsOrdered old.nodes.items → IsOrdered new.nodes.items
  pub functions : new.array_parameters ≡ old.array_parameters
  pub calls : AllCallsFit (array_parameters_in old) old.nodes.items → AllCallsFit (array_parameters_in new) new.nodes.items
  -- a loop whose body stands keeps it
  pub heads : (i k : ℕ) → get_or old.heads.items i 0 ≡ suc k → get_or new.heads.items i 0 ≡ suc k
  -- slots and numbers stay
  pub names : IsFront old.names new.names
  pub eres : IsFront old.eres.items new.eres.items
  pub scalars : AreScalars old.names → AreScalars new.names

-- what nodes tell by numbers stays as it is
pub record SameTables (old new : Builder) : Type 0 where
  pub names : new.names ≡ old.names
  pub eres : new.eres ≡ old.eres
  pub functions : new.array_parameters ≡ old.array_parameters

pub record Pushes (old new : Builder) (node : Node) (place : ℕ) : Type 0 where
  pub nodes : new.nodes.items ≡ old.nodes.items ++ node ∷ []
  pub calls : CallsFit (array_parameters_in old) node
  pub last : place ≡ length old.nodes.items
  pub heads : new.heads ≡ old.heads
  pub same : SameTables old new

pub record Opens (old new : Builder) (number : ℕ) : Type 0 where
  pub nodes : new.nodes ≡ old.nodes
  pub heads : new.heads.items ≡ old.heads.items ++ 0 ∷ []
  pub last : number ≡ length old.heads.items
  pub same : SameTables old new

pub record Closes (old new : Builder) (number body : ℕ) : Type 0 where
  pub nodes : new.nodes ≡ old.nodes
  pub here : get_or new.heads.items number 0 ≡ body
  pub others : (i : ℕ) → i ≢ number → get_or new.heads.items i 0 ≡ get_or old.heads.items i 0
  pub long : length new.heads.items ≡ length old.heads.items
  pub same : SameTables old new

pub record AddsName (old new : Builder) (slot : ℕ) (name : List ℕ) : Type 0 where
  pub nodes : new.nodes ≡ old.nodes
  pub heads : new.heads ≡ old.heads
  pub numbers : Numbers old.names new.names slot name
  pub names : new.names ≡ with_name old.names name
  pub eres : new.eres ≡ old.eres
  pub functions : new.array_parameters ≡ old.array_parameters

pub record AddsEre (old new : Builder) (number : ℕ) (text : List ℕ) : Type 0 where
  pub nodes : new.nodes ≡ old.nodes
  pub heads : new.heads ≡ old.heads
  pub names : new.names ≡ old.names
  pub eres : new.eres.items ≡ old.eres.items ++ text ∷ []
  pub last : number ≡ length old.eres.items
  pub functions : new.array_parameters ≡ old.array_parameters

-- loops that were open keep their heads
pub record Extends (old new : Builder) : Type 0 where
  pub grows : Grows old new
  pub kept : (i : ℕ) → i < length old.heads.items → get_or new.heads.items i 0 ≡ get_or old.heads.items i 0
  pub long : length old.heads.items ≤ length new.heads.items

-- where names stand

-- a whole program: all that is built of it, what the numbers in its nodes stand for, and what its calls do
pub record Program (kinds : ProgramKinds) : Type 0 where
  pub all : Builder
  pub tables : Tables
  pub functions : Functions
  pub names : IsFront all.names tables.names
  pub eres : IsFront all.eres.items tables.eres
  pub arrays : tables.arrays ≡ kinds.arrays
  pub signatures : tables.functions ≡ kinds.functions
  pub parameters : array_parameters_in all ≡ map (λ (f : Signature). arrays_among f.parameters) kinds.functions
  pub calls : AreFor tables functions

-- a variable is what a name stands for in a body with these parameters, now and later
pub record IsVariableOf (kinds : ProgramKinds) (parameters : List FormalParameter) (b : Builder) (v : Variable) (x : List ℕ) : Type 0 where
  pub reads : (p : Program kinds) → Grows b p.all → (n : ℕ) (s : State) → IsIn p.tables parameters n s → read_name x s ≡ read_variable p.tables.names v s
  pub puts : (p : Program kinds) → Grows b p.all → (n : ℕ) (w : Value) (s : State) → IsIn p.tables parameters n s → put x w s ≡ put_variable p.tables.names v w s

-- the variable of a name is found, or the name gets a slot
pub record FindsVariable (kinds : ProgramKinds) (parameters : List FormalParameter) (old new : Builder) (v : Variable) (x : List ℕ) : Type 0 where
  pub extends : Extends old new
  pub is : IsVariableOf kinds parameters new v x

-- an operand that is read where it stands is what an expression is, now and later
pub record IsOperandOf (kinds : ProgramKinds) (parameters : List FormalParameter) (b : Builder) (a : Operand) (e : Expr) : Type 0 where
  pub is : (p : Program kinds) → Grows b p.all → (n : ℕ) (s : State) → IsIn p.tables parameters n s → operand_value p.tables.names a s ≡ eval p.functions e s

pub record FindsAnOperand (kinds : ProgramKinds) (parameters : List FormalParameter) (old new : Builder) (a : Operand) (e : Expr) : Type 0 where
  pub extends : Extends old new
  pub is : IsOperandOf kinds parameters new a e

-- operands are what the expressions of a list are, in their order
abbrev pub AreOperandsOf : (kinds : ProgramKinds) (parameters : List FormalParameter) (b : Builder) → List Operand → Exprs → Type 0
AreOperandsOf kinds parameters b [] Nil = Unit {0}
AreOperandsOf kinds parameters b [] (Cons e es) = ⊥
AreOperandsOf kinds parameters b (a ∷ rest) Nil = ⊥
AreOperandsOf kinds parameters b (a ∷ rest) (Cons e es) = IsOperandOf kinds parameters b a e × AreOperandsOf kinds parameters b rest es

pub record FindsEachOperand (kinds : ProgramKinds) (parameters : List FormalParameter) (old new : Builder) (list : List Operand) (es : Exprs) : Type 0 where
  pub extends : Extends old new
  pub are : AreOperandsOf kinds parameters new list es

-- an array is what a name stands for in a body with these parameters
pub record IsArrayOf (kinds : ProgramKinds) (parameters : List FormalParameter) (a : Array) (x : List ℕ) : Type 0 where
  pub is : (p : Program kinds) (n : ℕ) (s : State) → IsIn p.tables parameters n s → array_number s x ≡ number_at a s

-- whether a name stands for an array in a body with these parameters
pub record IsOfKind (kinds : ProgramKinds) (parameters : List FormalParameter) (b : Bool) (x : List ℕ) : Type 0 where
  pub is : (p : Program kinds) (n : ℕ) (s : State) → IsIn p.tables parameters n s → is_array x s ≡ gives b s

-- the array that a name stands for there, if it stands for one
abbrev pub NamesArray : (kinds : ProgramKinds) (parameters : List FormalParameter) → Option Array → (x : List ℕ) → Type 0
NamesArray kinds parameters (Some a) x = IsArrayOf kinds parameters a x × IsOfKind kinds parameters true x
NamesArray kinds parameters None x = IsOfKind kinds parameters false x

-- what a place does, from what others do

-- the key of an element as a value: a single subscript stays what it is
abbrev pub key_value : Functions → Exprs → Run Value
key_value functions (Cons e Nil) = eval functions e
key_value functions es = key_of functions [] es >>= λ key. ret (value.Text key)

-- what lies on the stack for a place
abbrev pub with_operand : Functions → Expr → (List Value → Run Value) → List Value → Run Value
with_operand functions (Element x es) k vs = key_value functions es >>= λ v. k (v ∷ vs)
with_operand functions (Field e) k vs = eval functions e >>= λ v. number_of v >>= λ n. k (value.Number n ∷ vs)
with_operand functions e k vs = k vs

-- what lies on the stack for the place of a `getline`
abbrev pub with_optional_operand : Functions → OptionalExpr → (List Value → Run Value) → List Value → Run Value
with_optional_operand functions NoExpr k vs = k vs
with_optional_operand functions (AnExpr p) k vs = with_operand functions p k vs

abbrev pub with_optional : Functions → OptionalExpr → (List Value → Run Value) → List Value → Run Value
with_optional functions NoExpr k vs = k vs
with_optional functions (AnExpr e) k vs = eval functions e >>= λ v. k (v ∷ vs)

-- what lies on the stack for a pattern
abbrev pub with_pattern : Functions → Expr → (List Value → Run Value) → List Value → Run Value
with_pattern functions (Ere text) k vs = k vs
with_pattern functions e k vs = eval functions e >>= λ v. k (v ∷ vs)

-- what lies on the stack for an argument of a call
abbrev pub with_argument : Role → Run Value → (List Value → Run Value) → List Value → Run Value
with_argument AsArray evaluated k vs = k vs
with_argument r evaluated k vs = evaluated >>= λ v. k (v ∷ vs)

abbrev pub with_arguments : Functions → List Role → Exprs → (List Value → Run Value) → List Value → Run Value
with_arguments functions roles Nil k vs = k vs
with_arguments functions roles (Cons e es) k vs = with_argument (next_role roles) (eval functions e) (with_arguments functions (drop 1 roles) es k) vs

pub data Part : Type 0 where
  -- an expression's value is put on the stack
  Evaluate : (e : Expr) (next : ℕ) → Part
  -- the values of a list are put on it, in their order
  EvaluateAll : (es : Exprs) (next : ℕ) → Part
  -- the key of an element
  EvaluateKey : (es : Exprs) (next : ℕ) → Part
  -- what a place needs is evaluated
  EvaluateOperand : (p : Expr) (next : ℕ) → Part
  EvaluateOptionalOperand : (p : OptionalExpr) (next : ℕ) → Part
  EvaluateOptional : (e : OptionalExpr) (next : ℕ) → Part
  EvaluateUnlessEre : (e : Expr) (next : ℕ) → Part
  -- the arguments of a call that are values
  EvaluateArguments : (roles : List Role) (es : Exprs) (next : ℕ) → Part
  -- an expression is tested
  Decide : (e : Expr) (here other : ℕ) → Part
  -- a condition that may be left out
  DecideOptional : (e : OptionalExpr) (here other : ℕ) → Part
  Execute : (s : Statement) (exits : Exits) → Part
  ExecuteAll : (all : Statements) (exits : Exits) → Part
  -- an outer part of a `for`
  ExecutePart : (part : OptionalSimple) (next : ℕ) → Part

abbrev pub leave : Flow → (next breaks continues : Run Value) → Run Value
leave flow.Normal next breaks continues = next
leave flow.Break next breaks continues = breaks
leave flow.Continue next breaks continues = continues
leave (flow.Return v) next breaks continues = ret v

abbrev pub leave_by : Exits → (ℕ → Cont) → List Value → Flow → Run Value
leave_by exits at vs f = leave f (at exits.next vs) (at exits.breaks vs) (at exits.continues vs)

abbrev pub does : Part → Functions → (ℕ → Cont) → Cont
does (Evaluate e next) functions at = λ vs. eval functions e >>= λ v. at next (v ∷ vs)
does (EvaluateAll es next) functions at = λ vs. eval_all functions [] es >>= λ ws. at next (reverse ws ++ vs)
does (EvaluateKey es next) functions at = λ vs. key_value functions es >>= λ v. at next (v ∷ vs)
does (EvaluateOperand p next) functions at = λ vs. with_operand functions p (at next) vs
does (EvaluateOptionalOperand p next) functions at = λ vs. with_optional_operand functions p (at next) vs
does (EvaluateOptional e next) functions at = λ vs. with_optional functions e (at next) vs
does (EvaluateUnlessEre e next) functions at = λ vs. with_pattern functions e (at next) vs
does (EvaluateArguments roles es next) functions at = λ vs. with_arguments functions roles es (at next) vs
does (Decide e here other) functions at = λ vs. eval functions e >>= λ v. choose (truth_of v) (at here vs) (at other vs)
does (DecideOptional e here other) functions at = λ vs. goes_on functions e >>= λ b. choose b (at here vs) (at other vs)
does (Execute s exits) functions at = λ vs. exec functions s >>= λ f. leave_by exits at vs f
does (ExecuteAll all exits) functions at = λ vs. exec_all functions all >>= λ f. leave_by exits at vs f
does (ExecutePart part next) functions at = λ vs. exec_part functions part >>= λ _. at next vs

-- a place of the language and a position are the same, with this value for the position's operand
pub record IsAt {kinds : ProgramKinds} (p : Program kinds) (parameters : List FormalParameter) (t : target.Place) (place : Place) (operand : Value) : Type 0 where
  pub reads : (n : ℕ) (s : State) → IsIn p.tables parameters n s → target.read_place t s ≡ read_at p.tables.names place operand s
  pub stores : (n : ℕ) (w : Value) (s : State) → IsIn p.tables parameters n s → target.store t w s ≡ store_at p.tables.names place operand w s

-- a position is the place that an expression is: to evaluate the place is to put its operand on the stack
pub record IsPlaceOf (kinds : ProgramKinds) (parameters : List FormalParameter) (b : Builder) (place : Place) (e : Expr) : Type 0 where
  pub is : (p : Program kinds) → Grows b p.all → (f : target.Place → Run Value) (k : Cont) (n : ℕ) (vs : List Value) (s : State) → IsIn p.tables parameters n s
      → ((t : target.Place) (ws : List Value) (u : State) → IsIn p.tables parameters n u → IsAt p parameters t place (first ws) → drop (operands place) ws ≡ vs → f t u ≡ k ws u)
      → (place_of p.functions e >>= f) s ≡ with_operand p.functions e k vs s

pub record FindsPlace (kinds : ProgramKinds) (parameters : List FormalParameter) (old new : Builder) (place : Place) (e : Expr) : Type 0 where
  pub extends : Extends old new
  pub is : IsPlaceOf kinds parameters new place e

abbrev pub FindsOptionalPlace : (kinds : ProgramKinds) (parameters : List FormalParameter) (old new : Builder) → Option Place → OptionalExpr → Type 0
FindsOptionalPlace kinds parameters old new None NoExpr = new ≡ old
FindsOptionalPlace kinds parameters old new None (AnExpr p) = ⊥
FindsOptionalPlace kinds parameters old new (Some place) NoExpr = ⊥
FindsOptionalPlace kinds parameters old new (Some place) (AnExpr p) = FindsPlace kinds parameters old new place p

abbrev pub place_in : {kinds : ProgramKinds} → Program kinds → ℕ → ℕ → Cont
place_in p n = cont_at p.tables p.functions p.all.heads.items p.all.nodes.items n

abbrev pub turns_in : {kinds : ProgramKinds} → Program kinds → ℕ → ℕ → Cont
turns_in p n = level p.tables p.functions p.all.heads.items p.all.nodes.items n

-- the node at a place, now and later
pub record Places (kinds : ProgramKinds) (old new : Builder) (place : ℕ) (node : Node) : Type 0 where
  pub extends : Extends old new
  pub below : place < length new.nodes.items
  pub fresh : place ≡ length old.nodes.items
  pub is : (p : Program kinds) → Grows new p.all → (n : ℕ) → place_in p n place ≡ made p.tables p.functions (turns_in p n) (place_in p n) node

-- a part of a body with these parameters is built: from its place it is done, now and later
pub record Builds (kinds : ProgramKinds) (parameters : List FormalParameter) (old new : Builder) (place : ℕ) (part : Part) : Type 0 where
  pub extends : Extends old new
  pub below : place < length new.nodes.items
  pub pos : 0 < place
  pub is : (p : Program kinds) → Grows new p.all → (n : ℕ) (vs : List Value) (s : State) → IsIn p.tables parameters n s → place_in p n place vs s ≡ does part p.functions (place_in p n) vs s

-- a place that something may go on at
pub record Stands (place : ℕ) (b : Builder) : Type 0 where
  pub below : place < length b.nodes.items
  pub pos : 0 < place

pub record ExitsStand (exits : Exits) (b : Builder) : Type 0 where
  pub next : Stands exits.next b
  pub breaks : Stands exits.breaks b
  pub continues : Stands exits.continues b
