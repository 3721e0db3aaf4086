-- How a run begins: the names of its plan, its machine, and the state of the definitions.
use Rattle.std.proofs.Common.{◌≡◌, ◌≢◌, codes, ℕ, Bool, true, false, List, [], ◌∷◌, map, bytes_eq, refl, sym, ap, ◌∙◌, subst}
use Rattle.std.specs.Global.{Vec}
use Rattle.std.proofs.lemmas.Slice.Eq.{bytes_eq-Decides}
use Rattle.awk_streams.specs.Streams.{StreamsView, AreSound}
use Rattle.awk_streams.specs.WorldState.{WorldState}
use Rattle.awk_grammar.specs.Tree.{Item}
use Rattle.awk_lex.specs.declared.refusal.RefusalCode.TheVariants.{DefinedTwice}
use Rattle.awk_kinds.specs.Variables.{name_of}
use Rattle.awk_kinds.specs.definitions.Kinds.{Definition, definitions_of, function_names_of}
use Rattle.awk_kinds.specs.definitions.Signatures.{ProgramKinds, signature_by, signature_names}
use Rattle.awk_resolve.specs.declared.plan.Plan.{Plan}
use Rattle.awk_resolve.proofs.Calling.{are_for}
use Rattle.awk_resolve.specs.support.States.{AreScalars, AreFor}
use Rattle.awk_resolve.specs.support.Plans.{tables_of}
use Rattle.awk_runtime.specs.declared.runtime.Runtime.{Runtime}
use Rattle.awk_runtime.specs.declared.start.Assignment.{Assignment}
use Rattle.awk_runtime.specs.support.Beginning.{start_of, IsStart}
use Rattle.awk_runtime.specs.support.Naming.{Naming, AreOwn}
use Rattle.awk_runtime.proofs.StartRelation.{start_stands, start_open}
use Rattle.awk_evaluator.specs.declared.machine.Machine.{Machine}
use Rattle.awk_run.specs.declared.start.Start.{Start}
use Rattle.awk_run.specs.definitions.Start.{start_values}
use Rattle.awk_run.specs.support.Assigned.{IsFirst, Begins}
use Rattle.awk_run.specs.support.Follows.{IsSet}
use Rattle.awk_evaluator.specs.Moves.{IsIdle}
use Rattle.awk_run.specs.support.Planned.{IsPlanFor, IsProgramOf, AreOfAProgram, naming_of}
use Rattle.awk_run.specs.support.Verdict.{no_streams}
use Rattle.awk_run.proofs.PlanMeans.{functions_of}

-- names of functions

signed_names : (ds : List Definition) → signature_names (map signature_by ds) ≡ map (λ (d : Definition). d.name) ds
signed_names [] = refl
signed_names (d ∷ ds) = ap (λ l. d.name ∷ l) (signed_names ds)

function_names : {items : List Item} {plan : Plan} {kinds : ProgramKinds} → IsProgramOf items plan kinds → signature_names kinds.functions ≡ function_names_of items
function_names {items = items} h = ap (λ (k : ProgramKinds). signature_names k.functions) h.named ∙ signed_names (definitions_of items)

-- scalars are none of awk's own

unequal : (a b : List ℕ) → a ≢ b → bytes_eq a b ≡ false
unequal a b n = by (bytes_eq a b) refl
  where
    by : (t : Bool) → bytes_eq a b ≡ t → bytes_eq a b ≡ false
    by true is = absurd (n ((bytes_eq-Decides a b).0 is))
    by false is = is

pub own_names : {names : List (List ℕ)} → AreScalars names → AreOwn names
own_names h i x e = (unequal x (codes "NF") (h.each i x e).not_count, λ y. unequal (name_of y) x (λ same. (h.each i x e).not_special y (sym same)))

-- the machine before a run

pub first_starts : {naming names : Naming} {operands : List (Vec ℕ)} {environ : List Assignment} {limit : ℕ} {runtime : Runtime} {m : Machine} → names ≡ naming → IsStart names (start_of operands environ) limit runtime → m.runtime ≡ runtime → IsIdle m → IsFirst naming operands environ limit m
first_starts {names = names} {operands = operands} {environ = environ} {limit = limit} {m = m} same start is idle = record {
  idle = idle;
  start = subst (λ (n : Naming). IsStart n (start_of operands environ) limit m.runtime) same (subst (λ (x : Runtime). IsStart names (start_of operands environ) limit x) (sym is) start);
}

plan_of : {items : List Item} {plan : Plan} {kinds : ProgramKinds} → IsProgramOf items plan kinds → IsPlanFor items plan (naming_of plan kinds)
plan_of h = record {
  is = h.is;
  once = h.fits DefinedTwice;
  scalars = refl;
  eres = refl;
  arrays = ap (λ (k : ProgramKinds). k.arrays) h.named;
  functions = function_names h;
}

pub plan_for : {items : List Item} {plan : Plan} {kinds : ProgramKinds} {operands : List (Vec ℕ)} {environ : List Assignment} {limit : ℕ} {m : Machine} → IsProgramOf items plan kinds → IsFirst (naming_of plan kinds) operands environ limit m → IsPlanFor items plan m.runtime.names
plan_for {items = items} {plan = plan} h first = subst (λ (n : Naming). IsPlanFor items plan n) (sym first.start.names) (plan_of h)

pub first_set : {plan : Plan} {kinds : ProgramKinds} {operands : List (Vec ℕ)} {environ : List Assignment} {limit : ℕ} {m : Machine} {is_logged : Type 0} {k : WorldState} → AreOfAProgram plan kinds → IsFirst (naming_of plan kinds) operands environ limit m → (is_logged → AreSound k no_streams) → IsSet is_logged plan m.runtime k
first_set {m = m} {k = k} program first sound = record {
  ready = record {
    are_open = start_open k m.runtime.streams first.start.streams;
    are_sound = λ t. subst (λ (s : StreamsView). AreSound k s) (sym first.start.streams) (sound t);
  };
  items = program.items;
  planned = plan_for program.is first;
}

pub begins_by : (start : Start) {items : List Item} {plan : Plan} {kinds : ProgramKinds} {limit : ℕ} {m : Machine} → IsProgramOf items plan kinds → IsFirst (naming_of plan kinds) start.operands.items start.environ.items limit m → Begins items (start_values start) limit m.runtime
begins_by start {items = items} {plan = plan} {kinds = kinds} {limit = limit} {m = m} h first = record {
  streams = first.start.streams;
  steps = first.start.steps;
  stands = λ oracle k fresh. start_stands items (naming_of plan kinds) (start_of start.operands.items start.environ.items) oracle limit m.runtime k first.start (plan_of h).arrays (plan_of h).functions fresh.log fresh.failures;
}

pub functions_for : (limit : ℕ) {items : List Item} {plan : Plan} {kinds : ProgramKinds} → IsProgramOf items plan kinds → AreFor (tables_of items plan) (functions_of items limit)
functions_for limit {items = items} {plan = plan} h = are_for items (tables_of items plan) (h.fits DefinedTwice) refl limit
