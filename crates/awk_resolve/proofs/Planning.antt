-- The parts of a program, one after the other, are a plan.
use Rattle.std.proofs.Common.{◌≡◌, ℕ, suc, ◌+◌, ◌<◌, Bool, not, true, false, List, [], ◌∷◌, ◌++◌, Some, None, Result, Ok, Err, IfOk, slice_get, get_or, length, map, take, drop, refl, sym, subst, ap, ◌∙◌, arith, append-nil}
use Rattle.std.specs.Global.{Vec}
use Rattle.awk_value.specs.declared.value.Value.{Value}
use Rattle.awk_grammar.specs.Tree.{Statements, Item, Begin, End, Action, PatternAction, PatternOnly, Function}
use Rattle.awk_grammar.specs.declared.tree.Item.{Item as CodeItem}
use Rattle.awk_grammar.specs.declared.tree.Item.TheVariants as code
use Rattle.awk_grammar.specs.View.{item_of, items_of}
use Rattle.awk_kinds.specs.declared.variable.Variable.{Variable}
use Rattle.awk_kinds.specs.definitions.Kinds.{FormalParameter, Definition, arrays_of, parameter_by, definitions_by, definitions_of}
use Rattle.awk_kinds.proofs.KindsMade.{items_around}
use Rattle.awk_lex.specs.declared.refusal.Refusal.{Refusal}
use Rattle.awk_lex.specs.declared.refusal.RefusalCode.TheVariants.{StatementOutOfPlace}
use Rattle.awk_kinds.specs.Fits.{first_refusal, Fits}
use Rattle.awk_kinds.specs.Placed.{are_in_place}
use Rattle.awk_kinds.specs.definitions.Signatures.{Signature, ProgramKinds, signature_by, kinds_of, Resolves}
use Rattle.awk_semantics.specs.declared.flow.Flow.{Flow}
use Rattle.awk_semantics.specs.declared.flow.Flow.TheVariants as flow
use Rattle.awk_semantics.specs.definitions.State.{State, ret}
use Rattle.awk_semantics.specs.definitions.Semantics.{exec_all}
use Rattle.awk_semantics.specs.definitions.Calls.{returned}
use Rattle.awk_semantics.specs.definitions.Items.{has_rule}
use Rattle.awk_resolve.specs.declared.builder.Builder.{Builder}
use Rattle.awk_resolve.specs.declared.node.Node.TheVariants as n
use Rattle.awk_resolve.specs.declared.plan.Function.{Function as PlannedFunction}
use Rattle.awk_resolve.specs.declared.plan.Plan.{Plan}
use Rattle.awk_resolve.specs.support.Nodes.{IsOrdered, AllCallsFit}
use Rattle.awk_resolve.specs.support.Plans.{Meaning, body_run, begin_run, rules_run, end_run, tables_of, array_parameters, DoesIn, IsPlanOf, IsFunction, AreFunctions}
use Rattle.awk_resolve.specs.support.Builds.{arrays_among, array_parameters_in, AreScalars, Grows, Pushes, Extends, Program, ExecuteAll, leave_by, place_in, Builds, Stands}
use Rattle.awk_resolve.specs.support.Holding.{Holds, IsOver, AddsEnd, AddsPlace, AddsBody, AddsFunctions}
use Rattle.awk_resolve.proofs.Calculus.{later_same}
use Rattle.awk_resolve.proofs.Building.{arrays_same, grows, longer, same, stands, placed, at_once}

pub stands_later : {a b : Builder} {k : ℕ} → Grows a b → Stands k a → Stands k b
stands_later {k = k} g h = record { below = longer k g h.below; pos = h.pos }

module _ {kinds : ProgramKinds} where
  -- what stands, stands later

  pub holds_later : {a b : Builder} {parameters : List FormalParameter} {k : ℕ} {m : Meaning} → Grows a b → Holds kinds a parameters k m → Holds kinds b parameters k m
  holds_later g h = record { stands = stands_later g h.stands; is = λ p e n vs s i. h.is p (grows g e) n vs s i }

  -- whatever it is
  held : {a b : Builder} → Grows a b → (parameters : List FormalParameter) (k : ℕ) (m : Meaning) → Holds kinds a parameters k m → Holds kinds b parameters k m
  held g parameters k m h = holds_later g h

  pub over_later : {a b : Builder} {k : ℕ} → Grows a b → IsOver kinds k a → IsOver kinds k b
  over_later g h = record { stands = stands_later g h.stands; is = λ p e n. h.is p (grows g e) n }

  -- bodies of functions

  left : {a : Builder} {over : ℕ} → IsOver kinds over a → (p : Program kinds) → Grows a p.all → (n : ℕ) (vs : List Value) (t : State) (f : Flow)
      → leave_by (record { next = over; breaks = over; continues = over }) (place_in p n) vs f t ≡ ret (returned f) t
  left h p g n vs t flow.Normal = at_once (h.is p g n) vs t
  left h p g n vs t flow.Break = at_once (h.is p g n) vs t
  left h p g n vs t flow.Continue = at_once (h.is p g n) vs t
  left h p g n vs t (flow.Return w) = refl

  pub body_added : {parameters : List FormalParameter} {a b : Builder} {over i : ℕ} {all : Statements} → IsOver kinds over a → Builds kinds parameters a b i (ExecuteAll all (record { next = over; breaks = over; continues = over }))
      → AddsPlace kinds a b parameters i (body_run all)
  body_added {all = all} h q = record {
    grows = q.extends.grows;
    holds = record {
      stands = stands q;
      is = λ p g n vs s i. q.is p g n vs s i ∙ later_same (exec_all p.functions all) _ _ s (λ f t. left h p (grows q.extends.grows g) n vs t f);
    };
  }

-- functions whose places do the same elsewhere

module _ {Does Does' : List FormalParameter → ℕ → Meaning → Type 0} (also : (parameters : List FormalParameter) (k : ℕ) (m : Meaning) → Does parameters k m → Does' parameters k m) where
  function_also : (f : PlannedFunction) (d : Definition) → IsFunction Does f d → IsFunction Does' f d
  function_also f d h = record { body = also d.parameters f.body _ h.body; height = h.height; arrays = h.arrays }

  pub functions_also : (fs : List PlannedFunction) (ds : List Definition) → AreFunctions Does fs ds → AreFunctions Does' fs ds
  functions_also [] [] h = h
  functions_also [] (d ∷ ds) h = h
  functions_also (f ∷ fs) [] h = h
  functions_also (f ∷ fs) (d ∷ ds) h = (function_also f d h.0, functions_also fs ds h.1)

-- one more

module _ (Does : List FormalParameter → ℕ → Meaning → Type 0) where
  functions_more : (fs : List PlannedFunction) (ds : List Definition) (f : PlannedFunction) (d : Definition) → AreFunctions Does fs ds → IsFunction Does f d → AreFunctions Does (fs ++ f ∷ []) (ds ++ d ∷ [])
  functions_more [] [] f d h k = (k, tt)
  functions_more [] (c ∷ ds) f d h k = absurd h
  functions_more (g ∷ fs) [] f d h k = absurd h
  functions_more (g ∷ fs) (c ∷ ds) f d h k = (h.0, functions_more fs ds f d h.1 k)

  pub as_many : (fs : List PlannedFunction) (ds : List Definition) → AreFunctions Does fs ds → length fs ≡ length ds
  as_many [] [] h = refl
  as_many [] (d ∷ ds) h = absurd h
  as_many (f ∷ fs) [] h = absurd h
  as_many (f ∷ fs) (d ∷ ds) h = ap suc (as_many fs ds h.1)

module _ {kinds : ProgramKinds} where
  pub function_added : {a b c : Builder} {fs : List PlannedFunction} {ds : List Definition} {f : PlannedFunction} (d : Definition) → AddsFunctions kinds a b fs ds → AddsBody kinds b c f d.parameters d.body → AddsFunctions kinds a c (fs ++ f ∷ []) (ds ++ d ∷ [])
  function_added {c = c} {fs = fs} {ds = ds} {f = f} d h k = record {
    grows = grows h.grows k.grows;
    are = functions_more (Holds kinds c) fs ds f d (functions_also (held k.grows) fs ds h.are) (k.is d.name);
  }

-- definitions, one after the other

definitions_append : (arrays : List Variable) (xs ys : List Item) → definitions_by arrays (xs ++ ys) ≡ definitions_by arrays xs ++ definitions_by arrays ys
definitions_append arrays [] ys = refl
definitions_append arrays (Begin block ∷ xs) ys = definitions_append arrays xs ys
definitions_append arrays (End block ∷ xs) ys = definitions_append arrays xs ys
definitions_append arrays (Action block ∷ xs) ys = definitions_append arrays xs ys
definitions_append arrays (PatternAction p block ∷ xs) ys = definitions_append arrays xs ys
definitions_append arrays (PatternOnly p ∷ xs) ys = definitions_append arrays xs ys
definitions_append arrays (Function f parameters block ∷ xs) ys = ap (λ l. record { name = f; parameters = map (parameter_by arrays f) parameters; body = block } ∷ l) (definitions_append arrays xs ys)

-- what a list has behind its front
at_seam : {A : Type 0} (xs : List A) (y : A) (ys : List A) → slice_get (xs ++ y ∷ ys) (length xs) ≡ Some y
at_seam [] y ys = refl
at_seam (x ∷ xs) y ys = at_seam xs y ys

mapped_seam : {A B : Type 0} (f : A → B) (xs : List A) (y : A) (ys : List A) → slice_get (map f (xs ++ y ∷ ys)) (length xs) ≡ Some (f y)
mapped_seam f [] y ys = refl
mapped_seam f (x ∷ xs) y ys = mapped_seam f xs y ys

-- the signature of the next function
pub next_signature : (arrays : List Variable) (all before behind : List Item) (f : List ℕ) (parameters : List (List ℕ)) (block : Statements) (count : ℕ) → all ≡ before ++ Function f parameters block ∷ behind → count ≡ length (definitions_by arrays before)
    → slice_get (map signature_by (definitions_by arrays all)) count ≡ Some (record { name = f; parameters = map (parameter_by arrays f) parameters })
next_signature arrays all before behind f parameters block count is many =
    let d : Definition = record { name = f; parameters = map (parameter_by arrays f) parameters; body = block } in
    ap (λ ds. slice_get (map signature_by ds) count) (ap (definitions_by arrays) is ∙ definitions_append arrays before (Function f parameters block ∷ behind))
    ∙ ap (λ n. slice_get (map signature_by (definitions_by arrays before ++ d ∷ definitions_by arrays behind)) n) many
    ∙ mapped_seam signature_by (definitions_by arrays before) d (definitions_by arrays behind)

-- the signature of a function, once those before it are lowered
pub signature_at : {kinds : ProgramKinds} {a b : Builder} {fs : List PlannedFunction} (all : List CodeItem) (i : ℕ) (x : CodeItem) (f : List ℕ) (parameters : List (List ℕ)) (block : Statements) (count : ℕ) → i < length all → x ≡ get_or all i x → item_of x ≡ Function f parameters block
    → kinds ≡ kinds_of (items_of all) → AddsFunctions kinds a b fs (definitions_by (arrays_of (items_of all)) (items_of (take i all))) → count ≡ length fs
    → slice_get kinds.functions count ≡ Some (record { name = f; parameters = map (parameter_by (arrays_of (items_of all)) f) parameters })
signature_at {kinds = kinds} {b = b} {fs = fs} all i x f parameters block count low is function same adds many =
    let arrays = arrays_of (items_of all) in
    let before = items_of (take i all) in
    let behind = items_of (drop (i + 1) all) in
    let split : items_of all ≡ before ++ Function f parameters block ∷ behind = items_around all i x low is ∙ ap (λ y. before ++ (y ∷ behind)) function in
    ap (λ (k : ProgramKinds). slice_get k.functions count) same
    ∙ next_signature arrays (items_of all) before behind f parameters block count split (many ∙ as_many (Holds kinds b) fs (definitions_by arrays before) adds.are)

pub no_definition : (arrays : List Variable) (x : CodeItem) → ((f : _) (parameters : _) (block : _) → x ≡ code.Function f parameters block → ⊥) → definitions_by arrays (item_of x ∷ []) ≡ []
no_definition arrays (code.Function f parameters block) h = absurd (h f parameters block refl)
no_definition arrays x h = refl

module _ {kinds : ProgramKinds} where
  pub no_functions_added : (b : Builder) → AddsFunctions kinds b b [] []
  no_functions_added b = record { grows = (let stays : Extends b b = same in stays.grows); are = tt }

  -- an item that is a function
  pub next_function_added : {a b c : Builder} {fs : List PlannedFunction} {made : PlannedFunction} (arrays : List Variable) (before : List Item) (f : List ℕ) (parameters : List (List ℕ)) (block : Statements)
      → AddsFunctions kinds a b fs (definitions_by arrays before) → AddsBody kinds b c made (map (parameter_by arrays f) parameters) block → AddsFunctions kinds a c (fs ++ made ∷ []) (definitions_by arrays (before ++ Function f parameters block ∷ []))
  next_function_added {a = a} {c = c} {fs = fs} {made = made} arrays before f parameters block h k =
      let d : Definition = record { name = f; parameters = map (parameter_by arrays f) parameters; body = block } in
      let both : AddsFunctions kinds a c (fs ++ made ∷ []) (definitions_by arrays before ++ d ∷ []) = function_added d h k in
      subst (AddsFunctions kinds a c (fs ++ made ∷ [])) (sym (definitions_append arrays before (Function f parameters block ∷ []))) both

  -- one that is none
  pub other_item_added : {a b : Builder} {fs : List PlannedFunction} (arrays : List Variable) (before : List Item) (x : Item) → definitions_by arrays (x ∷ []) ≡ [] → AddsFunctions kinds a b fs (definitions_by arrays before) → AddsFunctions kinds a b fs (definitions_by arrays (before ++ x ∷ []))
  other_item_added {a = a} {b = b} {fs = fs} arrays before x none h =
      subst (AddsFunctions kinds a b fs) (sym (definitions_append arrays before (x ∷ []) ∙ ap (λ l. definitions_by arrays before ++ l) none ∙ append-nil (definitions_by arrays before))) h

-- the end of a program's parts

pub end_built : {kinds : ProgramKinds} {a b c : Builder} {filler over : ℕ} → Pushes a b n.End filler → Pushes b c n.End over → AddsEnd kinds a c over
end_built {kinds = kinds} at_0 at_over =
    let filler = placed {kinds = kinds} at_0 tt in
    let over = placed {kinds = kinds} at_over tt in
    record {
      grows = grows filler.extends.grows over.extends.grows;
      over = record {
        stands = record { below = over.below; pos = (let h = over.fresh in let k = filler.below in omega (arith, h, k)) };
        is = over.is;
      };
    }

pub end_made : (c : Builder) {E : Type 0} {a b : Builder} {filler : ℕ} (r : Result ℕ E) → Pushes a b n.End filler → IfOk r (λ over. Pushes b c n.End over) → IfOk r (λ over. (kinds : ProgramKinds) → AddsEnd kinds a c over)
end_made c (Ok over) p q = λ kinds. end_built p q
end_made c (Err e) p q = tt

-- a plan

-- where its parts begin
abbrev pub plan_with : ProgramKinds → Builder → Vec PlannedFunction → (begin rules last : ℕ) (places : Vec ℕ) (reads_records : Bool) → Plan
plan_with kinds b functions begin rules last places reads_records = record { nodes = b.nodes; heads = b.heads; conditions = b.conditions; names = b.names; eres = b.eres; functions = functions; begin = begin; rules = rules; end = last; rule_places = places; kinds = kinds; reads_records = reads_records }

-- what is held while a program is lowered is done by its plan
done : (items : List Item) (kinds : ProgramKinds) (b : Builder) (functions : Vec PlannedFunction) (begin rules last : ℕ) (places : Vec ℕ) (reads_records : Bool) → array_parameters_in b ≡ map (λ (f : Signature). arrays_among f.parameters) (kinds_of items).functions
    → (parameters : List FormalParameter) (k : ℕ) (m : Meaning) → Holds (kinds_of items) b parameters k m → DoesIn items (plan_with kinds b functions begin rules last places reads_records) parameters k m
done items kinds b functions begin rules last places reads_records arrays parameters k m h = record {
  below = h.stands.below;
  is = λ calls for n vs s i.
      h.is (record {
        all = b;
        tables = tables_of items (plan_with kinds b functions begin rules last places reads_records);
        functions = calls;
        names = ([], sym (append-nil b.names));
        eres = ([], sym (append-nil b.eres.items));
        arrays = refl;
        signatures = refl;
        parameters = arrays;
        calls = for;
      }) (let stays : Extends b b = same in stays.grows) n vs s i;
}

-- which parameters are arrays is told by the definitions
planned_arrays : (Does : List FormalParameter → ℕ → Meaning → Type 0) (fs : List PlannedFunction) (ds : List Definition) → AreFunctions Does fs ds → map (λ (f : Signature). arrays_among f.parameters) (map signature_by ds) ≡ array_parameters fs
planned_arrays Does [] [] h = refl
planned_arrays Does [] (d ∷ ds) h = absurd h
planned_arrays Does (f ∷ fs) [] h = absurd h
planned_arrays Does (f ∷ fs) (d ∷ ds) h = ap (λ a. a ∷ map (λ (g : Signature). arrays_among g.parameters) (map signature_by ds)) (sym h.0.arrays) ∙ ap (λ l. f.arrays.items ∷ l) (planned_arrays Does fs ds h.1)

pub planned : {items : List Item} {kinds : ProgramKinds} {a b c d e f : Builder} {functions : Vec PlannedFunction} {over begin rules last : ℕ} {places : Vec ℕ} {reads_records : Bool} → a.nodes.items ≡ [] → a.names ≡ [] → array_parameters_in a ≡ map (λ (g : Signature). arrays_among g.parameters) (kinds_of items).functions
    → AddsEnd (kinds_of items) a b over → AddsFunctions (kinds_of items) b c functions.items (definitions_of items)
    → AddsPlace (kinds_of items) c d [] last (end_run items) → AddsPlace (kinds_of items) d e [] rules (rules_run 0 items) → AddsPlace (kinds_of items) e f [] begin (begin_run items)
    → reads_records ≡ has_rule items → IsPlanOf items (plan_with kinds f functions begin rules last places reads_records)
planned {items = items} {kinds = kinds} {a = a} {f = f} {functions = functions} {begin = begin} {rules = rules} {last = last} {places = places} {reads_records = reads_records} no_nodes no_names arrays first second third fourth fifth reads =
    let behind_functions = grows third.grows (grows fourth.grows fifth.grows) in
    let g = grows first.grows (grows second.grows behind_functions) in
    let are : array_parameters_in f ≡ map (λ (x : Signature). arrays_among x.parameters) (kinds_of items).functions = arrays_same a f g.functions ∙ arrays in
    let fit : AllCallsFit (array_parameters_in f) f.nodes.items = g.calls (subst (AllCallsFit (array_parameters_in a)) (sym no_nodes) (λ at node e. cc)) in
    let scalars : AreScalars f.names = g.scalars (subst AreScalars (sym no_names) (record { each = λ i x e. cc; distinct = λ i j x e k. cc })) in
    record {
      ordered = g.ordered (subst IsOrdered (sym no_nodes) (λ at node e. cc));
      calls = subst (λ k. AllCallsFit k f.nodes.items) (are ∙ planned_arrays (Holds (kinds_of items) _) functions.items (definitions_of items) second.are) fit;
      distinct = scalars.distinct;
      scalars = scalars;
      functions = functions_also (λ parameters k m h. done items kinds f functions begin rules last places reads_records are parameters k m (holds_later behind_functions h)) functions.items (definitions_of items) second.are;
      begin = done items kinds f functions begin rules last places reads_records are [] begin _ fifth.holds;
      rules = done items kinds f functions begin rules last places reads_records are [] rules _ (holds_later fifth.grows fourth.holds);
      end = done items kinds f functions begin rules last places reads_records are [] last _ (holds_later (grows fourth.grows fifth.grows) third.holds);
      reads = reads;
    }

-- what is told of the same items

pub fits_same : {xs ys : List CodeItem} → xs ≡ ys → first_refusal (items_of xs) ≡ None → first_refusal (items_of ys) ≡ None
fits_same e h = subst (λ (l : List CodeItem). first_refusal (items_of l) ≡ None) e h

pub told_same : {xs ys : List CodeItem} {refusal : Refusal} → xs ≡ ys → Resolves (items_of xs) (Err refusal) → Resolves (items_of ys) (Err refusal)
told_same {refusal = refusal} e h = subst (λ (l : List CodeItem). Resolves (items_of l) (Err refusal)) e h

pub planned_same : {xs ys : List CodeItem} {plan : Plan} → xs ≡ ys → IsPlanOf (items_of xs) plan → IsPlanOf (items_of ys) plan
planned_same {plan = plan} e h = subst (λ (l : List CodeItem). IsPlanOf (items_of l) plan) e h

-- the statements of a program that fits stand in place
not_false : (b : Bool) → not b ≡ false → b ≡ true
not_false true e = refl
not_false false e = absurd (cc)

pub fits_in_place : (items : List Item) → Fits items → are_in_place items ≡ true
fits_in_place items fits = not_false (are_in_place items) (fits StatementOutOfPlace)
