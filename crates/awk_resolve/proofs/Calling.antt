-- The functions of a program are called as its plan has them.
use Rattle.std.proofs.Common.{◌≡◌, ℕ, zero, suc, ◌≤◌, Bool, true, false, ◌||◌, List, [], ◌∷◌, ◌++◌, map, slice_get, bytes_eq, Option, Some, if◌then◌else◌, refl, sym, subst, ap, ◌∙◌}
use Rattle.std.proofs.lemmas.Slice.Eq.{bytes_eq-Decides}
use Rattle.awk_value.specs.declared.value.Value.{Value}
use Rattle.awk_value.specs.declared.value.Value.TheVariants as value
use Rattle.awk_grammar.specs.Tree.{Item}
use Rattle.awk_grammar.specs.Height.{height_of_block}
use Rattle.awk_kinds.specs.Names.{has_name}
use Rattle.awk_kinds.proofs.Slots.{has_name-stands}
use Rattle.awk_kinds.specs.definitions.Kinds.{FormalParameter, Definition, definitions_of, function_names_of}
use Rattle.awk_kinds.specs.definitions.Signatures.{Signature, signature_by, kinds_of}
use Rattle.awk_kinds.specs.definitions.Fits.{has_repeat}
use Rattle.awk_semantics.specs.declared.local.Local.{Local}
use Rattle.awk_semantics.specs.declared.local.Local.TheVariants as local
use Rattle.awk_semantics.specs.definitions.State.{Frame, State, Out, Run, go_on, ◌>>=◌, ret}
use Rattle.awk_semantics.specs.definitions.Primitives.{bound, enter, leave}
use Rattle.awk_semantics.specs.definitions.Semantics.{exec_all}
use Rattle.awk_semantics.specs.definitions.Calls.{definition_of, role_of, parameter_roles, body_height, returned, call_by, call_within, functions_within}
use Rattle.awk_semantics.proofs.KeepsForms.{law_of_keeping}
use Rattle.awk_storage.specs.support.Positions.{newest_locals}
use Rattle.awk_resolve.specs.declared.plan.Function.{Function as PlannedFunction}
use Rattle.awk_resolve.specs.declared.plan.Plan.{Plan}
use Rattle.awk_resolve.specs.support.Nodes.{Tables, local_by, behind_form, locals_by, is_array_form, FormsFit, cont_at}
use Rattle.awk_resolve.specs.declared.node.ArgumentForm.{ArgumentForm}
use Rattle.awk_resolve.specs.declared.node.ArgumentForm.TheVariants as form
use Rattle.awk_resolve.specs.support.Plans.{Meaning, IsFunction, AreFunctions, tables_of, IsPlanOf}
use Rattle.awk_resolve.specs.support.States.{is_array_local, LocalsFit, IsIn, AreFor}
use Rattle.awk_resolve.specs.support.Builds.{arrays_among}
use Rattle.awk_resolve.proofs.Calculus.{assoc_at, later_same, first_same, given}

-- a function by its name

-- no function has the name of one that stands behind it
other_name : (b : Bool) (names : List (List ℕ)) (x y : List ℕ) (i : ℕ) → bytes_eq y x ≡ b → (has_name names x || has_repeat names) ≡ false → slice_get names i ≡ Some y → b ≡ false
other_name false names x y i e once at = refl
other_name true names x y i e once at =
    let same : y ≡ x = (bytes_eq-Decides y x).0 e in
    let there : has_name names x ≡ true = has_name-stands names i x (subst (λ z. slice_get names i ≡ Some z) same at) in
    let both : (has_name names x || has_repeat names) ≡ true = ap (λ c. c || has_repeat names) there in
    cc

not_later : (b c : Bool) → (b || c) ≡ false → c ≡ false
not_later false c e = e
not_later true c e = cc

name_at : (ds : List Definition) (i : ℕ) (d : Definition) → slice_get ds i ≡ Some d → slice_get (map (λ (x : Definition). x.name) ds) i ≡ Some d.name
name_at [] i d e = cc
name_at (x ∷ ds) zero d e = let z : x ≡ d = cc in ap (λ (y : Definition). Some y.name) z
name_at (x ∷ ds) (suc i) d e = name_at ds i d e

pub found : (ds : List Definition) (i : ℕ) (d : Definition) → has_repeat (map (λ (x : Definition). x.name) ds) ≡ false → slice_get ds i ≡ Some d → definition_of ds d.name ≡ Some d
found [] i d once e = cc
found (x ∷ ds) zero d once e =
    let z : x ≡ d = cc in
    let same : bytes_eq d.name x.name ≡ true = (bytes_eq-Decides d.name x.name).1 (ap (λ (y : Definition). y.name) (sym z)) in
    ap (λ b. if b then Some x else definition_of ds d.name) same ∙ ap (λ (y : Definition). Some y) z
found (x ∷ ds) (suc i) d once e =
    let names = map (λ (y : Definition). y.name) ds in
    ap (λ b. if b then Some x else definition_of ds d.name) (other_name (bytes_eq d.name x.name) names x.name d.name i refl once (name_at ds i d e))
    ∙ found ds i d (not_later (has_name names x.name) (has_repeat names) once) e

-- a signature is that of a definition
signed : (ds : List Definition) (i : ℕ) (f : Signature) → slice_get (map signature_by ds) i ≡ Some f → (d : Definition) × (slice_get ds i ≡ Some d) × (signature_by d ≡ f)
signed [] i f e = cc
signed (d ∷ ds) zero f e = (d, refl, (let z : signature_by d ≡ f = cc in z))
signed (d ∷ ds) (suc i) f e = signed ds i f e

-- the functions of a run of so many steps are called as these tables have them
pub are_for : (items : List Item) (tables : Tables) → has_repeat (function_names_of items) ≡ false → tables.functions ≡ (kinds_of items).functions → (n : ℕ) → AreFor tables (functions_within (definitions_of items) n)
are_for items tables once is n = record {
  keep = law_of_keeping.calls (definitions_of items) n;
  roles = λ i f e.
      let d = signed (definitions_of items) i f (subst (λ (fs : List Signature). slice_get fs i ≡ Some f) is e) in
      ap (λ (g : Signature). parameter_roles (definition_of (definitions_of items) g.name)) (sym d.2)
      ∙ ap parameter_roles (found (definitions_of items) i d.0 once d.1)
      ∙ ap (λ (g : Signature). map role_of g.parameters) d.2;
}

-- the state in which a body runs

named_bound : (b : Bool) (x : List ℕ) (made other : List (List ℕ × Local)) (n : ℕ) (names : List (List ℕ)) → map (λ (l : List ℕ × Local). l.0) made ≡ names → map (λ (l : List ℕ × Local). l.0) other ≡ names
    → map (λ (l : List ℕ × Local). l.0) (if b then (x, local.Array n) ∷ made else (x, local.Value value.Nothing) ∷ other) ≡ x ∷ names
named_bound true x made other n names h k = ap (λ l. x ∷ l) h
named_bound false x made other n names h k = ap (λ l. x ∷ l) k

bound_names : (parameters : List FormalParameter) (given : List Local) (n : ℕ) → map (λ (l : List ℕ × Local). l.0) (bound parameters given n) ≡ map (λ (p : FormalParameter). p.name) parameters
bound_names [] given n = refl
bound_names (p ∷ ps) (a ∷ given) n = ap (λ l. p.name ∷ l) (bound_names ps given n)
bound_names (p ∷ ps) [] n = named_bound p.is_array p.name (bound ps [] (suc n)) (bound ps [] n) n (map (λ (q : FormalParameter). q.name) ps) (bound_names ps [] (suc n)) (bound_names ps [] n)

-- and arrays are given where the parameters are arrays

none_fit : (bs : List Bool) → LocalsFit bs []
none_fit [] = tt
none_fit (b ∷ bs) = tt

-- so do the arguments of a call that fits
local_kind : (f : ArgumentForm) (vs : List Value) (s : State) → is_array_local (local_by f vs s) ≡ is_array_form f
local_kind form.Value vs s = refl
local_kind (form.Array a) vs s = refl

pub locals_fit : (bs : List Bool) (fs : List ArgumentForm) (vs : List Value) (s : State) → FormsFit bs fs → LocalsFit bs (locals_by fs vs s)
locals_fit [] fs vs s fit = tt
locals_fit (b ∷ bs) [] vs s fit = tt
locals_fit (b ∷ bs) (f ∷ fs) vs s fit = (local_kind f vs s ∙ fit.0, locals_fit bs fs (behind_form f vs) s fit.1)

kind_bound : (b : Bool) (x : List ℕ) (made other : List (List ℕ × Local)) (n : ℕ) (kinds : List Bool) → map (λ (l : List ℕ × Local). is_array_local l.1) made ≡ kinds → map (λ (l : List ℕ × Local). is_array_local l.1) other ≡ kinds
    → map (λ (l : List ℕ × Local). is_array_local l.1) (if b then (x, local.Array n) ∷ made else (x, local.Value value.Nothing) ∷ other) ≡ b ∷ kinds
kind_bound true x made other n kinds h k = ap (λ l. true ∷ l) h
kind_bound false x made other n kinds h k = ap (λ l. false ∷ l) k

bound_kinds : (parameters : List FormalParameter) (given : List Local) (n : ℕ) → LocalsFit (arrays_among parameters) given → map (λ (l : List ℕ × Local). is_array_local l.1) (bound parameters given n) ≡ arrays_among parameters
bound_kinds [] given n fit = refl
bound_kinds (p ∷ ps) (a ∷ given) n fit = ap (λ b. b ∷ map (λ (l : List ℕ × Local). is_array_local l.1) (bound ps given n)) fit.0 ∙ ap (λ l. p.is_array ∷ l) (bound_kinds ps given n fit.1)
bound_kinds (p ∷ ps) [] n fit = kind_bound p.is_array p.name (bound ps [] (suc n)) (bound ps [] n) n (arrays_among ps) (bound_kinds ps [] (suc n) (none_fit (arrays_among ps))) (bound_kinds ps [] n (none_fit (arrays_among ps)))

-- a body runs in the state that its call enters
pub entered_in : (tables : Tables) (parameters : List FormalParameter) (height : ℕ) (given : List Local) (m : ℕ) (s : State) → LocalsFit (arrays_among parameters) given → s.steps ≤ m → s.array_names ≡ tables.arrays
    → IsIn tables parameters m (enter parameters height given s).state
unfolding enter
entered_in tables parameters height given m s fit low arrays = record { low = low; names = bound_names parameters given _; kinds = bound_kinds parameters given _ fit; arrays = arrays }

-- an action, and a pattern, run where no call is active
pub outside_in : (tables : Tables) (m : ℕ) (s : State) → s.frames ≡ [] → s.steps ≤ m → s.array_names ≡ tables.arrays → IsIn tables [] m s
outside_in tables m s none low arrays = record {
  low = low;
  names = ap (λ (frames : List Frame). map (λ (l : List ℕ × Local). l.0) (newest_locals frames)) none;
  kinds = ap (λ (frames : List Frame). map (λ (l : List ℕ × Local). is_array_local l.1) (newest_locals frames)) none;
  arrays = arrays;
}

-- what follows is asked of the state in which the body runs
entered_same : {A : Type 0} (tables : Tables) (parameters : List FormalParameter) (height : ℕ) (given : List Local) (f g : Unit {0} → Run A) (m : ℕ) (s : State) → LocalsFit (arrays_among parameters) given → s.steps ≤ m → s.array_names ≡ tables.arrays
    → ((t : State) → IsIn tables parameters m t → f tt t ≡ g tt t) → (enter parameters height given >>= f) s ≡ (enter parameters height given >>= g) s
unfolding enter ◌>>=◌ go_on
entered_same {A = A} tables parameters height given f g m s fit low arrays h =
    ap (λ (o : Out A). record { result = o.result; state = o.state; effects = [] ++ o.effects }) (h (enter parameters height given s).state (entered_in tables parameters height given m s fit low arrays))

-- a function of a plan
pub function_in : {Does : List FormalParameter → ℕ → Meaning → Type 0} (fs : List PlannedFunction) (ds : List Definition) (i : ℕ) (f : PlannedFunction) (d : Definition) → AreFunctions Does fs ds → slice_get fs i ≡ Some f → slice_get ds i ≡ Some d → IsFunction Does f d
function_in [] ds i f d h e k = cc
function_in (g ∷ fs) [] i f d h e k = absurd h
function_in {Does = Does} (g ∷ fs) (c ∷ ds) zero f d h e k = let x : g ≡ f = cc in let y : c ≡ d = cc in subst (λ (z : PlannedFunction). IsFunction Does z d) x (subst (λ (z : Definition). IsFunction Does g z) y h.0)
function_in (g ∷ fs) (c ∷ ds) (suc i) f d h e k = function_in fs ds i f d h.1 e k

-- a call of a function does what the place of its body does
pub called : (items : List Item) (plan : Plan) → IsPlanOf items plan → has_repeat (function_names_of items) ≡ false → (i : ℕ) (f : PlannedFunction) (d : Definition) → slice_get plan.functions.items i ≡ Some f → slice_get (definitions_of items) i ≡ Some d
    → (n m : ℕ) (given : List Local) (vs : List Value) (s : State) → LocalsFit (arrays_among d.parameters) given → s.steps ≤ m → s.array_names ≡ (kinds_of items).arrays
    → call_within (definitions_of items) (suc n) d.name given s
    ≡ (enter d.parameters f.height given >>= λ _. cont_at (tables_of items plan) (functions_within (definitions_of items) n) plan.heads.items plan.nodes.items m f.body vs >>= λ w. leave >>= λ _. ret w) s
unfolding call_within
called items plan is once i f d e k n m given' vs s fit low arrays =
    let ds = definitions_of items in
    let functions = functions_within ds n in
    let tables = tables_of items plan in
    let made = function_in plan.functions.items ds i f d is.functions e k in
    let behind : Value → Run Value = λ w. leave >>= λ _. ret w in
    ap (λ (o : Option Definition). call_by o given' (λ c. exec_all functions c.body) s) (found ds i d once k)
    ∙ entered_same tables d.parameters (height_of_block d.body) given' _ (λ _. cont_at tables functions plan.heads.items plan.nodes.items m f.body vs >>= behind) m s fit low arrays
    (λ t j.
    later_same (exec_all functions d.body) _ _ t (λ fl u. sym (given (returned fl) behind u))
    ∙ sym (assoc_at (exec_all functions d.body) (λ fl. ret (returned fl)) behind t)
    ∙ first_same _ _ behind t (sym (made.body.is functions (are_for items tables once refl n) m vs t j)))
    ∙ ap (λ h. (enter d.parameters h given' >>= λ _. cont_at tables functions plan.heads.items plan.nodes.items m f.body vs >>= behind) s) (sym made.height)

-- its height is tested before it is called
pub as_high : (items : List Item) (plan : Plan) → IsPlanOf items plan → has_repeat (function_names_of items) ≡ false → (i : ℕ) (f : PlannedFunction) (d : Definition) → slice_get plan.functions.items i ≡ Some f → slice_get (definitions_of items) i ≡ Some d
    → (n : ℕ) → (functions_within (definitions_of items) n).height d.name ≡ f.height
as_high items plan is once i f d e k n =
    let made = function_in plan.functions.items (definitions_of items) i f d is.functions e k in
    ap body_height (found (definitions_of items) i d once k) ∙ sym made.height
