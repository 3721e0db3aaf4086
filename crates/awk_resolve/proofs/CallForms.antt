-- Calls: the arguments that are values lie on the stack, and the arrays are told by their positions.
use Rattle.std.proofs.Common.{◌≡◌, ℕ, zero, suc, Bool, true, false, List, [], ◌∷◌, ◌++◌, length, map, drop, reverse, slice_get, unwrap_or, bytes_eq, Option, Some, None, if◌then◌else◌, Vec, Global, refl, sym, subst, ap, ◌∙◌, append_assoc, append-nil}
use Rattle.std.specs.Option.{option_map}
use Rattle.std.proofs.lemmas.Slice.Eq.{bytes_eq-Decides}
use Rattle.std.proofs.lemmas.Option.{slice_get-map}
use Rattle.awk_value.specs.declared.value.Value.{Value}
use Rattle.awk_grammar.specs.Tree.{Expr, Number, String, Ere, Name, Element, Field, Group, Call, BuiltIn, Length, PreIncrement, PostIncrement, Getline, PipedGetline, Unary, Binary, Membership, ListMembership, Conditional, Assign, Exprs, Nil, Cons}
use Rattle.awk_kinds.specs.definitions.Kinds.{FormalParameter}
use Rattle.awk_kinds.specs.definitions.Signatures.{Signature, ProgramKinds, place_of as number_of_name, signature_names}
use Rattle.awk_semantics.specs.declared.local.Local.{Local}
use Rattle.awk_semantics.specs.declared.local.Local.TheVariants as local
use Rattle.awk_semantics.specs.definitions.State.{State, Run, ◌>>=◌, ret, gives}
use Rattle.awk_semantics.specs.definitions.Primitives.{array_number}
use Rattle.awk_semantics.specs.definitions.Places as target
use Rattle.awk_semantics.specs.definitions.BuiltIns.{Role, Argument, OfValue, OfArray, next_role, array_named, taken_as, local_of, locals_of}
use Rattle.awk_semantics.specs.definitions.Calls.{role_of}
use Rattle.awk_semantics.specs.definitions.Semantics.{Functions, call_with, eval, place_of, take_arguments}
use Rattle.awk_semantics.proofs.KeepsForms.{keeps_eval}
use Rattle.awk_resolve.specs.declared.builder.Builder.{Builder}
use Rattle.awk_resolve.specs.declared.scope.Scope.{Scope}
use Rattle.awk_resolve.specs.declared.node.ArgumentForm.{ArgumentForm}
use Rattle.awk_resolve.specs.declared.node.ArgumentForm.TheVariants as form
use Rattle.awk_resolve.specs.declared.node.ValueNode.TheVariants as v
use Rattle.awk_resolve.specs.declared.node.Node.TheVariants as n
use Rattle.awk_resolve.specs.support.Nodes.{Cont, function_at, taken, locals_by, values_among, given_by, call_at, is_array_form, FormsFit, CallFits}
use Rattle.awk_resolve.specs.support.Builds.{arrays_among, array_parameters_in, Pushes, IsIn, Program, Evaluate, EvaluateArguments, with_argument, with_arguments, place_in, Builds, Stands}
use Rattle.awk_resolve.specs.support.Scopes.{parameters_of}
use Rattle.awk_resolve.specs.support.Calls.{is_array_at, name_in, role_by, roles_from, IsFormOf, AreForms}
use Rattle.awk_resolve.proofs.Calculus.{assoc_at, later_same, later_in, first_same, given}
use Rattle.awk_resolve.proofs.Building.{arrays_same, grows, extends, same}
use Rattle.awk_resolve.proofs.ValueLists.{onto_more, taken_all, dropped_all}
use Rattle.awk_resolve.proofs.Taking.{Takes, node}

-- roles and arrays

drop_more : {A : Type 0} (i : ℕ) (xs : List A) → drop 1 (drop i xs) ≡ drop (suc i) xs
drop_more zero xs = refl
drop_more (suc i) [] = refl
drop_more (suc i) (x ∷ xs) = drop_more i xs

role_at : (bs : List Bool) (i : ℕ) → next_role (roles_from i bs) ≡ role_by (is_array_at bs i)
role_at [] zero = refl
role_at [] (suc i) = refl
role_at (b ∷ bs) zero = refl
role_at (b ∷ bs) (suc i) = role_at bs i

roles_are : (ps : List FormalParameter) → map role_of ps ≡ map role_by (arrays_among ps)
roles_are [] = refl
roles_are (p ∷ ps) = ap (λ l. role_of p ∷ l) (roles_are ps)

pub named_array : (e : Expr) → array_named e ≡ OfArray (name_in e)
named_array (Name x) = refl
named_array (Number k) = refl
named_array (String k) = refl
named_array (Ere k) = refl
named_array (Element x es) = refl
named_array (Field e) = refl
named_array (Group e) = refl
named_array (Call x es) = refl
named_array (BuiltIn w es) = refl
named_array Length = refl
named_array (PreIncrement w e) = refl
named_array (PostIncrement w e) = refl
named_array (Getline q e) = refl
named_array (PipedGetline e q) = refl
named_array (Unary w e) = refl
named_array (Binary w e e') = refl
named_array (Membership e x) = refl
named_array (ListMembership es x) = refl
named_array (Conditional e e' e'') = refl
named_array (Assign w e e') = refl

-- arguments are evaluated in turn

module _ (functions : Functions) where
  pub arguments_behind : {B : Type 0} (roles : List Role) (front : List Argument) (es : Exprs) (k : List Argument → Run B) (s : State) → (take_arguments functions roles front es >>= k) s ≡ (take_arguments functions roles [] es >>= λ as'. k (front ++ as')) s
  unfolding take_arguments
  arguments_behind roles front Nil k s = given front k s ∙ ap (λ l. k l s) (sym (append-nil front)) ∙ sym (given [] (λ as'. k (front ++ as')) s)
  arguments_behind roles front (Cons e es) k s =
      let m = taken_as (next_role roles) e (eval functions e) (place_of functions e) in
      assoc_at m (λ a. take_arguments functions (drop 1 roles) (front ++ a ∷ []) es) k s
      ∙ later_same m _ _ s (λ a t.
      arguments_behind (drop 1 roles) (front ++ a ∷ []) es k t
      ∙ later_same (take_arguments functions (drop 1 roles) [] es) _ _ t (λ as' u. ap (λ l. k l u) (append_assoc front (a ∷ []) as'))
      ∙ sym (arguments_behind (drop 1 roles) (a ∷ []) es (λ as'. k (front ++ as')) t))
      ∙ sym (assoc_at m (λ a. take_arguments functions (drop 1 roles) (a ∷ []) es) (λ as'. k (front ++ as')) s)

  -- the first argument, and then the others
  pub argument_first : {B : Type 0} (roles : List Role) (e : Expr) (es : Exprs) (k : List Argument → Run B) (s : State)
      → (take_arguments functions roles [] (Cons e es) >>= k) s ≡ (taken_as (next_role roles) e (eval functions e) (place_of functions e) >>= λ a. take_arguments functions (drop 1 roles) [] es >>= λ as'. k (a ∷ as')) s
  unfolding take_arguments
  argument_first roles e es k s =
      let m = taken_as (next_role roles) e (eval functions e) (place_of functions e) in
      assoc_at m (λ a. take_arguments functions (drop 1 roles) (a ∷ []) es) k s
      ∙ later_same m _ _ s (λ a t. arguments_behind (drop 1 roles) (a ∷ []) es k t)

-- what a call is given, by the values in their order and by the arrays
pub record Matches {kinds : ProgramKinds} (p : Program kinds) (parameters : List FormalParameter) (fs : List ArgumentForm) (ws : List Value) (as' : List Argument) : Type 0 where
  pub locals : (n : ℕ) (t : State) → IsIn p.tables parameters n t → locals_by fs ws t ≡ map (local_of t) as'
  pub count : values_among fs ≡ length ws

module _ (scope : Scope) (p : Program scope.kinds.now) (bs : List Bool) where
  abbrev pub Fit : List ArgumentForm → List Value → List Argument → Type 0
  Fit = Matches p (parameters_of scope)

  value_fits : {fs : List ArgumentForm} {ws : List Value} {as' : List Argument} (w : Value) → Fit fs ws as' → Fit (form.Value ∷ fs) (w ∷ ws) (OfValue w ∷ as')
  value_fits w f = record { locals = λ n t i. ap (λ l. local.Value w ∷ l) (f.locals n t i); count = ap suc f.count }

  array_fits : {fs : List ArgumentForm} {ws : List Value} {as' : List Argument} (e : Expr) (fm : ArgumentForm) → IsFormOf scope true fm e → Fit fs ws as' → Fit (fm ∷ fs) ws (OfArray (name_in e) ∷ as')
  array_fits e form.Value is f = absurd is
  array_fits {fs = fs} {ws = ws} e (form.Array a) is f = record { locals = λ n t i. ap (λ k. local.Array k ∷ locals_by fs ws t) (sym (is.is p n t i)) ∙ ap (λ l. local.Array (array_number t (name_in e)) ∷ l) (f.locals n t i); count = f.count }

  -- an argument, where the others do so
  argument_passed : (r : Role) (b : Bool) (e : Expr) (fm : ArgumentForm) → r ≡ role_by b → IsFormOf scope b fm e → (place : Run target.Place) (g : Argument → Run Value) (k : Cont) (n : ℕ) (vs : List Value) (s : State) → IsIn p.tables (parameters_of scope) n s
      → ((w : Value) (t : State) → b ≡ false → fm ≡ form.Value → IsIn p.tables (parameters_of scope) n t → g (OfValue w) t ≡ k (w ∷ vs) t)
      → (b ≡ true → g (OfArray (name_in e)) s ≡ k vs s)
      → (taken_as r e (eval p.functions e) place >>= g) s ≡ with_argument r (eval p.functions e) k vs s
  argument_passed r true e fm is form_is place g k n vs s i value_is array_is =
      subst (λ (x : Role). (taken_as x e (eval p.functions e) place >>= g) s ≡ with_argument x (eval p.functions e) k vs s) (sym is)
      (given (array_named e) g s ∙ ap (λ (a : Argument). g a s) (named_array e) ∙ array_is refl)
  argument_passed r false e form.Value is form_is place g k n vs s i value_is array_is =
      subst (λ (x : Role). (taken_as x e (eval p.functions e) place >>= g) s ≡ with_argument x (eval p.functions e) k vs s) (sym is)
      (assoc_at (eval p.functions e) (λ w. ret (OfValue w)) g s ∙ later_in _ _ s n (keeps_eval p.functions p.calls.keep e) i (λ w t j. given (OfValue w) g t ∙ value_is w t refl refl j))
  argument_passed r false e (form.Array a) is form_is place g k n vs s i value_is array_is = absurd form_is

  -- what the other arguments do, where they do so from the next place on
  rest_passed : (i : ℕ) (fs : List ArgumentForm) (es : Exprs) (g : List Argument → Run Value) (k : Cont) (n : ℕ) (us : List Value) (t : State)
      → ((take_arguments p.functions (roles_from (suc i) bs) [] es >>= g) t ≡ with_arguments p.functions (roles_from (suc i) bs) es k us t)
      → (take_arguments p.functions (drop 1 (roles_from i bs)) [] es >>= g) t ≡ with_arguments p.functions (drop 1 (roles_from i bs)) es k us t
  rest_passed i fs es g k n us t e = subst (λ roles. (take_arguments p.functions roles [] es >>= g) t ≡ with_arguments p.functions roles es k us t) (sym (drop_more i (map role_by bs))) e

  pub arguments_passed : (i : ℕ) (fs : List ArgumentForm) (es : Exprs) → AreForms scope bs i fs es → (g : List Argument → Run Value) (k : Cont) (n : ℕ) (vs : List Value) (s : State) → IsIn p.tables (parameters_of scope) n s
      → ((as' : List Argument) (ws : List Value) (t : State) → IsIn p.tables (parameters_of scope) n t → Fit fs ws as' → g as' t ≡ k (reverse ws ++ vs) t)
      → (take_arguments p.functions (roles_from i bs) [] es >>= g) s ≡ with_arguments p.functions (roles_from i bs) es k vs s
  unfolding take_arguments
  arguments_passed i [] Nil are g k n vs s h alike = given [] g s ∙ alike [] [] s h (record { locals = λ m t l. refl; count = refl })
  arguments_passed i [] (Cons e es) are g k n vs s h alike = absurd are
  arguments_passed i (f ∷ fs) Nil are g k n vs s h alike = absurd are
  arguments_passed i (f ∷ fs) (Cons e es) are g k n vs s h alike =
      argument_first p.functions (roles_from i bs) e es g s
      ∙ argument_passed (next_role (roles_from i bs)) (is_array_at bs i) e f (role_at bs i) are.0 (place_of p.functions e) (λ a. take_arguments p.functions (drop 1 (roles_from i bs)) [] es >>= λ as'. g (a ∷ as'))
      (with_arguments p.functions (drop 1 (roles_from i bs)) es k) n vs s h
      (λ w t b is j. rest_passed i fs es (λ as'. g (OfValue w ∷ as')) k n (w ∷ vs) t (arguments_passed (suc i) fs es are.1 (λ as'. g (OfValue w ∷ as')) k n (w ∷ vs) t j (λ as' ws u l fit.
      alike (OfValue w ∷ as') (w ∷ ws) u l (subst (λ x. Fit (x ∷ fs) (w ∷ ws) (OfValue w ∷ as')) (sym is) (value_fits w fit)) ∙ ap (λ xs. k xs u) (onto_more w ws vs))))
      (λ b. rest_passed i fs es (λ as'. g (OfArray (name_in e) ∷ as')) k n vs s (arguments_passed (suc i) fs es are.1 (λ as'. g (OfArray (name_in e) ∷ as')) k n vs s h (λ as' ws u l fit.
      alike (OfArray (name_in e) ∷ as') ws u l (array_fits e f (subst (λ x. IsFormOf scope x f e) b are.0) fit))))

-- a call with what lies there is the call with its arguments
call_same : {kinds : ProgramKinds} {p : Program kinds} {parameters : List FormalParameter} (f : List ℕ) (fs : List ArgumentForm) (ws : List Value) (as' : List Argument) (n : ℕ) (t : State) → IsIn p.tables parameters n t → Matches p parameters fs ws as' → call_with p.functions f as' t ≡ call_at p.functions f fs ws t
unfolding locals_of given_by
call_same f fs ws as' n t i fit = first_same (locals_of as') (given_by fs ws) _ t (ap (λ (l : List Local). gives l t) (sym (fit.locals n t i)))

-- the function of a number

function_there : (functions : List Signature) (name : List ℕ) (number : ℕ) → number_of_name (signature_names functions) name ≡ Some number → (f : Signature) × (slice_get functions number ≡ Some f) × (f.name ≡ name)
function_there [] name number e = cc
function_there (f ∷ fs) name number e = by (bytes_eq name f.name) number (λ j q. function_there fs name j q) (bytes_eq-Decides name f.name).0 e
  where
    by : (b : Bool) (k : ℕ) → ((j : ℕ) → number_of_name (signature_names fs) name ≡ Some j → (g : Signature) × (slice_get fs j ≡ Some g) × (g.name ≡ name)) → (b ≡ true → name ≡ f.name) → (if b then Some 0 else option_map suc (number_of_name (signature_names fs) name)) ≡ Some k → (g : Signature) × (slice_get (f ∷ fs) k ≡ Some g) × (g.name ≡ name)
    by true k deeper is h = (f, (let z : 0 ≡ k = cc in subst (λ j. slice_get (f ∷ fs) j ≡ Some f) z refl), sym (is refl))
    by false k deeper is h = later (number_of_name (signature_names fs) name) k h deeper
      where
        later : (o : Option ℕ) (k : ℕ) → option_map suc o ≡ Some k → ((j : ℕ) → o ≡ Some j → (g : Signature) × (slice_get fs j ≡ Some g) × (g.name ≡ name)) → (g : Signature) × (slice_get (f ∷ fs) k ≡ Some g) × (g.name ≡ name)
        later None k h' found = cc
        later (Some j) k h' found = let r = found j refl in let z : suc j ≡ k = cc in (r.0, subst (λ l. slice_get (f ∷ fs) l ≡ Some r.0) z r.1, r.2)

first_dropped : (bs : List Bool) (i : ℕ) → is_array_at (drop i bs) 0 ≡ is_array_at bs i
first_dropped [] zero = refl
first_dropped [] (suc i) = refl
first_dropped (b ∷ bs) zero = refl
first_dropped (b ∷ bs) (suc i) = first_dropped bs i

-- forms that fit the parameters from a place on
forms_fit_from : (scope : Scope) (bs : List Bool) (i : ℕ) (fs : List ArgumentForm) (es : Exprs) → AreForms scope bs i fs es → FormsFit (drop i bs) fs
forms_fit_from scope bs i [] es are = no_forms (drop i bs)
  where
    no_forms : (cs : List Bool) → FormsFit cs []
    no_forms [] = tt
    no_forms (c ∷ cs) = tt
forms_fit_from scope bs i (f ∷ fs) Nil are = absurd are
forms_fit_from scope bs i (f ∷ fs) (Cons e es) are =
    by (drop i bs) (first_dropped bs i ∙ sym (kind (is_array_at bs i) f are.0)) (subst (λ cs. FormsFit cs fs) (sym (drop_more i bs)) (forms_fit_from scope bs (suc i) fs es are.1))
  where
    kind : (b : Bool) (g : ArgumentForm) → IsFormOf scope b g e → is_array_form g ≡ b
    kind true (form.Array a) is = refl
    kind true form.Value is = absurd is
    kind false (form.Array a) is = absurd is
    kind false form.Value is = refl

    by : (cs : List Bool) → is_array_at cs 0 ≡ is_array_form f → FormsFit (drop 1 cs) fs → FormsFit cs (f ∷ fs)
    by [] is rest = tt
    by (c ∷ cs) is rest = (sym is, rest)

-- a call that is made so fits its function
pub call_fits : (scope : Scope) (functions : List (List Bool)) (number : ℕ) (bs : List Bool) (fs : List ArgumentForm) (es : Exprs) → slice_get functions number ≡ Some bs → AreForms scope bs 0 fs es → CallFits (slice_get functions number) fs
call_fits scope functions number bs fs es at are = subst (λ (o : Option (List Bool)). CallFits o fs) (sym at) (forms_fit_from scope bs 0 fs es are)

pub call_lowered : {a b c : Builder} {i j next number : ℕ} {name : List ℕ} {es : Exprs} {forms : Vec ArgumentForm Global} (scope : Scope) (bs : List Bool) → Stands next a
    → number_of_name (signature_names scope.kinds.now.functions) name ≡ Some number → slice_get (array_parameters_in a) number ≡ Some bs
    → AreForms scope bs 0 forms.items es → Pushes a b (n.Value (v.Call number forms) next) j → Builds scope.kinds.now (parameters_of scope) b c i (EvaluateArguments (roles_from 0 bs) es j)
    → Builds scope.kinds.now (parameters_of scope) a c i (Evaluate (Call name es) next)
unfolding eval
call_lowered {a = a} {next = next} {number = number} {name = name} {es = es} {forms = forms} scope bs h found its are q r =
    let t : Takes scope.kinds.now (parameters_of scope) _ _ _ _ _ _ = node h q in
    let f = function_there scope.kinds.now.functions name number found in
    record {
      extends = extends t.extends r.extends;
      below = r.below;
      pos = r.pos;
      is = λ p g m vs s l.
          let there : slice_get p.tables.functions number ≡ Some f.0 = ap (λ fs. slice_get fs number) p.signatures ∙ f.1 in
          let is_name : function_at p.tables number ≡ name = ap (λ o. unwrap_or (option_map (λ (x : Signature). x.name) o) []) there ∙ f.2 in
          let its_arrays : Some bs ≡ Some (arrays_among f.0.parameters) =
          sym its ∙ sym (ap (λ l. slice_get l number) (arrays_same a p.all (g.functions ∙ r.extends.grows.functions ∙ q.same.functions)))
          ∙ ap (λ l. slice_get l number) p.parameters ∙ slice_get-map (λ (x : Signature). arrays_among x.parameters) scope.kinds.now.functions number ∙ ap (option_map (λ (x : Signature). arrays_among x.parameters)) f.1 in
          let are_arrays : bs ≡ arrays_among f.0.parameters = cc in
          let roles : p.functions.roles name ≡ roles_from 0 bs = ap p.functions.roles (sym f.2) ∙ p.calls.roles number f.0 there ∙ roles_are f.0.parameters ∙ ap (map role_by) (sym are_arrays) in
          r.is p g m vs s l
          ∙ sym (arguments_passed scope p bs 0 forms.items es are (λ as'. call_with p.functions name as' >>= λ w. place_in p m next (w ∷ vs)) _ m vs s l (λ as' ws u k fit.
          first_same (call_with p.functions name as') (call_at p.functions name forms.items ws) _ u (call_same name forms.items ws as' m u k fit)
          ∙ ap (λ (x : List ℕ). (call_at p.functions x forms.items ws >>= λ w. place_in p m next (w ∷ vs)) u) (sym is_name)
          ∙ ap (λ (x : List Value). (call_at p.functions (function_at p.tables number) forms.items x >>= λ w. place_in p m next (w ∷ vs)) u) (sym (taken_all ws vs (values_among forms.items) (sym fit.count)))
          ∙ ap (λ (x : List Value). (call_at p.functions (function_at p.tables number) forms.items (taken (values_among forms.items) (reverse ws ++ vs)) >>= λ w. place_in p m next (w ∷ x)) u) (sym (dropped_all ws vs (values_among forms.items) (sym fit.count)))
          ∙ sym (t.is p (grows r.extends.grows g) m (reverse ws ++ vs) u k)))
          ∙ ap (λ roles'. (take_arguments p.functions roles' [] es >>= λ as'. call_with p.functions name as' >>= λ w. place_in p m next (w ∷ vs)) s) (sym roles)
          ∙ sym (assoc_at (take_arguments p.functions (p.functions.roles name) [] es) (λ as'. call_with p.functions name as') (λ w. place_in p m next (w ∷ vs)) s);
    }

by_role : (functions : Functions) (bs : List Bool) (i : ℕ) (b : Bool) → is_array_at bs i ≡ b → (e : Expr) (es : Exprs) (k : Cont) (vs : List Value) → with_arguments functions (roles_from i bs) (Cons e es) k vs ≡ with_argument (role_by b) (eval functions e) (with_arguments functions (roles_from (suc i) bs) es k) vs
by_role functions bs i b is e es k vs =
    ap (λ (r : Role). with_argument r (eval functions e) (with_arguments functions (drop 1 (roles_from i bs)) es k) vs) (role_at bs i ∙ ap role_by is)
    ∙ ap (λ roles. with_argument (role_by b) (eval functions e) (with_arguments functions roles es k) vs) (drop_more i (map role_by bs))

-- the arguments one by one, from the last one

module _ {kinds : ProgramKinds} {parameters : List FormalParameter} where
  pub no_arguments : {a : Builder} {next : ℕ} (roles : List Role) → Stands next a → Builds kinds parameters a a next (EvaluateArguments roles Nil next)
  no_arguments roles h = record { extends = same; below = h.below; pos = h.pos; is = λ p g m vs s l. refl }

  pub array_argument : {a b : Builder} {j next : ℕ} {e : Expr} {es : Exprs} (bs : List Bool) (i : ℕ) → is_array_at bs i ≡ true → Builds kinds parameters a b j (EvaluateArguments (roles_from (suc i) bs) es next) → Builds kinds parameters a b j (EvaluateArguments (roles_from i bs) (Cons e es) next)
  array_argument {next = next} {e = e} {es = es} bs i is q = record {
    extends = q.extends;
    below = q.below;
    pos = q.pos;
    is = λ p g m vs s l. q.is p g m vs s l ∙ sym (ap (λ (r : Run Value). r s) (by_role p.functions bs i true is e es (place_in p m next) vs));
  }

  pub value_argument : {a b c : Builder} {j k next : ℕ} {e : Expr} {es : Exprs} (bs : List Bool) (i : ℕ) → is_array_at bs i ≡ false → Builds kinds parameters a b j (EvaluateArguments (roles_from (suc i) bs) es next) → Builds kinds parameters b c k (Evaluate e j)
      → Builds kinds parameters a c k (EvaluateArguments (roles_from i bs) (Cons e es) next)
  value_argument {next = next} {e = e} {es = es} bs i is q r = record {
    extends = extends q.extends r.extends;
    below = r.below;
    pos = r.pos;
    is = λ p g m vs s l.
        r.is p g m vs s l
        ∙ later_in _ _ s m (keeps_eval p.functions p.calls.keep e) l (λ w u j. q.is p (grows r.extends.grows g) m (w ∷ vs) u j)
        ∙ sym (ap (λ (x : Run Value). x s) (by_role p.functions bs i false is e es (place_in p m next) vs));
  }
