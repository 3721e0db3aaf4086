-- `sub` and `gsub`, in the record or in a place.
use Rattle.std.proofs.Math.Nat.{le_refl}
use Rattle.std.proofs.Common.{◌≡◌, ℕ, suc, ◌+◌, pos, Bool, true, false, List, [], ◌∷◌, drop, slice_get, Option, Some, None, Ok, codes, refl, sym, subst, ap, ◌∙◌}
use Rattle.awk_value.specs.declared.value.Value.{Value}
use Rattle.awk_value.specs.declared.value.Value.TheVariants as value
use Rattle.awk_value.specs.Values.{str_of}
use Rattle.awk_kinds.specs.Variables.{name_of}
use Rattle.awk_grammar.specs.Tree.{Expr, Ere, String, Name, BuiltIn, Exprs, Nil, Cons}
use Rattle.awk_kinds.specs.definitions.Kinds.{FormalParameter}
use Rattle.awk_kinds.specs.definitions.Signatures.{ProgramKinds}
use Rattle.awk_semantics.specs.definitions.State.{State, Run, ◌>>=◌, lift, ret}
use Rattle.awk_semantics.specs.definitions.Operators.{pattern_in}
use Rattle.awk_semantics.specs.definitions.Texts.{exchanged}
use Rattle.awk_semantics.specs.definitions.Primitives.{record_text, read_element_at}
use Rattle.awk_semantics.specs.definitions.Places.{Place as Target, AName, AField, read_place}
use Rattle.awk_semantics.specs.definitions.BuiltIns.{Role, AsValue, AsPattern, AsPlace, Argument, OfValue, OfEre, OfPlace, value_of as argument_value, assign_exchange, exchange, apply_built_in}
use Rattle.awk_semantics.specs.definitions.Semantics.{Functions, eval, place_of, take_arguments}
use Rattle.awk_semantics.specs.support.Keeps.{Keeps}
use Rattle.awk_semantics.proofs.Keeping.{keeps_bind, keeps_lift, keeps_at}
use Rattle.awk_semantics.proofs.KeepsForms.{keeps_eval, keeps_number_of, keeps_read_field, keeps_read_outside, keeps_read_element_at, keeps_read_place, keeps_record_text}
use Rattle.awk_storage.specs.declared.position.Variable.{Variable}
use Rattle.awk_storage.specs.declared.position.Variable.TheVariants as variable
use Rattle.awk_storage.specs.declared.position.Array.{Array}
use Rattle.awk_storage.specs.declared.position.Place.{Place}
use Rattle.awk_storage.specs.declared.position.Place.TheVariants as place
use Rattle.awk_storage.specs.support.Positions.{read_local, read_slot, number_at, read_element_of, read_variable, read_at}
use Rattle.awk_storage.specs.support.Forms.{substitute_at}
use Rattle.awk_resolve.specs.declared.builder.Builder.{Builder}
use Rattle.awk_resolve.specs.declared.node.Exchange.{Exchange}
use Rattle.awk_resolve.specs.declared.node.ValueNode.TheVariants as v
use Rattle.awk_resolve.specs.declared.node.Node.TheVariants as n
use Rattle.awk_resolve.specs.support.Nodes.{Tables, ere_at, first, second, operands, pattern_operands, target_operands, substitute_by, substitute_in}
use Rattle.awk_resolve.specs.support.Builds.{Grows, Pushes, Extends, IsIn, Program, Evaluate, EvaluateOperand, EvaluateUnlessEre, IsAt, FindsVariable, FindsPlace, Builds, Stands}
use Rattle.awk_resolve.specs.support.Exchanges.{FindsExchangeBy, FindsAnExchange}
use Rattle.awk_resolve.specs.support.Operands.{FindsPattern, substitution}
use Rattle.awk_resolve.proofs.Calculus.{assoc_at, later_same, later_in, first_same, given}
use Rattle.awk_resolve.proofs.Building.{grows, extends, same, still}
use Rattle.awk_resolve.proofs.Positions.{at_variable, at_field, exchanged_in}
use Rattle.awk_resolve.proofs.Taking.{pushed, Takes, node, takes_stand, value_first, place_first, taken_first, evaluates}
use Rattle.awk_resolve.proofs.ExpressionForms.{takes_behind, ere_added, ere_there}
use Rattle.awk_resolve.proofs.PatternForms.{evaluated_unless_ere, ere_first}
use Rattle.awk_resolve.proofs.BuiltInForms.{none_left, value_taken, ere_taken, pattern_taken, place_taken}

-- to read a position keeps what names stand for

keeps_read_local : (i : ℕ) → Keeps (read_local i)
unfolding read_local
keeps_read_local i = record { falls = λ s. le_refl s.steps; scope = λ s a e. refl; outside = λ s. refl }

keeps_read_slot : (o : Option (List ℕ)) → Keeps (read_slot o)
keeps_read_slot None = keeps_lift (Ok value.Nothing)
keeps_read_slot (Some x) = keeps_read_outside x

keeps_read_variable : (names : List (List ℕ)) (x : Variable) → Keeps (read_variable names x)
keeps_read_variable names (variable.Special x) = keeps_read_outside (name_of x)
keeps_read_variable names variable.FieldCount = keeps_read_outside (codes "NF")
keeps_read_variable names (variable.Global i) = keeps_read_slot (slice_get names i)
keeps_read_variable names (variable.Local i) = keeps_read_local i

keeps_read_element : (a : Array) (key : List ℕ) → Keeps (read_element_of a key)
unfolding read_element_of
keeps_read_element a key = keeps_at (λ s. (read_element_at (number_at a s) key, keeps_read_element_at (number_at a s) key, refl))

keeps_read_at : (names : List (List ℕ)) (q : Place) (operand : Value) → Keeps (read_at names q operand)
keeps_read_at names (place.Variable x) operand = keeps_read_variable names x
keeps_read_at names (place.Element a) operand = keeps_read_element a (str_of operand)
keeps_read_at names place.Field operand = keeps_bind (keeps_number_of operand) (λ k. keeps_read_field k)

-- what is exchanged at a position is exchanged at its place

module _ {kinds : ProgramKinds} (p : Program kinds) {parameters : List FormalParameter} (all : Bool) (pattern : Argument) (replacement : Value) where
  exchanged_place : (t : Target) (q : Place) (operand old : Value) → IsAt p parameters t q operand → (n : ℕ) (s : State) → IsIn p.tables parameters n s
      → substitute_at p.tables.names all (str_of (argument_value pattern)) (str_of replacement) q operand old s ≡ exchange all (pattern ∷ (OfValue replacement ∷ (OfPlace t old ∷ []))) s
  unfolding exchange
  exchanged_place t q operand old at n s i =
      later_in _ _ s n (keeps_lift (pattern_in (str_of (argument_value pattern)))) i (λ tree u h. sym (exchanged_in at (exchanged all tree (str_of replacement) (str_of old)).count (exchanged all tree (str_of replacement) (str_of old)).text n u h))
      ∙ sym (given (t, old) (λ (x : Target × Value). lift (pattern_in (str_of (argument_value pattern))) >>= λ tree. assign_exchange x.0 (exchanged all tree (str_of replacement) (str_of x.1)).count (exchanged all tree (str_of replacement) (str_of x.1)).text) s)

  exchanged_record : (n : ℕ) (s : State) → IsIn p.tables parameters n s
      → (record_text >>= λ old. substitute_at p.tables.names all (str_of (argument_value pattern)) (str_of replacement) place.Field (value.Number (pos 0)) old) s ≡ exchange all (pattern ∷ (OfValue replacement ∷ [])) s
  unfolding exchange
  exchanged_record n s i =
      let f = λ (x : Target × Value). lift (pattern_in (str_of (argument_value pattern))) >>= λ tree. assign_exchange x.0 (exchanged all tree (str_of replacement) (str_of x.1)).count (exchanged all tree (str_of replacement) (str_of x.1)).text in
      later_in _ _ s n keeps_record_text i (λ old u h.
      later_in _ _ u n (keeps_lift (pattern_in (str_of (argument_value pattern)))) h (λ tree u1 h1.
      sym (exchanged_in {p = p} {parameters = parameters} at_field (exchanged all tree (str_of replacement) (str_of old)).count (exchanged all tree (str_of replacement) (str_of old)).text n u1 h1))
      ∙ sym (given (AField (pos 0), old) f u))
      ∙ sym (assoc_at record_text (λ old. ret (AField (pos 0), old)) f s)

abbrev roles : List Role
roles = AsPattern ∷ (AsValue ∷ (AsPlace ∷ []))

exchanges : (functions : Functions) (all : Bool) (es : Exprs) (s : State) → (take_arguments functions roles [] es >>= λ as'. exchange all as') s ≡ eval functions (BuiltIn (substitution all) es) s
unfolding eval apply_built_in
exchanges functions true es s = refl
exchanges functions false es s = refl

-- in the record

pub substitute_lowered : {kinds : ProgramKinds} {parameters : List FormalParameter} {a b c d e : Builder} {i j k next : ℕ} {x y : Expr} (all : Bool) (pattern : Option ℕ) → Stands next a → FindsPattern a b pattern y → Pushes b c (n.Value (v.Substitute all pattern None) next) j
    → Builds kinds parameters c d k (Evaluate x j) → Builds kinds parameters d e i (EvaluateUnlessEre y k) → Builds kinds parameters a e i (Evaluate (BuiltIn (substitution all) (Cons y (Cons x Nil))) next)
substitute_lowered {kinds = kinds} {parameters = parameters} {a = a} {d = d} {e = e} {i = i} {k = k} {next = next} {x = x} all (Some number) h found q r r' =
    subst (λ (z : Expr). Builds kinds parameters a e i (Evaluate (BuiltIn (substitution all) (Cons z (Cons x Nil))) next)) (sym found.is)
    (let g = ere_added found.adds in
    let t = ere_first (value_first (λ vs. vs) (node (still g h) q) x r (λ u vs. refl)) (subst (λ (z : Expr). Builds kinds parameters d e i (EvaluateUnlessEre z k)) found.is r') in
    evaluates (takes_behind g t) (λ vs. refl) (BuiltIn (substitution all) (Cons (Ere found.text) (Cons x Nil))) (λ p l m vs s z.
    later_in _ _ s m (keeps_eval p.functions p.calls.keep x) z (λ u t' k'.
    ap (λ (text : List ℕ). (record_text >>= λ old. substitute_at p.tables.names all text (str_of u) place.Field (value.Number (pos 0)) old) t') (ere_there found.adds p (grows t.extends.grows l))
    ∙ exchanged_record p all (OfEre found.text) u m t' k')
    ∙ sym (ere_taken p.functions (AsValue ∷ (AsPlace ∷ [])) found.text (Cons x Nil) (λ as'. exchange all as') s
    ∙ value_taken p.functions (AsPlace ∷ []) x Nil (λ as'. exchange all (OfEre found.text ∷ as')) s
    ∙ later_same (eval p.functions x) _ _ s (λ u t'. none_left p.functions (AsPlace ∷ []) (λ as'. exchange all (OfEre found.text ∷ (OfValue u ∷ as'))) t'))
    ∙ exchanges p.functions all (Cons (Ere found.text) (Cons x Nil)) s))
substitute_lowered {c = c} {j = j} {next = next} {x = x} {y = y} all None h found q r r' =
    let t = value_first (λ vs. drop 1 vs) (node h (subst (λ (z : Builder). Pushes z c (n.Value (v.Substitute all None None) next) j) found.same q)) x r (λ u vs. refl) in
    evaluates (value_first (λ vs. vs) t y (evaluated_unless_ere y found.not_ere r') (λ u vs. refl)) (λ vs. refl) (BuiltIn (substitution all) (Cons y (Cons x Nil))) (λ p l m vs s z.
    later_in _ _ s m (keeps_eval p.functions p.calls.keep y) z (λ w t' k'. later_in _ _ t' m (keeps_eval p.functions p.calls.keep x) k' (λ u t1 k1. exchanged_record p all (OfValue w) u m t1 k1))
    ∙ sym (pattern_taken p.functions (AsValue ∷ (AsPlace ∷ [])) y (Cons x Nil) (λ as'. exchange all as') s found.not_ere
    ∙ later_same (eval p.functions y) _ _ s (λ w t'.
    value_taken p.functions (AsPlace ∷ []) x Nil (λ as'. exchange all (OfValue w ∷ as')) t'
    ∙ later_same (eval p.functions x) _ _ t' (λ u t1. none_left p.functions (AsPlace ∷ []) (λ as'. exchange all (OfValue w ∷ (OfValue u ∷ as'))) t1)))
    ∙ exchanges p.functions all (Cons y (Cons x Nil)) s)

-- in a place

left_below : (q : Place) (pattern : Option ℕ) (old : Value) (ws : List Value) → drop (target_operands (Some q) + suc (pattern_operands pattern)) (old ∷ ws) ≡ drop (suc (pattern_operands pattern)) (drop (operands q) ws)
left_below (place.Variable x) (Some i) old ws = refl
left_below (place.Variable x) None old ws = refl
left_below (place.Element a) (Some i) old [] = refl
left_below (place.Element a) (Some i) old (w ∷ ws) = refl
left_below (place.Element a) None old [] = refl
left_below (place.Element a) None old (w ∷ ws) = refl
left_below place.Field (Some i) old [] = refl
left_below place.Field (Some i) old (w ∷ ws) = refl
left_below place.Field None old [] = refl
left_below place.Field None old (w ∷ ws) = refl

-- the pattern among the values on the stack
abbrev pattern_below : Option ℕ → (text : List ℕ) → List Value → Argument
pattern_below (Some i) text vs = OfEre text
pattern_below None text vs = OfValue (second vs)

substituted : {kinds : ProgramKinds} (p : Program kinds) {parameters : List FormalParameter} (all : Bool) (pattern : Option ℕ) (text : List ℕ) → ((i : ℕ) → pattern ≡ Some i → ere_at p.tables i ≡ text) → (t : Target) (q : Place) (operand old : Value) (vs : List Value) → IsAt p parameters t q operand
    → (n : ℕ) (s : State) → IsIn p.tables parameters n s → substitute_by p.tables all pattern q operand old vs s ≡ exchange all (pattern_below pattern text vs ∷ (OfValue (first vs) ∷ (OfPlace t old ∷ []))) s
substituted p all (Some i) text there t q operand old vs at n s h =
    ap (λ (l : List ℕ). substitute_at p.tables.names all l (str_of (first vs)) q operand old s) (there i refl) ∙ exchanged_place p all (OfEre text) (first vs) t q operand old at n s h
substituted p all None text there t q operand old vs at n s h = exchanged_place p all (OfValue (second vs)) (first vs) t q operand old at n s h

module _ {kinds : ProgramKinds} {parameters : List FormalParameter} {a b c d e f : Builder} {i j k next : ℕ} {target : Expr} {q : Place} (all : Bool) (pattern : Option ℕ) (h : Stands next a) (found : FindsPlace kinds parameters a b q target) where
  -- the place is evaluated, and a match in its old value exchanged
  place_exchanged : (text : List ℕ) → Extends b c → ((p : Program kinds) → Grows c p.all → (m : ℕ) → pattern ≡ Some m → ere_at p.tables m ≡ text) → Pushes c d (n.Value (v.Substitute all pattern (Some q)) next) j → Pushes d e (n.Value (v.Load q) j) k → Builds kinds parameters e f i (EvaluateOperand target k)
      → Takes kinds parameters a f i (pushed next) (λ p vs. place_of p.functions target >>= λ t. read_place t >>= λ old. exchange all (pattern_below pattern text vs ∷ (OfValue (first vs) ∷ (OfPlace t old ∷ [])))) (λ vs. drop (suc (pattern_operands pattern)) vs)
  place_exchanged text g there r r' r'' =
      let substitutes : Takes kinds parameters c d j (pushed next) _ _ = node (still g (still found.extends h)) r in
      let loads : Takes kinds parameters d e k (pushed j) _ _ = node (takes_stand substitutes) r' in
      let both = taken_first (λ ws. drop (suc (pattern_operands pattern)) (drop (operands q) ws)) substitutes loads (λ p ws. keeps_read_at p.tables.names q (first ws)) (λ old ws. left_below q pattern old ws) in
      place_first (λ vs. drop (suc (pattern_operands pattern)) vs) (λ p vs t. read_place t >>= λ old. exchange all (pattern_below pattern text vs ∷ (OfValue (first vs) ∷ (OfPlace t old ∷ [])))) found.extends found.is (takes_behind g both) r'' (λ ws. refl)
      (λ p l m t ws vs u z at dropped.
      first_same _ (read_place t) _ u (sym (at.reads m u z))
      ∙ later_in _ _ u m (keeps_read_place t) z (λ old u' z'.
      ap (λ (us : List Value). substitute_by p.tables all pattern q (first ws) old us u') dropped
      ∙ substituted p all pattern text (λ o is. there p (grows both.extends.grows (grows r''.extends.grows l)) o is) t q (first ws) old vs at m u' z'))

pub substitute_place_lowered : {kinds : ProgramKinds} {parameters : List FormalParameter} {a b c d e f f' f'' : Builder} {i j k l m next : ℕ} {x y target : Expr} {q : Place} (all : Bool) (pattern : Option ℕ) → Stands next a → FindsPlace kinds parameters a b q target → FindsPattern b c pattern y
    → Pushes c d (n.Value (v.Substitute all pattern (Some q)) next) j → Pushes d e (n.Value (v.Load q) j) k → Builds kinds parameters e f l (EvaluateOperand target k) → Builds kinds parameters f f' m (Evaluate x l) → Builds kinds parameters f' f'' i (EvaluateUnlessEre y m)
    → Builds kinds parameters a f'' i (Evaluate (BuiltIn (substitution all) (Cons y (Cons x (Cons target Nil)))) next)
substitute_place_lowered {kinds = kinds} {parameters = parameters} {a = a} {f' = f'} {f'' = f''} {i = i} {m = m} {next = next} {x = x} {target = target} {q = q} all (Some number) h place_found found r1 r2 r3 r4 r5 =
    subst (λ (z : Expr). Builds kinds parameters a f'' i (Evaluate (BuiltIn (substitution all) (Cons z (Cons x (Cons target Nil)))) next)) (sym found.is)
    (let there = λ (p : Program kinds) (g : _) (o : ℕ) (is : Some number ≡ Some o). (let z : number ≡ o = cc in ap (λ z'. ere_at p.tables z') (sym z) ∙ ere_there found.adds p g) in
    let t = place_exchanged all (Some number) h place_found found.text (ere_added found.adds) there r1 r2 r3 in
    let t' = ere_first (value_first (λ vs. vs) t x r4 (λ u vs. refl)) (subst (λ (z : Expr). Builds kinds parameters f' f'' i (EvaluateUnlessEre z m)) found.is r5) in
    evaluates t' (λ vs. refl) (BuiltIn (substitution all) (Cons (Ere found.text) (Cons x (Cons target Nil)))) (λ p l' m' vs s z.
    sym (ere_taken p.functions (AsValue ∷ (AsPlace ∷ [])) found.text (Cons x (Cons target Nil)) (λ as'. exchange all as') s
    ∙ value_taken p.functions (AsPlace ∷ []) x (Cons target Nil) (λ as'. exchange all (OfEre found.text ∷ as')) s
    ∙ later_same (eval p.functions x) _ _ s (λ u t1.
    place_taken p.functions [] target Nil (λ as'. exchange all (OfEre found.text ∷ (OfValue u ∷ as'))) t1
    ∙ later_same (place_of p.functions target) _ _ t1 (λ o t2. later_same (read_place o) _ _ t2 (λ old t3. none_left p.functions [] (λ as'. exchange all (OfEre found.text ∷ (OfValue u ∷ (OfPlace o old ∷ as')))) t3))))
    ∙ exchanges p.functions all (Cons (Ere found.text) (Cons x (Cons target Nil))) s))
substitute_place_lowered {kinds = kinds} {d = d} {j = j} {next = next} {x = x} {y = y} {target = target} {q = q} all None h place_found found r1 r2 r3 r4 r5 =
    let there = λ (p : Program kinds) (g : _) (o : ℕ) (is : None ≡ Some o). absurd (cc) in
    let t = place_exchanged all None h place_found [] same there (subst (λ (z : Builder). Pushes z d (n.Value (v.Substitute all None (Some q)) next) j) found.same r1) r2 r3 in
    let t' = value_first (λ vs. vs) (value_first (λ vs. drop 1 vs) t x r4 (λ u vs. refl)) y (evaluated_unless_ere y found.not_ere r5) (λ u vs. refl) in
    evaluates t' (λ vs. refl) (BuiltIn (substitution all) (Cons y (Cons x (Cons target Nil)))) (λ p l' m' vs s z.
    sym (pattern_taken p.functions (AsValue ∷ (AsPlace ∷ [])) y (Cons x (Cons target Nil)) (λ as'. exchange all as') s found.not_ere
    ∙ later_same (eval p.functions y) _ _ s (λ w t0.
    value_taken p.functions (AsPlace ∷ []) x (Cons target Nil) (λ as'. exchange all (OfValue w ∷ as')) t0
    ∙ later_same (eval p.functions x) _ _ t0 (λ u t1.
    place_taken p.functions [] target Nil (λ as'. exchange all (OfValue w ∷ (OfValue u ∷ as'))) t1
    ∙ later_same (place_of p.functions target) _ _ t1 (λ o t2. later_same (read_place o) _ _ t2 (λ old t3. none_left p.functions [] (λ as'. exchange all (OfValue w ∷ (OfValue u ∷ (OfPlace o old ∷ as')))) t3)))))
    ∙ exchanges p.functions all (Cons y (Cons x (Cons target Nil))) s)

-- with nothing on the stack: the pattern is an ERE, and the replacement a string

string_then : {B : Type 0} (functions : Functions) (text : List ℕ) (f : Value → Run B) (s : State) → (eval functions (String text) >>= f) s ≡ f (value.Text text) s
unfolding eval
string_then functions text f s = given (value.Text text) f s

name_then : {B : Type 0} (functions : Functions) (x : List ℕ) (f : Target → Run B) (s : State) → (place_of functions (Name x) >>= f) s ≡ f (AName x) s
unfolding place_of
name_then functions x f s = given (AName x) f s

-- by the text of an ERE
abbrev substitute_by_text : (names : List (List ℕ)) (all : Bool) (text : List ℕ) (replacement : Value) → Option Variable → Run Value
substitute_by_text names all text w None = record_text >>= λ old. substitute_at names all text (str_of w) place.Field (value.Number (pos 0)) old
substitute_by_text names all text w (Some x) = read_variable names x >>= λ old. substitute_at names all text (str_of w) (place.Variable x) value.Nothing old

told_by_text : (tables : Tables) (all : Bool) (i : ℕ) (w : Value) (variable : Option Variable) (s : State) → substitute_in tables all i w variable s ≡ substitute_by_text tables.names all (ere_at tables i) w variable s
told_by_text tables all i w None s = refl
told_by_text tables all i w (Some x) s = refl

string_exchanged : (functions : Functions) (all : Bool) (text replacement : List ℕ) (es : Exprs) (s : State)
    → (take_arguments functions (AsPlace ∷ []) [] es >>= λ as'. exchange all (OfEre text ∷ (OfValue (value.Text replacement) ∷ as'))) s ≡ eval functions (BuiltIn (substitution all) (Cons (Ere text) (Cons (String replacement) es))) s
string_exchanged functions all text replacement es s =
    sym (ere_taken functions (AsValue ∷ (AsPlace ∷ [])) text (Cons (String replacement) es) (λ as'. exchange all as') s
    ∙ value_taken functions (AsPlace ∷ []) (String replacement) es (λ as'. exchange all (OfEre text ∷ as')) s
    ∙ string_then functions replacement (λ u. take_arguments functions (AsPlace ∷ []) [] es >>= λ as'. exchange all (OfEre text ∷ (OfValue u ∷ as'))) s)
    ∙ exchanges functions all (Cons (Ere text) (Cons (String replacement) es)) s

exchange_is : {kinds : ProgramKinds} {b c : Builder} {built : Exchange} {variable : Option Variable} (all : Bool) (text replacement : List ℕ) → FindsExchangeBy b c all text replacement variable built → (p : Program kinds) → Grows c p.all → (s : State)
    → substitute_in p.tables built.all built.ere built.replacement built.variable s ≡ substitute_by_text p.tables.names all text (value.Text replacement) variable s
exchange_is {variable = variable} all text replacement q p g s =
    ap (λ (y : Exchange). substitute_in p.tables y.all y.ere y.replacement y.variable s) q.is
    ∙ told_by_text p.tables all q.number (value.Text replacement) variable s
    ∙ ap (λ (l : List ℕ). substitute_by_text p.tables.names all l (value.Text replacement) variable s) (ere_there q.adds p g)

module _ {kinds : ProgramKinds} {parameters : List FormalParameter} {a c : Builder} {built : Exchange} (all : Bool) (text replacement : List ℕ) where
  pub record_exchange_found : FindsExchangeBy a c all text replacement None built → FindsAnExchange kinds parameters a c built (BuiltIn (substitution all) (Cons (Ere text) (Cons (String replacement) Nil)))
  record_exchange_found q = record {
    extends = ere_added q.adds;
    is = record {
      is = λ p g m s z.
          exchange_is all text replacement q p g s
          ∙ exchanged_record p all (OfEre text) (value.Text replacement) m s z
          ∙ sym (none_left p.functions (AsPlace ∷ []) (λ as'. exchange all (OfEre text ∷ (OfValue (value.Text replacement) ∷ as'))) s)
          ∙ string_exchanged p.functions all text replacement Nil s;
    };
  }

  pub variable_exchange_found : {b : Builder} {x : Variable} {name : List ℕ} → FindsVariable kinds parameters a b x name → FindsExchangeBy b c all text replacement (Some x) built
      → FindsAnExchange kinds parameters a c built (BuiltIn (substitution all) (Cons (Ere text) (Cons (String replacement) (Cons (Name name) Nil))))
  variable_exchange_found {x = x} {name = name} found q =
      let added = ere_added q.adds in
      record {
        extends = extends found.extends added;
        is = record {
          is = λ p g m s z.
              let at : IsAt p parameters (AName name) (place.Variable x) value.Nothing = at_variable (grows added.grows g) found.is in
              exchange_is all text replacement q p g s
              ∙ later_in _ _ s m (keeps_read_variable p.tables.names x) z (λ old u z'. exchanged_place p all (OfEre text) (value.Text replacement) (AName name) (place.Variable x) value.Nothing old at m u z')
              ∙ first_same (read_variable p.tables.names x) (read_place (AName name)) _ s (sym (at.reads m s z))
              ∙ sym (place_taken p.functions [] (Name name) Nil (λ as'. exchange all (OfEre text ∷ (OfValue (value.Text replacement) ∷ as'))) s
              ∙ name_then p.functions name (λ o. read_place o >>= λ old. take_arguments p.functions [] [] Nil >>= λ as'. exchange all (OfEre text ∷ (OfValue (value.Text replacement) ∷ (OfPlace o old ∷ as')))) s
              ∙ later_same (read_place (AName name)) _ _ s (λ old u. none_left p.functions [] (λ as'. exchange all (OfEre text ∷ (OfValue (value.Text replacement) ∷ (OfPlace (AName name) old ∷ as')))) u))
              ∙ string_exchanged p.functions all text replacement (Cons (Name name) Nil) s;
        };
      }

-- and its value is put on the stack
pub exchange_lowered : {kinds : ProgramKinds} {parameters : List FormalParameter} {a b c : Builder} {i next : ℕ} {x : Exchange} {e : Expr} → Stands next a → FindsAnExchange kinds parameters a b x e → Pushes b c (n.Value (v.SubstituteIn x) next) i
    → Builds kinds parameters a c i (Evaluate e next)
exchange_lowered {e = e} h f q =
    let t = node (still f.extends h) q in
    evaluates (takes_behind f.extends t) (λ vs. refl) e (λ p g m vs s l. f.is.is p (grows t.extends.grows g) m s l)
