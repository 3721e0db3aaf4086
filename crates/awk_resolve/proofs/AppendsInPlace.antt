-- Assignments of a concatenation that begins with the place itself, built as one node, append to what the place holds.
use Rattle.std.proofs.Common.{◌≡◌, ℕ, ℤ, pos, true, List, [], ◌∷◌, ◌++◌, Option, Some, None, Result, Ok, Err, refl, sym, ap, ◌∙◌, slice_get}
use Rattle.std.specs.Global.{Vec}
use Rattle.awk_value.specs.declared.value.Value.{Value}
use Rattle.awk_value.specs.declared.value.Value.TheVariants as value
use Rattle.awk_value.specs.Values.{num_of, str_of}
use Rattle.awk_lex.specs.declared.token.AssignmentOperator.TheVariants.{Plain}
use Rattle.awk_grammar.specs.declared.tree.BinaryOperator.TheVariants.{Concatenate}
use Rattle.awk_grammar.specs.Tree.{Expr, Name, Element, Binary, Assign, Exprs, Nil, Cons, Expression, Simple}
use Rattle.awk_kinds.specs.definitions.Kinds.{FormalParameter}
use Rattle.awk_kinds.specs.definitions.Signatures.{ProgramKinds}
use Rattle.awk_semantics.specs.declared.halt.Halt.{Halt}
use Rattle.awk_semantics.specs.definitions.State.{State, Run, go_on, ◌>>=◌, lift, ret}
use Rattle.awk_semantics.specs.definitions.Faults.{of_values}
use Rattle.awk_semantics.specs.definitions.Primitives.{number_of, read_element, read_field}
use Rattle.awk_semantics.specs.definitions.Places.{Place as Target, AName, AnElement, read_place, assign_by}
use Rattle.awk_semantics.specs.definitions.Semantics.{Functions, eval, place_of, key_of, eval_all}
use Rattle.awk_semantics.specs.support.Outside.{read_outside}
use Rattle.awk_semantics.proofs.KeepsForms.{keeps_eval_all, keeps_read_place}
use Rattle.awk_storage.specs.declared.position.Variable.{Variable}
use Rattle.awk_storage.specs.declared.position.Variable.TheVariants as variable
use Rattle.awk_storage.specs.declared.position.Place.{Place}
use Rattle.awk_storage.specs.declared.position.Place.TheVariants as place
use Rattle.awk_storage.specs.support.Positions.{read_variable, read_slot, read_local, read_at, assign_by_at}
use Rattle.awk_resolve.specs.declared.builder.Builder.{Builder}
use Rattle.awk_resolve.specs.declared.builder.Exits.{Exits}
use Rattle.awk_resolve.specs.declared.node.Operand.{Operand}
use Rattle.awk_resolve.specs.declared.node.Operand.TheVariants as operand
use Rattle.awk_resolve.specs.declared.node.Key.{Key}
use Rattle.awk_resolve.specs.declared.node.Key.TheVariants as key
use Rattle.awk_resolve.specs.declared.node.Target.{Target as NodeTarget}
use Rattle.awk_resolve.specs.declared.node.Target.TheVariants as target
use Rattle.awk_resolve.specs.declared.node.Node.TheVariants as n
use Rattle.awk_resolve.specs.support.Nodes.{operand_value, operand_values, key_value, append_operands_at, append_operands}
use Rattle.awk_resolve.specs.support.Builds.{Grows, Pushes, Extends, IsIn, Program, Execute, key_value as subscripts_value, Builds, Stands, IsAt, IsOperandOf, AreOperandsOf, FindsAnOperand, FindsEachOperand}
use Rattle.awk_resolve.specs.support.Parts.{is_concatenation, with_last, parts_of, parts_behind}
use Rattle.awk_resolve.specs.support.Targets.{first_part, IsKeyOf, IsTargetOf, FindsATarget}
use Rattle.awk_resolve.proofs.Calculus.{assoc_at, later_same, later_in, first_same, given, stopped}
use Rattle.awk_resolve.proofs.Building.{grows, extends, still, placed, at_once}
use Rattle.awk_resolve.proofs.ValueLists.{all_first, keyed, keeps_key_value}
use Rattle.awk_resolve.proofs.Positions.{at_variable, at_element, assigned_by}
use Rattle.awk_resolve.proofs.PartForms.{texts, concatenated}
use Rattle.awk_resolve.proofs.InPlaceForms.{still_operand}
use Rattle.awk_resolve.proofs.PrintStatements.{values_then}
use Rattle.awk_resolve.proofs.KeyForms.{key_read, key_then}
use Rattle.awk_resolve.proofs.ChangeForms.{changed}

-- an operand that is read gives what it gives, and changes nothing

abbrev Stays : {A : Type 0} → Run A → State → Type 0
Stays {A} m s = (r : Result A Halt) × (m s ≡ lift r s)

slot_stays : (x : Option (List ℕ)) (s : State) → Stays (read_slot x) s
unfolding read_outside lift
slot_stays None s = (Ok value.Nothing, refl)
slot_stays (Some x) s = ((read_outside x s).result, refl)

variable_stays : (names : List (List ℕ)) (x : Variable) (s : State) → Stays (read_variable names x) s
unfolding read_outside read_local lift
variable_stays names (variable.Special x) s = ((read_variable names (variable.Special x) s).result, refl)
variable_stays names variable.FieldCount s = ((read_variable names variable.FieldCount s).result, refl)
variable_stays names (variable.Global i) s = slot_stays (slice_get names i) s
variable_stays names (variable.Local i) s = ((read_local i s).result, refl)

numbered_stays : (k : Result ℤ Halt) (s : State) → Stays (lift k >>= λ n. read_field n) s
unfolding read_field lift ◌>>=◌ go_on
numbered_stays (Ok n) s = ((read_field n s).result, refl)
numbered_stays (Err h) s = (Err h, refl)

field_stays : (r : Result Value Halt) (s : State) → Stays (lift r >>= λ w. number_of w >>= λ n. read_field n) s
field_stays (Ok w) s = let stays = numbered_stays (of_values (num_of w)) s in (stays.0, given w (λ u. number_of u >>= λ n. read_field n) s ∙ stays.1)
field_stays (Err h) s = (Err h, stopped h (λ w. number_of w >>= λ n. read_field n) s)

operand_stays : (names : List (List ℕ)) (a : Operand) (s : State) → Stays (operand_value names a) s
unfolding read_field lift
operand_stays names (operand.Constant w) s = (Ok w, refl)
operand_stays names (operand.Variable x) s = variable_stays names x s
operand_stays names (operand.Field k) s = ((read_field (pos k) s).result, refl)
operand_stays names (operand.FieldAt x) s =
    let is = variable_stays names x s in
    let stays = field_stays is.0 s in
    (stays.0, first_same (read_variable names x) (lift is.0) (λ w. number_of w >>= λ n. read_field n) s is.1 ∙ stays.1)

-- and so do a key's operands
then_stays : {A B : Type 0} (m : Run A) (f : A → Run B) (s : State) (r : Result A Halt) → m s ≡ lift r s → ((a : A) → Stays (f a) s) → Stays (m >>= f) s
then_stays m f s (Ok a) is next = let stays = next a in (stays.0, first_same m (lift (Ok a)) f s is ∙ given a f s ∙ stays.1)
then_stays m f s (Err h) is next = (Err h, first_same m (lift (Err h)) f s is ∙ stopped h f s)

operands_stay : (names : List (List ℕ)) (list : List Operand) (s : State) → Stays (operand_values names list) s
operands_stay names [] s = (Ok [], refl)
operands_stay names (a ∷ list) s =
    let first = operand_stays names a s in
    let others = operands_stay names list s in
    then_stays (operand_value names a) (λ w. operand_values names list >>= λ ws. ret (w ∷ ws)) s first.0 first.1
    (λ w. then_stays (operand_values names list) (λ ws. ret (w ∷ ws)) s others.0 others.1 (λ ws. (Ok (w ∷ ws), refl)))

key_stays : (names : List (List ℕ)) (k : Key) (s : State) → Stays (key_value names k) s
key_stays names (key.At a) s = operand_stays names a s
key_stays names (key.Joined list) s =
    let stays = operands_stay names list.items s in
    then_stays (operand_values names list.items) (λ ws. ret (value.Text (texts ws))) s stays.0 stays.1 (λ ws. (Ok (value.Text (texts ws)), refl))

-- so it may be read once for twice
twice_by : {B : Type 0} (m : Run Value) (f : Value → Value → Run B) (s : State) (r : Result Value Halt) → m s ≡ lift r s → (m >>= λ v. m >>= λ u. f v u) s ≡ (m >>= λ v. f v v) s
twice_by m f s (Ok w) is =
    first_same m (lift (Ok w)) (λ v. m >>= λ u. f v u) s is ∙ given w (λ v. m >>= λ u. f v u) s
    ∙ first_same m (lift (Ok w)) (λ u. f w u) s is ∙ given w (λ u. f w u) s
    ∙ sym (first_same m (lift (Ok w)) (λ v. f v v) s is ∙ given w (λ v. f v v) s)
twice_by m f s (Err h) is =
    first_same m (lift (Err h)) (λ v. m >>= λ u. f v u) s is ∙ stopped h (λ v. m >>= λ u. f v u) s
    ∙ sym (first_same m (lift (Err h)) (λ v. f v v) s is ∙ stopped h (λ v. f v v) s)

-- a concatenation by the part that it begins with

parts_first : (e : Expr) → parts_of e ≡ Cons (first_part e) (parts_behind e)
parts_first (Binary Concatenate a b) = ap (λ es. with_last es b) (parts_first a)
parts_first e = refl

-- what a text and those of values behind it make
abbrev behind : Value → List Value → Value
behind old ws = value.Text (str_of old ++ texts ws)

joined_first : (functions : Functions) (e : Expr) → is_concatenation e ≡ true → (k : Value → Run Value) (s : State) → (eval functions e >>= k) s ≡ (eval functions (first_part e) >>= λ old. eval_all functions [] (parts_behind e) >>= λ ws. k (behind old ws)) s
joined_first functions (Binary Concatenate a b) h k s =
    let e = Binary Concatenate a b in
    first_same (eval functions e) (eval_all functions [] (parts_of e) >>= λ vs. ret (value.Text (texts vs))) k s (concatenated functions a b s)
    ∙ assoc_at (eval_all functions [] (parts_of e)) (λ vs. ret (value.Text (texts vs))) k s
    ∙ later_same (eval_all functions [] (parts_of e)) _ (λ vs. k (value.Text (texts vs))) s (λ vs t. given (value.Text (texts vs)) k t)
    ∙ ap (λ es. (eval_all functions [] es >>= λ vs. k (value.Text (texts vs))) s) (parts_first e)
    ∙ all_first functions (first_part e) (parts_behind e) (λ vs. k (value.Text (texts vs))) s
joined_first functions e h k s = absurd (cc)

module _ {kinds : ProgramKinds} (p : Program kinds) where
  -- what is appended to a place of the language
  abbrev append_at : Target → Exprs → Run Value
  append_at t es = read_place t >>= λ old. eval_all p.functions [] es >>= λ ws. assign_by None t (behind old ws)

  -- an assignment to a variable
  variable_assigned : (x : List ℕ) (e : Expr) → is_concatenation e ≡ true → first_part e ≡ Name x → (s : State) → eval p.functions (Assign Plain (Name x) e) s ≡ append_at (AName x) (parts_behind e) s
  unfolding eval place_of read_place
  variable_assigned x e h begins s =
      given (AName x) (λ t. eval p.functions e >>= λ w. assign_by None t w) s
      ∙ joined_first p.functions e h (λ w. assign_by None (AName x) w) s
      ∙ ap (λ y. (eval p.functions y >>= λ old. eval_all p.functions [] (parts_behind e) >>= λ ws. assign_by None (AName x) (behind old ws)) s) begins

  -- an assignment to an element, whose key is evaluated twice
  element_assigned : (x : List ℕ) (es : Exprs) (e : Expr) → is_concatenation e ≡ true → first_part e ≡ Element x es → (s : State)
      → eval p.functions (Assign Plain (Element x es) e) s
      ≡ (subscripts_value p.functions es >>= λ v. subscripts_value p.functions es >>= λ u. read_element x (str_of u) >>= λ old. eval_all p.functions [] (parts_behind e) >>= λ ws. assign_by None (AnElement x (str_of v)) (behind old ws)) s
  unfolding eval place_of
  element_assigned x es e h begins s =
      let rest = λ (t : Target) (old : Value). eval_all p.functions [] (parts_behind e) >>= λ ws. assign_by None t (behind old ws) in
      assoc_at (key_of p.functions [] es) (λ k. ret (AnElement x k)) (λ t. eval p.functions e >>= λ w. assign_by None t w) s
      ∙ later_same (key_of p.functions [] es) _ (λ k. eval p.functions e >>= λ w. assign_by None (AnElement x k) w) s (λ k t. given (AnElement x k) (λ q. eval p.functions e >>= λ w. assign_by None q w) t)
      ∙ sym (keyed p.functions es (λ k. eval p.functions e >>= λ w. assign_by None (AnElement x k) w) s)
      ∙ later_same (subscripts_value p.functions es) _ _ s (λ v t.
      let at = AnElement x (str_of v) in
      joined_first p.functions e h (λ w. assign_by None at w) t
      ∙ ap (λ y. (eval p.functions y >>= rest at) t) begins
      ∙ assoc_at (key_of p.functions [] es) (λ k. read_element x k) (rest at) t
      ∙ sym (keyed p.functions es (λ k. read_element x k >>= rest at) t))

module _ {kinds : ProgramKinds} {parameters : List FormalParameter} (p : Program kinds) {b : Builder} (g : Grows b p.all) where
  appended_at : (found : List Operand) (es : Exprs) → AreOperandsOf kinds parameters b found es → {t : Target} {q : Place} {w : Value} → IsAt p parameters t q w → (m : ℕ) (s : State) → IsIn p.tables parameters m s
      → append_operands_at p.tables.names q w found s ≡ append_at p t es s
  appended_at found es are {t = t} {q = q} {w = x} at m s i =
      first_same (read_at p.tables.names q x) (read_place t) (λ old. operand_values p.tables.names found >>= λ ws. assign_by_at p.tables.names None q x (behind old ws)) s (sym (at.reads m s i))
      ∙ later_in _ _ s m (keeps_read_place t) i (λ old u j.
      values_then p g found es are (λ ws. assign_by_at p.tables.names None q x (behind old ws)) m u j
      ∙ later_in _ _ u m (keeps_eval_all p.functions p.calls.keep [] es) j (λ ws v l. sym (assigned_by at None m (behind old ws) v l)))

  -- a key that is read where it stands may be evaluated once
  once : (k : Key) (es : Exprs) → IsKeyOf kinds parameters b k es → {B : Type 0} (f : Value → Value → Run B) (m : ℕ) (s : State) → IsIn p.tables parameters m s
      → (subscripts_value p.functions es >>= λ v. subscripts_value p.functions es >>= λ u. f v u) s ≡ (key_value p.tables.names k >>= λ v. f v v) s
  once k es is f m s i =
      let same = key_read p g k es is m s i in
      let stays = key_stays p.tables.names k s in
      twice_by (subscripts_value p.functions es) f s stays.0 (sym same ∙ stays.1)
      ∙ first_same (subscripts_value p.functions es) (key_value p.tables.names k) (λ v. f v v) s (sym same)

module _ {kinds : ProgramKinds} {parameters : List FormalParameter} (p : Program kinds) {b c : Builder} (g : Grows b p.all) (k : Grows c p.all) where
  appended : (t : NodeTarget) (y e : Expr) → IsTargetOf kinds parameters b t y → is_concatenation e ≡ true → y ≡ first_part e → (found : List Operand) → AreOperandsOf kinds parameters c found (parts_behind e)
      → (m : ℕ) (s : State) → IsIn p.tables parameters m s → append_operands p.tables.names t found s ≡ eval p.functions (Assign Plain y e) s
  unfolding read_place
  appended (target.Variable v) y e is h begins found are m s i =
      let at : IsAt p parameters (AName is.name) (place.Variable v) value.Nothing = at_variable g is.variable in
      appended_at p k found (parts_behind e) are at m s i
      ∙ sym (variable_assigned p is.name e h (sym begins ∙ is.is) s)
      ∙ ap (λ z. eval p.functions (Assign Plain z e) s) (sym is.is)
  appended (target.Element a l) y e is h begins found are m s i =
      let x = is.name in
      let es = is.subscripts in
      let rest = λ (w : Value). append_at p (AnElement x (str_of w)) (parts_behind e) in
      key_then p g l es is.key (λ w. append_operands_at p.tables.names (place.Element a) w found) m s i
      ∙ later_in _ rest s m (keeps_key_value p.functions p.calls.keep es) i (λ w u j.
      let at : IsAt p parameters (AnElement x (str_of w)) (place.Element a) w = at_element is.array in
      appended_at p k found (parts_behind e) are at m u j)
      ∙ sym (key_then p g l es is.key rest m s i)
      ∙ sym (once p g l es is.key (λ v u. read_element x (str_of u) >>= λ old. eval_all p.functions [] (parts_behind e) >>= λ ws. assign_by None (AnElement x (str_of v)) (behind old ws)) m s i)
      ∙ sym (element_assigned p x es e h (sym begins ∙ is.is) s)
      ∙ ap (λ z. eval p.functions (Assign Plain z e) s) (sym is.is)

pub append_operands_built : {kinds : ProgramKinds} {parameters : List FormalParameter} {a b c d : Builder} {exits : Exits} {i : ℕ} {y e : Expr} {t : NodeTarget} {found : Vec Operand} → Stands exits.next a → FindsATarget kinds parameters a b t y
    → FindsEachOperand kinds parameters b c found.items (parts_behind e) → is_concatenation e ≡ true → y ≡ first_part e → Pushes c d (n.AppendOperands t found exits.next) i → Builds kinds parameters a d i (Execute (Simple (Expression (Assign Plain y e))) exits)
append_operands_built {y = y} {e = e} {t = t} {found = found} h f k join begins q =
    let before = extends f.extends k.extends in
    let node = placed q (still before h).below in
    changed (Assign Plain y e) (λ p. append_operands p.tables.names t found.items) before (still before h) node
    (λ p g m vs s. at_once (node.is p g m) vs s)
    (λ p g m s l. appended p (grows k.extends.grows (grows node.extends.grows g)) (grows node.extends.grows g) t y e f.is join begins found.items k.are m s l)

-- one operand more
are_more : {kinds : ProgramKinds} {parameters : List FormalParameter} {b c : Builder} (list : List Operand) (es : Exprs) {o : Operand} {e : Expr} → Extends b c → AreOperandsOf kinds parameters b list es → IsOperandOf kinds parameters c o e
    → AreOperandsOf kinds parameters c (list ++ o ∷ []) (with_last es e)
are_more [] Nil g are is = (is, tt)
are_more [] (Cons x es) g are is = absurd are
are_more (a ∷ list) Nil g are is = absurd are
are_more (a ∷ list) (Cons x es) g are is = (still_operand g are.0, are_more list es g are.1 is)

pub one_operand_more : {kinds : ProgramKinds} {parameters : List FormalParameter} {a b c : Builder} {list : List Operand} {es : Exprs} {o : Operand} {e : Expr} → FindsEachOperand kinds parameters a b list es → FindsAnOperand kinds parameters b c o e
    → FindsEachOperand kinds parameters a c (list ++ o ∷ []) (with_last es e)
one_operand_more {list = list} {es = es} f k = record { extends = extends f.extends k.extends; are = are_more list es k.extends f.are k.is }
