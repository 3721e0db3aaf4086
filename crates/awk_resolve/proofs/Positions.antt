-- A place of the language and its position: what is read and stored there.
use Rattle.std.proofs.Common.{◌≡◌, ℕ, zero, suc, ℤ, List, [], ◌∷◌, Option, Some, None, refl, sym, ◌∙◌}
use Rattle.awk_value.specs.declared.value.Value.{Value}
use Rattle.awk_value.specs.declared.value.Value.TheVariants as value
use Rattle.awk_value.specs.Values.{str_of}
use Rattle.awk_lex.specs.declared.token.IncrementOperator.{IncrementOperator}
use Rattle.awk_lex.specs.declared.token.Operator.{Operator}
use Rattle.awk_world.specs.declared.world.InputKind.{InputKind}
use Rattle.awk_grammar.specs.Tree.{Expr, Name, Element, Field, Exprs}
use Rattle.awk_kinds.specs.definitions.Kinds.{FormalParameter}
use Rattle.awk_kinds.specs.definitions.Signatures.{ProgramKinds}
use Rattle.awk_semantics.specs.definitions.State.{State, Run, ◌>>=◌, ret}
use Rattle.awk_semantics.specs.definitions.Operators.{applied, by_one, one}
use Rattle.awk_semantics.specs.definitions.Primitives.{number_of, read_field, set_field}
use Rattle.awk_semantics.specs.definitions.Streams.{Answer, ARecord, NoRecord, NotReadable}
use Rattle.awk_semantics.specs.definitions.Places.{Place as Target, AName, AnElement, AField, read_place, store, assign, assign_by, post_increment, receive, receive_main, main_getline, receive_named, named_getline}
use Rattle.awk_semantics.specs.definitions.BuiltIns.{assign_exchange}
use Rattle.awk_semantics.specs.definitions.Semantics.{eval, key_of, place_of}
use Rattle.awk_semantics.proofs.Keeping.{keeps_lift, keeps_plain}
use Rattle.awk_semantics.proofs.PlainRuns.{next_of_plain}
use Rattle.awk_semantics.proofs.KeepsForms.{keeps_spend, keeps_number_of, keeps_read_place, keeps_store, keeps_eval, keeps_next_record}
use Rattle.awk_storage.specs.declared.position.Variable.{Variable}
use Rattle.awk_storage.specs.declared.position.Array.{Array}
use Rattle.awk_storage.specs.declared.position.Place.{Place}
use Rattle.awk_storage.specs.declared.position.Place.TheVariants as place
use Rattle.awk_storage.specs.support.Positions.{read_at, assign_at, assign_by_at, post_increment_at}
use Rattle.awk_storage.specs.support.Forms.{assign_exchange_at, receive_at, receive_main_at, main_getline_at, receive_named_at, named_getline_at}
use Rattle.awk_resolve.specs.declared.builder.Builder.{Builder}
use Rattle.awk_resolve.specs.support.Builds.{Grows, IsIn, Program, IsVariableOf, IsArrayOf, IsAt, IsPlaceOf}
use Rattle.awk_resolve.proofs.Calculus.{assoc_at, later_same, later_in, first_same, given}
use Rattle.awk_resolve.proofs.ValueLists.{keyed, keeps_key_value}
use Rattle.awk_resolve.proofs.Elements.{reads_element, stores_element}

-- what is done with a place

module _ {kinds : ProgramKinds} {p : Program kinds} {parameters : List FormalParameter} {t : Target} {q : Place} {operand : Value} (at : IsAt p parameters t q operand) where
  abbrev Stands : ℕ → State → Type 0
  Stands n s = IsIn p.tables parameters n s

  assigned : (n : ℕ) (w : Value) (s : State) → Stands n s → assign t w s ≡ assign_at p.tables.names q operand w s
  unfolding assign assign_at
  assigned n w s i =
      later_in (λ _. read_place t) (λ _. read_at p.tables.names q operand) s n (keeps_store t w) i (λ _ u h. at.reads n u h)
      ∙ first_same (store t w) _ _ s (at.stores n w s i)

  pub assigned_by : (o : Option Operator) (n : ℕ) (w : Value) (s : State) → Stands n s → assign_by o t w s ≡ assign_by_at p.tables.names o q operand w s
  unfolding assign_by assign_by_at
  assigned_by None n w s i = assigned n w s i
  assigned_by (Some o) n w s i =
      later_in _ _ s n (keeps_read_place t) i (λ old u h. later_in _ _ u n (keeps_lift (applied o old w)) h (λ x u' h'. assigned n x u' h'))
      ∙ first_same (read_place t) _ _ s (at.reads n s i)

  pub incremented : (o : IncrementOperator) (n : ℕ) (s : State) → Stands n s → post_increment o t s ≡ post_increment_at p.tables.names o q operand s
  unfolding post_increment post_increment_at
  incremented o n s i =
      later_in _ _ s n (keeps_read_place t) i (λ v u h.
      later_in _ _ u n (keeps_number_of v) h (λ k u1 h1.
      later_in _ _ u1 n (keeps_lift (applied (by_one o) (value.Number k) one)) h1 (λ w u2 h2.
      first_same (store t w) _ _ u2 (at.stores n w u2 h2))))
      ∙ first_same (read_place t) _ _ s (at.reads n s i)

  pub exchanged_in : (count : ℕ) (text : List ℕ) (n : ℕ) (s : State) → Stands n s → assign_exchange t count text s ≡ assign_exchange_at p.tables.names q operand count text s
  exchanged_in zero text n s i = refl
  exchanged_in (suc k) text n s i = first_same (store t (value.Text text)) _ _ s (at.stores n (value.Text text) s i)

  pub received : (text : List ℕ) (n : ℕ) (s : State) → Stands n s → receive (Some t) text s ≡ receive_at p.tables.names (Some q) operand text s
  received text n s i = at.stores n (value.Input text) s i

-- `getline` to a place or to the record, where what is received is received in the same way
module _ {kinds : ProgramKinds} (p : Program kinds) {parameters : List FormalParameter} (t : Option Target) (q : Option Place) (operand : Value)
    (receives : (text : List ℕ) (n : ℕ) (s : State) → IsIn p.tables parameters n s → receive t text s ≡ receive_at p.tables.names q operand text s) where
  main_received : (found : Option (List ℕ)) (n : ℕ) (s : State) → IsIn p.tables parameters n s → receive_main t found s ≡ receive_main_at p.tables.names q operand found s
  main_received None n s i = refl
  main_received (Some text) n s i = later_in _ _ s n keeps_spend i (λ _ u h. first_same (receive t text) _ _ u (receives text n u h))

  pub main_got : (n : ℕ) (s : State) → IsIn p.tables parameters n s → main_getline t s ≡ main_getline_at p.tables.names q operand s
  unfolding main_getline main_getline_at
  main_got n s i = later_in _ _ s n keeps_next_record i (λ found u h. main_received found n u h)

  named_received : (kind : InputKind) (found : Answer) (n : ℕ) (s : State) → IsIn p.tables parameters n s → receive_named kind t found s ≡ receive_named_at p.tables.names kind q operand found s
  named_received kind (ARecord text) n s i = first_same (receive t text) _ _ s (receives text n s i)
  named_received kind NoRecord n s i = refl
  named_received kind NotReadable n s i = refl

  pub named_got : (kind : InputKind) (name : List ℕ) (n : ℕ) (s : State) → IsIn p.tables parameters n s → named_getline kind name t s ≡ named_getline_at p.tables.names kind name q operand s
  unfolding named_getline named_getline_at
  named_got kind name n s i = later_in _ _ s n (keeps_plain (next_of_plain kind name)) i (λ found u h. named_received kind found n u h)

-- the position of an expression that is a place

numbered : (k : ℤ) {B : Type 0} (f : ℤ → Run B) (s : State) → (number_of (value.Number k) >>= f) s ≡ f k s
numbered k f s = given k f s

module _ {kinds : ProgramKinds} {parameters : List FormalParameter} where
  pub at_variable : {b : Builder} {p : Program kinds} {v : Variable} {x : List ℕ} {operand : Value} → Grows b p.all → IsVariableOf kinds parameters b v x → IsAt p parameters (AName x) (place.Variable v) operand
  unfolding read_place store
  at_variable {p = p} g is = record { reads = λ n s i. is.reads p g n s i; stores = λ n w s i. is.puts p g n w s i }

  pub at_element : {p : Program kinds} {a : Array} {x : List ℕ} {operand : Value} → IsArrayOf kinds parameters a x → IsAt p parameters (AnElement x (str_of operand)) (place.Element a) operand
  unfolding read_place store
  at_element {p = p} {a = a} {x = x} {operand = operand} is = record {
    reads = λ n s i. reads_element a x s (is.is p n s i) (str_of operand);
    stores = λ n w s i. stores_element a x s (is.is p n s i) (str_of operand) w;
  }

  pub at_field : {p : Program kinds} {k : ℤ} → IsAt p parameters (AField k) place.Field (value.Number k)
  unfolding read_place store
  at_field {k = k} = record { reads = λ n s i. sym (numbered k (λ m. read_field m) s); stores = λ n w s i. sym (numbered k (λ m. set_field m w) s) }

module _ {kinds : ProgramKinds} {parameters : List FormalParameter} {b : Builder} where
  pub name_is_place : {v : Variable} {x : List ℕ} → IsVariableOf kinds parameters b v x → IsPlaceOf kinds parameters b (place.Variable v) (Name x)
  unfolding place_of
  name_is_place {x = x} is = record { is = λ p g f k n vs s i alike. given (AName x) f s ∙ alike (AName x) vs s i (at_variable g is) refl }

  pub element_is_place : {a : Array} {x : List ℕ} (es : Exprs) → IsArrayOf kinds parameters a x → IsPlaceOf kinds parameters b (place.Element a) (Element x es)
  unfolding place_of
  element_is_place {x = x} es is = record {
    is = λ p g f k n vs s i alike.
        assoc_at (key_of p.functions [] es) (λ key. ret (AnElement x key)) f s
        ∙ later_same (key_of p.functions [] es) _ _ s (λ key u. given (AnElement x key) f u)
        ∙ sym (keyed p.functions es (λ key. f (AnElement x key)) s)
        ∙ later_in _ _ s n (keeps_key_value p.functions p.calls.keep es) i (λ v u h. alike (AnElement x (str_of v)) (v ∷ vs) u h (at_element is) refl);
  }

  pub field_is_place : (e : Expr) → IsPlaceOf kinds parameters b place.Field (Field e)
  unfolding place_of
  field_is_place e = record {
    is = λ p g f k n vs s i alike.
        assoc_at (eval p.functions e) (λ v. number_of v >>= λ m. ret (AField m)) f s
        ∙ later_in _ _ s n (keeps_eval p.functions p.calls.keep e) i (λ v u h.
        assoc_at (number_of v) (λ m. ret (AField m)) f u
        ∙ later_in _ _ u n (keeps_number_of v) h (λ m u1 h1. given (AField m) f u1 ∙ alike (AField m) (value.Number m ∷ vs) u1 h1 at_field refl));
  }
