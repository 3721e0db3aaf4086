-- What an expression that only reads keeps: each variable, and the record. So a variable may be read before it or behind it.
use Rattle.std.proofs.Common.{◌≡◌, ℕ, ℤ, pos, Bool, true, false, ◌&&◌, List, [], ◌∷◌, ◌++◌, length, map, bytes_eq, if◌then◌else◌, Result, Ok, Err, refl, sym, subst, ap, ◌∙◌}
use Rattle.std.specs.Prelude.{codes}
use Rattle.awk_value.specs.declared.value.Value.{Value}
use Rattle.awk_value.specs.declared.value.Value.TheVariants as value
use Rattle.awk_value.specs.Values.{num_of, truth_of, str_of}
use Rattle.awk_lex.specs.declared.token.BuiltIn.{BuiltIn as BuiltInName}
use Rattle.awk_lex.specs.declared.token.BuiltIn.TheVariants as f
use Rattle.awk_lex.specs.declared.token.Operator.TheVariants.{Matches}
use Rattle.awk_grammar.specs.declared.tree.BinaryOperator.{BinaryOperator}
use Rattle.awk_grammar.specs.declared.tree.BinaryOperator.TheVariants.{Concatenate}
use Rattle.awk_grammar.specs.Tree.{Expr, Number, String, Ere, Name, Element, Field, Group, BuiltIn, Length, Unary, Binary, Membership, ListMembership, Conditional, Exprs, Nil, Cons}
use Rattle.awk_semantics.specs.declared.halt.Halt.{Halt}
use Rattle.awk_semantics.specs.definitions.State.{Effect, State, Out, Run, go_on, ◌>>=◌, lift}
use Rattle.awk_semantics.specs.definitions.Faults.{of_values}
use Rattle.awk_semantics.specs.definitions.Operators.{truth_value, changed, applied, takes_pattern}
use Rattle.awk_semantics.specs.definitions.Primitives.{number_of, read_field, record_text, local_in, local_value, global_value, read_name, read_element_at, read_element, has_element_at, has_element, joined_key}
use Rattle.awk_semantics.specs.definitions.BuiltIns.{applied_all, record_length, apply_built_in, roles_of, value_of as argument_value, OfValue}
use Rattle.awk_semantics.specs.definitions.Semantics.{Functions, right_operand, tested, choose, combined, eval, key_of, take_arguments, eval_all}
use Rattle.awk_resolve.specs.support.Nodes.{operated}
use Rattle.awk_resolve.specs.support.Operands.{is_strict}
use Rattle.awk_resolve.specs.support.Parts.{with_last, parts_behind}
use Rattle.awk_kinds.specs.OfValues.{is_of_values}
use Rattle.awk_resolve.specs.support.Readings.{only_reads, all_read, parts_read}
use Rattle.awk_resolve.proofs.Calculus.{go_same}
use Rattle.awk_resolve.proofs.ExpressionForms.{applied_strictly}
use Rattle.awk_resolve.proofs.InPlaceForms.{Strict, strict}
use Rattle.awk_resolve.proofs.BuiltInForms.{values_taken}

-- a state in which each name has the value that it had
pub record SameNames (s t : State) : Type 0 where
  pub frames : t.frames ≡ s.frames
  pub variables : t.variables ≡ s.variables
  pub current : t.current ≡ s.current

same_names : (s : State) → SameNames s s
same_names s = record { frames = refl; variables = refl; current = refl }

names_then : {s t u : State} → SameNames s t → SameNames t u → SameNames s u
names_then e k = record { frames = k.frames ∙ e.frames; variables = k.variables ∙ e.variables; current = k.current ∙ e.current }

pub record Reads {A : Type 0} (m : Run A) : Type 0 where
  pub keeps : (s : State) → SameNames s (m s).state

go_reads : {A B : Type 0} (f : A → Run B) (s : State) → ((a : A) → Reads (f a)) → (r : Result A Halt) (t : State) (effects : List Effect) → SameNames s t → SameNames s (go_on r t effects f).state
unfolding go_on
go_reads f s h (Ok a) t effects e = names_then e ((h a).keeps t)
go_reads f s h (Err x) t effects e = e

reads_then : {A B : Type 0} {m : Run A} {f : A → Run B} → Reads m → ((a : A) → Reads (f a)) → Reads (m >>= f)
unfolding ◌>>=◌
reads_then {m = m} {f = f} x h = record { keeps = λ s. go_reads f s h (m s).result (m s).state (m s).effects (x.keeps s) }

reads_lift : {A : Type 0} (r : Result A Halt) → Reads (lift r)
unfolding lift
reads_lift r = record { keeps = λ s. same_names s }

-- what does the same in each state
reads_alike : {A : Type 0} {m n : Run A} → ((s : State) → m s ≡ n s) → Reads n → Reads m
reads_alike {A = A} same h = record { keeps = λ s. subst (λ (o : Out A). SameNames s o.state) (sym (same s)) (h.keeps s) }

-- the primitives

reads_text : Reads record_text
unfolding record_text
reads_text = record { keeps = λ s. record { frames = refl; variables = refl; current = refl } }

reads_number : (v : Value) → Reads (number_of v)
reads_number v = reads_lift (of_values (num_of v))

reads_field : (n : ℤ) → Reads (read_field n)
unfolding read_field
reads_field n = record { keeps = λ s. record { frames = refl; variables = refl; current = refl } }

reads_name : (x : List ℕ) → Reads (read_name x)
unfolding read_name
reads_name x = record { keeps = λ s. record { frames = refl; variables = refl; current = refl } }

reads_element : (x key : List ℕ) → Reads (read_element x key)
unfolding read_element read_element_at
reads_element x key = record { keeps = λ s. record { frames = refl; variables = refl; current = refl } }

reads_has : (x key : List ℕ) → Reads (has_element x key)
unfolding has_element has_element_at
reads_has x key = record { keeps = λ s. record { frames = refl; variables = refl; current = refl } }

reads_key : (vs : List Value) → Reads (joined_key vs)
unfolding joined_key
reads_key vs = record { keeps = λ s. record { frames = refl; variables = refl; current = refl } }

reads_length : Reads record_length
unfolding record_length
reads_length = reads_then reads_text (λ v. reads_lift (applied_all f.Length (v ∷ [])))

reads_tested : {m : Run Value} → Reads m → Reads (tested m)
unfolding tested
reads_tested h = reads_then h (λ v. reads_lift (Ok (truth_of v)))

reads_choice : {A : Type 0} (b : Bool) {here other : Run A} → Reads here → Reads other → Reads (choose b here other)
reads_choice true h k = h
reads_choice false h k = k

pub both : (a b : Bool) → (a && b) ≡ true → (a ≡ true) × (b ≡ true)
both true true e = (refl, refl)
both true false e = absurd (cc)
both false b e = absurd (cc)

pub and_true : (a b : Bool) → a ≡ true → b ≡ true → (a && b) ≡ true
and_true true b h k = k
and_true false b h k = absurd (cc)

reads_combined : (o : BinaryOperator) (e : Expr) {left right : Run Value} → Strict o → Reads left → Reads right → Reads (combined o left (right_operand (takes_pattern o) e right))
reads_combined o e {left = left} {right = right} k h h' =
    reads_alike (λ s. sym (applied_strictly o k.no_and k.no_or k.no_match left right s e)) (reads_then h (λ x. reads_then h' (λ y. reads_lift (operated o x y))))

-- a function of values alone
pub record OfValues (g : BuiltInName) : Type 0 where
  pub roles : roles_of g ≡ []
  pub applies : (ws : List Value) → apply_built_in g (map OfValue ws) ≡ lift (applied_all g (map argument_value (map OfValue ws)))

pub values_alone : (g : BuiltInName) → is_of_values g ≡ true → OfValues g
unfolding apply_built_in
values_alone f.Substr e = record { roles = refl; applies = λ ws. refl }
values_alone f.Index e = record { roles = refl; applies = λ ws. refl }
values_alone f.Sprintf e = record { roles = refl; applies = λ ws. refl }
values_alone f.ToLower e = record { roles = refl; applies = λ ws. refl }
values_alone f.ToUpper e = record { roles = refl; applies = λ ws. refl }
values_alone f.Int e = record { roles = refl; applies = λ ws. refl }
values_alone g e = absurd (cc)

module _ (functions : Functions) where
  reads_built_in : (g : BuiltInName) (es : Exprs) → OfValues g → Reads (eval_all functions [] es) → Reads (take_arguments functions (roles_of g) [] es >>= λ arguments. apply_built_in g arguments)
  reads_built_in g es k h =
      reads_alike (λ s. ap (λ roles. (take_arguments functions roles [] es >>= λ as'. apply_built_in g as') s) k.roles ∙ values_taken functions es (λ as'. apply_built_in g as') s)
      (reads_then h (λ ws. subst (λ (m : Run Value). Reads m) (sym (k.applies ws)) (reads_lift (applied_all g (map argument_value (map OfValue ws))))))

  mutual
    unfolding eval key_of eval_all

    reads_eval : (e : Expr) → only_reads e ≡ true → Reads (eval functions e)
    reads_eval (Number k) h = reads_lift (Ok (value.Number k))
    reads_eval (String text) h = reads_lift (Ok (value.Text text))
    reads_eval (Ere text) h = reads_then reads_text (λ v. reads_lift (applied Matches v (value.Text text)))
    reads_eval (Name x) h = reads_name x
    reads_eval Length h = reads_length
    reads_eval (Field e) h = reads_then (reads_eval e h) (λ v. reads_then (reads_number v) (λ k. reads_field k))
    reads_eval (Group e) h = reads_eval e h
    reads_eval (Unary o e) h = reads_then (reads_eval e h) (λ v. reads_lift (changed o v))
    reads_eval (Membership e x) h = reads_then (reads_eval e h) (λ v. reads_then (reads_has x (str_of v)) (λ y. reads_lift (Ok (truth_value y))))
    reads_eval (Element x es) h = reads_then (reads_key_of [] es h) (λ key. reads_element x key)
    reads_eval (ListMembership es x) h = reads_then (reads_key_of [] es h) (λ key. reads_then (reads_has x key) (λ y. reads_lift (Ok (truth_value y))))
    reads_eval (BuiltIn g es) h = let k = both (is_of_values g) (all_read es) h in reads_built_in g es (values_alone g k.0) (reads_all [] es k.1)
    reads_eval (Binary o a b) h =
        let k = both (is_strict o) (only_reads a && only_reads b) h in
        let l = both (only_reads a) (only_reads b) k.1 in
        reads_combined o b (strict o k.0) (reads_eval a l.0) (reads_eval b l.1)
    reads_eval (Conditional c a b) h =
        let k = both (only_reads c) (only_reads a && only_reads b) h in
        let l = both (only_reads a) (only_reads b) k.1 in
        reads_then (reads_tested (reads_eval c k.0)) (λ x. reads_choice x (reads_eval a l.0) (reads_eval b l.1))
    reads_eval e h = absurd (cc)

    reads_key_of : (front : List Value) (es : Exprs) → all_read es ≡ true → Reads (key_of functions front es)
    reads_key_of front Nil h = reads_key front
    reads_key_of front (Cons e es) h = let k = both (only_reads e) (all_read es) h in reads_then (reads_eval e k.0) (λ v. reads_key_of (front ++ v ∷ []) es k.1)

    pub reads_all : (front : List Value) (es : Exprs) → all_read es ≡ true → Reads (eval_all functions front es)
    reads_all front Nil h = reads_lift (Ok front)
    reads_all front (Cons e es) h = let k = both (only_reads e) (all_read es) h in reads_then (reads_eval e k.0) (λ v. reads_all (front ++ v ∷ []) es k.1)

-- the parts of a concatenation behind its first

last_reads : (es : Exprs) (e : Expr) → all_read es ≡ true → only_reads e ≡ true → all_read (with_last es e) ≡ true
last_reads Nil e h k = and_true (only_reads e) true k refl
last_reads (Cons x es) e h k = let l = both (only_reads x) (all_read es) h in and_true (only_reads x) (all_read (with_last es e)) l.0 (last_reads es e l.1 k)

pub parts_all : (e : Expr) → parts_read e ≡ true → all_read (parts_behind e) ≡ true
parts_all (Binary Concatenate a b) h = let k = both (only_reads b) (parts_read a) h in last_reads (parts_behind a) b (parts_all a k.1) k.0
parts_all e h = refl

-- a name is read before what only reads, or behind it

abbrev pub value_in : List ℕ → State → Value
value_in x s = local_value (local_in s.frames x) (global_value s x)

pub value_kept : (x : List ℕ) (s t : State) → SameNames s t → value_in x t ≡ value_in x s
value_kept x s t e =
    ap (λ fs. local_value (local_in fs x) (global_value t x)) e.frames
    ∙ ap (λ (v : Value). local_value (local_in s.frames x) v)
    (ap (λ (variables : List ℕ → Value). if bytes_eq x (codes "NF") then value.Number (pos (length t.current.fields)) else variables x) e.variables
    ∙ ap (λ (n : ℕ). if bytes_eq x (codes "NF") then value.Number (pos n) else s.variables x) (ap (λ (r : _). length r.fields) e.current))

read_there : (x : List ℕ) (t : State) (v : Value) → value_in x t ≡ v → {B : Type 0} (g : Value → Run B) → (read_name x >>= g) t ≡ g v t
unfolding ◌>>=◌ go_on read_name
read_there x t v e g = ap (λ (w : Value). g w t) e

pub read_behind : {A B : Type 0} (x : List ℕ) (m : Run A) (g : Value → A → Run B) → Reads m → (s : State) → (read_name x >>= λ old. m >>= λ w. g old w) s ≡ (m >>= λ w. read_name x >>= λ old. g old w) s
unfolding ◌>>=◌
read_behind x m g h s =
    read_there x s (value_in x s) refl (λ old. m >>= λ w. g old w)
    ∙ go_same (m s).result (m s).state (m s).effects (g (value_in x s)) (λ w. read_name x >>= λ old. g old w) (λ w e. sym (read_there x (m s).state (value_in x s) (value_kept x s (m s).state (h.keeps s)) (λ old. g old w)))
