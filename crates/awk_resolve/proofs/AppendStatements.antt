-- What is built of an append whose value is of no use: where the parts only read, a variable's text is read behind them.
use Rattle.std.proofs.Common.{◌≡◌, ℕ, true, List, [], ◌++◌, None, sym, ap, ◌∙◌}
use Rattle.std.proofs.lemmas.Slice.Eq.{bytes_eq-Decides}
use Rattle.awk_value.specs.declared.value.Value.{Value}
use Rattle.awk_value.specs.declared.value.Value.TheVariants as value
use Rattle.awk_value.specs.Values.{str_of}
use Rattle.awk_lex.specs.declared.token.AssignmentOperator.TheVariants.{Plain}
use Rattle.awk_grammar.specs.declared.tree.BinaryOperator.TheVariants.{Concatenate}
use Rattle.awk_grammar.specs.Tree.{Expr, Name, Binary, Assign, Nil, Cons, Expression, Simple}
use Rattle.awk_kinds.specs.definitions.Kinds.{FormalParameter}
use Rattle.awk_kinds.specs.definitions.NameUses.{count_of}
use Rattle.awk_kinds.specs.definitions.Signatures.{ProgramKinds}
use Rattle.awk_semantics.specs.definitions.State.{State, Run, ◌>>=◌, ret}
use Rattle.awk_semantics.specs.definitions.Primitives.{read_name}
use Rattle.awk_semantics.specs.definitions.Places.{AName, assign_by}
use Rattle.awk_semantics.specs.definitions.Semantics.{Functions, eval, place_of, eval_all}
use Rattle.awk_semantics.proofs.KeepsForms.{keeps_read_name}
use Rattle.awk_storage.specs.declared.position.Variable.{Variable}
use Rattle.awk_storage.specs.declared.position.Place.TheVariants as place
use Rattle.awk_resolve.specs.declared.builder.Builder.{Builder}
use Rattle.awk_resolve.specs.declared.builder.Exits.{Exits}
use Rattle.awk_resolve.specs.declared.node.Node.TheVariants as n
use Rattle.awk_resolve.specs.support.Nodes.{append_to}
use Rattle.awk_resolve.specs.support.Appends.{begins_with, is_append}
use Rattle.awk_resolve.specs.support.Builds.{Grows, Pushes, IsIn, Program, EvaluateAll, Execute, Builds, FindsVariable, IsVariableOf, IsAt, Stands}
use Rattle.awk_resolve.specs.support.Parts.{with_last, parts_of, parts_behind}
use Rattle.awk_resolve.specs.support.Readings.{parts_read}
use Rattle.awk_resolve.proofs.Calculus.{assoc_at, later_same, later_in, first_same, given}
use Rattle.awk_resolve.proofs.Building.{grows, still}
use Rattle.awk_resolve.proofs.ValueLists.{taken_all, dropped_all, all_first, counted}
use Rattle.awk_resolve.proofs.Positions.{at_variable, assigned_by}
use Rattle.awk_resolve.proofs.Taking.{append_node, list_first, alike}
use Rattle.awk_resolve.proofs.ExpressionForms.{takes_behind}
use Rattle.awk_resolve.proofs.PartForms.{texts, concatenated}
use Rattle.awk_resolve.proofs.ReadingForms.{reads_all, parts_all, read_behind}
use Rattle.awk_resolve.proofs.ChangeForms.{discarded_built}

-- a concatenation that begins with a name
parts_begin : (x : List ℕ) (e : Expr) → begins_with x e ≡ true → parts_of e ≡ Cons (Name x) (parts_behind e)
parts_begin x (Name y) h = ap (λ (z : List ℕ). Cons (Name z) Nil) ((bytes_eq-Decides y x).0 h)
parts_begin x (Binary Concatenate a b) h = ap (λ es. with_last es b) (parts_begin x a h)
parts_begin x e h = absurd (cc)

begins : (x : List ℕ) (e : Expr) → is_append Plain (Name x) e ≡ true → begins_with x e ≡ true
begins x (Binary Concatenate a b) h = h
begins x e h = absurd (cc)

text_of_parts : (functions : Functions) (x : List ℕ) (e : Expr) → is_append Plain (Name x) e ≡ true → (s : State) → eval functions e s ≡ (eval_all functions [] (parts_of e) >>= λ vs. ret (value.Text (texts vs))) s
text_of_parts functions x (Binary Concatenate a b) h s = concatenated functions a b s
text_of_parts functions x e h s = absurd (cc)

-- a variable gets its text with those of values behind it
abbrev append_name : List ℕ → List Value → Run Value
append_name x ws = read_name x >>= λ old. assign_by None (AName x) (value.Text (str_of old ++ texts ws))

append_read : (functions : Functions) (x : List ℕ) (e : Expr) → is_append Plain (Name x) e ≡ true → parts_read e ≡ true → (s : State) → eval functions (Assign Plain (Name x) e) s ≡ (eval_all functions [] (parts_behind e) >>= append_name x) s
unfolding eval place_of
append_read functions x e h r s =
    let all = λ (w : Value). assign_by None (AName x) w in
    given (AName x) (λ t. eval functions e >>= λ w. assign_by None t w) s
    ∙ first_same (eval functions e) (eval_all functions [] (parts_of e) >>= λ vs. ret (value.Text (texts vs))) all s (text_of_parts functions x e h s)
    ∙ assoc_at (eval_all functions [] (parts_of e)) (λ vs. ret (value.Text (texts vs))) all s
    ∙ later_same (eval_all functions [] (parts_of e)) _ (λ vs. all (value.Text (texts vs))) s (λ vs t. given (value.Text (texts vs)) all t)
    ∙ ap (λ es. (eval_all functions [] es >>= λ vs. all (value.Text (texts vs))) s) (parts_begin x e (begins x e h))
    ∙ all_first functions (Name x) (parts_behind e) (λ vs. all (value.Text (texts vs))) s
    ∙ read_behind x (eval_all functions [] (parts_behind e)) (λ old ws. all (value.Text (str_of old ++ texts ws))) (reads_all functions [] (parts_behind e) (parts_all e r)) s

append_same : {kinds : ProgramKinds} {parameters : List FormalParameter} {b : Builder} (p : Program kinds) {variable : Variable} {x : List ℕ} → Grows b p.all → IsVariableOf kinds parameters b variable x → (ws : List Value) (m : ℕ) (s : State) → IsIn p.tables parameters m s
    → append_to p.tables.names variable ws s ≡ append_name x ws s
append_same {parameters = parameters} p {variable = variable} {x = x} g is ws m s l =
    let at : IsAt p parameters (AName x) (place.Variable variable) value.Nothing = at_variable g is in
    sym (later_in _ _ s m (keeps_read_name x) l (λ old t k. assigned_by at None m (value.Text (str_of old ++ texts ws)) t k) ∙ first_same (read_name x) _ _ s (is.reads p g m s l))

pub append_to_built : {kinds : ProgramKinds} {parameters : List FormalParameter} {a b c d f : Builder} {exits : Exits} {i j l count : ℕ} {variable : Variable} {x : List ℕ} (e : Expr) → Stands exits.next a → FindsVariable kinds parameters a b variable x
    → is_append Plain (Name x) e ≡ true → parts_read e ≡ true → count ≡ count_of (parts_behind e) → Pushes b c (n.AppendTo variable count exits.next) l → Builds kinds parameters c d i (EvaluateAll (parts_behind e) l) → Pushes d f (n.Spend i) j
    → Builds kinds parameters a f j (Execute (Simple (Expression (Assign Plain (Name x) e))) exits)
append_to_built {count = count} {variable = variable} {x = x} e h k append reads many q r t =
    let es = parts_behind e in
    let u = list_first (λ vs. vs) (append_node (still k.extends h) q) es r (λ ws vs l. dropped_all ws vs count (l ∙ sym many)) in
    discarded_built (Assign Plain (Name x) e)
    (takes_behind k.extends (alike u (λ p g m vs s l.
    counted p.functions p.calls.keep es _ (append_name x) m s l (λ ws u' long inside.
    ap (λ zs. append_to p.tables.names variable zs u') (taken_all ws vs count (long ∙ sym many))
    ∙ append_same p (grows u.extends.grows g) k.is ws m u' inside)
    ∙ sym (append_read p.functions x e append reads s)))) t
