-- A statement and what its ending goes on with: its parts in a row, and then that.
use Rattle.std.proofs.Common.{◌≡◌, ℕ, Bool, true, false, List, [], Err, refl, ◌∙◌}
use Rattle.awk_value.specs.declared.value.Value.{Value}
use Rattle.awk_value.specs.declared.value.Value.TheVariants as value
use Rattle.awk_value.specs.Values.{truth_of}
use Rattle.awk_grammar.specs.declared.tree.PrintForm.{PrintForm}
use Rattle.awk_grammar.specs.Tree.{Expr, Exprs, OptionalExpr, NoExpr, AnExpr, PrintList, Output, Expression, Print, Delete, DeleteAll, Next, NextFile, Break, Continue, Exit, Return, SimpleStatement, OptionalSimple, ASimple, Statement, Empty, Simple, Block, If, IfElse, While, Do, ForIn, For, Statements, NoMore, Then}
use Rattle.awk_semantics.specs.declared.flow.Flow.{Flow}
use Rattle.awk_semantics.specs.declared.flow.Flow.TheVariants as flow
use Rattle.awk_semantics.specs.declared.halt.Halt.TheVariants as halt
use Rattle.awk_semantics.specs.definitions.State.{State, Run, ◌>>=◌, lift, ret}
use Rattle.awk_semantics.specs.definitions.Primitives.{spend, keys_in, delete_element, clear_array, set_status}
use Rattle.awk_semantics.specs.definitions.Streams.{close_main}
use Rattle.awk_semantics.specs.definitions.Semantics.{Functions, choose, tested, eval, key_of, printed_values, target_of, print_by, print, begin_test, exit_with, returned_value, exec_simple, exec_part, goes_on, turn, unless_ended, repeat, walk, pass_on, exec, exec_all}
use Rattle.awk_resolve.proofs.Calculus.{assoc_at, later_same, given, stopped}

-- what is chosen, and then what both go on with
choose_then : {A B : Type 0} (b : Bool) (here other : Run A) (f : A → Run B) (s : State) → (choose b here other >>= f) s ≡ choose b (here >>= f) (other >>= f) s
choose_then true here other f s = refl
choose_then false here other f s = refl

pub tested_then : {B : Type 0} (m : Run Value) (f : Bool → Run B) (s : State) → (tested m >>= f) s ≡ (m >>= λ v. f (truth_of v)) s
unfolding tested
tested_then m f s = assoc_at m (λ v. ret (truth_of v)) f s ∙ later_same m _ _ s (λ v t. given (truth_of v) f t)

module _ (functions : Functions) {B : Type 0} (out : Flow → Run B) (s : State) where
  -- simple statements

  pub expression_then : (e : Expr) → (exec_simple functions (Expression e) >>= out) s ≡ (spend >>= λ _. eval functions e >>= λ v. out flow.Normal) s
  unfolding exec_simple
  expression_then e =
      assoc_at spend (λ _. eval functions e >>= λ v. ret flow.Normal) out s
      ∙ later_same spend _ _ s (λ _ t. assoc_at (eval functions e) (λ v. ret flow.Normal) out t ∙ later_same (eval functions e) _ _ t (λ v u. given flow.Normal out u))

  pub print_then : (form : PrintForm) (list : PrintList) (output : Output)
      → (exec_simple functions (Print form list output) >>= out) s ≡ (spend >>= λ _. printed_values functions list >>= λ vs. target_of functions output >>= λ n. print_by functions form n vs >>= λ _. out flow.Normal) s
  unfolding exec_simple print
  print_then form list output =
      let rest = λ (vs : List Value) (n : ℕ). print_by functions form n vs in
      assoc_at (print functions form list output) (λ _. ret flow.Normal) out s
      ∙ later_same (print functions form list output) _ _ s (λ _ t. given flow.Normal out t)
      ∙ assoc_at spend (λ _. printed_values functions list >>= λ vs. target_of functions output >>= λ n. rest vs n) (λ _. out flow.Normal) s
      ∙ later_same spend _ _ s (λ _ t.
      assoc_at (printed_values functions list) (λ vs. target_of functions output >>= λ n. rest vs n) (λ _. out flow.Normal) t
      ∙ later_same (printed_values functions list) _ _ t (λ vs u. assoc_at (target_of functions output) (λ n. rest vs n) (λ _. out flow.Normal) u))

  pub delete_then : (x : List ℕ) (es : Exprs) → (exec_simple functions (Delete x es) >>= out) s ≡ (spend >>= λ _. key_of functions [] es >>= λ key. delete_element x key >>= λ _. out flow.Normal) s
  unfolding exec_simple
  delete_then x es =
      assoc_at spend (λ _. key_of functions [] es >>= λ key. delete_element x key >>= λ _. ret flow.Normal) out s
      ∙ later_same spend _ _ s (λ _ t.
      assoc_at (key_of functions [] es) (λ key. delete_element x key >>= λ _. ret flow.Normal) out t
      ∙ later_same (key_of functions [] es) _ _ t (λ key u. assoc_at (delete_element x key) (λ _. ret flow.Normal) out u ∙ later_same (delete_element x key) _ _ u (λ _ w. given flow.Normal out w)))

  pub delete_all_then : (x : List ℕ) → (exec_simple functions (DeleteAll x) >>= out) s ≡ (spend >>= λ _. clear_array x >>= λ _. out flow.Normal) s
  unfolding exec_simple
  delete_all_then x =
      assoc_at spend (λ _. clear_array x >>= λ _. ret flow.Normal) out s
      ∙ later_same spend _ _ s (λ _ t. assoc_at (clear_array x) (λ _. ret flow.Normal) out t ∙ later_same (clear_array x) _ _ t (λ _ u. given flow.Normal out u))

  pub next_file_then : (exec_simple functions NextFile >>= out) s ≡ (spend >>= λ _. close_main >>= λ _. lift (Err halt.Next)) s
  unfolding exec_simple
  next_file_then =
      assoc_at spend (λ _. close_main >>= λ _. lift (Err halt.Next)) out s
      ∙ later_same spend _ _ s (λ _ t. assoc_at close_main (λ _. lift (Err halt.Next)) out t ∙ later_same close_main _ _ t (λ _ u. stopped halt.Next out u))

  pub next_then : (exec_simple functions Next >>= out) s ≡ (spend >>= λ _. lift (Err halt.Next)) s
  unfolding exec_simple
  next_then = assoc_at spend (λ _. lift (Err halt.Next)) out s ∙ later_same spend _ _ s (λ _ t. stopped halt.Next out t)

  pub break_then : (exec_simple functions Break >>= out) s ≡ (spend >>= λ _. out flow.Break) s
  unfolding exec_simple
  break_then = assoc_at spend (λ _. ret flow.Break) out s ∙ later_same spend _ _ s (λ _ t. given flow.Break out t)

  pub continue_then : (exec_simple functions Continue >>= out) s ≡ (spend >>= λ _. out flow.Continue) s
  unfolding exec_simple
  continue_then = assoc_at spend (λ _. ret flow.Continue) out s ∙ later_same spend _ _ s (λ _ t. given flow.Continue out t)

  pub exit_then : (exec_simple functions (Exit NoExpr) >>= out) s ≡ (spend >>= λ _. lift (Err halt.Exit)) s
  unfolding exec_simple exit_with
  exit_then = assoc_at spend (λ _. lift (Err halt.Exit)) out s ∙ later_same spend _ _ s (λ _ t. stopped halt.Exit out t)

  pub exit_with_then : (e : Expr) → (exec_simple functions (Exit (AnExpr e)) >>= out) s ≡ (spend >>= λ _. eval functions e >>= λ v. set_status v >>= λ _. lift (Err halt.Exit)) s
  unfolding exec_simple exit_with
  exit_with_then e =
      assoc_at spend (λ _. eval functions e >>= λ v. set_status v >>= λ _. lift (Err halt.Exit)) out s
      ∙ later_same spend _ _ s (λ _ t.
      assoc_at (eval functions e) (λ v. set_status v >>= λ _. lift (Err halt.Exit)) out t
      ∙ later_same (eval functions e) _ _ t (λ v u. assoc_at (set_status v) (λ _. lift (Err halt.Exit)) out u ∙ later_same (set_status v) _ _ u (λ _ w. stopped halt.Exit out w)))

  pub return_then : (exec_simple functions (Return NoExpr) >>= out) s ≡ (spend >>= λ _. out (flow.Return value.Nothing)) s
  unfolding exec_simple returned_value
  return_then =
      assoc_at spend (λ _. ret value.Nothing >>= λ v. ret (flow.Return v)) out s
      ∙ later_same spend _ _ s (λ _ t.
      assoc_at (ret value.Nothing) (λ v. ret (flow.Return v)) out t
      ∙ given value.Nothing (λ v. ret (flow.Return v) >>= out) t
      ∙ given (flow.Return value.Nothing) out t)

  pub return_with_then : (e : Expr) → (exec_simple functions (Return (AnExpr e)) >>= out) s ≡ (spend >>= λ _. eval functions e >>= λ v. out (flow.Return v)) s
  unfolding exec_simple returned_value
  return_with_then e =
      assoc_at spend (λ _. eval functions e >>= λ v. ret (flow.Return v)) out s
      ∙ later_same spend _ _ s (λ _ t. assoc_at (eval functions e) (λ v. ret (flow.Return v)) out t ∙ later_same (eval functions e) _ _ t (λ v u. given (flow.Return v) out u))

  -- statements

  pub empty_then : (exec functions Empty >>= out) s ≡ out flow.Normal s
  unfolding exec
  empty_then = given flow.Normal out s

  pub simple_then : (simple : SimpleStatement) → (exec functions (Simple simple) >>= out) s ≡ (exec_simple functions simple >>= out) s
  unfolding exec
  simple_then simple = refl

  pub block_then : (all : Statements) → (exec functions (Block all) >>= out) s ≡ (exec_all functions all >>= out) s
  unfolding exec
  block_then all = refl

  pub none_then : (exec_all functions NoMore >>= out) s ≡ out flow.Normal s
  unfolding exec_all
  none_then = given flow.Normal out s

  pub more_then : (x : Statement) (all : Statements) → (exec_all functions (Then x all) >>= out) s ≡ (exec functions x >>= λ f. pass_on f (exec_all functions all) >>= out) s
  unfolding exec_all
  more_then x all = assoc_at (exec functions x) (λ f. pass_on f (exec_all functions all)) out s

  -- a condition that a statement begins with
  begun_then : (c : Expr) (here other : Run Flow) → ((begin_test functions c >>= λ x. choose x here other) >>= out) s ≡ (spend >>= λ _. eval functions c >>= λ v. choose (truth_of v) (here >>= out) (other >>= out)) s
  unfolding begin_test
  begun_then c here other =
      assoc_at (spend >>= λ _. tested (eval functions c)) (λ x. choose x here other) out s
      ∙ assoc_at spend (λ _. tested (eval functions c)) (λ x. choose x here other >>= out) s
      ∙ later_same spend _ _ s (λ _ t.
      tested_then (eval functions c) (λ x. choose x here other >>= out) t
      ∙ later_same (eval functions c) _ _ t (λ v u. choose_then (truth_of v) here other out u))

  pub if_else_then : (c : Expr) (x y : Statement) → (exec functions (IfElse c x y) >>= out) s ≡ (spend >>= λ _. eval functions c >>= λ v. choose (truth_of v) (exec functions x >>= out) (exec functions y >>= out)) s
  unfolding exec
  if_else_then c x y = begun_then c (exec functions x) (exec functions y)

  pub if_then : (c : Expr) (x : Statement) → (exec functions (If c x) >>= out) s ≡ (spend >>= λ _. eval functions c >>= λ v. choose (truth_of v) (exec functions x >>= out) (ret flow.Normal >>= out)) s
  unfolding exec
  if_then c x = begun_then c (exec functions x) (ret flow.Normal)

  -- loops

  pub while_then : (c : Expr) (x : Statement) → (exec functions (While c x) >>= out) s ≡ (spend >>= λ _. repeat (tested (eval functions c)) (exec functions x) (ret tt) >>= out) s
  unfolding exec
  while_then c x = assoc_at spend (λ _. repeat (tested (eval functions c)) (exec functions x) (ret tt)) out s

  pub do_then : (x : Statement) (c : Expr)
      → (exec functions (Do x c) >>= out) s ≡ (spend >>= λ _. (turn (exec functions x) >>= λ ended. unless_ended ended (repeat (tested (eval functions c)) (exec functions x) (ret tt))) >>= out) s
  unfolding exec
  do_then x c = assoc_at spend (λ _. turn (exec functions x) >>= λ ended. unless_ended ended (repeat (tested (eval functions c)) (exec functions x) (ret tt))) out s

  pub for_then : (first : OptionalSimple) (c : OptionalExpr) (last : OptionalSimple) (x : Statement)
      → (exec functions (For first c last x) >>= out) s ≡ (spend >>= λ _. exec_part functions first >>= λ _. repeat (goes_on functions c) (exec functions x) (exec_part functions last) >>= out) s
  unfolding exec
  for_then first c last x =
      let all = repeat (goes_on functions c) (exec functions x) (exec_part functions last) in
      assoc_at spend (λ _. exec_part functions first >>= λ _. all) out s
      ∙ later_same spend _ _ s (λ _ t. assoc_at (exec_part functions first) (λ _. all) out t)

  pub for_in_then : (x array : List ℕ) (body : Statement)
      → (exec functions (ForIn x array body) >>= out) s ≡ (spend >>= λ _. keys_in array >>= λ keys. walk x keys (exec functions body) >>= out) s
  unfolding exec
  for_in_then x array body =
      assoc_at spend (λ _. keys_in array >>= λ keys. walk x keys (exec functions body)) out s
      ∙ later_same spend _ _ s (λ _ t. assoc_at (keys_in array) (λ keys. walk x keys (exec functions body)) out t)

-- outer parts of a `for`

pub part_then : (functions : Functions) {B : Type 0} (out : Run B) (simple : SimpleStatement) (s : State) → (exec_part functions (ASimple simple) >>= λ _. out) s ≡ (exec_simple functions simple >>= λ _. out) s
unfolding exec_part
part_then functions out simple s =
    assoc_at (exec_simple functions simple) (λ f. ret tt) (λ _. out) s
    ∙ later_same (exec_simple functions simple) _ _ s (λ f t. given tt (λ _. out) t)
