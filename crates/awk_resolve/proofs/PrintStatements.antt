-- What is built of prints and deletions does what they mean.
use Rattle.std.proofs.Common.{◌≡◌, ℕ, ◌+◌, ◌<◌, List, [], ◌∷◌, ◌++◌, reverse, drop, suc, Some, None, length, refl, sym, ap, ◌∙◌, arith}
use Rattle.std.specs.Global.{Vec}
use Rattle.awk_value.specs.declared.value.Value.{Value}
use Rattle.awk_value.specs.Values.{str_of}
use Rattle.awk_grammar.specs.declared.tree.PrintForm.{PrintForm}
use Rattle.awk_grammar.specs.declared.tree.Redirection.{Redirection}
use Rattle.awk_grammar.specs.declared.tree.PrintForm.TheVariants as form
use Rattle.awk_grammar.specs.Tree.{Expr, Exprs, Nil, Cons, PrintList, Bare, Parenthesized, Standard, Redirected, Print, Delete, DeleteAll, Simple}
use Rattle.awk_kinds.specs.definitions.Kinds.{FormalParameter}
use Rattle.awk_kinds.specs.definitions.Signatures.{ProgramKinds}
use Rattle.awk_kinds.specs.definitions.NameUses.{count_of}
use Rattle.awk_semantics.specs.definitions.State.{State, Run, ◌>>=◌, ret}
use Rattle.awk_semantics.specs.definitions.Primitives.{spend, print_line, delete_element, clear_array}
use Rattle.awk_semantics.specs.definitions.Streams.{open_target}
use Rattle.awk_semantics.specs.definitions.Semantics.{Functions, eval, eval_all, key_of, printed_values, target_of, print_by}
use Rattle.awk_semantics.proofs.KeepsForms.{keeps_spend, keeps_eval}
use Rattle.awk_storage.specs.declared.position.Array.{Array}
use Rattle.awk_storage.specs.support.Forms.{delete_at, clear_at}
use Rattle.awk_resolve.specs.declared.node.Node.TheVariants as n
use Rattle.awk_resolve.specs.declared.node.EffectNode.TheVariants as e
use Rattle.awk_resolve.specs.declared.node.Operand.{Operand}
use Rattle.awk_resolve.specs.declared.builder.Builder.{Builder}
use Rattle.awk_resolve.specs.declared.builder.Exits.{Exits}
use Rattle.awk_resolve.specs.support.Nodes.{Cont, taken, operand_value, operand_values}
use Rattle.awk_resolve.specs.support.Printed.{listed}
use Rattle.awk_resolve.specs.support.Builds.{Grows, Pushes, IsIn, Program, Evaluate, EvaluateAll, EvaluateKey, Execute, IsArrayOf, AreOperandsOf, FindsEachOperand, leave_by, place_in, Places, Builds, Stands}
use Rattle.awk_resolve.proofs.Calculus.{assoc_at, later_same, later_in, first_same, given}
use Rattle.awk_resolve.proofs.Building.{grows, extends, still, placed, at_once}
use Rattle.awk_resolve.proofs.Elements.{deletes_element, clears_array}
use Rattle.awk_resolve.proofs.ValueLists.{taken_all, dropped_all, all_first, keyed, keeps_key_value, counted}
use Rattle.awk_resolve.proofs.Passing.{print_then, delete_then, delete_all_then, simple_then}
use Rattle.awk_resolve.proofs.SimpleStatements.{evaluated, stepped}

-- a print node, with the values of the list on the stack

standard_at : {kinds : ProgramKinds} {a b : Builder} {form : PrintForm} {count k l : ℕ} → Places kinds a b l (n.Effect (e.Print form count None) k) → (p : Program kinds) → Grows b p.all → (m : ℕ) (ws vs : List Value) (t : State) → length ws ≡ count
    → place_in p m l (reverse ws ++ vs) t ≡ (target_of p.functions Standard >>= λ to. print_by p.functions form to ws >>= λ _. place_in p m k vs) t
unfolding target_of
standard_at {form = form} {count = count} {k = k} o p g m ws vs t h =
    let xs : List Value = reverse ws ++ vs in
    let all : 0 + count ≡ count = omega arith in
    at_once (o.is p g m) xs t
    ∙ assoc_at (ret 0) (λ to. print_by p.functions form to (taken count xs)) (λ _. place_in p m k (drop (0 + count) xs)) t
    ∙ ap (λ (ys : List Value). (ret 0 >>= λ to. print_by p.functions form to ys >>= λ _. place_in p m k (drop (0 + count) xs)) t) (taken_all ws vs count h)
    ∙ ap (λ (ys : List Value). (ret 0 >>= λ to. print_by p.functions form to ws >>= λ _. place_in p m k ys) t) (ap (λ c. drop c xs) all ∙ dropped_all ws vs count h)

redirected_at : {kinds : ProgramKinds} {a b : Builder} {form : PrintForm} {way : Redirection} {count k l : ℕ} → Places kinds a b l (n.Effect (e.Print form count (Some way)) k) → (p : Program kinds) → Grows b p.all → (m : ℕ) (w : Value) (ws vs : List Value) (t : State) → length ws ≡ count
    → place_in p m l (w ∷ (reverse ws ++ vs)) t ≡ (open_target way (str_of w) >>= λ to. print_by p.functions form to ws >>= λ _. place_in p m k vs) t
redirected_at {form = form} {way = way} {count = count} {k = k} o p g m w ws vs t h =
    let xs : List Value = reverse ws ++ vs in
    let all : 1 + count ≡ suc count = omega arith in
    at_once (o.is p g m) (w ∷ xs) t
    ∙ assoc_at (open_target way (str_of w)) (λ to. print_by p.functions form to (taken count xs)) (λ _. place_in p m k (drop (1 + count) (w ∷ xs))) t
    ∙ ap (λ (ys : List Value). (open_target way (str_of w) >>= λ to. print_by p.functions form to ys >>= λ _. place_in p m k (drop (1 + count) (w ∷ xs))) t) (taken_all ws vs count h)
    ∙ ap (λ (ys : List Value). (open_target way (str_of w) >>= λ to. print_by p.functions form to ws >>= λ _. place_in p m k ys) t) (ap (λ c. drop c (w ∷ xs)) all ∙ dropped_all ws vs count h)

same_values : (functions : Functions) (list : PrintList) → printed_values functions list ≡ eval_all functions [] (listed list)
unfolding printed_values
same_values functions (Bare es) = refl
same_values functions (Parenthesized es) = refl

-- a line of values, of which there is one at least, to standard output
line_printed : (functions : Functions) (ws : List Value) → 0 < length ws → (rest : Run Value) (s : State) → (print_line 0 ws >>= λ _. rest) s ≡ (target_of functions Standard >>= λ to. print_by functions form.Print to ws >>= λ _. rest) s
unfolding target_of
line_printed functions [] h rest s = absurd (omega (arith, h))
line_printed functions (w ∷ ws) h rest s = sym (given 0 (λ to. print_line to (w ∷ ws) >>= λ _. rest) s)

-- a target that is evaluated, and then opened
target_then : (functions : Functions) (way : Redirection) (x : Expr) (f : ℕ → Run Value) (s : State) → (target_of functions (Redirected way x) >>= f) s ≡ (eval functions x >>= λ w. open_target way (str_of w) >>= f) s
unfolding target_of
target_then functions way x f s = assoc_at (eval functions x) (λ w. open_target way (str_of w)) f s

module _ {kinds : ProgramKinds} {parameters : List FormalParameter} where
  -- the values of a list, and what they go to
  pub all_evaluated : {b c : Builder} {es : Exprs} {i j : ℕ} → Builds kinds parameters b c i (EvaluateAll es j) → (p : Program kinds) → Grows c p.all → (m : ℕ) (vs : List Value) (s : State) → IsIn p.tables parameters m s
      → (rest : List Value → Run Value) → ((ws : List Value) (t : State) → length ws ≡ count_of es → IsIn p.tables parameters m t → place_in p m j (reverse ws ++ vs) t ≡ rest ws t) → place_in p m i vs s ≡ (eval_all p.functions [] es >>= rest) s
  all_evaluated {es = es} q p g m vs s i rest h = q.is p g m vs s i ∙ counted p.functions p.calls.keep es _ rest m s i h

  -- prints

  pub print_built : {a b c d : Builder} {form : PrintForm} {list : PrintList} {exits : Exits} {count i j l : ℕ} → Stands exits.next a → count ≡ count_of (listed list) → Pushes a b (n.Effect (e.Print form count None) exits.next) l
      → Builds kinds parameters b c i (EvaluateAll (listed list) l) → Pushes c d (n.Spend i) j → Builds kinds parameters a d j (Execute (Simple (Print form list Standard)) exits)
  print_built {form = form} {list = list} {exits = exits} h is p q r =
      let o = placed p h.below in
      stepped (Execute (Simple (Print form list Standard)) exits)
      (λ functions at vs. eval_all functions [] (listed list) >>= λ ws. target_of functions Standard >>= λ to. print_by functions form to ws >>= λ _. at exits.next vs)
      (extends o.extends q.extends) r q.below
      (λ y g m vs s i. all_evaluated q y g m vs s i (λ ws. target_of y.functions Standard >>= λ to. print_by y.functions form to ws >>= λ _. place_in y m exits.next vs)
      (λ ws t many k. standard_at o y (grows q.extends.grows g) m ws vs t (many ∙ sym is)))
      (λ functions at vs s.
      simple_then functions (leave_by exits at vs) s (Print form list Standard)
      ∙ print_then functions (leave_by exits at vs) s form list Standard
      ∙ ap (λ (values : Run (List Value)). (spend >>= λ _. values >>= λ ws. target_of functions Standard >>= λ to. print_by functions form to ws >>= λ _. at exits.next vs) s) (same_values functions list))

  -- the values of operands, and what they go to
  pub values_then : {B : Type 0} (p : Program kinds) {b : Builder} → Grows b p.all → (found : List Operand) (es : Exprs) → AreOperandsOf kinds parameters b found es → (rest : List Value → Run B) (m : ℕ) (s : State) → IsIn p.tables parameters m s
      → (operand_values p.tables.names found >>= rest) s ≡ (eval_all p.functions [] es >>= rest) s
  unfolding eval_all
  values_then p g [] Nil are rest m s i = refl
  values_then p g [] (Cons x es) are rest m s i = absurd are
  values_then p g (a ∷ found) Nil are rest m s i = absurd are
  values_then p g (a ∷ found) (Cons x es) are rest m s i =
      let others = operand_values p.tables.names found in
      assoc_at (operand_value p.tables.names a) (λ w. others >>= λ ws. ret (w ∷ ws)) rest s
      ∙ first_same (operand_value p.tables.names a) (eval p.functions x) (λ w. (others >>= λ ws. ret (w ∷ ws)) >>= rest) s (are.0.is p g m s i)
      ∙ later_in _ _ s m (keeps_eval p.functions p.calls.keep x) i (λ w t k.
      assoc_at others (λ ws. ret (w ∷ ws)) rest t
      ∙ later_same others _ (λ ws. rest (w ∷ ws)) t (λ ws u. given (w ∷ ws) rest u)
      ∙ values_then p g found es are.1 (λ ws. rest (w ∷ ws)) m t k)
      ∙ sym (all_first p.functions x es rest s)

  -- operands that are read where they stand
  pub operands_print_built : {a b c : Builder} {list : PrintList} {found : Vec Operand} {exits : Exits} {i : ℕ} → Stands exits.next a → 0 < count_of (listed list) → FindsEachOperand kinds parameters a b found.items (listed list) → Pushes b c (n.Print found exits.next) i
      → Builds kinds parameters a c i (Execute (Simple (Print form.Print list Standard)) exits)
  operands_print_built {list = list} {found = found} {exits = exits} h some f q =
      let o = placed q (still f.extends h).below in
      let print : Functions → (ℕ → Cont) → List Value → List Value → Run Value = λ functions at vs ws. target_of functions Standard >>= λ to. print_by functions form.Print to ws >>= λ _. at exits.next vs in
      record {
        extends = extends f.extends o.extends;
        below = o.below;
        pos = (let k = o.fresh in let l = (still f.extends h).below in omega (arith, k, l));
        is = λ p g m vs s i.
            let rest = λ (_ : Unit {0}). place_in p m exits.next vs in
            let out = leave_by exits (place_in p m) vs in
            at_once (o.is p g m) vs s
            ∙ assoc_at spend (λ _. operand_values p.tables.names found.items >>= λ ws. print_line 0 ws) rest s
            ∙ later_in _ _ s m keeps_spend i (λ _ t j.
            assoc_at (operand_values p.tables.names found.items) (λ ws. print_line 0 ws) rest t
            ∙ values_then p (grows o.extends.grows g) found.items (listed list) f.are (λ ws. print_line 0 ws >>= rest) m t j
            ∙ counted p.functions p.calls.keep (listed list) _ (print p.functions (place_in p m) vs) m t j (λ ws u long k. line_printed p.functions ws (omega (arith, long, some)) (place_in p m exits.next vs) u))
            ∙ sym (simple_then p.functions out s (Print form.Print list Standard)
            ∙ print_then p.functions out s form.Print list Standard
            ∙ ap (λ (values : Run (List Value)). (spend >>= λ _. values >>= print p.functions (place_in p m) vs) s) (same_values p.functions list));
      }

  pub redirected_built : {a b c d f : Builder} {form : PrintForm} {list : PrintList} {way : Redirection} {x : Expr} {exits : Exits} {count i j k l : ℕ} → Stands exits.next a → count ≡ count_of (listed list)
      → Pushes a b (n.Effect (e.Print form count (Some way)) exits.next) l → Builds kinds parameters b c k (Evaluate x l) → Builds kinds parameters c d i (EvaluateAll (listed list) k) → Pushes d f (n.Spend i) j
      → Builds kinds parameters a f j (Execute (Simple (Print form list (Redirected way x))) exits)
  redirected_built {form = form} {list = list} {way = way} {x = x} {exits = exits} h is p t q r =
      let o = placed p h.below in
      let print : Functions → (ℕ → Cont) → List Value → List Value → ℕ → Run Value = λ functions at vs ws to. print_by functions form to ws >>= λ _. at exits.next vs in
      stepped (Execute (Simple (Print form list (Redirected way x))) exits)
      (λ functions at vs. eval_all functions [] (listed list) >>= λ ws. target_of functions (Redirected way x) >>= λ to. print functions at vs ws to)
      (extends o.extends (extends t.extends q.extends)) r q.below
      (λ y g m vs s i. all_evaluated q y g m vs s i (λ ws. target_of y.functions (Redirected way x) >>= λ to. print y.functions (place_in y m) vs ws to)
      (λ ws u many k.
      evaluated t y (grows q.extends.grows g) m (reverse ws ++ vs) u k (λ w. open_target way (str_of w) >>= λ to. print y.functions (place_in y m) vs ws to)
      (λ w u' _. redirected_at o y (grows t.extends.grows (grows q.extends.grows g)) m w ws vs u' (many ∙ sym is))
      ∙ sym (target_then y.functions way x (print y.functions (place_in y m) vs ws) u)))
      (λ functions at vs s.
      simple_then functions (leave_by exits at vs) s (Print form list (Redirected way x))
      ∙ print_then functions (leave_by exits at vs) s form list (Redirected way x)
      ∙ ap (λ (values : Run (List Value)). (spend >>= λ _. values >>= λ ws. target_of functions (Redirected way x) >>= λ to. print functions at vs ws to) s) (same_values functions list))

  -- deletions

  pub delete_built : {a b c d : Builder} {x : List ℕ} {es : Exprs} {position : Array} {exits : Exits} {i j l : ℕ} → Stands exits.next a → IsArrayOf kinds parameters position x → Pushes a b (n.Effect (e.Delete position) exits.next) l
      → Builds kinds parameters b c i (EvaluateKey es l) → Pushes c d (n.Spend i) j → Builds kinds parameters a d j (Execute (Simple (Delete x es)) exits)
  delete_built {x = x} {es = es} {position = position} {exits = exits} h is p q r =
      let o = placed p h.below in
      stepped (Execute (Simple (Delete x es)) exits) (λ functions at vs. key_of functions [] es >>= λ key. delete_element x key >>= λ _. at exits.next vs) (extends o.extends q.extends) r q.below
      (λ y g m vs s i.
      let rest : List ℕ → Run Value = λ key. delete_element x key >>= λ _. place_in y m exits.next vs in
      q.is y g m vs s i
      ∙ later_in _ _ s m (keeps_key_value y.functions y.calls.keep es) i (λ w t j.
      at_once (o.is y (grows q.extends.grows g) m) (w ∷ vs) t
      ∙ first_same (delete_at position (str_of w)) (delete_element x (str_of w)) (λ _. place_in y m exits.next vs) t (sym (deletes_element position x t (is.is y m t j) (str_of w))))
      ∙ keyed y.functions es rest s)
      (λ functions at vs s. simple_then functions (leave_by exits at vs) s (Delete x es) ∙ delete_then functions (leave_by exits at vs) s x es)

  pub delete_all_built : {a b c : Builder} {x : List ℕ} {position : Array} {exits : Exits} {i j : ℕ} → Stands exits.next a → IsArrayOf kinds parameters position x → Pushes a b (n.Effect (e.Clear position) exits.next) i → Pushes b c (n.Spend i) j
      → Builds kinds parameters a c j (Execute (Simple (DeleteAll x)) exits)
  delete_all_built {x = x} {position = position} {exits = exits} h is p r =
      let o = placed p h.below in
      stepped (Execute (Simple (DeleteAll x)) exits) (λ functions at vs. clear_array x >>= λ _. at exits.next vs) o.extends r o.below
      (λ y g m vs s i. at_once (o.is y g m) vs s ∙ first_same (clear_at position) (clear_array x) (λ _. place_in y m exits.next vs) s (sym (clears_array position x s (is.is y m s i))))
      (λ functions at vs s. simple_then functions (leave_by exits at vs) s (DeleteAll x) ∙ delete_all_then functions (leave_by exits at vs) s x)
