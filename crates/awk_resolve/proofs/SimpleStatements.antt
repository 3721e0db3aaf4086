-- What is built of simple statements does what they mean.
use Rattle.std.proofs.Common.{◌≡◌, ℕ, ◌<◌, true, List, [], ◌∷◌, Err, length, refl, sym, ap, ◌∙◌, arith}
use Rattle.awk_value.specs.declared.value.Value.{Value}
use Rattle.awk_value.specs.declared.value.Value.TheVariants as value
use Rattle.awk_value.specs.Values.{truth_of}
use Rattle.awk_grammar.specs.Tree.{Expr, OptionalExpr, NoExpr, AnExpr, Expression, Next, NextFile, Break, Continue, Exit, Return, Print, Delete, DeleteAll, SimpleStatement, NoSimple, ASimple, Simple}
use Rattle.awk_kinds.specs.definitions.Kinds.{FormalParameter}
use Rattle.awk_kinds.specs.definitions.Signatures.{ProgramKinds}
use Rattle.awk_semantics.specs.declared.flow.Flow.{Flow}
use Rattle.awk_semantics.specs.declared.flow.Flow.TheVariants as flow
use Rattle.awk_semantics.specs.declared.halt.Halt.TheVariants as halt
use Rattle.awk_semantics.specs.definitions.State.{State, Run, ◌>>=◌, lift, ret}
use Rattle.awk_semantics.specs.definitions.Primitives.{spend, set_status, delete_element, clear_array}
use Rattle.awk_semantics.specs.definitions.Streams.{close_main}
use Rattle.awk_semantics.specs.definitions.Semantics.{Functions, choose, eval, key_of, printed_values, target_of, print_by, exec_simple, exec_part, goes_on}
use Rattle.awk_semantics.proofs.KeepsForms.{keeps_spend, keeps_eval}
use Rattle.awk_resolve.specs.declared.node.Ending.TheVariants as ending
use Rattle.awk_resolve.specs.declared.node.Node.TheVariants as n
use Rattle.awk_resolve.specs.declared.node.EffectNode.TheVariants as e
use Rattle.awk_resolve.specs.declared.node.Operand.TheVariants as operand
use Rattle.awk_resolve.specs.declared.node.ValueNode.TheVariants as v
use Rattle.awk_resolve.specs.declared.builder.Builder.{Builder}
use Rattle.awk_resolve.specs.declared.builder.Exits.{Exits}
use Rattle.awk_resolve.specs.support.Nodes.{Cont}
use Rattle.awk_resolve.specs.support.Builds.{Grows, Pushes, Extends, IsIn, Program, Part, Evaluate, Decide, DecideOptional, Execute, ExecutePart, does, leave_by, place_in, Places, Builds, Stands}
use Rattle.awk_resolve.proofs.Calculus.{given, later_same, later_in}
use Rattle.awk_resolve.proofs.Building.{grows, extends, same, placed, at_once, both}
use Rattle.awk_resolve.proofs.Passing.{expression_then, next_then, break_then, continue_then, exit_then, exit_with_then, return_then, return_with_then, print_then, delete_then, delete_all_then, next_file_then, simple_then, part_then, tested_then}

-- a simple statement that is no `return` passes on to the same
module _ (functions : Functions) {B : Type 0} (out out' : Flow → Run B) (normal : out flow.Normal ≡ out' flow.Normal) (breaks : out flow.Break ≡ out' flow.Break) (continues : out flow.Continue ≡ out' flow.Continue) where
  passes_alike : (simple : SimpleStatement) → ((x : OptionalExpr) → simple ≡ Return x → ⊥) → (s : State) → (exec_simple functions simple >>= out) s ≡ (exec_simple functions simple >>= out') s
  passes_alike (Expression x) other s =
      expression_then functions out s x
      ∙ ap (λ (r : Run B). (spend >>= λ _. eval functions x >>= λ w. r) s) normal
      ∙ sym (expression_then functions out' s x)
  passes_alike (Print form list output) other s =
      print_then functions out s form list output
      ∙ ap (λ (r : Run B). (spend >>= λ _. printed_values functions list >>= λ vs. target_of functions output >>= λ k. print_by functions form k vs >>= λ _. r) s) normal
      ∙ sym (print_then functions out' s form list output)
  passes_alike (Delete x es) other s =
      delete_then functions out s x es
      ∙ ap (λ (r : Run B). (spend >>= λ _. key_of functions [] es >>= λ key. delete_element x key >>= λ _. r) s) normal
      ∙ sym (delete_then functions out' s x es)
  passes_alike (DeleteAll x) other s =
      delete_all_then functions out s x
      ∙ ap (λ (r : Run B). (spend >>= λ _. clear_array x >>= λ _. r) s) normal
      ∙ sym (delete_all_then functions out' s x)
  passes_alike Next other s = next_then functions out s ∙ sym (next_then functions out' s)
  passes_alike NextFile other s = next_file_then functions out s ∙ sym (next_file_then functions out' s)
  passes_alike Break other s = break_then functions out s ∙ ap (λ (r : Run B). (spend >>= λ _. r) s) breaks ∙ sym (break_then functions out' s)
  passes_alike Continue other s = continue_then functions out s ∙ ap (λ (r : Run B). (spend >>= λ _. r) s) continues ∙ sym (continue_then functions out' s)
  passes_alike (Exit NoExpr) other s = exit_then functions out s ∙ sym (exit_then functions out' s)
  passes_alike (Exit (AnExpr x)) other s = exit_with_then functions out s x ∙ sym (exit_with_then functions out' s x)
  passes_alike (Return x) other s = absurd (other x refl)

-- what a simple statement goes on with
abbrev simply : SimpleStatement → Exits → Part
simply simple exits = Execute (Simple simple) exits

-- behind a value that is dropped
dropped_at : {kinds : ProgramKinds} {a b : Builder} {k l : ℕ} → Places kinds a b l (n.Effect (e.Drop 1) k) → (p : Program kinds) → Grows b p.all → (m : ℕ) (w : Value) (vs : List Value) (t : State) → place_in p m l (w ∷ vs) t ≡ place_in p m k vs t
dropped_at {k = k} o p g m w vs t = at_once (o.is p g m) (w ∷ vs) t ∙ given tt (λ _. place_in p m k vs) t

module _ {kinds : ProgramKinds} {parameters : List FormalParameter} where
  -- an expression, and what its value goes to
  pub evaluated : {b c : Builder} {x : Expr} {i j : ℕ} → Builds kinds parameters b c i (Evaluate x j) → (p : Program kinds) → Grows c p.all → (m : ℕ) (vs : List Value) (s : State) → IsIn p.tables parameters m s
      → (rest : Value → Run Value) → ((w : Value) (t : State) → IsIn p.tables parameters m t → place_in p m j (w ∷ vs) t ≡ rest w t) → place_in p m i vs s ≡ (eval p.functions x >>= rest) s
  evaluated {x = x} q p g m vs s i rest h = q.is p g m vs s i ∙ later_in _ _ s m (keeps_eval p.functions p.calls.keep x) i h

  -- a test, and what it chooses
  pub decided : {b c : Builder} {x : Expr} {i here other : ℕ} → Builds kinds parameters b c i (Decide x here other) → (p : Program kinds) → Grows c p.all → (m : ℕ) (vs : List Value) (s : State) → IsIn p.tables parameters m s
      → (u w : Run Value) → ((t : State) → IsIn p.tables parameters m t → place_in p m here vs t ≡ u t) → ((t : State) → IsIn p.tables parameters m t → place_in p m other vs t ≡ w t)
      → place_in p m i vs s ≡ (eval p.functions x >>= λ x'. choose (truth_of x') u w) s
  decided {x = x} q p g m vs s i u w h k = q.is p g m vs s i ∙ later_in _ _ s m (keeps_eval p.functions p.calls.keep x) i (λ x' t j. both (truth_of x') _ _ _ _ t (h t j) (k t j))

  -- what spends a step as it begins
  pub stepped : {a c d : Builder} {i j : ℕ} (part : Part) (rest : Functions → (ℕ → Cont) → Cont) → Extends a c → Pushes c d (n.Spend i) j → i < length c.nodes.items
      → ((p : Program kinds) → Grows c p.all → (m : ℕ) (vs : List Value) (s : State) → IsIn p.tables parameters m s → place_in p m i vs s ≡ rest p.functions (place_in p m) vs s)
      → ((functions : Functions) (at : ℕ → Cont) (vs : List Value) (s : State) → does part functions at vs s ≡ (spend >>= λ _. rest functions at vs) s)
      → Builds kinds parameters a d j part
  stepped part rest g r h e' means =
      let o = placed r h in
      record {
        extends = extends g o.extends;
        below = o.below;
        pos = (let f = o.fresh in omega (arith, f, h));
        is = λ p k m vs s i.
            at_once (o.is p k m) vs s
            ∙ later_in _ _ s m keeps_spend i (λ _ t j. e' p (grows o.extends.grows k) m vs t j)
            ∙ sym (means p.functions (place_in p m) vs s);
      }

  pub expression_built : {a b c d : Builder} {x : Expr} {exits : Exits} {i j l : ℕ} → Stands exits.next a → Pushes a b (n.Effect (e.Drop 1) exits.next) l → Builds kinds parameters b c i (Evaluate x l) → Pushes c d (n.Spend i) j
      → Builds kinds parameters a d j (Execute (Simple (Expression x)) exits)
  expression_built {x = x} {exits = exits} h p q r =
      let o = placed p h.below in
      stepped (simply (Expression x) exits) (λ functions at vs. eval functions x >>= λ w. at exits.next vs) (extends o.extends q.extends) r q.below
      (λ y g m vs s i. evaluated q y g m vs s i (λ w. place_in y m exits.next vs) (λ w t k. dropped_at o y (grows q.extends.grows g) m w vs t))
      (λ functions at vs s. simple_then functions (leave_by exits at vs) s (Expression x) ∙ expression_then functions (leave_by exits at vs) s x)

  pub next_built : {a b c : Builder} {exits : Exits} {i j : ℕ} → Pushes a b (n.Stop ending.Next) i → Pushes b c (n.Spend i) j → Builds kinds parameters a c j (Execute (Simple Next) exits)
  next_built {exits = exits} p r =
      let o = placed p tt in
      stepped (simply Next exits) (λ functions at vs. lift (Err halt.Next)) o.extends r o.below
      (λ y g m vs s i. at_once (o.is y g m) vs s)
      (λ functions at vs s. simple_then functions (leave_by exits at vs) s Next ∙ next_then functions (leave_by exits at vs) s)

  pub next_file_built : {a b c d : Builder} {exits : Exits} {i j k : ℕ} → Pushes a b (n.Stop ending.Next) k → Pushes b c (n.Effect e.EndInput k) i → Pushes c d (n.Spend i) j → Builds kinds parameters a d j (Execute (Simple NextFile) exits)
  next_file_built {exits = exits} p q r =
      let o = placed p tt in
      let u = placed q o.below in
      stepped (simply NextFile exits) (λ functions at vs. close_main >>= λ _. lift (Err halt.Next)) (extends o.extends u.extends) r u.below
      (λ y g m vs s i. at_once (u.is y g m) vs s ∙ later_same close_main _ _ s (λ _ t. at_once (o.is y (grows u.extends.grows g) m) vs t))
      (λ functions at vs s. simple_then functions (leave_by exits at vs) s NextFile ∙ next_file_then functions (leave_by exits at vs) s)

  pub break_built : {a b : Builder} {exits : Exits} {j : ℕ} → Stands exits.breaks a → Pushes a b (n.Spend exits.breaks) j → Builds kinds parameters a b j (Execute (Simple Break) exits)
  break_built {exits = exits} h r =
      stepped (simply Break exits) (λ functions at vs. at exits.breaks vs) same r h.below
      (λ y g m vs s i. refl)
      (λ functions at vs s. simple_then functions (leave_by exits at vs) s Break ∙ break_then functions (leave_by exits at vs) s)

  pub continue_built : {a b : Builder} {exits : Exits} {j : ℕ} → Stands exits.continues a → Pushes a b (n.Spend exits.continues) j → Builds kinds parameters a b j (Execute (Simple Continue) exits)
  continue_built {exits = exits} h r =
      stepped (simply Continue exits) (λ functions at vs. at exits.continues vs) same r h.below
      (λ y g m vs s i. refl)
      (λ functions at vs s. simple_then functions (leave_by exits at vs) s Continue ∙ continue_then functions (leave_by exits at vs) s)

  pub exit_built : {a b c : Builder} {exits : Exits} {i j : ℕ} → Pushes a b (n.Stop ending.Exit) i → Pushes b c (n.Spend i) j → Builds kinds parameters a c j (Execute (Simple (Exit NoExpr)) exits)
  exit_built {exits = exits} p r =
      let o = placed p tt in
      stepped (simply (Exit NoExpr) exits) (λ functions at vs. lift (Err halt.Exit)) o.extends r o.below
      (λ y g m vs s i. at_once (o.is y g m) vs s)
      (λ functions at vs s. simple_then functions (leave_by exits at vs) s (Exit NoExpr) ∙ exit_then functions (leave_by exits at vs) s)

  pub exit_with_built : {a b c d f : Builder} {x : Expr} {exits : Exits} {i j k l : ℕ} → Pushes a b (n.Stop ending.Exit) k → Pushes b c (n.Effect e.SetStatus k) l → Builds kinds parameters c d i (Evaluate x l) → Pushes d f (n.Spend i) j
      → Builds kinds parameters a f j (Execute (Simple (Exit (AnExpr x))) exits)
  exit_with_built {x = x} {exits = exits} {k = k} stop set q r =
      let o = placed stop tt in
      let u = placed set o.below in
      stepped (simply (Exit (AnExpr x)) exits) (λ functions at vs. eval functions x >>= λ w. set_status w >>= λ _. lift (Err halt.Exit)) (extends o.extends (extends u.extends q.extends)) r q.below
      (λ y g m vs s i. evaluated q y g m vs s i (λ w. set_status w >>= λ _. lift (Err halt.Exit))
      (λ w t j. at_once (u.is y (grows q.extends.grows g) m) (w ∷ vs) t ∙ later_same (set_status w) _ _ t (λ _ t'. at_once (o.is y (grows u.extends.grows (grows q.extends.grows g)) m) vs t')))
      (λ functions at vs s. simple_then functions (leave_by exits at vs) s (Exit (AnExpr x)) ∙ exit_with_then functions (leave_by exits at vs) s x)

  pub return_built : {a b c d : Builder} {exits : Exits} {i j l : ℕ} → Pushes a b n.Return l → Pushes b c (n.Value (v.Put (operand.Constant value.Nothing)) l) i → Pushes c d (n.Spend i) j → Builds kinds parameters a d j (Execute (Simple (Return NoExpr)) exits)
  return_built {exits = exits} {l = l} p q r =
      let o = placed p tt in
      let u = placed q o.below in
      stepped (simply (Return NoExpr) exits) (λ functions at vs. ret value.Nothing) (extends o.extends u.extends) r u.below
      (λ y g m vs s i. at_once (u.is y g m) vs s ∙ given value.Nothing (λ w. place_in y m l (w ∷ vs)) s ∙ at_once (o.is y (grows u.extends.grows g) m) (value.Nothing ∷ vs) s)
      (λ functions at vs s. simple_then functions (leave_by exits at vs) s (Return NoExpr) ∙ return_then functions (leave_by exits at vs) s)

  pub return_with_built : {a b c d : Builder} {x : Expr} {exits : Exits} {i j l : ℕ} → Pushes a b n.Return l → Builds kinds parameters b c i (Evaluate x l) → Pushes c d (n.Spend i) j → Builds kinds parameters a d j (Execute (Simple (Return (AnExpr x))) exits)
  return_with_built {x = x} {exits = exits} p q r =
      let o = placed p tt in
      stepped (simply (Return (AnExpr x)) exits) (λ functions at vs. eval functions x >>= λ w. ret w) (extends o.extends q.extends) r q.below
      (λ y g m vs s i. evaluated q y g m vs s i (λ w. ret w) (λ w t j. at_once (o.is y (grows q.extends.grows g) m) (w ∷ vs) t))
      (λ functions at vs s. simple_then functions (leave_by exits at vs) s (Return (AnExpr x)) ∙ return_with_then functions (leave_by exits at vs) s x)

  -- outer parts of a `for`: how they pass on is of no use

  pub no_part_built : {a : Builder} {k : ℕ} → Stands k a → Builds kinds parameters a a k (ExecutePart NoSimple k)
  unfolding exec_part
  no_part_built {k = k} h = record {
    extends = same;
    below = h.below;
    pos = h.pos;
    is = λ y g m vs s i. sym (given tt (λ _. place_in y m k vs) s);
  }

  pub plain_part_built : {a b : Builder} {simple : SimpleStatement} {i k : ℕ} → ((x : OptionalExpr) → simple ≡ Return x → ⊥)
      → Builds kinds parameters a b i (Execute (Simple simple) (record { next = k; breaks = k; continues = k })) → Builds kinds parameters a b i (ExecutePart (ASimple simple) k)
  plain_part_built {simple = simple} {k = k} other q =
      let exits : Exits = record { next = k; breaks = k; continues = k } in
      record {
        extends = q.extends;
        below = q.below;
        pos = q.pos;
        is = λ y g m vs s i.
            q.is y g m vs s i
            ∙ simple_then y.functions (leave_by exits (place_in y m) vs) s simple
            ∙ passes_alike y.functions (leave_by exits (place_in y m) vs) (λ _. place_in y m k vs) refl refl refl simple other s
            ∙ sym (part_then y.functions (place_in y m k vs) simple s);
      }

  pub return_part_built : {a b : Builder} {j k : ℕ} → Stands k a → Pushes a b (n.Spend k) j → Builds kinds parameters a b j (ExecutePart (ASimple (Return NoExpr)) k)
  return_part_built {k = k} h r =
      stepped (ExecutePart (ASimple (Return NoExpr)) k) (λ functions at vs. at k vs) same r h.below
      (λ y g m vs s i. refl)
      (λ functions at vs s. part_then functions (at k vs) (Return NoExpr) s ∙ return_then functions (λ _. at k vs) s)

  pub return_with_part_built : {a b c d : Builder} {x : Expr} {i j k l : ℕ} → Stands k a → Pushes a b (n.Effect (e.Drop 1) k) l → Builds kinds parameters b c i (Evaluate x l) → Pushes c d (n.Spend i) j
      → Builds kinds parameters a d j (ExecutePart (ASimple (Return (AnExpr x))) k)
  return_with_part_built {x = x} {k = k} h p q r =
      let o = placed p h.below in
      stepped (ExecutePart (ASimple (Return (AnExpr x))) k) (λ functions at vs. eval functions x >>= λ w. at k vs) (extends o.extends q.extends) r q.below
      (λ y g m vs s i. evaluated q y g m vs s i (λ w. place_in y m k vs) (λ w t j. dropped_at o y (grows q.extends.grows g) m w vs t))
      (λ functions at vs s. part_then functions (at k vs) (Return (AnExpr x)) s ∙ return_with_then functions (λ _. at k vs) s x)

  -- a condition that may be left out

  pub no_condition_built : {a : Builder} {here other : ℕ} → Stands here a → Builds kinds parameters a a here (DecideOptional NoExpr here other)
  unfolding goes_on
  no_condition_built {here = here} {other = other} h = record {
    extends = same;
    below = h.below;
    pos = h.pos;
    is = λ y g m vs s i. sym (given true (λ b. choose b (place_in y m here vs) (place_in y m other vs)) s);
  }

  pub condition_built : {a b : Builder} {x : Expr} {i here other : ℕ} → Builds kinds parameters a b i (Decide x here other) → Builds kinds parameters a b i (DecideOptional (AnExpr x) here other)
  unfolding goes_on
  condition_built {x = x} {here = here} {other = other} q = record {
    extends = q.extends;
    below = q.below;
    pos = q.pos;
    is = λ y g m vs s i. q.is y g m vs s i ∙ sym (tested_then (eval y.functions x) (λ b. choose b (place_in y m here vs) (place_in y m other vs)) s);
  }
