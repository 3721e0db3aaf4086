-- What is built of statements that are no loops does what they mean.
use Rattle.std.proofs.Common.{◌≡◌, ℕ, List, sym, ◌∙◌}
use Rattle.awk_value.specs.declared.value.Value.{Value}
use Rattle.awk_value.specs.Values.{truth_of}
use Rattle.awk_grammar.specs.Tree.{Expr, Statement, Empty, Block, If, IfElse, Statements, NoMore, Then}
use Rattle.awk_kinds.specs.definitions.Kinds.{FormalParameter}
use Rattle.awk_kinds.specs.definitions.Signatures.{ProgramKinds}
use Rattle.awk_semantics.specs.declared.flow.Flow.{Flow}
use Rattle.awk_semantics.specs.declared.flow.Flow.TheVariants as flow
use Rattle.awk_semantics.specs.definitions.State.{State, Run, ◌>>=◌, ret}
use Rattle.awk_semantics.specs.definitions.Semantics.{choose, eval, pass_on, exec, exec_all}
use Rattle.awk_semantics.proofs.KeepsForms.{keeps_exec}
use Rattle.awk_resolve.specs.declared.node.Node.TheVariants as n
use Rattle.awk_resolve.specs.declared.builder.Builder.{Builder}
use Rattle.awk_resolve.specs.declared.builder.Exits.{Exits}
use Rattle.awk_resolve.specs.support.Nodes.{Cont}
use Rattle.awk_resolve.specs.support.Builds.{Pushes, Decide, Execute, ExecuteAll, leave_by, place_in, Builds, Stands}
use Rattle.awk_resolve.proofs.Calculus.{given, later_in}
use Rattle.awk_resolve.proofs.Building.{grows, extends, same}
use Rattle.awk_resolve.proofs.Passing.{empty_then, block_then, none_then, more_then, if_then, if_else_then}
use Rattle.awk_resolve.proofs.SimpleStatements.{decided, stepped}

-- what a statement passes on to, before others
passed : (exits : Exits) (next : ℕ) (at : ℕ → Cont) (vs : List Value) (rest : Run Flow) (f : Flow) (t : State) → at next vs t ≡ (rest >>= leave_by exits at vs) t
    → leave_by (record { next = next; breaks = exits.breaks; continues = exits.continues }) at vs f t ≡ (pass_on f rest >>= leave_by exits at vs) t
passed exits next at vs rest flow.Normal t h = h
passed exits next at vs rest flow.Break t h = sym (given flow.Break (leave_by exits at vs) t)
passed exits next at vs rest flow.Continue t h = sym (given flow.Continue (leave_by exits at vs) t)
passed exits next at vs rest (flow.Return w) t h = sym (given (flow.Return w) (leave_by exits at vs) t)

module _ {kinds : ProgramKinds} {parameters : List FormalParameter} where
  pub empty_built : {a : Builder} {exits : Exits} → Stands exits.next a → Builds kinds parameters a a exits.next (Execute Empty exits)
  empty_built {exits = exits} h = record {
    extends = same;
    below = h.below;
    pos = h.pos;
    is = λ y g m vs s i. sym (empty_then y.functions (leave_by exits (place_in y m) vs) s);
  }

  pub block_built : {a b : Builder} {all : Statements} {exits : Exits} {i : ℕ} → Builds kinds parameters a b i (ExecuteAll all exits) → Builds kinds parameters a b i (Execute (Block all) exits)
  block_built {all = all} {exits = exits} q = record {
    extends = q.extends;
    below = q.below;
    pos = q.pos;
    is = λ y g m vs s i. q.is y g m vs s i ∙ sym (block_then y.functions (leave_by exits (place_in y m) vs) s all);
  }

  pub if_built : {a b c d : Builder} {x : Expr} {y : Statement} {exits : Exits} {i j here : ℕ} → Stands exits.next a → Builds kinds parameters a b here (Execute y exits) → Builds kinds parameters b c i (Decide x here exits.next) → Pushes c d (n.Spend i) j
      → Builds kinds parameters a d j (Execute (If x y) exits)
  if_built {x = x} {y = y} {exits = exits} h p t r =
      stepped (Execute (If x y) exits)
      (λ functions at vs. eval functions x >>= λ w. choose (truth_of w) (exec functions y >>= leave_by exits at vs) (ret flow.Normal >>= leave_by exits at vs))
      (extends p.extends t.extends) r t.below
      (λ z g m vs s i. decided t z g m vs s i (exec z.functions y >>= leave_by exits (place_in z m) vs) (ret flow.Normal >>= leave_by exits (place_in z m) vs)
      (λ u k. p.is z (grows t.extends.grows g) m vs u k) (λ u k. sym (given flow.Normal (leave_by exits (place_in z m) vs) u)))
      (λ functions at vs s. if_then functions (leave_by exits at vs) s x y)

  pub if_else_built : {a b c d f : Builder} {x : Expr} {y z : Statement} {exits : Exits} {i j here other : ℕ} → Builds kinds parameters a b here (Execute y exits) → Builds kinds parameters b c other (Execute z exits) → Builds kinds parameters c d i (Decide x here other)
      → Pushes d f (n.Spend i) j → Builds kinds parameters a f j (Execute (IfElse x y z) exits)
  if_else_built {x = x} {y = y} {z = z} {exits = exits} p q t r =
      stepped (Execute (IfElse x y z) exits)
      (λ functions at vs. eval functions x >>= λ w. choose (truth_of w) (exec functions y >>= leave_by exits at vs) (exec functions z >>= leave_by exits at vs))
      (extends p.extends (extends q.extends t.extends)) r t.below
      (λ all g m vs s i. decided t all g m vs s i (exec all.functions y >>= leave_by exits (place_in all m) vs) (exec all.functions z >>= leave_by exits (place_in all m) vs)
      (λ u k. p.is all (grows q.extends.grows (grows t.extends.grows g)) m vs u k) (λ u k. q.is all (grows t.extends.grows g) m vs u k))
      (λ functions at vs s. if_else_then functions (leave_by exits at vs) s x y z)

  -- statements in a row, from their end

  pub none_built : {a : Builder} {exits : Exits} → Stands exits.next a → Builds kinds parameters a a exits.next (ExecuteAll NoMore exits)
  none_built {exits = exits} h = record {
    extends = same;
    below = h.below;
    pos = h.pos;
    is = λ y g m vs s i. sym (none_then y.functions (leave_by exits (place_in y m) vs) s);
  }

  pub more_built : {a b c : Builder} {x : Statement} {all : Statements} {exits : Exits} {i j : ℕ} → Builds kinds parameters a b j (ExecuteAll all exits)
      → Builds kinds parameters b c i (Execute x (record { next = j; breaks = exits.breaks; continues = exits.continues })) → Builds kinds parameters a c i (ExecuteAll (Then x all) exits)
  more_built {x = x} {all = all} {exits = exits} {j = j} q r = record {
    extends = extends q.extends r.extends;
    below = r.below;
    pos = r.pos;
    is = λ y g m vs s i.
        r.is y g m vs s i
        ∙ later_in _ _ s m (keeps_exec y.functions y.calls.keep x) i (λ f t k. passed exits j (place_in y m) vs (exec_all y.functions all) f t (q.is y (grows r.extends.grows g) m vs t k))
        ∙ sym (more_then y.functions (leave_by exits (place_in y m) vs) s x all);
  }
