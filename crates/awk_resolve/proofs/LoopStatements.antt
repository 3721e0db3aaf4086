-- What is built of loops does what they mean.
use Rattle.std.proofs.Common.{◌≡◌, ℕ, zero, suc, ◌<◌, ◌≤◌, Bool, List, Ok, get_or, refl, sym, ap, ◌∙◌}
use Rattle.awk_value.specs.declared.value.Value.{Value}
use Rattle.awk_grammar.specs.Tree.{Expr, OptionalExpr, OptionalSimple, Statement, While, Do, For}
use Rattle.awk_kinds.specs.definitions.Kinds.{FormalParameter}
use Rattle.awk_kinds.specs.definitions.Signatures.{ProgramKinds}
use Rattle.awk_semantics.specs.declared.flow.Flow.{Flow}
use Rattle.awk_semantics.specs.declared.flow.Flow.TheVariants as flow
use Rattle.awk_semantics.specs.definitions.State.{State, Run, ◌>>=◌, ret}
use Rattle.awk_semantics.specs.definitions.Primitives.{spend}
use Rattle.awk_semantics.specs.definitions.Semantics.{Functions, choose, tested, eval, exec_part, goes_on, turn, unless_ended, repeat, exec}
use Rattle.awk_semantics.specs.support.Keeps.{Keeps}
use Rattle.awk_semantics.proofs.Keeping.{keeps_lift}
use Rattle.awk_semantics.proofs.KeepsForms.{keeps_eval, keeps_tested, keeps_exec, keeps_exec_part, keeps_goes_on, keeps_repeat}
use Rattle.awk_resolve.specs.declared.node.Node.TheVariants as n
use Rattle.awk_resolve.specs.declared.builder.Builder.{Builder}
use Rattle.awk_resolve.specs.declared.builder.Exits.{Exits}
use Rattle.awk_resolve.specs.support.Nodes.{Cont}
use Rattle.awk_resolve.specs.support.Builds.{Grows, Pushes, Opens, Closes, Extends, IsIn, Program, Decide, DecideOptional, Execute, ExecutePart, leave_by, place_in, turns_in, Builds}
use Rattle.awk_resolve.proofs.Calculus.{given, later_in}
use Rattle.awk_resolve.proofs.Levels.{places_agree}
use Rattle.awk_resolve.proofs.Loops.{IsLoop, repeats, enters}
use Rattle.awk_resolve.proofs.Building.{grows, extends, longer, placed, at_once, stays, enclosed}
use Rattle.awk_resolve.proofs.Passing.{while_then, do_then, for_then, tested_then}
use Rattle.awk_resolve.proofs.SimpleStatements.{stepped}

-- what goes on alike from each place goes on alike from a statement
pub left_alike : (exits : Exits) (at at' : ℕ → Cont) (vs : List Value) (s : State) → ((i : ℕ) → at i vs s ≡ at' i vs s) → (f : Flow) → leave_by exits at vs f s ≡ leave_by exits at' vs f s
left_alike exits at at' vs s h flow.Normal = h exits.next
left_alike exits at at' vs s h flow.Break = h exits.breaks
left_alike exits at at' vs s h flow.Continue = h exits.continues
left_alike exits at at' vs s h (flow.Return w) = refl

-- where the body of a loop goes on
abbrev pub around : (next exit : ℕ) → Exits
around next exit = record { next = next; breaks = exit; continues = next }

-- the places of a program agree at each level that is not below the steps left
pub levels_alike : {kinds : ProgramKinds} (p : Program kinds) (exits : Exits) (vs : List Value) (k m : ℕ) (s : State) (f : Flow) → s.steps ≤ k → s.steps ≤ m → leave_by exits (place_in p k) vs f s ≡ leave_by exits (place_in p m) vs f s
levels_alike p exits vs k m s f low high =
    left_alike exits (place_in p k) (place_in p m) vs s (λ i. places_agree p.tables p.functions p.calls.keep p.all.heads.items p.all.nodes.items k m i vs s low high) f

-- the parts of a loop that is built: what it tests, its body, and what stands behind a turn
record Parts (kinds : ProgramKinds) (parameters : List FormalParameter) (f : Builder) (test : Functions → Run Bool) (body : Statement) (last : Functions → Run (Unit {0})) (exits : Exits) (number again cond behind first : ℕ) : Type 0 where
  keeps_test : (p : Program kinds) → Keeps (test p.functions)
  keeps_last : (p : Program kinds) → Keeps (last p.functions)
  turns : (p : Program kinds) → Grows f p.all → (m : ℕ) → place_in p m again ≡ turns_in p m number
  pos : 0 < first
  head : get_or f.heads.items number 0 ≡ first
  tests : (p : Program kinds) → Grows f p.all → (m : ℕ) (vs : List Value) (s : State) → IsIn p.tables parameters m s → place_in p m cond vs s ≡ (test p.functions >>= λ b. choose b (place_in p m again vs) (place_in p m exits.next vs)) s
  runs : (p : Program kinds) → Grows f p.all → (m : ℕ) (vs : List Value) (s : State) → IsIn p.tables parameters m s → place_in p m first vs s ≡ (exec p.functions body >>= leave_by (around behind exits.next) (place_in p m) vs) s
  goes : (p : Program kinds) → Grows f p.all → (m : ℕ) (vs : List Value) (s : State) → IsIn p.tables parameters m s → place_in p m behind vs s ≡ (last p.functions >>= λ _. place_in p m cond vs) s

module _ {kinds : ProgramKinds} {parameters : List FormalParameter} where
  module _ {f : Builder} {test : Functions → Run Bool} {body : Statement} {last : Functions → Run (Unit {0})} {exits : Exits} {number again cond behind first : ℕ} (parts : Parts kinds parameters f test body last exits number again cond behind first) (p : Program kinds) (g : Grows f p.all) (vs : List Value) where
    is_loop : IsLoop p.tables parameters (test p.functions) (exec p.functions body) (last p.functions) (λ k. place_in p k cond vs) (λ k. place_in p k again vs) (λ k. place_in p k exits.next vs) (λ k. place_in p k first vs) (λ k. place_in p k behind vs)
        (λ k fl. leave_by exits (place_in p k) vs fl) (λ k fl. leave_by (around behind exits.next) (place_in p k) vs fl)
    is_loop =
        let head : get_or p.all.heads.items number 0 ≡ first = stays number first parts.pos parts.head g in
        record {
          keeps_condition = parts.keeps_test p;
          keeps_body = keeps_exec p.functions p.calls.keep body;
          keeps_last = parts.keeps_last p;
          none = λ s. at_once (parts.turns p g zero) vs s;
          more = λ k s. at_once (parts.turns p g (suc k)) vs s ∙ ap (λ i. (spend >>= λ _. place_in p k i vs) s) head;
          tests = λ k s i. parts.tests p g k vs s i;
          runs = λ k s i. parts.runs p g k vs s i;
          goes_on = λ k s i. parts.goes p g k vs s i;
          out_normal = λ k. refl;
          out_return = λ k w. refl;
          normal = λ k. refl;
          continue = λ k. refl;
          break = λ k. refl;
          return = λ k w. refl;
          alike = λ k m s fl low high. levels_alike p exits vs k m s fl low high;
        }

    looped : (m : ℕ) (s : State) → IsIn p.tables parameters m s → place_in p m cond vs s ≡ (repeat (test p.functions) (exec p.functions body) (last p.functions) >>= leave_by exits (place_in p m) vs) s
    looped m s i = repeats is_loop m s i

  -- a condition that is tested, as a loop has it
  tests_built : {b c : Builder} {x : Expr} {cond again exit : ℕ} → Builds kinds parameters b c cond (Decide x again exit) → (p : Program kinds) → Grows c p.all → (m : ℕ) (vs : List Value) (s : State) → IsIn p.tables parameters m s
      → place_in p m cond vs s ≡ (tested (eval p.functions x) >>= λ b. choose b (place_in p m again vs) (place_in p m exit vs)) s
  tests_built {x = x} {again = again} {exit = exit} q p g m vs s i = q.is p g m vs s i ∙ sym (tested_then (eval p.functions x) (λ b. choose b (place_in p m again vs) (place_in p m exit vs)) s)

  -- a loop without a last part
  plain_parts : {a b c d f g : Builder} {x : Expr} {y : Statement} {exits : Exits} {number again cond first : ℕ} → Opens a b number → Pushes b c (n.Again number) again → Builds kinds parameters c d cond (Decide x again exits.next) → Builds kinds parameters d f first (Execute y (around cond exits.next)) → Closes f g number first
      → (Extends a g) × Grows f g × Parts kinds parameters g (λ functions. tested (eval functions x)) y (λ functions. ret tt) exits number again cond cond first
  plain_parts {number = number} {cond = cond} p q t r w =
      let o = placed q tt in
      let shut = enclosed p (extends o.extends (extends t.extends r.extends)) w in (
        shut.0.extends,
        shut.1,
        record {
          keeps_test = λ y. keeps_tested (keeps_eval y.functions y.calls.keep _);
          keeps_last = λ y. keeps_lift (Ok tt);
          turns = λ y k m. o.is y (grows t.extends.grows (grows r.extends.grows (grows shut.1 k))) m;
          pos = r.pos;
          head = shut.0.head;
          tests = λ y k m vs s i. tests_built t y (grows r.extends.grows (grows shut.1 k)) m vs s i;
          runs = λ y k m vs s i. r.is y (grows shut.1 k) m vs s i;
          goes = λ y k m vs s i. sym (given tt (λ _. place_in y m cond vs) s);
        },
      )

  pub while_built : {a b c d f g h : Builder} {x : Expr} {y : Statement} {exits : Exits} {number again cond first j : ℕ} → Opens a b number → Pushes b c (n.Again number) again → Builds kinds parameters c d cond (Decide x again exits.next)
      → Builds kinds parameters d f first (Execute y (record { next = cond; breaks = exits.next; continues = cond })) → Closes f g number first → Pushes g h (n.Spend cond) j
      → Builds kinds parameters a h j (Execute (While x y) exits)
  while_built {x = x} {y = y} {exits = exits} {cond = cond} p q t r w z =
      let built = plain_parts p q t r w in
      stepped (Execute (While x y) exits) (λ functions at vs. repeat (tested (eval functions x)) (exec functions y) (ret tt) >>= leave_by exits at vs) built.0 z
      (longer cond built.1 (longer cond r.extends.grows t.below))
      (λ all k m vs s i. looped built.2 all k vs m s i)
      (λ functions at vs s. while_then functions (leave_by exits at vs) s x y)

  pub do_built : {a b c d f g h : Builder} {x : Expr} {y : Statement} {exits : Exits} {number again cond first j : ℕ} → Opens a b number → Pushes b c (n.Again number) again → Builds kinds parameters c d cond (Decide x again exits.next)
      → Builds kinds parameters d f first (Execute y (record { next = cond; breaks = exits.next; continues = cond })) → Closes f g number first → Pushes g h (n.Spend again) j
      → Builds kinds parameters a h j (Execute (Do y x) exits)
  do_built {x = x} {y = y} {exits = exits} {again = again} p q t r w z =
      let built = plain_parts p q t r w in
      let o = placed {kinds = kinds} q tt in
      stepped (Execute (Do y x) exits) (λ functions at vs. (turn (exec functions y) >>= λ ended. unless_ended ended (repeat (tested (eval functions x)) (exec functions y) (ret tt))) >>= leave_by exits at vs) built.0 z
      (longer again built.1 (longer again r.extends.grows (longer again t.extends.grows o.below)))
      (λ all k m vs s i. enters (is_loop built.2 all k vs) (λ l u h. refl) (keeps_repeat (built.2.keeps_test all) (keeps_exec all.functions all.calls.keep y) (built.2.keeps_last all)) m s i)
      (λ functions at vs s. do_then functions (leave_by exits at vs) s y x)

  pub for_built : {a b c d f g h k l : Builder} {first last : OptionalSimple} {x : OptionalExpr} {y : Statement} {exits : Exits} {number again cond behind body i j : ℕ} → Opens a b number → Pushes b c (n.Again number) again
      → Builds kinds parameters c d cond (DecideOptional x again exits.next) → Builds kinds parameters d f behind (ExecutePart last cond) → Builds kinds parameters f g body (Execute y (record { next = behind; breaks = exits.next; continues = behind }))
      → Closes g h number body → Builds kinds parameters h k i (ExecutePart first cond) → Pushes k l (n.Spend i) j → Builds kinds parameters a l j (Execute (For first x last y) exits)
  for_built {first = first} {last = last} {x = x} {y = y} {exits = exits} p q t u r w v z =
      let o = placed q tt in
      let shut = enclosed p (extends o.extends (extends t.extends (extends u.extends r.extends))) w in
      let parts : Parts kinds parameters _ (λ functions. goes_on functions x) y (λ functions. exec_part functions last) exits _ _ _ _ _ = record {
        keeps_test = λ all. keeps_goes_on all.functions all.calls.keep x;
        keeps_last = λ all. keeps_exec_part all.functions all.calls.keep last;
        turns = λ all e m. o.is all (grows t.extends.grows (grows u.extends.grows (grows r.extends.grows (grows shut.1 e)))) m;
        pos = r.pos;
        head = shut.0.head;
        tests = λ all e m vs s i. t.is all (grows u.extends.grows (grows r.extends.grows (grows shut.1 e))) m vs s i;
        runs = λ all e m vs s i. r.is all (grows shut.1 e) m vs s i;
        goes = λ all e m vs s i. u.is all (grows r.extends.grows (grows shut.1 e)) m vs s i;
      } in
      stepped (Execute (For first x last y) exits)
      (λ functions at vs. exec_part functions first >>= λ _. repeat (goes_on functions x) (exec functions y) (exec_part functions last) >>= leave_by exits at vs)
      (extends shut.0.extends v.extends) z v.below
      (λ all e m vs s i. v.is all e m vs s i ∙ later_in _ _ s m (keeps_exec_part all.functions all.calls.keep first) i (λ _ s' i'. looped parts all (grows v.extends.grows e) vs m s' i'))
      (λ functions at vs s. for_then functions (leave_by exits at vs) s first x last y)
