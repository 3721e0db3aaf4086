-- Statements that may stand in an action don't return.
use Rattle.std.proofs.Common.{◌≡◌, ℕ, zero, suc, Bool, true, false, ◌&&◌, List, [], ◌∷◌, ◌++◌, Option, Some, None, Result, Ok, Err, refl, ap, subst}
use Rattle.awk_value.specs.declared.value.Value.TheVariants as value
use Rattle.awk_grammar.specs.Tree.{OptionalExpr, NoExpr, AnExpr, SimpleStatement, Expression, Print, Delete, DeleteAll, Next, NextFile, Break, Continue, Exit, Return, Statement, Empty, Simple, Block, If, IfElse, While, Do, ForIn, For, Statements, NoMore, Then}
use Rattle.awk_kinds.specs.definitions.Placed.{Place, in_a_loop, simple_fits, statement_fits, block_fits}
use Rattle.awk_semantics.specs.declared.flow.Flow.{Flow}
use Rattle.awk_semantics.specs.declared.flow.Flow.TheVariants as flow
use Rattle.awk_semantics.specs.declared.halt.Halt.{Halt}
use Rattle.awk_semantics.specs.declared.halt.Halt.TheVariants as halt
use Rattle.awk_semantics.specs.definitions.State.{Effect, State, Run, go_on, ◌>>=◌, lift, ret}
use Rattle.awk_semantics.specs.definitions.Primitives.{spend, put, keys_in, delete_element, clear_array, set_status}
use Rattle.awk_semantics.specs.definitions.Streams.{close_main}
use Rattle.awk_semantics.specs.definitions.Semantics.{Functions, choose, tested, eval, key_of, print, begin_test, exit_with, exec_simple, exec_part, goes_on, ending, turn, unless_ended, repeat_within, repeat, walk, pass_on, exec, exec_all}
use Rattle.awk_resolve.specs.support.Holding.{IsAction}

-- what a part gives, where it doesn't end early, is such

pub record Gives {A : Type 0} (P : A → Type 0) (m : Run A) : Type 0 where
  pub at : (s : State) (a : A) → (m s).result ≡ Ok a → P a

abbrev anything : {A : Type 0} → A → Type 0
anything a = Unit {0}

whatever : {A : Type 0} (m : Run A) → Gives anything m
whatever m = record { at = λ s a e. tt }

go_gives : {A B : Type 0} {P : A → Type 0} {Q : B → Type 0} (f : A → Run B) (r : Result A Halt) (t : State) (es : List Effect) → ((a : A) → r ≡ Ok a → P a) → ((a : A) → P a → Gives Q (f a)) → (b : B) → (go_on r t es f).result ≡ Ok b → Q b
unfolding go_on
go_gives f (Ok a) t es p q b e = (q a (p a refl)).at t b e
go_gives f (Err h) t es p q b e = absurd (cc)

gives_then : {A B : Type 0} {P : A → Type 0} {Q : B → Type 0} {m : Run A} (f : A → Run B) → Gives P m → ((a : A) → P a → Gives Q (f a)) → Gives Q (m >>= f)
unfolding ◌>>=◌
gives_then {m = m} f p q = record { at = λ s b e. go_gives f (m s).result (m s).state (m s).effects (λ a r. p.at s a r) q b e }

-- behind whatever stands before it
later_gives : {A B : Type 0} {Q : B → Type 0} (m : Run A) (f : A → Run B) → ((a : A) → Gives Q (f a)) → Gives Q (m >>= f)
later_gives m f q = gives_then f (whatever m) (λ a _. q a)

gives_one : {A : Type 0} {P : A → Type 0} (a : A) → P a → Gives P (ret a)
unfolding lift
gives_one {P = P} a p = record { at = λ s b e. let same : a ≡ b = cc in subst P same p }

gives_none : {A : Type 0} {P : A → Type 0} (h : Halt) → Gives P (lift (Err h))
unfolding lift
gives_none h = record { at = λ s a e. absurd (cc) }

gives_chosen : {A : Type 0} {P : A → Type 0} (b : Bool) {here other : Run A} → Gives P here → Gives P other → Gives P (choose b here other)
gives_chosen true p q = p
gives_chosen false p q = q

-- statements that don't return

abbrev pub IsNoReturn : Flow → Type 0
IsNoReturn (flow.Return v) = ⊥
IsNoReturn f = Unit {0}

abbrev EndsWithout : Option Flow → Type 0
EndsWithout None = Unit {0}
EndsWithout (Some f) = IsNoReturn f

ends_without : (f : Flow) → IsNoReturn f → EndsWithout (ending f)
ends_without flow.Normal h = tt
ends_without flow.Break h = tt
ends_without flow.Continue h = tt
ends_without (flow.Return v) h = h

turn_gives : {body : Run Flow} → Gives IsNoReturn body → Gives EndsWithout (turn body)
unfolding turn
turn_gives {body = body} h = later_gives spend (λ _. body >>= λ f. ret (ending f)) (λ _. gives_then (λ f. ret (ending f)) h (λ f p. gives_one (ending f) (ends_without f p)))

unless_gives : (ended : Option Flow) {rest : Run Flow} → EndsWithout ended → Gives IsNoReturn rest → Gives IsNoReturn (unless_ended ended rest)
unless_gives None h p = p
unless_gives (Some f) h p = gives_one f h

repeat_within_gives : (n : ℕ) (condition : Run Bool) (body : Run Flow) (last : Run (Unit {0})) → Gives IsNoReturn body → Gives IsNoReturn (repeat_within n condition body last)
unfolding repeat_within
repeat_within_gives zero condition body last h = gives_none halt.OutOfSteps
repeat_within_gives (suc n) condition body last h =
    later_gives condition (λ x. choose x (turn body >>= λ ended. unless_ended ended (last >>= λ _. repeat_within n condition body last)) (ret flow.Normal))
    (λ x. gives_chosen x (gives_then (λ ended. unless_ended ended (last >>= λ _. repeat_within n condition body last)) (turn_gives h)
    (λ ended p. unless_gives ended p (later_gives last (λ _. repeat_within n condition body last) (λ _. repeat_within_gives n condition body last h))))
    (gives_one flow.Normal tt))

repeat_gives : (condition : Run Bool) (body : Run Flow) (last : Run (Unit {0})) → Gives IsNoReturn body → Gives IsNoReturn (repeat condition body last)
unfolding repeat
repeat_gives condition body last h = record { at = λ s f e. (repeat_within_gives (suc s.steps) condition body last h).at s f e }

walk_gives : (x : List ℕ) (keys : List (List ℕ)) (body : Run Flow) → Gives IsNoReturn body → Gives IsNoReturn (walk x keys body)
unfolding walk
walk_gives x [] body h = gives_one flow.Normal tt
walk_gives x (key ∷ keys) body h =
    gives_then (λ ended. unless_ended ended (walk x keys body)) (turn_gives (later_gives (put x (value.Text key)) (λ _. body) (λ _. h))) (λ ended p. unless_gives ended p (walk_gives x keys body h))

pass_gives : (f : Flow) {rest : Run Flow} → IsNoReturn f → Gives IsNoReturn rest → Gives IsNoReturn (pass_on f rest)
pass_gives flow.Normal h p = p
pass_gives flow.Break h p = gives_one flow.Break tt
pass_gives flow.Continue h p = gives_one flow.Continue tt
pass_gives (flow.Return v) h p = absurd h

pub both_true : (a b : Bool) → (a && b) ≡ true → (a ≡ true) × (b ≡ true)
both_true true b e = (refl, e)
both_true false b e = absurd (cc)

module _ (functions : Functions) where
  exit_gives : (e : OptionalExpr) → Gives IsNoReturn (exit_with functions e)
  unfolding exit_with
  exit_gives NoExpr = gives_none halt.Exit
  exit_gives (AnExpr e) = later_gives (eval functions e) (λ v. set_status v >>= λ _. lift (Err halt.Exit)) (λ v. later_gives (set_status v) (λ _. lift (Err halt.Exit)) (λ _. gives_none halt.Exit))

  simple_gives : (place : Place) → place.a_function ≡ false → (simple : SimpleStatement) → simple_fits place simple ≡ true → Gives IsNoReturn (exec_simple functions simple)
  unfolding exec_simple
  simple_gives place out (Expression e) fits = later_gives spend (λ _. eval functions e >>= λ v. ret flow.Normal) (λ _. later_gives (eval functions e) (λ v. ret flow.Normal) (λ v. gives_one flow.Normal tt))
  simple_gives place out (Print form list output) fits = later_gives (print functions form list output) (λ _. ret flow.Normal) (λ _. gives_one flow.Normal tt)
  simple_gives place out (Delete x es) fits =
      later_gives spend (λ _. key_of functions [] es >>= λ key. delete_element x key >>= λ _. ret flow.Normal)
      (λ _. later_gives (key_of functions [] es) (λ key. delete_element x key >>= λ _. ret flow.Normal) (λ key. later_gives (delete_element x key) (λ _. ret flow.Normal) (λ _. gives_one flow.Normal tt)))
  simple_gives place out (DeleteAll x) fits = later_gives spend (λ _. clear_array x >>= λ _. ret flow.Normal) (λ _. later_gives (clear_array x) (λ _. ret flow.Normal) (λ _. gives_one flow.Normal tt))
  simple_gives place out NextFile fits = later_gives spend (λ _. close_main >>= λ _. lift (Err halt.Next)) (λ _. later_gives close_main (λ _. lift (Err halt.Next)) (λ _. gives_none halt.Next))
  simple_gives place out Next fits = later_gives spend (λ _. lift (Err halt.Next)) (λ _. gives_none halt.Next)
  simple_gives place out Break fits = later_gives spend (λ _. ret flow.Break) (λ _. gives_one flow.Break tt)
  simple_gives place out Continue fits = later_gives spend (λ _. ret flow.Continue) (λ _. gives_one flow.Continue tt)
  simple_gives place out (Exit e) fits = later_gives spend (λ _. exit_with functions e) (λ _. exit_gives e)
  simple_gives place out (Return e) fits = absurd (cc (out, fits))

  mutual
    unfolding exec

    statement_gives : (place : Place) → place.a_function ≡ false → (s : Statement) → statement_fits place s ≡ true → Gives IsNoReturn (exec functions s)
    statement_gives place out Empty fits = gives_one flow.Normal tt
    statement_gives place out (Simple simple) fits = simple_gives place out simple fits
    statement_gives place out (Block all) fits = block_gives place out all fits
    statement_gives place out (If c s) fits =
        let body = statement_gives place out s fits in
        later_gives (begin_test functions c) (λ x. choose x (exec functions s) (ret flow.Normal)) (λ x. gives_chosen x body (gives_one flow.Normal tt))
    statement_gives place out (IfElse c s other) fits =
        let both = both_true (statement_fits place s) (statement_fits place other) fits in
        let body = statement_gives place out s both.0 in
        let rest = statement_gives place out other both.1 in
        later_gives (begin_test functions c) (λ x. choose x (exec functions s) (exec functions other)) (λ x. gives_chosen x body rest)
    statement_gives place out (While c s) fits =
        let body = statement_gives (in_a_loop place) out s fits in
        later_gives spend (λ _. repeat (tested (eval functions c)) (exec functions s) (ret tt)) (λ _. repeat_gives (tested (eval functions c)) (exec functions s) (ret tt) body)
    statement_gives place out (Do s c) fits =
        let body = statement_gives (in_a_loop place) out s fits in
        later_gives spend (λ _. turn (exec functions s) >>= λ ended. unless_ended ended (repeat (tested (eval functions c)) (exec functions s) (ret tt)))
        (λ _. gives_then (λ ended. unless_ended ended (repeat (tested (eval functions c)) (exec functions s) (ret tt))) (turn_gives body)
        (λ ended p. unless_gives ended p (repeat_gives (tested (eval functions c)) (exec functions s) (ret tt) body)))
    statement_gives place out (ForIn x array s) fits =
        let body = statement_gives (in_a_loop place) out s fits in
        later_gives spend (λ _. keys_in array >>= λ keys. walk x keys (exec functions s)) (λ _. later_gives (keys_in array) (λ keys. walk x keys (exec functions s)) (λ keys. walk_gives x keys (exec functions s) body))
    statement_gives place out (For first c last s) fits =
        let body = statement_gives (in_a_loop place) out s fits in
        later_gives spend (λ _. exec_part functions first >>= λ _. repeat (goes_on functions c) (exec functions s) (exec_part functions last))
        (λ _. later_gives (exec_part functions first) (λ _. repeat (goes_on functions c) (exec functions s) (exec_part functions last)) (λ _. repeat_gives (goes_on functions c) (exec functions s) (exec_part functions last) body))

    block_gives : (place : Place) → place.a_function ≡ false → (all : Statements) → block_fits place all ≡ true → Gives IsNoReturn (exec_all functions all)
    block_gives place out NoMore fits = gives_one flow.Normal tt
    block_gives place out (Then s all) fits =
        let both = both_true (statement_fits place s) (block_fits place all) fits in
        let first = statement_gives place out s both.0 in
        let rest = block_gives place out all both.1 in
        gives_then (λ f. pass_on f (exec_all functions all)) first (λ f p. pass_gives f p rest)

  pub action_gives : {all : Statements} → IsAction all → Gives IsNoReturn (exec_all functions all)
  action_gives {all = all} h = block_gives h.place h.outside all h.fits

-- what follows is asked of what was given

go_given : {A B : Type 0} {P : A → Type 0} (r : Result A Halt) (t : State) (es : List Effect) (f g : A → Run B) → ((a : A) → r ≡ Ok a → P a) → ((a : A) (u : State) → P a → f a u ≡ g a u) → go_on r t es f ≡ go_on r t es g
unfolding go_on
go_given (Ok a) t es f g p e = ap (λ o. record { result = o.result; state = o.state; effects = es ++ o.effects }) (e a t (p a refl))
go_given (Err h) t es f g p e = refl

pub later_given : {A B : Type 0} {P : A → Type 0} {m : Run A} (f g : A → Run B) (s : State) → Gives P m → ((a : A) (u : State) → P a → f a u ≡ g a u) → (m >>= f) s ≡ (m >>= g) s
unfolding ◌>>=◌
later_given {m = m} f g s p e = go_given (m s).result (m s).state (m s).effects f g (λ a r. p.at s a r) e
