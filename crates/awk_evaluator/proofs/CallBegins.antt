-- What the parts of a call's beginning do together.
use Rattle.std.proofs.Common.{◌≡◌, ℕ, Bool, List, [], ◌∷◌, ◌++◌, length, map, drop, take, reverse, Result, Ok, Err, refl, sym, ap, ◌∙◌, subst, arith}
use Rattle.std.proofs.lemmas.List.{reverse-reverse, take_at, drop_at}
use Rattle.awk_value.specs.declared.value.Value.{Value}
use Rattle.awk_kinds.specs.Kinds.{FormalParameter}
use Rattle.awk_semantics.specs.declared.halt.Halt.{Halt}
use Rattle.awk_semantics.specs.declared.local.Local.TheVariants as local
use Rattle.awk_semantics.specs.State.{State, ◌>>=◌}
use Rattle.awk_semantics.specs.Primitives.{check_height, spend, enter}
use Rattle.awk_resolve.specs.declared.node.ArgumentForm.{ArgumentForm}
use Rattle.awk_resolve.specs.declared.node.ArgumentForm.TheVariants as form
use Rattle.awk_resolve.specs.declared.plan.Function.{Function as PlannedFunction}
use Rattle.awk_resolve.specs.Nodes.{given_by, locals_by, taken, values_among}
use Rattle.awk_runtime.specs.declared.runtime.Runtime.{Runtime}
use Rattle.awk_runtime.specs.Simulation.{OwnRelation, Changes, ChangesCalls, Spends}
use Rattle.awk_runtime.specs.Calling.{without_given, EntersCall}
use Rattle.awk_runtime.proofs.Composition.{then_changes, ends_changes, as_calls, then_calls, memory_calls}
use Rattle.awk_runtime.proofs.ArrayWords.{number_holds}
use Rattle.awk_runtime.proofs.CallLemmas.{given_changes}
use Rattle.awk_storage.specs.declared.entry.Caller.{Caller}
use Rattle.awk_evaluator.specs.declared.machine.Machine.{Machine}
use Rattle.awk_evaluator.specs.Operands.{OperandsView, all_of}
use Rattle.awk_evaluator.specs.Rest.{Entry, seen}
use Rattle.awk_evaluator.specs.Moves.{stack_of}
use Rattle.awk_evaluator.specs.Calling.{kept_by, kept_all, with_all, GivesAll, begin_call, BeginsCall}
use Rattle.awk_evaluator.proofs.Returning.{newest_seen}

-- arguments, by the code and by the definitions
kept_holds : (fs : List ArgumentForm) (vs : List Value) {b : Runtime} {s : State} → OwnRelation b s → locals_by fs vs s ≡ kept_all fs vs b.frames
kept_holds [] vs h = refl
kept_holds (form.Value ∷ fs) vs {b = b} {s = s} h = ap (λ ls. kept_by form.Value vs b.frames ∷ ls) (kept_holds fs (drop 1 vs) h)
kept_holds (form.Array a ∷ fs) vs {b = b} {s = s} h = ap (λ n. local.Array n ∷ locals_by fs vs s) (sym (number_holds a h)) ∙ ap (λ ls. kept_by (form.Array a) vs b.frames ∷ ls) (kept_holds fs vs h)

entered_given : {b g e : Runtime} {r : Result (Unit {0}) Halt} (fs : List ArgumentForm) (args : List Value) (ps : List FormalParameter) (h : ℕ) → g ≡ with_all (kept_all fs args b.frames) b
    → ChangesCalls (enter ps h g.frames.staged) (without_given g) e r → ChangesCalls (given_by fs args >>= λ x. enter ps h x) b e r
unfolding given_by
entered_given {b = b} {g = g} {e = e} {r = r} fs args ps h is d =
    given_changes (locals_by fs args) g.frames.staged (λ x. enter ps h x)
    (λ s o. kept_holds fs args o ∙ ap (λ ls. ls ++ kept_all fs args b.frames) (sym o.staged) ∙ sym (ap (λ (x : Runtime). x.frames.staged) is))
    (subst (λ (x : Runtime). ChangesCalls (enter ps h g.frames.staged) x e r) (ap without_given is) d)

-- parameters of these kinds
abbrev some_parameters : List Bool → List FormalParameter
some_parameters [] = []
some_parameters (b ∷ bs) = record { name = []; is_array = b } ∷ some_parameters bs

are_kinds : (bs : List Bool) → map (λ (p : FormalParameter). p.is_array) (some_parameters bs) ≡ bs
are_kinds [] = refl
are_kinds (b ∷ bs) = ap (λ l. b ∷ l) (are_kinds bs)

module _ (f : PlannedFunction) (fs : List ArgumentForm) (next : ℕ) (m : Machine) where
  -- what ended, whatever the parameters are
  failed : {m' : Machine} {h : Halt} → ((ps : List FormalParameter) → map (λ (p : FormalParameter). p.is_array) ps ≡ f.arrays.items → ChangesCalls (begin_call ps f.height fs m) m.runtime m'.runtime (Err h)) → BeginsCall f fs next m (Err h) m'
  failed c =
      let one = c (some_parameters f.arrays.items) (are_kinds f.arrays.items) in
      record { begins = tt; names = one.names; steps = one.steps; streams = one.streams; changes = c }

  pub check_ends : {m' : Machine} {h : Halt} → Changes (check_height f.height) m.runtime m'.runtime (Err h) → BeginsCall f fs next m (Err h) m'
  check_ends c = failed (λ ps is. as_calls (ends_changes (λ _. spend >>= λ _. given_by fs (taken (values_among fs) m.operands.values) >>= λ given. enter ps f.height given) c))

  module _ {a : Runtime} (checked : Changes (check_height f.height) m.runtime a (Ok tt)) where
    pub spend_ends : {m' : Machine} {h : Halt} → Spends a m'.runtime (Err h) → BeginsCall f fs next m (Err h) m'
    spend_ends s = failed (λ ps is. as_calls (then_changes (λ _. spend >>= λ _. given_by fs (taken (values_among fs) m.operands.values) >>= λ given. enter ps f.height given) checked
        (ends_changes (λ _. given_by fs (taken (values_among fs) m.operands.values) >>= λ given. enter ps f.height given) s.changes)))

    both : {b e : Runtime} {r : Result (Unit {0}) Halt} → Spends a b (Ok tt) → (ps : List FormalParameter) → ChangesCalls (given_by fs (taken (values_among fs) m.operands.values) >>= λ given. enter ps f.height given) b e r → ChangesCalls (begin_call ps f.height fs m) m.runtime e r
    both spent ps d = then_calls (λ _. spend >>= λ _. given_by fs (taken (values_among fs) m.operands.values) >>= λ given. enter ps f.height given) checked
        (then_calls (λ _. given_by fs (taken (values_among fs) m.operands.values) >>= λ given. enter ps f.height given) spent.changes d)

    module _ {b : Machine} (spent : Spends a b.runtime (Ok tt)) (operands : b.operands ≡ m.operands) where
      pub give_ends : {m' : Machine} {h : Halt} → GivesAll fs b (Err h) m' → BeginsCall f fs next m (Err h) m'
      give_ends {m' = m'} {h = h} g = failed (λ ps is. both spent ps (subst (λ (x : Halt). ChangesCalls (given_by fs (taken (values_among fs) m.operands.values) >>= λ given. enter ps f.height given) b.runtime m'.runtime (Err x)) (sym g.memory) (memory_calls _ g.streams g.names g.steps)))

      module _ {g : Machine} (given : GivesAll fs b (Ok tt) g) {kinds : List Bool} (are : kinds ≡ f.arrays.items) where
        entered_by : {caller : Caller} {e : Runtime} {r : Result (Unit {0}) Halt} → EntersCall kinds f.height caller g.runtime e r → (ps : List FormalParameter) → map (λ (p : FormalParameter). p.is_array) ps ≡ f.arrays.items → ChangesCalls (begin_call ps f.height fs m) m.runtime e r
        entered_by x ps is = both spent ps (entered_given fs (taken (values_among fs) m.operands.values) ps f.height
            (given.given ∙ ap (λ (o : OperandsView). with_all (kept_all fs (taken (values_among fs) o.values) b.runtime.frames) b.runtime) operands)
            (x.enters ps (is ∙ sym are)))

        pub enter_ends : {caller : Caller} {m' : Machine} {h : Halt} → EntersCall kinds f.height caller g.runtime m'.runtime (Err h) → BeginsCall f fs next m (Err h) m'
        enter_ends x = failed (entered_by x)

        entered_stack : (m' : Machine) {base : ℕ} → base ≡ length g.operands.below → m'.operands ≡ record { values = []; below = all_of g.operands } → m'.runtime.frames.callers ≡ record { next = next; base = base } ∷ g.runtime.frames.callers
            → stack_of m' ≡ record { next = next; values = drop (values_among fs) m.operands.values } ∷ stack_of m
        entered_stack m' {base = base} base_is is callers =
            let at : (vs bl : List Value) (cs : List Caller) → List Entry = λ vs bl cs. record { next = next; values = vs } ∷ seen bl cs in
            let all = all_of g.operands in
            let values : reverse (drop base all) ≡ drop (values_among fs) m.operands.values =
            ap reverse (drop_at g.operands.below (reverse g.operands.values) base (sym base_is)) ∙ reverse-reverse g.operands.values
            ∙ ap (λ (o : OperandsView). o.values) given.operands ∙ ap (λ (o : OperandsView). drop (values_among fs) o.values) operands in
            let below : take base all ≡ m.operands.below =
            take_at g.operands.below (reverse g.operands.values) base (sym base_is) ∙ ap (λ (o : OperandsView). o.below) given.operands ∙ ap (λ (o : OperandsView). o.below) operands in
            newest_seen m'.operands (record { next = next; base = base }) callers
            ∙ ap (λ (o : OperandsView). at (reverse (drop base o.below)) (take base o.below) g.runtime.frames.callers) is
            ∙ ap (λ vs. at vs (take base all) g.runtime.frames.callers) values
            ∙ ap (λ bl. at (drop (values_among fs) m.operands.values) bl g.runtime.frames.callers) below
            ∙ ap (λ cs. at (drop (values_among fs) m.operands.values) m.operands.below cs) (given.calls ∙ (spent.changes.callers ∙ checked.callers))

        pub begins_call : {m' : Machine} {e : Runtime} {base : ℕ} → m'.runtime ≡ e → base ≡ length g.operands.below → EntersCall kinds f.height (record { next = next; base = base }) g.runtime e (Ok tt) → m'.operands ≡ record { values = []; below = all_of g.operands }
            → BeginsCall f fs next m (Ok f.body) m'
        begins_call {m' = m'} {e = e} same base_is x below =
            let c : (ps : List FormalParameter) → map (λ (p : FormalParameter). p.is_array) ps ≡ f.arrays.items → ChangesCalls (begin_call ps f.height fs m) m.runtime m'.runtime (Ok tt) = λ ps is. subst (λ (y : Runtime). ChangesCalls (begin_call ps f.height fs m) m.runtime y (Ok tt)) (sym same) (entered_by x ps is) in
            let one = c (some_parameters f.arrays.items) (are_kinds f.arrays.items) in
            let last = ap (λ (y : Runtime). y.steps) same in
            let fourth = (x.enters (some_parameters f.arrays.items) (are_kinds f.arrays.items ∙ sym are)).steps in
            let third = given.steps in
            let second = spent.falls in
            let first = checked.steps in
            record { begins = (refl, omega (arith, last, fourth, third, second, first), entered_stack m' base_is below (ap (λ (y : Runtime). y.frames.callers) same ∙ x.callers)); names = one.names; steps = one.steps; streams = one.streams; changes = c }
