use Rattle.std.proofs.Common.{◌≡◌, rules, refl, sym, subst, to_z, of_z}
use mir.Syntax.{w128}
use Rattle.awk_value.specs.declared.value.Value.{Value}
use Rattle.awk_semantics.specs.declared.local.Local.TheVariants as local
use Rattle.awk_runtime.specs.Calling.{Gives}
use Rattle.awk_evaluator.proofs.Arguments.{top_given}
use Rattle.awk_evaluator.proofs.machine.Machine.give_top.Goals as goal

pub returns : goal.returns
returns c = top_given (subst (λ (v : Value). Gives (local.Value v) c.args.self.now.runtime c.give_value-2.new.self c.give_value-2.result) c.pop-value.ensures.top c.give_value-2.ensures) c.pop-value.ensures.rest

pub returns-in-Some : goal.returns-in-Some
returns-in-Some c =
    let number : to_z w128 (of_z w128 c.in-Some.n) ≡ c.in-Some.n = search rules in
    let gives = c.give_value.ensures in
    top_given (subst (λ (v : Value). Gives (local.Value v) c.args.self.now.runtime c.give_value.new.self c.give_value.result) (sym (c.in-Some.ensures {u = tt})) (rw number at gives)) c.pop.ensures.rest
