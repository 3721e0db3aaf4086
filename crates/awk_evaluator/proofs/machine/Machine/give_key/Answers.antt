use Rattle.std.proofs.Common.{rules, arith, ◌≡◌, ◌-◌, ◌∷◌, pos, refl, ap, ◌∙◌}
use Rattle.std.proofs.lemmas.Result.{err_from_is_err_and}
use Rattle.std.proofs.lemmas.Grind.{common_steps}
use Rattle.awk_value.specs.declared.value.Value.TheVariants as value
use Rattle.awk_evaluator.proofs.KeysTaken.{next_key, key_refused, key_stuck}
use Rattle.awk_evaluator.proofs.machine.Machine.give_key.Goals as goal

pub returns-in_err-put_variable : goal.returns-in_err-put_variable
returns-in_err-put_variable c =
    let p = err_from_is_err_and c.from_residual.result c.from_residual.ensures.1 in
    rw (p.1, p.2) (key_refused c.pop-count.ensures.rest c.pop-key.ensures.top c.in_err-put_variable.ensures)

pub returns-in_err-push : goal.returns-in_err-push
returns-in_err-push c =
    let p = err_from_is_err_and c.from_residual-in_err-push.result c.from_residual-in_err-push.ensures.1 in
    rw (p.1, p.2) (key_stuck c.pop-count.ensures.rest c.pop-key.ensures.top c.in_ok-put_variable.ensures)

pub returns : goal.returns
returns c =
    let pushed : c.push.new.self ≡ record { values = value.Number (pos c.saturating_sub-left.result) ∷ c.pop-key.new.self.values; below = c.pop-key.new.self.below } = first_of (search rules, grind (arith, common_steps)) in
    next_key c.pop-count.ensures.top c.pop-count.ensures.rest c.pop-key.ensures.top c.pop-key.ensures.rest c.in_ok-put_variable.ensures (c.saturating_sub-left.ensures ∙ ap (λ n. n - 1) c.keys_left.ensures) pushed c.in_ok-put_variable.ensures.callers
