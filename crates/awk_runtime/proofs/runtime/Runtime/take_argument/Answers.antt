use Rattle.std.proofs.Common.{◌≡◌, pos, true, false, rules, refl, sym, ap, ◌∙◌, arith}
use Rattle.std.specs.Prelude.{int_lt}
use Rattle.std.proofs.lemmas.Result.{err_from_is_err_and}
use Rattle.awk_value.specs.Values.{num_of}
use Rattle.awk_runtime.proofs.Composition.{memory_changes}
use Rattle.awk_runtime.proofs.ArgumentWords.{argument_faults, argument_none, argument_taken}
use Rattle.awk_runtime.proofs.runtime.Runtime.take_argument.Goals as goal

pub returns-in_err-count : goal.returns-in_err-count
returns-in_err-count c =
    let p = err_from_is_err_and c.from_residual.result c.from_residual.ensures.1 in
    rw (p.1, p.2) (argument_faults c.args.self.now c.in_err-count.field-0.0 (ap num_of (sym c.special.ensures) ∙ sym c.in_err-count.ensures))

pub returns-then-self-count : goal.returns-then-self-count
returns-then-self-count c =
    let past : int_lt c.args.self.now.next c.in_ok-count.count ≡ false = search rules in
    argument_none c.args.self.now c.in_ok-count.count (ap num_of (sym c.special.ensures) ∙ sym c.in_ok-count.ensures) past

pub returns-in_err-argument : goal.returns-in_err-argument
returns-in_err-argument c =
    let p = err_from_is_err_and c.from_residual-in_err-argument.result c.from_residual-in_err-argument.ensures.1 in
    rw (p.1, p.2, c.in_err-argument.ensures.memory) (memory_changes _ refl refl refl (omega arith))

pub returns : goal.returns
returns c =
    let more : int_lt c.args.self.now.next c.in_ok-count.count ≡ true = search rules in
    argument_taken c.args.self.now c.in_ok-count.count (ap num_of (sym c.special.ensures) ∙ sym c.in_ok-count.ensures) more c.in_ok-argument.ensures.text (λ i e. let h : c.args.self.now.next ≡ pos i = e in search rules)
