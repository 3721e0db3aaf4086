-- The search is for the longest run.
use Rattle.std.proofs.Common.{◌≡◌, ◌<◌, length, sym, ◌∙◌, subst, arith}
use Rattle.std.proofs.lemmas.Option.{same_Some}
use Rattle.awk_ere.proofs.RequiredRun.{run_stands}
use Rattle.awk_ere.proofs.pattern.Pattern.required_finder.Goals as goal

pub returns-clause-required : goal.returns-clause-required
returns-clause-required c needle is =
    let bytes = c.in_ok-bytes.bytes.items in
    let searched : bytes ≡ needle = sym c.deref.ensures.value ∙ sym c.new.ensures ∙ sym c.in_ok-into_owned.ensures ∙ same_Some _ _ is in
    let some : 0 < length bytes = omega (arith, c.if-len-lt-LEAST.false) in
    run_stands c.args.self.now needle (sym searched ∙ c.in_ok-bytes.ensures.run) (subst (λ l. 0 < length l) searched some)
