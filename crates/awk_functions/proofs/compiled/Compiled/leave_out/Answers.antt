use Rattle.std.proofs.Common.{ap, ◌∙◌, Ok, sym}
use Rattle.awk_functions.proofs.PatternFinds.{first_exchanged, nothing_exchanged, left_out, none_left_out, made_of}
use Rattle.awk_functions.proofs.compiled.Compiled.leave_out.Goals as goal

pub returns-in_default-clause-exchanged : goal.returns-in_default-clause-exchanged
returns-in_default-clause-exchanged c =
    let kept = c.args.self.now in
    nothing_exchanged c.law_of_exchanges.ensures.replaced kept.text c.args.text.now _ kept.pattern _ kept.means
    (λ t m. none_left_out t c.args.text.now (rw c.as_slice.ensures at (c.in_default.ensures {u = tt}).found t m))

pub returns-clause-exchanged : goal.returns-clause-exchanged
returns-clause-exchanged c =
    let kept = c.args.self.now in
    first_exchanged c.law_of_exchanges.ensures.replaced kept.text c.args.text.now _ kept.pattern _ kept.means _
    (λ t m. left_out t c.args.text.now c.in-Some.found (rw c.as_slice.ensures at c.in-Some.ensures.found t m))
    ∙ ap (λ text. Ok (made_of 1 text)) (sym c.in_ok-text.ensures)
