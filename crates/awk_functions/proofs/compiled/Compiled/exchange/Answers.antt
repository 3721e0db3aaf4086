use Rattle.std.proofs.Common.{ap, ◌∙◌, Ok, sym}
use Rattle.awk_functions.proofs.PatternFinds.{exchanged_some, exchanged_none, made_of}
use Rattle.awk_functions.proofs.compiled.Compiled.exchange.Goals as goal

pub returns-in_ok-from_vec-in-Some-clause-exchanged : goal.returns-in_ok-from_vec-in-Some-clause-exchanged
returns-in_ok-from_vec-in-Some-clause-exchanged c =
    let kept = c.args.self.now in
    exchanged_some c.law_of_exchanges.ensures.replaced kept.text c.args.text.now c.args.replacement.now kept.pattern c.args.all kept.means
    c.in-Some.made c.in_ok-made.field-0 c.in-Some.is c.in_ok-made.ensures.replaced
    ∙ ap (λ text. Ok (made_of c.in-Some.made.count text)) (sym c.in_ok-from_vec-in-Some.ensures)

pub returns-in-None-clause-exchanged : goal.returns-in-None-clause-exchanged
returns-in-None-clause-exchanged c =
    let kept = c.args.self.now in
    exchanged_none c.law_of_exchanges.ensures.replaced kept.text c.args.text.now c.args.replacement.now kept.pattern c.args.all kept.means
    c.in_ok-made.field-0 c.in-None.is c.in_ok-made.ensures.replaced
