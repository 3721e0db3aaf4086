use Rattle.awk_value.specs.Values.{str_of}
use Rattle.awk_semantics.specs.Operators.{pattern_in}
use Rattle.awk_functions.specs.support.Matched.{exchanged_by}
use Rattle.awk_runtime.proofs.TextChanges.{room, lift_spelled}
use Rattle.awk_runtime.proofs.runtime.Runtime.exchange.Goals as goal

pub returns : goal.returns
returns c =
    let m = c.args.self.now in
    lift_spelled (λ p. exchanged_by c.args.all (pattern_in p) (str_of c.args.replacement.now) (str_of c.args.text.now)) c.operand-pattern.ensures.spelling (room m c.exchange.new.self m.formats m.spans) c.exchange.ensures
