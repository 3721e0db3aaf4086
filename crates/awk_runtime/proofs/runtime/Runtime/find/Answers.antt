use Rattle.awk_value.specs.Values.{str_of}
use Rattle.awk_semantics.specs.Operators.{pattern_in}
use Rattle.awk_functions.specs.support.Matched.{found}
use Rattle.awk_runtime.proofs.TextChanges.{room, lift_spelled}
use Rattle.awk_runtime.proofs.runtime.Runtime.find.Goals as goal

pub returns : goal.returns
returns c =
    let m = c.args.self.now in
    lift_spelled (λ p. found (pattern_in p) (str_of c.args.text.now)) c.operand-pattern.ensures.spelling (room m c.find.new.self m.formats m.spans) c.find.ensures
