use Rattle.std.proofs.Common.{ℕ, List, subst}
use Rattle.awk_evaluator.specs.Appending.{Joins}
use Rattle.awk_evaluator.proofs.Keys.{joined_found}
use Rattle.awk_evaluator.proofs.machine.Machine.at_text.Goals as goal

pub returns-clause-some : goal.returns-clause-some
returns-clause-some g c =
    let joins = subst (λ (l : List ℕ). Joins c.args.parts.now c.args.self.now l c.join_parts.new.text.items) c.requires (c.join_parts.ensures.joined c.if-not-join_parts.false) in
    record {
      key = _;
      at_hand = joined_found c.args.self.now c.args.parts.now joins;
      acted = rw (c.as_slice.ensures.value, c.join_parts.ensures.same) at c.act.ensures;
    }
