use Rattle.std.proofs.Common.{sym, ap, ◌∙◌, rules}
use Rattle.std.specs.Option.{is_some}
use Rattle.std.proofs.lemmas.Bool.{false≢true}
use Rattle.awk_ere.proofs.TableKept.{table_begun}
use Rattle.awk_ere.proofs.scratch.Scratch.for_pattern.Goals as goal

pub returns-then-is_some : goal.returns-then-is_some
returns-then-is_some c = record {
  literal = c.in_ok-literal.ensures.literal;
  required = c.in_ok-required.ensures.required;
  serves = λ none. absurd (false≢true (sym (ap is_some none) ∙ sym c.is_some.ensures ∙ c.if-is_some.true));
}

pub returns : goal.returns
returns c =
    let made = c.in_ok-table.ensures in
    record {
      literal = c.in_ok-literal.ensures.literal;
      required = c.in_ok-required.ensures.required;
      serves = λ _. record {
        position_set = c.is_anchored_at_start-anchored_at_start.ensures.same;
        table = table_begun c.args.pattern.now c.in_ok-table.table c.len-count.result (search rules) made.count made.limit made.rows made.unanchored made.anchored;
        anchored_at_start = c.is_anchored_at_start-anchored_at_start.ensures.still;
        begins_at_start = c.is_anchored_at_start-anchored_at_start.ensures.begins;
        literal = c.in_ok-literal.ensures.literal;
        first_bytes = λ x lt e. absurd (false≢true (sym e));
        required = c.in_ok-required.ensures.required;
      };
    }
