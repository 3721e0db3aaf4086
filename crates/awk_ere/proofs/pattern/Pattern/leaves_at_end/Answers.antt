use Rattle.std.proofs.Common.{◌≡◌, ◌∙◌, ◌+◌, refl, sym, ap, set}
use Rattle.std.specs.Prelude.{if◌then◌else◌}
use Rattle.awk_ere.specs.support.Layout.{dead_state, end_of_text, match_flag}
use Rattle.awk_ere.proofs.TableKept.{end_table}
use Rattle.awk_ere.proofs.pattern.Pattern.leaves_at_end.Goals as goal
use Rattle.awk_ere.proofs.pattern.Pattern.leaves_at_end.Goals.{then-leaves, else-leaves}

pub returns-clause-same : goal.returns-clause-same
returns-clause-same c =
    let p = c.args.self.now in
    let old = c.args.scratch.now.table in
    let same = c.step_from-leaves.ensures.table in
    let left = c.step_from-leaves.result in
    let entry : c.if-leaves.set ≡ (if left then match_flag else dead_state) =
    elim c.if-leaves.branch [
      | then-leaves w ↦ w.set-is ∙ ap (λ b. if b then match_flag else dead_state) (sym w.if-leaves.true)
      | else-leaves w ↦ w.set-is ∙ ap (λ b. if b then match_flag else dead_state) (sym w.if-leaves.false)
    ] in
    record {
      position_set = c.step_from-leaves.ensures.same.position_set;
      table = end_table p old c.set.new.self c.args.state c.args.entering left (c.args.state + end_of_text) c.if-leaves.set c.requires.same.table c.requires.known
          (λ st cs h. c.step_from-leaves.ensures.leaves st cs h) refl entry
          (c.set.ensures.rows ∙ ap (λ a. a.rows.items) same) (c.set.ensures.count ∙ ap (λ a. a.count) same) (c.set.ensures.limit ∙ ap (λ a. a.limit) same)
          (c.set.ensures.unanchored ∙ ap (λ a. if c.args.entering then set a.unanchored.items (c.args.state + end_of_text) c.if-leaves.set else a.unanchored.items) same)
          (c.set.ensures.anchored ∙ ap (λ a. if c.args.entering then a.anchored.items else set a.anchored.items (c.args.state + end_of_text) c.if-leaves.set) same);
      anchored_at_start = c.step_from-leaves.ensures.same.anchored_at_start;
      begins_at_start = c.step_from-leaves.ensures.same.begins_at_start;
      literal = c.step_from-leaves.ensures.same.literal;
      first_bytes = c.step_from-leaves.ensures.same.first_bytes;
      required = c.step_from-leaves.ensures.same.required;
    }
