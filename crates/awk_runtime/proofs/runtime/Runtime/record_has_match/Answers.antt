use Rattle.std.proofs.Common.{◌∙◌, Ok}
use Rattle.awk_runtime.proofs.TextChanges.{room, record_tests, beside_then}
use Rattle.awk_runtime.proofs.runtime.Runtime.record_has_match.Goals as goal
use Rattle.awk_runtime.proofs.runtime.Runtime.record_has_match.Goals.{in-Some+in_default-matches_read, in_default}

pub returns-in-Some-matches_read : goal.returns-in-Some-matches_read
returns-in-Some-matches_read c =
    let m = c.args.self.now in
    record_tests (Ok c.in-Some-matches_read.holds) c.ere-spelling.ensures (room m c.matches_read.new.self m.formats m.spans) (c.as_slice.ensures ∙ c.in-Some.ensures) c.in-Some-matches_read.ensures

pub returns : goal.returns
returns c = elim c.match-text_at_hand.branch [
  | in-Some+in_default-matches_read w ↦
      let m = c.args.self.now in
      beside_then _ (room m w.matches_read.new.self m.formats m.spans) (rw w.self-is at c.made_record_has_match.ensures)
  | in_default w ↦ rw w.self-is at c.made_record_has_match.ensures
]
