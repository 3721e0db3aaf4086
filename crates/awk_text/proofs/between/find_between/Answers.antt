use Rattle.std.proofs.Common.{false, refl, arith}
use Rattle.awk_text.specs.definitions.Fields.{ere_pieces_from}
use Rattle.awk_text.specs.definitions.Separators.{ere}
use Rattle.awk_text.proofs.NextField.{pieces_from-past}
use Rattle.awk_text.proofs.PiecesFound.{pieces_more, pieces_ended, spans_more}
use Rattle.awk_text.proofs.between.find_between.Goals as goal

pub loop-scratch-init : goal.loop-scratch-init
loop-scratch-init c = record {
  within = λ all. all;
  same = c.requires;
  failures = c.failures_for-failures.ensures c.args.text.now;
  pieces = λ t means. refl;
}

pub loop-scratch-preserved : goal.loop-scratch-preserved
loop-scratch-preserved c =
    let text = c.args.text.now in
    let old = c.loop-scratch.spans.items in
    let new = c.push.new.self.items in
    let found = c.in-Some.found in
    let added = c.in_ok-push-in-Some.ensures.items in
    let before = c.loop-scratch.invariant in
    record {
      within = λ all. spans_more text old new found.span added c.in-Some.ensures.further.0 (before.within all);
      same = c.next_between.ensures.same;
      failures = c.next_between.ensures.failures;
      pieces = λ t means. pieces_more text old new found.span (ere_pieces_from t text c.loop-scratch.rest) (ere_pieces_from t text found.rest) _ added (c.in-Some.ensures.piece t means) (before.pieces t means);
    }

pub returns-in-None-clause-pieces : goal.returns-in-None-clause-pieces
returns-in-None-clause-pieces c = λ t means.
    let text = c.args.text.now in
    pieces_ended text c.loop-scratch.spans.items (ere_pieces_from t text c.loop-scratch.rest) _ _ (c.in-None.ensures.piece t means) (pieces_from-past (ere t) false text _ (omega arith)) (c.loop-scratch.invariant.pieces t means)
