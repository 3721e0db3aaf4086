use Rattle.std.proofs.Common.{◌+◌, ◌++◌, refl, sym, ◌∙◌, length, arith}
use Rattle.awk_text.specs.declared.span.Span.{Span}
use Rattle.awk_text.specs.definitions.Fields.{kind_pieces_from}
use Rattle.awk_text.specs.definitions.Pieces.{stretches_at}
use Rattle.awk_text.specs.support.MarksLeft.{IsNextPlace}
use Rattle.awk_text.specs.support.Stretch.{is_kind_at}
use Rattle.awk_text.proofs.NextField.{next_kind_field}
use Rattle.awk_text.proofs.PiecesFound.{pieces_more, spans_more}
use Rattle.awk_text.proofs.splitter.find_at_bytes.Goals as goal

pub loop-marks-init : goal.loop-marks-init
loop-marks-init g c = record {
  within = λ all. all;
  pieces = refl;
  here = refl;
  inside = omega arith;
  end = omega (arith, c.behind-marks.ensures.end);
  left = c.behind-marks.ensures.left (is_kind_at (g.S.Separates.separates c.args.separates.now) c.args.text.now);
}

pub returns-then-end-text-clause-pieces : goal.returns-then-end-text-clause-pieces
returns-then-end-text-clause-pieces g c =
    let text = c.args.text.now in
    let kind = g.S.Separates.separates c.args.separates.now in
    let start = c.loop-marks.start in
    let end = c.next-end.result in
    let span : Span = record { start = start; end = end } in
    let before = c.loop-marks.invariant in
    pieces_more text c.loop-marks.spans.items c.push.new.self.items span (kind_pieces_from kind text c.loop-marks.rest) (kind_pieces_from kind text (end + 1)) (stretches_at text c.args.spans.now.items ++ kind_pieces_from kind text c.args.rest.now) c.in_ok-push.ensures.items
    (next_kind_field kind text c.loop-marks.rest start end (sym c.is_empty.ensures ∙ c.if-is_empty.false) before.here (c.next-end.ensures.next start before.left)) before.pieces

pub loop-marks-preserved : goal.loop-marks-preserved
loop-marks-preserved g c =
    let text = c.args.text.now in
    let kind = g.S.Separates.separates c.args.separates.now in
    let start = c.loop-marks.start in
    let end = c.next-end.result in
    let old = c.loop-marks.spans.items in
    let new = c.push.new.self.items in
    let span : Span = record { start = start; end = end } in
    let added = c.in_ok-push.ensures.items in
    let before = c.loop-marks.invariant in
    let is : IsNextPlace (is_kind_at kind text) (length text) start end = c.next-end.ensures.next start before.left in
    record {
      within = λ all. spans_more text old new span added (is.high, is.within) (before.within all);
      pieces = pieces_more text old new span (kind_pieces_from kind text c.loop-marks.rest) (kind_pieces_from kind text (end + 1)) (stretches_at text c.args.spans.now.items ++ kind_pieces_from kind text c.args.rest.now) added
          (next_kind_field kind text c.loop-marks.rest start end (sym c.is_empty.ensures ∙ c.if-is_empty.false) before.here is) before.pieces;
      here = refl;
      inside = omega (arith, is.within, c.if-end-text.false);
      end = c.next-end.ensures.within;
      left = c.next-end.ensures.left start before.left (omega (arith, is.within, c.if-end-text.false));
    }
