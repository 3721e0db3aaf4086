use Rattle.std.proofs.Common.{rules, ◌≡◌, pos, to_z, length, ap, sym, ◌∙◌, arith}
use Rattle.std.proofs.lemmas.Int.{ints}
use Rattle.std.proofs.lemmas.List.{length-map}
use mir.Syntax.{w128}
use Rattle.awk_text.specs.Pieces.{stretch_at, stretches_at}
use Rattle.awk_value.specs.Values.{str_of}
use Rattle.awk_runtime.proofs.Steps.{still}
use Rattle.awk_runtime.proofs.TextChanges.{memory_beside, split_ends, split_ends_later, split_gives}
use Rattle.std.proofs.lemmas.Result.{err_from_is_err_and}
use Rattle.awk_runtime.proofs.runtime.Runtime.split.Goals as goal

pub returns-in_err-text : goal.returns-in_err-text
returns-in_err-text c =
    let p = err_from_is_err_and c.from_residual.result c.from_residual.ensures.1 in
    rw (p.1, p.2, c.in_err-text.ensures.fault) (memory_beside _ (still c.args.self.now))

pub returns-in_err-find_pieces : goal.returns-in_err-find_pieces
returns-in_err-find_pieces c =
    let p = err_from_is_err_and c.from_residual-in_err-find_pieces.result c.from_residual-in_err-find_pieces.ensures.1 in
    rw (p.1, p.2) (split_ends c.args.array (str_of c.args.text.now) _ (rw (c.as_slice.ensures, c.in_ok-text.ensures.text) at c.in_err-find_pieces.ensures.pieces))

pub returns-in_err-fill_at : goal.returns-in_err-fill_at
returns-in_err-fill_at c =
    let p = err_from_is_err_and c.from_residual-in_err-fill_at.result c.from_residual-in_err-fill_at.ensures.1 in
    rw (p.1, p.2) (split_ends_later c.args.array (str_of c.args.text.now) _ (rw (c.as_slice.ensures, c.in_ok-text.ensures.text) at c.in_ok-find_pieces.ensures.pieces) (rw c.in_ok-text.ensures.text at c.in_err-fill_at.ensures))

pub returns : goal.returns
returns c =
    let spans = c.find_pieces.new.self.spans.items in
    let pieces = stretches_at (str_of c.args.text.now) spans in
    let counted : c.len-count.result ≡ length spans = search rules in
    let passed : to_z w128 c.len-count.result ≡ pos c.len-count.result = omega (arith, ints) in
    let count : to_z w128 c.len-count.result ≡ pos (length pieces) = passed ∙ ap pos (counted ∙ sym (length-map spans (stretch_at (str_of c.args.text.now)))) in
    rw count (split_gives c.args.array (str_of c.args.text.now) _ (rw (c.as_slice.ensures, c.in_ok-text.ensures.text) at c.in_ok-find_pieces.ensures.pieces) (rw c.in_ok-text.ensures.text at c.in_ok-fill_at.ensures))
