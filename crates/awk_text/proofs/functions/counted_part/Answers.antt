use Rattle.std.proofs.Common.{◌≡◌, ℕ, ◌-◌, List, length, take, drop, min, ap, ◌∙◌, arith}
use Rattle.std.specs.Prelude.{max, slice_range, ◌+ℤ◌}
use Rattle.std.proofs.lemmas.Int.{to_z-of_z}
use Rattle.std.proofs.lemmas.List.{take_min, drop_min, length-drop}
use mir.Syntax.{w128}
use mir.Val.{to_z, of_z}
use Rattle.awk_text.specs.definitions.Functions.{positions_before}
use Rattle.awk_text.proofs.functions.counted_part.Goals as goal

-- a part that is cut off at the end of the text is the same part
cut_off : (text : List ℕ) (first last start end : ℕ) → start ≡ min first (length text) → end ≡ max (min last (length text)) start → slice_range text start end ≡ slice_range text first last
cut_off text first last start end begins ends =
    let lasts : end - start ≡ min (last - first) (length (drop first text)) = omega (arith, length-drop first text) in
    ap (λ k. take (end - start) (drop k text)) begins ∙ (ap (take (end - start)) (drop_min first text) ∙ (ap (λ k. take k (drop first text)) lasts ∙ take_min (last - first) (drop first text)))

pub returns-clause-bytes : goal.returns-clause-bytes
returns-clause-bytes c =
    let text = c.args.text.now in
    let start = c.args.start in
    let count = c.args.count in
    let n = length text in
    let same = to_z-of_z w128 start c.ranges.start in
    let begins = c.bytes_before-first.ensures.value ∙ ap (λ z. min (positions_before z) n) same in
    let last = c.bytes_before_end-end.ensures ∙ (ap (λ z. min (positions_before (z +ℤ to_z w128 (of_z w128 count))) n) same ∙ ap (λ z. min (positions_before (start +ℤ z)) n) (to_z-of_z w128 count c.ranges.count)) in
    cut_off text (positions_before start) (positions_before (start +ℤ count)) c.bytes_before-first.result c.max.result begins (c.max.ensures ∙ ap (λ k. max k c.bytes_before-first.result) last)
