use Rattle.std.proofs.Common.{rules, ◌≡◌, ◌≤◌, ◌+◌, ◌-◌, ◌++◌, ℕ, List, length, take, drop, slice_range, ap, ◌∙◌, arith}
use Rattle.std.proofs.Math.Seq.{take-append-add}
use Rattle.std.proofs.lemmas.List.{take-take}
use Rattle.awk_runtime.proofs.lines.append_stretch.Goals as goal

-- what is left of more bytes
left : (line text all new : List ℕ) (start end len : ℕ) → end - start ≤ 16 → len ≡ length line → all ≡ line ++ slice_range text start (start + 16) → new ≡ take (len + (end - start)) all → new ≡ line ++ slice_range text start end
left line text all new start end len few long appended cut =
    cut ∙ ap (λ l. take (len + (end - start)) l) appended ∙ ap (λ n. take (n + (end - start)) (line ++ slice_range text start (start + 16))) long
    ∙ take-append-add line (slice_range text start (start + 16)) (end - start) ∙ ap (λ l. line ++ l) (take-take (end - start) ((start + 16) - start) (drop start text) (omega (arith, few)))

pub returns-in-Ok : goal.returns-in-Ok
returns-in-Ok c =
    let len : c.len-2.result ≡ length c.args.line.now.items = search rules in
    λ h. left c.args.line.now.items c.args.text.now c.extend_from_slice-2.new.self.items c.truncate.new.self.items c.args.start c.args.end c.len-2.result c.if-count-gt-FIXED.false len c.in-Ok.ensures.items c.truncate.ensures.items
