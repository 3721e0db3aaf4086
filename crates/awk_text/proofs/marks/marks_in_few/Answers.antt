use Rattle.std.proofs.Common.{◌≡◌, ℕ, ◌++◌, List, length, get_or, drop, replicate, ap, ◌∙◌, arith}
use Rattle.std.proofs.Math.ListN.{get_or-append}
use Rattle.awk_text.proofs.MarkedPlaces.{marks_of_room}
use Rattle.awk_text.proofs.marks.marks_in_few.Goals as goal

pub returns : goal.returns
returns g c =
    let text = c.args.text.now in
    let front = c.copy_from_slice.new.self in
    let rest : List ℕ = drop (length text) (replicate 16 0) in
    let copied : front ≡ text = c.copy_from_slice.ensures.after in
    let size : length front ≡ length text = ap length copied in
    marks_of_room (g.S.Separates.separates c.args.separates.now) text (front ++ rest) 16 c.among_some.result (omega arith) (omega arith)
    (λ k lt. get_or-append front rest 0 k (omega arith) ∙ ap (λ (s : List ℕ). get_or s k 0) copied) c.among_some.ensures
