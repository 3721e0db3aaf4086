use Rattle.std.proofs.Common.{◌≡◌, ◌+◌, ◌++◌, ◌∷◌, [], suc, length, take, take-suc, sym, ap, ◌∙◌, arith, get_or, append_assoc, append-nil}
use Rattle.std.proofs.lemmas.List.{take_all}
use Rattle.awk_text.proofs.replacement.add_piece.Goals as goal

pub loop-i-init : goal.loop-i-init
loop-i-init c = sym (append-nil c.args.out.now.items)

pub loop-i-preserved : goal.loop-i-preserved
loop-i-preserved c =
    let piece = c.args.piece.now in
    let i = c.loop-i.i in
    let next : i + 1 ≡ suc i = omega arith in
    c.in_ok-push.ensures.items
    ∙ (ap (λ o. o ++ get_or piece i 0 ∷ []) c.loop-i.invariant
    ∙ (append_assoc c.args.out.now.items (take i piece) (get_or piece i 0 ∷ [])
    ∙ ap (λ l. c.args.out.now.items ++ l) (sym (ap (λ k. take k piece) next ∙ take-suc piece i 0 c.loop-i-test.true))))

pub returns-clause-added : goal.returns-clause-added
returns-clause-added c =
    let piece = c.args.piece.now in
    c.loop-i.invariant ∙ ap (λ l. c.args.out.now.items ++ l) (take_all c.loop-i.i piece (omega (arith, c.loop-i-test.false)))
