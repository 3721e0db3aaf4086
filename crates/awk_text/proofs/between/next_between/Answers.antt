use Rattle.std.proofs.Common.{◌<◌, length, sym, ◌∙◌, inl, inr, arith}
use Rattle.std.proofs.lemmas.Bool.{cases_lt, eq-eqb, false≢true}
use Rattle.awk_text.proofs.NextField.{ere_found, ere_ends}
use Rattle.awk_text.proofs.between.next_between.Goals as goal

pub returns-in-Some-clause-piece : goal.returns-in-Some-clause-piece
returns-in-Some-clause-piece c = λ t means.
    let text = c.args.text.now in
    let some : 0 < length text = elim (cases_lt 0 (length text)) [
      | inl lt ↦ lt
      | inr le ↦ absurd (false≢true (sym c.if-is_empty.false ∙ (c.is_empty.ensures ∙ eq-eqb (length text) 0 (omega arith))))
    ] in
    ere_found t text c.args.from c.in-Some.found means.0 some c.if-from-text.false (c.in-Some.ensures.found t means)

pub returns-in-None-clause-piece : goal.returns-in-None-clause-piece
returns-in-None-clause-piece c = λ t means.
    let text = c.args.text.now in
    let some : 0 < length text = elim (cases_lt 0 (length text)) [
      | inl lt ↦ lt
      | inr le ↦ absurd (false≢true (sym c.if-is_empty.false ∙ (c.is_empty.ensures ∙ eq-eqb (length text) 0 (omega arith))))
    ] in
    ere_ends t text c.args.from means.0 some c.if-from-text.false (c.in-None.ensures.found t means)
