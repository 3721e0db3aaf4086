use Rattle.std.proofs.Common.{◌≡◌, ◌+◌, ◌<◌, length, sym, ap, ◌∙◌, subst, ⊎_elim, arith, get_or}
use Rattle.std.specs.Prelude.{if◌then◌else◌}
use Rattle.std.proofs.lemmas.Bool.{cases_lt, ne_eqb}
use Rattle.awk_ere.specs.definitions.Tree.{Matches}
use Rattle.awk_ere.specs.support.Layout.{first_state, start_state, dead_state}
use Rattle.awk_ere.proofs.CursorKept.{none_at}
use Rattle.awk_ere.proofs.pattern.Pattern.next_candidate.Goals as goal

pub loop-k-init : goal.loop-k-init
loop-k-init c = λ t means i j ge lt m.
    let s = c.args.text.now in
    let k = c.args.from in
    let tb = c.args.scratch.now.table in
    let x = get_or s k 0 in
    let same : i ≡ k = omega (arith, ge, lt) in
    let within : k < length s = omega (arith, c.if-from-text.false, c.requires.within) in
    let entry = ap (λ v. get_or tb.unanchored.items (v + x) 0) (sym c.first_state.ensures) ∙ ap (λ l. get_or l (c.first_state.result + x) 0) (sym c.as_slice-transitions.ensures.value) ∙ c.if-transitions-first_state-ne-DEAD.false in
    none_at c.args.self.now tb c.requires.same.table s t means k within (omega (arith, c.type_inv.text k)) entry j (subst (λ a. Matches s t a j) same m)

pub loop-k-preserved : goal.loop-k-preserved
loop-k-preserved c = λ t means i j ge lt m.
    let s = c.args.text.now in
    let k = c.loop-k.k in
    let tb = c.args.scratch.now.table in
    let x = get_or s k 0 in
    ⊎_elim
    (λ below. c.loop-k.invariant t means i j ge below m)
    (λ at.
    let same : i ≡ k = omega (arith, at, lt) in
    let first : first_state k ≡ dead_state = ap (λ b. if b then start_state else dead_state) (ne_eqb k 0 (λ zero. absurd (omega (arith, zero, c.loop-k.auto.k)))) in
    let entry = ap (λ v. get_or tb.unanchored.items (v + x) 0) first ∙ ap (λ l. get_or l (dead_state + x) 0) (sym c.as_slice-transitions.ensures.value) ∙ c.if-transitions-text-ne-DEAD.false in
    none_at c.args.self.now tb c.requires.same.table s t means k c.loop-k-test.true (omega (arith, c.type_inv.text k)) entry j (subst (λ a. Matches s t a j) same m))
    (cases_lt i k)
