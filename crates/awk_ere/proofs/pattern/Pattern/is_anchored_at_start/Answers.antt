use Rattle.std.proofs.Common.{◌≡◌, ℕ, ◌+◌, ◌<◌, ◌≤◌, true, false, replicate, sym, ap, ◌∙◌, subst, ⊎_elim, arith}
use Rattle.std.proofs.lemmas.Bool.{cases_lt}
use Rattle.awk_ere.specs.support.Layout.{byte_count}
use Rattle.awk_ere.specs.support.SimulationStep.{leaves, behind, dead_positions}
use Rattle.awk_ere.specs.declared.pattern.Pattern.{Pattern}
use Rattle.awk_ere.proofs.pattern.Pattern.is_anchored_at_start.Goals as goal

abbrev Still : Pattern → ℕ → Type 0
Still p x = (leaves p (dead_positions p) false true false x ≡ false) × (behind p (dead_positions p) false true false x ≡ dead_positions p)

more : (p : Pattern) (n m : ℕ) → m ≤ n + 1 → ((x : ℕ) → x < n → Still p x) → Still p n → (x : ℕ) → x < m → Still p x
more p n m le h here x lt =
    ⊎_elim (λ below. h x below) (λ ge. let e : n ≡ x = omega arith in subst (Still p) e here) (cases_lt x n)

pub loop-byte-preserved : goal.loop-byte-preserved
loop-byte-preserved c =
    let p = c.args.self.now in
    let x = c.loop-byte.byte in
    let blank = c.clear.ensures.positions ∙ ap (λ n. replicate n false) c.loop-byte.invariant.same.positions in
    let left = ap (λ l. leaves p l false true false x) (sym blank) ∙ sym c.step.ensures.leaves ∙ c.if-step.false in
    let all = ap (λ l. behind p l false true false x) (sym blank) ∙ sym c.step.ensures.positions ∙ c.is_dead.ensures c.if-not-is_dead.false ∙ ap (λ n. replicate n false) c.step.ensures.same.positions in
    record {
      same = c.step.ensures.same;
      still = more p x (x + 1) (omega arith) c.loop-byte.invariant.still (left, all);
    }

pub returns-else-not-is_dead-clause-still : goal.returns-else-not-is_dead-clause-still
returns-else-not-is_dead-clause-still c = λ _.
    let p = c.args.self.now in
    let x = c.loop-byte.byte in
    let blank = c.clear.ensures.positions ∙ ap (λ n. replicate n false) c.loop-byte.invariant.same.positions in
    let left = ap (λ l. leaves p l false true false x) (sym blank) ∙ sym c.step.ensures.leaves ∙ c.if-step.false in
    let all = ap (λ l. behind p l false true false x) (sym blank) ∙ sym c.step.ensures.positions ∙ c.is_dead.ensures c.if-not-is_dead.false ∙ ap (λ n. replicate n false) c.step.ensures.same.positions in
    more p x byte_count (omega arith) c.loop-byte.invariant.still (left, all)
