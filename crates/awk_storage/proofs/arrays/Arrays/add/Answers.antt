use Rattle.std.proofs.Common.{[], ◌∷◌, ◌++◌, ap, ◌∙◌, List, length, ◌<◌, ◌+◌, ◌≤◌, arith}
use Rattle.awk_value.specs.Arrays.{Array}
use Rattle.awk_storage.proofs.TableLemmas.{rest_empty, one_more}
use Rattle.awk_storage.proofs.arrays.Arrays.add.Goals as goal

pub invariant_of-self : goal.invariant_of-self
invariant_of-self c =
    let b = c.self.inside in
    let low : b.live < length b.tables.items = omega (arith, c.if-self-as_slice.true, ap length c.as_slice.ensures.value) in
    let within : b.live + 1 ≤ length b.tables.items = omega arith in
    (within, rest_empty b.tables.items b.live c.self.invariant.1)

pub returns-then-self-as_slice-clause-added : goal.returns-then-self-as_slice-clause-added
returns-then-self-as_slice-clause-added c =
    let b = c.self.inside in
    let low : b.live < length b.tables.items = omega (arith, c.if-self-as_slice.true, ap length c.as_slice.ensures.value) in
    one_more b.tables.items b.live low c.self.invariant.1 ∙ ap (λ (arrays : List Array). arrays ++ [] ∷ []) c.self.view_is
